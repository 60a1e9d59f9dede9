-- Page tables of which one page is set again, or on which a block is set, and what is asked of one page.
use Rattle.std.proofs.Common.{◌≡◌, ℕ, ◌+◌, ◌-◌, ◌<◌, ◌≤◌, Bool, true, false, if◌then◌else◌, List, length, ◌⊎◌, inl, inr, refl, sym, ap, ◌∙◌, subst, arith}
use Rattle.std.proofs.lemmas.Bool.{cases_eq, cases_lt}
use Rattle.std.proofs.lemmas.Bool.Decides.{nat_tests}
use Rattle.std.proofs.lemmas.List.{same_lists, get_or_default}
use mathlib.Core.Logic.{⊎_elim}
use Rattle.om_geom.specs.Fit.{is_in_run}
use Rattle.om_pages.specs.Kinds.{is_held, data_page, guard_page}
use Rattle.om_pages.specs.TableLaws.{length-with_run, kind_of-with_run_in, kind_of-with_run_out, kind_of-with_block_data, kind_of-with_block_guard, kind_of-with_block_out, with_run-is}
use Rattle.om_pages.specs.Tables.{block_pages, kind_of, with_block, with_data, with_run, AreAll}
use Rattle.om_pages.specs.declared.kind.PageKind.{PageKind}
use Rattle.om_pages.specs.declared.kind.PageKind.TheVariants.{Absent, Free}

module _ (table : List PageKind) (page : ℕ) (first second : PageKind) where
  -- the second setting is the one that stays
  pub set-again : with_run (with_run table page 1 first) page 1 second ≡ with_run table page 1 second
  set-again =
      let before : List PageKind = with_run table page 1 first in
      let long = length-with_run table page 1 first in
      with_run-is table page 1 second (with_run before page 1 second) (length-with_run before page 1 second ∙ long)
      (λ other there. ⊎_elim
      (λ (here : other ≡ page).
      let inside : is_in_run page 1 other ≡ true = grind (arith, nat_tests) in
      rw inside (kind_of-with_run_in before page 1 second other (omega arith) (omega arith) (omega arith)))
      (λ ne.
      let out : (other < page) ⊎ (page + 1 ≤ other) = ⊎_elim (λ low. inl low) (λ high. inr (omega arith)) (cases_lt other page) in
      let outside : is_in_run page 1 other ≡ false = grind (arith, nat_tests) in
      rw outside (kind_of-with_run_out before page 1 second other out ∙ kind_of-with_run_out table page 1 first other out))
      (cases_eq other page))

-- a page that was set is held where its kind is
pub held-set : (table : List PageKind) (page : ℕ) (kind : PageKind) → page < length table → is_held kind ≡ true → AreAll is_held (with_run table page 1 kind) page 1
held-set table page kind there held other low high =
    let long = length-with_run table page 1 kind in (
      omega arith,
      ap is_held (kind_of-with_run_in table page 1 kind other (omega arith) low high) ∙ held,
    )

pub all-moved : (test : PageKind → Bool) (table : List PageKind) (first second : ℕ) → first ≡ second → AreAll test table second 1 → AreAll test table first 1
all-moved test table first second same all = subst (λ p. AreAll test table p 1) (sym same) all

-- ---- a block is set

-- tables that are alike page by page are one
pub tables-agree : (xs ys : List PageKind) → length xs ≡ length ys → ((page : ℕ) → page < length xs → kind_of xs page ≡ kind_of ys page) → xs ≡ ys
tables-agree xs ys long same =
    same_lists xs ys long (λ page d lt. get_or_default xs page d Absent lt ∙ same page lt ∙ sym (get_or_default ys page d Absent (omega (arith, long))))

pub length-with_block : (table : List PageKind) (first pages : ℕ) (guards : Bool) → length (with_block table first pages guards) ≡ length table
length-with_block table first pages true = length-with_run (with_data table first pages) (first + pages) 1 (guard_page first) ∙ length-with_run table first pages (data_page first pages)
length-with_block table first pages false = length-with_run table first pages (data_page first pages)

-- how many pages it has with its guard
pub guard-count : (count : ℕ) (guards : Bool) → count + (if guards then 1 else 0) ≡ block_pages count guards
guard-count count true = refl
guard-count count false = omega arith

pub data-within : (pages : ℕ) (guards : Bool) → pages ≤ block_pages pages guards
data-within pages true = omega arith
data-within pages false = omega arith

-- so many more with a guard are so many more without one
pub count-more : (few more : ℕ) (guards : Bool) → few ≤ more → block_pages few guards + (more - few) ≡ block_pages more guards
count-more few more true less = omega arith
count-more few more false less = omega arith

-- where guards are on
pub kind_of-guard : (table : List PageKind) (first pages page : ℕ) (guards : Bool) → guards ≡ true → page < length table → page ≡ first + pages → kind_of (with_block table first pages guards) page ≡ guard_page first
kind_of-guard table first pages page true is there same = ap (kind_of (with_block table first pages true)) same ∙ kind_of-with_block_guard table first pages (omega arith)
kind_of-guard table first pages page false is there same = cc

abbrev pub IsOutside : ℕ → ℕ → Bool → ℕ → Type 0
IsOutside first pages guards page = (page < first) ⊎ (first + block_pages pages guards ≤ page)

-- tables that are alike elsewhere are alike with the block
over-past : (xs ys : List PageKind) (first pages : ℕ) (guards : Bool) → length xs ≡ length ys → (page : ℕ) → page < length xs → first + pages ≤ page
    → (IsOutside first pages guards page → kind_of xs page ≡ kind_of ys page) → kind_of (with_block xs first pages guards) page ≡ kind_of (with_block ys first pages guards) page
over-past xs ys first pages false long page there past same =
    kind_of-with_block_out xs first pages false page (inr past) ∙ same (inr past) ∙ sym (kind_of-with_block_out ys first pages false page (inr past))
over-past xs ys first pages true long page there past same = ⊎_elim
    (λ at.
    ap (kind_of (with_block xs first pages true)) at ∙ kind_of-with_block_guard xs first pages (omega arith)
    ∙ sym (ap (kind_of (with_block ys first pages true)) at ∙ kind_of-with_block_guard ys first pages (omega (arith, long))))
    (λ ne.
    let behind : IsOutside first pages true page = inr (omega arith) in
    kind_of-with_block_out xs first pages true page behind ∙ same behind ∙ sym (kind_of-with_block_out ys first pages true page behind))
    (cases_eq page (first + pages))

pub kinds-over : (xs ys : List PageKind) (first pages : ℕ) (guards : Bool) → length xs ≡ length ys → (page : ℕ) → page < length xs
    → (IsOutside first pages guards page → kind_of xs page ≡ kind_of ys page) → kind_of (with_block xs first pages guards) page ≡ kind_of (with_block ys first pages guards) page
kinds-over xs ys first pages guards long page there same = ⊎_elim
    (λ below. kind_of-with_block_out xs first pages guards page (inl below) ∙ same (inl below) ∙ sym (kind_of-with_block_out ys first pages guards page (inl below)))
    (λ low. ⊎_elim
    (λ high. kind_of-with_block_data xs first pages guards page there low high ∙ sym (kind_of-with_block_data ys first pages guards page (omega (arith, long)) low high))
    (λ past. over-past xs ys first pages guards long page there past same)
    (cases_lt page (first + pages)))
    (cases_lt page first)

pub with_block-over : (xs ys : List PageKind) (first pages : ℕ) (guards : Bool) → length xs ≡ length ys
    → ((page : ℕ) → page < length xs → IsOutside first pages guards page → kind_of xs page ≡ kind_of ys page) → with_block xs first pages guards ≡ with_block ys first pages guards
with_block-over xs ys first pages guards long same =
    let long_xs = length-with_block xs first pages guards in
    tables-agree _ _ (long_xs ∙ long ∙ sym (length-with_block ys first pages guards)) (λ page there. let low : page < length xs = omega (arith, long_xs) in kinds-over xs ys first pages guards long page low (same page low))

-- ---- a block whose pages were made free is set anew, and begins where it did

module _ (table : List PageKind) (first old new : ℕ) (guards : Bool) where
  abbrev freed : List PageKind
  freed = with_run table first (block_pages old guards) Free

  freed-long : length freed ≡ length table
  freed-long = length-with_run table first (block_pages old guards) Free

  -- with no fewer pages, as if none had been made free
  pub set-wider : old ≤ new → with_block freed first new guards ≡ with_block table first new guards
  set-wider more = with_block-over freed table first new guards freed-long (λ page there out.
      let count = count-more old new guards more in
      kind_of-with_run_out table first (block_pages old guards) Free page (⊎_elim (λ below. inl below) (λ past. inr (omega arith)) out))

  abbrev last_count : ℕ
  last_count = old - new

  abbrev last_first : ℕ
  last_first = first + block_pages new guards

  abbrev IsLast : ℕ → Type 0
  IsLast page = (last_first ≤ page) × (page < last_first + last_count)

  last-side : (page : ℕ) → IsLast page ⊎ ((page < last_first) ⊎ (last_first + last_count ≤ page))
  last-side page = ⊎_elim (λ below. inr (inl below)) (λ low. ⊎_elim (λ high. inl (low, high)) (λ past. inr (inr past)) (cases_lt page (last_first + last_count))) (cases_lt page last_first)

  -- with fewer, as if the last ones had been made free then
  pub set-narrower : new ≤ old → with_block freed first new guards ≡ with_run (with_block table first new guards) last_first last_count Free
  set-narrower fewer =
      let count = count-more new old guards fewer in
      let set_long = length-with_block table first new guards in
      let long = length-with_block freed first new guards ∙ freed-long in
      tables-agree _ _ (long ∙ sym (length-with_run (with_block table first new guards) last_first last_count Free ∙ set_long)) (λ page lt.
      let there : page < length table = omega (arith, long) in
      ⊎_elim
      (λ (last : IsLast page).
      let low = last.0 in
      let high = last.1 in
      kind_of-with_block_out freed first new guards page (inr low)
      ∙ kind_of-with_run_in table first (block_pages old guards) Free page there (omega arith) (omega arith)
      ∙ sym (kind_of-with_run_in (with_block table first new guards) last_first last_count Free page (omega (arith, set_long)) low high))
      (λ other.
      kinds-over freed table first new guards freed-long page (omega (arith, freed-long)) (λ out.
      kind_of-with_run_out table first (block_pages old guards) Free page
      (⊎_elim (λ below. inl below) (λ behind. ⊎_elim (λ before. absurd (omega arith)) (λ past. inr (omega arith)) other) out))
      ∙ sym (kind_of-with_run_out (with_block table first new guards) last_first last_count Free page other))
      (last-side page))
