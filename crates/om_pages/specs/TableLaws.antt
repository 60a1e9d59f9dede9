-- What a table is once a run of its pages is of one kind, or once a block stands on them.
use Rattle.std.proofs.Common.{◌≡◌, ℕ, ◌+◌, ◌*◌, ◌<◌, ◌≤◌, Bool, true, false, if◌then◌else◌, List, length, get_or, set, ◌⊎◌, inl, inr, refl, sym, ap, ◌∙◌, arith}
use Rattle.std.proofs.lemmas.Bool.{and_from, and_left, and_right, le-leb, lt-leb, lt-ltb, le-ltb, cases_eq, cases_lt}
use Rattle.std.proofs.lemmas.List.{get_or_past, get_or-set_same, get_or-set_other, length-set, same_lists, get_or_default, get_or-replicate, length-replicate}
use Rattle.std.proofs.lemmas.List.FromFn.{get_or-map-range_with_len, length-map-range_with_len}
use Rattle.om_geom.specs.Fit.{is_in_run}
use Rattle.om_geom.specs.Numbers.{zone_pages}
use Rattle.om_pages.specs.Kinds.{is_absent, data_page, guard_page}
use Rattle.om_pages.specs.Tables.{kind_of, block_pages, with_run, with_data, with_block, no_pages, AreAll}
use Rattle.om_pages.specs.declared.kind.PageKind.{PageKind}
use Rattle.om_pages.specs.declared.kind.PageKind.TheVariants.{Absent}
use mathlib.Core.Logic.{⊎_elim}

-- ---- pages of a run, and others

in_run : (first n page : ℕ) → first ≤ page → page < first + n → is_in_run first n page ≡ true
in_run first n page low high = and_from _ _ (le-leb first page low) (lt-ltb page (first + n) high)

not_in_run : (first n page : ℕ) → (page < first) ⊎ (first + n ≤ page) → is_in_run first n page ≡ false
not_in_run first n page = ⊎_elim
    (λ below. and_left _ _ (lt-leb first page below))
    (λ past. and_right _ _ (le-ltb page (first + n) past))

in_run-more : (first n page : ℕ) → ¬ (page ≡ first + n) → is_in_run first n page ≡ is_in_run first (n + 1) page
in_run-more first n page ne = ⊎_elim
    (λ below. not_in_run first n page (inl below) ∙ sym (not_in_run first (n + 1) page (inl below)))
    (λ low. ⊎_elim
    (λ high. in_run first n page low high ∙ sym (in_run first (n + 1) page low (omega arith)))
    (λ past. not_in_run first n page (inr past) ∙ sym (not_in_run first (n + 1) page (inr (omega arith))))
    (cases_lt page (first + n)))
    (cases_lt page first)

module _ (table : List PageKind) (first n : ℕ) (kind : PageKind) where
  pub length-with_run : length (with_run table first n kind) ≡ length table
  length-with_run = length-map-range_with_len (λ page. if is_in_run first n page then kind else kind_of table page) 0 (length table)

  there : (page : ℕ) (other : PageKind) → page < length table → get_or (with_run table first n kind) page other ≡ (if is_in_run first n page then kind else kind_of table page)
  there page other lt = get_or-map-range_with_len (λ page. if is_in_run first n page then kind else kind_of table page) 0 (length table) page page other lt (omega arith)

  -- the pages of the run are of the kind
  pub kind_of-with_run_in : (page : ℕ) → page < length table → first ≤ page → page < first + n → kind_of (with_run table first n kind) page ≡ kind
  kind_of-with_run_in page lt low high = there page Absent lt ∙ rw (in_run first n page low high) refl

  -- all others are what they were
  pub kind_of-with_run_out : (page : ℕ) → (page < first) ⊎ (first + n ≤ page) → kind_of (with_run table first n kind) page ≡ kind_of table page
  kind_of-with_run_out page out = ⊎_elim
      (λ lt. there page Absent lt ∙ rw (not_in_run first n page out) refl)
      (λ past. get_or_past (with_run table first n kind) page Absent (omega (arith, length-with_run)) ∙ sym (get_or_past table page Absent past))
      (cases_lt page (length table))

  -- a list that is so page by page is this table
  pub with_run-is : (other : List PageKind) → length other ≡ length table
      → ((page : ℕ) → page < length table → kind_of other page ≡ (if is_in_run first n page then kind else kind_of table page))
      → other ≡ with_run table first n kind
  with_run-is other long each = same_lists other (with_run table first n kind) (long ∙ sym length-with_run)
      (λ page d lt. get_or_default other page d Absent lt ∙ each page (omega arith) ∙ sym (there page d (omega arith)))

-- ---- blocks

-- each data page tells the block, be it the first or one behind it
pub kind_of-with_block_data : (table : List PageKind) (first pages : ℕ) (guard : Bool) (page : ℕ) → page < length table → first ≤ page → page < first + pages
    → kind_of (with_block table first pages guard) page ≡ data_page first pages
kind_of-with_block_data table first pages false page there from to = kind_of-with_run_in table first pages (data_page first pages) page there from to
kind_of-with_block_data table first pages true page there from to =
    kind_of-with_run_out (with_data table first pages) (first + pages) 1 (guard_page first) page (inl to)
    ∙ kind_of-with_run_in table first pages (data_page first pages) page there from to

pub kind_of-with_block_guard : (table : List PageKind) (first pages : ℕ) → first + pages < length table → kind_of (with_block table first pages true) (first + pages) ≡ guard_page first
kind_of-with_block_guard table first pages there =
    kind_of-with_run_in (with_data table first pages) (first + pages) 1 (guard_page first) (first + pages)
    (omega (arith, length-with_run table first pages (data_page first pages))) (omega arith) (omega arith)

-- the pages before a block and behind it are what they were
pub kind_of-with_block_out : (table : List PageKind) (first pages : ℕ) (guard : Bool) (page : ℕ) → (page < first) ⊎ (first + block_pages pages guard ≤ page)
    → kind_of (with_block table first pages guard) page ≡ kind_of table page
kind_of-with_block_out table first pages false page out = kind_of-with_run_out table first pages (data_page first pages) page out
kind_of-with_block_out table first pages true page out =
    kind_of-with_run_out (with_data table first pages) (first + pages) 1 (guard_page first) page
    (⊎_elim (λ below. inl (omega arith)) (λ past. inr (omega arith)) out)
    ∙ kind_of-with_run_out table first pages (data_page first pages) page
    (⊎_elim (λ below. inl below) (λ past. inr (omega arith)) out)

-- ---- tests that pages pass

pub length-no_pages : (zones : ℕ) → length (no_pages zones) ≡ zone_pages * zones
length-no_pages zones = length-replicate (zone_pages * zones) Absent

pub no_pages-all : (zones first n : ℕ) → first + n ≤ zone_pages * zones → AreAll is_absent (no_pages zones) first n
no_pages-all zones first n within page low high =
    (omega (arith, length-no_pages zones), ap is_absent (get_or-replicate (zone_pages * zones) page Absent Absent (omega arith)))

-- a part of a run passes what its kind passes
pub with_run-all : (test : PageKind → Bool) (table : List PageKind) (first n : ℕ) (kind : PageKind) → first + n ≤ length table → test kind ≡ true
    → (at count : ℕ) → first ≤ at → at + count ≤ first + n → AreAll test (with_run table first n kind) at count
with_run-all test table first n kind within passes at count low high page from to =
    (omega (arith, length-with_run table first n kind), ap test (kind_of-with_run_in table first n kind page (omega arith) (omega arith) (omega arith)) ∙ passes)

-- ---- a run grows

pub with_run-none : (table : List PageKind) (first : ℕ) (kind : PageKind) → table ≡ with_run table first 0 kind
with_run-none table first kind = with_run-is table first 0 kind table refl
    (λ page lt. sym (rw (not_in_run first 0 page (⊎_elim (λ below. inl below) (λ past. inr (omega arith)) (cases_lt page first))) refl))

pub with_run-more : (table : List PageKind) (first n : ℕ) (kind : PageKind) → first + n < length table
    → set (with_run table first n kind) (first + n) kind ≡ with_run table first (n + 1) kind
with_run-more table first n kind within =
    let before : List PageKind = with_run table first n kind in
    with_run-is table first (n + 1) kind (set before (first + n) kind)
    (length-set before (first + n) kind ∙ length-with_run table first n kind)
    (λ page lt. ⊎_elim
    (λ same. rw (in_run first (n + 1) page (omega arith) (omega arith), same) (get_or-set_same before (first + n) kind Absent (omega (arith, length-with_run table first n kind))))
    (λ ne. get_or-set_other before (first + n) page kind Absent ne
    ∙ there table first n kind page Absent lt
    ∙ ap (λ (b : Bool). if b then kind else kind_of table page) (in_run-more first n page ne))
    (cases_eq page (first + n)))
