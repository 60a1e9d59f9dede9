-- Live blocks of whole pages: the pages that they have, and the block that a page is of.
use Rattle.std.proofs.Common.{◌≡◌, ℕ, ◌+◌, ◌<◌, ◌≤◌, ◌⊎◌, inl, inr, Bool, true, false, ◌==◌, if◌then◌else◌, List, [], ◌∷◌, map, Option, Some, None, refl, sym, ap, ◌∙◌, subst, arith}
use Rattle.std.specs.List.{find, flat_map, list_any, AllByRecursion}
use Rattle.std.proofs.lemmas.Bool.{true≢false, cases_Bool, cases_eq, cases_lt, eq-eqb, eqb-true, ne_eqb}
use mathlib.Core.Logic.{⊎_elim}
use Rattle.om_geom.specs.Addresses.{address_of, page_at}
use Rattle.om_geom.specs.ClassLaws.{class_of-is_class, stride-at_least_16}
use Rattle.om_geom.specs.Classes.{data_pages}
use Rattle.om_geom.specs.FitLaws.{find-passes}
use Rattle.om_model.specs.Pool.InUse.{Chunk, Pages, Guard, Use, data_of, guard_of, use_of_place, uses_of_pages, uses_by_class, uses_of_block, uses, touches, page_kind}
use Rattle.om_model.specs.Pool.Rules.{Rules, size_class, guard_pages, block_pages}
use Rattle.om_model.specs.Pool.Standing.{block_at}
use Rattle.om_model.specs.Pool.State.{State, delayed}
use Rattle.om_model.specs.Pool.WellFormed.{EachPair}
use Rattle.om_model.specs.declared.block.Block.{Block}
use Rattle.om_model.proofs.Each.{all-weaker, all-both, all-first, all-find, any-passing, pairs-first, pairs-second, pairs-across}
use Rattle.om_model.proofs.Flat.{all-flat}
use Rattle.om_model.proofs.Malloc.{guard_count, pages-uses, some-pages}
use Rattle.om_model.proofs.PageKinds.{all-have}
use Rattle.om_model.proofs.Sound.{IsPlaced, IsSound, IsWhole, GoTogether, shape-begins, touches-first, touches-whole, whole-touched}
use Rattle.om_pool.specs.Tables.{block_on}

-- ---- no two live blocks begin at one address

-- what a block has first, with what is so of all that it has
record Head (P : Use → Type 0) (address : ℕ) : Type 0 where
  one : Use
  first : (one.extent).first ≡ address
  some : 0 < (one.extent).len
  holds : P one

head : (rules : Rules) (P : Use → Type 0) (block : Block) (class : Option ℕ) → size_class rules block.size ≡ class → AllByRecursion P (uses_by_class rules block class) → Head P block.address
head rules P block (Some class) is all =
    record { one = use_of_place (record { address = block.address; class = class }); first = refl; some = omega (arith, stride-at_least_16 class (class_of-is_class block.size rules.options.canary class is)); holds = all.0 }
head rules P block None none all =
    record { one = record { extent = data_of block; kind = Pages }; first = refl; some = omega (arith, some-pages rules block.size none); holds = all.0 }

abbrev pub BeginApart : Block → Block → Type 0
BeginApart a b = a.address ≡ b.address → ⊥

begin-apart : (rules : Rules) (live : List Block) → EachPair GoTogether (flat_map (uses_of_block rules) live) → EachPair BeginApart live
begin-apart rules [] pairs = tt
begin-apart rules (x ∷ xs) pairs =
    let f = uses_of_block rules in
    let P : Use → Type 0 = λ one. AllByRecursion (GoTogether one) (flat_map f xs) in
    let own = head rules P x (size_class rules x.size) refl (pairs-across GoTogether (f x) (flat_map f xs) pairs) in
    let first = own.first in
    let some = own.some in (
      all-weaker (λ y. AllByRecursion (GoTogether own.one) (f y)) (BeginApart x) xs
          (λ y all same.
          let other = head rules (GoTogether own.one) y (size_class rules y.size) refl all in
          let there = other.first in
          let has = other.some in
          let both = other.holds in
          both.apart (x.address, (omega arith, omega arith), (omega arith, omega arith)))
          (all-flat f (GoTogether own.one) xs own.holds),
      begin-apart rules xs (pairs-second GoTogether (f x) (flat_map f xs) pairs),
    )

-- a live block, however it is found, is the one at its address
found-again : (test : Block → Bool) (live : List Block) (block : Block) → EachPair BeginApart live → find test live ≡ Some block → find (λ (b : Block). b.address == block.address) live ≡ Some block
found-again test [] block pairs found = cc
found-again test (x ∷ xs) block pairs found = ⊎_elim
    (λ t. let here : Some x ≡ Some block = rw t at found in let same : x ≡ block = cc in rw (eq-eqb x.address block.address (ap (λ (b : Block). b.address) same)) here)
    (λ f.
    let there : find test xs ≡ Some block = rw f at found in
    rw (ne_eqb x.address block.address (all-find (BeginApart x) test xs block pairs.0 there)) (found-again test xs block pairs.1 there))
    (cases_Bool (test x))

-- and there is no other
same-at : (address : ℕ) (live : List Block) (block : Block) → EachPair BeginApart live → find (λ (b : Block). b.address == address) live ≡ Some block
    → AllByRecursion (λ (x : Block). (x.address == address) ≡ true → x ≡ block) live
same-at address [] block pairs found = tt
same-at address (x ∷ xs) block pairs found = ⊎_elim
    (λ t.
    let here : Some x ≡ Some block = rw t at found in
    let same : x ≡ block = cc in (
      (λ u. same),
      all-weaker (BeginApart x) (λ (y : Block). (y.address == address) ≡ true → y ≡ block) xs
          (λ y apart u. absurd (apart (eqb-true x.address address t ∙ sym (eqb-true y.address address u)))) pairs.0,
    ))
    (λ f. ((λ u. absurd (true≢false (sym u ∙ f))), same-at address xs block pairs.1 (rw f at found)))
    (cases_Bool (x.address == address))

module _ (rules : Rules) (state : State) (is : IsSound rules state) where
  abbrev live_uses : List Use
  live_uses = flat_map (uses_of_block rules) state.live

  live-apart : EachPair BeginApart state.live
  live-apart = let sound = is.sound in begin-apart rules state.live (pairs-first GoTogether live_uses (map use_of_place (delayed state.slots)) sound.together)

  pub found-live : (test : Block → Bool) (block : Block) → find test state.live ≡ Some block → block_at state block.address ≡ Some block
  found-live test block = found-again test state.live block live-apart

  pub only-at : (address : ℕ) (block : Block) → block_at state address ≡ Some block → AllByRecursion (λ (x : Block). (x.address == address) ≡ true → x ≡ block) state.live
  only-at address block = same-at address state.live block live-apart

  -- what is so of all that is in use is so of what a live block has
  pub of-found : (P : Use → Type 0) (test : Block → Bool) (block : Block) → find test state.live ≡ Some block → AllByRecursion P (uses rules state) → AllByRecursion P (uses_of_block rules block)
  of-found P test block found all =
      all-find (λ other. AllByRecursion P (uses_of_block rules other)) test state.live block
      (all-flat (uses_of_block rules) P state.live (all-first P live_uses (map use_of_place (delayed state.slots)) all)) found

-- ---- the pages of a block

-- data pages, or its guard, or others
abbrev pub Spot : Rules → ℕ → ℕ → ℕ → Type 0
Spot rules size first page =
    ((first ≤ page) × (page < first + data_pages size)) ⊎ (((rules.options.guard ≡ true) × (page ≡ first + data_pages size)) ⊎ ((page < first) ⊎ (first + block_pages rules size ≤ page)))

pub spot : (rules : Rules) (size first page : ℕ) → Spot rules size first page
spot rules size first page = ⊎_elim
    (λ below. inr (inr (inl below)))
    (λ low. ⊎_elim
    (λ high. inl (low, high))
    (λ past. inr (by rules.options.guard refl past))
    (cases_lt page (first + data_pages size)))
    (cases_lt page first)
  where
    by : (guards : Bool) → rules.options.guard ≡ guards → first + data_pages size ≤ page → ((rules.options.guard ≡ true) × (page ≡ first + data_pages size)) ⊎ ((page < first) ⊎ (first + block_pages rules size ≤ page))
    by true is past =
        let count : guard_pages rules ≡ 1 = ap guard_count is in
        ⊎_elim (λ same. inl (is, same)) (λ ne. inr (inr (omega arith))) (cases_eq page (first + data_pages size))
    by false is past = let count : guard_pages rules ≡ 0 = ap guard_count is in inr (inr (omega arith))

abbrev pub front : Block → Use
front block = record { extent = data_of block; kind = Pages }

abbrev pub guard : Block → Use
guard block = record { extent = guard_of block; kind = Guard }

module _ (rules : Rules) (block : Block) (none : size_class rules block.size ≡ None) where
  own : uses_of_block rules block ≡ uses_of_pages rules block
  own = pages-uses rules block.size none block.address block.site

  -- what is so of all that it has is so of its data pages and of its guard
  module _ (P : Use → Type 0) (all : AllByRecursion P (uses_of_block rules block)) where
    pub of-data : P (front block)
    of-data = (subst (AllByRecursion P) own all).0

    pub of-guard : rules.options.guard ≡ true → P (guard block)
    of-guard is = (subst (λ g. AllByRecursion P (if g then guard block ∷ [] else [])) is (subst (AllByRecursion P) own all).1).0

module _ (rules : Rules) (block : Block) (first : ℕ) (none : size_class rules block.size ≡ None) (at : block.address ≡ address_of first) where
  abbrev whole-front : IsWhole (front block)
  whole-front = record { first = first; count = data_pages block.size; some = some-pages rules block.size none; first_is = at; len_is = refl; kind_is = tt }

  abbrev whole-guard : IsWhole (guard block)
  whole-guard = record { first = first + data_pages block.size; count = 1; some = omega arith; first_is = omega (arith, at); len_is = refl; kind_is = tt }

  pub data-touched : (page : ℕ) → first ≤ page → page < first + data_pages block.size → touches page (front block) ≡ true
  data-touched page low high = touches-whole (front block) whole-front page low high

  pub guard-touched : (page : ℕ) → page ≡ first + data_pages block.size → touches page (guard block) ≡ true
  guard-touched page same = touches-whole (guard block) whole-guard page (omega arith) (omega arith)

  -- it touches no other page
  pub clear : (page : ℕ) → (page < first) ⊎ (first + block_pages rules block.size ≤ page) → AllByRecursion (λ one. touches page one ≡ false) (uses_of_block rules block)
  clear page out = subst (AllByRecursion (λ one. touches page one ≡ false)) (sym (own rules block none)) (
    untouched (front block) whole-front (λ low high. ⊎_elim (λ below. absurd (omega arith)) (λ past. absurd (omega arith)) out),
    by rules.options.guard refl,
  )
    where
      untouched : (one : Use) (on : IsWhole one) → (on.first ≤ page → page < on.first + on.count → ⊥) → touches page one ≡ false
      untouched one on isnt = ⊎_elim
          (λ t. let parts = whole-touched one on page t in absurd (isnt parts.0 parts.1))
          (λ f. f)
          (cases_Bool (touches page one))

      by : (guards : Bool) → rules.options.guard ≡ guards → AllByRecursion (λ one. touches page one ≡ false) (if guards then guard block ∷ [] else [])
      by true is =
          let count : guard_pages rules ≡ 1 = ap guard_count is in
          (untouched (guard block) whole-guard (λ low high. ⊎_elim (λ below. absurd (omega arith)) (λ past. absurd (omega arith)) out), tt)
      by false is = tt

  -- each of its pages is touched by what it has
  pub each-page : (P : Use → Type 0) (T : Type 0) (page : ℕ) → AllByRecursion P (uses_of_block rules block) → ((one : Use) → P one → touches page one ≡ true → T)
      → first ≤ page → page < first + block_pages rules block.size → T
  each-page P T page all step low high = ⊎_elim
      (λ on_data. step (front block) (of-data rules block none P all) (data-touched page on_data.0 on_data.1))
      (λ others. ⊎_elim
      (λ on_guard. step (guard block) (of-guard rules block none P all on_guard.0) (guard-touched page on_guard.1))
      (λ out. ⊎_elim (λ below. absurd (omega arith)) (λ past. absurd (omega arith)) out)
      others)
      (spot rules block.size first page)

-- ---- the block that a page is of

-- it is live, and the page is one of its data pages
pub record IsOfBlock (rules : Rules) (state : State) (page : ℕ) (block : Block) : Type 0 where
  pub live : block_at state block.address ≡ Some block
  pub none : size_class rules block.size ≡ None
  pub begins : block.address ≡ address_of (page_at block.address)
  pub low : page_at block.address ≤ page
  pub high : page < page_at block.address + data_pages block.size

module _ (rules : Rules) (state : State) (is : IsSound rules state) (page : ℕ) (on_pages : page_kind (uses rules state) page ≡ Some Pages) where
  abbrev Has : Use → Type 0
  Has one = (touches page one ≡ true → Some one.kind ≡ page_kind (uses rules state) page) × IsPlaced rules state.held one

  all-has : AllByRecursion Has (uses rules state)
  all-has =
      let sound = is.sound in
      all-both (λ one. touches page one ≡ true → Some one.kind ≡ page_kind (uses rules state) page) (IsPlaced rules state.held) Has (uses rules state)
      (λ one kind placed. (kind, placed)) (all-have rules state.held (uses rules state) sound page) sound.placed

  -- what touches the page isn't a chunk
  no-chunk : (class : ℕ) → Some (Chunk class) ≡ page_kind (uses rules state) page → ⊥
  no-chunk class same = let isnt : Some (Chunk class) ≡ Some Pages = same ∙ on_pages in cc

  no-guard : Some Guard ≡ page_kind (uses rules state) page → ⊥
  no-guard same = let isnt : Some Guard ≡ Some Pages = same ∙ on_pages in cc

  module _ (block : Block) where
    abbrev on_data : Type 0
    on_data = touches page (front block) ≡ true

    no-guards : (guards : Bool) → AllByRecursion Has (if guards then guard block ∷ [] else []) → AllByRecursion (λ one. touches page one ≡ true → on_data) (if guards then guard block ∷ [] else [])
    no-guards true all = ((λ touched. absurd (no-guard ((all.0).0 touched))), tt)
    no-guards false all = tt

    of-class : (class : Option ℕ) → AllByRecursion Has (uses_by_class rules block class) → list_any (touches page) (uses_by_class rules block class) ≡ true → (class ≡ None) × on_data
    of-class (Some class) all some =
        let T : Type 0 = (Some class ≡ None) × on_data in
        let one = any-passing (touches page) (λ one. touches page one ≡ true → T) (uses_by_class rules block (Some class)) some ((λ touched. absurd (no-chunk class ((all.0).0 touched))), tt) in
        one.holds one.passes
    of-class None all some =
        let one = any-passing (touches page) (λ one. touches page one ≡ true → on_data) (uses_of_pages rules block) some ((λ touched. touched), no-guards rules.options.guard all.1) in
        (refl, one.holds one.passes)

    not-class : (class : Option ℕ) → AllByRecursion Has (uses_by_class rules block class) → page_at block.address ≡ page → class ≡ None
    not-class None all at = refl
    not-class (Some class) all at =
        let one = use_of_place (record { address = block.address; class = class }) in
        let placed = (all.0).1 in
        absurd (no-chunk class ((all.0).0 (subst (λ p. touches p one ≡ true) at (touches-first one placed.shape))))

    -- a live block that begins there has whole pages
    pub begins-none : (test : Block → Bool) → find test state.live ≡ Some block → page_at block.address ≡ page → size_class rules block.size ≡ None
    begins-none test found at = not-class (size_class rules block.size) (of-found rules state is Has test block found all-has) at

    pub page-of : block_on rules state page ≡ Some block → IsOfBlock rules state page block
    page-of found =
        let test : Block → Bool = λ other. list_any (touches page) (uses_of_block rules other) in
        let all = of-found rules state is Has test block found all-has in
        let both = of-class (size_class rules block.size) all (find-passes test state.live block found) in
        let placed = (of-data rules block both.0 Has all).1 in
        let begins : block.address ≡ address_of (page_at block.address) = shape-begins (front block) placed.shape in
        let within = whole-touched (front block) (whole-front rules block (page_at block.address) both.0 begins) page both.1 in
        record { live = found-live rules state is test block found; none = both.0; begins = begins; low = within.0; high = within.1 }
