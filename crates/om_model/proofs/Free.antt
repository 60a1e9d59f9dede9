-- Free keeps states sound: a place moves from its block to a slot, a page block leaves its pages, and only pages that
-- nothing touches are given up. What stands at an address tells of the live block there.
use Rattle.std.proofs.Common.{◌≡◌, ℕ, zero, suc, ◌+◌, ◌-◌, ◌*◌, Bool, true, false, not, ◌==◌, ◌<◌, ◌≤◌, if◌then◌else◌, List, [], ◌∷◌, ◌++◌, length-set, map, Option, Some, None, slice_set, refl, sym, ap, ◌∙◌, subst, arith}
use Rattle.std.specs.List.{find, flat_map, AllByRecursion}
use Rattle.std.specs.Option.{option_map}
use Rattle.std.proofs.lemmas.Bool.{cases_Bool, cases_lt, and_from, eqb-true, not_from_false}
use mathlib.Core.Logic.{⊎_elim}
use Rattle.om_geom.specs.Addresses.{address_of, page_at, page_extent}
use Rattle.om_geom.specs.AddressLaws.{SharesByte-true, shares_byte-from}
use Rattle.om_geom.specs.Classes.{data_pages}
use Rattle.om_geom.specs.FitLaws.{find-passes}
use Rattle.om_geom.specs.Numbers.{page_size, zone_pages}
use Rattle.om_model.specs.Pool.Junk.{with_freed_pages}
use Rattle.om_model.specs.Pool.Malloc.{pages_by_class, pages_for}
use Rattle.om_model.specs.Pool.Realloc.{left_for}
use Rattle.om_model.specs.Pool.Rules.{Rules, size_class, guard_pages, block_pages}
use Rattle.om_model.specs.Pool.Runs.{Run, is_page_of}
use Rattle.om_model.specs.Pool.State.{State, delayed, drawn_more, holds, without_run, without_pages}
use Rattle.om_model.specs.Pool.InUse.{Kind, Chunk, Pages, Guard, Use, use_of_place, data_of, guard_of, uses_of_pages, uses_by_class, uses_of_block, uses, touches, is_free_page, page_kind}
use Rattle.om_model.specs.Pool.Picks.{starts_place}
use Rattle.om_model.specs.Pool.Standing.{Standing, NotHeld, FreePage, PageBlock, InPageBlock, OnGuard, LivePlace, DelayedPlace, FreePlace, Unaligned, block_at, delayed_at, in_pages, at_place, on_page, standing}
use Rattle.om_model.specs.Pool.Free.{is_surplus, kept_or_let_go, evicted, without_block, drawn_slot, slot_of, into_slot, put_off, moved_to_slot, delay, delay_unless, misuse, freed_again, without_page_block, free_at, free}
use Rattle.om_model.specs.Pool.WellFormed.{EachPair, AreAlike, AreApart, AgreeOnPages, FitsZone}
use Rattle.om_model.specs.declared.block.Block.{Block}
use Rattle.om_model.specs.declared.block.Place.{Place}
use Rattle.om_model.specs.declared.reply.Fault.{Fault}
use Rattle.om_model.proofs.Each.{Across, all-weaker, all-both, all-each, all-append, all-first, all-second, all-filter, all-find, pairs-all, pairs-weaker, pairs-second, pairs-first, pairs-across, pairs-append, pairs-filter}
use Rattle.om_model.proofs.Flat.{all-flat, all-flat_filter, pairs-flat_filter, across-left}
use Rattle.om_model.proofs.Bytes.{gone-pages, gone-bytes, freed-sound, freed_pages-sound}
use Rattle.om_model.proofs.Held.{held-filter, run-ends}
use Rattle.om_model.proofs.Sound.{IsPlaced, GoTogether, AreSound, IsSound, shape-begins, touches-first, alike-self, alike-swap, together-swap}
use Rattle.om_model.proofs.Places.{IsUntouched, HasRun, not-touched, untouched-free}
use Rattle.om_model.proofs.Malloc.{drawn_more-sound, guard_count, pages-uses, some-pages}

-- ---- slots, of which one is set

-- what waits in the slots
abbrev pub waiting : List (Option Place) → List Use
waiting slots = map use_of_place (delayed slots)

pub all-slot : (P : Use → Type 0) (new : Place) (slots : List (Option Place)) (k : ℕ) → P (use_of_place new) → AllByRecursion P (waiting slots) → AllByRecursion P (waiting (slice_set slots k (Some new)))
all-slot P new [] k here all = tt
all-slot P new (None ∷ slots) zero here all = (here, all)
all-slot P new (Some x ∷ slots) zero here all = (here, all.1)
all-slot P new (None ∷ slots) (suc k) here all = all-slot P new slots k here all
all-slot P new (Some x ∷ slots) (suc k) here all = (all.0, all-slot P new slots k here all.1)

pairs-slot : (R : Use → Use → Type 0) (new : Place) (slots : List (Option Place)) (k : ℕ) → AllByRecursion (R (use_of_place new)) (waiting slots) → AllByRecursion (λ x. R x (use_of_place new)) (waiting slots)
    → EachPair R (waiting slots) → EachPair R (waiting (slice_set slots k (Some new)))
pairs-slot R new [] k before after pairs = tt
pairs-slot R new (None ∷ slots) zero before after pairs = (before, pairs)
pairs-slot R new (Some x ∷ slots) zero before after pairs = (before.1, pairs.1)
pairs-slot R new (None ∷ slots) (suc k) before after pairs = pairs-slot R new slots k before after pairs
pairs-slot R new (Some x ∷ slots) (suc k) before after pairs = (all-slot (R (use_of_place x)) new slots k after.0 pairs.0, pairs-slot R new slots k before.1 after.1 pairs.1)

-- ---- a run of pages becomes free

-- nothing in use touches the run's pages
abbrev pub IsFreeRun : List Use → Run → Type 0
IsFreeRun used run = (page : ℕ) → is_page_of run page ≡ true → IsUntouched used page

pub run-free : (rules : Rules) (held : List ℕ) (used : List Use) (first count : ℕ) → HasRun rules held used first count → IsFreeRun used (record { first = first; count = count })
run-free rules held used first count run page within = let ends = run-ends (record { first = first; count = count }) page within in run.untouched page ends.0 ends.1

let_go-sound : (rules : Rules) (state : State) (run : Run) → IsFreeRun (uses rules state) run → IsSound rules state → IsSound rules (without_pages run state)
let_go-sound rules state run free_is is =
    let used = uses rules state in
    let sound = is.sound in
    let kept : ℕ → Bool = λ page. not (is_page_of run page) in
    let P : Use → Type 0 = λ one. (page : ℕ) → is_page_of run page ≡ true → touches page one ≡ false in
    record {
      slots = is.slots;
      zoned = is.zoned;
      ascends = pairs-filter ◌<◌ kept state.held is.ascends;
      arena = all-filter (λ p. p < zone_pages * rules.zones) kept state.held is.arena;
      pages = gone-pages state run ∙ is.pages;
      bytes = gone-bytes state run is.bytes;
      sound = record {
        placed = all-both P (IsPlaced rules state.held) (IsPlaced rules (without_run run state.held)) used
            (λ one untouched on. record {
              shape = on.shape;
              held_is = λ page touched. held-filter kept state.held page ∙ and_from _ _ (on.held_is page touched)
                  (⊎_elim
                  (λ within. absurd (not-touched page one (untouched page within) touched))
                  (λ outside. not_from_false (is_page_of run page) outside)
                  (cases_Bool (is_page_of run page)));
              there = on.there;
            })
            (all-each (λ page. is_page_of run page ≡ true) (λ page one. touches page one ≡ false) used free_is) sound.placed;
        together = sound.together;
      };
    }

pub kept_or_let_go-sound : (rules : Rules) (state : State) (run : Run) → IsFreeRun (uses rules state) run → IsSound rules state → IsSound rules ((kept_or_let_go rules state run).next)
unfolding kept_or_let_go
kept_or_let_go-sound rules state run free_is is = ⊎_elim
    (λ surplus. rw surplus (let_go-sound rules state run free_is is))
    (λ kept. rw kept is)
    (cases_Bool (is_surplus rules state))

-- the page, where it is free
one-page : (page other : ℕ) → is_page_of (record { first = page; count = 1 }) other ≡ true → page ≡ other
one-page page other within =
    let ends = run-ends (record { first = page; count = 1 }) other within in
    let low = ends.0 in
    let high = ends.1 in
    omega arith

evicted-sound : (rules : Rules) (state : State) (slot : Option Place) → IsSound rules state → IsSound rules ((evicted rules state slot).next)
evicted-sound rules state None is = is
evicted-sound rules state (Some place) is =
    let used = uses rules state in
    let page = page_at place.address in
    ⊎_elim
    (λ free_is. rw free_is (kept_or_let_go-sound rules state (record { first = page; count = 1 })
    (λ other within. subst (IsUntouched used) (one-page page other within) (untouched-free used page free_is)) is))
    (λ in_use. rw in_use is)
    (cases_Bool (is_free_page used page))

-- what has all bytes of a page touches it
covers-page : (one : Use) (page : ℕ) → (one.extent).first ≤ address_of page → address_of page + page_size ≤ (one.extent).first + (one.extent).len → touches page one ≡ true
covers-page one page low high = shares_byte-from (page_extent page) one.extent (address_of page, (omega arith, omega arith), (omega arith, omega arith))

-- and leaves none to what is apart from it
page-untouched : (one other : Use) (page : ℕ) → (one.extent).first ≤ address_of page → address_of page + page_size ≤ (one.extent).first + (one.extent).len → AreApart one other → touches page other ≡ false
page-untouched one other page low high apart = ⊎_elim
    (λ touched.
    let shared = SharesByte-true (page_extent page) other.extent touched in
    let on_page = shared.1 in
    absurd (apart (shared.0, (omega arith, omega arith), shared.2)))
    (λ untouched. untouched)
    (cases_Bool (touches page other))

-- ---- a block that leaves

-- the kind of what a block has first, by its class
abbrev pub kind_by_class : Option ℕ → Kind
kind_by_class (Some class) = Chunk class
kind_by_class None = Pages

-- what gives the page its kind
pub record HasKind (found : Option Use) (kind : Kind) : Type 0 where
  pub one : Use
  pub is : found ≡ Some one
  pub same : one.kind ≡ kind

pub has-kind : (found : Option Use) (kind : Kind) → option_map (λ (one : Use). one.kind) found ≡ Some kind → HasKind found kind
has-kind None kind e = cc
has-kind (Some one) kind e = record { one = one; is = refl; same = cc }

-- all that touches the page is alike with its kind
pub alike-on_page : (rules : Rules) (state : State) (page : ℕ) (kind : Kind) → IsSound rules state → page_kind (uses rules state) page ≡ Some kind → AllByRecursion (λ one. touches page one ≡ true → AreAlike kind one.kind) (uses rules state)
alike-on_page rules state page kind is found =
    let used = uses rules state in
    let sound = is.sound in
    let has = has-kind (find (touches page) used) kind found in
    let touched = find-passes (touches page) used has.one has.is in
    let pairs = pairs-all AgreeOnPages used (λ a p one two. alike-self a.kind) (λ a b both p one two. alike-swap a.kind b.kind (both p two one))
    (pairs-weaker GoTogether AgreeOnPages used (λ a b both. both.alike) sound.together) in
    let Like : Kind → Use → Type 0 = λ k one. AreAlike k one.kind in
    all-weaker (AgreeOnPages has.one) (λ one. touches page one ≡ true → AreAlike kind one.kind) used
    (λ one agrees here. subst (λ k. Like k one) has.same (agrees page touched here))
    (all-find (λ one. AllByRecursion (AgreeOnPages one) used) (touches page) used has.one pairs has.is)

module _ (rules : Rules) (state : State) (is : IsSound rules state) where
  abbrev live_uses : List Use
  live_uses = flat_map (uses_of_block rules) state.live

  abbrev old : List Use
  old = waiting state.slots

  module _ (address : ℕ) (block : Block) (live : block_at state address ≡ Some block) where
    abbrev begins_here : Block → Bool
    begins_here other = other.address == address

    abbrev left : List Use
    left = flat_map (uses_of_block rules) ((without_block state address).live)

    block-here : block.address ≡ address
    block-here = eqb-true block.address address (find-passes begins_here state.live block live)

    -- what is so of all that is in use is so of what the block has
    pub of-block : (P : Use → Type 0) → AllByRecursion P live_uses → AllByRecursion P (uses_of_block rules block)
    of-block P all = all-find (λ other. AllByRecursion P (uses_of_block rules other)) begins_here state.live block (all-flat (uses_of_block rules) P state.live all) live

    pub of-left : (P : Use → Type 0) → AllByRecursion P live_uses → AllByRecursion P left
    of-left P = all-flat_filter (uses_of_block rules) P (λ other. not (begins_here other)) state.live

    left-together : Across GoTogether (uses_of_block rules block) left
    left-together = let sound = is.sound in across-left (uses_of_block rules) GoTogether begins_here state.live block together-swap live (pairs-first GoTogether live_uses old sound.together)

    old-together : Across GoTogether (uses_of_block rules block) old
    old-together = let sound = is.sound in of-block (λ one. AllByRecursion (GoTogether one) old) (pairs-across GoTogether live_uses old sound.together)

    pairs-left : EachPair GoTogether left
    pairs-left = let sound = is.sound in pairs-flat_filter (uses_of_block rules) GoTogether (λ other. not (begins_here other)) state.live (pairs-first GoTogether live_uses old sound.together)

    across-old : Across GoTogether left old
    across-old = let sound = is.sound in of-left (λ one. AllByRecursion (GoTogether one) old) (pairs-across GoTogether live_uses old sound.together)

    placed-left : AllByRecursion (IsPlaced rules state.held) left
    placed-left = let sound = is.sound in of-left (IsPlaced rules state.held) (all-first (IsPlaced rules state.held) live_uses old sound.placed)

    -- each thing that the block has, of what is alike with the kind of the page on which it begins
    alike-block : (kind : Kind) → page_kind (uses rules state) (page_at address) ≡ Some kind → AllByRecursion (λ one. touches (page_at address) one ≡ true → AreAlike kind one.kind) (uses_of_block rules block)
    alike-block kind found =
        let P : Use → Type 0 = λ one. touches (page_at address) one ≡ true → AreAlike kind one.kind in
        of-block P (all-first P live_uses old (alike-on_page rules state (page_at address) kind is found))

    pub block-placed : AllByRecursion (IsPlaced rules state.held) (uses_of_block rules block)
    block-placed = let sound = is.sound in of-block (IsPlaced rules state.held) (all-first (IsPlaced rules state.held) live_uses old sound.placed)

    -- what it has, and what is in use without it
    pub block-together : Across GoTogether (uses_of_block rules block) (uses rules (without_block state address))
    block-together =
        all-both (λ one. AllByRecursion (GoTogether one) left) (λ one. AllByRecursion (GoTogether one) old) (λ one. AllByRecursion (GoTogether one) (left ++ old)) (uses_of_block rules block)
        (λ one. all-append (GoTogether one) left old) left-together old-together

    -- it touches the page of the address where it begins
    begins-on : (one : Use) → IsPlaced rules state.held one → (one.extent).first ≡ block.address → touches (page_at address) one ≡ true
    begins-on one on first = let P : ℕ → Type 0 = λ page. touches page one ≡ true in subst P (ap page_at (first ∙ block-here)) (touches-first one on.shape)

    -- ---- its class, by the page on which it begins

    kind-is : (own : Option ℕ) → size_class rules block.size ≡ own → (kind : Kind) → page_kind (uses rules state) (page_at address) ≡ Some kind → AreAlike kind (kind_by_class own)
    kind-is (Some class) class_is kind found =
        let uses_is = ap (uses_by_class rules block) class_is in
        let placed = subst (AllByRecursion (IsPlaced rules state.held)) uses_is block-placed in
        (subst (AllByRecursion (λ one. touches (page_at address) one ≡ true → AreAlike kind one.kind)) uses_is (alike-block kind found)).0 (begins-on _ placed.0 refl)
    kind-is None none kind found =
        let uses_is = pages-uses rules block.size none block.address block.site in
        let placed = subst (AllByRecursion (IsPlaced rules state.held)) uses_is block-placed in
        (subst (AllByRecursion (λ one. touches (page_at address) one ≡ true → AreAlike kind one.kind)) uses_is (alike-block kind found)).0 (begins-on _ placed.0 refl)

    pub class-of_chunk : (class : ℕ) → page_kind (uses rules state) (page_at address) ≡ Some (Chunk class) → size_class rules block.size ≡ Some class
    class-of_chunk class found = by (size_class rules block.size) (kind-is (size_class rules block.size) refl (Chunk class) found)
      where
        by : (own : Option ℕ) → AreAlike (Chunk class) (kind_by_class own) → own ≡ Some class
        by (Some other) same = ap Some (sym same)
        by None isnt = absurd isnt

    pub class-of_pages : page_kind (uses rules state) (page_at address) ≡ Some Pages → size_class rules block.size ≡ None
    class-of_pages found = by (size_class rules block.size) (kind-is (size_class rules block.size) refl Pages found)
      where
        by : (own : Option ℕ) → AreAlike Pages (kind_by_class own) → own ≡ None
        by (Some class) isnt = absurd isnt
        by None both = refl

    pub without-sound : IsSound rules (without_block state address)
    without-sound =
        let sound = is.sound in
        record {
          slots = is.slots;
          zoned = all-filter (FitsZone rules) (λ other. not (begins_here other)) state.live is.zoned;
          ascends = is.ascends;
          arena = is.arena;
          pages = is.pages;
          bytes = is.bytes;
          sound = record {
            placed = all-append (IsPlaced rules state.held) left old placed-left (all-second (IsPlaced rules state.held) live_uses old sound.placed);
            together = pairs-append GoTogether left old pairs-left (pairs-second GoTogether live_uses old sound.together) across-old;
          };
        }

    -- ---- a live place is put off

    module _ (class slot : ℕ) (class_is : size_class rules block.size ≡ Some class) where
      abbrev own_place : Place
      own_place = record { address = address; class = class }

      abbrev later : List Use
      later = waiting (slice_set state.slots slot (Some own_place))

      slot-sound : AreSound rules state.held (left ++ later)
      slot-sound =
          let sound = is.sound in
          let new = use_of_place own_place in
          let P : Use → Type 0 = IsPlaced rules state.held in
          let R : Use → Use → Type 0 = GoTogether in
          let uses_is : uses_of_block rules block ≡ new ∷ [] =
          ap (uses_by_class rules block) class_is ∙ ap (λ a. use_of_place (record { address = a; class = class }) ∷ []) block-here in
          let here : P new = (subst (AllByRecursion P) uses_is block-placed).0 in
          let to_left : AllByRecursion (R new) left = (subst (λ us. Across R us left) uses_is left-together).0 in
          let to_old : AllByRecursion (R new) old = (subst (λ us. Across R us old) uses_is old-together).0 in
          let back : (xs : List Use) → AllByRecursion (R new) xs → AllByRecursion (λ x. R x new) xs = λ xs. all-weaker (R new) (λ x. R x new) xs (λ x. together-swap new x) in
          record {
            placed = all-append P left later placed-left (all-slot P own_place state.slots slot here (all-second P live_uses old sound.placed));
            together = pairs-append R left later pairs-left
                (pairs-slot R own_place state.slots slot to_old (back old to_old) (pairs-second R live_uses old sound.together))
                (all-both (λ x. AllByRecursion (R x) old) (λ x. R x new) (λ x. AllByRecursion (R x) later) left (λ x all first. all-slot (R x) own_place state.slots slot first all) across-old (back left to_left));
          }

      -- the place enters a slot
      place_leaves-sound : IsSound rules (into_slot state slot own_place)
      place_leaves-sound = record {
        slots = length-set state.slots slot (Some own_place) ∙ is.slots;
        zoned = all-filter (FitsZone rules) (λ other. not (begins_here other)) state.live is.zoned;
        ascends = is.ascends;
        arena = is.arena;
        pages = is.pages;
        bytes = is.bytes;
        sound = slot-sound;
      }

      moved_to_slot-sound : IsSound rules ((moved_to_slot rules state slot own_place).next)
      moved_to_slot-sound =
          evicted-sound rules (put_off rules state slot own_place) (slot_of state slot) (freed-sound rules (into_slot state slot own_place) place_leaves-sound own_place)

    pub into_slot-sound : (class slot : ℕ) → page_kind (uses rules state) (page_at address) ≡ Some (Chunk class) → IsSound rules (into_slot state slot (record { address = address; class = class }))
    into_slot-sound class slot found = place_leaves-sound class slot (class-of_chunk class found)

-- ---- the pages of a page block

module _ (rules : Rules) (state : State) (is : IsSound rules state) (block : Block) (live : block_at state block.address ≡ Some block) (none : size_class rules block.size ≡ None) where
  abbrev first : ℕ
  first = page_at block.address

  abbrev count : ℕ
  count = block_pages rules block.size

  uses_is : uses_of_block rules block ≡ uses_of_pages rules block
  uses_is = pages-uses rules block.size none block.address block.site

  pages-placed : AllByRecursion (IsPlaced rules state.held) (uses_of_pages rules block)
  pages-placed = subst (AllByRecursion (IsPlaced rules state.held)) uses_is (block-placed rules state is block.address block live)

  -- it begins where a page does
  pub page_block-at : block.address ≡ address_of first
  page_block-at = let on = pages-placed.0 in shape-begins (record { extent = data_of block; kind = Pages }) on.shape

  -- one of what it has, of which this is so, has all bytes of the page
  record HasPage (Q : Use → Type 0) (page : ℕ) : Type 0 where
    one : Use
    holds : Q one
    low : (one.extent).first ≤ address_of page
    high : address_of page + page_size ≤ (one.extent).first + (one.extent).len

  page-of : (Q : Use → Type 0) → AllByRecursion Q (uses_of_pages rules block) → (page : ℕ) → first ≤ page → page < first + count → HasPage Q page
  page-of Q all page low high =
      let at = page_block-at in
      ⊎_elim
      (λ below. record { one = record { extent = data_of block; kind = Pages }; holds = all.0; low = omega arith; high = omega arith })
      (λ past. behind rules.options.guard refl all.1 past)
      (cases_lt page (first + data_pages block.size))
    where
      behind : (some : Bool) → rules.options.guard ≡ some → AllByRecursion Q (if some then record { extent = guard_of block; kind = Guard } ∷ [] else []) → first + data_pages block.size ≤ page → HasPage Q page
      behind false guards others past = let nothing : guard_pages rules ≡ 0 = ap guard_count guards in absurd (omega arith)
      behind true guards others past =
          let at = page_block-at in
          let some : guard_pages rules ≡ 1 = ap guard_count guards in
          record { one = record { extent = guard_of block; kind = Guard }; holds = others.0; low = omega arith; high = omega arith }

  -- its pages with the guard, where it is gone
  pub own_run : HasRun rules state.held (uses rules (without_block state block.address)) first count
  own_run =
      let after = uses rules (without_block state block.address) in
      let Placed : Use → Type 0 = IsPlaced rules state.held in
      let Apart : Use → Type 0 = λ one. AllByRecursion (GoTogether one) after in
      let apart : AllByRecursion Apart (uses_of_pages rules block) = subst (AllByRecursion Apart) uses_is (block-together rules state is block.address block live) in
      let zoned = all-find (FitsZone rules) (λ (b : Block). b.address == block.address) state.live block is.zoned live in
      let within = zoned.within in
      let same : pages_for rules block.size ≡ count = ap (pages_by_class rules block.size) none in
      let some = some-pages rules block.size none in
      let last = page-of Placed pages-placed (first + count - 1) (omega arith) (omega arith) in
      let below = (last.holds).there (first + count - 1) (covers-page last.one (first + count - 1) last.low last.high) in
      record {
        held_is = λ page low high. let on = page-of Placed pages-placed page low high in (on.holds).held_is page (covers-page on.one page on.low on.high);
        there = omega arith;
        untouched = λ page low high.
            let on = page-of Apart apart page low high in
            all-weaker (GoTogether on.one) (λ other. touches page other ≡ false) after (λ other both. page-untouched on.one other page on.low on.high both.apart) on.holds;
        zone = omega arith;
      }

  page_block_leaves-sound : IsSound rules ((without_page_block rules state block).next)
  unfolding with_freed_pages
  page_block_leaves-sound =
      let left = without_block state block.address in
      kept_or_let_go-sound rules (with_freed_pages rules block left) (record { first = first; count = count }) (run-free rules state.held (uses rules left) first count own_run)
      (freed_pages-sound rules left (without-sound rules state is block.address block live) block)

-- ---- the live block at an address

-- the block is a chunk at the place, or one of whole pages where there is none
abbrev pub IsPlaceOf : Rules → Block → Option Place → Type 0
IsPlaceOf rules block (Some place) = (place.address ≡ block.address) × (size_class rules block.size ≡ Some place.class)
IsPlaceOf rules block None = size_class rules block.size ≡ None

-- the block is the one that begins at its address
pub record IsLive (rules : Rules) (state : State) (block : Block) (place : Option Place) : Type 0 where
  pub live : block_at state block.address ≡ Some block
  pub has : IsPlaceOf rules block place

-- it leaves, a place for the slot
pub left_for-sound : (rules : Rules) (state next : State) → IsSound rules next → (block : Block) (place : Option Place) → IsLive rules next block place → IsSound rules ((left_for rules state block place next).next)
left_for-sound rules state next is block (Some place) on =
    let slot = drawn_slot rules state in
    let Sound : ℕ → Type 0 = λ a. IsSound rules ((moved_to_slot rules next slot (record { address = a; class = place.class })).next) in
    subst Sound (sym (on.has).0) (moved_to_slot-sound rules next is block.address block on.live place.class slot (on.has).1)
left_for-sound rules state next is block None on = page_block_leaves-sound rules next is block on.live on.has

-- what a standing tells of the live block there
abbrev pub Tells : Rules → State → Standing → Type 0
Tells rules state (PageBlock block) = IsLive rules state block None
Tells rules state (LivePlace place block) = IsLive rules state block (Some place)
Tells rules state other = Unit {0}

module _ (rules : Rules) (state : State) (is : IsSound rules state) (address : ℕ) where
  here : (block : Block) → block_at state address ≡ Some block → address ≡ block.address
  here block live = sym (eqb-true block.address address (find-passes (λ b. b.address == address) state.live block live))

  still : (block : Block) → block_at state address ≡ Some block → block_at state block.address ≡ Some block
  still block live = subst (λ a. block_at state a ≡ Some block) (here block live) live

  place-tells : (class : ℕ) (live : Option Block) (put : Option Place) → page_kind (uses rules state) (page_at address) ≡ Some (Chunk class) → block_at state address ≡ live → Tells rules state (at_place class address live put)
  place-tells class live (Some place) found live_is = tt
  place-tells class (Some block) None found live_is = record { live = still block live_is; has = (here block live_is, class-of_chunk rules state is address block live_is class found) }
  place-tells class None None found live_is = tt

  start-tells : (class : ℕ) (starts : Bool) → page_kind (uses rules state) (page_at address) ≡ Some (Chunk class)
      → Tells rules state (if starts then at_place class address (block_at state address) (delayed_at state address) else Unaligned)
  start-tells class true found = place-tells class (block_at state address) (delayed_at state address) found refl
  start-tells class false found = tt

  pages-tell : (live : Option Block) → block_at state address ≡ live → page_kind (uses rules state) (page_at address) ≡ Some Pages → Tells rules state (in_pages live)
  pages-tell None live_is found = tt
  pages-tell (Some block) live_is found = record { live = still block live_is; has = class-of_pages rules state is address block live_is found }

  kind-tells : (kind : Option Kind) → page_kind (uses rules state) (page_at address) ≡ kind → Tells rules state (on_page state address kind)
  kind-tells None found = tt
  kind-tells (Some Pages) found = pages-tell (block_at state address) refl found
  kind-tells (Some Guard) found = tt
  kind-tells (Some (Chunk class)) found = start-tells class (starts_place class address) found

  pub standing-tells : Tells rules state (standing rules state address)
  standing-tells = by (holds rules state address)
    where
      by : (held : Bool) → Tells rules state (if held then on_page state address (page_kind (uses rules state) (page_at address)) else NotHeld)
      by true = kind-tells (page_kind (uses rules state) (page_at address)) refl
      by false = tt

-- ---- free

module _ (rules : Rules) (state : State) (is : IsSound rules state) where
  delay-sound : (block : Block) (place : Place) (found : Option Fault) → IsLive rules state block (Some place) → IsSound rules ((delay_unless found rules state place).next)
  unfolding delay
  delay-sound block place (Some fault) on = drawn_more-sound rules 1 state is
  delay-sound block place None on =
      left_for-sound rules state (drawn_more 1 state) (drawn_more-sound rules 1 state is) block (Some place) (record { live = on.live; has = on.has })

  pub free_at-sound : (address : ℕ) (stands : Standing) → Tells rules state stands → IsSound rules ((free_at rules state address stands).next)
  unfolding freed_again
  free_at-sound address NotHeld told = is
  free_at-sound address FreePage told = is
  free_at-sound address (PageBlock block) told = left_for-sound rules state state is block None told
  free_at-sound address InPageBlock told = is
  free_at-sound address OnGuard told = is
  free_at-sound address (LivePlace place block) told = delay-sound block place (misuse rules state block) told
  free_at-sound address (DelayedPlace place) told = drawn_more-sound rules 1 state is
  free_at-sound address FreePlace told = is
  free_at-sound address Unaligned told = is

  pub free-sound : (address : ℕ) → IsSound rules ((free rules state address).next)
  free-sound address = free_at-sound address (standing rules state address) (standing-tells rules state is address)
