-- What is in use, as the tables tell it: what is found among blocks, where no chunk begins, and a place with its page.
use Rattle.std.proofs.Common.{◌≡◌, ℕ, ◌*◌, ◌<◌, Bool, true, false, not, ◌==◌, if◌then◌else◌, List, [], ◌∷◌, map, cond, Option, Some, None, IsTrue, is_some, refl, sym, ap, ◌∙◌, subst, arith}
use Rattle.std.specs.List.{AllByRecursion, filter, find, flat_map, list_all, list_any, range_with_len}
use Rattle.std.specs.Option.{is_none}
use Rattle.std.proofs.lemmas.Bool.{true≢false, cases_Bool, eqb-true, eq-eqb, ne_eqb, not_from_false}
use Rattle.std.proofs.lemmas.List.Folds.{list_all-map}
use mathlib.Core.Logic.{⊎_elim}
use Rattle.om_chunk.specs.Places.{is_free, is_unused}
use Rattle.om_chunk.specs.declared.place.Place as chunk
use Rattle.om_chunk.specs.declared.place.Place.TheVariants as has
use Rattle.om_geom.specs.Addresses.{page_at, page_extent}
use Rattle.om_geom.specs.AddressLaws.{SharesByte-true}
use Rattle.om_geom.specs.Classes.{is_class, places_of}
use Rattle.om_geom.specs.FitLaws.{list_all-range, list_all-range_from}
use Rattle.om_geom.specs.Numbers.{zone_pages}
use Rattle.om_model.specs.Pool.InUse.{Kind, Chunk, Pages, Guard, Use, use_of_place, data_of, guard_of, uses_by_class, uses_of_pages, uses_of_block, uses, touches, page_kind, is_free_page}
use Rattle.om_model.specs.Pool.Picks.{place_address}
use Rattle.om_model.specs.Pool.Rules.{Rules, size_class}
use Rattle.om_model.specs.Pool.Standing.{block_at, delayed_at}
use Rattle.om_model.specs.Pool.State.{State, delayed, is_held}
use Rattle.om_model.specs.declared.block.Block.{Block}
use Rattle.om_model.specs.declared.block.Place.{Place}
use Rattle.om_model.proofs.Each.{all-both, all-each, all-append, any-none}
use Rattle.om_model.proofs.Free.{waiting}
use Rattle.om_model.proofs.PageKinds.{all-have}
use Rattle.om_model.proofs.Places.{IsUntouched, untouched-free}
use Rattle.om_model.proofs.Sound.{HasWholePages, IsPlaced, IsSound, GoTogether, first_of, place-at, place-kind, shape-chunk, same_class, touches-first, touches-place}
use Rattle.om_pool.specs.Tables.{kind_by, has_by, place_has}
use Rattle.om_pool.proofs.TableSteps.{page_by, chunk_page_by, Unbegun, kinds_of, free-places}

-- ---- what is found, and what is in use

all-of : (P : Block → Type 0) (live : List Block) → ((block : Block) → P block) → AllByRecursion P live
all-of P [] each = tt
all-of P (x ∷ xs) each = (each x, all-of P xs each)

-- what passes none of the blocks at the address is found among the others
pub find-others : (test : Block → Bool) (address : ℕ) (live : List Block) → AllByRecursion (λ block. (block.address == address) ≡ true → test block ≡ false) live
    → find test (filter (λ block. not (block.address == address)) live) ≡ find test live
find-others test address [] all = refl
find-others test address (x ∷ xs) all =
    let rest = find-others test address xs all.1 in
    ⊎_elim
    (λ here. let isnt : test x ≡ false = all.0 here in rw here (rest ∙ sym (ap (λ b. cond b (Some x) (find test xs)) isnt)))
    (λ other. rw other (ap (cond (test x) (Some x)) rest))
    (cases_Bool (x.address == address))

pub find-left : (a b : ℕ) → ¬ (a ≡ b) → (live : List Block) → find (λ block. block.address == a) (filter (λ block. not (block.address == b)) live) ≡ find (λ block. block.address == a) live
find-left a b ne live =
    find-others (λ block. block.address == a) b live
    (all-of (λ block. (block.address == b) ≡ true → (block.address == a) ≡ false) live (λ block here. ne_eqb block.address a (λ e. ne (sym e ∙ eqb-true block.address b here))))

pub has-delayed : (place : Option Place) (block : Option Block) → is_some place ≡ true → has_by place block ≡ has.Delayed
has-delayed None block some = cc
has-delayed (Some place) block some = refl

has-none : (place : Option Place) (block : Option Block) → is_free (has_by place block) ≡ true → (place ≡ None) × (block ≡ None)
has-none None None free = (refl, refl)
has-none None (Some block) free = cc
has-none (Some place) block free = cc

pub untouched-kind : (used : List Use) (page : ℕ) → IsUntouched used page → page_kind used page ≡ None
untouched-kind [] page all = refl
untouched-kind (x ∷ xs) page all = rw all.0 (untouched-kind xs page all.1)

-- the block of a page tells nothing more of a free page, or of a chunk page
pub kind-of-block : (kind : Option Kind) (a b : Option Block) → ((whole : Kind) → HasWholePages whole → kind ≡ Some whole → a ≡ b) → kind_by a kind ≡ kind_by b kind
kind-of-block None a b same = refl
kind-of-block (Some (Chunk class)) a b same = refl
kind-of-block (Some Pages) a b same = ap (λ o. kind_by o (Some Pages)) (same Pages tt refl)
kind-of-block (Some Guard) a b same = ap (λ o. kind_by o (Some Guard)) (same Guard tt refl)

-- no chunk begins at the address
abbrev NoChunk : ℕ → Use → Type 0
NoChunk address one = (class : ℕ) → one.kind ≡ Chunk class → Unbegun address one

module _ (rules : Rules) where
  unbegun-block : (address : ℕ) (block : Block) (own : Option ℕ) → (block.address == address) ≡ false → AllByRecursion (NoChunk address) (uses_by_class rules block own)
  unbegun-block address block (Some own) isnt = ((λ class kind. isnt), tt)
  unbegun-block address block None isnt = ((λ class kind. cc), behind rules.options.guard)
    where
      behind : (guards : Bool) → AllByRecursion (NoChunk address) (if guards then record { extent = guard_of block; kind = Guard } ∷ [] else [])
      behind true = ((λ class kind. cc), tt)
      behind false = tt

  unbegun-live : (address : ℕ) (live : List Block) → find (λ block. block.address == address) live ≡ None → AllByRecursion (NoChunk address) (flat_map (uses_of_block rules) live)
  unbegun-live address [] none = tt
  unbegun-live address (block ∷ live) none = ⊎_elim
      (λ t. let found : Some block ≡ None = rw t at none in cc)
      (λ f. all-append (NoChunk address) (uses_of_block rules block) (flat_map (uses_of_block rules) live) (unbegun-block address block (size_class rules block.size) f) (unbegun-live address live (rw f at none)))
      (cases_Bool (block.address == address))

  unbegun-waiting : (address : ℕ) (places : List Place) → find (λ place. place.address == address) places ≡ None → AllByRecursion (NoChunk address) (map use_of_place places)
  unbegun-waiting address [] none = tt
  unbegun-waiting address (place ∷ places) none = ⊎_elim
      (λ t. let found : Some place ≡ None = rw t at none in cc)
      (λ f. ((λ class kind. f), unbegun-waiting address places (rw f at none)))
      (cases_Bool (place.address == address))

  module _ (state : State) where
    -- where a place is free no chunk begins
    free-unbegun : (address : ℕ) → is_free (place_has state address) ≡ true → AllByRecursion (NoChunk address) (uses rules state)
    free-unbegun address free =
        let none = has-none (delayed_at state address) (block_at state address) free in
        all-append (NoChunk address) (flat_map (uses_of_block rules) state.live) (waiting state.slots) (unbegun-live address state.live none.1) (unbegun-waiting address (delayed state.slots) none.0)

    -- a page of chunks is free exactly where its places are
    pub unused-page : IsSound rules state → (page class : ℕ) → IsTrue (is_class class) → (is_free_page (uses rules state) page ≡ false → kinds_of rules state page ≡ Some (Chunk class))
        → is_unused (page_by (place_has state) page class) ≡ is_free_page (uses rules state) page
    unused-page is page class is_one kind_is =
        let used = uses rules state in
        let sound = is.sound in
        let n = places_of class in
        let shown : ℕ → chunk.Place = λ i. place_has state (place_address page class i) in
        list_all-map is_free shown (range_with_len 0 n)
        ∙ ⊎_elim
        (λ free. list_all-range_from (λ i. is_free (shown i)) 0 n (λ i from low. ap is_free (free-places rules state is page class is_one (untouched-free used page free) i (omega arith))) ∙ sym free)
        (λ in_use. ⊎_elim
        (λ all.
        let Here : Use → Type 0 = λ one. (i : ℕ) → i < n → NoChunk (place_address page class i) one in
        let unbegun : AllByRecursion Here used = all-each (λ i. i < n) (λ i. NoChunk (place_address page class i)) used
        (λ i low. free-unbegun (place_address page class i) (list_all-range (λ i. is_free (shown i)) 0 n all i (omega arith) (omega arith))) in
        let OfKind : Use → Type 0 = λ one. touches page one ≡ true → Some one.kind ≡ page_kind used page in
        let untouched = all-both Here (λ one. IsPlaced rules state.held one × OfKind one) (λ one. touches page one ≡ false) used
        (λ one none both. ⊎_elim
        (λ touched.
        let kind : one.kind ≡ Chunk class = let same : Some one.kind ≡ Some (Chunk class) = both.1 touched ∙ kind_is in_use in cc in
        let on = shape-chunk one class kind (both.0).shape in
        let here : on.page ≡ page = eqb-true on.page page (sym (touches-place one on page) ∙ touched) in
        let same : on.class ≡ class = same_class on.class class (sym (place-kind one on) ∙ kind) in
        let first : first_of one ≡ place_address page class on.index = ap first_of on.one_is ∙ ap (λ p. place_address p on.class on.index) here ∙ ap (λ c. place_address page c on.index) same in
        let low : on.index < n = subst (λ c. on.index < places_of c) same on.below in
        absurd (true≢false (sym (eq-eqb (first_of one) (place_address page class on.index) first) ∙ none on.index low class kind)))
        (λ isnt. isnt)
        (cases_Bool (touches page one)))
        unbegun (all-both (IsPlaced rules state.held) OfKind (λ one. IsPlaced rules state.held one × OfKind one) used (λ one first second. (first, second)) sound.placed (all-have rules state.held used sound page)) in
        absurd (true≢false (sym (not_from_false (list_any (touches page) used) (any-none (touches page) used untouched)) ∙ in_use)))
        (λ some. some ∙ sym in_use)
        (cases_Bool (list_all (λ i. is_free (shown i)) (range_with_len 0 n))))
        (cases_Bool (is_free_page used page))

-- what is in use lies where it may, and has the kind of the page where it touches that
abbrev pub IsKindOn : Rules → State → ℕ → Use → Type 0
IsKindOn rules state page one = IsPlaced rules state.held one × (touches page one ≡ true → Some one.kind ≡ kinds_of rules state page)

pub all-kind_on : (rules : Rules) (state : State) → IsSound rules state → (page : ℕ) → AllByRecursion (IsKindOn rules state page) (uses rules state)
all-kind_on rules state is page =
    let sound = is.sound in
    all-both (IsPlaced rules state.held) (λ one. touches page one ≡ true → Some one.kind ≡ kinds_of rules state page) (IsKindOn rules state page) (uses rules state)
    (λ one placed like. (placed, like)) sound.placed (all-have rules state.held (uses rules state) sound page)

-- no page block begins on a chunk page
pub no-pages : (rules : Rules) (state : State) (block : Block) (class : ℕ) → kinds_of rules state (page_at block.address) ≡ Some (Chunk class) → AllByRecursion (IsKindOn rules state (page_at block.address)) (uses_of_pages rules block) → ⊥
no-pages rules state block class kind all =
    let same : Some Pages ≡ Some (Chunk class) = (all.0).1 (touches-first (record { extent = data_of block; kind = Pages }) ((all.0).0).shape) ∙ kind in
    cc

-- ---- a place that is in use, and its page

pub record IsShownOn (rules : Rules) (state : State) (place : Place) (page : ℕ) : Type 0 where
  pub index : ℕ
  pub is : IsTrue (is_class place.class)
  pub below : index < places_of place.class
  pub at : place.address ≡ place_address page place.class index
  pub touched : (p : ℕ) → touches p (use_of_place place) ≡ (page == p)
  pub held_is : is_held state.held page ≡ true
  pub there : page < zone_pages * rules.zones
  pub kind : kinds_of rules state page ≡ Some (Chunk place.class)

abbrev pub IsShown : Rules → State → Place → Type 0
IsShown rules state place = IsShownOn rules state place (page_at place.address)

-- what is so of all that is in use is so of the place
pub shown-place : (rules : Rules) (state : State) → IsSound rules state → (place : Place) → ((P : Use → Type 0) → AllByRecursion P (uses rules state) → P (use_of_place place)) → IsShown rules state place
shown-place rules state is place in_use =
    let sound = is.sound in
    let one = use_of_place place in
    let placed = in_use (IsPlaced rules state.held) sound.placed in
    let on = shape-chunk one place.class refl placed.shape in
    let same : on.class ≡ place.class = same_class on.class place.class (sym (place-kind one on)) in
    let here : touches on.page one ≡ true = touches-place one on on.page ∙ eq-eqb on.page on.page refl in
    subst (IsShownOn rules state place) (sym (place-at one on)) (record {
      index = on.index;
      is = subst (λ c. IsTrue (is_class c)) same on.is;
      below = subst (λ c. on.index < places_of c) same on.below;
      at = ap first_of on.one_is ∙ ap (λ c. place_address on.page c on.index) same;
      touched = touches-place one on;
      held_is = placed.held_is on.page here;
      there = placed.there on.page here;
      kind = sym (in_use (λ u. touches on.page u ≡ true → Some u.kind ≡ kinds_of rules state on.page) (all-have rules state.held (uses rules state) sound on.page) here);
    })

-- what shares no byte with a place doesn't begin where it does
pub apart-unbegun : (rules : Rules) (held : List ℕ) (gone : Place) (one : Use) → IsPlaced rules held (use_of_place gone) → IsPlaced rules held one → GoTogether (use_of_place gone) one → Unbegun gone.address one
apart-unbegun rules held gone one gone_placed placed both =
    ne_eqb (first_of one) gone.address (λ e.
    let some = covers (use_of_place gone) gone_placed in
    let other = covers one placed in
    both.apart (gone.address, (omega arith, omega arith), (omega arith, omega arith)))
  where
    covers : (u : Use) → IsPlaced rules held u → 0 < (u.extent).len
    covers u placed =
        let shared = SharesByte-true (page_extent (page_at (first_of u))) u.extent (touches-first u placed.shape) in
        let on = shared.2 in
        omega arith

pub none-if : {X : Type 0} (b : Bool) (x : X) → is_none (if b then None else Some x) ≡ b
none-if true x = refl
none-if false x = refl

pub chunk-if : (b : Bool) (shown : ℕ → chunk.Place) (page class : ℕ) → chunk_page_by shown page (if b then None else Some (Chunk class)) ≡ (if b then None else Some (page_by shown page class))
chunk-if true shown page class = refl
chunk-if false shown page class = refl
