-- Tables after a step: a chunk is placed, on a chunk page of its class or on a free page; and a live place enters a
-- slot, whose place before becomes free, and with it a page on which nothing is left.
use Rattle.std.proofs.Common.{◌≡◌, ℕ, ◌-◌, ◌*◌, ◌/◌, ◌<◌, Bool, true, false, ◌==◌, ◌&&◌, if◌then◌else◌, List, [], ◌∷◌, length, length-set, map, set, get_or, Option, Some, None, IsTrue, cond, replicate, inl, inr, refl, sym, ap, ◌∙◌, subst, arith}
use Rattle.std.specs.List.{AllByRecursion, find, flat_map, list_any, range_with_len}
use Rattle.std.specs.Option.{option_map, option_or}
use Rattle.std.proofs.lemmas.Bool.{cases_eq, le-leb, and_parts, ne_eqb, eq-eqb, not-true, cases_lt}
use Rattle.std.proofs.lemmas.List.{same_lists, get_or-set_same, get_or-set_other, get_or-replicate, length-replicate}
use Rattle.std.proofs.lemmas.List.FromFn.{get_or-map-range_with_len, length-map-range_with_len}
use Rattle.std.proofs.lemmas.List.Folds.{find-append}
use Rattle.std.proofs.Math.Nat.{add-sub_cancel_left, mul-div_cancel}
use mathlib.Core.Logic.{⊎_elim}
use Rattle.om_chunk.specs.Pages.{page_in, page_with, offset_of, with_page, with_place}
use Rattle.om_chunk.specs.Places.{ChunkPage, fresh_page, with_place_at}
use Rattle.om_chunk.specs.declared.place.Place as chunk
use Rattle.om_chunk.specs.declared.place.Place.TheVariants as has
use Rattle.om_geom.specs.Addresses.{address_of, page_at}
use Rattle.om_geom.specs.Classes.{is_class, places_of, stride_of}
use Rattle.om_geom.specs.ClassLaws.{class_of-is_class, stride-positive}
use Rattle.om_geom.specs.Numbers.{first_address, zone_pages}
use Rattle.om_model.specs.Pool.InUse.{Kind, Chunk, Pages, Guard, Use, use_of_place, uses_by_class, uses_of_block, uses, touches, begins_at, page_kind, is_free_page}
use Rattle.om_model.specs.Pool.Malloc.{with_block}
use Rattle.om_model.specs.Pool.Picks.{place_address, is_chunk_of, is_chunk_page, is_free_place}
use Rattle.om_model.specs.Pool.Rules.{Rules, size_class}
use Rattle.om_model.specs.Pool.Standing.{block_at, delayed_at}
use Rattle.om_model.specs.Pool.State.{State, delayed, is_held}
use Rattle.om_model.specs.declared.block.Block.{Block}
use Rattle.om_model.specs.declared.block.Place.{Place}
use Rattle.om_model.proofs.Each.{all-append, all-both, all-first, all-second, all-find, any-none, none-any, any-passing}
use Rattle.om_model.proofs.Malloc.{chunk-uses}
use Rattle.om_model.proofs.PageKinds.{all-have, with_block-kinds, with_block-others}
use Rattle.om_model.proofs.Places.{IsUntouched, not-touched, untouched-free, chunk-is}
use Rattle.om_model.proofs.Sound.{IsPlace, IsPlaced, IsSound, first_of, place-page, place-kind, shape-chunk, same_class, touches-first, touches-place}
use Rattle.om_pages.specs.Tables.{with_run}
use Rattle.om_pages.specs.TableLaws.{length-with_run, kind_of-with_run_in, kind_of-with_run_out}
use Rattle.om_pages.specs.declared.kind.PageKind.{PageKind}
use Rattle.om_pages.specs.declared.kind.PageKind.TheVariants as table
use Rattle.om_pool.specs.Tables.{Tables, StandFor, IsEntered, block_on, kind_by, kind_in, has_by, place_has, chunk_by}

-- ---- tables of chunk pages, by what each address has

abbrev pub page_by : (ℕ → chunk.Place) → ℕ → ℕ → ChunkPage
page_by shown page class = record { class = class; places = map (λ i. shown (place_address page class i)) (range_with_len 0 (places_of class)) }

abbrev pub chunk_page_by : (ℕ → chunk.Place) → ℕ → Option Kind → Option ChunkPage
chunk_page_by shown page (Some (Chunk class)) = Some (page_by shown page class)
chunk_page_by shown page other = None

-- the first n pages are chunk pages by their kinds, with what their addresses have
pub record Shows (shown : ℕ → chunk.Place) (kinds : ℕ → Option Kind) (chunks : List (Option ChunkPage)) (n : ℕ) : Type 0 where
  pub long : length chunks ≡ n
  pub each : (page : ℕ) → page < n → page_in chunks page ≡ chunk_page_by shown page (kinds page)

abbrev pub HaveClasses : (ℕ → Option Kind) → Type 0
HaveClasses kinds = (page class : ℕ) → kinds page ≡ Some (Chunk class) → IsTrue (is_class class)

module _ (old new : ℕ → chunk.Place) where
  pub page-same : (page class : ℕ) → ((i : ℕ) → i < places_of class → new (place_address page class i) ≡ old (place_address page class i)) → page_by old page class ≡ page_by new page class
  page-same page class same =
      let n = places_of class in
      let before : ℕ → chunk.Place = λ i. old (place_address page class i) in
      let after : ℕ → chunk.Place = λ i. new (place_address page class i) in
      let long = length-map-range_with_len before 0 n in
      ap (λ (places : List chunk.Place). record { class = class; places = places })
      (same_lists (map before (range_with_len 0 n)) (map after (range_with_len 0 n)) (long ∙ sym (length-map-range_with_len after 0 n))
      (λ k d lt.
      let low : k < n = omega (arith, long) in
      get_or-map-range_with_len before 0 n k k d low (omega arith) ∙ sym (get_or-map-range_with_len after 0 n k k d low (omega arith) ∙ same k low)))

  -- the address of a place has something else
  module _ (address page class index : ℕ) (at : address ≡ place_address page class index) (is : IsTrue (is_class class)) (below : index < places_of class)
      (others : (a : ℕ) → ¬ (a ≡ address) → new a ≡ old a) where
    address-page : page_at address ≡ page
    address-page = ap page_at at ∙ place-page page class index is below

    place-index : offset_of address / stride_of class ≡ index
    place-index =
        let some = stride-positive class is in
        let offset : offset_of address ≡ index * stride_of class = ap (λ p. address - address_of p) address-page ∙ ap (λ a. a - address_of page) at ∙ add-sub_cancel_left (address_of page) (index * stride_of class) in
        ap (λ n. n / stride_of class) offset ∙ mul-div_cancel index some

    -- two places of a page begin apart
    other-place : (i : ℕ) → ¬ (i ≡ index) → ¬ (place_address page class i ≡ address)
    other-place i ne same =
        let some = stride-positive class is in
        let sums : i * stride_of class ≡ index * stride_of class = omega (arith, at, same) in
        ne (sym (mul-div_cancel i some) ∙ ap (λ n. n / stride_of class) sums ∙ mul-div_cancel index some)

    set-place : with_place_at (page_by old page class) (offset_of address) (new address) ≡ page_by new page class
    set-place =
        let n = places_of class in
        let before : ℕ → chunk.Place = λ i. old (place_address page class i) in
        let after : ℕ → chunk.Place = λ i. new (place_address page class i) in
        let places = map before (range_with_len 0 n) in
        let long = length-map-range_with_len before 0 n in
        ap (λ i. record { class = class; places = set places i (new address) }) place-index
        ∙ ap (λ (ps : List chunk.Place). record { class = class; places = ps })
        (same_lists (set places index (new address)) (map after (range_with_len 0 n)) (length-set places index (new address) ∙ long ∙ sym (length-map-range_with_len after 0 n))
        (λ k d lt.
        let low : k < n = omega (arith, long, length-set places index (new address)) in
        let there = get_or-map-range_with_len after 0 n k k d low (omega arith) in
        ⊎_elim
        (λ same. ap (λ i. get_or (set places index (new address)) i d) same ∙ get_or-set_same places index (new address) d (omega (arith, long)) ∙ ap new (at ∙ ap (place_address page class) (sym same)) ∙ sym there)
        (λ ne.
        get_or-set_other places index k (new address) d ne
        ∙ get_or-map-range_with_len before 0 n k k d low (omega arith)
        ∙ sym (others (place_address page class k) (other-place k ne)) ∙ sym there)
        (cases_eq k index)))

    other-page : (kinds : ℕ → Option Kind) → HaveClasses kinds → (p : ℕ) → ¬ (p ≡ page) → (kind : Option Kind) → kinds p ≡ kind → chunk_page_by old p kind ≡ chunk_page_by new p kind
    other-page kinds classes p ne None kind_is = refl
    other-page kinds classes p ne (Some Pages) kind_is = refl
    other-page kinds classes p ne (Some Guard) kind_is = refl
    other-page kinds classes p ne (Some (Chunk other)) kind_is =
        ap Some (page-same p other (λ i low. others (place_address p other i)
        (λ same. ne (sym (place-page p other i (classes p other kind_is) low) ∙ ap page_at same ∙ address-page))))

    pub place-shown : (kinds : ℕ → Option Kind) (chunks : List (Option ChunkPage)) (n : ℕ) → HaveClasses kinds → page < n → kinds page ≡ Some (Chunk class) → Shows old kinds chunks n → Shows new kinds (with_place chunks address (new address)) n
    place-shown kinds chunks n classes there kind_is shows =
        let long = shows.long in
        let placed = option_map (λ (one : ChunkPage). with_place_at one (offset_of address) (new address)) (page_with chunks address) in
        let with_it : page_with chunks address ≡ Some (page_by old page class) =
        ap (λ b. if b then page_in chunks (page_at address) else None) (le-leb first_address address (omega (arith, at)))
        ∙ ap (page_in chunks) address-page ∙ shows.each page there ∙ ap (chunk_page_by old page) kind_is in
        record {
          long = length-set chunks (page_at address) placed ∙ long;
          each = λ p low. ⊎_elim
              (λ same.
              ap (page_in (with_place chunks address (new address))) (same ∙ sym address-page)
              ∙ get_or-set_same chunks (page_at address) placed None (omega (arith, long, address-page))
              ∙ ap (option_map (λ (one : ChunkPage). with_place_at one (offset_of address) (new address))) with_it
              ∙ ap Some set-place
              ∙ sym (ap (chunk_page_by new p) (ap kinds same ∙ kind_is) ∙ ap (λ q. Some (page_by new q class)) same))
              (λ ne.
              get_or-set_other chunks (page_at address) p placed None (λ e. ne (e ∙ address-page))
              ∙ shows.each p low
              ∙ other-page kinds classes p ne (kinds p) refl)
              (cases_eq p page);
        }

-- ---- what is in use, and what begins at an address

abbrev pub Unbegun : ℕ → Use → Type 0
Unbegun address one = begins_at address one ≡ false

-- a page's chunks are of a class
pub kind-class : (rules : Rules) (state : State) → IsSound rules state → HaveClasses (page_kind (uses rules state))
kind-class rules state is page class kind_is = by (find (touches page) (uses rules state)) refl kind_is
  where
    by : (found : Option Use) → find (touches page) (uses rules state) ≡ found → option_map (λ (one : Use). one.kind) found ≡ Some (Chunk class) → IsTrue (is_class class)
    by None found kind_is = cc
    by (Some one) found kind_is =
        let kind : one.kind ≡ Chunk class = cc in
        let sound = is.sound in
        let on = shape-chunk one class kind (all-find (IsPlaced rules state.held) (touches page) (uses rules state) one sound.placed found).shape in
        subst (λ c. IsTrue (is_class c)) (same_class on.class class (sym (place-kind one on) ∙ kind)) on.is

pub record IsVacant (state : State) (address : ℕ) : Type 0 where
  pub live : block_at state address ≡ None
  pub waiting : delayed_at state address ≡ None

module _ (rules : Rules) (address : ℕ) where
  live-none : (live : List Block) → AllByRecursion (Unbegun address) (flat_map (uses_of_block rules) live) → find (λ block. block.address == address) live ≡ None
  live-none [] all = refl
  live-none (block ∷ live) all =
      let others = flat_map (uses_of_block rules) live in
      rw (by (size_class rules block.size) (all-first (Unbegun address) (uses_of_block rules block) others all)) (live-none live (all-second (Unbegun address) (uses_of_block rules block) others all))
    where
      by : (class : Option ℕ) → AllByRecursion (Unbegun address) (uses_by_class rules block class) → (block.address == address) ≡ false
      by (Some class) all = all.0
      by None all = all.0

  delayed-none : (places : List Place) → AllByRecursion (Unbegun address) (map use_of_place places) → find (λ place. place.address == address) places ≡ None
  delayed-none [] all = refl
  delayed-none (place ∷ places) all = rw all.0 (delayed-none places all.1)

  -- where nothing begins a place is free
  pub vacant : (state : State) → AllByRecursion (Unbegun address) (uses rules state) → IsVacant state address
  vacant state all =
      let in_live = flat_map (uses_of_block rules) state.live in
      let in_slots = map use_of_place (delayed state.slots) in
      record { live = live-none state.live (all-first (Unbegun address) in_live in_slots all); waiting = delayed-none (delayed state.slots) (all-second (Unbegun address) in_live in_slots all) }

pub vacant-free : (state : State) (address : ℕ) → IsVacant state address → place_has state address ≡ has.Free
vacant-free state address none = ap (λ o. has_by o (block_at state address)) none.waiting ∙ ap (has_by None) none.live

-- on a page that nothing touches no place begins
unbegun-place : (rules : Rules) (state : State) → IsSound rules state → (page class index : ℕ) → IsTrue (is_class class) → index < places_of class
    → IsUntouched (uses rules state) page → AllByRecursion (Unbegun (place_address page class index)) (uses rules state)
unbegun-place rules state is page class index is_one below untouched =
    let address = place_address page class index in
    let on = place-page page class index is_one below in
    let sound = is.sound in
    all-both (IsPlaced rules state.held) (λ one. touches page one ≡ false) (Unbegun address) (uses rules state)
    (λ one here isnt. ne_eqb (first_of one) address (λ e.
    let P : ℕ → Type 0 = λ p. touches p one ≡ true in
    not-touched page one isnt (subst P (ap page_at e ∙ on) (touches-first one here.shape))))
    sound.placed untouched

pub free-places : (rules : Rules) (state : State) → IsSound rules state → (page class : ℕ) → IsTrue (is_class class) → IsUntouched (uses rules state) page
    → (i : ℕ) → i < places_of class → place_has state (place_address page class i) ≡ has.Free
free-places rules state is page class is_one untouched i below =
    let address = place_address page class i in
    vacant-free state address (vacant rules address state (unbegun-place rules state is page class i is_one below untouched))

fresh-places : (rules : Rules) (state : State) → IsSound rules state → (page class : ℕ) → IsTrue (is_class class) → IsUntouched (uses rules state) page
    → replicate (places_of class) has.Free ≡ map (λ i. place_has state (place_address page class i)) (range_with_len 0 (places_of class))
fresh-places rules state is page class is_one untouched =
    let n = places_of class in
    let shown : ℕ → chunk.Place = λ i. place_has state (place_address page class i) in
    let long = length-replicate n has.Free in
    same_lists (replicate n has.Free) (map shown (range_with_len 0 n)) (long ∙ sym (length-map-range_with_len shown 0 n))
    (λ k d lt.
    let low : k < n = omega (arith, long) in
    get_or-replicate n k has.Free d low ∙ sym (get_or-map-range_with_len shown 0 n k k d low (omega arith) ∙ free-places rules state is page class is_one untouched k low))

-- ---- the tables of a state

pub same-table : (state : State) (page : ℕ) (kind : Option Kind) → chunk_by state page kind ≡ chunk_page_by (place_has state) page kind
same-table state page None = refl
same-table state page (Some (Chunk class)) = refl
same-table state page (Some Pages) = refl
same-table state page (Some Guard) = refl

abbrev pub pages_in : Rules → ℕ
pages_in rules = zone_pages * rules.zones

abbrev pub kinds_of : Rules → State → ℕ → Option Kind
kinds_of rules state = page_kind (uses rules state)

pub shows : (rules : Rules) (tables : Tables) (state : State) → StandFor rules tables state → Shows (place_has state) (kinds_of rules state) tables.chunks (pages_in rules)
shows rules tables state stand = record {
  long = stand.chunks_all;
  each = λ page low. stand.chunks page low ∙ same-table state page (kinds_of rules state page);
}

-- a page is the same where it is by what is in use on it
pub kind-stays : (held : Bool) (old new : Option Block) (old_kind new_kind : Option Kind) → kind_by old old_kind ≡ kind_by new new_kind
    → (if held then kind_by old old_kind else table.Absent) ≡ (if held then kind_by new new_kind else table.Absent)
kind-stays held old new old_kind new_kind same = ap (λ (kind : PageKind). if held then kind else table.Absent) same

pub or-none : {X : Type 0} (o : Option X) → option_or o None ≡ o
or-none None = refl
or-none (Some x) = refl

-- ---- a chunk is placed

module _ (rules : Rules) (tables : Tables) (state : State) (address page class index size site : ℕ) (class_is : size_class rules size ≡ Some class) (at : address ≡ place_address page class index)
    (there : page < zone_pages * rules.zones) (below : index < places_of class) (is : IsSound rules state)
    (next_is : IsSound rules (with_block (record { address = address; size = size; site = site }) state)) (stand : StandFor rules tables state) where
  abbrev own_block : Block
  own_block = record { address = address; size = size; site = site }

  abbrev next : State
  next = with_block own_block state

  is_one : IsTrue (is_class class)
  is_one = class_of-is_class size rules.options.canary class class_is

  abbrev own : Use
  own = use_of_place (record { address = address; class = class })

  abbrev own-place : IsPlace own
  own-place = record { page = page; index = index; class = class; is = is_one; below = below; one_is = ap (λ a. use_of_place (record { address = a; class = class })) at }

  own-uses : uses_of_block rules own_block ≡ own ∷ []
  own-uses = chunk-uses rules size class class_is address site

  module _ (p : ℕ) (ne : ¬ (p ≡ page)) where
    own-clear : AllByRecursion (λ one. touches p one ≡ false) (uses_of_block rules own_block)
    own-clear = subst (AllByRecursion (λ one. touches p one ≡ false)) (sym own-uses) (touches-place own own-place p ∙ ne_eqb page p (λ e. ne (sym e)), tt)

    others-kind : kinds_of rules next p ≡ kinds_of rules state p
    others-kind = with_block-others rules state own_block p own-clear

    others-block : block_on rules next p ≡ block_on rules state p
    others-block =
        let test : Block → Bool = λ block. list_any (touches p) (uses_of_block rules block) in
        find-append test state.live (own_block ∷ [])
        ∙ ap (λ b. option_or (find test state.live) (cond b (Some own_block) None)) (any-none (touches p) (uses_of_block rules own_block) own-clear)
        ∙ or-none (find test state.live)

    others-stay : kind_in rules state p ≡ kind_in rules next p
    others-stay =
        kind-stays (is_held state.held p) (block_on rules state p) (block_on rules next p) (kinds_of rules state p) (kinds_of rules next p)
        (ap (λ o. kind_by o (kinds_of rules state p)) (sym others-block) ∙ ap (kind_by (block_on rules next p)) (sym others-kind))

  kind-here : kinds_of rules next page ≡ Some (Chunk class)
  kind-here =
      let P : Use → Type 0 = λ one. touches page one ≡ true → Some one.kind ≡ kinds_of rules next page in
      sym ((subst (AllByRecursion P) own-uses (with_block-kinds rules state own_block page next_is)).0 (touches-place own own-place page ∙ eq-eqb page page refl))

  -- what was asked for it stands in its place
  block-entered : AllByRecursion (IsEntered rules tables.blocks) next.live
  block-entered = all-append (IsEntered rules tables.blocks) state.live (own_block ∷ []) stand.blocks ((λ none. let isnt : Some class ≡ None = sym class_is ∙ none in cc), tt)

  -- what the addresses have

  has-here : IsVacant state address → place_has next address ≡ has.Live size site
  has-here none =
      let test : Block → Bool = λ block. block.address == address in
      let found : block_at next address ≡ Some own_block =
      find-append test state.live (own_block ∷ []) ∙ ap (λ o. option_or o (find test (own_block ∷ []))) none.live
      ∙ ap (λ b. option_or None (cond b (Some own_block) None)) (eq-eqb address address refl) in
      ap (λ o. has_by o (block_at next address)) none.waiting ∙ ap (has_by None) found

  has-others : (a : ℕ) → ¬ (a ≡ address) → place_has next a ≡ place_has state a
  has-others a ne =
      ap (has_by (delayed_at state a))
      (find-append (λ (block : Block). block.address == a) state.live (own_block ∷ [])
      ∙ ap (λ b. option_or (block_at state a) (cond b (Some own_block) None)) (ne_eqb address a (λ e. ne (sym e)))
      ∙ or-none (block_at state a))

  chunks-placed : (chunks : List (Option ChunkPage)) → IsVacant state address → Shows (place_has state) (kinds_of rules next) chunks (pages_in rules)
      → Shows (place_has next) (kinds_of rules next) (with_place chunks address (has.Live size site)) (pages_in rules)
  chunks-placed chunks none before =
      let After : chunk.Place → Type 0 = λ shown. Shows (place_has next) (kinds_of rules next) (with_place chunks address shown) (pages_in rules) in
      subst After (has-here none)
      (place-shown (place_has state) (place_has next) address page class index at is_one below has-others (kinds_of rules next) chunks (pages_in rules) (kind-class rules next next_is) there kind-here before)

  -- on a chunk page of its class, at a place where nothing begins
  pub placed-own : is_free_place (uses rules state) page class index ≡ true → is_chunk_page (uses rules state) class page ≡ true
      → StandFor rules (record tables { chunks = with_place tables.chunks address (has.Live size site) }) (with_block own_block state)
  placed-own free chunk_page =
      let used = uses rules state in
      let sound = is.sound in
      let test : Use → Bool = λ one. touches page one && is_chunk_of class one.kind in
      let found = any-passing test (λ one. touches page one ≡ true → Some one.kind ≡ page_kind used page) used chunk_page (all-have rules state.held used sound page) in
      let parts = and_parts (touches page found.element) (is_chunk_of class (found.element).kind) found.passes in
      let kind_before : kinds_of rules state page ≡ Some (Chunk class) = sym (found.holds parts.0) ∙ ap Some (chunk-is class (found.element).kind parts.1) in
      let unbegun = none-any (begins_at (place_address page class index)) used (not-true (list_any (begins_at (place_address page class index)) used) free) in
      let none = vacant rules address state (subst (λ a. AllByRecursion (Unbegun a) used) (sym at) unbegun) in
      let before = shows rules tables state stand in
      let kinds : (p : ℕ) → kinds_of rules state p ≡ kinds_of rules next p = λ p. ⊎_elim
      (λ same. ap (kinds_of rules state) same ∙ kind_before ∙ sym (ap (kinds_of rules next) same ∙ kind-here))
      (λ ne. sym (others-kind p ne))
      (cases_eq p page) in
      let shown = chunks-placed tables.chunks none (record { long = before.long; each = λ p low. before.each p low ∙ ap (chunk_page_by (place_has state) p) (kinds p) }) in
      record {
        pages_all = stand.pages_all;
        chunks_all = shown.long;
        blocks_all = stand.blocks_all;
        pages = λ p low. stand.pages p low ∙ ⊎_elim
            (λ same. kind-stays (is_held state.held p) (block_on rules state p) (block_on rules next p) (kinds_of rules state p) (kinds_of rules next p)
            (ap (kind_by (block_on rules state p)) (ap (kinds_of rules state) same ∙ kind_before) ∙ sym (ap (kind_by (block_on rules next p)) (ap (kinds_of rules next) same ∙ kind-here))))
            (λ ne. others-stay p ne)
            (cases_eq p page);
        chunks = λ p low. shown.each p low ∙ sym (same-table next p (kinds_of rules next p));
        blocks = block-entered;
        slots = stand.slots;
        memory = stand.memory;
      }

  -- on a held page that nothing touches, which is a chunk page from then on
  pub placed-fresh : is_held state.held page ≡ true → is_free_page (uses rules state) page ≡ true
      → StandFor rules (record tables {
        pages = with_run tables.pages page 1 (table.Chunk (record { 0 = class }));
        chunks = with_place (with_page tables.chunks page class) address (has.Live size site);
      }) (with_block own_block state)
  placed-fresh held free =
      let used = uses rules state in
      let untouched = untouched-free used page free in
      let none = vacant rules address state (subst (λ a. AllByRecursion (Unbegun a) used) (sym at) (unbegun-place rules state is page class index is_one below untouched)) in
      let before = shows rules tables state stand in
      let long : length tables.pages ≡ zone_pages * rules.zones = stand.pages_all in
      let chunks_long : length tables.chunks ≡ zone_pages * rules.zones = stand.chunks_all in
      let kind : PageKind = table.Chunk (record { 0 = class }) in
      let fresh : fresh_page class ≡ page_by (place_has state) page class =
      ap (λ (places : List chunk.Place). record { class = class; places = places }) (fresh-places rules state is page class is_one untouched) in
      let shown = chunks-placed (with_page tables.chunks page class) none (record {
        long = length-set tables.chunks page (Some (fresh_page class)) ∙ before.long;
        each = λ p low. ⊎_elim
            (λ same.
            ap (page_in (with_page tables.chunks page class)) same ∙ get_or-set_same tables.chunks page (Some (fresh_page class)) None (omega arith) ∙ ap Some fresh
            ∙ sym (ap (chunk_page_by (place_has state) p) (ap (kinds_of rules next) same ∙ kind-here) ∙ ap (λ q. Some (page_by (place_has state) q class)) same))
            (λ ne. get_or-set_other tables.chunks page p (Some (fresh_page class)) None ne ∙ before.each p low ∙ ap (chunk_page_by (place_has state) p) (sym (others-kind p ne)))
            (cases_eq p page);
      }) in
      record {
        pages_all = length-with_run tables.pages page 1 kind ∙ stand.pages_all;
        chunks_all = shown.long;
        blocks_all = stand.blocks_all;
        pages = λ p low. ⊎_elim
            (λ same.
            kind_of-with_run_in tables.pages page 1 kind p (omega arith) (omega arith) (omega arith)
            ∙ sym (ap (λ b. if b then kind_by (block_on rules next p) (kinds_of rules next p) else table.Absent) (ap (is_held state.held) same ∙ held)
            ∙ ap (kind_by (block_on rules next p)) (ap (kinds_of rules next) same ∙ kind-here)))
            (λ ne. kind_of-with_run_out tables.pages page 1 kind p (⊎_elim (λ low. inl low) (λ high. inr (omega arith)) (cases_lt p page)) ∙ stand.pages p low ∙ others-stay p ne)
            (cases_eq p page);
        chunks = λ p low. shown.each p low ∙ sym (same-table next p (kinds_of rules next p));
        blocks = block-entered;
        slots = stand.slots;
        memory = stand.memory;
      }
