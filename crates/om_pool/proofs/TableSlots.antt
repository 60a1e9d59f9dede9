-- Tables after a live place entered a slot: it is delayed, and the place that the slot had is free, and so is that
-- one's page where nothing is left on it.
use Rattle.std.proofs.Common.{◌≡◌, ℕ, ◌*◌, ◌<◌, Bool, true, false, not, ◌==◌, if◌then◌else◌, List, [], ◌∷◌, length, length-set, Option, Some, None, IfSome, IsSome, inl, inr, refl, sym, ap, ◌∙◌, subst, arith}
use Rattle.std.specs.Prelude.{slice_set}
use Rattle.std.specs.List.{AllByRecursion, flat_map, list_any}
use Rattle.std.specs.Option.{is_none, option_and_then, option_map}
use Rattle.std.proofs.lemmas.Bool.{cases_Bool, cases_eq, cases_lt, eqb-true, eq-eqb, le-leb, ne_eqb}
use Rattle.std.proofs.lemmas.List.{get_or-set_same, get_or-set_other}
use mathlib.Core.Logic.{⊎_elim}
use Rattle.om_chunk.specs.Pages.{page_in, page_with, page_left, place_in, offset_of, unless_unused, with_freed, with_place}
use Rattle.om_chunk.specs.Places.{ChunkPage, is_unused, with_place_at}
use Rattle.om_chunk.specs.declared.place.Place as chunk
use Rattle.om_chunk.specs.declared.place.Place.TheVariants as has
use Rattle.om_chunk.proofs.PageLaws.{kept-freed}
use Rattle.om_delay.specs.Slots.{slot_count, with_slot}
use Rattle.om_geom.specs.Addresses.{page_at}
use Rattle.om_geom.specs.FitLaws.{find-passes}
use Rattle.om_geom.specs.Numbers.{first_address, zone_pages}
use Rattle.om_model.specs.Pool.Free.{without_block, slot_of, into_slot}
use Rattle.om_model.specs.Pool.InUse.{Kind, Chunk, Use, use_of_place, uses_by_class, uses_of_pages, uses_of_block, uses, touches, is_free_page}
use Rattle.om_model.specs.Pool.Junk.{extent_of_place}
use Rattle.om_model.specs.Pool.Rules.{Rules, size_class}
use Rattle.om_model.specs.Pool.Standing.{block_at, delayed_at}
use Rattle.om_model.specs.Pool.State.{State, is_held}
use Rattle.om_model.specs.Pool.WellFormed.{BeginsRight}
use Rattle.om_model.specs.declared.block.Block.{Block}
use Rattle.om_model.specs.declared.block.Place.{Place}
use Rattle.om_model.proofs.Each.{all-weaker, all-both, all-append, all-filter, all-first, all-second, any-none, pairs-second, pairs-across}
use Rattle.om_model.proofs.Flat.{all-flat}
use Rattle.om_model.proofs.Free.{of-block, of-left, waiting}
use Rattle.om_model.proofs.Malloc.{chunk-uses}
use Rattle.om_model.proofs.PageKinds.{without_block-others, into_slot-kind}
use Rattle.om_model.proofs.Places.{untouched-free}
use Rattle.om_model.proofs.Sound.{HasWholePages, IsPlaced, IsSound, GoTogether, first_of, together-swap, well-formed, whole-no_chunk}
use Rattle.om_pages.specs.Tables.{kind_of, with_run}
use Rattle.om_pages.specs.TableLaws.{length-with_run, kind_of-with_run_in, kind_of-with_run_out}
use Rattle.om_pages.specs.declared.kind.PageKind.{PageKind}
use Rattle.om_pages.specs.declared.kind.PageKind.TheVariants as table
use Rattle.om_pool.specs.Tables.{Tables, StandFor, IsEntered, block_on, kind_by, kind_in, has_by, place_has}
use Rattle.om_pool.proofs.TableAnswers.{place-there}
use Rattle.om_pool.proofs.SlotLaws.{extents-put, slot-has, slot-found, slot-other, slot-all, slot-related}
use Rattle.om_pool.proofs.TableSteps.{page_by, chunk_page_by, Shows, Unbegun, pages_in, kinds_of, kind-class, vacant, vacant-free, same-table, shows, kind-stays, place-shown}
use Rattle.om_pool.proofs.TableUses.{all-kind_on, apart-unbegun, chunk-if, find-left, find-others, has-delayed, kind-of-block, no-pages, none-if, shown-place, untouched-kind, unused-page, IsKindOn, IsShown}

-- ---- a live place enters a slot

module _ (rules : Rules) (tables : Tables) (state : State) (place : Place) (block : Block) (slot : ℕ) (live : block_at state place.address ≡ Some block) (class_is : size_class rules block.size ≡ Some place.class)
    (low : slot < slot_count) (is : IsSound rules state) (next_is : IsSound rules (into_slot state slot place)) (stand : StandFor rules tables state) where
  abbrev next : State
  next = into_slot state slot place

  abbrev used : List Use
  used = uses rules state

  abbrev live_uses : List Use
  live_uses = flat_map (uses_of_block rules) state.live

  abbrev left_uses : List Use
  left_uses = flat_map (uses_of_block rules) ((without_block state place.address).live)

  slot-there : slot < length state.slots
  slot-there = let long = is.slots in omega arith

  own-uses : uses_of_block rules block ≡ use_of_place place ∷ []
  own-uses =
      let here = eqb-true block.address place.address (find-passes (λ (b : Block). b.address == place.address) state.live block live) in
      chunk-uses rules block.size place.class class_is block.address block.site ∙ ap (λ a. use_of_place (record { address = a; class = place.class }) ∷ []) here

  live-has : (P : Use → Type 0) → AllByRecursion P live_uses → P (use_of_place place)
  live-has P all = (subst (AllByRecursion P) own-uses (of-block rules state is place.address block live P all)).0

  own-shown : IsShown rules state place
  own-shown = shown-place rules state is place (λ P all. live-has P (all-first P live_uses (waiting state.slots) all))

  -- what the addresses have

  has-here : place_has next place.address ≡ has.Delayed
  has-here =
      has-delayed (delayed_at next place.address) (block_at next place.address)
      (slot-found place (λ other. other.address == place.address) state.slots slot (eq-eqb place.address place.address refl) slot-there)

  has-others : (a : ℕ) → ¬ (a ≡ place.address) → IfSome (slot_of state slot) (λ gone. (gone.address == a) ≡ false) → place_has next a ≡ place_has state a
  has-others a ne others =
      ap (λ o. has_by o (block_at next a)) (slot-other place (λ other. other.address == a) state.slots slot (ne_eqb place.address a (λ e. ne (sym e))) others)
      ∙ ap (has_by (delayed_at state a)) (find-left a place.address ne state.live)

  delayed-shown : (new : ℕ → chunk.Place) → new place.address ≡ has.Delayed → ((a : ℕ) → ¬ (a ≡ place.address) → new a ≡ place_has state a)
      → Shows new (kinds_of rules state) (with_place tables.chunks place.address has.Delayed) (pages_in rules)
  delayed-shown new here others =
      let own = own-shown in
      subst (λ (v : chunk.Place). Shows new (kinds_of rules state) (with_place tables.chunks place.address v) (pages_in rules)) here
      (place-shown (place_has state) new place.address (page_at place.address) place.class own.index own.at own.is own.below others (kinds_of rules state) tables.chunks (pages_in rules)
      (kind-class rules state is) own.there own.kind (shows rules tables state stand))

  -- what the pages are

  next-kind : (p : ℕ) → kinds_of rules next p ≡ (if is_free_page (uses rules next) p then None else kinds_of rules state p)
  next-kind p = into_slot-kind rules state is place.address block live p place slot refl own-uses

  used-kind : (p : ℕ) → is_free_page (uses rules next) p ≡ false → kinds_of rules next p ≡ kinds_of rules state p
  used-kind p in_use = next-kind p ∙ ap (λ b. if b then None else kinds_of rules state p) in_use

  free-kind : (p : ℕ) → is_free_page (uses rules next) p ≡ true → kinds_of rules next p ≡ None
  free-kind p free = next-kind p ∙ ap (λ b. if b then None else kinds_of rules state p) free

  others-kind : (p : ℕ) → IfSome (slot_of state slot) (λ gone. touches p (use_of_place gone) ≡ false) → kinds_of rules next p ≡ kinds_of rules state p
  others-kind p gone_clear = ⊎_elim
      (λ free.
      let Clear : Use → Type 0 = λ one. touches p one ≡ false in
      let all = untouched-free (uses rules next) p free in
      let later = waiting (slice_set state.slots slot (Some place)) in
      let both = slot-all place Clear state.slots slot slot-there (all-second Clear left_uses later all) gone_clear in
      let same = without_block-others rules state is place.address block live p (subst (AllByRecursion Clear) (sym own-uses) (both.0, tt)) in
      free-kind p free ∙ sym (untouched-kind (uses rules (without_block state place.address)) p (all-append Clear left_uses (waiting state.slots) (all-first Clear left_uses later all) both.1)) ∙ same)
      (used-kind p)
      (cases_Bool (is_free_page (uses rules next) p))

  -- the block of whole pages there is another one
  block-clear : (p : ℕ) (whole : Kind) → HasWholePages whole → kinds_of rules state p ≡ Some whole → (other : Block) (own : Option ℕ) → other.address ≡ place.address
      → AllByRecursion (λ one. IsKindOn rules state p one × IsKindOn rules state (page_at place.address) one) (uses_by_class rules other own) → list_any (touches p) (uses_by_class rules other own) ≡ false
  block-clear p whole is_whole kind other (Some class) here all =
      let one = use_of_place (record { address = other.address; class = class }) in
      any-none (touches p) (one ∷ []) (
        ⊎_elim
            (λ touched. let same : Some (Chunk class) ≡ Some whole = ((all.0).0).1 touched ∙ kind in absurd (whole-no_chunk whole class is_whole (let is : whole ≡ Chunk class = cc in is)))
            (λ isnt. isnt)
            (cases_Bool (touches p one)),
        tt,
      )
  block-clear p whole is_whole kind other None here all =
      let shown = own-shown in
      let K : ℕ → Type 0 = λ page. AllByRecursion (IsKindOn rules state page) (uses_of_pages rules other) in
      let at : ℕ = page_at place.address in
      let second = all-weaker (λ one. IsKindOn rules state p one × IsKindOn rules state at one) (IsKindOn rules state at) (uses_of_pages rules other) (λ one both. both.1) all in
      absurd (no-pages rules state other place.class (ap (λ a. kinds_of rules state (page_at a)) here ∙ shown.kind) (subst K (ap page_at (sym here)) second))

  block-stays : (p : ℕ) (whole : Kind) → HasWholePages whole → kinds_of rules state p ≡ Some whole → block_on rules state p ≡ block_on rules next p
  block-stays p whole is_whole kind =
      let at : ℕ = page_at place.address in
      let P : Use → Type 0 = λ one. IsKindOn rules state p one × IsKindOn rules state at one in
      let f = uses_of_block rules in
      let all = all-both (IsKindOn rules state p) (IsKindOn rules state at) P used (λ one first second. (first, second)) (all-kind_on rules state is p) (all-kind_on rules state is at) in
      sym (find-others (λ other. list_any (touches p) (f other)) place.address state.live
      (all-weaker (λ other. AllByRecursion P (f other)) (λ other. (other.address == place.address) ≡ true → list_any (touches p) (f other) ≡ false) state.live
      (λ other each here. block-clear p whole is_whole kind other (size_class rules other.size) (eqb-true other.address place.address here) each)
      (all-flat f P state.live (all-first P live_uses (waiting state.slots) all))))

  others-stay : (p : ℕ) → kinds_of rules next p ≡ kinds_of rules state p → kind_in rules state p ≡ kind_in rules next p
  others-stay p same =
      kind-stays (is_held state.held p) (block_on rules state p) (block_on rules next p) (kinds_of rules state p) (kinds_of rules next p)
      (kind-of-block (kinds_of rules state p) (block_on rules state p) (block_on rules next p) (block-stays p) ∙ ap (kind_by (block_on rules next p)) (sym same))

  left-entered : AllByRecursion (IsEntered rules tables.blocks) next.live
  left-entered = all-filter (IsEntered rules tables.blocks) (λ (other : Block). not (other.address == place.address)) state.live stand.blocks

  -- the slot had nothing
  pub put-off-new : slot_of state slot ≡ None
      → StandFor rules (record tables { chunks = with_place tables.chunks place.address has.Delayed; slots = with_slot tables.slots slot (extent_of_place place) }) (into_slot state slot place)
  put-off-new empty =
      let nothing : (P : Place → Type 0) → IfSome (slot_of state slot) P = λ P. subst (λ o. IfSome o P) (sym empty) tt in
      let shown = delayed-shown (place_has next) has-here (λ a ne. has-others a ne (nothing (λ gone. (gone.address == a) ≡ false))) in
      let kinds : (p : ℕ) → kinds_of rules next p ≡ kinds_of rules state p = λ p. others-kind p (nothing (λ gone. touches p (use_of_place gone) ≡ false)) in
      record {
        pages_all = stand.pages_all;
        chunks_all = shown.long;
        blocks_all = stand.blocks_all;
        pages = λ p low. stand.pages p low ∙ others-stay p (kinds p);
        chunks = λ p low. shown.each p low ∙ sym (same-table next p (kinds_of rules next p) ∙ ap (chunk_page_by (place_has next) p) (kinds p));
        blocks = left-entered;
        slots = ap (λ slots. with_slot slots slot (extent_of_place place)) stand.slots ∙ extents-put state.slots slot place;
        memory = stand.memory;
      }

  -- the slot had a place
  module _ (gone : Place) (full : slot_of state slot ≡ Some gone) where
    abbrev before : List (Option ChunkPage)
    before = with_place tables.chunks place.address has.Delayed

    slot-gone : (P : Use → Type 0) → AllByRecursion P used → P (use_of_place gone)
    slot-gone P all = slot-has P state.slots slot gone (all-second P live_uses (waiting state.slots) all) full

    gone-shown : IsShown rules state gone
    gone-shown = shown-place rules state is gone slot-gone

    -- nothing begins there then
    gone-unbegun : AllByRecursion (Unbegun gone.address) (uses rules next)
    gone-unbegun =
        let sound = is.sound in
        let next_sound = next_is.sound in
        let old = waiting state.slots in
        let later = waiting (slice_set state.slots slot (Some place)) in
        let Beside : Use → Type 0 = GoTogether (use_of_place gone) in
        let beside : AllByRecursion Beside live_uses = all-weaker (λ one. AllByRecursion (GoTogether one) old) Beside live_uses
        (λ one all. together-swap one (use_of_place gone) (slot-has (GoTogether one) state.slots slot gone all full)) (pairs-across GoTogether live_uses old sound.together) in
        all-both Beside (IsPlaced rules state.held) (Unbegun gone.address) (uses rules next)
        (λ one both placed. apart-unbegun rules state.held gone one (slot-gone (IsPlaced rules state.held) sound.placed) placed both)
        (all-append Beside left_uses later (of-left rules state is place.address block live Beside beside)
        (slot-related place GoTogether together-swap state.slots slot gone (pairs-second GoTogether live_uses old sound.together) full (live-has Beside beside)))
        next_sound.placed

    has-gone : place_has next gone.address ≡ has.Free
    has-gone = vacant-free next gone.address (vacant rules gone.address next gone-unbegun)

    -- what the addresses have once the place is delayed, and the other not yet free
    abbrev between : ℕ → chunk.Place
    between a = if a == place.address then has.Delayed else place_has state a

    between-here : (a : ℕ) → a ≡ place.address → between a ≡ has.Delayed
    between-here a same = ap (λ b. if b then has.Delayed else place_has state a) (eq-eqb a place.address same)

    between-others : (a : ℕ) → ¬ (a ≡ place.address) → between a ≡ place_has state a
    between-others a ne = ap (λ b. if b then has.Delayed else place_has state a) (ne_eqb a place.address ne)

    has-after : (a : ℕ) → ¬ (a ≡ gone.address) → place_has next a ≡ between a
    has-after a ne = ⊎_elim
        (λ same. ap (place_has next) same ∙ has-here ∙ sym (between-here a same))
        (λ other. has-others a other (subst (λ o. IfSome o (λ (p : Place). (p.address == a) ≡ false)) (sym full) (ne_eqb gone.address a (λ e. ne (sym e)))) ∙ sym (between-others a other))
        (cases_eq a place.address)

    before-shown : Shows between (kinds_of rules state) before (pages_in rules)
    before-shown = delayed-shown between (between-here place.address refl) between-others

    freed-shown : Shows (place_has next) (kinds_of rules state) (with_place before gone.address has.Free) (pages_in rules)
    freed-shown =
        let own = gone-shown in
        subst (λ (v : chunk.Place). Shows (place_has next) (kinds_of rules state) (with_place before gone.address v) (pages_in rules)) has-gone
        (place-shown between (place_has next) gone.address (page_at gone.address) gone.class own.index own.at own.is own.below has-after (kinds_of rules state) before (pages_in rules)
        (kind-class rules state is) own.there own.kind before-shown)

    abbrev gone_page : ℕ
    gone_page = page_at gone.address

    -- until it is free it is a place of a held chunk page
    pub gone-place : IsSome (place_in (with_place tables.chunks place.address has.Delayed) gone.address)
    gone-place =
        let own = gone-shown in
        let shown = before-shown in
        let formed = well-formed rules state is in
        place-there before between gone_page gone.class gone.address
        (ap (λ b. if b then page_in before gone_page else None) (le-leb first_address gone.address (omega (arith, own.at)))
        ∙ shown.each gone_page own.there ∙ ap (chunk_page_by between gone_page) own.kind)
        (slot-gone (λ one. BeginsRight (first_of one) one.kind) formed.begin)

    pub gone-held : is_held state.held (page_at gone.address) ≡ true
    gone-held = let own = gone-shown in own.held_is

    pub gone-low : page_at gone.address < zone_pages * rules.zones
    gone-low = let own = gone-shown in own.there

    gone-there : gone_page < length before
    gone-there = let own = gone-shown in let there = own.there in let shown = before-shown in let long = shown.long in omega arith

    gone-unused : is_unused (page_by (place_has next) gone_page gone.class) ≡ is_free_page (uses rules next) gone_page
    gone-unused = let own = gone-shown in unused-page rules next next_is gone_page gone.class own.is (λ in_use. used-kind gone_page in_use ∙ own.kind)

    left-is : page_left before gone.address ≡ (if is_free_page (uses rules next) gone_page then None else Some (page_by (place_has next) gone_page gone.class))
    left-is =
        let own = gone-shown in
        let shown = freed-shown in
        sym (kept-freed before gone.address gone-there)
        ∙ ap (option_and_then unless_unused) (shown.each gone_page own.there ∙ ap (chunk_page_by (place_has next) gone_page) own.kind)
        ∙ ap (λ b. if b then None else Some (page_by (place_has next) gone_page gone.class)) gone-unused

    -- the page of the place that is free has nothing left exactly where it is a free page then
    pub put-off-left : is_none (page_left (with_place tables.chunks place.address has.Delayed) gone.address) ≡ is_free_page (uses rules (into_slot state slot place)) (page_at gone.address)
    put-off-left = ap is_none left-is ∙ none-if (is_free_page (uses rules next) gone_page) (page_by (place_has next) gone_page gone.class)

    others-same : (p : ℕ) → ¬ (p ≡ gone_page) → kinds_of rules next p ≡ kinds_of rules state p
    others-same p ne =
        let own = gone-shown in
        others-kind p (subst (λ o. IfSome o (λ (x : Place). touches p (use_of_place x) ≡ false)) (sym full) (own.touched p ∙ ne_eqb gone_page p (λ e. ne (sym e))))

    chunks-freed : (p : ℕ) → p < pages_in rules → page_in (with_freed before gone.address) p ≡ chunk_page_by (place_has next) p (kinds_of rules next p)
    chunks-freed p low =
        let own = gone-shown in
        let shown = freed-shown in
        let left = page_left before gone.address in
        let free = is_free_page (uses rules next) gone_page in
        ⊎_elim
        (λ same.
        subst (λ q. page_in (with_freed before gone.address) q ≡ chunk_page_by (place_has next) q (kinds_of rules next q)) (sym same)
        (get_or-set_same before gone_page left None gone-there ∙ left-is
        ∙ sym (ap (chunk_page_by (place_has next) gone_page) (next-kind gone_page ∙ ap (λ (kind : Option Kind). if free then None else kind) own.kind)
        ∙ chunk-if free (place_has next) gone_page gone.class)))
        (λ ne.
        get_or-set_other before gone_page p left None ne
        ∙ sym (get_or-set_other before gone_page p (option_map (λ (one : ChunkPage). with_place_at one (offset_of gone.address) has.Free) (page_with before gone.address)) None ne)
        ∙ shown.each p low ∙ ap (chunk_page_by (place_has next) p) (sym (others-same p ne)))
        (cases_eq p gone_page)

    abbrev freed_pages : Bool → List PageKind
    freed_pages free = if free then with_run tables.pages gone_page 1 table.Free else tables.pages

    pages-all : (free : Bool) → length (freed_pages free) ≡ zone_pages * rules.zones
    pages-all true = length-with_run tables.pages gone_page 1 table.Free ∙ stand.pages_all
    pages-all false = stand.pages_all

    pages-freed : (free : Bool) → is_free_page (uses rules next) gone_page ≡ free → (p : ℕ) → p < pages_in rules → kind_of (freed_pages free) p ≡ kind_in rules next p
    pages-freed true free p low =
        let own = gone-shown in
        let long = stand.pages_all in
        ⊎_elim
        (λ same.
        kind_of-with_run_in tables.pages gone_page 1 table.Free p (omega arith) (omega arith) (omega arith)
        ∙ sym (ap (λ b. if b then kind_by (block_on rules next p) (kinds_of rules next p) else table.Absent) (ap (is_held state.held) same ∙ own.held_is)
        ∙ ap (kind_by (block_on rules next p)) (ap (kinds_of rules next) same ∙ free-kind gone_page free)))
        (λ ne.
        kind_of-with_run_out tables.pages gone_page 1 table.Free p (⊎_elim (λ below. inl below) (λ above. inr (omega arith)) (cases_lt p gone_page))
        ∙ stand.pages p low ∙ others-stay p (others-same p ne))
        (cases_eq p gone_page)
    pages-freed false in_use p low =
        stand.pages p low
        ∙ others-stay p (⊎_elim
        (λ same. subst (λ q. kinds_of rules next q ≡ kinds_of rules state q) (sym same) (used-kind gone_page in_use))
        (λ ne. others-same p ne)
        (cases_eq p gone_page))

    pub put-off-gone : StandFor rules (record tables {
      pages = if is_free_page (uses rules (into_slot state slot place)) (page_at gone.address) then with_run tables.pages (page_at gone.address) 1 table.Free else tables.pages;
      chunks = with_freed (with_place tables.chunks place.address has.Delayed) gone.address;
      slots = with_slot tables.slots slot (extent_of_place place);
    }) (into_slot state slot place)
    put-off-gone =
        let shown = before-shown in
        let free = is_free_page (uses rules next) gone_page in
        record {
          pages_all = pages-all free;
          chunks_all = length-set before gone_page (page_left before gone.address) ∙ shown.long;
          blocks_all = stand.blocks_all;
          pages = pages-freed free refl;
          chunks = λ p low. chunks-freed p low ∙ sym (same-table next p (kinds_of rules next p));
          blocks = left-entered;
          slots = ap (λ slots. with_slot slots slot (extent_of_place place)) stand.slots ∙ extents-put state.slots slot place;
          memory = stand.memory;
        }
