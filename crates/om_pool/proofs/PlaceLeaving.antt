-- A place leaves its block: its bytes, what is filled, and what becomes of it and of the place that its slot had.
use Rattle.std.proofs.Common.{◌≡◌, ℕ, ◌*◌, ◌<◌, ◌≤◌, Bool, true, false, ◌==◌, nat_le, nat_lt, List, if◌then◌else◌, Option, Some, None, is_some, refl, sym, ap, ◌∙◌, subst, arith, IsSome}
use Rattle.std.specs.List.{flat_map, AllByRecursion}
use Rattle.std.specs.Option.{is_none, option_map}
use Rattle.std.specs.Prelude.{slice_index_or}
use Rattle.std.proofs.lemmas.List.{get_or-map, length-map}
use Rattle.std.proofs.lemmas.Bool.{and_from, and_parts, eqb-true}
use Rattle.om_broker.specs.declared.broker.Broker as broker
use Rattle.om_chunk.specs.Pages.{page_left, place_in, with_freed, with_place}
use Rattle.om_chunk.specs.declared.place.Place.TheVariants as has
use Rattle.om_delay.specs.Changes.{freed_byte, AreHeldSlots, IsHeldSlot}
use Rattle.om_delay.specs.Slots.{slot_at, slot_count, with_slot}
use Rattle.om_frame.specs.Memory.{IsHeldPart}
use Rattle.om_geom.specs.Addresses.{address_of, is_in_arena, page_at}
use Rattle.om_geom.specs.FitLaws.{find-passes}
use Rattle.om_geom.specs.Numbers.{first_address, most_zones, zone_pages}
use Rattle.om_geom.specs.declared.address.Extent.{Extent}
use Rattle.om_model.specs.Pool.Free.{Freed, kept_or_let_go, evicted, into_slot, put_off, slot_of, moved_to_slot}
use Rattle.om_model.specs.Pool.InUse.{Chunk, Use, use_of_place, uses_by_class, uses_of_block, uses, page_kind, is_free_page}
use Rattle.om_model.specs.Pool.Junk.{extent_of_place, fills_freed, with_freed_place}
use Rattle.om_model.specs.Pool.Rules.{Rules, size_class}
use Rattle.om_model.specs.Pool.Standing.{LivePlace, block_at, standing}
use Rattle.om_model.specs.Pool.State.{State, is_held, filled_with}
use Rattle.om_model.specs.Pool.WellFormed.{LiesOn}
use Rattle.om_model.specs.Pool.WriteAfterFree.{slot_extents}
use Rattle.om_model.specs.declared.block.Block.{Block}
use Rattle.om_model.specs.declared.block.Place.{Place}
use Rattle.om_model.specs.declared.entry.Move.{Move}
use Rattle.om_model.proofs.Bytes.{freed-drawn, freed-sound}
use Rattle.om_model.proofs.Each.{all-first, all-second}
use Rattle.om_model.proofs.Free.{into_slot-sound, of-block, waiting}
use Rattle.om_model.proofs.Sound.{IsSound, same_class, touches-first, well-formed}
use Rattle.om_pages.specs.Kinds as kinds
use Rattle.om_pages.specs.Tables.{AreAll, with_run}
use Rattle.om_pages.specs.declared.kind.PageKind.{PageKind}
use Rattle.om_pages.specs.declared.kind.PageKind.TheVariants as table
use Rattle.om_pool.specs.Asking.{one_page}
use Rattle.om_pool.specs.Chunks.{HoldsPlace}
use Rattle.om_pool.specs.HoldingsView.{rules_in, tables_in, IsSameBut}
use Rattle.om_pool.specs.Leaving.{IsPlaceOf, LeavesTo}
use Rattle.om_pool.specs.TableSteps.{delayed_place, filled_by, freed_filled, freed_place, page_goes}
use Rattle.om_pool.specs.Tables.{Tables, StandFor}
use Rattle.om_pool.specs.Underway.{HasComeTo}
use Rattle.om_pool.specs.declared.holdings.Holdings.{Holdings}
use Rattle.om_pool.specs.declared.pool_core.Core.{Core}
use Rattle.om_pool.proofs.CoreLaws.{same-rules}
use Rattle.om_pool.proofs.RunLeaving.{leaves-from}
use Rattle.om_pool.proofs.SlotLaws.{extent-at, if-waits, slot-has}
use Rattle.om_pool.proofs.TableAnswers.{HasPlace, live-place}
use Rattle.om_pool.proofs.TablePages.{all-held, bytes-filled, all-free}
use Rattle.om_pool.proofs.TableSlots.{gone-held, gone-low, gone-place, put-off-gone, put-off-left, put-off-new}
use Rattle.om_pool.proofs.TableUses.{IsKindOn, all-kind_on, no-pages}
use Rattle.om_pool.proofs.TableTies.{shelf-holds}
use Rattle.om_pool.proofs.UnderwayLaws.{come-changed, come-sound}

-- ---- a fill

module _ (rules : Rules) (place : Place) where
  abbrev byte_test : Bool
  byte_test = fills_freed rules

  freed-uses : (state : State) → uses rules (with_freed_place rules place state) ≡ uses rules state
  unfolding with_freed_place
  freed-uses state = by byte_test
    where
      by : (b : Bool) → uses rules (if b then filled_with freed_byte (extent_of_place place) state else state) ≡ uses rules state
      by true = refl
      by false = refl

  freed-held : (state : State) → (with_freed_place rules place state).held ≡ state.held
  unfolding with_freed_place
  freed-held state = by byte_test
    where
      by : (b : Bool) → (if b then filled_with freed_byte (extent_of_place place) state else state).held ≡ state.held
      by true = refl
      by false = refl

  freed-stands : (tables : Tables) (state : State) → StandFor rules tables state → StandFor rules (freed_filled rules place tables) (with_freed_place rules place state)
  unfolding with_freed_place
  freed-stands tables state stands = by byte_test
    where
      by : (b : Bool) → StandFor rules (if b then filled_by freed_byte (extent_of_place place) tables else tables) (if b then filled_with freed_byte (extent_of_place place) state else state)
      by true = bytes-filled rules tables state stands freed_byte (extent_of_place place)
      by false = stands

  -- it changes neither pages nor chunks
  freed-chunks : (tables : Tables) → (freed_filled rules place tables).chunks ≡ tables.chunks
  freed-chunks tables = by byte_test
    where
      by : (b : Bool) → (if b then filled_by freed_byte (extent_of_place place) tables else tables).chunks ≡ tables.chunks
      by true = refl
      by false = refl

  freed-pages : (tables : Tables) → (freed_filled rules place tables).pages ≡ tables.pages
  freed-pages tables = by byte_test
    where
      by : (b : Bool) → (if b then filled_by freed_byte (extent_of_place place) tables else tables).pages ≡ tables.pages
      by true = refl
      by false = refl

  freed-after : (tables : Tables) (address : ℕ) → freed_place (freed_filled rules place tables) address ≡ freed_filled rules place (freed_place tables address)
  freed-after tables address = by byte_test
    where
      by : (b : Bool) → freed_place (if b then filled_by freed_byte (extent_of_place place) tables else tables) address
          ≡ (if b then filled_by freed_byte (extent_of_place place) (freed_place tables address) else freed_place tables address)
      by true = refl
      by false = refl

-- a live place enters a slot, and its bytes are filled
pub filled-tables : (old delayed own : Holdings) (slot : ℕ) (place : Place) → tables_in delayed ≡ delayed_place (tables_in old) slot place → IsSameBut old delayed → tables_in own ≡ freed_filled (rules_in delayed) place (tables_in delayed)
    → tables_in own ≡ freed_filled (rules_in old) place (delayed_place (tables_in old) slot place)
filled-tables old delayed own slot place waits same fills =
    fills ∙ ap (λ r. freed_filled r place (tables_in delayed)) (same-rules old delayed same) ∙ ap (freed_filled (rules_in old) place) waits

-- ---- the bytes of places

-- memory has those of a place that lies on held pages
place-held : (rules : Rules) (state : State) → IsSound rules state → (place : Place) → LiesOn rules state (use_of_place place) → HoldsPlace state.memory place
place-held rules state is place lies byte low high =
    let both = and_parts (is_in_arena byte rules.zones) (is_held state.held (page_at byte)) (lies byte (omega arith, omega arith)) in
    let inside = and_parts (nat_le first_address byte) (nat_lt byte (address_of (zone_pages * rules.zones))) both.0 in
    and_from _ _ inside.0 (shelf-holds state (page_at byte) (is.bytes (page_at byte)) ∙ both.1)

-- and those of all that waits
pub slots-held : (rules : Rules) (tables : Tables) (state : State) → IsSound rules state → StandFor rules tables state → AreHeldSlots tables.memory tables.slots
slots-held rules tables state is stands =
    let formed = well-formed rules state is in
    let each : AreHeldSlots state.memory (slot_extents state.slots) = λ k d low.
    subst (IsHeldSlot state.memory) (sym (get_or-map (option_map extent_of_place) state.slots k None d (subst (λ n. k < n) (length-map state.slots (option_map extent_of_place)) low)))
    (if-waits (λ bytes. IsHeldPart state.memory bytes.first bytes.len) (slice_index_or state.slots k None) (λ place at.
    place-held rules state is place (slot-has (LiesOn rules state) state.slots k place (all-second (LiesOn rules state) (flat_map (uses_of_block rules) state.live) (waiting state.slots) formed.on_held) at))) in
    subst (λ memory. AreHeldSlots memory tables.slots) (sym stands.memory) (subst (AreHeldSlots state.memory) (sym stands.slots) each)

-- ---- a live place is put off

-- a place of a chunk page, which is held
pub record IsThere (own : Holdings) (address : ℕ) : Type 0 where
  pub chunk : IsSome (place_in own.chunks.pages address)
  pub held : AreAll kinds.is_held own.pages (page_at address) 1
  pub low : page_at address < zone_pages * most_zones

-- the class of a live block's size is that of its page
module _ (rules : Rules) (state : State) (is : IsSound rules state) (address : ℕ) (block : Block) (live : block_at state address ≡ Some block) (class : ℕ)
    (kind : page_kind (uses rules state) (page_at address) ≡ Some (Chunk class)) where
  block-begins : block.address ≡ address
  block-begins = eqb-true block.address address (find-passes (λ (b : Block). b.address == address) state.live block live)

  of-live : (P : Use → Type 0) → AllByRecursion P (uses rules state) → AllByRecursion P (uses_of_block rules block)
  of-live P all = of-block rules state is address block live P (all-first P (flat_map (uses_of_block rules) state.live) (waiting state.slots) all)

  live-class : size_class rules block.size ≡ Some class
  live-class =
      let at : ℕ = page_at block.address in
      by (size_class rules block.size) (ap (λ a. page_kind (uses rules state) (page_at a)) block-begins ∙ kind) (of-live (IsKindOn rules state at) (all-kind_on rules state is at))
    where
      by : (own : Option ℕ) → page_kind (uses rules state) (page_at block.address) ≡ Some (Chunk class) → AllByRecursion (IsKindOn rules state (page_at block.address)) (uses_by_class rules block own) → own ≡ Some class
      by None here all = absurd (no-pages rules state block class here all)
      by (Some own) here all =
          let one = use_of_place (record { address = block.address; class = own }) in
          let same : Some (Chunk own) ≡ Some (Chunk class) = (all.0).1 (touches-first one ((all.0).0).shape) ∙ here in
          let inner : Chunk own ≡ Chunk class = cc in
          ap Some (same_class own class inner)

  -- memory has the bytes of its place
  live-bytes : HoldsPlace state.memory (record { address = address; class = class })
  live-bytes =
      let formed = well-formed rules state is in
      let lies = (subst (AllByRecursion (LiesOn rules state)) (ap (uses_by_class rules block) live-class) (of-live (LiesOn rules state) formed.on_held)).0 in
      place-held rules state is (record { address = address; class = class }) (subst (λ a. LiesOn rules state (use_of_place (record { address = a; class = class }))) block-begins lies)

module _ (rules : Rules) (tables : Tables) (state : State) (is : IsSound rules state) (stands : StandFor rules tables state) (address : ℕ) (place : Place) (block : Block)
    (here : standing rules state address ≡ LivePlace place block) where
  pub lives : HasPlace rules tables state address place block
  lives = live-place rules tables state is stands address place block here

  live : block_at state place.address ≡ Some block
  live = let own = lives in ap (block_at state) own.place_is ∙ own.found_is

  on_page : page_kind (uses rules state) (page_at place.address) ≡ Some (Chunk place.class)
  on_page = let own = lives in ap (λ a. page_kind (uses rules state) (page_at a)) own.place_is ∙ own.on_page

  class_is : size_class rules block.size ≡ Some place.class
  class_is = live-class rules state is place.address block live place.class on_page

  pub block-class : size_class rules block.size ≡ Some place.class
  block-class = class_is

  pub place-of : IsPlaceOf rules state place block
  place-of = let own = lives in ap (standing rules state) own.place_is ∙ here

  -- the place is that of the block
  pub block-place : place ≡ record { address = block.address; class = place.class }
  block-place = let own = lives in ap (λ a. let p : Place = record { address = a; class = place.class } in p) (own.place_is ∙ sym own.block_is)

  pub place-bytes : HoldsPlace tables.memory place
  place-bytes =
      let Holds : List (List ℕ) → Type 0 = λ m. HoldsPlace m place in
      subst Holds (sym stands.memory) (live-bytes rules state is place.address block live place.class on_page)

  module _ (slot : ℕ) (low : slot < slot_count) where
    abbrev next : State
    next = into_slot state slot place

    abbrev put : State
    put = put_off rules state slot place

    abbrev waits : Tables
    waits = delayed_place tables slot place

    abbrev filled : Tables
    filled = freed_filled rules place waits

    next-sound : IsSound rules next
    next-sound = into_slot-sound rules state is place.address block live place.class slot on_page

    put-sound : IsSound rules put
    put-sound = freed-sound rules next next-sound place

    put-held : put.held ≡ state.held
    put-held = freed-held rules place next

    module _ (gone : Place) (full : slot_of state slot ≡ Some gone) where
      abbrev page : ℕ
      page = page_at gone.address

      abbrev freed : Tables
      freed = freed_place filled gone.address

      goes-by : page_goes waits gone.address ≡ is_free_page (uses rules next) page
      goes-by = put-off-left rules tables state place block slot live class_is low is next-sound stands gone full

      freed-stand : StandFor rules freed put
      freed-stand =
          let Stands : State → Tables → Type 0 = λ s t. StandFor rules t s in
          let same : freed_place waits gone.address
          ≡ record tables { pages = if is_free_page (uses rules next) page then with_run tables.pages page 1 table.Free else tables.pages; chunks = with_freed (with_place tables.chunks place.address has.Delayed) gone.address; slots = with_slot tables.slots slot (extent_of_place place) } =
          ap (λ b. record tables { pages = if b then with_run tables.pages page 1 table.Free else tables.pages; chunks = with_freed (with_place tables.chunks place.address has.Delayed) gone.address; slots = with_slot tables.slots slot (extent_of_place place) }) goes-by in
          subst (Stands put) (sym (freed-after rules place waits gone.address))
          (freed-stands rules place (freed_place waits gone.address) next
          (subst (Stands next) (sym same) (put-off-gone rules tables state place block slot live class_is low is next-sound stands gone full)))

      goes : is_free_page (uses rules put) page ≡ page_goes filled gone.address
      goes =
          ap (λ used. is_free_page used page) (freed-uses rules place next) ∙ sym goes-by
          ∙ ap (λ chunks. is_none (page_left chunks gone.address)) (sym (freed-chunks rules place waits))

      held-there : is_held state.held page ≡ true
      held-there = gone-held rules tables state place block slot live class_is low is next-sound stands gone full

      -- the place that the slot had is there still
      gone-there : (own : Holdings) → tables_in own ≡ filled → rules.zones ≤ most_zones → IsThere own gone.address
      gone-there own own_is few =
          let there = gone-low rules tables state place block slot live class_is low is next-sound stands gone full in
          let All : List PageKind → Type 0 = λ t. AreAll kinds.is_held t page 1 in
          record {
            chunk = ap (λ (t : Tables). is_some (place_in t.chunks gone.address)) own_is
                ∙ ap (λ chunks. is_some (place_in chunks gone.address)) (freed-chunks rules place waits)
                ∙ gone-place rules tables state place block slot live class_is low is next-sound stands gone full;
            held = subst All (sym (ap (λ (t : Tables). t.pages) own_is ∙ freed-pages rules place waits))
                (all-held rules tables state stands page 1 (omega arith) (λ p from to. let same : p ≡ page = omega arith in ap (is_held state.held) same ∙ held-there));
            low = omega arith;
          }

      -- where nothing is left on its page, that is free
      gone-free : page_goes filled gone.address ≡ true → AreAll kinds.is_free freed.pages page 1
      gone-free empty =
          let there = gone-low rules tables state place block slot live class_is low is next-sound stands gone full in
          all-free rules freed put freed-stand page 1 (omega arith)
          (λ p from to.
          let same : p ≡ page = omega arith in
          (ap (is_held put.held) same ∙ ap (λ held. is_held held page) put-held ∙ held-there, ap (is_free_page (uses rules put)) same ∙ goes ∙ empty))

      evicted-by : (goes_by : Bool) → page_goes filled gone.address ≡ goes_by
          → moved_to_slot rules state slot place ≡ (if goes_by then kept_or_let_go rules put (one_page page) else record { release = None; next = put })
      evicted-by goes_by is_so =
          ap (evicted rules put) full
          ∙ ap (λ (b : Bool). let left : Freed = if b then kept_or_let_go rules put (one_page page) else record { release = None; next = put } in left) (goes ∙ is_so)

    -- the slot had nothing
    put-new : slot_of state slot ≡ None → StandFor rules filled put
    put-new empty = freed-stands rules place waits next (put-off-new rules tables state place block slot live class_is low is next-sound stands empty)

-- what the slot had
record IsOut (waits : Option Place) (gone : Extent) : Type 0 where
  place : Place
  is : waits ≡ Some place
  at : gone ≡ extent_of_place place

out-of : (waits : Option Place) (gone : Extent) → option_map extent_of_place waits ≡ Some gone → IsOut waits gone
out-of None gone e = cc
out-of (Some place) gone e = record { place = place; is = refl; at = cc }

none-of : (waits : Option Place) → option_map extent_of_place waits ≡ None → waits ≡ None
none-of None e = refl
none-of (Some place) e = cc

-- a state to which the core has come, in which the place is live
module _ {B A : Type 0} (g : broker.Ghosts B A) (old : Core) (b : B) (state : State) (come : HasComeTo g old b state) (place : Place) (block : Block) (here : IsPlaceOf (rules_in old.state) state place block) where
  abbrev rules : Rules
  rules = rules_in old.state

  abbrev tables : Tables
  tables = tables_in old.state

  abbrev is : IsSound rules state
  is = come-sound g old b state come

  abbrev stands : StandFor rules tables state
  stands = come.tables

  pub come-lives : HasPlace rules tables state place.address place block
  come-lives = lives rules tables state is stands place.address place block here

  pub come-bytes : HoldsPlace old.state.shelf place
  come-bytes = place-bytes rules tables state is stands place.address place block here

  module _ (slot : ℕ) (low : slot < slot_count) where
    abbrev pub state_put : State
    state_put = put_off rules state slot place

    abbrev pub tables_put : Tables
    tables_put = freed_filled rules place (delayed_place tables slot place)

    held-put : state_put.held ≡ state.held
    held-put = put-held rules tables state is stands place.address place block here slot low

    waits-here : slot_at old.state.slots slot ≡ option_map extent_of_place (slot_of state slot)
    waits-here = ap (λ slots. slot_at slots slot) stands.slots ∙ extent-at state.slots slot

    -- holdings whose tables stand for the state after it
    module _ (own : Holdings) (same : IsSameBut old.state own) (own_stands : StandFor rules (tables_in own) state_put) where
      come-put : HasComeTo g (record old { state = own }) b state_put
      come-put = come-changed g old b state come own state_put same own_stands (put-sound rules tables state is stands place.address place block here slot low) held-put (freed-drawn rules place (into_slot state slot place))

      -- no page became free
      stays : moved_to_slot rules state slot place ≡ record { release = None; next = state_put } → LeavesTo g old (record old { state = own }) b b state (moved_to_slot rules state slot place) None
      stays left_is =
          let P : Freed → Type 0 = λ left. LeavesTo g old (record old { state = own }) b b state left None in
          subst P (sym left_is) (record { come = come-put; gives_up = record { run_is = refl; inside = tt }; broker = (refl, held-put); rules = same-rules old.state own same })

    -- the slot had nothing
    pub leaves-empty : slot_at old.state.slots slot ≡ None → (own : Holdings) → IsSameBut old.state own → tables_in own ≡ tables_put → (release : Option Move) → release ≡ None
        → LeavesTo g old (record old { state = own }) b b state (moved_to_slot rules state slot place) release
    leaves-empty was own same own_is release nothing =
        let P : Option Move → Type 0 = λ r. LeavesTo g old (record old { state = own }) b b state (moved_to_slot rules state slot place) r in
        let Stands : Tables → Type 0 = λ t. StandFor rules t state_put in
        let empty = none-of (slot_of state slot) (sym waits-here ∙ was) in
        subst P (sym nothing) (stays own same (subst Stands (sym own_is) (put-new rules tables state is stands place.address place block here slot low empty)) (ap (evicted rules state_put) empty))

    -- the slot had a place
    module _ (gone : Extent) (was : slot_at old.state.slots slot ≡ Some gone) where
      out : IsOut (slot_of state slot) gone
      out = out-of (slot_of state slot) gone (sym waits-here ∙ was)

      abbrev left : Place
      left = out.place

      at : gone.first ≡ left.address
      at = ap (λ (e : Extent). e.first) out.at

      pub out-there : (own : Holdings) → tables_in own ≡ tables_put → IsThere own gone.first
      out-there own own_is = subst (IsThere own) (sym at) (gone-there rules tables state is stands place.address place block here slot low left out.is own own_is come.few_zones)

      -- which is free now
      module _ (own : Holdings) (same : IsSameBut old.state own) (own_is : tables_in own ≡ freed_place tables_put gone.first) where
        freed-is : tables_in own ≡ freed_place tables_put left.address
        freed-is = own_is ∙ ap (freed_place tables_put) at

        out-stands : StandFor rules (tables_in own) state_put
        out-stands =
            let Stands : Tables → Type 0 = λ t. StandFor rules t state_put in
            subst Stands (sym freed-is) (freed-stand rules tables state is stands place.address place block here slot low left out.is)

        pub out-come : HasComeTo g (record old { state = own }) b state_put
        out-come = come-put own same out-stands

        left-by : (goes : Bool) → page_goes tables_put gone.first ≡ goes → moved_to_slot rules state slot place ≡ (if goes then kept_or_let_go rules state_put (one_page (page_at left.address)) else record { release = None; next = state_put })
        left-by goes goes_is = evicted-by rules tables state is stands place.address place block here slot low left out.is goes (ap (page_goes tables_put) (sym at) ∙ goes_is)

        pub leaves-on : page_goes tables_put gone.first ≡ false → LeavesTo g old (record old { state = own }) b b state (moved_to_slot rules state slot place) None
        leaves-on in_use = stays own same out-stands (left-by false in_use)

        -- with its page
        module _ (empty : page_goes tables_put gone.first ≡ true) where
          pub out-free : AreAll kinds.is_free own.pages (page_at gone.first) 1
          out-free =
              let Free : List PageKind → ℕ → Type 0 = λ t p. AreAll kinds.is_free t p 1 in
              subst (Free own.pages) (ap page_at (sym at)) (subst (λ t. Free t (page_at left.address)) (sym (ap (λ (t : Tables). t.pages) freed-is))
              (gone-free rules tables state is stands place.address place block here slot low left out.is (ap (page_goes tables_put) (sym at) ∙ empty)))

          pub leaves-page : (page : ℕ) → page ≡ page_at gone.first → (new : Core) (after : B) (release : Option Move)
              → LeavesTo g (record old { state = own }) new b after state_put (kept_or_let_go (rules_in own) state_put (one_page page)) release → LeavesTo g old new b after state (moved_to_slot rules state slot place) release
          leaves-page page page_is new after release leaves =
              let ruled = same-rules old.state own same in
              leaves-from g old (record old { state = own }) new b after state state_put (kept_or_let_go (rules_in own) state_put (one_page page)) (moved_to_slot rules state slot place) release ruled held-put
              (ap (λ r. kept_or_let_go r state_put (one_page page)) ruled ∙ ap (λ p. kept_or_let_go rules state_put (one_page p)) (page_is ∙ ap page_at at) ∙ sym (left-by true empty)) leaves
