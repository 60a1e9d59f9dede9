-- What becomes of the tables by a chunk: on the pool's own place, or on a claimed page.
use Rattle.std.proofs.Common.{◌≡◌, ℕ, ◌+◌, ◌*◌, ◌<◌, true, false, Option, Some, None, IsTrue, unwrap_or, refl, sym, ap, ◌∙◌, subst, arith}
use Rattle.std.specs.List.{find}
use Rattle.std.proofs.lemmas.Nat.{mod_below}
use Rattle.om_chunk.specs.Picks as picks
use Rattle.om_chunk.specs.declared.pages.Picked.{Picked}
use Rattle.om_geom.specs.ClassLaws.{class_of-is_class}
use Rattle.om_geom.specs.Classes.{is_class}
use Rattle.om_geom.specs.FitLaws.{find-passes}
use Rattle.om_geom.specs.Numbers.{zone_pages}
use Rattle.om_model.specs.Pool.InUse.{uses, is_free_page}
use Rattle.om_model.specs.Pool.Junk.{data_by_class, data_extent, extent_of_place}
use Rattle.om_model.specs.Pool.Malloc.{address_on, block_placed, malloc, placed_on, placed_where, with_block, Placed, entered}
use Rattle.om_model.specs.Pool.Picks.{is_chunk_page, own_page, picked_place, place_address}
use Rattle.om_model.specs.Pool.Rules.{Rules, size_class, word_at}
use Rattle.om_model.specs.Pool.Runs.{Run, run_of}
use Rattle.om_model.specs.Pool.State.{State, drawn_more, is_held, with_pages}
use Rattle.om_model.specs.Pool.Steps.{Step}
use Rattle.om_model.specs.declared.block.Block.{Block}
use Rattle.om_model.specs.declared.block.Place.{Place}
use Rattle.om_model.specs.declared.entry.Move.{Move}
use Rattle.om_model.proofs.Held.{held-in_run}
use Rattle.om_model.proofs.Malloc.{chunk-address, chunk-malloc, drawn_more-sound, with_pages-sound}
use Rattle.om_model.proofs.Places.{picked, serves-own, serves-run, untouched-free, IsPicked, IsUntouched, Serves}
use Rattle.om_model.proofs.Sound.{IsSound}
use Rattle.om_pages.specs.FreeRuns.{lowest_run}
use Rattle.om_pool.specs.Asking.{one_page}
use Rattle.om_pool.specs.Malloc.{opened, IsPlacedFirst, IsPlacedOn}
use Rattle.om_pool.specs.TableSteps.{claimed_run, fresh_page, live_place, settled}
use Rattle.om_pool.specs.Tables.{Tables, StandFor}
use Rattle.om_pool.proofs.Fills.{canaries-stand, unwritten}
use Rattle.om_pool.proofs.PlacingLaws.{IsNewRun}
use Rattle.om_pool.proofs.TablePages.{lowest-page, pages-come, words-drawn}
use Rattle.om_pool.proofs.TablePicks.{fresh-picked, own-none, own-some}
use Rattle.om_pool.proofs.TableSteps.{placed-fresh, placed-own}
use Rattle.om_pool.proofs.TableTies.{free-unheld}

-- ---- a block on a place that was picked

module _ (rules : Rules) (size class : ℕ) (class_is : size_class rules size ≡ Some class) (site : ℕ) where
  is_one : IsTrue (is_class class)
  is_one = class_of-is_class size rules.options.canary class class_is

  module _ (page index : ℕ) where
    abbrev address : ℕ
    address = place_address page class index

    abbrev block : Block
    block = record { address = address; size = size; site = site }

    abbrev place : Place
    place = record { address = address; class = class }

    extent-is : data_extent rules block ≡ extent_of_place place
    extent-is = ap (data_by_class block) class_is

    -- where the place was picked on the page, the block goes there
    placed-is : (state : State) (word : ℕ) → picked_place (uses rules state) page class word ≡ Some index
        → placed_on rules state page word size site ≡ record { address = Some address; next = entered rules block state }
    placed-is state word picks =
        let at : address_on rules state page word (size_class rules size) ≡ address = chunk-address rules size class class_is state page word ∙ ap (λ o. place_address page class (unwrap_or o 0)) picks in
        ap (λ a. let one : Block = record { address = a; size = size; site = site } in let placed : Placed = record { address = Some a; next = entered rules one state } in placed) at

    -- the tables then, if the block's placing keeps the state sound
    module _ (tables : Tables) (state : State) (is : IsSound rules state) (stands : StandFor rules tables state) (there : page < zone_pages * rules.zones)
        (serves : Serves rules state.held (uses rules state) page class) (word : ℕ) (picks : picked_place (uses rules state) page class word ≡ Some index)
        (next_is : IsSound rules (entered rules block state)) where
      is-picked : IsPicked (uses rules state) page class index
      is-picked = let P : Option ℕ → Type 0 = λ o. IsPicked (uses rules state) page class (unwrap_or o 0) in subst P picks (picked (uses rules state) page class word is_one serves.room)

      with-sound : IsSound rules (with_block block state)
      with-sound = unwritten rules (with_block block state) block is.pages is.bytes next_is

      pub settled-own : is_chunk_page (uses rules state) class page ≡ true → StandFor rules (settled rules tables address class size site) (entered rules block state)
      settled-own chunks =
          let one = is-picked in
          canaries-stand rules block (extent_of_place place) extent-is (live_place tables address size site) (with_block block state)
          (placed-own rules tables state address page class index size site class_is refl there one.below is with-sound stands one.free chunks)

      pub settled-fresh : is_held state.held page ≡ true → is_free_page (uses rules state) page ≡ true → StandFor rules (settled rules (fresh_page tables page class) address class size site) (entered rules block state)
      settled-fresh held free =
          let one = is-picked in
          canaries-stand rules block (extent_of_place place) extent-is (live_place (fresh_page tables page class) address size site) (with_block block state)
          (placed-fresh rules tables state address page class index size site class_is refl there one.below is with-sound stands held free)

  -- ---- the step as a whole

  module _ (tables : Tables) (state : State) (is : IsSound rules state) (stands : StandFor rules tables state) (first second : ℕ) (first_is : first ≡ word_at rules state.drawn) (second_is : second ≡ word_at rules (state.drawn + 1)) where
    abbrev drawn : State
    drawn = drawn_more 2 state

    abbrev own : Option ℕ
    own = own_page (uses rules state) state.held class first

    drawn-is : IsSound rules drawn
    drawn-is = drawn_more-sound rules 2 state is

    drawn-stands : StandFor rules tables drawn
    drawn-stands = words-drawn rules tables state stands 2

    pub malloc-by : (claim : Option Move) → malloc rules state size site claim ≡ block_placed rules 2 (placed_where rules drawn own claim second size site)
    malloc-by claim =
        chunk-malloc rules size class class_is state site claim
        ∙ ap (λ w. block_placed rules 2 (placed_where rules drawn (own_page (uses rules state) state.held class w) claim (word_at rules (state.drawn + 1)) size site)) (sym first_is)
        ∙ ap (λ w. block_placed rules 2 (placed_where rules drawn own claim w size site)) (sym second_is)

    -- what the pool's own place is to the state, and what the tables are once the block is there
    pub record Places (new : Tables) (claim : Option Move) (result : Option ℕ) : Type 0 where
      pub address_is : (placed_where rules drawn own claim second size site).address ≡ result
      pub stands_then : StandFor rules new (placed_where rules drawn own claim second size site).next

    module _ (claim : Option Move) (next_is : IsSound rules ((malloc rules state size site claim).next)) where
      placed-sound : IsSound rules (placed_where rules drawn own claim second size site).next
      placed-sound = let P : Step → Type 0 = λ s. IsSound rules s.next in subst P (malloc-by claim) next_is

      -- on a page that serves the class
      places-on : (new : Tables) (page index : ℕ) → own ≡ Some page → picked_place (uses rules drawn) page class second ≡ Some index
          → (IsSound rules (entered rules (block page index) drawn) → StandFor rules new (entered rules (block page index) drawn))
          → Places new claim (Some (place_address page class index))
      places-on new page index at picks after =
          let whole : placed_where rules drawn own claim second size site ≡ record { address = Some (address page index); next = entered rules (block page index) drawn } =
          ap (λ o. placed_where rules drawn o claim second size site) at ∙ placed-is page index drawn second picks in
          let sound : IsSound rules (entered rules (block page index) drawn) = let P : Placed → Type 0 = λ p. IsSound rules p.next in subst P whole placed-sound in
          record {
            address_is = ap (λ (p : Placed). p.address) whole;
            stands_then = let P : Placed → Type 0 = λ p. StandFor rules new p.next in subst P (sym whole) (after sound);
          }

      serves-page : (page : ℕ) → own ≡ Some page → Serves rules state.held (uses rules state) page class
      serves-page page at = let sound = is.sound in serves-own rules state.held (uses rules state) sound.placed page class first is_one is.arena sound.together at

      -- on an open page
      pub places-open : (found : Picked) (new : Tables) (result : Option ℕ) → picks.picked tables.chunks class first second ≡ Some found → IsPlacedOn rules tables new class (found.page).0 found.place size site result
          → Places new claim result
      places-open found new result some on =
          let page = (found.page).0 in
          let both = own-some rules tables state is stands class is_one first second found some in
          let serves = serves-page page both.0 in
          let New : Tables → Type 0 = λ t. Places t claim result in
          let Result : Option ℕ → Type 0 = λ r. Places (settled rules tables (place_address page class found.place) class size site) claim r in
          subst New (sym on.new_is) (subst Result (sym on.result_is)
          (places-on (settled rules tables (place_address page class found.place) class size site) page found.place both.0 both.1
          (λ sound. settled-own page found.place tables drawn drawn-is drawn-stands serves.there serves second both.1 sound both.2)))

      -- on the lowest free page
      pub places-fresh : (page place : ℕ) (new : Tables) (result : Option ℕ) → picks.picked tables.chunks class first second ≡ None → lowest_run tables.pages 1 ≡ Some page
          → picks.place_on (fresh_page tables page class).chunks page second ≡ Some place → IsPlacedOn rules (fresh_page tables page class) new class page place size site result → Places new claim result
      places-fresh page place new result none low picks on =
          let found : find (is_free_page (uses rules state)) state.held ≡ Some page = sym (lowest-page rules tables state is stands) ∙ low in
          let at : own ≡ Some page = own-none rules tables state is stands class is_one first second none ∙ found in
          let serves = serves-page page at in
          let free = find-passes (is_free_page (uses rules state)) state.held page found in
          let picked_is : picked_place (uses rules state) page class second ≡ Some place = sym (fresh-picked rules tables state is stands class is_one page second serves.there (untouched-free (uses rules state) page free)) ∙ picks in
          let New : Tables → Type 0 = λ t. Places t claim result in
          let Result : Option ℕ → Type 0 = λ r. Places (settled rules (fresh_page tables page class) (place_address page class place) class size site) claim r in
          subst New (sym on.new_is) (subst Result (sym on.result_is)
          (places-on (settled rules (fresh_page tables page class) (place_address page class place) class size site) page place at picked_is
          (λ sound. settled-fresh page place tables drawn drawn-is drawn-stands serves.there serves second picked_is sound serves.held_is free)))

    -- the pool has none
    pub own-nothing : picks.picked tables.chunks class first second ≡ None → lowest_run tables.pages 1 ≡ None → own ≡ None
    own-nothing none low = own-none rules tables state is stands class is_one first second none ∙ sym (lowest-page rules tables state is stands) ∙ low

    pub places-nowhere : own ≡ None → Places tables None None
    places-nowhere at =
        let whole = ap (λ o. placed_where rules drawn o None second size site) at in
        record { address_is = ap (λ (p : Placed). p.address) whole; stands_then = let P : Placed → Type 0 = λ p. StandFor rules tables p.next in subst P (sym whole) drawn-stands }

    -- on a claimed page
    pub places-claimed : (move : Move) (new : Tables) (result : Option ℕ) → own ≡ None → IsSound rules ((malloc rules state size site (Some move)).next) → IsNewRun rules state 1 (run_of move)
        → IsPlacedFirst rules tables new (run_of move) class second size site result → Places new (Some move) result
    places-claimed move new result at next_is new_run placed_so =
        let page = (run_of move).first in
        let there : page < zone_pages * rules.zones = let all = new_run.there in omega arith in
        let unheld : is_held state.held page ≡ false = new_run.fresh page (omega arith) (omega arith) in
        let run_is : run_of move ≡ one_page page = ap (λ n. let r : Run = record { first = page; count = n } in r) new_run.count_is in
        let placed : IsPlacedFirst rules tables new (one_page page) class second size site result = let P : Run → Type 0 = λ r. IsPlacedFirst rules tables new r class second size site result in subst P run_is placed_so in
        let index = placed.place in
        let on = placed.on in
        let came : State = with_pages (one_page page) drawn in
        let came_is : IsSound rules came = with_pages-sound rules drawn (one_page page) (omega arith) drawn-is in
        let came_stands : StandFor rules (claimed_run tables (one_page page)) came = pages-come rules tables drawn drawn-stands (one_page page) drawn-is (λ p low high. let same : p ≡ page = omega arith in ap (is_held state.held) same ∙ unheld) in
        let free : is_free_page (uses rules came) page ≡ true = free-unheld rules state is page unheld in
        let untouched = untouched-free (uses rules came) page free in
        let held : is_held came.held page ≡ true = held-in_run (one_page page) state.held page (omega arith) (omega arith) in
        let serves = let sound = came_is.sound in serves-run rules came.held (uses rules came) sound.placed page class is_one
        (record {
          held_is = λ p low high. let same : p ≡ page = omega arith in ap (is_held came.held) same ∙ held;
          there = omega arith;
          untouched = λ p low high. let same : p ≡ page = omega arith in let P : ℕ → Type 0 = λ q. IsUntouched (uses rules came) q in subst P (sym same) untouched;
          zone = omega (arith, mod_below page 32 (omega arith));
        }) in
        let picked_is : picked_place (uses rules came) page class second ≡ Some index =
        sym (fresh-picked rules (claimed_run tables (one_page page)) came came_is came_stands class is_one page second there untouched) ∙ placed.place_is in
        let whole : placed_where rules drawn own (Some move) second size site ≡ record { address = Some (address page index); next = entered rules (block page index) came } =
        ap (λ o. placed_where rules drawn o (Some move) second size site) at
        ∙ ap (λ r. placed_on rules (with_pages r drawn) r.first second size site) run_is
        ∙ placed-is page index came second picked_is in
        let sound : IsSound rules (entered rules (block page index) came) =
        let P : Step → Type 0 = λ s. IsSound rules s.next in let Q : Placed → Type 0 = λ p. IsSound rules p.next in subst Q whole (subst P (malloc-by (Some move)) next_is) in
        let New : Tables → Type 0 = λ t. Places t (Some move) result in
        let after : Tables = settled rules (opened tables (one_page page) class) (place_address page class index) class size site in
        let Result : Option ℕ → Type 0 = λ r. Places after (Some move) r in
        subst New (sym on.new_is) (subst Result (sym on.result_is)
        (record {
          address_is = ap (λ (p : Placed). p.address) whole;
          stands_then = let P : Placed → Type 0 = λ p. StandFor rules after p.next in
              subst P (sym whole) (settled-fresh page index (claimed_run tables (one_page page)) came came_is came_stands there serves second picked_is sound held free);
        }))
