-- The live blocks after the parts of a step: what is written changes none, and neither does a run that becomes free.
use Rattle.std.proofs.Common.{◌≡◌, ℕ, ◌+◌, ◌++◌, Bool, true, false, ◌==◌, if◌then◌else◌, List, [], ◌∷◌, Option, Some, None, refl, ap, ◌∙◌}
use Rattle.std.specs.List.{find}
use Rattle.std.specs.Option.{option_or}
use Rattle.std.proofs.lemmas.List.Folds.{find-append}
use Rattle.om_delay.specs.Changes.{freed_byte}
use Rattle.om_geom.specs.Addresses.{page_at}
use Rattle.om_model.specs.Pool.Calloc.{zeroed_at}
use Rattle.om_model.specs.Pool.Canaries.{with_canaries}
use Rattle.om_model.specs.Pool.Free.{Freed, is_surplus, kept_or_let_go, evicted, without_block, drawn_slot, slot_of, into_slot, put_off, delay, moved_to_slot, without_page_block}
use Rattle.om_model.specs.Pool.InUse.{uses, is_free_page}
use Rattle.om_model.specs.Pool.Junk.{fills_freed, fresh_byte, data_extent, extent_of_place, with_fresh_junk, new_data, with_new_data, with_freed_place, with_freed_pages}
use Rattle.om_model.specs.Pool.Malloc.{words_for, page_for, entered, address_on, placed_where, placing}
use Rattle.om_model.specs.Pool.Rules.{Rules, word_at, size_class}
use Rattle.om_model.specs.Pool.Runs.{Run, run_of}
use Rattle.om_model.specs.Pool.Standing.{block_at}
use Rattle.om_model.specs.Pool.State.{State, drawn_more, filled_with, with_pages, without_pages}
use Rattle.om_model.specs.declared.block.Block.{Block}
use Rattle.om_model.specs.declared.block.Place.{Place}
use Rattle.om_model.specs.declared.entry.Move.{Move}

pub freed-live : (rules : Rules) (place : Place) (state : State) → (with_freed_place rules place state).live ≡ state.live
unfolding with_freed_place
freed-live rules place state = by (fills_freed rules)
  where
    by : (b : Bool) → (if b then filled_with freed_byte (extent_of_place place) state else state).live ≡ state.live
    by true = refl
    by false = refl

pub freed_pages-live : (rules : Rules) (block : Block) (state : State) → (with_freed_pages rules block state).live ≡ state.live
unfolding with_freed_pages
freed_pages-live rules block state = refl

pub let_go-live : (rules : Rules) (state : State) (run : Run) → ((kept_or_let_go rules state run).next).live ≡ state.live
unfolding kept_or_let_go
let_go-live rules state run = by (is_surplus rules state)
  where
    by : (b : Bool) → let left : Freed = if b then record { release = Some run; next = without_pages run state } else record { release = None; next = state } in (left.next).live ≡ state.live
    by true = refl
    by false = refl

pub evicted-live : (rules : Rules) (state : State) (slot : Option Place) → ((evicted rules state slot).next).live ≡ state.live
evicted-live rules state None = refl
evicted-live rules state (Some place) = by (is_free_page (uses rules state) (page_at place.address))
  where
    run : Run
    run = record { first = page_at place.address; count = 1 }

    by : (b : Bool) → let left : Freed = if b then kept_or_let_go rules state run else record { release = None; next = state } in (left.next).live ≡ state.live
    by true = let_go-live rules state run
    by false = refl

pub moved_to_slot-live : (rules : Rules) (state : State) (slot : ℕ) (place : Place) → ((moved_to_slot rules state slot place).next).live ≡ (without_block state place.address).live
moved_to_slot-live rules state slot place =
    evicted-live rules (put_off rules state slot place) (slot_of state slot) ∙ freed-live rules place (into_slot state slot place)

pub delay-live : (rules : Rules) (state : State) (place : Place) → ((delay rules state place).next).live ≡ (without_block state place.address).live
unfolding delay
delay-live rules state place = moved_to_slot-live rules (drawn_more 1 state) (drawn_slot rules state) place

pub page_block-live : (rules : Rules) (state : State) (block : Block) → ((without_page_block rules state block).next).live ≡ (without_block state block.address).live
page_block-live rules state block =
    let left = without_block state block.address in
    let_go-live rules (with_freed_pages rules block left) _ ∙ freed_pages-live rules block left

pub entered-live : (rules : Rules) (block : Block) (state : State) → (entered rules block state).live ≡ state.live ++ block ∷ []
unfolding with_canaries with_fresh_junk
entered-live rules block state = by (rules.options.junk == 2)
  where
    joined : State
    joined = record state { live = state.live ++ block ∷ [] }

    by : (b : Bool) → (if b then filled_with fresh_byte (data_extent rules block) joined else joined).live ≡ state.live ++ block ∷ []
    by true = refl
    by false = refl

pub canary-live : (rules : Rules) (block : Block) (state : State) → (with_canaries rules block state).live ≡ state.live
unfolding with_canaries
canary-live rules block state = refl

pub zeroed-live : (address : Option ℕ) (size : ℕ) (state : State) → (zeroed_at address size state).live ≡ state.live
zeroed-live None size state = refl
zeroed-live (Some address) size state = refl

pub new_data-live : (rules : Rules) (block : Block) (size : ℕ) (state : State) → (with_new_data rules block size state).live ≡ state.live
unfolding with_new_data
new_data-live rules block size state = by (rules.options.junk == 2)
  where
    by : (b : Bool) → (if b then filled_with fresh_byte (new_data block size) state else state).live ≡ state.live
    by true = refl
    by false = refl

-- ---- a block that is live stays so while another is placed

still-first : (block : Block) (address : ℕ) (live : List Block) (new : Block) → find (λ (b : Block). b.address == address) live ≡ Some block → find (λ (b : Block). b.address == address) (live ++ new ∷ []) ≡ Some block
still-first block address live new found =
    let test : Block → Bool = λ b. b.address == address in
    find-append test live (new ∷ []) ∙ ap (λ here. option_or here (find test (new ∷ []))) found

still-found : (rules : Rules) (state : State) (new block : Block) (address : ℕ) → block_at state address ≡ Some block → block_at (entered rules new state) address ≡ Some block
still-found rules state new block address found =
    ap (find (λ (b : Block). b.address == address)) (entered-live rules new state) ∙ still-first block address state.live new found

where-found : (rules : Rules) (state : State) (own : Option ℕ) (claim : Option Move) (word size site : ℕ) (block : Block) (address : ℕ) → block_at state address ≡ Some block
    → block_at ((placed_where rules state own claim word size site).next) address ≡ Some block
where-found rules state (Some page) claim word size site block address found =
    still-found rules state (record { address = address_on rules state page word (size_class rules size); size = size; site = site }) block address found
where-found rules state None None word size site block address found = found
where-found rules state None (Some move) word size site block address found =
    let pages = with_pages (run_of move) state in
    still-found rules pages (record { address = address_on rules pages (run_of move).first word (size_class rules size); size = size; site = site }) block address found

pub placing-found : (rules : Rules) (state : State) (size site : ℕ) (claim : Option Move) (block : Block) (address : ℕ) → block_at state address ≡ Some block → block_at ((placing rules state size site claim).next) address ≡ Some block
placing-found rules state size site claim block address found =
    where-found rules (drawn_more (words_for rules size) state) (page_for rules state size) claim (word_at rules (state.drawn + 1)) size site block address found
