-- The bytes of a new block are filled: pages and places are as they were.
use Rattle.std.proofs.Common.{◌≡◌, ℕ, ◌*◌, Bool, true, false, ◌==◌, length, if◌then◌else◌, sym, subst, ◌+◌, None, ap}
use Rattle.om_geom.specs.declared.address.Extent.{Extent}
use Rattle.om_geom.specs.Numbers.{zone_pages}
use Rattle.om_frame.specs.Memory.{filled}
use Rattle.om_model.specs.Pool.Canaries.{canaries, canary_count, with_canaries}
use Rattle.om_model.specs.Pool.Junk.{data_extent, fresh_byte, with_fresh_junk}
use Rattle.om_model.specs.Pool.Rules.{Rules, canary_byte, size_class}
use Rattle.om_model.specs.Pool.State.{State, filled_with}
use Rattle.om_model.specs.Pool.WellFormed.{HasBytes}
use Rattle.om_model.specs.declared.block.Block.{Block}
use Rattle.om_model.proofs.Sound.{IsSound}
use Rattle.om_pool.specs.TableSteps.{canaries_filled, filled_by, fresh_filled}
use Rattle.om_pool.specs.Tables.{Tables, StandFor}
use Rattle.om_pool.proofs.TablePages.{bytes-filled}

-- what is written leaves the rest of the state as it was
pub unwritten : (rules : Rules) (state : State) (block : Block) → length state.memory ≡ zone_pages * rules.zones → ((page : ℕ) → HasBytes state page) → IsSound rules (with_canaries rules block (with_fresh_junk rules block state)) → IsSound rules state
unfolding with_canaries with_fresh_junk
unwritten rules state block long bytes is = by (rules.options.junk == 2) is
  where
    by : (test : Bool) → IsSound rules (filled_with (canary_byte rules) (canaries rules block) (if test then filled_with fresh_byte (data_extent rules block) state else state)) → IsSound rules state
    by true is_so = record { slots = is_so.slots; zoned = is_so.zoned; ascends = is_so.ascends; arena = is_so.arena; pages = long; bytes = bytes; sound = is_so.sound }
    by false is_so = record { slots = is_so.slots; zoned = is_so.zoned; ascends = is_so.ascends; arena = is_so.arena; pages = long; bytes = bytes; sound = is_so.sound }

-- a block of whole pages has no canaries
pub no-canaries : (rules : Rules) (block : Block) (state : State) → size_class rules block.size ≡ None → with_canaries rules block state ≡ state
unfolding with_canaries
no-canaries rules block state none = ap (λ class. record state { memory = filled state.memory (block.address + block.size) (canary_count rules block.size class) (canary_byte rules) }) none

module _ (rules : Rules) (block : Block) (extent : Extent) (extent-is : data_extent rules block ≡ extent) where
  fresh-by : (tables : Tables) (state : State) → StandFor rules tables state → (test : Bool)
      → StandFor rules (if test then filled_by fresh_byte extent tables else tables) (if test then filled_with fresh_byte (data_extent rules block) state else state)
  fresh-by tables state stands true =
      let After : Extent → Type 0 = λ e. StandFor rules (filled_by fresh_byte extent tables) (filled_with fresh_byte e state) in
      subst After (sym extent-is) (bytes-filled rules tables state stands fresh_byte extent)
  fresh-by tables state stands false = stands

  pub fresh-stands : (tables : Tables) (state : State) → StandFor rules tables state → StandFor rules (fresh_filled rules extent tables) (with_fresh_junk rules block state)
  unfolding with_fresh_junk
  fresh-stands tables state stands = fresh-by tables state stands (rules.options.junk == 2)

  -- and the canaries behind it
  pub canaries-stand : (tables : Tables) (state : State) → StandFor rules tables state → StandFor rules (canaries_filled rules block (fresh_filled rules extent tables)) (with_canaries rules block (with_fresh_junk rules block state))
  unfolding with_canaries
  canaries-stand tables state stands = bytes-filled rules (fresh_filled rules extent tables) (with_fresh_junk rules block state) (fresh-stands tables state stands) (canary_byte rules) (canaries rules block)
