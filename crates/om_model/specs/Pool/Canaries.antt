-- Canaries, where the option is on: bytes behind a small block, at most 32, up to the end of its place. They get the
-- pool's canary byte when the block is allocated, and anew where a realloc keeps its place; they are looked at before
-- it is freed, and before each realloc. A block of size 0 has none, nor has one of whole pages.
use Rattle.std.specs.Prelude.{ℕ, ◌+◌, ◌-◌, ◌&&◌, nat_lt, min, if◌then◌else◌, List, Option, Some, None}
use Rattle.std.specs.Option.{option_map}
use Rattle.om_frame.specs.Memory.{first_other}
use Rattle.om_geom.specs.declared.address.Extent.{Extent}
use Rattle.om_model.specs.Pool.Rules.{Rules, canary_byte, size_class}
use Rattle.om_model.specs.Pool.State.{State, filled_with}
use Rattle.om_model.specs.declared.block.Block.{Block}

abbrev pub canary_reach : ℕ
canary_reach = 32

-- how many stand behind a block of the size, by its class
abbrev pub canary_count : Rules → ℕ → Option ℕ → ℕ
canary_count rules size (Some class) = if rules.options.canary && nat_lt 0 size then min canary_reach (class - size) else 0
canary_count rules size None = 0

abbrev pub canaries : Rules → Block → Extent
canaries rules block = record { first = block.address + block.size; len = canary_count rules block.size (size_class rules block.size) }

unfoldable pub with_canaries : Rules → Block → State → State
with_canaries rules block state = filled_with (canary_byte rules) (canaries rules block) state

-- how far from the block's first byte the first canary stands that is another byte in memory
abbrev pub broken_in : Rules → List (List ℕ) → Block → Option ℕ
broken_in rules memory block =
    let behind = canaries rules block in
    option_map (λ i. block.size + i) (first_other memory behind.first behind.len (canary_byte rules))

abbrev pub broken_canary : Rules → State → Block → Option ℕ
broken_canary rules state block = broken_in rules state.memory block
