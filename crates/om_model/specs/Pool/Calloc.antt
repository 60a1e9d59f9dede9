-- Calloc: a block of so many items of a size, as malloc gives it, whose bytes are zeros.
use Rattle.std.specs.Prelude.{ℕ, Option, Some, None}
use Rattle.om_model.specs.Pool.Malloc.{Placed, words_for, placing, malloc_wish, block_placed, unless_too_large}
use Rattle.om_model.specs.Pool.Product.{product, overflow}
use Rattle.om_model.specs.Pool.Rules.{Rules}
use Rattle.om_model.specs.Pool.State.{State, filled_with}
use Rattle.om_model.specs.Pool.Steps.{Wish, Nothing, Step}
use Rattle.om_model.specs.declared.entry.Move.{Move}

-- The block's first bytes are zeros. They share none with its canaries, so it doesn't matter which are written first.
abbrev pub zeroed_at : Option ℕ → ℕ → State → State
zeroed_at (Some address) size state = filled_with 0 (record { first = address; len = size }) state
zeroed_at None size state = state

abbrev pub zeroed : ℕ → Placed → Placed
zeroed size placed = record { address = placed.address; next = zeroed_at placed.address size placed.next }

abbrev pub zeroed_block : Rules → State → ℕ → ℕ → Option Move → Step
zeroed_block rules state size site claim =
    unless_too_large rules state size (block_placed rules (words_for rules size) (zeroed size (placing rules state size site claim)))

abbrev pub calloc_wish_of : Rules → State → Option ℕ → Wish
calloc_wish_of rules state (Some size) = malloc_wish rules state size
calloc_wish_of rules state None = Nothing

abbrev pub calloc_of : Rules → State → Option ℕ → ℕ → Option Move → Step
calloc_of rules state (Some size) site claim = zeroed_block rules state size site claim
calloc_of rules state None site claim = overflow rules state

abbrev pub calloc_wish : Rules → State → ℕ → ℕ → Wish
calloc_wish rules state count size = calloc_wish_of rules state (product count size)

abbrev pub calloc : Rules → State → ℕ → ℕ → ℕ → Option Move → Step
calloc rules state count size site claim = calloc_of rules state (product count size) site claim
