-- So many items of a size. A product that overflows is null at once, and no word is drawn.
use Rattle.std.specs.Prelude.{ℕ, ◌*◌, ◌^◌, nat_lt, if◌then◌else◌, Option, Some, None}
use Rattle.om_model.specs.Pool.Rules.{Rules}
use Rattle.om_model.specs.Pool.State.{State}
use Rattle.om_model.specs.Pool.Steps.{Step, unchanged, null_or_fault}
use Rattle.om_model.specs.declared.reply.Why.TheVariants.{Overflow}

-- their size in bytes; none where the product overflows
abbrev pub product : ℕ → ℕ → Option ℕ
product count size = if nat_lt (count * size) (2 ^ 64) then Some (count * size) else None

-- what is answered where it does
abbrev pub overflow : Rules → State → Step
overflow rules state = unchanged state (null_or_fault rules Overflow)
