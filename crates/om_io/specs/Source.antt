-- The bytes that a source still has, before and after a call: `None` where the source doesn't tell
-- them.
use Rattle.std.specs.Prelude.{◌≡◌, ℕ, Option, List, ◌++◌}
use Rattle.std.specs.Option.{option_map}

-- these bytes came: what was left is them and then what is left now
abbrev pub Gives : Option (List ℕ) → Option (List ℕ) → List ℕ → Type 0
Gives old new bytes = old ≡ option_map (λ rest. bytes ++ rest) new

-- the most bytes that an input may have
abbrev pub input_limit : ℕ
input_limit = 16777216
