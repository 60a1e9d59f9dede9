-- A list of numbers that is read part by part: what is left, and what was read before it.
use Rattle.std.specs.Prelude.{ℕ, ◌++◌, ◌==◌, List, [], Option, Some, None}
use Rattle.std.specs.List.{slice_split}
use Rattle.std.specs.Option.{option_map}

-- the parts of what is left, where something is left
abbrev pub parts_left : Option (List ℕ) → List (List ℕ)
parts_left None = []
parts_left (Some text) = slice_split (λ b. b == 44) text

abbrev pub with_front : List ℕ → Option (List ℕ) → Option (List ℕ)
with_front front rest = option_map (λ later. front ++ later) rest
