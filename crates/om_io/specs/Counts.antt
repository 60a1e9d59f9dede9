-- Counts of calls and of failures.
use Rattle.std.specs.Prelude.{ℕ}

-- the greatest number that a count holds
abbrev pub last_number : ℕ
last_number = 18446744073709551615
