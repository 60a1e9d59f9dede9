-- Sources and sinks in memory. Their calls have the numbers 1, 2 and so on, up to the last number
-- that a count holds: a call after that has no number. Those whose numbers are listed fail.
use Rattle.std.specs.Prelude.{ℕ, zero, suc, ◌+◌, ◌==◌, ◌&&◌, Bool, List, if◌then◌else◌, min, nat_lt}
use Rattle.std.specs.List.{list_any}
use Rattle.om_io.specs.Counts.{last_number}

-- a source in memory: the bytes left, the most that a read gives, the numbers of the reads that
-- fail, and how many reads were made
pub record Readings : Type 0 where
  pub left : List ℕ
  pub piece : ℕ
  pub listed : List ℕ
  pub made : ℕ

-- a sink in memory: the bytes taken, the most that a write takes, the numbers of the writes that
-- fail, and how many writes were made
pub record Writings : Type 0 where
  pub taken : List ℕ
  pub piece : ℕ
  pub listed : List ℕ
  pub made : ℕ

-- whether the call after so many fails
abbrev pub next_fails : List ℕ → ℕ → Bool
next_fails listed made = nat_lt made last_number && list_any (λ number. number == made + 1) listed

-- how many calls were made after one more
abbrev pub next_made : ℕ → ℕ
next_made made = min (made + 1) last_number

-- how many of the first calls fail
abbrev pub failures : List ℕ → ℕ → ℕ
failures listed zero = 0
failures listed (suc calls) =
    failures listed calls + (if list_any (λ number. number == suc calls) listed then 1 else 0)
