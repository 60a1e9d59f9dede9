-- Fit: the first of the 32 bits, in cyclic order from a start, at which a run of n clear bits begins. And the
-- order in which a search goes through the zones.
use Rattle.std.specs.Prelude.{ℕ, ◌+◌, ◌-◌, ◌/◌, ◌%◌, Bool, not, ◌&&◌, nat_le, nat_lt, ◌==◌, Option, List, ◌++◌}
use Rattle.std.specs.List.{find, list_all, range_with_len}
use Rattle.std.specs.Int.{bit_at}
use Rattle.om_geom.specs.Numbers.{zone_pages}

-- start, start + 1, .., count - 1, 0, .., start - 1
abbrev pub cyclic : ℕ → ℕ → List ℕ
cyclic count start = range_with_len start (count - start) ++ range_with_len 0 start

-- bit i of a number
abbrev pub has_bit : ℕ → ℕ → Bool
has_bit bits i = bit_at bits i == 1

-- the n bits from first on are there and are clear
abbrev pub is_clear_run : (ℕ → Bool) → ℕ → ℕ → Bool
is_clear_run is_set n first = nat_le (first + n) zone_pages && list_all (λ i. not (is_set i)) (range_with_len first n)

abbrev pub fit_of : (ℕ → Bool) → ℕ → ℕ → Option ℕ
fit_of is_set n start = find (is_clear_run is_set n) (cyclic zone_pages start)

-- bit i is one of the n bits from first on
abbrev pub is_in_run : ℕ → ℕ → ℕ → Bool
is_in_run first n i = nat_le first i && nat_lt i (first + n)

-- A search by a random word begins at a zone of so many, and goes on cyclically: the zone after i others. In
-- each it takes the first fit from this bit on.
abbrev pub searched_zone : ℕ → ℕ → ℕ → ℕ
searched_zone zones word i = (word / zone_pages + i) % zones

abbrev pub searched_bit : ℕ → ℕ
searched_bit word = word % zone_pages
