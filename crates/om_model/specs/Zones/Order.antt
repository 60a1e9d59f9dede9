-- Zone order. Each zone's moves have the versions 1, 2, .., each once; a claim takes bits that the moves before
-- it left clear, and one by a search the first run that fits; a release clears bits of its own pool.
use Rattle.std.specs.Prelude.{◌≡◌, ℕ, ◌+◌, ◌-◌, ◌<◌, ◌≤◌, Bool, true, false, ◌&&◌, ◌==◌, List, Option, Some, None, IfSome, if◌then◌else◌, count_by, zero, suc}
use Rattle.std.specs.List.{AllByRecursion, find}
use Rattle.std.specs.Option.{is_some}
use Rattle.om_geom.specs.Fit.{fit_of, is_in_run, searched_bit}
use Rattle.om_model.specs.declared.entry.ZoneMove.{ZoneMove}

abbrev pub is_at : ℕ → ℕ → ZoneMove → Bool
is_at zone version m = (m.made.zone == zone) && (m.made.version == version)

-- how many moves the zone has
abbrev pub last_version : List ZoneMove → ℕ → ℕ
last_version moves zone = count_by (λ m. m.made.zone == zone) moves

-- the pool that has the bit after the move, given the one before
abbrev pub owner_after : Option ZoneMove → ℕ → Option ℕ → Option ℕ
owner_after None bit before = before
owner_after (Some m) bit before = if is_in_run m.made.first m.made.count bit then (if m.claims then Some m.pool else None) else before

-- the pool that has the bit of the zone after so many of its moves
abbrev pub owner : List ZoneMove → ℕ → ℕ → ℕ → Option ℕ
owner moves zone zero bit = None
owner moves zone (suc version) bit = owner_after (find (is_at zone (suc version)) moves) bit (owner moves zone version bit)

-- where so many pages fitted in the zone after so many of its moves, for a search by the word
abbrev pub fit_at : List ZoneMove → ℕ → ℕ → ℕ → ℕ → Option ℕ
fit_at moves zone version count word = fit_of (λ bit. is_some (owner moves zone version bit)) count (searched_bit word)

-- before the move each of its bits had this owner, or none
abbrev pub HadOwner : List ZoneMove → ZoneMove → Option ℕ → Type 0
HadOwner moves m holder = (bit : ℕ) → m.made.first ≤ bit → bit < m.made.first + m.made.count → owner moves m.made.zone (m.made.version - 1) bit ≡ holder

pub record IsLawfulClaim (moves : List ZoneMove) (m : ZoneMove) : Type 0 where
  pub clear : HadOwner moves m None
  pub first : IfSome m.search (λ word. fit_at moves m.made.zone (m.made.version - 1) m.made.count word ≡ Some m.made.first)

abbrev pub IsLawfulRelease : List ZoneMove → ZoneMove → Type 0
IsLawfulRelease moves m = HadOwner moves m (Some m.pool)

pub record IsLawfulMove (moves : List ZoneMove) (m : ZoneMove) : Type 0 where
  pub claim : m.claims ≡ true → IsLawfulClaim moves m
  pub release : m.claims ≡ false → IsLawfulRelease moves m

-- the zone's moves have the versions 1, 2, .., each once
abbrev pub IsNumbered : List ZoneMove → ℕ → Type 0
IsNumbered moves zone = (version : ℕ) → 1 ≤ version → version ≤ last_version moves zone → count_by (is_at zone version) moves ≡ 1

pub record IsZoneOrder (moves : List ZoneMove) : Type 0 where
  pub once : (zone : ℕ) → IsNumbered moves zone
  pub lawful : AllByRecursion (IsLawfulMove moves) moves
