-- The moves of the zones are in order where each is, and where its zone is numbered.
use Rattle.std.proofs.Common.{◌≡◌, ℕ, ◌≤◌, ◌==◌, List, [], ◌∷◌, Some, cond, Bool, ap, subst, arith}
use Rattle.std.specs.List.{slice_get, AllByRecursion}
use Rattle.std.proofs.lemmas.Bool.{cases_Bool, eqb-true}
use Rattle.std.proofs.lemmas.List.Sums.{sum_by-cons}
use mathlib.Core.Logic.{⊎_elim}
use Rattle.om_model.specs.Zones.Order.{last_version, IsNumbered, IsLawfulMove, IsZoneOrder}
use Rattle.om_model.proofs.Each.{all-weaker, all-get}
use Rattle.om_model.specs.declared.entry.ZoneMove.{ZoneMove}

-- the move's zone is numbered, and the move is lawful
abbrev pub IsInOrder : List ZoneMove → ZoneMove → Type 0
IsInOrder moves m = IsNumbered moves m.made.zone × IsLawfulMove moves m

abbrev tally : Bool → ℕ
tally b = cond b 1 0

-- a zone that has moves is the zone of one of them
with-moves : (P : ℕ → Type 0) (zone : ℕ) (moves : List ZoneMove) → AllByRecursion (λ m. P m.made.zone) moves → 1 ≤ last_version moves zone → P zone
with-moves P zone [] all some = absurd (omega arith)
with-moves P zone (m ∷ moves) all some = ⊎_elim
    (λ here. subst P (eqb-true m.made.zone zone here) all.0)
    (λ other.
    let uncounted : tally (m.made.zone == zone) ≡ 0 = ap tally other in
    let split = sum_by-cons (λ (x : ZoneMove). tally (x.made.zone == zone)) m moves in
    with-moves P zone moves all.1 (omega arith))
    (cases_Bool (m.made.zone == zone))

pub from-each : (moves : List ZoneMove) → AllByRecursion (IsInOrder moves) moves → IsZoneOrder moves
from-each moves all =
    let numbered = all-weaker (IsInOrder moves) (λ m. IsNumbered moves m.made.zone) moves (λ m is. is.0) all in
    record {
      once = λ zone version low high. with-moves (IsNumbered moves) zone moves numbered (omega arith) version low high;
      lawful = all-weaker (IsInOrder moves) (IsLawfulMove moves) moves (λ m is. is.1) all;
    }

pub at-each : (moves : List ZoneMove) (i : ℕ) (m : ZoneMove) → slice_get moves i ≡ Some m → IsZoneOrder moves → IsInOrder moves m
at-each moves i m found order = (order.once m.made.zone, all-get (IsLawfulMove moves) moves i m order.lawful found)
