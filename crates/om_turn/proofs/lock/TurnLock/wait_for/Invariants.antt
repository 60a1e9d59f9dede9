use Rattle.std.proofs.Common.{◌≡◌, Some}
use Rattle.om_turn.proofs.lock.TurnLock.wait_for.Given as goal

abbrev pub ghosts-look : goal.ghosts-look
ghosts-look g a = record { origin = Some a.self.now.table.shared.key.state.value }

abbrev pub invariant-loop : goal.invariant-loop
invariant-loop g l =
    (goal.iterator-loop g).can_next l.iterator' × (goal.iterator-loop g).is_finite l.iterator' × (l.seat.table_id ≡ l.initial.seat.table_id) × (l.seat.id ≡ l.initial.seat.id) × (l.seat.me ≡ l.initial.seat.me)
