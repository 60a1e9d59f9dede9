use Rattle.std.proofs.Common.{arith}
use Rattle.om_turn.proofs.Leaves.{passes}
use Rattle.om_turn.proofs.lock.TurnLock.pass_on.Goals as goal

pub fetch_add-requires : goal.fetch_add-requires
fetch_add-requires g c =
    let j = g.S.Journaled in let key = c.args.self.now.table.shared.key in let seat = c.args.seat.now in let held = c.requires.lawful in
    (c.requires.seat.0, omega arith, passes j.stands_for j.name j.common j.marks key.state.value key.turns _ seat.id seat.me held.0 g.O.Adding.added c.requires.served held.1 held.2.0 held.2.1)
