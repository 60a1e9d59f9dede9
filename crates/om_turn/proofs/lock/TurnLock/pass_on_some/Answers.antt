use Rattle.std.proofs.Common.{arith}
use Rattle.om_turn.proofs.Leaves.{passes_some}
use Rattle.om_turn.proofs.lock.TurnLock.pass_on_some.Goals as goal

pub fetch_add-requires : goal.fetch_add-requires
fetch_add-requires g c =
    let j = g.S.Journaled in let key = c.args.self.now.table.shared.key in let seat = c.args.seat.now in let held = c.requires.lawful in
    (c.requires.seat.0.0, omega arith, passes_some j.stands_for j.name j.common j.marks key.state.value key.turns _ seat.id g.O.Origin.origin seat.me held.0 held.1 c.requires.seat.1 c.requires.served held.2 held.3)

pub returns-clause-passed : goal.returns-clause-passed
returns-clause-passed g c = λ x has. c.fetch_add.ensures.2 x has _ c.requires.seat.1
