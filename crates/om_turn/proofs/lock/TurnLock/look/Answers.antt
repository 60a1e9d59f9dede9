use Rattle.std.proofs.Common.{arith, subst, Option}
use Rattle.om_turn.specs.Steps.{Serves}
use Rattle.om_turn.proofs.Draws.{looks}
use Rattle.om_turn.proofs.lock.TurnLock.look.Goals as goal

pub load-requires : goal.load-requires
load-requires g c =
    let j = g.S.Journaled in let key = c.args.self.now.table.shared.key in let seat = c.args.seat.now in
    (c.requires.seat.0.0, omega arith, looks j.stands_for j.name j.common j.marks key.state.value key.turns _ seat.id g.O.Origin.origin seat.me c.requires.seat.1 c.requires.waiting)

pub returns-clause-served : goal.returns-clause-served
returns-clause-served g c = λ is. let j = g.S.Journaled in
    subst (λ (o : Option g.row.S.Denot). Serves j.stands_for j.name j.common j.marks o c.args.seat.now.me c.load.new.seat.me) c.requires.seat.1 (c.load.ensures.2.0 is)
