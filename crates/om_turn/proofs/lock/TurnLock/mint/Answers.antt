use Rattle.std.proofs.Common.{arith}
use Rattle.om_turn.proofs.Draws.{mints}
use Rattle.om_turn.proofs.lock.TurnLock.mint.Goals as goal

pub load-requires : goal.load-requires
load-requires g c =
    let j = g.S.Journaled in let key = c.args.self.now.table.shared.key in let seat = c.args.seat.now in
    (c.requires.seat.0.0, omega arith, mints j.stands_for j.name j.common j.marks key.state.value key.turns _ seat.id g.O.Handing.seat seat.me c.requires.seat.1 c.requires.outside)
