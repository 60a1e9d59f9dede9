use Rattle.std.proofs.Common.{arith}
use Rattle.om_turn.proofs.Splits.{splits}
use Rattle.om_turn.proofs.lock.TurnLock.cut.Goals as goal

pub split_seat-other-requires : goal.split_seat-other-requires
split_seat-other-requires g c =
    let j = g.S.Journaled in let key = c.args.self.now.table.shared.key in let seat = c.args.seat.now in
    (c.requires.seat.0.0, omega arith, splits j.stands_for j.name j.common j.marks key.state.value key.turns seat.id g.O.Handing.seat c.args.turns g.O.Handing.turns seat.me.0 c.requires.seat.1 c.requires.outside c.requires.turns.0 c.requires.turns.1)
