use Rattle.std.proofs.Common.{arith, ◌∙◌, refl}
use Rattle.om_turn.proofs.Joins.{joins, tells}
use Rattle.om_turn.proofs.Changes.{stage_of, slots_of}
use Rattle.om_turn.proofs.lock.TurnLock.join.Goals as goal

pub join_seat-requires : goal.join_seat-requires
join_seat-requires g c =
    let j = g.S.Journaled in let key = c.args.self.now.table.shared.key in let a = c.take_seat-seat in let b = c.take_seat-others in let p = c.requires.lock.0 in let q = c.requires.lock.1 in (
      a.ensures.seat.0 ∙ p.0,
      b.ensures.seat.0 ∙ q.0,
      slots_of _ _ _ b.ensures.seat.2,
      omega arith,
      joins j.stands_for j.name j.common j.marks key.state.value key.turns a.result.id b.result.id a.result.me.0 b.result.me.0 (stage_of _ _ _ _ a.ensures.seat.2 p.4) (stage_of _ _ _ _ b.ensures.seat.2 q.4),
    )

pub load-requires : goal.load-requires
load-requires g c =
    let j = g.S.Journaled in let key = c.args.self.now.table.shared.key in let a = c.take_seat-seat in let p = c.requires.lock.0 in let s = c.join_seat.new.seat in (
      c.join_seat.ensures.0 ∙ (a.ensures.seat.0 ∙ p.0),
      omega arith,
      tells j.stands_for j.name j.common j.marks key.state.value key.turns _ s.id s.me (stage_of _ _ _ _ c.join_seat.ensures.2 refl),
    )
