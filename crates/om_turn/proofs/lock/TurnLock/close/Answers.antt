use Rattle.std.proofs.Common.{ap, sym, ◌∙◌, subst, Option}
use mathlib.Core.Option.{some}
use Rattle.om_turn.specs.Views.{IsWhole}
use Rattle.om_turn.proofs.Closes.{closes, left_some, left_is}
use Rattle.om_turn.proofs.Changes.{stage_of, view_of}
use Rattle.om_turn.specs.declared.view.View.{View}
use Rattle.om_turn.proofs.lock.TurnLock.close.Goals as goal

pub unreachable-requires : goal.unreachable-requires
unreachable-requires g c =
    let j = g.S.Journaled in let key = c.args.self.table.shared.key in let seat = c.take_seat.result in let p = c.requires.lock in
    let whole : IsWhole seat.me.0 = subst (λ (v : View g.row.S-Entry.Denot). IsWhole v) (sym (view_of _ _ _ c.take_seat.ensures.seat.2)) c.requires.whole in
    let left = closes j.stands_for j.name j.common j.marks key.state.value key.turns seat.id seat.me.0 _ _ (stage_of _ _ _ _ c.take_seat.ensures.seat.2 p.4) whole c.close_with-closed.ensures.values.2 in
    left_some j.stands_for j.name j.common j.marks key.state.value key.turns seat.me.0 _ left (c.take-home.ensures.value ∙ ap (λ (o : Option g.row.S.Denot). some o) c.in_default.is)

pub returns : goal.returns
returns g c =
    let j = g.S.Journaled in let key = c.args.self.table.shared.key in let seat = c.take_seat.result in let p = c.requires.lock in
    let whole : IsWhole seat.me.0 = subst (λ (v : View g.row.S-Entry.Denot). IsWhole v) (sym (view_of _ _ _ c.take_seat.ensures.seat.2)) c.requires.whole in
    let left = closes j.stands_for j.name j.common j.marks key.state.value key.turns seat.id seat.me.0 _ _ (stage_of _ _ _ _ c.take_seat.ensures.seat.2 p.4) whole c.close_with-closed.ensures.values.2 in
    left_is j.stands_for j.name j.common j.marks key.state.value key.turns seat.me.0 _ _ c.in-Some.state (view_of _ _ _ c.take_seat.ensures.seat.2) left (c.take-home.ensures.value ∙ ap (λ (o : Option g.row.S.Denot). some o) c.in-Some.is)
