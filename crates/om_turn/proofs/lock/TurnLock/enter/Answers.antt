use Rattle.std.proofs.Common.{◌≡◌, List, ap, sym, ◌∙◌, subst, refl, arith, Some}
use Rattle.om_turn.specs.Entries.{Became}
use Rattle.om_turn.specs.declared.view.View.{View}
use Rattle.om_turn.proofs.Changes.{stage_of, slots_of, view_of, takes_slot, same_slot}
use Rattle.om_turn.proofs.Draws.{draws}
use Rattle.om_turn.proofs.lock.TurnLock.enter.Goals as goal

pub fetch_add-ticket-requires : goal.fetch_add-ticket-requires
fetch_add-ticket-requires g c =
    let j = g.S.Journaled in let key = c.args.self.now.table.shared.key in let a = c.take_seat-seat in let seat = a.result in let p = c.requires.lock in let some_left = c.requires.left in
    let same : seat.me.0.left ≡ c.args.pass.now.left = ap (λ (v : View g.row.S-Entry.Denot). v.left) (view_of _ _ _ a.ensures.seat.2) ∙ sym p.5 in
    (a.ensures.seat.0 ∙ p.0, omega arith, draws j.stands_for j.name j.common j.marks key.state.value key.turns _ seat.id seat.me (stage_of _ _ _ _ a.ensures.seat.2 p.4) (omega arith))

pub exchange-home-requires : goal.exchange-home-requires
exchange-home-requires g c = let s = c.wait_for.ensures.served in
    (c.wait_for.ensures.seat.0 ∙ (c.fetch_add-ticket.ensures.0 ∙ (c.take_seat-seat.ensures.seat.0 ∙ c.requires.lock.0)), (Some s.1, takes_slot _ _ _ _ (slots_of _ _ _ s.2)))

pub returns-clause-state : goal.returns-clause-state
returns-clause-state g c =
    let j = g.S.Journaled in let first = c.args.self.now.table.shared.key.state.value in let s = c.wait_for.ensures.served in let e = c.exchange-home.ensures in
    let slot : Some s.1 ≡ c.exchange-home.result = same_slot _ _ _ 0 (Some s.1) c.exchange-home.result (slots_of _ _ _ s.2) e.2 in
    let home : Some s.1 ≡ Some c.in-Some.state = slot ∙ c.in-Some.is in let value : s.1 ≡ c.in-Some.state = cc in
    let view : c.exchange-home.new.seat.me.0 ≡ c.wait_for.new.seat.me.0 = view_of _ _ _ e.3 in
    let seen : s.0 ≡ c.exchange-home.new.seat.me.0.seen = sym (ap (λ (v : View g.row.S-Entry.Denot). v.seen) (view ∙ view_of _ _ _ s.2)) in
    subst (λ (z : List g.row.S-Entry.Denot × g.row.S.Denot). Became j.stands_for j.name first z.0 z.1) (λ i. (seen i, value i)) (s.5 first refl)
