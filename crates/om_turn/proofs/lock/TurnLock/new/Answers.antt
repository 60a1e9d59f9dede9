use Rattle.std.proofs.Common.{◌≡◌, ap, sym, ◌∙◌, subst, List, [], ◌∷◌, ◌++◌, Some, Option}
use Rattle.atomic_table.specs.Table.{opening}
use Rattle.om_turn.specs.Rule.{Kept}
use Rattle.om_turn.specs.Views.{first_view}
use Rattle.om_turn.proofs.Closes.{opens}
use Rattle.om_turn.proofs.lock.TurnLock.new.Goals as goal

pub new-requires : goal.new-requires
new-requires g c =
    let j = g.S.Journaled in
    let items : c.push_reserved.new.self.items ≡ Some c.of.result.value ∷ [] = c.push_reserved.ensures.items ∙ (ap (λ (xs : List (Option g.row.S.Denot)). xs ++ Some c.args.state ∷ []) c.in-Ok.ensures.items ∙ ap (λ (x : g.row.S.Denot). Some x ∷ []) (sym c.of.ensures)) in
    subst (λ (xs : List (Option g.row.S.Denot)). Kept j.stands_for j.name j.common j.marks c.of.result.value c.args.turns (opening (0 ∷ 0 ∷ []) xs (first_view c.args.turns))) (sym items)
    (opens j.stands_for j.name j.common j.marks c.of.result.value c.args.turns c.ranges.turns.fits)
