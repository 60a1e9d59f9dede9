use Rattle.std.proofs.Common.{ℕ, List, [], sym, subst, ap, ◌∙◌}
use Rattle.om_model.specs.Pool.Rules.{Rules}
use Rattle.om_model.specs.Pool.State.{State}
use Rattle.om_model.specs.declared.entry.Entry.{Entry}
use Rattle.om_pool.specs.Backing.{IsBacked}
use Rattle.om_pool.specs.HoldingsView.{rules_in}
use Rattle.om_pool.proofs.CallLaws.{backed-none}
use Rattle.om_pool.proofs.calls.Pool.start.Goals as goal

pub invariant_of-result : goal.invariant_of-result
invariant_of-result g c =
    let core = c.in-Ok.core in
    let made = c.in-Ok.ensures in
    let rules = rules_in core.state in
    let b = c.args.broker in
    let Backed : List ℕ → List Entry → Type 0 = λ pages es. IsBacked g.B.Broker rules pages es b in
    let none = backed-none g.B.Broker rules b (c.requires.arena ∙ ap (λ (r : Rules). r.zones) (sym made.rules)) c.requires.fresh in
    (made.kept, subst (λ pages. Backed pages core.journal.items) (sym (ap (λ (s : State). s.held) made.state)) (subst (Backed []) (sym made.entries) none))

pub returns-in-Ok-clause-made : goal.returns-in-Ok-clause-made
returns-in-Ok-clause-made g c = (invariant_of-result g c).1
