use Rattle.std.proofs.Common.{ap, subst, ◌∙◌}
use Rattle.om_model.specs.Pool.Access.{store}
use Rattle.om_model.specs.declared.operation.Op.TheVariants.{Store}
use Rattle.om_model.proofs.Denied.{store-keeps}
use Rattle.om_pool.specs.CoreKept.{core_state, view_of}
use Rattle.om_pool.specs.HoldingsView.{rules_in}
use Rattle.om_pool.specs.PoolView.{PoolView, IsRun, Takes, UsesBroker}
use Rattle.om_pool.proofs.CallLaws.{backed-quiet}
use Rattle.om_pool.proofs.Spending.{store-says, uses-quiet}
use Rattle.om_pool.specs.PoolView.{says_no_run}
use Rattle.om_pool.proofs.CoreLaws.{core_run, taken-keeps, taken-with}
use Rattle.om_pool.proofs.calls.Pool.store.Goals as goal

pub returns-clause-taken : goal.returns-clause-taken
returns-clause-taken g c =
    let Taken : PoolView g.row.B.Denot → Type 0 = λ old. Takes old (view_of c.store.new.self c.self.inside.broker) c.args.who (Store c.args.addr.0 c.args.byte) c.store.result (λ answers. store old.rules old.state c.args.addr.0 c.args.byte) in
    subst Taken c.self.view_is (taken-with c.self.inside.core c.store.new.self c.self.inside.broker c.self.inside.broker c.args.who (Store c.args.addr.0 c.args.byte) c.store.result _ c.store.ensures.taken)

pub returns-clause-denied : goal.returns-clause-denied
returns-clause-denied g c =
    let old = c.args.self.now in
    taken-keeps old (view_of c.store.new.self c.self.inside.broker) c.args.who (Store c.args.addr.0 c.args.byte) c.store.result (λ answers. store old.rules old.state c.args.addr.0 c.args.byte) (returns-clause-taken g c)
    (λ answers. store-keeps old.rules old.state c.args.addr.0 c.args.byte)

pub returns-clause-before : goal.returns-clause-before
returns-clause-before g c = let Run : PoolView g.row.B.Denot → Type 0 = λ pool. IsRun pool in subst Run c.self.view_is (core_run c.self.inside.core c.self.invariant.0 c.self.inside.broker)

pub returns-clause-uses : goal.returns-clause-uses
returns-clause-uses g c =
    let core = c.self.inside.core in
    let took = c.store.ensures.taken in
    let Uses : PoolView g.row.B.Denot → Type 0 = λ old. UsesBroker g.B.Broker old (view_of c.store.new.self c.self.inside.broker) c.store.result in
    subst Uses c.self.view_is
    (uses-quiet g.B.Broker core c.store.new.self c.self.inside.broker c.args.who (Store c.args.addr.0 c.args.byte) c.store.result c.store.ensures.quiet
    (ap says_no_run took.reply_is ∙ store-says (rules_in core.state) (core_state core) c.args.addr.0 c.args.byte))

pub invariant_of-self : goal.invariant_of-self
invariant_of-self g c = (c.store.ensures.kept, backed-quiet g.B.Broker c.self.inside.core c.store.new.self c.self.inside.broker c.args.who (Store c.args.addr.0 c.args.byte) c.store.result c.store.ensures.quiet c.self.invariant.1)

pub returns-clause-made : goal.returns-clause-made
returns-clause-made g c = (invariant_of-self g c).1
