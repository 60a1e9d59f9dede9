use Rattle.std.proofs.Common.{subst}
use Rattle.om_model.specs.Pool.Calloc.{calloc}
use Rattle.om_model.specs.declared.operation.Op.TheVariants.{Calloc}
use Rattle.om_model.proofs.Denied.{calloc-keeps}
use Rattle.om_pool.specs.CoreKept.{view_of}
use Rattle.om_pool.specs.PoolView.{PoolView, IsRun, Takes, UsesBroker}
use Rattle.om_pool.proofs.CoreLaws.{core_run, taken-keeps, taken-with}
use Rattle.om_pool.proofs.calls.Pool.calloc.Goals as goal

pub returns-clause-taken : goal.returns-clause-taken
returns-clause-taken g c =
    let Taken : PoolView g.row.B.Denot → Type 0 = λ old. Takes old (view_of c.calloc.new.self c.calloc.new.broker) c.args.who (Calloc c.args.count c.args.size c.args.site) c.calloc.result (λ answers. calloc old.rules old.state c.args.count c.args.size c.args.site answers.claim) in
    subst Taken c.self.view_is (taken-with c.self.inside.core c.calloc.new.self c.self.inside.broker c.calloc.new.broker c.args.who (Calloc c.args.count c.args.size c.args.site) c.calloc.result _ c.calloc.ensures.taken)

pub returns-clause-denied : goal.returns-clause-denied
returns-clause-denied g c =
    let old = c.args.self.now in
    taken-keeps old (view_of c.calloc.new.self c.calloc.new.broker) c.args.who (Calloc c.args.count c.args.size c.args.site) c.calloc.result (λ answers. calloc old.rules old.state c.args.count c.args.size c.args.site answers.claim) (returns-clause-taken g c)
    (λ answers. calloc-keeps old.rules old.state c.args.count c.args.size c.args.site answers.claim)

pub returns-clause-before : goal.returns-clause-before
returns-clause-before g c = let Run : PoolView g.row.B.Denot → Type 0 = λ pool. IsRun pool in subst Run c.self.view_is (core_run c.self.inside.core c.self.invariant.0 c.self.inside.broker)

pub returns-clause-uses : goal.returns-clause-uses
returns-clause-uses g c = let Uses : PoolView g.row.B.Denot → Type 0 = λ old. UsesBroker g.B.Broker old (view_of c.calloc.new.self c.calloc.new.broker) c.calloc.result in subst Uses c.self.view_is c.calloc.ensures.uses
