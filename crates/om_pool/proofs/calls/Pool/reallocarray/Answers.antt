use Rattle.std.proofs.Common.{subst}
use Rattle.om_model.specs.Pool.Realloc.{reallocarray}
use Rattle.om_model.specs.declared.operation.Op.TheVariants.{Reallocarray}
use Rattle.om_model.proofs.Denied.{reallocarray-keeps}
use Rattle.om_pool.specs.CoreKept.{view_of}
use Rattle.om_pool.specs.PoolView.{PoolView, IsRun, Takes, UsesBroker}
use Rattle.om_pool.proofs.CoreLaws.{core_run, taken-keeps, taken-with}
use Rattle.om_pool.proofs.calls.Pool.reallocarray.Goals as goal

pub returns-clause-taken : goal.returns-clause-taken
returns-clause-taken g c =
    let Taken : PoolView g.row.B.Denot → Type 0 = λ old. Takes old (view_of c.reallocarray.new.self c.reallocarray.new.broker) c.args.who (Reallocarray c.args.addr.0 c.args.count c.args.size c.args.site) c.reallocarray.result (λ answers. reallocarray old.rules old.state c.args.addr.0 c.args.count c.args.size c.args.site answers) in
    subst Taken c.self.view_is (taken-with c.self.inside.core c.reallocarray.new.self c.self.inside.broker c.reallocarray.new.broker c.args.who (Reallocarray c.args.addr.0 c.args.count c.args.size c.args.site) c.reallocarray.result _ c.reallocarray.ensures.taken)

pub returns-clause-denied : goal.returns-clause-denied
returns-clause-denied g c =
    let old = c.args.self.now in
    taken-keeps old (view_of c.reallocarray.new.self c.reallocarray.new.broker) c.args.who (Reallocarray c.args.addr.0 c.args.count c.args.size c.args.site) c.reallocarray.result (λ answers. reallocarray old.rules old.state c.args.addr.0 c.args.count c.args.size c.args.site answers) (returns-clause-taken g c)
    (λ answers. reallocarray-keeps old.rules old.state c.args.addr.0 c.args.count c.args.size c.args.site answers)

pub returns-clause-before : goal.returns-clause-before
returns-clause-before g c = let Run : PoolView g.row.B.Denot → Type 0 = λ pool. IsRun pool in subst Run c.self.view_is (core_run c.self.inside.core c.self.invariant.0 c.self.inside.broker)

pub returns-clause-uses : goal.returns-clause-uses
returns-clause-uses g c = let Uses : PoolView g.row.B.Denot → Type 0 = λ old. UsesBroker g.B.Broker old (view_of c.reallocarray.new.self c.reallocarray.new.broker) c.reallocarray.result in subst Uses c.self.view_is c.reallocarray.ensures.uses
