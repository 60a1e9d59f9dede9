use Rattle.std.proofs.Common.{refl, subst}
use Rattle.om_model.specs.Pool.Realloc.{realloc}
use Rattle.om_model.specs.declared.operation.Op.TheVariants.{Realloc}
use Rattle.om_model.proofs.Denied.{realloc-keeps}
use Rattle.om_pool.specs.CoreKept.{view_of}
use Rattle.om_pool.specs.PoolView.{PoolView, IsRun, Takes, UsesBroker}
use Rattle.om_pool.proofs.CoreLaws.{core_run, taken-keeps, taken-with}
use Rattle.om_pool.proofs.ReallocLaws.{own-op}
use Rattle.om_pool.proofs.calls.Pool.realloc.Goals as goal

pub realloc-requires-clause-op : goal.realloc-requires-clause-op
realloc-requires-clause-op g c = record { asks = refl; wish = refl; step_is = λ answers. own-op c.args.addr.0 c.requires.not_0 _ }

pub returns-clause-taken : goal.returns-clause-taken
returns-clause-taken g c =
    let Taken : PoolView g.row.B.Denot → Type 0 = λ old. Takes old (view_of c.realloc.new.self c.realloc.new.broker) c.args.who (Realloc c.args.addr.0 c.args.size c.args.site) c.realloc.result (λ answers. realloc old.rules old.state c.args.addr.0 c.args.size c.args.site answers) in
    subst Taken c.self.view_is (taken-with c.self.inside.core c.realloc.new.self c.self.inside.broker c.realloc.new.broker c.args.who (Realloc c.args.addr.0 c.args.size c.args.site) c.realloc.result _ c.realloc.ensures.taken)

pub returns-clause-denied : goal.returns-clause-denied
returns-clause-denied g c =
    let old = c.args.self.now in
    taken-keeps old (view_of c.realloc.new.self c.realloc.new.broker) c.args.who (Realloc c.args.addr.0 c.args.size c.args.site) c.realloc.result (λ answers. realloc old.rules old.state c.args.addr.0 c.args.size c.args.site answers) (returns-clause-taken g c)
    (λ answers. realloc-keeps old.rules old.state c.args.addr.0 c.args.size c.args.site answers)

pub returns-clause-before : goal.returns-clause-before
returns-clause-before g c = let Run : PoolView g.row.B.Denot → Type 0 = λ pool. IsRun pool in subst Run c.self.view_is (core_run c.self.inside.core c.self.invariant.0 c.self.inside.broker)

pub returns-clause-uses : goal.returns-clause-uses
returns-clause-uses g c = let Uses : PoolView g.row.B.Denot → Type 0 = λ old. UsesBroker g.B.Broker old (view_of c.realloc.new.self c.realloc.new.broker) c.realloc.result in subst Uses c.self.view_is c.realloc.ensures.uses
