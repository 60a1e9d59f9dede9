use Rattle.std.proofs.Common.{subst}
use Rattle.om_pool.specs.PoolView.{PoolView, HasMade, IsRun}
use Rattle.om_model.specs.Zones.Moves.{moves_of}
use Rattle.om_pool.proofs.BackLaws.{are-looks}
use Rattle.om_pool.proofs.CoreLaws.{core_run}
use Rattle.om_pool.proofs.calls.Pool.journal.Goals as goal

pub returns-clause-run : goal.returns-clause-run
returns-clause-run g c = let Run : PoolView g.row.B.Denot → Type 0 = λ pool. IsRun pool in subst Run c.self.view_is (core_run c.self.inside.core c.self.invariant.0 c.self.inside.broker)

pub returns-clause-made : goal.returns-clause-made
returns-clause-made g c = let Made : PoolView g.row.B.Denot → Type 0 = λ pool. HasMade g.B.Broker pool in subst Made c.self.view_is c.self.invariant.1

pub returns-clause-alone : goal.returns-clause-alone
returns-clause-alone g c whole =
    let pool = c.args.self.now in
    let made = returns-clause-made g c in
    let moves = moves_of pool.rules 0 pool.journal.items in
    record {
      order = g.met.B.Broker.whole_order pool.broker moves made.sight made.made whole;
      looks = are-looks g.B.Broker pool.rules pool.state.held pool.journal.items pool.broker made (g.met.B.Broker.whole_sight pool.broker moves made.sight made.made whole);
    }
