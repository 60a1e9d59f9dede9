use Rattle.std.proofs.Common.{arith}
use Rattle.std.proofs.lemmas.Grind.{common_steps}
use Rattle.om_io.proofs.Added.{Appends-more}
use Rattle.om_io.proofs.sink.write_front.Goals as goal

pub loop-done-preserved : goal.loop-done-preserved
loop-done-preserved g c = record {
  within = grind (arith, common_steps);
  added = Appends-more _ (g.K.Sink.written c.loop-done.sink) _ c.args.bytes.now c.loop-done.done c.in-Ok.count c.loop-done.invariant.added c.in-Ok.ensures.added;
  still = grind (arith, common_steps);
}
