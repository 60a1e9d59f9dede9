use Rattle.std.proofs.Common.{◌∙◌}
use Rattle.om_model.proofs.PlainMemory.{zeros-more}
use Rattle.om_model.proofs.slow.memory.Memory.add_zeros.Goals as goal

pub loop-i-preserved : goal.loop-i-preserved
loop-i-preserved c =
    c.set_page.ensures
    ∙ rw (c.from.ensures, c.from-in-loop-i.ensures, c.in_ok-bytes.ensures, c.loop-i.invariant) (zeros-more c.args.self.now c.args.first c.loop-i.i)
