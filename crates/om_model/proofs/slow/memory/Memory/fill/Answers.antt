use Rattle.std.proofs.Common.{◌+◌, List, ℕ, ap, ◌∙◌}
use Rattle.om_frame.specs.Memory.{with_byte}
use Rattle.om_frame.specs.MemoryLaws.{filled-more}
use Rattle.om_model.proofs.slow.memory.Memory.fill.Goals as goal

pub loop-i-preserved : goal.loop-i-preserved
loop-i-preserved c =
    c.write.ensures
    ∙ ap (λ (m : List (List ℕ)). with_byte m (c.args.address + c.loop-i.i) c.args.byte) c.loop-i.invariant
    ∙ filled-more c.args.self.now c.args.address c.loop-i.i 1 c.args.byte
