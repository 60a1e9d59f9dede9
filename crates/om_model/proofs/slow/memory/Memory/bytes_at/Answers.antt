use Rattle.std.proofs.Common.{◌+◌, ◌∷◌, [], length, length-append, ap, ◌∙◌}
use Rattle.om_frame.specs.Memory.{byte_at}
use Rattle.om_model.proofs.Lists.{range_next}
use Rattle.om_model.proofs.slow.memory.Memory.bytes_at.Goals as goal

pub loop-i-preserved : goal.loop-i-preserved
loop-i-preserved c =
    let pushed = c.in_ok-push.ensures.items in
    let before = c.loop-i.bytes.items in
    let byte = c.byte_at.result in
    record {
      bytes = range_next (byte_at c.args.self.now) c.args.address c.loop-i.i before _ byte pushed c.loop-i.invariant.bytes c.byte_at.ensures;
      long = ap length pushed ∙ length-append before (byte ∷ []) ∙ ap (λ n. n + 1) c.loop-i.invariant.long;
    }
