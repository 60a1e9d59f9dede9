use Rattle.std.proofs.Common.{List, ℕ, get_or, take, ap, ◌∙◌, arith}
use Rattle.om_frame.specs.Memory.{with_byte, with_bytes}
use Rattle.om_model.proofs.PlainMemory.{write-next}
use Rattle.om_model.proofs.slow.memory.Memory.write_all.Goals as goal

pub loop-byte-preserved : goal.loop-byte-preserved
loop-byte-preserved c =
    let memory = c.args.self.now in
    let bytes = c.args.bytes.now in
    let i = c.loop-byte.byte-index in
    record {
      at = omega arith;
      bytes = c.write.ensures
          ∙ ap (λ (m : List (List ℕ)). with_byte m c.loop-byte.at (get_or bytes i 0)) c.loop-byte.invariant.bytes
          ∙ ap (λ (at : ℕ). with_byte (with_bytes memory c.args.address (take i bytes)) at (get_or bytes i 0)) c.loop-byte.invariant.at
          ∙ write-next memory c.args.address bytes i c.loop-byte-test.true;
    }
