use Rattle.std.proofs.Common.{◌≡◌, length}
use Rattle.om_frame.specs.Memory.{bytes_at}
use Rattle.om_model.proofs.slow.memory.Memory.bytes_at.Given as goal

abbrev pub invariant-loop-i : goal.invariant-loop-i
invariant-loop-i l = record {
  bytes : l.bytes.items ≡ bytes_at l.self l.address l.i;
  long : length l.bytes.items ≡ l.i;
}
