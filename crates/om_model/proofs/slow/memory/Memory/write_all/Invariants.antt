use Rattle.std.proofs.Common.{◌≡◌, ◌+◌, take}
use Rattle.om_frame.specs.Memory.{with_bytes}
use Rattle.om_model.proofs.slow.memory.Memory.write_all.Given as goal

abbrev pub invariant-loop-byte : goal.invariant-loop-byte
invariant-loop-byte l = record {
  at : l.at ≡ l.address + l.byte-index;
  bytes : l.self ≡ with_bytes l.fn.self l.address (take l.byte-index l.bytes);
}
