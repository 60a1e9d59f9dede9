use Rattle.std.proofs.Common.{arith, length-take}
use Rattle.om_io.proofs.Front.{copied_and_rest}
use Rattle.om_io.proofs.memory.MemSourceSource.read.Goals as goal

pub returns-clause-given : goal.returns-clause-given
returns-clause-given c =
    rw (← c.self.view_is) (copied_and_rest c.self.inside.given c.min-count.result c.self.inside.bytes.items c.copy_from_slice.new.self _ (rw c.deref.ensures.value at c.copy_from_slice.ensures.after) (omega (arith, c.copy_from_slice.ensures.len, length-take c.min-count.result c.args.buf.now)))
