use Rattle.std.proofs.Common.{arith}
use Rattle.om_model.proofs.PlainMemory.{put-byte}
use Rattle.om_model.proofs.slow.memory.Memory.write.Goals as goal

pub returns-then-page-len : goal.returns-then-page-len
returns-then-page-len c =
    rw (← c.self.view_is, ← c.page_of-page.ensures, ← c.offset_of.ensures)
    (put-byte c.self.inside.pages.items c.page_of-page.result c.offset_of.result c.args.byte c.index_mut.result.now c.put.new.bytes (omega arith) c.index_mut.ensures.value c.put.ensures)
