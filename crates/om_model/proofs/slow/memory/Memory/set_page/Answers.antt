use Rattle.om_model.proofs.PlainMemory.{set-page}
use Rattle.om_model.proofs.slow.memory.Memory.set_page.Goals as goal

pub returns-then-page-len : goal.returns-then-page-len
returns-then-page-len c = rw (← c.self.view_is) (set-page c.self.inside.pages.items c.args.page c.args.bytes)
