use Rattle.std.proofs.Common.{sym, ◌∙◌}
use Rattle.om_frame.specs.FrameLaws.{without_pages-more}
use Rattle.om_model.proofs.slow.memory.Memory.remove.Goals as goal

pub loop-i-preserved : goal.loop-i-preserved
loop-i-preserved c =
    c.set_page.ensures
    ∙ rw (c.from.ensures, c.from-in-loop-i.ensures, c.new-none.ensures.items, c.loop-i.invariant) (sym (without_pages-more c.args.self.now c.args.first c.loop-i.i))
