use Rattle.std.proofs.Common.{◌+◌, ◌-◌, ◌≡◌, arith}
use Rattle.om_frame.specs.Blocks.{memory_of}
use Rattle.om_frame.proofs.Shelves.{block-lent, part-bytes}
use Rattle.om_frame.proofs.shelf.Shelf.part.Goals as goal

pub returns : goal.returns
returns c =
    let is = block-lent c.self.inside.blocks.items _ c.args.at.0 c.args.len c.locate-page.result.0 c.index.result.now c.self.view_is c.self.invariant.1 c.requires.held (omega arith) c.locate-page.ensures.page c.index.ensures in
    let len : c.locate-page.result.1 + c.args.len - c.locate-page.result.1 ≡ c.args.len = omega arith in
    rw (← c.self.view_is, len, c.locate-page.ensures.offset, c.deref.ensures.value)
    (part-bytes (memory_of c.self.inside.blocks.items) c.args.at.0 c.args.len c.index.result.now.items is.1 is.0 c.requires.one_page)
