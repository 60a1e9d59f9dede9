use Rattle.std.proofs.Common.{◌+◌, ◌-◌, ◌≡◌, refl, arith}
use Rattle.om_frame.specs.Blocks.{memory_of}
use Rattle.om_frame.proofs.Shelves.{block-lent, part-bytes, memory_of-lent, are_blocks-lent}
use Rattle.om_frame.proofs.shelf.Shelf.part_mut.Goals as goal

pub returns : goal.returns
returns c =
    let is = block-lent c.self.inside.blocks.items _ c.args.at.0 c.args.len c.locate-page.result.0 c.index_mut-block.result.now c.self.view_is c.self.invariant.1 c.requires.held (omega arith) c.locate-page.ensures.page c.index_mut-block.ensures.value in
    let len : c.locate-page.result.1 + c.args.len - c.locate-page.result.1 ≡ c.args.len = omega arith in (
      (
        refl,
        λ w. rw (← c.self.view_is, c.locate-page.ensures.page, c.locate-page.ensures.offset)
            (memory_of-lent c.self.inside.blocks.items c.index_mut-block.result.now c.args.at.0 c.args.len w is.1 is.0 (omega arith) c.requires.one_page),
      ),
      record {
        writes_back = tt;
        bytes = rw (← c.self.view_is, c.slice_mut-2.ensures.value, len, c.locate-page.ensures.offset)
            (part-bytes (memory_of c.self.inside.blocks.items) c.args.at.0 c.args.len c.index_mut-block.result.now.items is.1 is.0 c.requires.one_page);
      },
    )

pub invariant_of-self-lent-2 : goal.invariant_of-self-lent-2
invariant_of-self-lent-2 c w =
    let is = block-lent c.self.inside.blocks.items _ c.args.at.0 c.args.len c.locate-page.result.0 c.index_mut-block.result.now c.self.view_is c.self.invariant.1 c.requires.held (omega arith) c.locate-page.ensures.page c.index_mut-block.ensures.value in
    are_blocks-lent c.self.inside.blocks.items c.index_mut-block.result.now c.locate-page.result.0 c.locate-page.result.1 w is.1.long c.self.invariant
