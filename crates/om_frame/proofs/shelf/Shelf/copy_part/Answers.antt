use Rattle.std.proofs.Common.{◌≡◌, ℕ, List, length, ap, ◌∙◌, arith}
use Rattle.om_frame.specs.Memory.{bytes_at, copied}
use Rattle.om_frame.specs.Blocks.{memory_of}
use Rattle.om_frame.proofs.Copies.{part-page, offsets-apart, copied-blocks, whole-items, shelf-written}
use Rattle.om_frame.proofs.shelf.Shelf.copy_part.Goals as goal

pub copy_bytes-requires-clause-source_bytes : goal.copy_bytes-requires-clause-source_bytes
copy_bytes-requires-clause-source_bytes c =
    let page = part-page c.self.inside.blocks.items c.args.self.now c.args.from.0 c.args.len c.self.view_is c.self.invariant.1 c.requires.source c.requires.some in
    rw (c.deref_mut.ensures.value, c.locate.ensures.page, c.locate.ensures.offset) (omega (arith, page.1.long))

pub copy_bytes-requires-clause-target_bytes : goal.copy_bytes-requires-clause-target_bytes
copy_bytes-requires-clause-target_bytes c =
    let page = part-page c.self.inside.blocks.items c.args.self.now c.args.to.0 c.args.len c.self.view_is c.self.invariant.1 c.requires.target c.requires.some in
    rw (c.deref_mut.ensures.value, c.locate-2.ensures.page, c.locate-2.ensures.offset) (omega (arith, page.1.long))

pub copy_bytes-requires-clause-apart : goal.copy_bytes-requires-clause-apart
copy_bytes-requires-clause-apart c =
    let source = part-page c.self.inside.blocks.items c.args.self.now c.args.from.0 c.args.len c.self.view_is c.self.invariant.1 c.requires.source c.requires.some in
    let target = part-page c.self.inside.blocks.items c.args.self.now c.args.to.0 c.args.len c.self.view_is c.self.invariant.1 c.requires.target c.requires.some in
    rw (c.locate.ensures.page, c.locate-2.ensures.page, c.locate.ensures.offset, c.locate-2.ensures.offset)
    (offsets-apart c.args.from.0 c.args.to.0 c.args.len source.0 target.0 c.requires.some c.requires.apart)

pub invariant_of-self : goal.invariant_of-self
invariant_of-self c =
    let blocks = c.self.inside.blocks in
    let new = c.copy_bytes.new.blocks in
    let many : length new ≡ length blocks.items = c.copy_bytes.auto.blocks ∙ ap length c.deref_mut.ensures.value in
    let after = copied-blocks blocks.items c.deref_mut.result.now new c.args.self.now c.args.from.0 c.args.to.0 c.args.len c.locate.result.0 c.locate.result.1 c.locate-2.result.0 c.locate-2.result.1
    c.self.view_is c.self.invariant.1 c.requires.source c.requires.target c.requires.some c.requires.source_page c.requires.target_page
    c.deref_mut.ensures.value c.locate.ensures.page c.locate.ensures.offset c.locate-2.ensures.page c.locate-2.ensures.offset c.copy_bytes.ensures in
    shelf-written blocks new c.args.to.0 (bytes_at (memory_of blocks.items) c.args.from.0 c.args.len) after many c.self.invariant

pub returns : goal.returns
returns c =
    let blocks = c.self.inside.blocks in
    let new = c.copy_bytes.new.blocks in
    let many : length new ≡ length blocks.items = c.copy_bytes.auto.blocks ∙ ap length c.deref_mut.ensures.value in
    let after = copied-blocks blocks.items c.deref_mut.result.now new c.args.self.now c.args.from.0 c.args.to.0 c.args.len c.locate.result.0 c.locate.result.1 c.locate-2.result.0 c.locate-2.result.1
    c.self.view_is c.self.invariant.1 c.requires.source c.requires.target c.requires.some c.requires.source_page c.requires.target_page
    c.deref_mut.ensures.value c.locate.ensures.page c.locate.ensures.offset c.locate-2.ensures.page c.locate-2.ensures.offset c.copy_bytes.ensures in
    ap memory_of (whole-items blocks new many) ∙ after ∙ ap (λ (memory : List (List ℕ)). copied memory c.args.from.0 c.args.to.0 c.args.len) c.self.view_is
