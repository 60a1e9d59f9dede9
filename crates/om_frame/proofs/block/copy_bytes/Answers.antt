use Rattle.std.proofs.Common.{◌≡◌, ◌+◌, ◌-◌, ◌<◌, ℕ, List, length, take, drop, get_or, ap, sym, ◌∙◌, arith}
use Rattle.std.specs.Vec.{with_items}
use Rattle.om_frame.specs.Memory.{page_bytes}
use Rattle.om_frame.specs.MemoryLaws.{spliced}
use Rattle.om_frame.specs.Blocks.{memory_of}
use Rattle.om_frame.proofs.Copies.{block-bytes, block-low, block-high, memory_of-written, set-low, set-high}
use Rattle.om_frame.proofs.block.copy_bytes.Goals as goal

pub returns-then-source-target : goal.returns-then-source-target
returns-then-source-target c =
    let blocks = c.args.blocks.now in
    let memory : List (List ℕ) = memory_of blocks in
    let block = get_or blocks c.args.to.0 c.index-blocks-target.result in
    let shown : page_bytes memory c.args.to.0 ≡ block.items = block-bytes blocks c.args.to.0 c.index-blocks-target.result c.requires.target in
    let source : page_bytes memory c.args.from.0 ≡ block.items = ap (page_bytes memory) c.if-source-target.true ∙ shown in
    memory_of-written blocks c.args.to.0 c.args.to.1 block c.copy_inside.new.block (take c.args.len (drop c.args.from.1 (page_bytes memory c.args.from.0))) shown
    (c.copy_inside.auto.block ∙ ap length c.deref_mut.ensures.value)
    (c.copy_inside.ensures
    ∙ ap (λ (bytes : List ℕ). spliced c.args.to.1 bytes (take c.args.len (drop c.args.from.1 bytes))) c.deref_mut.ensures.value
    ∙ ap (λ (bytes : List ℕ). spliced c.args.to.1 block.items (take c.args.len (drop c.args.from.1 bytes))) (sym source))

pub returns-then-source-target-2 : goal.returns-then-source-target-2
returns-then-source-target-2 c =
    let blocks = c.args.blocks.now in
    let low = c.split_at_mut-low.result.0.now in
    let high = c.split_at_mut-low.result.1.now in
    let cut = c.split_at_mut-low.ensures in
    let memory : List (List ℕ) = memory_of blocks in
    let block = get_or high 0 c.index-high-0.result in
    let count : c.args.from.1 + c.args.len - c.args.from.1 ≡ c.args.len = omega arith in
    let shown : page_bytes memory c.args.to.0 ≡ block.items = block-high blocks high c.args.to.0 c.index-high-0.result cut.back c.requires.target in
    let source : page_bytes memory c.args.from.0 ≡ c.deref.result.now = block-low blocks low c.args.to.0 c.args.from.0 c.index-low-source.result cut.front c.if-source-target-2.true c.requires.source ∙ sym c.deref.ensures.value in
    ap memory_of (set-high blocks low high c.args.to.0 (with_items block c.overwrite.new.block) cut.value cut.front_len)
    ∙ memory_of-written blocks c.args.to.0 c.args.to.1 block c.overwrite.new.block (take c.args.len (drop c.args.from.1 (page_bytes memory c.args.from.0))) shown
    (c.overwrite.auto.block ∙ ap length c.deref_mut-then-source-target-2.ensures.value)
    (c.overwrite.ensures
    ∙ ap (λ (bytes : List ℕ). spliced c.args.to.1 bytes (take (c.args.from.1 + c.args.len - c.args.from.1) (drop c.args.from.1 c.deref.result.now))) c.deref_mut-then-source-target-2.ensures.value
    ∙ ap (λ (n : ℕ). spliced c.args.to.1 block.items (take n (drop c.args.from.1 c.deref.result.now))) count
    ∙ ap (λ (bytes : List ℕ). spliced c.args.to.1 block.items (take c.args.len (drop c.args.from.1 bytes))) (sym source))

pub returns : goal.returns
returns c =
    let blocks = c.args.blocks.now in
    let low = c.split_at_mut-low-2.result.0.now in
    let high = c.split_at_mut-low-2.result.1.now in
    let cut = c.split_at_mut-low-2.ensures in
    let memory : List (List ℕ) = memory_of blocks in
    let block = get_or low c.args.to.0 c.index-low-target.result in
    let count : c.args.from.1 + c.args.len - c.args.from.1 ≡ c.args.len = omega arith in
    let before : c.args.to.0 < c.args.from.0 = omega arith in
    let shown : page_bytes memory c.args.to.0 ≡ block.items = block-low blocks low c.args.from.0 c.args.to.0 c.index-low-target.result cut.front before c.requires.target in
    let source : page_bytes memory c.args.from.0 ≡ c.deref-2.result.now = block-high blocks high c.args.from.0 c.index-high-0-2.result cut.back c.requires.source ∙ sym c.deref-2.ensures.value in
    ap memory_of (set-low blocks low high c.args.to.0 (with_items block c.overwrite-2.new.block) cut.value (omega (arith, cut.front_len)))
    ∙ memory_of-written blocks c.args.to.0 c.args.to.1 block c.overwrite-2.new.block (take c.args.len (drop c.args.from.1 (page_bytes memory c.args.from.0))) shown
    (c.overwrite-2.auto.block ∙ ap length c.deref_mut-2.ensures.value)
    (c.overwrite-2.ensures
    ∙ ap (λ (bytes : List ℕ). spliced c.args.to.1 bytes (take (c.args.from.1 + c.args.len - c.args.from.1) (drop c.args.from.1 c.deref-2.result.now))) c.deref_mut-2.ensures.value
    ∙ ap (λ (n : ℕ). spliced c.args.to.1 block.items (take n (drop c.args.from.1 c.deref-2.result.now))) count
    ∙ ap (λ (bytes : List ℕ). spliced c.args.to.1 block.items (take c.args.len (drop c.args.from.1 bytes))) (sym source))
