use Rattle.std.proofs.Common.{◌+◌, ap, length, set, ◌∙◌, arith, List}
use Rattle.om_pages.specs.TableLaws.{length-with_run, with_run-none, with_run-more}
use Rattle.om_pages.specs.declared.kind.PageKind.{PageKind}
use Rattle.om_pages.proofs.table.PageTable.set_run.Goals as goal

pub loop-i-init : goal.loop-i-init
loop-i-init c = with_run-none c.args.self.now c.args.first c.args.kind

pub set-requires : goal.set-requires
set-requires c =
    let there = (c.requires.there (c.args.first + c.loop-i.i) (omega arith) (omega arith)).0 in
    let long = ap length c.loop-i.invariant ∙ length-with_run c.args.self.now c.args.first c.loop-i.i c.args.kind in
    omega arith

pub loop-i-preserved : goal.loop-i-preserved
loop-i-preserved c =
    let there = (c.requires.there (c.args.first + c.loop-i.i) (omega arith) (omega arith)).0 in
    c.set.ensures
    ∙ ap (λ (table : List PageKind). set table (c.args.first + c.loop-i.i) c.args.kind) c.loop-i.invariant
    ∙ with_run-more c.args.self.now c.args.first c.loop-i.i c.args.kind there
