use Rattle.std.proofs.Common.{ap, length, ◌∙◌, arith, refl}
use Rattle.om_pages.specs.TableLaws.{length-with_run}
use Rattle.om_pages.proofs.table.PageTable.set_block.Goals as goal

pub set_run-requires-then-guard-clause-there : goal.set_run-requires-then-guard-clause-there
set_run-requires-then-guard-clause-there c page low high =
    let asked = rw c.if-guard.true at c.requires in
    let there = (asked page (omega arith) (omega arith)).0 in
    let long = ap length c.set_run.ensures ∙ length-with_run _ _ _ _ in
    (omega arith, refl)
