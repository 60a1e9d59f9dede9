use Rattle.std.proofs.Common.{◌≡◌}
use Rattle.om_pages.specs.Tables.{with_run}
use Rattle.om_pages.proofs.table.PageTable.set_run.Given as goal

abbrev pub invariant-loop-i : goal.invariant-loop-i
invariant-loop-i l = l.self ≡ with_run l.fn.self l.first l.i l.kind
