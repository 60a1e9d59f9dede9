use Rattle.std.proofs.Common.{arith}
use Rattle.om_pages.specs.TableLaws.{no_pages-all}
use Rattle.om_pages.proofs.tests.runs_at_the_end_of_a_zone.Goals as goal

pub add_run-requires : goal.add_run-requires
add_run-requires g c = rw (c.moves-table.ensures, c.in_ok-new.ensures) (no_pages-all 2 28 8 (omega arith))
