use Rattle.std.proofs.Common.{◌≤◌, length, arith, refl}
use Rattle.om_pages.specs.Kinds.{is_held}
use Rattle.om_pages.specs.TableLaws.{length-no_pages, no_pages-all, with_run-all}
use Rattle.om_pages.specs.declared.kind.PageKind.TheVariants.{Free}
use Rattle.om_pages.proofs.tests.a_block_with_its_guard.Goals as goal

pub add_run-requires : goal.add_run-requires
add_run-requires g c = rw c.in_ok-table.ensures (no_pages-all 1 28 4 (omega arith))

pub set_block-requires : goal.set_block-requires
set_block-requires g c =
    let within : 32 ≤ length c.in_ok-table.table = rw c.in_ok-table.ensures (omega (arith, length-no_pages 1)) in
    rw c.add_run.ensures (with_run-all is_held c.in_ok-table.table 28 4 Free within refl 29 3 (omega arith) (omega arith))
