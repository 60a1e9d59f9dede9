use Rattle.std.proofs.Common.{arith}
use Rattle.om_geom.proofs.Masks.{mask_tests_run}
use Rattle.om_geom.proofs.runs.is_clear.Goals as goal

pub returns : goal.returns
returns c = rw c.run_mask.ensures (mask_tests_run c.args.bits c.args.first c.args.n (omega arith))
