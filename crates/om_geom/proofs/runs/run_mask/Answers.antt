use Rattle.std.proofs.Common.{◌+◌, arith}
use Rattle.std.proofs.lemmas.Nat.{one_shl}
use Rattle.om_geom.proofs.Masks.{pow-le}
use Rattle.om_geom.proofs.runs.run_mask.Goals as goal

pub overflow_sub-result : goal.overflow_sub-result
overflow_sub-result c = rw (one_shl c.args.first 64 (omega arith), one_shl (c.args.first + c.args.n) 64 (omega arith)) (pow-le c.args.first (c.args.first + c.args.n) (omega arith))
