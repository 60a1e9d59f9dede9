use Rattle.std.proofs.Common.{[], refl, arith}
use Rattle.om_frame.proofs.Rows.{is_packed-row, row-empty}
use Rattle.om_frame.proofs.bundle.Bundle.empty.Goals as goal

pub invariant_of-result : goal.invariant_of-result
invariant_of-result c = (is_packed-row c.default.result [] 0 (row-empty c.default.result c.default.ensures) refl (omega arith) tt).0

pub returns : goal.returns
returns c = (is_packed-row c.default.result [] 0 (row-empty c.default.result c.default.ensures) refl (omega arith) tt).1
