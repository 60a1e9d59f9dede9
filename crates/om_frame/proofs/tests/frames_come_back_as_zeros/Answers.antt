use Rattle.std.proofs.Common.{arith}
use Rattle.om_frame.specs.FrameLaws.{held-page}
use Rattle.om_frame.proofs.tests.frames_come_back_as_zeros.Goals as goal

pub remove-bundle-requires-clause-there : goal.remove-bundle-requires-clause-there
remove-bundle-requires-clause-there g c page low high = held-page c.fill.new.shelf 69632 8192 page c.fill.ensures (omega arith) (omega arith)
