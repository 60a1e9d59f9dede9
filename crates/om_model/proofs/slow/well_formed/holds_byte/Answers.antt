use Rattle.std.proofs.Common.{arith}
use Rattle.om_model.specs.Output.Head.{rules_of}
use Rattle.om_model.proofs.PlainExtents.{far-byte}
use Rattle.om_model.proofs.slow.well_formed.holds_byte.Goals as goal

pub returns-else-byte-lt18446744073709551616 : goal.returns-else-byte-lt18446744073709551616
returns-else-byte-lt18446744073709551616 c = far-byte (rules_of c.args.head.now c.args.pool) c.args.state.now c.args.byte c.fits.ensures.zones (omega arith)
