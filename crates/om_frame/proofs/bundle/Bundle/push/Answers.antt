use Rattle.om_frame.proofs.Rows.{row_push}
use Rattle.om_frame.proofs.bundle.Bundle.push.Goals as goal

pub invariant_of-self : goal.invariant_of-self
invariant_of-self c = (row_push c.self.inside.frames c.self.inside.len c.args.self.now c.args.frame c.self.invariant c.self.view_is c.requires.few c.requires.next).0

pub returns : goal.returns
returns c = (row_push c.self.inside.frames c.self.inside.len c.args.self.now c.args.frame c.self.invariant c.self.view_is c.requires.few c.requires.next).1
