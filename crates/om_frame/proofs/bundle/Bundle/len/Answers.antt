use Rattle.om_frame.proofs.bundle.Bundle.len.Goals as goal

pub returns-clause-few : goal.returns-clause-few
returns-clause-few c = c.self.invariant.few
