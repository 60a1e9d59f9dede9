use Rattle.std.proofs.lemmas.Slice.Eq.{slice_eq-Decides}
use Rattle.om_model.proofs.PlainValues.{asked-decides}
use Rattle.om_model.proofs.slow.calls.show_same.Goals as goal

pub returns : goal.returns
returns c = slice_eq-Decides asked-decides _ _ _ c.eq.ensures
