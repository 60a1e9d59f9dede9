use Rattle.std.proofs.lemmas.Slice.Eq.{slice_eq-Decides}
use Rattle.omalloc.proofs.PlainRun.{calls-decide}
use Rattle.omalloc.proofs.tests.script_run.are_same_calls.Goals as goal

pub returns : goal.returns
returns c = slice_eq-Decides calls-decide _ _ _ c.eq.ensures
