use Rattle.std.proofs.Common.{◌≡◌, map, take}
use Rattle.om_model.specs.Slow.{answers_in}
use Rattle.omalloc.proofs.tests.script_run.calls_of.Given as goal

abbrev pub invariant-loop-one : goal.invariant-loop-one
invariant-loop-one l = l.calls.items ≡ map (λ a. a.0) (answers_in (take l.one-index l.answered))
