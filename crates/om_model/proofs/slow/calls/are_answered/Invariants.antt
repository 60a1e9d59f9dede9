use Rattle.std.proofs.Common.{take}
use Rattle.std.specs.List.{AllByRecursion}
use Rattle.om_model.specs.Scripts.Calls.{IsAnswered}
use Rattle.om_model.specs.Slow.{answers_in}
use Rattle.om_model.proofs.slow.calls.are_answered.Given as goal

abbrev pub invariant-loop-one : goal.invariant-loop-one
invariant-loop-one l = AllByRecursion (λ a. IsAnswered l.pools (a.0).op a.1) (answers_in (take l.one-index l.answered))
