use Rattle.std.proofs.Common.{◌≡◌, map, take}
use Rattle.om_model.specs.Scripts.Calls.{last_reply}
use Rattle.om_model.specs.Slow.{answers_in}
use Rattle.omalloc.proofs.tests.script_run.last_replies.Given as goal

abbrev pub invariant-loop-one : goal.invariant-loop-one
invariant-loop-one l = l.replies.items ≡ map (λ a. last_reply a.1) (answers_in (take l.one-index l.answered))
