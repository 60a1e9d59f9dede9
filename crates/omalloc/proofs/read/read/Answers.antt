use Rattle.std.proofs.Common.{◌≡◌, Result, Ok, Err, IfOk, List, ℕ}
use Rattle.omalloc.specs.declared.read.TextStop.{TextStop}
use Rattle.omalloc.specs.Script.{ScriptText, IsScript}
use Rattle.omalloc.specs.AcceptedInput.{script_of}
use Rattle.omalloc.proofs.AcceptedInput.{accepted_is_script}
use Rattle.omalloc.proofs.read.read.Goals as goal

form : (text : List ℕ) (r : Result ScriptText TextStop) → IfOk r (λ script. script_of text ≡ Ok script) → IfOk r IsScript
form text (Ok script) e = accepted_is_script text script e
form text (Err stop) e = tt

pub returns-clause-form : goal.returns-clause-form
returns-clause-form c = form c.args.text.now c.read_text.result c.read_text.ensures.accepted
