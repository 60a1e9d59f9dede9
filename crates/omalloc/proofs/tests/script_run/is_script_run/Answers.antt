use Rattle.std.proofs.Common.{◌∙◌, ap, sym, length}
use Rattle.std.proofs.lemmas.Result.{IfOk-weaker}
use Rattle.om_model.specs.Data.Room.{entries_of}
use Rattle.om_model.specs.Slow.{answers_in}
use Rattle.omalloc.proofs.PlainRun.{run-decided}
use Rattle.omalloc.proofs.tests.script_run.is_script_run.Goals as goal

pub returns : goal.returns
returns c =
    let script = c.args.script.now in
    let journals = entries_of c.args.journals.now in
    IfOk-weaker c.is_run_with.result _ _
    (λ is. run-decided c.args.pools c.args.caller (length script.names) script.commands journals c.args.outcomes.now (answers_in c.deref.result.now) is
    (λ answered ascend calls. c.in_ok-read.ensures answered ascend calls ∙ ap answers_in (sym c.deref.ensures.value)))
    c.is_run_with.ensures
