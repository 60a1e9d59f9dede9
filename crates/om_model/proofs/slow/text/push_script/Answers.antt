use Rattle.std.proofs.Common.{◌∙◌, ◌++◌, ap, codes}
use Rattle.std.specs.Fmt.{decimal}
use Rattle.std.proofs.lemmas.Result.{IfOk-equal}
use Rattle.om_model.specs.Output.Content.{Told}
use Rattle.om_model.specs.Output.Text.{ending_line, ended_line, script_text}
use Rattle.om_model.proofs.PlainText.{script_added}
use Rattle.om_model.proofs.slow.text.push_script.Goals as goal

pub returns : goal.returns
returns c =
    let inside = c.told.inside in
    let told : Told = record { name = inside.name.items; outcomes = inside.outcomes } in
    let before = c.args.out.now.items in
    let title = c.in_ok-push_script_title.ensures ∙ ap (λ name. before ++ ended_line (codes "script " ++ decimal c.args.number ++ codes " " ++ name)) c.deref.ensures.value in
    IfOk-equal _ _ _ _ c.push_ending.ensures
    (ap (λ place. c.push_outcomes.new.out.items ++ ended_line (ending_line place)) c.first_fault.ensures
    ∙ script_added before c.push_script_title.new.out.items c.push_outcomes.new.out.items told c.args.number title c.in_ok-push_outcomes.ensures
    ∙ ap (λ t. before ++ script_text (c.args.number, t)) c.told.view_is)
