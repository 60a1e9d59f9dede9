use Rattle.std.proofs.Common.{◌∙◌, ◌++◌, ap}
use Rattle.std.proofs.lemmas.Result.{IfOk-equal}
use Rattle.om_model.specs.Data.CallEntry.{CallEntry}
use Rattle.om_model.specs.Output.Text.{call_text}
use Rattle.om_model.proofs.Titles.{call_added}
use Rattle.om_model.proofs.text.entries.push_call.Goals as goal

pub returns : goal.returns
returns c =
    let inside = c.call.inside in
    let call : CallEntry = record { who = inside.who; op = inside.op; reply = inside.reply; words = inside.words; looks = inside.looks.items; taken = inside.taken; claim = inside.claim; release = inside.release } in
    IfOk-equal _ _ _ _ c.push_release.ensures
    (call_added c.args.out.now.items _ _ _ _ _ _ _ _ _ call c.in_ok-push_who.ensures c.in_ok-extend_from_slice.ensures.items c.in_ok-push_op.ensures c.in_ok-extend_from_slice-2.ensures.items
    c.in_ok-push_reply.ensures c.in_ok-push_words.ensures c.in_ok-push_taken.ensures c.in_ok-push_looks.ensures c.in_ok-push_claim.ensures
    ∙ ap (λ e. c.args.out.now.items ++ call_text e) c.call.view_is)
