use Rattle.std.proofs.lemmas.Result.{IfOk-equal}
use Rattle.om_model.proofs.Titles.{head_added}
use Rattle.om_model.proofs.text.titles.push_head.Goals as goal

pub returns : goal.returns
returns c =
    let first = c.in_ok-extend_from_slice.ensures.items in
    let second = c.in_ok-push_options.ensures in
    let third = c.in_ok-push_plan.ensures in
    let inside = c.head.inside in
    IfOk-equal _ _ _ _ c.push_warnings.ensures (rw (third, second, first) (head_added c.args.out.now.items inside.opts inside.zones inside.plan inside.warned.items c.as_slice.result.now c.args.head.now c.head.view_is c.as_slice.ensures.value))
