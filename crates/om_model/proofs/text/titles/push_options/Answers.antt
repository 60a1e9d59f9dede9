use Rattle.std.proofs.Common.{append_assoc}
use Rattle.std.proofs.lemmas.Result.{IfOk-equal}
use Rattle.om_model.proofs.text.titles.push_options.Goals as goal

pub returns : goal.returns
returns c =
    let first = c.in_ok-push_counts.ensures in
    let second = c.in_ok-push_flags.ensures in
    IfOk-equal _ _ _ _ c.push_levels.ensures (rw (second, first) (simp append_assoc))
