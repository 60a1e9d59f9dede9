use Rattle.std.proofs.Common.{append_assoc}
use Rattle.std.proofs.lemmas.Result.{IfOk-equal}
use Rattle.om_model.specs.Output.Text.{op_text}
use Rattle.om_model.proofs.text.answers.push_op.Goals as goal

pub returns-in_ok-push_decimal-in-Reallocarray-2 :
    goal.returns-in_ok-push_decimal-in-Reallocarray-2
unfolding op_text
returns-in_ok-push_decimal-in-Reallocarray-2 c =
    let first = c.in_ok-extend_from_slice-in-Reallocarray.ensures.items in
    let second = c.in_ok-push_hex-in-Reallocarray.ensures in
    let third = c.in_ok-extend_from_slice-in-Reallocarray-2.ensures.items in
    let fourth = c.in_ok-push_decimal-in-Reallocarray.ensures in
    let fifth = c.in_ok-extend_from_slice-in-Reallocarray-3.ensures.items in
    let sixth = c.in_ok-push_decimal-in-Reallocarray-2.ensures in
    rw c.in-Reallocarray.is (IfOk-equal _ _ _ _ c.push_site-in-Reallocarray.ensures (rw (sixth, fifth, fourth, third, second, first) (simp append_assoc)))
