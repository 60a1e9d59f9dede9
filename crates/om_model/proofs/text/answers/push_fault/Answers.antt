use Rattle.std.proofs.Common.{append_assoc, refl}
use Rattle.std.proofs.lemmas.Result.{IfOk-equal}
use Rattle.om_model.specs.Output.Text.{fault_text}
use Rattle.om_model.proofs.text.answers.push_fault.Goals as goal

pub returns-in_ok-extend_from_slice-in-Canary : goal.returns-in_ok-extend_from_slice-in-Canary
unfolding fault_text
returns-in_ok-extend_from_slice-in-Canary c =
    let added = c.in_ok-extend_from_slice-in-Canary.ensures.items in
    rw c.in-Canary.is (IfOk-equal _ _ _ _ c.push_decimal.ensures (rw (added, append_assoc) refl))

pub returns-in_ok-extend_from_slice-in-WriteAfterFree-2 :
    goal.returns-in_ok-extend_from_slice-in-WriteAfterFree-2
unfolding fault_text
returns-in_ok-extend_from_slice-in-WriteAfterFree-2 c =
    let first = c.in_ok-extend_from_slice-in-WriteAfterFree.ensures.items in
    let second = c.in_ok-push_hex-in-WriteAfterFree.ensures in
    let third = c.in_ok-extend_from_slice-in-WriteAfterFree-2.ensures.items in
    rw c.in-WriteAfterFree.is (IfOk-equal _ _ _ _ c.push_decimal-in-WriteAfterFree.ensures (rw (third, second, first) (simp append_assoc)))
