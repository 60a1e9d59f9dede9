use Rattle.std.proofs.Common.{◌≡◌, append_assoc}
use Rattle.std.proofs.lemmas.Result.{IfOk-equal}
use Rattle.om_model.proofs.text.entries.push_taking.Goals as goal

pub returns-in-Some : goal.returns-in-Some
returns-in-Some c =
    let first = c.in_ok-extend_from_slice.ensures.items in
    let number : c.from.result ≡ c.args.cell = c.from.ensures in
    let second = c.in_ok-push_decimal.ensures in
    rw c.in-Some.is (IfOk-equal _ _ _ _ c.push_value.ensures (rw (second, number, first) (simp append_assoc)))
