use Rattle.std.proofs.Common.{◌≡◌, append_assoc}
use Rattle.omalloc.specs.Refusal.{line_number}
use Rattle.omalloc.proofs.refusal.push_line.Goals as goal

pub returns : goal.returns
returns c =
    let at : c.from.result ≡ c.args.at = c.from.ensures in
    let number : c.from-2.result ≡ c.number.result = c.from-2.ensures in
    let told : c.number.result ≡ line_number c.args.why = c.number.ensures in
    rw (c.in_ok-extend_from_slice-4.ensures.items, c.name.ensures, c.in_ok-extend_from_slice-3.ensures.items, c.in_ok-push_decimal-2.ensures, number, told, c.in_ok-extend_from_slice-2.ensures.items, c.in_ok-push_decimal.ensures, at, c.in_ok-extend_from_slice.ensures.items) (simp append_assoc)
