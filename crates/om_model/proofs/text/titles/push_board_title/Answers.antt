use Rattle.std.proofs.Common.{append_assoc}
use Rattle.om_model.proofs.text.titles.push_board_title.Goals as goal

pub returns : goal.returns
returns c =
    let first = c.in_ok-extend_from_slice.ensures.items in
    let second = c.in_ok-push_decimal.ensures in
    let third = c.in_ok-push.ensures.items in
    rw (third, second, first) (simp append_assoc)
