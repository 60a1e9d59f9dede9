use Rattle.std.proofs.Common.{◌∙◌, ◌++◌, ap}
use Rattle.std.specs.List.{flat_map}
use Rattle.om_model.specs.Data.Room.{entries_of}
use Rattle.om_model.specs.Output.Text.{head_lines, ended_line}
use Rattle.om_model.proofs.PlainText.{whole}
use Rattle.om_model.proofs.slow.text.text_of.Goals as goal

pub returns : goal.returns
returns c =
    let head = c.args.head.now in
    let first = c.in_ok-push_head.ensures ∙ ap (λ text. text ++ flat_map ended_line (head_lines head)) c.new-out.ensures.items in
    whole head (entries_of c.args.journals.now) c.args.board.now c.args.scripts.now c.push_head.new.out.items c.push_pools.new.out.items c.push_board.new.out.items c.push_scripts.new.out.items c.extend_from_slice.new.self.items
    first c.in_ok-push_pools.ensures c.in_ok-push_board.ensures c.in_ok-push_scripts.ensures c.in_ok-extend_from_slice.ensures.items
