use Rattle.std.proofs.Common.{◌++◌, codes, length}
use Rattle.std.specs.Fmt.{decimal}
use Rattle.std.proofs.lemmas.Result.{IfOk-equal}
use Rattle.om_model.specs.Output.Text.{board_entry_text, board_lines}
use Rattle.om_model.proofs.PlainText.{titled_added}
use Rattle.om_model.proofs.slow.text.push_board.Goals as goal

pub returns : goal.returns
unfolding board_lines
returns c =
    IfOk-equal _ _ _ _ c.push_posts.ensures
    (titled_added board_entry_text c.args.out.now.items c.push_board_title.new.out.items (codes "board entries " ++ decimal (length c.args.board.now)) c.args.board.now c.in_ok-push_board_title.ensures)
