-- What is written of one pool and one script.
use Rattle.std.specs.Prelude.{ℕ, List, [], ◌∷◌, ◌++◌, length, codes}
use Rattle.std.specs.List.{flat_map, position}
use Rattle.std.specs.Fmt.{decimal}
use Rattle.om_model.specs.Output.Content.{Content}
use Rattle.om_model.specs.Output.Head.{Head}
use Rattle.om_model.specs.Output.Text.{head_lines, pool_title, pool_lines, board_lines, script_lines, ending_line, ended_line}
use Rattle.om_model.specs.Scripts.Outcomes.{is_fault}
use Rattle.om_model.specs.declared.entry.Entry.{Entry}
use Rattle.om_model.specs.declared.reply.Outcome.{Outcome}

-- a run of one script on one pool, with nothing on the board
abbrev pub content : Head → List Entry → List ℕ → List Outcome → Content
content head entries name outcomes = record {
  head = head;
  journals = entries ∷ [];
  board = [];
  transcripts = record { name = name; outcomes = outcomes } ∷ [];
}

-- the text of the head and the pool
abbrev pub front_of : Head → List Entry → List ℕ
front_of head entries = flat_map ended_line (head_lines head ++ pool_lines head (0, entries))

-- the text of the empty board, the script and the last line
abbrev pub back_of : List ℕ → List Outcome → List ℕ
back_of name outcomes =
    flat_map ended_line (board_lines [] ++ script_lines (0, record { name = name; outcomes = outcomes }) ++ codes "done" ∷ [])

-- the title of the pool
unfoldable pub title_of : Head → List Entry → List ℕ
title_of head entries = ended_line (pool_title head 0 (length entries))

-- above the outcomes stand the titles of the board and of the script, and below them how this ended
abbrev pub titles_of : List ℕ → List ℕ
titles_of name =
    ended_line (codes "board entries " ++ decimal 0) ++ ended_line (codes "script " ++ decimal 0 ++ codes " " ++ name)

abbrev pub end_of : List Outcome → List ℕ
end_of outcomes = ended_line (ending_line (position is_fault outcomes)) ++ ended_line (codes "done")
