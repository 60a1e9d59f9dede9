-- What an output tells: a head, a journal for each pool, the board, and a transcript for each script.
use Rattle.std.specs.Prelude.{ℕ, List}
use Rattle.om_model.specs.Output.Head.{Head}
use Rattle.om_model.specs.declared.board.BoardEntry.{BoardEntry}
use Rattle.om_model.specs.declared.entry.Entry.{Entry}
use Rattle.om_model.specs.declared.reply.Outcome.{Outcome}

-- a script's name and the outcomes of its commands
pub record Told : Type 0 where
  pub name : List ℕ
  pub outcomes : List Outcome

pub record Content : Type 0 where
  pub head : Head
  pub journals : List (List Entry)
  pub board : List BoardEntry
  pub transcripts : List Told
