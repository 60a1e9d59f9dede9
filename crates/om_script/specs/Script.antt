-- What a script says: its name, the names of its variables in the order of their first use, and its commands. A variable
-- of a command is its place in the names.
use Rattle.std.specs.Prelude.{ℕ, List}
use Rattle.om_script.specs.declared.command.Command.{Command}

pub record ScriptText : Type 0 where
  pub name : List ℕ
  pub names : List (List ℕ)
  pub commands : List Command
