-- How far a text has been read.
use Rattle.std.specs.Prelude.{ℕ, ◌≤◌, ◌<◌, List, length, Option, Some, None}
use Rattle.om_script.specs.declared.reader.Current.{Current}
use Rattle.om_script.specs.Script.{ScriptText}
use Rattle.om_script.specs.Standing.{most_scripts, most_commands}

-- the scripts that have ended, the one that hasn't, and how many commands there were
pub record Reading : Type 0 where
  pub done : List ScriptText
  pub current : Option Current
  pub commands : ℕ

-- the scripts that have begun are not too many, and the one that hasn't ended has no more commands than there were
abbrev pub HasRoom : ℕ → Option Current → ℕ → Type 0
HasRoom done None commands = done ≤ most_scripts
HasRoom done (Some current) commands = (done < most_scripts) × (length current.script.commands ≤ commands)

abbrev pub IsWithin : ℕ → Option Current → ℕ → Type 0
IsWithin done current commands = (commands ≤ most_commands) × HasRoom done current commands
