-- What a script says: its name, the names of its variables in the order of their first use, and its
-- commands. A variable of a command is its place in the names.
use Rattle.std.specs.Prelude.{◌≡◌, ℕ, ◌<◌, ◌≤◌, true, List, length, All}
use Rattle.om_model.specs.Scripts.Names.{is_name}
use Rattle.omalloc.specs.declared.command.Command.{Command}
use Rattle.omalloc.specs.declared.command.Command.TheVariants.{Malloc, Calloc, Realloc, Reallocarray, Free, Load, Store}

-- the most commands of a script, and the most names
abbrev pub most_commands : ℕ
most_commands = 200000

abbrev pub most_names : ℕ
most_names = 64

-- the greatest size, which is also the greatest count of items, the greatest offset, and the greatest byte
abbrev pub greatest_size : ℕ
greatest_size = 18446744073709551615

abbrev pub greatest_offset : ℕ
greatest_offset = 18446744073709551615

abbrev pub greatest_byte : ℕ
greatest_byte = 255

pub record ScriptText : Type 0 where
  pub name : List ℕ
  pub names : List (List ℕ)
  pub commands : List Command

-- a command of a script with so many variables
abbrev pub IsCommand : ℕ → Command → Type 0
IsCommand variables (Malloc var size site) = (var < variables) × (site ≡ 0)
IsCommand variables (Calloc var count size site) = (var < variables) × (site ≡ 0)
IsCommand variables (Realloc var from size site) = (var < variables) × (from < variables) × (site ≡ 0)
IsCommand variables (Reallocarray var from count size site) = (var < variables) × (from < variables) × (site ≡ 0)
IsCommand variables (Free var) = var < variables
IsCommand variables (Load var off) = var < variables
IsCommand variables (Store var off byte) = var < variables

-- what holds of every accepted script
pub record IsScript (script : ScriptText) : Type 0 where
  pub name : is_name script.name ≡ true
  pub short : length script.commands ≤ most_commands
  pub few_names : length script.names ≤ most_names
  pub each : All (IsCommand (length script.names)) script.commands
