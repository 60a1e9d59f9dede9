-- What holds of scripts, however they came to be: each is one that some text says.
use Rattle.std.specs.Prelude.{ℕ, ◌≡◌, ◌<◌, ◌≤◌, ◌^◌, true, false, List, [], ◌∷◌, ◌++◌, length, map, flat_map, sum_by, bytes_eq, slice_index_or}
use Rattle.std.specs.List.{list_any, list_all, AllByRecursion}
use Rattle.om_script.specs.declared.command.Command.{Command}
use Rattle.om_script.specs.declared.command.Command.TheVariants.{Malloc, Calloc, Realloc, Reallocarray, Free, Load, Store, Let, Add, Post, Take, Phase}
use Rattle.om_script.specs.Words.{is_name}
use Rattle.om_script.specs.Keywords.{with_names}
use Rattle.om_script.specs.Script.{ScriptText}
use Rattle.om_script.specs.Standing.{most_scripts, most_commands, most_names}

-- the variables of a command, in the order of its words
abbrev pub variables_of : Command → List ℕ
variables_of (Malloc var size site) = var ∷ []
variables_of (Calloc var count size site) = var ∷ []
variables_of (Realloc var from size site) = var ∷ from ∷ []
variables_of (Reallocarray var from count size site) = var ∷ from ∷ []
variables_of (Free var) = var ∷ []
variables_of (Load var off) = var ∷ []
variables_of (Store var off byte) = var ∷ []
variables_of (Let var value) = var ∷ []
variables_of (Add var from off) = var ∷ from ∷ []
variables_of (Post cell var) = var ∷ []
variables_of (Take var cell) = var ∷ []
variables_of Phase = []

-- a command of a script with so many variables, whose numbers are such as may stand there
abbrev pub IsCommand : ℕ → Command → Type 0
IsCommand n (Malloc var size site) = (var < n) × (size < 2 ^ 64) × (site < 2 ^ 64)
IsCommand n (Calloc var count size site) = (var < n) × (count < 2 ^ 64) × (size < 2 ^ 64) × (site < 2 ^ 64)
IsCommand n (Realloc var from size site) = (var < n) × (from < n) × (size < 2 ^ 64) × (site < 2 ^ 64)
IsCommand n (Reallocarray var from count size site) = (var < n) × (from < n) × (count < 2 ^ 64) × (size < 2 ^ 64) × (site < 2 ^ 64)
IsCommand n (Free var) = var < n
IsCommand n (Load var off) = (var < n) × (off < 2 ^ 64)
IsCommand n (Store var off byte) = (var < n) × (off < 2 ^ 64) × (byte < 256)
IsCommand n (Let var value) = (var < n) × (value < 2 ^ 64)
IsCommand n (Add var from off) = (var < n) × (from < n) × (off < 2 ^ 64)
IsCommand n (Post cell var) = (cell < 64) × (var < n)
IsCommand n (Take var cell) = (var < n) × (cell < 64)
IsCommand n Phase = Unit {0}

-- the name in this place
abbrev pub name_at : List (List ℕ) → ℕ → List ℕ
name_at names var = slice_index_or names var []

-- the names that a command uses
abbrev pub used_by : List (List ℕ) → Command → List (List ℕ)
used_by names command = map (name_at names) (variables_of command)

pub record IsScript (script : ScriptText) : Type 0 where
  pub name : is_name script.name ≡ true
  pub names : list_all is_name script.names ≡ true
  pub few : length script.names ≤ most_names
  -- the names are those that the commands use, in the order of first use
  pub used : script.names ≡ with_names [] (flat_map (used_by script.names) script.commands)
  pub commands : AllByRecursion (IsCommand (length script.names)) script.commands

-- no title is one of those, or of those before it
abbrev pub AreNew : List (List ℕ) → List (List ℕ) → Type 0
AreNew before [] = Unit {0}
AreNew before (title ∷ titles) = (list_any (λ t. bytes_eq t title) before ≡ false) × AreNew (before ++ title ∷ []) titles

pub record AreScripts (scripts : List ScriptText) : Type 0 where
  pub few : length scripts ≤ most_scripts
  pub commands : sum_by (λ s. length s.commands) scripts ≤ most_commands
  pub titles : AreNew [] (map (λ s. s.name) scripts)
  pub each : AllByRecursion IsScript scripts
