-- Accepted input. Line 1 is `script NAME`, then come at most 200,000 lines `malloc V N`, `calloc V COUNT N`,
-- `realloc V W N`, `reallocarray V W COUNT N`, `free V`, `load V OFF` or `store V OFF BYTE`, and the last line is `end`.
-- The numbers are decimal: N, COUNT and OFF up to 2^64 - 1, BYTE up to 255. V, W and NAME are names, and at most 64
-- different variables are used. One byte 32 stands between two fields of a line, and none elsewhere. Each line ends with
-- byte 10, the last perhaps without.
use Rattle.std.specs.Prelude.{ℕ, ◌≡◌, ◌+◌, ◌-◌, ◌*◌, Bool, ◌&&◌, ◌||◌, ◌==◌, nat_le, nat_lt, List, [], ◌∷◌, ◌++◌, length, fold, codes, Option, Some, None, Result, Ok, Err, if◌then◌else◌, bytes_eq}
use Rattle.std.specs.List.{slice_split, onto_first, list_all, position_or_len}
use Rattle.std.specs.Option.{option_map_or, option_map, option_and_then}
use Rattle.om_model.specs.Scripts.Names.{is_digit, is_name}
use Rattle.omalloc.specs.declared.command.Command.{Command}
use Rattle.omalloc.specs.declared.command.Command.TheVariants.{Malloc, Calloc, Realloc, Reallocarray, Free, Load, Store}
use Rattle.omalloc.specs.declared.script.Request.{Request}
use Rattle.omalloc.specs.declared.script.Request.TheVariants as request
use Rattle.omalloc.specs.declared.read.TextStop.{TextStop}
use Rattle.omalloc.specs.declared.read.TextStop.TheVariants.{Refused, Memory}
use Rattle.omalloc.specs.Script.{ScriptText, most_commands, most_names, greatest_size, greatest_offset, greatest_byte}

-- the lines end at each byte 10, and the last one perhaps at the end of the text
abbrev pub text_lines : List ℕ → List (List ℕ)
text_lines [] = []
text_lines (b ∷ bs) = if b == 10 then [] ∷ text_lines bs else onto_first b (text_lines bs)

-- what stands between the spaces
abbrev pub fields_of : List ℕ → List (List ℕ)
fields_of line = slice_split (λ b. b == 32) line

-- the fields behind a space, where one follows
abbrev pub fields_behind : Option (List ℕ) → List (List ℕ)
fields_behind None = []
fields_behind (Some text) = fields_of text

-- the number that decimal digits stand for
abbrev pub number_of : List ℕ → ℕ
number_of digits = fold (λ n b. 10 * n + (b - 48)) 0 digits

-- one or more digits that stand for a number up to the greatest
abbrev pub number_to : ℕ → List ℕ → Option ℕ
number_to greatest field =
    if nat_le 1 (length field) && list_all is_digit field && nat_le (number_of field) greatest then Some (number_of field) else None

-- such a number where it is the only field
abbrev pub only_number : ℕ → List (List ℕ) → Option ℕ
only_number greatest (field ∷ []) = number_to greatest field
only_number greatest other = None

-- the name that a script's first line gives
abbrev pub title_of : List (List ℕ) → Option (List ℕ)
title_of (keyword ∷ name ∷ []) = if bytes_eq keyword (codes "script") && is_name name then Some name else None
title_of other = None

-- two such numbers where they are the only fields
abbrev pub two_numbers : ℕ → ℕ → List (List ℕ) → Option (ℕ × ℕ)
two_numbers greatest last (field ∷ fields) = option_and_then (λ first. option_map (λ second. (first, second)) (only_number last fields)) (number_to greatest field)
two_numbers greatest last other = None

-- ---- what the fields after the names ask

-- so many items of a size
abbrev pub items_of : (ℕ → ℕ → Request) → List (List ℕ) → Option Request
items_of ask fields = option_map (λ numbers. ask numbers.0 numbers.1) (two_numbers greatest_size greatest_size fields)

abbrev pub free_of : List (List ℕ) → Option Request
free_of [] = Some request.Free
free_of other = None

abbrev pub store_of : List (List ℕ) → Option Request
store_of fields = option_map (λ numbers. request.Store numbers.0 numbers.1) (two_numbers greatest_offset greatest_byte fields)

-- by the keyword of the line
abbrev pub asked_of : List ℕ → List (List ℕ) → Option Request
asked_of keyword fields =
    if bytes_eq keyword (codes "malloc") then option_map request.Malloc (only_number greatest_size fields)
    else if bytes_eq keyword (codes "calloc") then items_of request.Calloc fields
    else if bytes_eq keyword (codes "realloc") then option_map request.Realloc (only_number greatest_size fields)
    else if bytes_eq keyword (codes "reallocarray") then items_of request.Reallocarray fields
    else if bytes_eq keyword (codes "free") then free_of fields
    else if bytes_eq keyword (codes "load") then option_map request.Load (only_number greatest_offset fields)
    else if bytes_eq keyword (codes "store") then store_of fields
    else None

-- ---- a line

-- a request, the name of the variable that it is for, and that of the variable whose block it resizes, where it has one
pub record Line : Type 0 where
  pub name : List ℕ
  pub from : Option (List ℕ)
  pub request : Request

-- the keyword is followed by two names
abbrev pub has_two_names : List ℕ → Bool
has_two_names keyword = bytes_eq keyword (codes "realloc") || bytes_eq keyword (codes "reallocarray")

-- the line with these names, and what the fields after them ask
abbrev pub line_with : List ℕ → List ℕ → Option (List ℕ) → List (List ℕ) → Option Line
line_with keyword name from fields =
    option_map (λ asked. record { name = name; from = from; request = asked }) (asked_of keyword fields)

-- the second name is the first of these fields
abbrev pub line_from : List ℕ → List ℕ → List (List ℕ) → Option Line
line_from keyword name (from ∷ fields) = if is_name from then line_with keyword name (Some from) fields else None
line_from keyword name other = None

abbrev pub line_of : List (List ℕ) → Option Line
line_of (keyword ∷ name ∷ fields) =
    if is_name name then (if has_two_names keyword then line_from keyword name fields else line_with keyword name None fields) else None
line_of other = None

-- the command of a request, by the places of its variables
abbrev pub command_of : ℕ → ℕ → Request → Command
command_of var from (request.Malloc size) = Malloc var size 0
command_of var from (request.Calloc count size) = Calloc var count size 0
command_of var from (request.Realloc size) = Realloc var from size 0
command_of var from (request.Reallocarray count size) = Reallocarray var from count size 0
command_of var from request.Free = Free var
command_of var from (request.Load off) = Load var off
command_of var from (request.Store off byte) = Store var off byte

-- the place of a name among the names; a new one comes after them
abbrev pub place_of : List (List ℕ) → List ℕ → ℕ
place_of names name = position_or_len (λ n. bytes_eq n name) names

abbrev pub with_name : List (List ℕ) → List ℕ → List (List ℕ)
with_name names name = if place_of names name == length names then names ++ name ∷ [] else names

-- the names after a line; its first name is used before the second
abbrev pub with_second : List (List ℕ) → Option (List ℕ) → List (List ℕ)
with_second names None = names
with_second names (Some from) = with_name names from

abbrev pub names_with : List (List ℕ) → Line → List (List ℕ)
names_with names line = with_second (with_name names line.name) line.from

-- the place of the second name; where there is none, that of the first stands for it
abbrev pub second_place : List (List ℕ) → ℕ → Option (List ℕ) → ℕ
second_place names var None = var
second_place names var (Some from) = place_of names from

abbrev pub command_on : List (List ℕ) → Line → Command
command_on names line =
    let var = place_of names line.name in
    command_of var (second_place (with_name names line.name) var line.from) line.request

-- the script with one command more, if there are not too many commands or names then
abbrev pub with_command : ScriptText → Line → Option ScriptText
with_command script line =
    if nat_lt (length script.commands) most_commands && nat_le (length (names_with script.names line)) most_names then
    Some (record {
      name = script.name;
      names = names_with script.names line;
      commands = script.commands ++ command_on script.names line ∷ [];
    })
    else None

abbrev pub with_line : ScriptText → List (List ℕ) → Option ScriptText
with_line script fields = option_and_then (with_command script) (line_of fields)

-- the script where no line is left after `end`, or the number of the one after it
abbrev pub ended : ℕ → ScriptText → List (List ℕ) → Result ScriptText ℕ
ended number script [] = Ok script
ended number script (line ∷ lines) = Err (number + 1)

-- the script that goes on with these lines, the first of which has this number; otherwise the number of
-- the first line that is of no form
abbrev pub script_from : ℕ → ScriptText → List (List ℕ) → Result ScriptText ℕ
script_from number script [] = Err number
script_from number script (line ∷ lines) =
    if bytes_eq line (codes "end") then ended number script lines
    else option_map_or (λ longer. script_from (number + 1) longer lines) (with_line script (fields_of line)) (Err number)

abbrev pub titled : List ℕ → ScriptText
titled name = record { name = name; names = []; commands = [] }

abbrev pub script_of_lines : List (List ℕ) → Result ScriptText ℕ
script_of_lines [] = Err 1
script_of_lines (line ∷ lines) =
    option_map_or (λ name. script_from 2 (titled name) lines) (title_of (fields_of line)) (Err 1)

-- the script that a text says, or the number of the first line that is not of this form
unfoldable pub script_of : List ℕ → Result ScriptText ℕ
script_of text = script_of_lines (text_lines text)

-- why reading stops: the refused line, or for want of memory
abbrev pub Stops : Result ScriptText ℕ → TextStop → Type 0
Stops read (Refused line) = read ≡ Err line
Stops read Memory = Unit {0}
