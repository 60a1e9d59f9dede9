-- What the lines before a line say, and why a line is refused there.
use Rattle.std.specs.Prelude.{ℕ, Bool, true, false, not, ◌||◌, nat_le, nat_lt, List, [], ◌∷◌, length, fold, count_by, filter_map, bytes_eq, Option, Some, None, if◌then◌else◌}
use Rattle.std.specs.List.{list_any}
use Rattle.std.specs.Option.{option_map, option_map_or}
use Rattle.om_script.specs.declared.keyword.Keyword.{Keyword}
use Rattle.om_script.specs.declared.keyword.Keyword.TheVariants.{Script, End, Command}
use Rattle.om_script.specs.Lines.{is_ascii_line, words_of}
use Rattle.om_script.specs.Keywords.{keyword_of, kinds_of, kinds_behind, fit, any_word, is_too_large, is_no_cell, names_in, with_names, word_at}

-- ---- what a line says

-- the keyword of a line, and the words behind it
pub record Said : Type 0 where
  pub keyword : Keyword
  pub words : List (List ℕ)

abbrev pub said_by : List (List ℕ) → Option Said
said_by [] = None
said_by (word ∷ words) = option_map (λ k. record { keyword = k; words = words }) (keyword_of word)

-- a line without words says nothing
abbrev pub said_on : List ℕ → Option Said
said_on line = said_by (words_of line)

abbrev pub said_in : List (List ℕ) → List Said
said_in lines = filter_map said_on lines

abbrev pub is_script : Keyword → Bool
is_script Script = true
is_script End = false
is_script (Command verb) = false

abbrev pub is_end : Keyword → Bool
is_end Script = false
is_end End = true
is_end (Command verb) = false

abbrev pub is_command : Keyword → Bool
is_command Script = false
is_command End = false
is_command (Command verb) = true

-- a script has begun and not ended, after a line
abbrev pub inside_by : Bool → Keyword → Bool
inside_by before Script = true
inside_by before End = false
inside_by before (Command verb) = before

-- the name of the script that begins there
abbrev pub title_by : Keyword → List (List ℕ) → Option (List ℕ)
title_by Script words = Some (word_at words 0)
title_by End words = None
title_by (Command verb) words = None

abbrev pub title_of : Said → Option (List ℕ)
title_of said = title_by said.keyword said.words

-- the names of a script after a line: none at its begin and its end
abbrev pub names_by : List (List ℕ) → Keyword → List (List ℕ) → List (List ℕ)
names_by names Script words = []
names_by names End words = []
names_by names (Command verb) words = with_names names (names_in (kinds_of verb) words)

-- ---- before a line

pub record Standing : Type 0 where
  -- the names of the scripts that have begun
  pub titles : List (List ℕ)
  -- the last of them hasn't ended
  pub inside : Bool
  -- how many commands there were
  pub commands : ℕ
  -- the names of the variables of the script that hasn't ended
  pub names : List (List ℕ)

abbrev pub standing_after : List Said → Standing
standing_after lines = record {
  titles = filter_map title_of lines;
  inside = fold (λ inside s. inside_by inside s.keyword) false lines;
  commands = count_by (λ s. is_command s.keyword) lines;
  names = fold (λ names s. names_by names s.keyword s.words) [] lines;
}

-- ---- refusals

abbrev pub not_ascii : ℕ
not_ascii = 1

abbrev pub syntax_error : ℕ
syntax_error = 2

abbrev pub unknown_command : ℕ
unknown_command = 3

abbrev pub number_too_large : ℕ
number_too_large = 4

abbrev pub too_many_scripts : ℕ
too_many_scripts = 5

abbrev pub too_many_commands : ℕ
too_many_commands = 6

abbrev pub too_many_names : ℕ
too_many_names = 7

abbrev pub double_name : ℕ
double_name = 8

abbrev pub cell_out_of_range : ℕ
cell_out_of_range = 9

abbrev pub unended : ℕ
unended = 10

abbrev pub most_scripts : ℕ
most_scripts = 16

abbrev pub most_commands : ℕ
most_commands = 200000

abbrev pub most_names : ℕ
most_names = 64

-- a script begins outside of scripts, and all else stands inside
abbrev pub is_misplaced : Standing → Keyword → Bool
is_misplaced before Script = before.inside
is_misplaced before End = not before.inside
is_misplaced before (Command verb) = not before.inside

-- what can be wrong with a line whose words are well formed, the least number first
abbrev pub limit_of : Standing → Keyword → List (List ℕ) → Option ℕ
limit_of before Script words =
    if nat_le most_scripts (length before.titles) then Some too_many_scripts
    else if list_any (λ title. bytes_eq title (word_at words 0)) before.titles then Some double_name
    else None
limit_of before End words = None
limit_of before (Command verb) words =
    if nat_le most_commands before.commands then Some too_many_commands
    else if nat_lt most_names (length (with_names before.names (names_in (kinds_of verb) words))) then Some too_many_names
    else if any_word is_no_cell (kinds_of verb) words then Some cell_out_of_range
    else None

abbrev pub refusal_of : Standing → Keyword → List (List ℕ) → Option ℕ
refusal_of before keyword words =
    if is_misplaced before keyword || not (fit (kinds_behind keyword) words) then Some syntax_error
    else if any_word is_too_large (kinds_behind keyword) words then Some number_too_large
    else limit_of before keyword words

abbrev pub refusal_by : Standing → List (List ℕ) → Option ℕ
refusal_by before [] = None
refusal_by before (word ∷ words) = option_map_or (λ keyword. refusal_of before keyword words) (keyword_of word) (Some unknown_command)

-- the least number of a refusal that holds of the line
abbrev pub refusal : Standing → List ℕ → Option ℕ
refusal before line = if is_ascii_line line then refusal_by before (words_of line) else Some not_ascii
