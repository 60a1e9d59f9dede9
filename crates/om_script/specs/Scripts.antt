-- The scripts that a text says, or its refusal: the first refused line and its number, or where no line is refused and
-- the text ends inside a script, the line of that `script`.
use Rattle.std.specs.Prelude.{ℕ, ◌+◌, Bool, false, not, List, [], ◌∷◌, ◌++◌, length, map, flat_map, filter_map, take_while, Option, Some, None, Result, Ok, Err, if◌then◌else◌}
use Rattle.std.specs.Option.{option_map_or}
use Rattle.om_script.specs.declared.keyword.Verb.{Verb}
use Rattle.om_script.specs.declared.keyword.Keyword.{Keyword}
use Rattle.om_script.specs.declared.keyword.Keyword.TheVariants as keyword
use Rattle.om_script.specs.Lines.{text_lines}
use Rattle.om_script.specs.Keywords.{kinds_of, names_in, with_names, word_at, command_in}
use Rattle.om_script.specs.Script.{ScriptText}
use Rattle.om_script.specs.Standing.{Said, said_on, said_in, is_end, is_script, standing_after, refusal, unended}

-- ---- accepted scripts

-- a command and the words behind it
pub record Asked : Type 0 where
  pub verb : Verb
  pub words : List (List ℕ)

abbrev pub asked_by : Keyword → List (List ℕ) → Option Asked
asked_by keyword.Script words = None
asked_by keyword.End words = None
asked_by (keyword.Command verb) words = Some (record { verb = verb; words = words })

-- the commands up to the script's end
abbrev pub asked_in : List Said → List Asked
asked_in lines = filter_map (λ s. asked_by s.keyword s.words) (take_while (λ s. not (is_end s.keyword)) lines)

-- the names that commands use, each once, in the order of first use
abbrev pub names_of : List Asked → List (List ℕ)
names_of asked = with_names [] (flat_map (λ a. names_in (kinds_of a.verb) a.words) asked)

-- the script of a name that asks this
abbrev pub script_of : List ℕ → List Asked → ScriptText
script_of name asked = record {
  name = name;
  names = names_of asked;
  commands = map (λ a. command_in (names_of asked) a.verb a.words) asked;
}

-- the scripts, and where one begins it first
abbrev pub with_begun : Keyword → ScriptText → List ScriptText → List ScriptText
with_begun keyword.Script script scripts = script ∷ scripts
with_begun keyword.End script scripts = scripts
with_begun (keyword.Command verb) script scripts = scripts

-- the scripts that begin on these lines
abbrev pub scripts_of : List Said → List ScriptText
scripts_of [] = []
scripts_of (said ∷ lines) = with_begun said.keyword (script_of (word_at said.words 0) (asked_in lines)) (scripts_of lines)

-- ---- refused texts

-- the line and number of the first refusal on these lines, which stand behind those lines
abbrev pub first_refusal : List (List ℕ) → List (List ℕ) → Option (ℕ × ℕ)
first_refusal before [] = None
first_refusal before (line ∷ lines) =
    option_map_or (λ number. Some (length before + 1, number)) (refusal (standing_after (said_in before)) line)
    (first_refusal (before ++ line ∷ []) lines)

-- a line that says that a script begins
abbrev pub begins_script : List ℕ → Bool
begins_script line = option_map_or (λ s. is_script s.keyword) (said_on line) false

-- the number of the last line that begins a script, and otherwise the one given; the first line has the second number
abbrev pub last_begin : ℕ → ℕ → List (List ℕ) → ℕ
last_begin found number [] = found
last_begin found number (line ∷ lines) = last_begin (if begins_script line then number else found) (number + 1) lines

abbrev pub scripts_on : List (List ℕ) → Result (List ScriptText) (ℕ × ℕ)
scripts_on lines =
    option_map_or Err (first_refusal [] lines)
    (if (standing_after (said_in lines)).inside then Err (last_begin 0 1 lines, unended) else Ok (scripts_of (said_in lines)))

-- the scripts of a text, or its refused line and the number of the refusal
unfoldable pub scripts_in : List ℕ → Result (List ScriptText) (ℕ × ℕ)
scripts_in text = scripts_on (text_lines text)
