-- How a reading goes on, line by line. The scripts that it comes to are those of the whole text.
use Rattle.std.specs.Prelude.{ℕ, ◌≡◌, ◌+◌, Bool, true, false, List, [], ◌∷◌, ◌++◌, map, Option, Some, None, Result, Ok, Err}
use Rattle.std.specs.Option.{option_map_or}
use Rattle.om_script.specs.declared.keyword.Verb.{Verb}
use Rattle.om_script.specs.declared.keyword.Keyword.{Keyword}
use Rattle.om_script.specs.declared.keyword.Keyword.TheVariants.{Script, End, Command}
use Rattle.om_script.specs.declared.script.ScriptStop.{ScriptStop}
use Rattle.om_script.specs.declared.script.ScriptStop.TheVariants.{Refused, Memory}
use Rattle.om_script.specs.Keywords.{kinds_of, names_in, with_names, word_at, command_in}
use Rattle.om_script.specs.declared.reader.Current.{Current}
use Rattle.om_script.specs.Reading.{Reading}
use Rattle.om_script.specs.Script.{ScriptText}
use Rattle.om_script.specs.Standing.{Said, said_on, Standing, limit_of, refusal_of, refusal, unended}

abbrev pub start : Reading
start = record { done = []; current = None; commands = 0 }

abbrev pub is_inside : Option Current → Bool
is_inside None = false
is_inside (Some begun) = true

abbrev pub titles_with : List (List ℕ) → Option Current → List (List ℕ)
titles_with titles None = titles
titles_with titles (Some begun) = titles ++ begun.script.name ∷ []

abbrev pub names_now : Option Current → List (List ℕ)
names_now None = []
names_now (Some begun) = begun.script.names

abbrev pub standing_of : Reading → Standing
standing_of r = record {
  titles = titles_with (map (λ s. s.name) r.done) r.current;
  inside = is_inside r.current;
  commands = r.commands;
  names = names_now r.current;
}

abbrev pub titled : List ℕ → ScriptText
titled name = record { name = name; names = []; commands = [] }

abbrev pub with_command : ScriptText → Verb → List (List ℕ) → ScriptText
with_command script verb words =
    let names = with_names script.names (names_in (kinds_of verb) words) in
    record { name = script.name; names = names; commands = script.commands ++ command_in names verb words ∷ [] }

-- after a line that isn't refused
abbrev pub begun_after : Reading → ℕ → List ℕ → Reading
begun_after r line name = record r { current = Some (record { line = line; script = titled name }) }

abbrev pub ended_after : Reading → Option Current → Reading
ended_after r None = r
ended_after r (Some begun) = record r { done = r.done ++ begun.script ∷ []; current = None }

abbrev pub command_after : Reading → Option Current → Verb → List (List ℕ) → Reading
command_after r None verb words = r
command_after r (Some begun) verb words = record r {
  current = Some (record { line = begun.line; script = with_command begun.script verb words });
  commands = r.commands + 1;
}

abbrev pub keyword_after : Reading → ℕ → Keyword → List (List ℕ) → Reading
keyword_after r line Script words = begun_after r line (word_at words 0)
keyword_after r line End words = ended_after r r.current
keyword_after r line (Command verb) words = command_after r r.current verb words

abbrev pub said_after : Reading → ℕ → Option Said → Reading
said_after r line None = r
said_after r line (Some said) = keyword_after r line said.keyword said.words

-- the reading that follows, unless there is a refusal
abbrev pub unless_refused : Option ℕ → Reading → Result Reading ℕ
unless_refused refused next = option_map_or Err refused (Ok next)

-- behind a keyword and words that are well formed, behind any keyword and words, and behind a line with this number
abbrev pub limited_step : Reading → ℕ → Keyword → List (List ℕ) → Result Reading ℕ
limited_step r line keyword words = unless_refused (limit_of (standing_of r) keyword words) (keyword_after r line keyword words)

abbrev pub keyword_step : Reading → ℕ → Keyword → List (List ℕ) → Result Reading ℕ
keyword_step r line keyword words = unless_refused (refusal_of (standing_of r) keyword words) (keyword_after r line keyword words)

abbrev pub step : Reading → ℕ → List ℕ → Result Reading ℕ
step r line text = unless_refused (refusal (standing_of r) text) (said_after r line (said_on text))

-- a step leads to this reading, or to a refusal with this number
abbrev pub Leads : Result Reading ℕ → Reading → Option ℕ → Type 0
Leads taken next None = taken ≡ Ok next
Leads taken next (Some refused) = taken ≡ Err refused

abbrev pub ended : Reading → Result (List ScriptText) (ℕ × ℕ)
ended r = option_map_or (λ begun. Err (begun.line, unended)) r.current (Ok r.done)

-- what follows a step on the line with this number
abbrev pub followed : ℕ → Result Reading ℕ → (Reading → Result (List ScriptText) (ℕ × ℕ)) → Result (List ScriptText) (ℕ × ℕ)
followed line (Ok next) after = after next
followed line (Err refused) after = Err (line, refused)

-- the reading that goes on with these lines, the first of which has this number
abbrev pub go_on : Reading → ℕ → List (List ℕ) → Result (List ScriptText) (ℕ × ℕ)
go_on r number [] = ended r
go_on r number (line ∷ lines) = followed number (step r number line) (λ next. go_on next (number + 1) lines)

-- why reading stops: the refused line and the number of the refusal, or for want of memory
abbrev pub Stops : Result (List ScriptText) (ℕ × ℕ) → ScriptStop → Type 0
Stops read (Refused line number) = read ≡ Err (line, number)
Stops read Memory = Unit {0}
