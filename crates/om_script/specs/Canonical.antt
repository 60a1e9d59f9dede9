-- The canonical text of scripts: one line for each item, its words separated by one space. Sizes, counts, offsets, bytes
-- and cells are decimal, the values of `let` and sites hexadecimal with small letters, and the site always stands there.
use Rattle.std.specs.Prelude.{ℕ, false, List, [], ◌∷◌, ◌++◌, map, flat_map, codes, decimal}
use Rattle.std.specs.List.{join_with_byte}
use Rattle.std.specs.Fmt.{digits}
use Rattle.om_script.specs.declared.command.Command.{Command}
use Rattle.om_script.specs.declared.command.Command.TheVariants.{Malloc, Calloc, Realloc, Reallocarray, Free, Load, Store, Let, Add, Post, Take, Phase}
use Rattle.om_script.specs.Script.{ScriptText}
use Rattle.om_script.specs.Accepted.{name_at}

abbrev pub hex : ℕ → List ℕ
hex n = codes "0x" ++ digits 16 false n

abbrev pub site_word : ℕ → List ℕ
site_word site = codes "@" ++ hex site

-- the words of a command, where its variables have these names
abbrev pub words_for : List (List ℕ) → Command → List (List ℕ)
words_for names (Malloc var size site) = codes "malloc" ∷ name_at names var ∷ decimal size ∷ site_word site ∷ []
words_for names (Calloc var count size site) = codes "calloc" ∷ name_at names var ∷ decimal count ∷ decimal size ∷ site_word site ∷ []
words_for names (Realloc var from size site) = codes "realloc" ∷ name_at names var ∷ name_at names from ∷ decimal size ∷ site_word site ∷ []
words_for names (Reallocarray var from count size site) = codes "reallocarray" ∷ name_at names var ∷ name_at names from ∷ decimal count ∷ decimal size ∷ site_word site ∷ []
words_for names (Free var) = codes "free" ∷ name_at names var ∷ []
words_for names (Load var off) = codes "load" ∷ name_at names var ∷ decimal off ∷ []
words_for names (Store var off byte) = codes "store" ∷ name_at names var ∷ decimal off ∷ decimal byte ∷ []
words_for names (Let var value) = codes "let" ∷ name_at names var ∷ hex value ∷ []
words_for names (Add var from off) = codes "add" ∷ name_at names var ∷ name_at names from ∷ decimal off ∷ []
words_for names (Post cell var) = codes "post" ∷ decimal cell ∷ name_at names var ∷ []
words_for names (Take var cell) = codes "take" ∷ name_at names var ∷ decimal cell ∷ []
words_for names Phase = codes "phase" ∷ []

-- the words of each line of a script
abbrev pub lines_for : ScriptText → List (List (List ℕ))
lines_for script = (codes "script" ∷ script.name ∷ []) ∷ map (words_for script.names) script.commands ++ (codes "end" ∷ []) ∷ []

-- the words, one space between two, and the line's end
abbrev pub line_text : List (List ℕ) → List ℕ
line_text words = join_with_byte 32 words ++ 10 ∷ []

abbrev pub script_text : ScriptText → List ℕ
script_text script = flat_map line_text (lines_for script)

abbrev pub canonical : List ScriptText → List ℕ
canonical scripts = flat_map script_text scripts
