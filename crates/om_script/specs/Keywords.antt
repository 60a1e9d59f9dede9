-- The words that a line may begin with, what stands behind each, and what each command means. A new command is a line
-- of `keyword_of`, one of `kinds_of`, and a case of `command_in`.
use Rattle.std.specs.Prelude.{ℕ, Bool, true, false, ◌&&◌, ◌||◌, ◌==◌, nat_le, List, [], ◌∷◌, ◌++◌, length, fold, codes, bytes_eq, slice_get, slice_index_or, Option, Some, None, if◌then◌else◌}
use Rattle.std.specs.List.{position_or_len}
use Rattle.std.specs.Option.{option_map_or}
use Rattle.om_script.specs.declared.command.Command.{Command}
use Rattle.om_script.specs.declared.command.Command.TheVariants as command
use Rattle.om_script.specs.declared.keyword.Verb.{Verb}
use Rattle.om_script.specs.declared.keyword.Verb.TheVariants.{Malloc, Calloc, Realloc, Reallocarray, Free, Load, Store, Let, Add, Post, Take, Phase}
use Rattle.om_script.specs.declared.keyword.Keyword.{Keyword}
use Rattle.om_script.specs.declared.keyword.Keyword.TheVariants as keyword
use Rattle.om_script.specs.declared.keyword.Kind.{Kind}
use Rattle.om_script.specs.declared.keyword.Kind.TheVariants.{Name, Number, Byte, Cell, Site}
use Rattle.om_script.specs.Words.{is_name, is_number, is_site, value_of, site_value}

-- ---- the table

abbrev pub keyword_of : List ℕ → Option Keyword
keyword_of word =
    if bytes_eq word (codes "script") then Some keyword.Script
    else if bytes_eq word (codes "end") then Some keyword.End
    else if bytes_eq word (codes "malloc") then Some (keyword.Command Malloc)
    else if bytes_eq word (codes "calloc") then Some (keyword.Command Calloc)
    else if bytes_eq word (codes "realloc") then Some (keyword.Command Realloc)
    else if bytes_eq word (codes "reallocarray") then Some (keyword.Command Reallocarray)
    else if bytes_eq word (codes "free") then Some (keyword.Command Free)
    else if bytes_eq word (codes "load") then Some (keyword.Command Load)
    else if bytes_eq word (codes "store") then Some (keyword.Command Store)
    else if bytes_eq word (codes "let") then Some (keyword.Command Let)
    else if bytes_eq word (codes "add") then Some (keyword.Command Add)
    else if bytes_eq word (codes "post") then Some (keyword.Command Post)
    else if bytes_eq word (codes "take") then Some (keyword.Command Take)
    else if bytes_eq word (codes "phase") then Some (keyword.Command Phase)
    else None

-- the kinds of the words behind a command; a site may be missing
abbrev pub kinds_of : Verb → List Kind
kinds_of Malloc = Name ∷ Number ∷ Site ∷ []
kinds_of Calloc = Name ∷ Number ∷ Number ∷ Site ∷ []
kinds_of Realloc = Name ∷ Name ∷ Number ∷ Site ∷ []
kinds_of Reallocarray = Name ∷ Name ∷ Number ∷ Number ∷ Site ∷ []
kinds_of Free = Name ∷ []
kinds_of Load = Name ∷ Number ∷ []
kinds_of Store = Name ∷ Number ∷ Byte ∷ []
kinds_of Let = Name ∷ Number ∷ []
kinds_of Add = Name ∷ Name ∷ Number ∷ []
kinds_of Post = Cell ∷ Name ∷ []
kinds_of Take = Name ∷ Cell ∷ []
kinds_of Phase = []

abbrev pub kinds_behind : Keyword → List Kind
kinds_behind keyword.Script = Name ∷ []
kinds_behind keyword.End = []
kinds_behind (keyword.Command verb) = kinds_of verb

-- ---- kinds of words

abbrev pub is_of_kind : Kind → List ℕ → Bool
is_of_kind Name word = is_name word
is_of_kind Site word = is_site word
is_of_kind Number word = is_number word
is_of_kind Byte word = is_number word
is_of_kind Cell word = is_number word

-- where a word may be missing
abbrev pub may_miss : Kind → Bool
may_miss Site = true
may_miss Name = false
may_miss Number = false
may_miss Byte = false
may_miss Cell = false

-- the word is a number above 2^64 - 1, or above 255 for a byte
abbrev pub is_too_large : Kind → List ℕ → Bool
is_too_large Name word = false
is_too_large Site word = nat_le 18446744073709551616 (site_value word)
is_too_large Number word = nat_le 18446744073709551616 (value_of word)
is_too_large Byte word = nat_le 256 (value_of word)
is_too_large Cell word = nat_le 18446744073709551616 (value_of word)

-- the word is a cell, and there is none of its number
abbrev pub is_no_cell : Kind → List ℕ → Bool
is_no_cell Cell word = nat_le 64 (value_of word)
is_no_cell Name word = false
is_no_cell Site word = false
is_no_cell Number word = false
is_no_cell Byte word = false

-- each word is of the kind in its place, and none is missing or left over
abbrev pub fit : List Kind → List (List ℕ) → Bool
fit [] [] = true
fit [] (word ∷ words) = false
fit (kind ∷ kinds) [] = may_miss kind && fit kinds []
fit (kind ∷ kinds) (word ∷ words) = is_of_kind kind word && fit kinds words

-- some word with the kind in its place passes the test
abbrev pub any_word : (Kind → List ℕ → Bool) → List Kind → List (List ℕ) → Bool
any_word test [] words = false
any_word test (kind ∷ kinds) [] = false
any_word test (kind ∷ kinds) (word ∷ words) = test kind word || any_word test kinds words

-- ---- variables

-- the words that are names of variables, in their order
abbrev pub names_in : List Kind → List (List ℕ) → List (List ℕ)
names_in [] words = []
names_in (kind ∷ kinds) [] = []
names_in (Name ∷ kinds) (word ∷ words) = word ∷ names_in kinds words
names_in (Number ∷ kinds) (word ∷ words) = names_in kinds words
names_in (Byte ∷ kinds) (word ∷ words) = names_in kinds words
names_in (Cell ∷ kinds) (word ∷ words) = names_in kinds words
names_in (Site ∷ kinds) (word ∷ words) = names_in kinds words

-- the place of a name among the names, their number where it is none of them
abbrev pub place_of : List (List ℕ) → List ℕ → ℕ
place_of names name = position_or_len (λ n. bytes_eq name n) names

-- a new name comes behind the others
abbrev pub with_name : List (List ℕ) → List ℕ → List (List ℕ)
with_name names name = if place_of names name == length names then names ++ name ∷ [] else names

abbrev pub with_names : List (List ℕ) → List (List ℕ) → List (List ℕ)
with_names names more = fold with_name names more

-- ---- meaning

-- the word with this number, from 0 on
abbrev pub word_at : List (List ℕ) → ℕ → List ℕ
word_at words i = slice_index_or words i []

abbrev pub number_at : List (List ℕ) → ℕ → ℕ
number_at words i = value_of (word_at words i)

-- the site in this place, 0 where none stands there
abbrev pub site_at : List (List ℕ) → ℕ → ℕ
site_at words i = option_map_or site_value (slice_get words i) 0

abbrev pub variable_at : List (List ℕ) → List (List ℕ) → ℕ → ℕ
variable_at names words i = place_of names (word_at words i)

-- the command with these words behind it, in a script with these names
abbrev pub command_in : List (List ℕ) → Verb → List (List ℕ) → Command
command_in names Malloc words = command.Malloc (variable_at names words 0) (number_at words 1) (site_at words 2)
command_in names Calloc words = command.Calloc (variable_at names words 0) (number_at words 1) (number_at words 2) (site_at words 3)
command_in names Realloc words = command.Realloc (variable_at names words 0) (variable_at names words 1) (number_at words 2) (site_at words 3)
command_in names Reallocarray words = command.Reallocarray (variable_at names words 0) (variable_at names words 1) (number_at words 2) (number_at words 3) (site_at words 4)
command_in names Free words = command.Free (variable_at names words 0)
command_in names Load words = command.Load (variable_at names words 0) (number_at words 1)
command_in names Store words = command.Store (variable_at names words 0) (number_at words 1) (number_at words 2)
command_in names Let words = command.Let (variable_at names words 0) (number_at words 1)
command_in names Add words = command.Add (variable_at names words 0) (variable_at names words 1) (number_at words 2)
command_in names Post words = command.Post (number_at words 0) (variable_at names words 1)
command_in names Take words = command.Take (variable_at names words 0) (number_at words 1)
command_in names Phase words = command.Phase
