-- Scripts that are printed are read as the same scripts, each line by one step.
use Rattle.std.proofs.Common.{◌≡◌, refl, sym, ap, ◌∙◌, subst, Bool, true, false, not, cond, ◌&&◌, ◌||◌, List, [], ◌∷◌, ◌++◌, ℕ, zero, suc, ◌+◌, ◌<◌, ◌≤◌, ◌^◌, length, length-append, append_assoc, append-nil, map, arith, Some, None, Ok, eqb, ltb, leb, codes, decimal, bytes_eq}
use Rattle.std.proofs.Math.ListN.{get_or-append}
use Rattle.std.specs.List.{flat_map, sum_by, list_any, list_all, join_with_byte, AllByRecursion}
use Rattle.std.specs.Option.{option_map, option_map_or}
use Rattle.std.proofs.lemmas.List.{map-append}
use Rattle.std.proofs.lemmas.Grind.{flat_map-append}
use Rattle.std.proofs.lemmas.Bool.Decides.{nat_tests}
use Rattle.std.proofs.lemmas.List.Sums.{fold-append, sum_by-cons}
use Rattle.om_script.specs.declared.command.Command.{Command}
use Rattle.om_script.specs.declared.command.Command.TheVariants as command
use Rattle.om_script.specs.declared.keyword.Verb.{Verb}
use Rattle.om_script.specs.declared.keyword.Verb.TheVariants as verb
use Rattle.om_script.specs.declared.keyword.Keyword.{Keyword}
use Rattle.om_script.specs.declared.keyword.Keyword.TheVariants as keyword
use Rattle.om_script.specs.Lines.{text_lines, words_of}
use Rattle.om_script.specs.Words.{is_name, value_of}
use Rattle.om_script.specs.Keywords.{keyword_of, kinds_of, kinds_behind, fit, any_word, is_too_large, is_no_cell, names_in, with_name, with_names, place_of, command_in}
use Rattle.om_script.specs.Script.{ScriptText}
use Rattle.om_script.specs.Reading.{Reading}
use Rattle.om_script.specs.Standing.{Standing, said_by, most_scripts, most_commands, most_names, is_misplaced, limit_of, refusal_of, refusal_by, syntax_error, unknown_command, number_too_large, too_many_scripts, too_many_commands, too_many_names, double_name, cell_out_of_range, not_ascii}
use Rattle.om_script.specs.Scripts.{scripts_in}
use Rattle.om_script.specs.Steps.{start, standing_of, keyword_after, said_after, unless_refused, step, followed, go_on}
use Rattle.om_script.specs.Accepted.{IsCommand, name_at, used_by, IsScript, AreNew, AreScripts}
use Rattle.om_script.specs.Canonical.{hex, site_word, words_for, lines_for, line_text, script_text, canonical}
use Rattle.om_script.proofs.Places.{IsThere, place-with_name, place-with_names, name_added, longer_by_names, at_end}
use Rattle.om_script.proofs.Whole.{reads_all}
use Rattle.om_script.proofs.PrintedWords.{is_clean, name_clean, decimal_number, decimal_value, decimal_clean, hex_number, hex_value, hex_clean, site_clean, site_is, site_value_is}
use Rattle.om_script.proofs.PrintedLines.{all_clean, printed_ascii, printed_words, printed_lines}

and_front : (a b : Bool) → (a && b) ≡ true → a ≡ true
and_front true b e = refl
and_front false b e = cc

and_back : (a b : Bool) → (a && b) ≡ true → b ≡ true
and_back true b e = e
and_back false b e = cc

both : (a b : Bool) → a ≡ true → b ≡ true → (a && b) ≡ true
both true b e f = f
both false b e f = cc

neither : (a b : Bool) → a ≡ false → b ≡ false → (a || b) ≡ false
neither true b e f = cc
neither false b e f = f

above : (m n : ℕ) → n < m → leb m n ≡ false
above m n l = grind (arith, nat_tests)

not_above : (m n : ℕ) → m ≤ n → ltb n m ≡ false
not_above m n l = grind (arith, nat_tests)

-- ---- the words of a command

abbrev key_text : Verb → List ℕ
key_text verb.Malloc = codes "malloc"
key_text verb.Calloc = codes "calloc"
key_text verb.Realloc = codes "realloc"
key_text verb.Reallocarray = codes "reallocarray"
key_text verb.Free = codes "free"
key_text verb.Load = codes "load"
key_text verb.Store = codes "store"
key_text verb.Let = codes "let"
key_text verb.Add = codes "add"
key_text verb.Post = codes "post"
key_text verb.Take = codes "take"
key_text verb.Phase = codes "phase"

key_is : (v : Verb) → keyword_of (key_text v) ≡ Some (keyword.Command v)
key_is verb.Malloc = refl
key_is verb.Calloc = refl
key_is verb.Realloc = refl
key_is verb.Reallocarray = refl
key_is verb.Free = refl
key_is verb.Load = refl
key_is verb.Store = refl
key_is verb.Let = refl
key_is verb.Add = refl
key_is verb.Post = refl
key_is verb.Take = refl
key_is verb.Phase = refl

key_clean : (v : Verb) → is_clean (key_text v) ≡ true
key_clean verb.Malloc = refl
key_clean verb.Calloc = refl
key_clean verb.Realloc = refl
key_clean verb.Reallocarray = refl
key_clean verb.Free = refl
key_clean verb.Load = refl
key_clean verb.Store = refl
key_clean verb.Let = refl
key_clean verb.Add = refl
key_clean verb.Post = refl
key_clean verb.Take = refl
key_clean verb.Phase = refl

abbrev verb_of : Command → Verb
verb_of (command.Malloc var size site) = verb.Malloc
verb_of (command.Calloc var count size site) = verb.Calloc
verb_of (command.Realloc var from size site) = verb.Realloc
verb_of (command.Reallocarray var from count size site) = verb.Reallocarray
verb_of (command.Free var) = verb.Free
verb_of (command.Load var off) = verb.Load
verb_of (command.Store var off byte) = verb.Store
verb_of (command.Let var value) = verb.Let
verb_of (command.Add var from off) = verb.Add
verb_of (command.Post cell var) = verb.Post
verb_of (command.Take var cell) = verb.Take
verb_of command.Phase = verb.Phase

abbrev words_behind : List (List ℕ) → Command → List (List ℕ)
words_behind names (command.Malloc var size site) = name_at names var ∷ decimal size ∷ site_word site ∷ []
words_behind names (command.Calloc var count size site) = name_at names var ∷ decimal count ∷ decimal size ∷ site_word site ∷ []
words_behind names (command.Realloc var from size site) = name_at names var ∷ name_at names from ∷ decimal size ∷ site_word site ∷ []
words_behind names (command.Reallocarray var from count size site) = name_at names var ∷ name_at names from ∷ decimal count ∷ decimal size ∷ site_word site ∷ []
words_behind names (command.Free var) = name_at names var ∷ []
words_behind names (command.Load var off) = name_at names var ∷ decimal off ∷ []
words_behind names (command.Store var off byte) = name_at names var ∷ decimal off ∷ decimal byte ∷ []
words_behind names (command.Let var value) = name_at names var ∷ hex value ∷ []
words_behind names (command.Add var from off) = name_at names var ∷ name_at names from ∷ decimal off ∷ []
words_behind names (command.Post cell var) = decimal cell ∷ name_at names var ∷ []
words_behind names (command.Take var cell) = name_at names var ∷ decimal cell ∷ []
words_behind names command.Phase = []

words_are : (names : List (List ℕ)) (c : Command) → words_for names c ≡ key_text (verb_of c) ∷ words_behind names c
words_are names (command.Malloc var size site) = refl
words_are names (command.Calloc var count size site) = refl
words_are names (command.Realloc var from size site) = refl
words_are names (command.Reallocarray var from count size site) = refl
words_are names (command.Free var) = refl
words_are names (command.Load var off) = refl
words_are names (command.Store var off byte) = refl
words_are names (command.Let var value) = refl
words_are names (command.Add var from off) = refl
words_are names (command.Post cell var) = refl
words_are names (command.Take var cell) = refl
words_are names command.Phase = refl

named_at : (names : List (List ℕ)) (var : ℕ) → list_all is_name names ≡ true → var < length names → is_name (name_at names var) ≡ true
named_at [] var e l = absurd (omega arith)
named_at (name ∷ names) zero e l = and_front (is_name name) (list_all is_name names) e
named_at (name ∷ names) (suc var) e l = named_at names var (and_back (is_name name) (list_all is_name names) e) (omega arith)

wide_byte : (n : ℕ) → n < 256 → n < 2 ^ 64
wide_byte n l = omega arith

wide_cell : (n : ℕ) → n < 64 → n < 2 ^ 64
wide_cell n l = omega arith

unlarge : (n : ℕ) (word : List ℕ) → value_of word ≡ n → n < 2 ^ 64 → leb 18446744073709551616 (value_of word) ≡ false
unlarge n word e l = ap (leb 18446744073709551616) e ∙ above 18446744073709551616 n l

-- the words of a command fit
words_fit : (names : List (List ℕ)) (c : Command) → list_all is_name names ≡ true → IsCommand (length names) c → fit (kinds_of (verb_of c)) (words_behind names c) ≡ true
words_fit names (command.Malloc var size site) all is = both _ _ (named_at names var all is.0) (both _ _ (decimal_number size is.1) (both _ _ (site_is site is.2) (refl)))
words_fit names (command.Calloc var count size site) all is = both _ _ (named_at names var all is.0) (both _ _ (decimal_number count is.1) (both _ _ (decimal_number size is.2) (both _ _ (site_is site is.3) (refl))))
words_fit names (command.Realloc var from size site) all is = both _ _ (named_at names var all is.0) (both _ _ (named_at names from all is.1) (both _ _ (decimal_number size is.2) (both _ _ (site_is site is.3) (refl))))
words_fit names (command.Reallocarray var from count size site) all is = both _ _ (named_at names var all is.0) (both _ _ (named_at names from all is.1) (both _ _ (decimal_number count is.2) (both _ _ (decimal_number size is.3) (both _ _ (site_is site is.4) (refl)))))
words_fit names (command.Free var) all is = both _ _ (named_at names var all is) (refl)
words_fit names (command.Load var off) all is = both _ _ (named_at names var all is.0) (both _ _ (decimal_number off is.1) (refl))
words_fit names (command.Store var off byte) all is = both _ _ (named_at names var all is.0) (both _ _ (decimal_number off is.1) (both _ _ (decimal_number byte (wide_byte byte is.2)) (refl)))
words_fit names (command.Let var value) all is = both _ _ (named_at names var all is.0) (both _ _ (hex_number value is.1) (refl))
words_fit names (command.Add var from off) all is = both _ _ (named_at names var all is.0) (both _ _ (named_at names from all is.1) (both _ _ (decimal_number off is.2) (refl)))
words_fit names (command.Post cell var) all is = both _ _ (decimal_number cell (wide_cell cell is.0)) (both _ _ (named_at names var all is.1) (refl))
words_fit names (command.Take var cell) all is = both _ _ (named_at names var all is.0) (both _ _ (decimal_number cell (wide_cell cell is.1)) (refl))
words_fit names command.Phase all is = refl

-- no word of a command is too large
words_small : (names : List (List ℕ)) (c : Command) → IsCommand (length names) c → any_word is_too_large (kinds_of (verb_of c)) (words_behind names c) ≡ false
words_small names (command.Malloc var size site) is = neither _ _ (refl) (neither _ _ (unlarge size (decimal size) (decimal_value size is.1) is.1) (neither _ _ (ap (leb 18446744073709551616) (site_value_is site is.2) ∙ above 18446744073709551616 site is.2) (refl)))
words_small names (command.Calloc var count size site) is = neither _ _ (refl) (neither _ _ (unlarge count (decimal count) (decimal_value count is.1) is.1) (neither _ _ (unlarge size (decimal size) (decimal_value size is.2) is.2) (neither _ _ (ap (leb 18446744073709551616) (site_value_is site is.3) ∙ above 18446744073709551616 site is.3) (refl))))
words_small names (command.Realloc var from size site) is = neither _ _ (refl) (neither _ _ (refl) (neither _ _ (unlarge size (decimal size) (decimal_value size is.2) is.2) (neither _ _ (ap (leb 18446744073709551616) (site_value_is site is.3) ∙ above 18446744073709551616 site is.3) (refl))))
words_small names (command.Reallocarray var from count size site) is = neither _ _ (refl) (neither _ _ (refl) (neither _ _ (unlarge count (decimal count) (decimal_value count is.2) is.2) (neither _ _ (unlarge size (decimal size) (decimal_value size is.3) is.3) (neither _ _ (ap (leb 18446744073709551616) (site_value_is site is.4) ∙ above 18446744073709551616 site is.4) (refl)))))
words_small names (command.Free var) is = neither _ _ (refl) (refl)
words_small names (command.Load var off) is = neither _ _ (refl) (neither _ _ (unlarge off (decimal off) (decimal_value off is.1) is.1) (refl))
words_small names (command.Store var off byte) is = neither _ _ (refl) (neither _ _ (unlarge off (decimal off) (decimal_value off is.1) is.1) (neither _ _ (ap (leb 256) (decimal_value byte (wide_byte byte is.2)) ∙ above 256 byte is.2) (refl)))
words_small names (command.Let var value) is = neither _ _ (refl) (neither _ _ (unlarge value (hex value) (hex_value value is.1) is.1) (refl))
words_small names (command.Add var from off) is = neither _ _ (refl) (neither _ _ (refl) (neither _ _ (unlarge off (decimal off) (decimal_value off is.2) is.2) (refl)))
words_small names (command.Post cell var) is = neither _ _ (unlarge cell (decimal cell) (decimal_value cell (wide_cell cell is.0)) (wide_cell cell is.0)) (neither _ _ (refl) (refl))
words_small names (command.Take var cell) is = neither _ _ (refl) (neither _ _ (unlarge cell (decimal cell) (decimal_value cell (wide_cell cell is.1)) (wide_cell cell is.1)) (refl))
words_small names command.Phase is = refl

-- each of its cells is one
words_cells : (names : List (List ℕ)) (c : Command) → IsCommand (length names) c → any_word is_no_cell (kinds_of (verb_of c)) (words_behind names c) ≡ false
words_cells names (command.Malloc var size site) is = neither _ _ (refl) (neither _ _ (refl) (neither _ _ (refl) (refl)))
words_cells names (command.Calloc var count size site) is = neither _ _ (refl) (neither _ _ (refl) (neither _ _ (refl) (neither _ _ (refl) (refl))))
words_cells names (command.Realloc var from size site) is = neither _ _ (refl) (neither _ _ (refl) (neither _ _ (refl) (neither _ _ (refl) (refl))))
words_cells names (command.Reallocarray var from count size site) is = neither _ _ (refl) (neither _ _ (refl) (neither _ _ (refl) (neither _ _ (refl) (neither _ _ (refl) (refl)))))
words_cells names (command.Free var) is = neither _ _ (refl) (refl)
words_cells names (command.Load var off) is = neither _ _ (refl) (neither _ _ (refl) (refl))
words_cells names (command.Store var off byte) is = neither _ _ (refl) (neither _ _ (refl) (neither _ _ (refl) (refl)))
words_cells names (command.Let var value) is = neither _ _ (refl) (neither _ _ (refl) (refl))
words_cells names (command.Add var from off) is = neither _ _ (refl) (neither _ _ (refl) (neither _ _ (refl) (refl)))
words_cells names (command.Post cell var) is = neither _ _ (ap (leb 64) (decimal_value cell (wide_cell cell is.0)) ∙ above 64 cell is.0) (neither _ _ (refl) (refl))
words_cells names (command.Take var cell) is = neither _ _ (refl) (neither _ _ (ap (leb 64) (decimal_value cell (wide_cell cell is.1)) ∙ above 64 cell is.1) (refl))
words_cells names command.Phase is = refl

-- its names are those that the command uses
words_names : (names : List (List ℕ)) (c : Command) → names_in (kinds_of (verb_of c)) (words_behind names c) ≡ used_by names c
words_names names (command.Malloc var size site) = refl
words_names names (command.Calloc var count size site) = refl
words_names names (command.Realloc var from size site) = refl
words_names names (command.Reallocarray var from count size site) = refl
words_names names (command.Free var) = refl
words_names names (command.Load var off) = refl
words_names names (command.Store var off byte) = refl
words_names names (command.Let var value) = refl
words_names names (command.Add var from off) = refl
words_names names (command.Post cell var) = refl
words_names names (command.Take var cell) = refl
words_names names command.Phase = refl

words_clean : (names : List (List ℕ)) (c : Command) → list_all is_name names ≡ true → IsCommand (length names) c → list_all is_clean (words_behind names c) ≡ true
words_clean names (command.Malloc var size site) all is = both _ _ (name_clean (name_at names var) (named_at names var all is.0)) (both _ _ (decimal_clean size is.1) (both _ _ (site_clean site is.2) (refl)))
words_clean names (command.Calloc var count size site) all is = both _ _ (name_clean (name_at names var) (named_at names var all is.0)) (both _ _ (decimal_clean count is.1) (both _ _ (decimal_clean size is.2) (both _ _ (site_clean site is.3) (refl))))
words_clean names (command.Realloc var from size site) all is = both _ _ (name_clean (name_at names var) (named_at names var all is.0)) (both _ _ (name_clean (name_at names from) (named_at names from all is.1)) (both _ _ (decimal_clean size is.2) (both _ _ (site_clean site is.3) (refl))))
words_clean names (command.Reallocarray var from count size site) all is = both _ _ (name_clean (name_at names var) (named_at names var all is.0)) (both _ _ (name_clean (name_at names from) (named_at names from all is.1)) (both _ _ (decimal_clean count is.2) (both _ _ (decimal_clean size is.3) (both _ _ (site_clean site is.4) (refl)))))
words_clean names (command.Free var) all is = both _ _ (name_clean (name_at names var) (named_at names var all is)) (refl)
words_clean names (command.Load var off) all is = both _ _ (name_clean (name_at names var) (named_at names var all is.0)) (both _ _ (decimal_clean off is.1) (refl))
words_clean names (command.Store var off byte) all is = both _ _ (name_clean (name_at names var) (named_at names var all is.0)) (both _ _ (decimal_clean off is.1) (both _ _ (decimal_clean byte (wide_byte byte is.2)) (refl)))
words_clean names (command.Let var value) all is = both _ _ (name_clean (name_at names var) (named_at names var all is.0)) (both _ _ (hex_clean value is.1) (refl))
words_clean names (command.Add var from off) all is = both _ _ (name_clean (name_at names var) (named_at names var all is.0)) (both _ _ (name_clean (name_at names from) (named_at names from all is.1)) (both _ _ (decimal_clean off is.2) (refl)))
words_clean names (command.Post cell var) all is = both _ _ (decimal_clean cell (wide_cell cell is.0)) (both _ _ (name_clean (name_at names var) (named_at names var all is.1)) (refl))
words_clean names (command.Take var cell) all is = both _ _ (name_clean (name_at names var) (named_at names var all is.0)) (both _ _ (decimal_clean cell (wide_cell cell is.1)) (refl))
words_clean names command.Phase all is = refl

-- ---- the command that the words mean

-- a name is in its own place
abbrev AreApart : List (List ℕ) → Type 0
AreApart names = (var : ℕ) → var < length names → place_of names (name_at names var) ≡ var

-- the names so far, and more that come behind them, are the names of the script
abbrev Begins : List (List ℕ) → List (List ℕ) → List (List ℕ) → Type 0
Begins now more names = with_names now more ≡ names

own_place : (now more names : List (List ℕ)) → Begins now more names → AreApart names → (var : ℕ) → var < length names → IsThere now (name_at names var) → place_of now (name_at names var) ≡ var
own_place now more names begins apart var l there =
    sym (place-with_names now more (name_at names var) there) ∙ ap (λ ns. place_of ns (name_at names var)) begins ∙ apart var l

means : (before more names : List (List ℕ)) (c : Command) → list_all is_name names ≡ true → AreApart names → IsCommand (length names) c →
    Begins (with_names before (names_in (kinds_of (verb_of c)) (words_behind names c))) more names →
    command_in (with_names before (names_in (kinds_of (verb_of c)) (words_behind names c))) (verb_of c) (words_behind names c) ≡ c
means before more names (command.Malloc var size site) all apart is begins =
    let at_var = own_place _ more names begins apart var is.0 (name_added before (kinds_of verb.Malloc) (words_behind names (command.Malloc var size site)) 0 (words_fit names (command.Malloc var size site) all is) refl) in
    let is_size = decimal_value size is.1 in
    let is_site = site_value_is site is.2 in
    cc
means before more names (command.Calloc var count size site) all apart is begins =
    let at_var = own_place _ more names begins apart var is.0 (name_added before (kinds_of verb.Calloc) (words_behind names (command.Calloc var count size site)) 0 (words_fit names (command.Calloc var count size site) all is) refl) in
    let is_count = decimal_value count is.1 in
    let is_size = decimal_value size is.2 in
    let is_site = site_value_is site is.3 in
    cc
means before more names (command.Realloc var from size site) all apart is begins =
    let at_var = own_place _ more names begins apart var is.0 (name_added before (kinds_of verb.Realloc) (words_behind names (command.Realloc var from size site)) 0 (words_fit names (command.Realloc var from size site) all is) refl) in
    let at_from = own_place _ more names begins apart from is.1 (name_added before (kinds_of verb.Realloc) (words_behind names (command.Realloc var from size site)) 1 (words_fit names (command.Realloc var from size site) all is) refl) in
    let is_size = decimal_value size is.2 in
    let is_site = site_value_is site is.3 in
    cc
means before more names (command.Reallocarray var from count size site) all apart is begins =
    let at_var = own_place _ more names begins apart var is.0 (name_added before (kinds_of verb.Reallocarray) (words_behind names (command.Reallocarray var from count size site)) 0 (words_fit names (command.Reallocarray var from count size site) all is) refl) in
    let at_from = own_place _ more names begins apart from is.1 (name_added before (kinds_of verb.Reallocarray) (words_behind names (command.Reallocarray var from count size site)) 1 (words_fit names (command.Reallocarray var from count size site) all is) refl) in
    let is_count = decimal_value count is.2 in
    let is_size = decimal_value size is.3 in
    let is_site = site_value_is site is.4 in
    cc
means before more names (command.Free var) all apart is begins =
    let at_var = own_place _ more names begins apart var is (name_added before (kinds_of verb.Free) (words_behind names (command.Free var)) 0 (words_fit names (command.Free var) all is) refl) in
    cc
means before more names (command.Load var off) all apart is begins =
    let at_var = own_place _ more names begins apart var is.0 (name_added before (kinds_of verb.Load) (words_behind names (command.Load var off)) 0 (words_fit names (command.Load var off) all is) refl) in
    let is_off = decimal_value off is.1 in
    cc
means before more names (command.Store var off byte) all apart is begins =
    let at_var = own_place _ more names begins apart var is.0 (name_added before (kinds_of verb.Store) (words_behind names (command.Store var off byte)) 0 (words_fit names (command.Store var off byte) all is) refl) in
    let is_off = decimal_value off is.1 in
    let is_byte = decimal_value byte (wide_byte byte is.2) in
    cc
means before more names (command.Let var value) all apart is begins =
    let at_var = own_place _ more names begins apart var is.0 (name_added before (kinds_of verb.Let) (words_behind names (command.Let var value)) 0 (words_fit names (command.Let var value) all is) refl) in
    let is_value = hex_value value is.1 in
    cc
means before more names (command.Add var from off) all apart is begins =
    let at_var = own_place _ more names begins apart var is.0 (name_added before (kinds_of verb.Add) (words_behind names (command.Add var from off)) 0 (words_fit names (command.Add var from off) all is) refl) in
    let at_from = own_place _ more names begins apart from is.1 (name_added before (kinds_of verb.Add) (words_behind names (command.Add var from off)) 1 (words_fit names (command.Add var from off) all is) refl) in
    let is_off = decimal_value off is.2 in
    cc
means before more names (command.Post cell var) all apart is begins =
    let is_cell = decimal_value cell (wide_cell cell is.0) in
    let at_var = own_place _ more names begins apart var is.1 (name_added before (kinds_of verb.Post) (words_behind names (command.Post cell var)) 1 (words_fit names (command.Post cell var) all is) refl) in
    cc
means before more names (command.Take var cell) all apart is begins =
    let at_var = own_place _ more names begins apart var is.0 (name_added before (kinds_of verb.Take) (words_behind names (command.Take var cell)) 0 (words_fit names (command.Take var cell) all is) refl) in
    let is_cell = decimal_value cell (wide_cell cell is.1) in
    cc
means before more names command.Phase all apart is begins = refl

-- ---- names that are apart

apart_none : AreApart []
apart_none var l = absurd (omega arith)

last_name : (names : List (List ℕ)) (name : List ℕ) → name_at (names ++ name ∷ []) (length names) ≡ name
last_name [] name = refl
last_name (n ∷ names) name = last_name names name

old_place : (names : List (List ℕ)) (name : List ℕ) (var : ℕ) → AreApart names → var < length names → place_of (with_name names name) (name_at names var) ≡ var
old_place names name var apart l =
    let there : IsThere names (name_at names var) = omega (arith, apart var l) in
    place-with_name names name (name_at names var) there ∙ apart var l

new_place : (names : List (List ℕ)) (name : List ℕ) (u : Bool) (var : ℕ) → AreApart names → eqb (place_of names name) (length names) ≡ true → var < length (names ++ name ∷ []) → ltb var (length names) ≡ u →
    place_of (names ++ name ∷ []) (name_at (names ++ name ∷ []) var) ≡ var
new_place names name true var apart e l is =
    let below : var < length names = grind (arith, nat_tests) in
    ap (place_of (names ++ name ∷ [])) (get_or-append names (name ∷ []) [] var below)
    ∙ ap (λ t. place_of (cond t (names ++ name ∷ []) names) (name_at names var)) (sym e) ∙ old_place names name var apart below
new_place names name false var apart e l is =
    let count : length (names ++ name ∷ []) ≡ length names + 1 = length-append names (name ∷ []) in
    let last : var ≡ length names = grind (arith, nat_tests) in
    ap (λ k. place_of (names ++ name ∷ []) (name_at (names ++ name ∷ []) k)) last
    ∙ ap (place_of (names ++ name ∷ [])) (last_name names name)
    ∙ at_end names name e ∙ sym last

apart_with : (names : List (List ℕ)) (name : List ℕ) → AreApart names → AreApart (with_name names name)
apart_with names name apart = by (eqb (place_of names name) (length names)) refl
  where
    by : (t : Bool) → eqb (place_of names name) (length names) ≡ t → AreApart (cond t (names ++ name ∷ []) names)
    by false e = apart
    by true e = λ var l. new_place names name (ltb var (length names)) var apart e l refl

apart_with_all : (names more : List (List ℕ)) → AreApart names → AreApart (with_names names more)
apart_with_all names [] apart = apart
apart_with_all names (name ∷ more) apart = apart_with_all (with_name names name) more (apart_with names name apart)

-- the names of a script are apart
names_apart : (s : ScriptText) → IsScript s → AreApart s.names
names_apart s is = subst AreApart (sym is.used) (apart_with_all [] (flat_map (used_by s.names) s.commands) apart_none)

-- ---- one line

abbrev printed : List (List ℕ) → List ℕ
printed words = join_with_byte 32 words

printed_step : (r : Reading) (n : ℕ) (words : List (List ℕ)) → list_all is_clean words ≡ true → step r n (printed words) ≡ unless_refused (refusal_by (standing_of r) words) (said_after r n (said_by words))
printed_step r n words clean =
    ap (λ t. unless_refused (cond t (refusal_by (standing_of r) (words_of (printed words))) (Some not_ascii)) (said_after r n (said_by (words_of (printed words))))) (printed_ascii words clean)
    ∙ ap (λ ws. unless_refused (refusal_by (standing_of r) ws) (said_after r n (said_by ws))) (printed_words words clean)

allowed : (s : Standing) (k : Keyword) (words : List (List ℕ)) → is_misplaced s k ≡ false → fit (kinds_behind k) words ≡ true → any_word is_too_large (kinds_behind k) words ≡ false → limit_of s k words ≡ None → refusal_of s k words ≡ None
allowed s k words placed fits small free = by (is_misplaced s k) (fit (kinds_behind k) words) (any_word is_too_large (kinds_behind k) words) placed fits small
  where
    by : (m f l : Bool) → m ≡ false → f ≡ true → l ≡ false → cond (m || not f) (Some syntax_error) (cond l (Some number_too_large) (limit_of s k words)) ≡ None
    by true f l p q t = cc
    by false false l p q t = cc
    by false true true p q t = cc
    by false true false p q t = free

keyed_step : (r : Reading) (n : ℕ) (k : Keyword) (key : List ℕ) (words : List (List ℕ)) → keyword_of key ≡ Some k → list_all is_clean (key ∷ words) ≡ true →
    is_misplaced (standing_of r) k ≡ false → fit (kinds_behind k) words ≡ true → any_word is_too_large (kinds_behind k) words ≡ false → limit_of (standing_of r) k words ≡ None →
    step r n (printed (key ∷ words)) ≡ Ok (keyword_after r n k words)
keyed_step r n k key words is clean placed fits small free =
    printed_step r n (key ∷ words) clean
    ∙ ap (λ o. unless_refused (option_map_or (λ found. refusal_of (standing_of r) found words) o (Some unknown_command)) (said_after r n (option_map (λ found. record { keyword = found; words = words }) o))) is
    ∙ ap (λ o. unless_refused o (keyword_after r n k words)) (allowed (standing_of r) k words placed fits small free)

-- ---- the lines of a script

abbrev running : List ScriptText → ℕ → ScriptText → ℕ → Reading
running done line script commands = record { done = done; current = Some (record { line = line; script = script }); commands = commands }

abbrev resting : List ScriptText → ℕ → Reading
resting done commands = record { done = done; current = None; commands = commands }

-- the names that these commands use, of a script with these names
abbrev names_so_far : List (List ℕ) → List Command → List (List ℕ)
names_so_far names cs = with_names [] (flat_map (used_by names) cs)

abbrev part : ScriptText → List Command → ScriptText
part s cs = record { name = s.name; names = names_so_far s.names cs; commands = cs }

used_more : (names : List (List ℕ)) (cs : List Command) (c : Command) → names_so_far names (cs ++ c ∷ []) ≡ with_names (names_so_far names cs) (used_by names c)
used_more names cs c =
    ap (with_names []) (flat_map-append (used_by names) cs (c ∷ []) ∙ ap (λ ns. flat_map (used_by names) cs ++ ns) (append-nil (used_by names c)))
    ∙ fold-append with_name [] (flat_map (used_by names) cs) (used_by names c)

used_split : (names : List (List ℕ)) (cs ds : List Command) → names_so_far names (cs ++ ds) ≡ with_names (names_so_far names cs) (flat_map (used_by names) ds)
used_split names cs ds = ap (with_names []) (flat_map-append (used_by names) cs ds) ∙ fold-append with_name [] (flat_map (used_by names) cs) (flat_map (used_by names) ds)

free_command : (n m : ℕ) (cell : Bool) → n < most_commands → m ≤ most_names → cell ≡ false →
    cond (leb most_commands n) (Some too_many_commands) (cond (ltb most_names m) (Some too_many_names) (cond cell (Some cell_out_of_range) None)) ≡ None
free_command n m cell l few e =
    ap (λ t. cond t (Some too_many_commands) (cond (ltb most_names m) (Some too_many_names) (cond cell (Some cell_out_of_range) None))) (above most_commands n l)
    ∙ ap (λ t. cond t (Some too_many_names) (cond cell (Some cell_out_of_range) None)) (not_above m most_names few)
    ∙ ap (λ t. cond t (Some cell_out_of_range) None) e

-- one command more
command_step : (done : List ScriptText) (line n k : ℕ) (s : ScriptText) (cs rest : List Command) (c : Command) → IsScript s → s.commands ≡ cs ++ c ∷ rest → IsCommand (length s.names) c → k < most_commands →
    step (running done line (part s cs) k) n (printed (words_for s.names c)) ≡ Ok (running done line (part s (cs ++ c ∷ [])) (k + 1))
command_step done line n k s cs rest c is split right room =
    let v = verb_of c in
    let words = words_behind s.names c in
    let before = names_so_far s.names cs in
    let now = with_names before (names_in (kinds_of v) words) in
    let more = flat_map (used_by s.names) rest in
    let same : now ≡ names_so_far s.names (cs ++ c ∷ []) = ap (with_names before) (words_names s.names c) ∙ sym (used_more s.names cs c) in
    let begins : with_names now more ≡ s.names =
    ap (λ ns. with_names ns more) same ∙ sym (used_split s.names (cs ++ c ∷ []) rest)
    ∙ ap (names_so_far s.names) (append_assoc cs (c ∷ []) rest ∙ sym split) ∙ sym is.used in
    let few : length now ≤ most_names = omega (arith, longer_by_names now more, ap length begins, is.few) in
    let fits : fit (kinds_of v) words ≡ true = words_fit s.names c is.names right in
    let clean : list_all is_clean (key_text v ∷ words) ≡ true = both (is_clean (key_text v)) (list_all is_clean words) (key_clean v) (words_clean s.names c is.names right) in
    let meant : command_in now v words ≡ c = means before more s.names c is.names (names_apart s is) right begins in
    ap (λ ws. step (running done line (part s cs) k) n (printed ws)) (words_are s.names c)
    ∙ keyed_step (running done line (part s cs) k) n (keyword.Command v) (key_text v) words (key_is v) clean refl fits (words_small s.names c right)
    (free_command k (length now) (any_word is_no_cell (kinds_of v) words) room few (words_cells s.names c right))
    ∙ ap (λ d. Ok (running done line (record { name = s.name; names = now; commands = cs ++ d ∷ [] }) (k + 1))) meant
    ∙ ap (λ ns. Ok (running done line (record { name = s.name; names = ns; commands = cs ++ c ∷ [] }) (k + 1))) same

abbrev command_lines : List (List ℕ) → List Command → List (List ℕ)
command_lines names cs = map (λ c. printed (words_for names c)) cs

-- where a step is known, reading goes on behind it
goes_behind : (r next : Reading) (n : ℕ) (line : List ℕ) (lines : List (List ℕ)) → step r n line ≡ Ok next → go_on r n (line ∷ lines) ≡ go_on next (n + 1) lines
goes_behind r next n line lines e = ap (λ taken. followed n taken (λ after. go_on after (n + 1) lines)) e

-- the commands that are left, and then these lines
commands_run : (rest cs : List Command) (done : List ScriptText) (line n k : ℕ) (s : ScriptText) (tail : List (List ℕ)) → IsScript s → s.commands ≡ cs ++ rest → AllByRecursion (IsCommand (length s.names)) rest → k + length rest ≤ most_commands →
    (m : ℕ) × (go_on (running done line (part s cs) k) n (command_lines s.names rest ++ tail) ≡ go_on (running done line s (k + length rest)) m tail)
commands_run [] cs done line n k s tail is split all room =
    let whole : cs ≡ s.commands = sym (split ∙ append-nil cs) in
    let named : names_so_far s.names cs ≡ s.names = ap (names_so_far s.names) whole ∙ sym is.used in (
      n,
      ap (λ ns. go_on (running done line (record { name = s.name; names = ns; commands = cs }) k) n tail) named
          ∙ ap (λ ds. go_on (running done line (record { name = s.name; names = s.names; commands = ds }) k) n tail) whole
          ∙ ap (λ count. go_on (running done line s count) n tail) (omega arith),
    )
commands_run (c ∷ rest) cs done line n k s tail is split all room =
    let taken = command_step done line n k s cs rest c is split all.0 (omega arith) in
    let behind = goes_behind (running done line (part s cs) k) (running done line (part s (cs ++ c ∷ [])) (k + 1)) n (printed (words_for s.names c)) (command_lines s.names rest ++ tail) taken in
    let later = commands_run rest (cs ++ c ∷ []) done line (n + 1) (k + 1) s tail is (split ∙ sym (append_assoc cs (c ∷ []) rest)) all.1 (omega arith) in
    (later.0, behind ∙ later.1 ∙ ap (λ count. go_on (running done line s count) later.0 tail) (omega arith))

mapped : {X Y Z : Type 0} (f : Y → Z) (g : X → Y) (xs : List X) → map f (map g xs) ≡ map (λ x. f (g x)) xs
mapped f g [] = refl
mapped f g (x ∷ xs) = ap (λ ys. f (g x) ∷ ys) (mapped f g xs)

script_lines : (s : ScriptText) (tail : List (List ℕ)) →
    map printed (lines_for s) ++ tail ≡ printed (codes "script" ∷ s.name ∷ []) ∷ (command_lines s.names s.commands ++ printed (codes "end" ∷ []) ∷ tail)
script_lines s tail =
    ap (λ ls. (printed (codes "script" ∷ s.name ∷ []) ∷ ls) ++ tail) (map-append printed (map (words_for s.names) s.commands) ((codes "end" ∷ []) ∷ []))
    ∙ ap (λ ls. (printed (codes "script" ∷ s.name ∷ []) ∷ (ls ++ printed (codes "end" ∷ []) ∷ [])) ++ tail) (mapped printed (words_for s.names) s.commands)
    ∙ ap (λ ls. printed (codes "script" ∷ s.name ∷ []) ∷ ls) (append_assoc (command_lines s.names s.commands) (printed (codes "end" ∷ []) ∷ []) tail)

free_script : (n : ℕ) (twice : Bool) → n < most_scripts → twice ≡ false → cond (leb most_scripts n) (Some too_many_scripts) (cond twice (Some double_name) None) ≡ None
free_script n twice l e =
    ap (λ t. cond t (Some too_many_scripts) (cond twice (Some double_name) None)) (above most_scripts n l) ∙ ap (λ t. cond t (Some double_name) None) e

abbrev titles_of : List ScriptText → List (List ℕ)
titles_of scripts = map (λ s. s.name) scripts

length-titles : (ss : List ScriptText) → length (titles_of ss) ≡ length ss
length-titles [] = refl
length-titles (s ∷ ss) = ap suc (length-titles ss)

begin_step : (done : List ScriptText) (n k : ℕ) (s : ScriptText) → IsScript s → length done < most_scripts → list_any (λ t. bytes_eq t s.name) (titles_of done) ≡ false →
    step (resting done k) n (printed (codes "script" ∷ s.name ∷ [])) ≡ Ok (running done n (part s []) k)
begin_step done n k s is room new =
    keyed_step (resting done k) n keyword.Script (codes "script") (s.name ∷ []) refl
    (both true (list_all is_clean (s.name ∷ [])) refl (both (is_clean s.name) true (name_clean s.name is.name) refl))
    refl (both (is_name s.name) true is.name refl) refl
    (free_script (length (titles_of done)) (list_any (λ t. bytes_eq t s.name) (titles_of done)) (omega (arith, length-titles done)) new)

end_step : (done : List ScriptText) (line n k : ℕ) (s : ScriptText) → step (running done line s k) n (printed (codes "end" ∷ [])) ≡ Ok (resting (done ++ s ∷ []) k)
end_step done line n k s = keyed_step (running done line s k) n keyword.End (codes "end") [] refl refl refl refl refl refl

script_run : (done : List ScriptText) (n k : ℕ) (s : ScriptText) (tail : List (List ℕ)) → IsScript s → length done < most_scripts → list_any (λ t. bytes_eq t s.name) (titles_of done) ≡ false → k + length s.commands ≤ most_commands →
    (m : ℕ) × (go_on (resting done k) n (map printed (lines_for s) ++ tail) ≡ go_on (resting (done ++ s ∷ []) (k + length s.commands)) m tail)
script_run done n k s tail is room new count =
    let behind = goes_behind (resting done k) (running done n (part s []) k) n (printed (codes "script" ∷ s.name ∷ [])) (command_lines s.names s.commands ++ printed (codes "end" ∷ []) ∷ tail) (begin_step done n k s is room new) in
    let inner = commands_run s.commands [] done n (n + 1) k s (printed (codes "end" ∷ []) ∷ tail) is refl is.commands count in
    let last = goes_behind (running done n s (k + length s.commands)) (resting (done ++ s ∷ []) (k + length s.commands)) inner.0 (printed (codes "end" ∷ [])) tail (end_step done n inner.0 (k + length s.commands) s) in
    (inner.0 + 1, ap (go_on (resting done k) n) (script_lines s tail) ∙ behind ∙ inner.1 ∙ last)

-- ---- all scripts

scripts_run : (ss done : List ScriptText) (n k : ℕ) → AllByRecursion IsScript ss → AreNew (titles_of done) (titles_of ss) → length done + length ss ≤ most_scripts → k + sum_by (λ s. length s.commands) ss ≤ most_commands →
    go_on (resting done k) n (map printed (flat_map lines_for ss)) ≡ Ok (done ++ ss)
scripts_run [] done n k all new few count = ap Ok (sym (append-nil done))
scripts_run (s ∷ ss) done n k all new few count =
    let total : sum_by (λ (t : ScriptText). length t.commands) (s ∷ ss) ≡ length s.commands + sum_by (λ (t : ScriptText). length t.commands) ss = sum_by-cons (λ (t : ScriptText). length t.commands) s ss in
    let one = script_run done n k s (map printed (flat_map lines_for ss)) all.0 (omega arith) new.0 (omega (arith, total)) in
    let titles : titles_of (done ++ s ∷ []) ≡ titles_of done ++ s.name ∷ [] = map-append (λ (t : ScriptText). t.name) done (s ∷ []) in
    ap (go_on (resting done k) n) (map-append printed (lines_for s) (flat_map lines_for ss))
    ∙ one.1
    ∙ scripts_run ss (done ++ s ∷ []) one.0 (k + length s.commands) all.1 (subst (λ ts. AreNew ts (titles_of ss)) (sym titles) new.1)
    (omega (arith, length-append done (s ∷ []))) (omega (arith, total))
    ∙ ap Ok (append_assoc done (s ∷ []) ss)

flattened : (ss : List ScriptText) → canonical ss ≡ flat_map line_text (flat_map lines_for ss)
flattened [] = refl
flattened (s ∷ ss) = ap (λ bs. script_text s ++ bs) (flattened ss) ∙ sym (flat_map-append line_text (lines_for s) (flat_map lines_for ss))

clean_append : (xs ys : List (List (List ℕ))) → all_clean xs ≡ true → all_clean ys ≡ true → all_clean (xs ++ ys) ≡ true
clean_append [] ys e f = f
clean_append (x ∷ xs) ys e f = both (list_all is_clean x) (all_clean (xs ++ ys)) (and_front (list_all is_clean x) (all_clean xs) e) (clean_append xs ys (and_back (list_all is_clean x) (all_clean xs) e) f)

commands_clean : (names : List (List ℕ)) (cs : List Command) → list_all is_name names ≡ true → AllByRecursion (IsCommand (length names)) cs → all_clean (map (words_for names) cs) ≡ true
commands_clean names [] all is = refl
commands_clean names (c ∷ cs) all is =
    both (list_all is_clean (words_for names c)) (all_clean (map (words_for names) cs))
    (ap (list_all is_clean) (words_are names c) ∙ both (is_clean (key_text (verb_of c))) (list_all is_clean (words_behind names c)) (key_clean (verb_of c)) (words_clean names c all is.0))
    (commands_clean names cs all is.1)

scripts_clean : (ss : List ScriptText) → AllByRecursion IsScript ss → all_clean (flat_map lines_for ss) ≡ true
scripts_clean [] all = refl
scripts_clean (s ∷ ss) all =
    clean_append (lines_for s) (flat_map lines_for ss)
    (both (list_all is_clean (codes "script" ∷ s.name ∷ [])) (all_clean (map (words_for s.names) s.commands ++ (codes "end" ∷ []) ∷ []))
    (both true (list_all is_clean (s.name ∷ [])) refl (both (is_clean s.name) true (name_clean s.name all.0.name) refl))
    (clean_append (map (words_for s.names) s.commands) ((codes "end" ∷ []) ∷ []) (commands_clean s.names s.commands all.0.names all.0.commands) refl))
    (scripts_clean ss all.1)

-- what is printed of scripts says these scripts
pub canonical_reads : (ss : List ScriptText) → AreScripts ss → scripts_in (canonical ss) ≡ Ok ss
canonical_reads ss are =
    sym (reads_all (canonical ss))
    ∙ ap (λ text. go_on start 1 (text_lines text)) (flattened ss)
    ∙ ap (go_on start 1) (printed_lines (flat_map lines_for ss) (scripts_clean ss are.each))
    ∙ scripts_run ss [] 1 0 are.each are.titles (omega (arith, are.few)) (omega (arith, are.commands))
