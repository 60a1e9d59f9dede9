-- Whatever text is read, the scripts are such as a text can say.
use Rattle.std.proofs.Common.{◌≡◌, refl, sym, ap, ◌∙◌, subst, Bool, true, false, not, cond, ◌&&◌, ◌||◌, List, [], ◌∷◌, ◌++◌, ℕ, suc, ◌+◌, ◌<◌, ◌≤◌, length, length-append, append_assoc, append-nil, map, arith, Option, Some, None, Result, Ok, Err, eqb, ltb, leb, bytes_eq}
use Rattle.std.proofs.Math.ListN.{get_or-append}
use Rattle.std.specs.List.{flat_map, sum_by, list_any, list_all, AllByRecursion}
use Rattle.std.specs.Option.{option_map_or}
use Rattle.std.proofs.lemmas.List.{map-append}
use Rattle.std.proofs.lemmas.Grind.{flat_map-append}
use Rattle.std.proofs.lemmas.Bool.Decides.{nat_tests}
use Rattle.std.proofs.lemmas.List.Sums.{fold-append, sum_by-append, passes_at_first}
use Rattle.std.proofs.lemmas.Slice.Eq.{bytes_eq-Decides}
use Rattle.om_script.specs.declared.command.Command.{Command}
use Rattle.om_script.specs.declared.command.Command.TheVariants as command
use Rattle.om_script.specs.declared.keyword.Verb.{Verb}
use Rattle.om_script.specs.declared.keyword.Verb.TheVariants as verb
use Rattle.om_script.specs.declared.keyword.Kind.{Kind}
use Rattle.om_script.specs.declared.keyword.Kind.TheVariants.{Name, Number, Byte, Cell, Site}
use Rattle.om_script.specs.declared.keyword.Keyword.{Keyword}
use Rattle.om_script.specs.declared.keyword.Keyword.TheVariants as keyword
use Rattle.om_script.specs.declared.reader.Current.{Current}
use Rattle.om_script.specs.Words.{is_name}
use Rattle.om_script.specs.Keywords.{kinds_of, kinds_behind, fit, is_of_kind, names_in, with_name, with_names, place_of, word_at, command_in, any_word, is_too_large, is_no_cell}
use Rattle.om_script.specs.Script.{ScriptText}
use Rattle.om_script.specs.Reading.{Reading}
use Rattle.om_script.specs.Standing.{Said, said_on, Standing, most_scripts, most_commands, most_names, limit_of, refusal_of, refusal, syntax_error, number_too_large, too_many_scripts, too_many_commands, too_many_names, double_name, cell_out_of_range, is_misplaced, unended}
use Rattle.om_script.specs.Steps.{start, is_inside, titles_with, names_now, standing_of, titled, with_command, begun_after, ended_after, command_after, keyword_after, said_after, unless_refused, ended, followed, go_on}
use Rattle.om_script.specs.Accepted.{IsCommand, name_at, used_by, IsScript, AreNew, AreScripts}
use Rattle.om_script.proofs.Places.{IsThere, name_added, name_fits, longer_by_names}
use Rattle.om_script.proofs.NameTexts.{number_small, byte_small, cell_small, site_small}
use Rattle.om_script.proofs.Whole.{placed, fitting, line_found}

and_front : (a b : Bool) → (a && b) ≡ true → a ≡ true
and_front true b e = refl
and_front false b e = cc

and_back : (a b : Bool) → (a && b) ≡ true → b ≡ true
and_back true b e = e
and_back false b e = cc

both : (a b : Bool) → a ≡ true → b ≡ true → (a && b) ≡ true
both true b e f = f
both false b e f = cc

-- ---- names by their places

-- the name in the place of a name that is there
pub name_at_place : (names : List (List ℕ)) (name : List ℕ) → IsThere names name → name_at names (place_of names name) ≡ name
name_at_place names name there = sym ((bytes_eq-Decides name (name_at names (place_of names name))).0 (passes_at_first (λ n. bytes_eq name n) names [] there))

name_at-with_name : (names : List (List ℕ)) (more : List ℕ) (var : ℕ) → var < length names → name_at (with_name names more) var ≡ name_at names var
name_at-with_name names more var l = by (eqb (place_of names more) (length names))
  where
    by : (t : Bool) → name_at (cond t (names ++ more ∷ []) names) var ≡ name_at names var
    by true = get_or-append names (more ∷ []) [] var l
    by false = refl

-- names that come behind others change none of them
pub name_at-with_names : (names more : List (List ℕ)) (var : ℕ) → var < length names → name_at (with_names names more) var ≡ name_at names var
name_at-with_names names [] var l = refl
name_at-with_names names (m ∷ more) var l =
    let wider : length names ≤ length (with_name names m) = longer_by_names names (m ∷ []) in
    name_at-with_names (with_name names m) more var (omega arith) ∙ name_at-with_name names m var l

-- the places in which names stand
abbrev pub places : List Kind → List ℕ
places [] = []
places (Name ∷ kinds) = 0 ∷ map suc (places kinds)
places (Number ∷ kinds) = map suc (places kinds)
places (Byte ∷ kinds) = map suc (places kinds)
places (Cell ∷ kinds) = map suc (places kinds)
places (Site ∷ kinds) = map suc (places kinds)

behind : (word : List ℕ) (words : List (List ℕ)) (ns : List ℕ) → map (word_at (word ∷ words)) (map suc ns) ≡ map (word_at words) ns
behind word words [] = refl
behind word words (n ∷ ns) = ap (λ ws. word_at words n ∷ ws) (behind word words ns)

no_places : (kinds : List Kind) → fit kinds [] ≡ true → places kinds ≡ []
no_places [] f = refl
no_places (Name ∷ kinds) f = cc
no_places (Number ∷ kinds) f = cc
no_places (Byte ∷ kinds) f = cc
no_places (Cell ∷ kinds) f = cc
no_places (Site ∷ kinds) f = ap (map suc) (no_places kinds f)

-- the names of a line are the words in the places of names
pub names_in_places : (kinds : List Kind) (words : List (List ℕ)) → fit kinds words ≡ true → names_in kinds words ≡ map (word_at words) (places kinds)
names_in_places [] words f = refl
names_in_places (kind ∷ kinds) [] f = sym (ap (map (word_at [])) (no_places (kind ∷ kinds) f))
names_in_places (Name ∷ kinds) (word ∷ words) f = ap (λ ws. word ∷ ws) (names_in_places kinds words (and_back (is_of_kind Name word) (fit kinds words) f) ∙ sym (behind word words (places kinds)))
names_in_places (Number ∷ kinds) (word ∷ words) f = names_in_places kinds words (and_back (is_of_kind Number word) (fit kinds words) f) ∙ sym (behind word words (places kinds))
names_in_places (Byte ∷ kinds) (word ∷ words) f = names_in_places kinds words (and_back (is_of_kind Byte word) (fit kinds words) f) ∙ sym (behind word words (places kinds))
names_in_places (Cell ∷ kinds) (word ∷ words) f = names_in_places kinds words (and_back (is_of_kind Cell word) (fit kinds words) f) ∙ sym (behind word words (places kinds))
names_in_places (Site ∷ kinds) (word ∷ words) f = names_in_places kinds words (and_back (is_of_kind Site word) (fit kinds words) f) ∙ sym (behind word words (places kinds))

one_name : (names : List (List ℕ)) (w : List ℕ) → IsThere names w → ◌≡◌ {A = List (List ℕ)} (name_at names (place_of names w) ∷ []) (w ∷ [])
one_name names w there = ap (λ n. n ∷ []) (name_at_place names w there)

two_names : (names : List (List ℕ)) (w x : List ℕ) → IsThere names w → IsThere names x → ◌≡◌ {A = List (List ℕ)} (name_at names (place_of names w) ∷ name_at names (place_of names x) ∷ []) (w ∷ x ∷ [])
two_names names w x there too = ap (λ n. n ∷ name_at names (place_of names x) ∷ []) (name_at_place names w there) ∙ ap (λ n. w ∷ n ∷ []) (name_at_place names x too)

-- what a command uses are the names of its line
pub used-command_in : (names : List (List ℕ)) (v : Verb) (words : List (List ℕ)) → fit (kinds_of v) words ≡ true →
    let now = with_names names (names_in (kinds_of v) words) in used_by now (command_in now v words) ≡ names_in (kinds_of v) words
used-command_in names verb.Malloc words f = one_name _ (word_at words 0) (name_added names (kinds_of verb.Malloc) words 0 f refl) ∙ sym (names_in_places (kinds_of verb.Malloc) words f)
used-command_in names verb.Calloc words f = one_name _ (word_at words 0) (name_added names (kinds_of verb.Calloc) words 0 f refl) ∙ sym (names_in_places (kinds_of verb.Calloc) words f)
used-command_in names verb.Realloc words f = two_names _ (word_at words 0) (word_at words 1) (name_added names (kinds_of verb.Realloc) words 0 f refl) (name_added names (kinds_of verb.Realloc) words 1 f refl) ∙ sym (names_in_places (kinds_of verb.Realloc) words f)
used-command_in names verb.Reallocarray words f = two_names _ (word_at words 0) (word_at words 1) (name_added names (kinds_of verb.Reallocarray) words 0 f refl) (name_added names (kinds_of verb.Reallocarray) words 1 f refl) ∙ sym (names_in_places (kinds_of verb.Reallocarray) words f)
used-command_in names verb.Free words f = one_name _ (word_at words 0) (name_added names (kinds_of verb.Free) words 0 f refl) ∙ sym (names_in_places (kinds_of verb.Free) words f)
used-command_in names verb.Load words f = one_name _ (word_at words 0) (name_added names (kinds_of verb.Load) words 0 f refl) ∙ sym (names_in_places (kinds_of verb.Load) words f)
used-command_in names verb.Store words f = one_name _ (word_at words 0) (name_added names (kinds_of verb.Store) words 0 f refl) ∙ sym (names_in_places (kinds_of verb.Store) words f)
used-command_in names verb.Let words f = one_name _ (word_at words 0) (name_added names (kinds_of verb.Let) words 0 f refl) ∙ sym (names_in_places (kinds_of verb.Let) words f)
used-command_in names verb.Add words f = two_names _ (word_at words 0) (word_at words 1) (name_added names (kinds_of verb.Add) words 0 f refl) (name_added names (kinds_of verb.Add) words 1 f refl) ∙ sym (names_in_places (kinds_of verb.Add) words f)
used-command_in names verb.Post words f = one_name _ (word_at words 1) (name_added names (kinds_of verb.Post) words 1 f refl) ∙ sym (names_in_places (kinds_of verb.Post) words f)
used-command_in names verb.Take words f = one_name _ (word_at words 0) (name_added names (kinds_of verb.Take) words 0 f refl) ∙ sym (names_in_places (kinds_of verb.Take) words f)
used-command_in names verb.Phase words f = sym (names_in_places (kinds_of verb.Phase) words f)

-- and its numbers are such as may stand there
is_command : (names : List (List ℕ)) (v : Verb) (words : List (List ℕ)) → fit (kinds_of v) words ≡ true → any_word is_too_large (kinds_of v) words ≡ false → any_word is_no_cell (kinds_of v) words ≡ false →
    let now = with_names names (names_in (kinds_of v) words) in IsCommand (length now) (command_in now v words)
is_command names verb.Malloc words f l c = (name_added names (kinds_of verb.Malloc) words 0 f refl, number_small (kinds_of verb.Malloc) words 1 l refl, site_small (kinds_of verb.Malloc) words 2 l refl)
is_command names verb.Calloc words f l c = (name_added names (kinds_of verb.Calloc) words 0 f refl, number_small (kinds_of verb.Calloc) words 1 l refl, number_small (kinds_of verb.Calloc) words 2 l refl, site_small (kinds_of verb.Calloc) words 3 l refl)
is_command names verb.Realloc words f l c = (name_added names (kinds_of verb.Realloc) words 0 f refl, name_added names (kinds_of verb.Realloc) words 1 f refl, number_small (kinds_of verb.Realloc) words 2 l refl, site_small (kinds_of verb.Realloc) words 3 l refl)
is_command names verb.Reallocarray words f l c = (name_added names (kinds_of verb.Reallocarray) words 0 f refl, name_added names (kinds_of verb.Reallocarray) words 1 f refl, number_small (kinds_of verb.Reallocarray) words 2 l refl, number_small (kinds_of verb.Reallocarray) words 3 l refl, site_small (kinds_of verb.Reallocarray) words 4 l refl)
is_command names verb.Free words f l c = name_added names (kinds_of verb.Free) words 0 f refl
is_command names verb.Load words f l c = (name_added names (kinds_of verb.Load) words 0 f refl, number_small (kinds_of verb.Load) words 1 l refl)
is_command names verb.Store words f l c = (name_added names (kinds_of verb.Store) words 0 f refl, number_small (kinds_of verb.Store) words 1 l refl, byte_small (kinds_of verb.Store) words 2 l refl)
is_command names verb.Let words f l c = (name_added names (kinds_of verb.Let) words 0 f refl, number_small (kinds_of verb.Let) words 1 l refl)
is_command names verb.Add words f l c = (name_added names (kinds_of verb.Add) words 0 f refl, name_added names (kinds_of verb.Add) words 1 f refl, number_small (kinds_of verb.Add) words 2 l refl)
is_command names verb.Post words f l c = (cell_small (kinds_of verb.Post) words 0 c refl, name_added names (kinds_of verb.Post) words 1 f refl)
is_command names verb.Take words f l c = (name_added names (kinds_of verb.Take) words 0 f refl, cell_small (kinds_of verb.Take) words 1 c refl)
is_command names verb.Phase words f l c = tt

-- ---- a script with one command more

more_variables : (n m : ℕ) → n ≤ m → (c : Command) → IsCommand n c → IsCommand m c
more_variables n m l (command.Malloc var size site) (v, s, t) = (omega arith, s, t)
more_variables n m l (command.Calloc var count size site) (v, s, t, u) = (omega arith, s, t, u)
more_variables n m l (command.Realloc var from size site) (v, w, s, t) = (omega arith, omega arith, s, t)
more_variables n m l (command.Reallocarray var from count size site) (v, w, s, t, u) = (omega arith, omega arith, s, t, u)
more_variables n m l (command.Free var) v = omega arith
more_variables n m l (command.Load var off) (v, s) = (omega arith, s)
more_variables n m l (command.Store var off byte) (v, s, t) = (omega arith, s, t)
more_variables n m l (command.Let var value) (v, s) = (omega arith, s)
more_variables n m l (command.Add var from off) (v, w, s) = (omega arith, omega arith, s)
more_variables n m l (command.Post cell var) (s, v) = (s, omega arith)
more_variables n m l (command.Take var cell) (v, s) = (omega arith, s)
more_variables n m l command.Phase is = tt

commands_with : (n m : ℕ) → n ≤ m → (cs : List Command) (c : Command) → AllByRecursion (IsCommand n) cs → IsCommand m c → AllByRecursion (IsCommand m) (cs ++ c ∷ [])
commands_with n m l [] c all is = (is, tt)
commands_with n m l (d ∷ cs) c all is = (more_variables n m l d all.0, commands_with n m l cs c all.1 is)

-- the names that a command used are in their places still
same_use : (names more : List (List ℕ)) (c : Command) → IsCommand (length names) c → used_by (with_names names more) c ≡ used_by names c
same_use names more (command.Malloc var size site) is = ap (λ n. n ∷ []) (name_at-with_names names more var is.0)
same_use names more (command.Calloc var count size site) is = ap (λ n. n ∷ []) (name_at-with_names names more var is.0)
same_use names more (command.Realloc var from size site) is = let a = name_at-with_names names more var is.0 in let b = name_at-with_names names more from is.1 in cc
same_use names more (command.Reallocarray var from count size site) is = let a = name_at-with_names names more var is.0 in let b = name_at-with_names names more from is.1 in cc
same_use names more (command.Free var) is = ap (λ n. n ∷ []) (name_at-with_names names more var is)
same_use names more (command.Load var off) is = ap (λ n. n ∷ []) (name_at-with_names names more var is.0)
same_use names more (command.Store var off byte) is = ap (λ n. n ∷ []) (name_at-with_names names more var is.0)
same_use names more (command.Let var value) is = ap (λ n. n ∷ []) (name_at-with_names names more var is.0)
same_use names more (command.Add var from off) is = let a = name_at-with_names names more var is.0 in let b = name_at-with_names names more from is.1 in cc
same_use names more (command.Post cell var) is = ap (λ n. n ∷ []) (name_at-with_names names more var is.1)
same_use names more (command.Take var cell) is = ap (λ n. n ∷ []) (name_at-with_names names more var is.0)
same_use names more command.Phase is = refl

same_uses : (names more : List (List ℕ)) (cs : List Command) → AllByRecursion (IsCommand (length names)) cs → flat_map (used_by (with_names names more)) cs ≡ flat_map (used_by names) cs
same_uses names more [] all = refl
same_uses names more (c ∷ cs) all = let a = same_use names more c all.0 in let b = same_uses names more cs all.1 in cc

names_push : (ns : List (List ℕ)) (name : List ℕ) → list_all is_name ns ≡ true → is_name name ≡ true → list_all is_name (ns ++ name ∷ []) ≡ true
names_push [] name a is = both (is_name name) true is refl
names_push (n ∷ ns) name a is = both (is_name n) (list_all is_name (ns ++ name ∷ [])) (and_front (is_name n) (list_all is_name ns) a) (names_push ns name (and_back (is_name n) (list_all is_name ns) a) is)

names_with_name : (names : List (List ℕ)) (name : List ℕ) → list_all is_name names ≡ true → is_name name ≡ true → list_all is_name (with_name names name) ≡ true
names_with_name names name all is = by (eqb (place_of names name) (length names))
  where
    by : (t : Bool) → list_all is_name (cond t (names ++ name ∷ []) names) ≡ true
    by true = names_push names name all is
    by false = all

-- the names of a line that fits are names
names_with_line : (names : List (List ℕ)) (kinds : List Kind) (words : List (List ℕ)) → list_all is_name names ≡ true → fit kinds words ≡ true → list_all is_name (with_names names (names_in kinds words)) ≡ true
names_with_line names [] words all f = all
names_with_line names (kind ∷ kinds) [] all f = all
names_with_line names (Name ∷ kinds) (word ∷ words) all f =
    names_with_line (with_name names word) kinds words (names_with_name names word all (and_front (is_name word) (fit kinds words) f)) (and_back (is_name word) (fit kinds words) f)
names_with_line names (Number ∷ kinds) (word ∷ words) all f = names_with_line names kinds words all (and_back (is_of_kind Number word) (fit kinds words) f)
names_with_line names (Byte ∷ kinds) (word ∷ words) all f = names_with_line names kinds words all (and_back (is_of_kind Byte word) (fit kinds words) f)
names_with_line names (Cell ∷ kinds) (word ∷ words) all f = names_with_line names kinds words all (and_back (is_of_kind Cell word) (fit kinds words) f)
names_with_line names (Site ∷ kinds) (word ∷ words) all f = names_with_line names kinds words all (and_back (is_of_kind Site word) (fit kinds words) f)

script_with_command : (s : ScriptText) (v : Verb) (words : List (List ℕ)) → IsScript s → fit (kinds_of v) words ≡ true → any_word is_too_large (kinds_of v) words ≡ false → any_word is_no_cell (kinds_of v) words ≡ false
    → length (with_names s.names (names_in (kinds_of v) words)) ≤ most_names → IsScript (with_command s v words)
script_with_command s v words is f l c few =
    let more = names_in (kinds_of v) words in
    let now = with_names s.names more in
    let added = command_in now v words in
    let used : flat_map (used_by now) (s.commands ++ added ∷ []) ≡ flat_map (used_by s.names) s.commands ++ more =
    flat_map-append (used_by now) s.commands (added ∷ [])
    ∙ ap (λ ns. ns ++ (used_by now added ++ [])) (same_uses s.names more s.commands is.commands)
    ∙ ap (λ ns. flat_map (used_by s.names) s.commands ++ ns) (append-nil (used_by now added) ∙ used-command_in s.names v words f) in
    record {
      name = is.name;
      names = names_with_line s.names (kinds_of v) words is.names f;
      few = few;
      used = ap (λ ns. with_names ns more) is.used ∙ sym (fold-append with_name [] (flat_map (used_by s.names) s.commands) more) ∙ ap (with_names []) (sym used);
      commands = commands_with (length s.names) (length now) (longer_by_names s.names more) s.commands added is.commands (is_command s.names v words f l c);
    }

script_titled : (name : List ℕ) → is_name name ≡ true → IsScript (titled name)
script_titled name is = record { name = is; names = refl; few = omega arith; used = refl; commands = tt }

-- ---- a reading

abbrev SoundCurrent : Option Current → Type 0
SoundCurrent None = Unit {0}
SoundCurrent (Some current) = IsScript current.script

abbrev commands_now : Option Current → ℕ
commands_now None = 0
commands_now (Some current) = length current.script.commands

pub record Sound (r : Reading) : Type 0 where
  pub done : AllByRecursion IsScript r.done
  pub current : SoundCurrent r.current
  pub titles : AreNew [] (titles_with (map (λ s. s.name) r.done) r.current)
  pub few : length (titles_with (map (λ s. s.name) r.done) r.current) ≤ most_scripts
  pub counted : sum_by (λ s. length s.commands) r.done + commands_now r.current ≡ r.commands
  pub most : r.commands ≤ most_commands

nothing_sound : Sound start
nothing_sound = record { done = tt; current = tt; titles = tt; few = omega arith; counted = refl; most = omega arith }

new_title : (before titles : List (List ℕ)) (title : List ℕ) → AreNew before titles → list_any (λ t. bytes_eq t title) (before ++ titles) ≡ false → AreNew before (titles ++ title ∷ [])
new_title before [] title new e = (ap (list_any (λ t. bytes_eq t title)) (sym (append-nil before)) ∙ e, tt)
new_title before (t ∷ titles) title new e =
    (new.0, new_title (before ++ t ∷ []) titles title new.1 (ap (list_any (λ u. bytes_eq u title)) (append_assoc before (t ∷ []) titles) ∙ e))

-- where a line isn't refused, none of its limits is passed
unlimited : (s : Standing) (k : Keyword) (words : List (List ℕ)) → refusal_of s k words ≡ None → (any_word is_too_large (kinds_behind k) words ≡ false) × (limit_of s k words ≡ None)
unlimited s k words e = by (is_misplaced s k) (not (fit (kinds_behind k) words)) (any_word is_too_large (kinds_behind k) words) e
  where
    by : (m f l : Bool) → cond (m || f) (Some syntax_error) (cond l (Some number_too_large) (limit_of s k words)) ≡ None → (l ≡ false) × (limit_of s k words ≡ None)
    by true f l e' = cc
    by false true l e' = cc
    by false false true e' = cc
    by false false false e' = (refl, e')

room_for_script : (n : ℕ) (any : Bool) → cond (leb most_scripts n) (Some too_many_scripts) (cond any (Some double_name) None) ≡ None → (n < most_scripts) × (any ≡ false)
room_for_script n any e = by (leb most_scripts n) any refl e
  where
    by : (t a : Bool) → leb most_scripts n ≡ t → cond t (Some too_many_scripts) (cond a (Some double_name) None) ≡ None → (n < most_scripts) × (a ≡ false)
    by true a is e' = cc
    by false true is e' = cc
    by false false is e' = (grind (arith, nat_tests), refl)

room_for_command : (n m : ℕ) (cell : Bool) → cond (leb most_commands n) (Some too_many_commands) (cond (ltb most_names m) (Some too_many_names) (cond cell (Some cell_out_of_range) None)) ≡ None → (n < most_commands) × (m ≤ most_names) × (cell ≡ false)
room_for_command n m cell e = by (leb most_commands n) (ltb most_names m) cell refl refl e
  where
    by : (t u c : Bool) → leb most_commands n ≡ t → ltb most_names m ≡ u → cond t (Some too_many_commands) (cond u (Some too_many_names) (cond c (Some cell_out_of_range) None)) ≡ None → (n < most_commands) × (m ≤ most_names) × (c ≡ false)
    by true u c ist isu e' = cc
    by false true c ist isu e' = cc
    by false false true ist isu e' = cc
    by false false false ist isu e' = (grind (arith, nat_tests), grind (arith, nat_tests), refl)

scripts_with : (ss : List ScriptText) (s : ScriptText) → AllByRecursion IsScript ss → IsScript s → AllByRecursion IsScript (ss ++ s ∷ [])
scripts_with [] s all is = (is, tt)
scripts_with (t ∷ ss) s all is = (all.0, scripts_with ss s all.1 is)

script_sound : (r : Reading) (line : ℕ) (words : List (List ℕ)) → Sound r → refusal_of (standing_of r) keyword.Script words ≡ None → Sound (keyword_after r line keyword.Script words)
script_sound r line words s e = by r.current refl
  where
    by : (c : Option Current) → r.current ≡ c → Sound (begun_after r line (word_at words 0))
    by (Some c) is = let out = placed (standing_of r) keyword.Script words e in let in_is : is_inside r.current ≡ true = ap is_inside is in cc
    by None is =
        let titles : List (List ℕ) = map (λ (t : ScriptText). t.name) r.done in
        let name : is_name (word_at words 0) ≡ true = name_fits (kinds_behind keyword.Script) words 0 (fitting (standing_of r) keyword.Script words e) refl in
        let same : titles_with titles r.current ≡ titles = ap (titles_with titles) is in
        let room = room_for_script (length (titles_with titles r.current)) (list_any (λ t. bytes_eq t (word_at words 0)) (titles_with titles r.current)) (unlimited (standing_of r) keyword.Script words e).1 in
        let few : length titles < most_scripts = subst (λ ts. length ts < most_scripts) same room.0 in
        let new : list_any (λ t. bytes_eq t (word_at words 0)) titles ≡ false = subst (λ ts. list_any (λ t. bytes_eq t (word_at words 0)) ts ≡ false) same room.1 in
        let old : AreNew [] titles = subst (AreNew []) same s.titles in
        let counted : sum_by (λ (t : ScriptText). length t.commands) r.done + 0 ≡ r.commands = subst (λ (c : Option Current). sum_by (λ (t : ScriptText). length t.commands) r.done + commands_now c ≡ r.commands) is s.counted in
        record {
          done = s.done;
          current = script_titled (word_at words 0) name;
          titles = new_title [] titles (word_at words 0) old new;
          few = omega (arith, length-append titles (word_at words 0 ∷ []));
          counted = counted;
          most = s.most;
        }

end_sound : (r : Reading) (line : ℕ) (words : List (List ℕ)) → Sound r → Sound (keyword_after r line keyword.End words)
end_sound r line words s = by r.current refl
  where
    by : (c : Option Current) → r.current ≡ c → Sound (ended_after r c)
    by None is = s
    by (Some c) is =
        let titles : List (List ℕ) = map (λ (t : ScriptText). t.name) r.done in
        let all : map (λ (t : ScriptText). t.name) (r.done ++ c.script ∷ []) ≡ titles_with titles r.current =
        map-append (λ (t : ScriptText). t.name) r.done (c.script ∷ []) ∙ ap (titles_with titles) (sym is) in
        let counted : sum_by (λ (t : ScriptText). length t.commands) r.done + length c.script.commands ≡ r.commands = subst (λ (d : Option Current). sum_by (λ (t : ScriptText). length t.commands) r.done + commands_now d ≡ r.commands) is s.counted in
        record {
          done = scripts_with r.done c.script s.done (subst SoundCurrent is s.current);
          current = tt;
          titles = subst (AreNew []) (sym all) s.titles;
          few = subst (λ ts. length ts ≤ most_scripts) (sym all) s.few;
          counted = omega (arith, counted, sum_by-append (λ (t : ScriptText). length t.commands) r.done (c.script ∷ []));
          most = s.most;
        }

command_sound : (r : Reading) (line : ℕ) (v : Verb) (words : List (List ℕ)) → Sound r → refusal_of (standing_of r) (keyword.Command v) words ≡ None → Sound (keyword_after r line (keyword.Command v) words)
command_sound r line v words s e = by r.current refl
  where
    by : (c : Option Current) → r.current ≡ c → Sound (command_after r c v words)
    by None is = s
    by (Some c) is =
        let free = unlimited (standing_of r) (keyword.Command v) words e in
        let names : List (List ℕ) = with_names c.script.names (names_in (kinds_of v) words) in
        let now : names_now r.current ≡ c.script.names = ap names_now is in
        let room = room_for_command r.commands (length (with_names (names_now r.current) (names_in (kinds_of v) words))) (any_word is_no_cell (kinds_of v) words) free.1 in
        let few : length names ≤ most_names = subst (λ ns. length (with_names ns (names_in (kinds_of v) words)) ≤ most_names) now room.1 in
        let same : titles_with (map (λ (t : ScriptText). t.name) r.done) r.current ≡ map (λ (t : ScriptText). t.name) r.done ++ c.script.name ∷ [] = ap (titles_with (map (λ (t : ScriptText). t.name) r.done)) is in
        let counted : sum_by (λ (t : ScriptText). length t.commands) r.done + length c.script.commands ≡ r.commands = subst (λ (d : Option Current). sum_by (λ (t : ScriptText). length t.commands) r.done + commands_now d ≡ r.commands) is s.counted in
        record {
          done = s.done;
          current = script_with_command c.script v words (subst SoundCurrent is s.current) (fitting (standing_of r) (keyword.Command v) words e) free.0 room.2 few;
          titles = subst (AreNew []) same s.titles;
          few = subst (λ ts. length ts ≤ most_scripts) same s.few;
          counted = omega (arith, counted, length-append c.script.commands (command_in names v words ∷ []));
          most = omega (arith, room);
        }

keyword_sound : (r : Reading) (line : ℕ) (k : Keyword) (words : List (List ℕ)) → Sound r → refusal_of (standing_of r) k words ≡ None → Sound (keyword_after r line k words)
keyword_sound r line keyword.Script words s e = script_sound r line words s e
keyword_sound r line keyword.End words s e = end_sound r line words s
keyword_sound r line (keyword.Command v) words s e = command_sound r line v words s e

line_sound : (r : Reading) (line : ℕ) (text : List ℕ) → Sound r → refusal (standing_of r) text ≡ None → Sound (said_after r line (said_on text))
line_sound r line text s e = by (said_on text) refl
  where
    by : (o : Option Said) → said_on text ≡ o → Sound (said_after r line o)
    by None is = s
    by (Some said) is = keyword_sound r line said.keyword said.words s (line_found (standing_of r) text said e is)

length_map-titles : (ss : List ScriptText) → length (map (λ s. s.name) ss) ≡ length ss
length_map-titles [] = refl
length_map-titles (s ∷ ss) = ap suc (length_map-titles ss)

same_ok : (a b : List ScriptText) → ◌≡◌ {A = Result (List ScriptText) (ℕ × ℕ)} (Ok a) (Ok b) → a ≡ b
same_ok a b e = cc

ended_sound : (r : Reading) → Sound r → (scripts : List ScriptText) → ended r ≡ Ok scripts → AreScripts scripts
ended_sound r s scripts e = by r.current refl e
  where
    by : (c : Option Current) → r.current ≡ c → option_map_or {U = Result (List ScriptText) (ℕ × ℕ)} (λ (current : Current). Err (current.line, unended)) c (Ok r.done) ≡ Ok scripts → AreScripts scripts
    by (Some c) is e' = cc
    by None is e' =
        let titles : List (List ℕ) = map (λ (t : ScriptText). t.name) r.done in
        let same : titles_with titles r.current ≡ titles = ap (titles_with titles) is in
        let counted : sum_by (λ (t : ScriptText). length t.commands) r.done + 0 ≡ r.commands = subst (λ (d : Option Current). sum_by (λ (t : ScriptText). length t.commands) r.done + commands_now d ≡ r.commands) is s.counted in
        let few : length titles ≤ most_scripts = subst (λ ts. length ts ≤ most_scripts) same s.few in
        let whole : AreScripts r.done = record {
          few = omega (arith, few, length_map-titles r.done);
          commands = omega (arith, counted, s.most);
          titles = subst (AreNew []) same s.titles;
          each = s.done;
        } in
        let is_done : r.done ≡ scripts = same_ok r.done scripts e' in
        subst AreScripts is_done whole

goes_sound : (lines : List (List ℕ)) (r : Reading) (number : ℕ) → Sound r → (scripts : List ScriptText) → go_on r number lines ≡ Ok scripts → AreScripts scripts
goes_sound [] r number s scripts e = ended_sound r s scripts e
goes_sound (line ∷ lines) r number s scripts e =
    by (refusal (standing_of r) line) refl (λ is. goes_sound lines (said_after r number (said_on line)) (number + 1) (line_sound r number line s is) scripts) e
  where
    by : (o : Option ℕ) → refusal (standing_of r) line ≡ o →
        (refusal (standing_of r) line ≡ None → go_on (said_after r number (said_on line)) (number + 1) lines ≡ Ok scripts → AreScripts scripts) →
        followed number (unless_refused o (said_after r number (said_on line))) (λ next. go_on next (number + 1) lines) ≡ Ok scripts → AreScripts scripts
    by (Some refused) is later e' = cc
    by None is later e' = later is e'

-- what is read is such as a text can say
pub read_sound : (lines : List (List ℕ)) (number : ℕ) (scripts : List ScriptText) → go_on start number lines ≡ Ok scripts → AreScripts scripts
read_sound lines number scripts e = goes_sound lines start number nothing_sound scripts e
