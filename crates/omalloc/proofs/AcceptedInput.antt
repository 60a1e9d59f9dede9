-- What holds of every accepted script, by the definition of accepted input alone.
use Rattle.std.proofs.Common.{◌≡◌, refl, subst, Bool, true, false, cond, ◌&&◌, List, [], ◌∷◌, ◌++◌, ℕ, ◌+◌, ◌<◌, ◌≤◌, length, arith, Option, Some, None, Result, Ok, Err, eqb, ltb, leb, length-append, bytes_eq, codes}
use Rattle.std.specs.List.{list_all}
use Rattle.std.specs.Option.{option_map_or, option_and_then}
use Rattle.std.proofs.lemmas.Grind.{common_steps}
use Rattle.std.proofs.lemmas.Bool.{leb-true, ltb-true}
use Rattle.std.proofs.lemmas.Bool.Decides.{nat_tests}
use Rattle.std.proofs.lemmas.Option.{cond_some}
use Rattle.std.proofs.lemmas.List.Elements.{All-push, All-weaker, All-nil}
use Rattle.std.proofs.lemmas.List.Sums.{prefix_len-le-length}
use Rattle.omalloc.specs.declared.command.Command.{Command}
use Rattle.omalloc.specs.declared.command.Command.TheVariants.{Malloc, Calloc, Realloc, Reallocarray, Free, Load, Store}
use Rattle.omalloc.specs.declared.script.Request.{Request}
use Rattle.omalloc.specs.declared.script.Request.TheVariants as request
use Rattle.omalloc.specs.Script.{ScriptText, most_commands, most_names, IsCommand, IsScript}
use Rattle.om_model.specs.Scripts.Names.{is_digit, is_name}
use Rattle.omalloc.specs.AcceptedInput.{number_of, number_to, title_of, Line, line_of, command_of, command_on, place_of, with_name, with_second, names_with, second_place, with_command, with_line, ended, script_from, titled, script_of_lines, script_of, text_lines, fields_of}

and_front : (a b : Bool) → (a && b) ≡ true → a ≡ true
and_front true b e = refl
and_front false b e = cc

and_back : (a b : Bool) → (a && b) ≡ true → b ≡ true
and_back true b e = e
and_back false b e = cc

-- a number is at most the greatest of its kind
pub number_small : (greatest : ℕ) (field : List ℕ) (n : ℕ) → number_to greatest field ≡ Some n → n ≤ greatest
number_small greatest field n e =
    let found = cond_some (leb 1 (length field) && list_all is_digit field && leb (number_of field) greatest) (number_of field) n e in
    subst (λ k. k ≤ greatest) found.1
    (leb-true (number_of field) greatest (and_back (leb 1 (length field) && list_all is_digit field) (leb (number_of field) greatest) found.0))

more_variables : (n m : ℕ) → n ≤ m → (c : Command) → IsCommand n c → IsCommand m c
more_variables n m l (Malloc var size site) is = (omega arith, is.1)
more_variables n m l (Calloc var count size site) is = (omega arith, is.1)
more_variables n m l (Realloc var from size site) (var_is, from_is, site_is) = (omega arith, omega arith, site_is)
more_variables n m l (Reallocarray var from count size site) (var_is, from_is, site_is) = (omega arith, omega arith, site_is)
more_variables n m l (Free var) is = omega arith
more_variables n m l (Load var off) is = omega arith
more_variables n m l (Store var off byte) is = omega arith

stands : (n var from : ℕ) (r : Request) → var < n → from < n → IsCommand n (command_of var from r)
stands n var from (request.Malloc size) l k = (l, refl)
stands n var from (request.Calloc count size) l k = (l, refl)
stands n var from (request.Realloc size) l k = (l, k, refl)
stands n var from (request.Reallocarray count size) l k = (l, k, refl)
stands n var from request.Free l k = l
stands n var from (request.Load off) l k = l
stands n var from (request.Store off byte) l k = l

place_le : (names : List (List ℕ)) (name : List ℕ) → place_of names name ≤ length names
place_le names name = prefix_len-le-length _ names

-- no name is lost, and the place is below the number of names then
names_grow : (b : Bool) (names : List (List ℕ)) (name : List ℕ) → length names ≤ length (cond b (names ++ name ∷ []) names)
names_grow true names name = grind (arith, common_steps)
names_grow false names name = omega arith

place_stands : (place : ℕ) (names : List (List ℕ)) (name : List ℕ) → place ≤ length names → place < length (cond (eqb place (length names)) (names ++ name ∷ []) names)
place_stands place names name l = grind (arith, nat_tests, common_steps)

first_grows : (names : List (List ℕ)) (name : List ℕ) → length names ≤ length (with_name names name)
first_grows names name = names_grow (eqb (place_of names name) (length names)) names name

first_stands : (names : List (List ℕ)) (name : List ℕ) → place_of names name < length (with_name names name)
first_stands names name = place_stands (place_of names name) names name (place_le names name)

second_grows : (names : List (List ℕ)) (from : Option (List ℕ)) → length names ≤ length (with_second names from)
second_grows names None = omega arith
second_grows names (Some from) = first_grows names from

second_stands : (names : List (List ℕ)) (var : ℕ) (from : Option (List ℕ)) → var < length names → second_place names var from < length (with_second names from)
second_stands names var None l = l
second_stands names var (Some from) l = first_stands names from

command_stands : (names : List (List ℕ)) (line : Line) → IsCommand (length (names_with names line)) (command_on names line)
command_stands names line =
    let one : List (List ℕ) = with_name names line.name in
    let var : ℕ = place_of names line.name in
    let first : var < length one = first_stands names line.name in
    let more : length one ≤ length (names_with names line) = second_grows one line.from in
    stands (length (names_with names line)) var (second_place one var line.from) line.request (omega arith) (second_stands one var line.from first)

with_command_keeps : (s : ScriptText) (line : Line) (t : ScriptText) → with_command s line ≡ Some t → IsScript s → IsScript t
with_command_keeps s line t e is =
    let one : List (List ℕ) = with_name s.names line.name in
    let names : List (List ℕ) = names_with s.names line in
    let first : length s.names ≤ length one = first_grows s.names line.name in
    let second : length one ≤ length names = second_grows one line.from in
    let grown : length s.names ≤ length names = omega arith in
    let command : Command = command_on s.names line in
    let found = cond_some (ltb (length s.commands) most_commands && leb (length names) most_names) _ t e in
    let short : length s.commands < most_commands = ltb-true (length s.commands) most_commands (and_front (ltb (length s.commands) most_commands) (leb (length names) most_names) found.0) in
    let few : length names ≤ most_names = leb-true (length names) most_names (and_back (ltb (length s.commands) most_commands) (leb (length names) most_names) found.0) in
    subst IsScript found.1 (record {
      name = is.name;
      short = omega (arith, length-append s.commands (command ∷ []));
      few_names = few;
      each = All-push (IsCommand (length names)) s.commands command
          (All-weaker (IsCommand (length s.names)) (IsCommand (length names)) (more_variables (length s.names) (length names) grown) s.commands is.each)
          (command_stands s.names line);
    })

with_line_keeps : (s : ScriptText) (o : Option Line) (t : ScriptText) → option_and_then (with_command s) o ≡ Some t → IsScript s → IsScript t
with_line_keeps s (Some line) t e is = with_command_keeps s line t e is
with_line_keeps s None t e is = cc

ok_is : (x y : ScriptText) (r : Result ScriptText ℕ) → r ≡ Ok x → r ≡ Ok y → x ≡ y
ok_is x y r a b = cc

ended_keeps : (number : ℕ) (s : ScriptText) (lines : List (List ℕ)) (t : ScriptText) → ended number s lines ≡ Ok t → IsScript s → IsScript t
ended_keeps number s [] t e is = subst IsScript (ok_is s t (Ok s) refl e) is
ended_keeps number s (line ∷ lines) t e is = cc

-- one line, by what becomes of the lines after it
step_keeps : (b : Bool) (number : ℕ) (end : Result ScriptText ℕ) (o : Option ScriptText) (next : ScriptText → Result ScriptText ℕ) (t : ScriptText)
    → (end ≡ Ok t → IsScript t) → ((s : ScriptText) → o ≡ Some s → next s ≡ Ok t → IsScript t)
    → cond b end (option_map_or next o (Err number)) ≡ Ok t → IsScript t
step_keeps true number end o next t at_end goes e = at_end e
step_keeps false number end (Some s) next t at_end goes e = goes s refl e
step_keeps false number end None next t at_end goes e = cc

script_from_keeps : (number : ℕ) (s : ScriptText) (lines : List (List ℕ)) (t : ScriptText) → IsScript s → script_from number s lines ≡ Ok t → IsScript t
script_from_keeps number s [] t is e = cc
script_from_keeps number s (line ∷ lines) t is e =
    step_keeps _ number (ended number s lines) (with_line s (fields_of line)) (λ longer. script_from (number + 1) longer lines) t
    (λ end. ended_keeps number s lines t end is)
    (λ longer has rest. script_from_keeps (number + 1) longer lines t (with_line_keeps s (line_of (fields_of line)) longer has is) rest)
    e

title_named : (words : List (List ℕ)) (name : List ℕ) → title_of words ≡ Some name → is_name name ≡ true
title_named [] name e = cc
title_named (k ∷ []) name e = cc
title_named (k ∷ n ∷ []) name e =
    let found = cond_some (bytes_eq k (codes "script") && is_name n) n name e in
    subst (λ title. is_name title ≡ true) found.1 (and_back (bytes_eq k (codes "script")) (is_name n) found.0)
title_named (k ∷ n ∷ m ∷ words) name e = cc

titled_is : (name : List ℕ) → is_name name ≡ true → IsScript (titled name)
titled_is name named = record { name = named; short = omega arith; few_names = omega arith; each = All-nil (IsCommand 0) }

titled_keeps : (o : Option (List ℕ)) (lines : List (List ℕ)) (t : ScriptText) → ((name : List ℕ) → o ≡ Some name → is_name name ≡ true)
    → option_map_or (λ name. script_from 2 (titled name) lines) o (Err 1) ≡ Ok t → IsScript t
titled_keeps (Some name) lines t named e = script_from_keeps 2 (titled name) lines t (titled_is name (named name refl)) e
titled_keeps None lines t named e = cc

lines_keep : (lines : List (List ℕ)) (t : ScriptText) → script_of_lines lines ≡ Ok t → IsScript t
lines_keep [] t e = cc
lines_keep (line ∷ lines) t e = titled_keeps (title_of (fields_of line)) lines t (title_named (fields_of line)) e

pub accepted_is_script : (text : List ℕ) (t : ScriptText) → script_of text ≡ Ok t → IsScript t
unfolding script_of
accepted_is_script text t e = lines_keep (text_lines text) t e
