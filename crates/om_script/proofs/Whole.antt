-- Line by line, reading comes to what the whole text says.
use Rattle.std.proofs.Common.{◌≡◌, refl, sym, ap, ◌∙◌, subst, Bool, true, false, not, cond, ◌||◌, List, [], ◌∷◌, ◌++◌, ℕ, ◌+◌, length, length-append, append_assoc, append-nil, map, zero-add, arith, Option, Some, None, Result, Ok, Err, slice_get}
use Rattle.std.specs.List.{filter_map, flat_map, take_while, cons_option}
use Rattle.std.specs.Option.{option_map, option_map_or}
use Rattle.std.proofs.lemmas.Option.{same_Some}
use Rattle.std.proofs.lemmas.List.{map-append}
use Rattle.std.proofs.lemmas.List.Sums.{fold-append, sum_by-append}
use Rattle.std.proofs.lemmas.List.Elements.{filter_map-append}
use Rattle.std.proofs.lemmas.List.Sums.{take_while-cons}
use Rattle.om_script.specs.declared.command.Command.{Command}
use Rattle.om_script.specs.declared.keyword.Verb.{Verb}
use Rattle.om_script.specs.declared.keyword.Verb.TheVariants as verb
use Rattle.om_script.specs.declared.keyword.Kind.{Kind}
use Rattle.om_script.specs.declared.keyword.Kind.TheVariants.{Name}
use Rattle.om_script.specs.declared.keyword.Keyword.{Keyword}
use Rattle.om_script.specs.declared.keyword.Keyword.TheVariants as keyword
use Rattle.om_script.specs.declared.reader.Current.{Current}
use Rattle.om_script.specs.Lines.{text_lines, is_ascii_line, words_of}
use Rattle.om_script.specs.Keywords.{keyword_of, kinds_of, kinds_behind, fit, names_in, with_name, with_names, word_at, variable_at, command_in, any_word, is_too_large}
use Rattle.om_script.specs.Script.{ScriptText}
use Rattle.om_script.specs.Reading.{Reading}
use Rattle.om_script.specs.Standing.{Said, said_by, said_on, said_in, title_of, inside_by, names_by, is_command, is_script, is_end, Standing, standing_after, is_misplaced, limit_of, refusal_of, refusal_by, refusal, unended, syntax_error, number_too_large, not_ascii, unknown_command}
use Rattle.om_script.specs.Scripts.{Asked, asked_by, asked_in, scripts_of, first_refusal, begins_script, last_begin, scripts_in}
use Rattle.om_script.specs.Steps.{start, is_inside, standing_of, with_command, begun_after, ended_after, command_after, keyword_after, said_after, unless_refused, limited_step, keyword_step, step, ended, followed, go_on}
use Rattle.om_script.proofs.Places.{place-with_names, name_added}

-- ---- what one line adds

said_more : (before : List (List ℕ)) (line : List ℕ) → said_in (before ++ line ∷ []) ≡ said_in before ++ cons_option (said_on line) []
said_more before line = filter_map-append said_on before (line ∷ [])

-- what stands after one line more
abbrev standing_by : Standing → Said → Standing
standing_by s said = record {
  titles = s.titles ++ cons_option (title_of said) [];
  inside = inside_by s.inside said.keyword;
  commands = s.commands + cond (is_command said.keyword) 1 0;
  names = names_by s.names said.keyword said.words;
}

standing-same : (t u : List (List ℕ)) (i j : Bool) (c d : ℕ) (n m : List (List ℕ)) → t ≡ u → i ≡ j → c ≡ d → n ≡ m →
    ◌≡◌ {A = Standing} (record { titles = t; inside = i; commands = c; names = n }) (record { titles = u; inside = j; commands = d; names = m })
standing-same t u i j c d n m te ie ce ne = cc

standing_more : (before : List Said) (said : Said) → standing_after (before ++ said ∷ []) ≡ standing_by (standing_after before) said
standing_more before said =
    let one : ℕ = cond (is_command said.keyword) 1 0 in
    let titles : (standing_after (before ++ said ∷ [])).titles ≡ (standing_by (standing_after before) said).titles = filter_map-append title_of before (said ∷ []) in
    let inside : (standing_after (before ++ said ∷ [])).inside ≡ (standing_by (standing_after before) said).inside = fold-append (λ (i : Bool) (s : Said). inside_by i s.keyword) false before (said ∷ []) in
    let commands : (standing_after (before ++ said ∷ [])).commands ≡ (standing_by (standing_after before) said).commands =
    sum_by-append (λ (s : Said). cond (is_command s.keyword) 1 0) before (said ∷ []) ∙ ap (λ n. (standing_after before).commands + n) (zero-add one) in
    let names : (standing_after (before ++ said ∷ [])).names ≡ (standing_by (standing_after before) said).names = fold-append (λ (ns : List (List ℕ)) (s : Said). names_by ns s.keyword s.words) [] before (said ∷ []) in
    standing-same _ _ _ _ _ _ _ _ titles inside commands names

-- the reading stands where the lines before stand
abbrev FollowsSaid : Reading → Option Said → Standing → Type 0
FollowsSaid r None s = standing_of r ≡ s
FollowsSaid r (Some said) s = standing_of r ≡ standing_by s said

-- ---- a line that isn't refused

-- where it has this keyword, nothing is wrong with its place and its words
pub placed : (s : Standing) (k : Keyword) (words : List (List ℕ)) → refusal_of s k words ≡ None → is_misplaced s k ≡ false
placed s k words e = by (is_misplaced s k) (not (fit (kinds_behind k) words)) (any_word is_too_large (kinds_behind k) words) e
  where
    by : (m f l : Bool) → cond (m || f) (Some syntax_error) (cond l (Some number_too_large) (limit_of s k words)) ≡ None → m ≡ false
    by true f l e' = cc
    by false f l e' = refl

pub fitting : (s : Standing) (k : Keyword) (words : List (List ℕ)) → refusal_of s k words ≡ None → fit (kinds_behind k) words ≡ true
fitting s k words e = by (is_misplaced s k) (fit (kinds_behind k) words) (any_word is_too_large (kinds_behind k) words) e
  where
    by : (m f l : Bool) → cond (m || not f) (Some syntax_error) (cond l (Some number_too_large) (limit_of s k words)) ≡ None → f ≡ true
    by true f l e' = cc
    by false true l e' = refl
    by false false l e' = cc

pub not_true : (b : Bool) → not b ≡ false → b ≡ true
not_true true e = refl
not_true false e = cc

-- the reading that follows stands there
abbrev stands_after : Reading → ℕ → Keyword → List (List ℕ) → Type 0
stands_after r line k words = standing_of (keyword_after r line k words) ≡ standing_by (standing_of r) (record { keyword = k; words = words })

script_stands : (r : Reading) (line : ℕ) (words : List (List ℕ)) → is_inside r.current ≡ false → stands_after r line keyword.Script words
script_stands r line words e = by r.current e
  where
    by : (c : Option Current) → is_inside c ≡ false →
        standing_of (begun_after (record r { current = c }) line (word_at words 0)) ≡ standing_by (standing_of (record r { current = c })) (record { keyword = keyword.Script; words = words })
    by None e' = standing-same _ _ _ _ _ _ _ _ refl refl (omega arith) refl
    by (Some c) e' = cc

end_stands : (r : Reading) (line : ℕ) (words : List (List ℕ)) → is_inside r.current ≡ true → stands_after r line keyword.End words
end_stands r line words e = by r.current e
  where
    by : (c : Option Current) → is_inside c ≡ true →
        standing_of (ended_after (record r { current = c }) c) ≡ standing_by (standing_of (record r { current = c })) (record { keyword = keyword.End; words = words })
    by None e' = cc
    by (Some c) e' = standing-same _ _ _ _ _ _ _ _
        (map-append (λ (s : ScriptText). s.name) r.done (c.script ∷ []) ∙ sym (append-nil _)) refl (omega arith) refl

command_stands : (r : Reading) (line : ℕ) (v : Verb) (words : List (List ℕ)) → is_inside r.current ≡ true → stands_after r line (keyword.Command v) words
command_stands r line v words e = by r.current e
  where
    by : (c : Option Current) → is_inside c ≡ true →
        standing_of (command_after (record r { current = c }) c v words) ≡ standing_by (standing_of (record r { current = c })) (record { keyword = keyword.Command v; words = words })
    by None e' = cc
    by (Some c) e' = standing-same _ _ _ _ _ _ _ _ (sym (append-nil _)) refl refl refl

keyword_stands : (r : Reading) (line : ℕ) (k : Keyword) (words : List (List ℕ)) → is_misplaced (standing_of r) k ≡ false → stands_after r line k words
keyword_stands r line keyword.Script words e = script_stands r line words e
keyword_stands r line keyword.End words e = end_stands r line words (not_true (is_inside r.current) e)
keyword_stands r line (keyword.Command v) words e = command_stands r line v words (not_true (is_inside r.current) e)

-- ---- the scripts that a reading comes to

-- the script with these commands behind its own
abbrev extended : ScriptText → List Asked → ScriptText
extended script asked =
    let names = with_names script.names (flat_map (λ a. names_in (kinds_of a.verb) a.words) asked) in
    record { name = script.name; names = names; commands = script.commands ++ map (λ a. command_in names a.verb a.words) asked }

abbrev finished_from : List ScriptText → Option Current → List Said → List ScriptText
finished_from scripts None lines = scripts ++ scripts_of lines
finished_from scripts (Some current) lines = scripts ++ extended current.script (asked_in lines) ∷ scripts_of lines

abbrev finished : Reading → List Said → List ScriptText
finished r lines = finished_from r.done r.current lines

asked_none : (k : Keyword) (words : List (List ℕ)) (lines : List Said) → is_end k ≡ true → asked_in (record { keyword = k; words = words } ∷ lines) ≡ []
asked_none k words lines e =
    ap (filter_map (λ (s : Said). asked_by s.keyword s.words)) (take_while-cons (λ (s : Said). not (is_end s.keyword)) (record { keyword = k; words = words }) lines)
    ∙ ap (λ t. filter_map (λ (s : Said). asked_by s.keyword s.words) (cond (not t) (record { keyword = k; words = words } ∷ take_while (λ (s : Said). not (is_end s.keyword)) lines) [])) e

asked_more : (k : Keyword) (words : List (List ℕ)) (lines : List Said) → is_end k ≡ false →
    asked_in (record { keyword = k; words = words } ∷ lines) ≡ cons_option (asked_by k words) (asked_in lines)
asked_more k words lines e =
    ap (filter_map (λ (s : Said). asked_by s.keyword s.words)) (take_while-cons (λ (s : Said). not (is_end s.keyword)) (record { keyword = k; words = words }) lines)
    ∙ ap (λ t. filter_map (λ (s : Said). asked_by s.keyword s.words) (cond (not t) (record { keyword = k; words = words } ∷ take_while (λ (s : Said). not (is_end s.keyword)) lines) [])) e

-- ---- a command keeps its places when names come behind its own

-- the variable in this place is the same with more names
stable : (names more : List (List ℕ)) (kinds : List Kind) (words : List (List ℕ)) (i : ℕ) → fit kinds words ≡ true → slice_get kinds i ≡ Some Name →
    let now = with_names names (names_in kinds words) in variable_at (with_names now more) words i ≡ variable_at now words i
stable names more kinds words i f e = place-with_names (with_names names (names_in kinds words)) more (word_at words i) (name_added names kinds words i f e)

command_keeps : (names more : List (List ℕ)) (v : Verb) (words : List (List ℕ)) → fit (kinds_of v) words ≡ true →
    let now = with_names names (names_in (kinds_of v) words) in command_in (with_names now more) v words ≡ command_in now v words
command_keeps names more verb.Malloc words f = let a = stable names more (kinds_of verb.Malloc) words 0 f refl in cc
command_keeps names more verb.Calloc words f = let a = stable names more (kinds_of verb.Calloc) words 0 f refl in cc
command_keeps names more verb.Realloc words f = let a = stable names more (kinds_of verb.Realloc) words 0 f refl in let b = stable names more (kinds_of verb.Realloc) words 1 f refl in cc
command_keeps names more verb.Reallocarray words f = let a = stable names more (kinds_of verb.Reallocarray) words 0 f refl in let b = stable names more (kinds_of verb.Reallocarray) words 1 f refl in cc
command_keeps names more verb.Free words f = let a = stable names more (kinds_of verb.Free) words 0 f refl in cc
command_keeps names more verb.Load words f = let a = stable names more (kinds_of verb.Load) words 0 f refl in cc
command_keeps names more verb.Store words f = let a = stable names more (kinds_of verb.Store) words 0 f refl in cc
command_keeps names more verb.Let words f = let a = stable names more (kinds_of verb.Let) words 0 f refl in cc
command_keeps names more verb.Add words f = let a = stable names more (kinds_of verb.Add) words 0 f refl in let b = stable names more (kinds_of verb.Add) words 1 f refl in cc
command_keeps names more verb.Post words f = let a = stable names more (kinds_of verb.Post) words 1 f refl in cc
command_keeps names more verb.Take words f = let a = stable names more (kinds_of verb.Take) words 0 f refl in cc
command_keeps names more verb.Phase words f = refl

script-same : (name : List ℕ) (n m : List (List ℕ)) (c d : List Command) → n ≡ m → c ≡ d →
    ◌≡◌ {A = ScriptText} (record { name = name; names = n; commands = c }) (record { name = name; names = m; commands = d })
script-same name n m c d ne ce = cc

-- a command that was added, and then the rest, are the command and the rest
extended_more : (script : ScriptText) (v : Verb) (words : List (List ℕ)) (asked : List Asked) → fit (kinds_of v) words ≡ true →
    extended script (record { verb = v; words = words } ∷ asked) ≡ extended (with_command script v words) asked
extended_more script v words asked f =
    let now = with_names script.names (names_in (kinds_of v) words) in
    let rest = flat_map (λ (a : Asked). names_in (kinds_of a.verb) a.words) asked in
    let names : with_names script.names (names_in (kinds_of v) words ++ rest) ≡ with_names now rest = fold-append with_name script.names (names_in (kinds_of v) words) rest in
    let all = λ (ns : List (List ℕ)). map (λ (a : Asked). command_in ns a.verb a.words) asked in
    let first : command_in (with_names now rest) v words ≡ command_in now v words = command_keeps script.names rest v words f in
    script-same script.name _ _ _ _ names
    (ap (λ ns. script.commands ++ command_in ns v words ∷ all ns) names
    ∙ ap (λ c. script.commands ++ c ∷ all (with_names now rest)) first
    ∙ sym (append_assoc script.commands (command_in now v words ∷ []) (all (with_names now rest))))

extended_none : (script : ScriptText) → extended script [] ≡ script
extended_none script = script-same script.name _ _ _ _ refl (append-nil script.commands)

-- ---- the scripts stay those of the lines, whichever have been read

script_finishes : (r : Reading) (line : ℕ) (words : List (List ℕ)) (lines : List Said) → is_inside r.current ≡ false →
    finished r (record { keyword = keyword.Script; words = words } ∷ lines) ≡ finished (keyword_after r line keyword.Script words) lines
script_finishes r line words lines e = by r.current e
  where
    by : (c : Option Current) → is_inside c ≡ false →
        finished_from r.done c (record { keyword = keyword.Script; words = words } ∷ lines) ≡ finished (begun_after r line (word_at words 0)) lines
    by None e' = refl
    by (Some c) e' = cc

end_finishes : (r : Reading) (line : ℕ) (words : List (List ℕ)) (lines : List Said) → is_inside r.current ≡ true →
    finished r (record { keyword = keyword.End; words = words } ∷ lines) ≡ finished (keyword_after r line keyword.End words) lines
end_finishes r line words lines e = by r.current e
  where
    by : (c : Option Current) → is_inside c ≡ true →
        finished_from r.done c (record { keyword = keyword.End; words = words } ∷ lines) ≡ finished (ended_after (record r { current = c }) c) lines
    by None e' = cc
    by (Some c) e' =
        ap (λ asked. r.done ++ extended c.script asked ∷ scripts_of lines) (asked_none keyword.End words lines refl)
        ∙ ap (λ script. r.done ++ script ∷ scripts_of lines) (extended_none c.script)
        ∙ sym (append_assoc r.done (c.script ∷ []) (scripts_of lines))

command_finishes : (r : Reading) (line : ℕ) (v : Verb) (words : List (List ℕ)) (lines : List Said) → is_inside r.current ≡ true → fit (kinds_of v) words ≡ true →
    finished r (record { keyword = keyword.Command v; words = words } ∷ lines) ≡ finished (keyword_after r line (keyword.Command v) words) lines
command_finishes r line v words lines e f = by r.current e
  where
    by : (c : Option Current) → is_inside c ≡ true →
        finished_from r.done c (record { keyword = keyword.Command v; words = words } ∷ lines) ≡ finished (command_after (record r { current = c }) c v words) lines
    by None e' = cc
    by (Some c) e' =
        ap (λ asked. r.done ++ extended c.script asked ∷ scripts_of lines) (asked_more (keyword.Command v) words lines refl)
        ∙ ap (λ script. r.done ++ script ∷ scripts_of lines) (extended_more c.script v words (asked_in lines) f)

keyword_finishes : (r : Reading) (line : ℕ) (k : Keyword) (words : List (List ℕ)) (lines : List Said) → is_misplaced (standing_of r) k ≡ false → fit (kinds_behind k) words ≡ true →
    finished r (record { keyword = k; words = words } ∷ lines) ≡ finished (keyword_after r line k words) lines
keyword_finishes r line keyword.Script words lines e f = script_finishes r line words lines e
keyword_finishes r line keyword.End words lines e f = end_finishes r line words lines (not_true (is_inside r.current) e)
keyword_finishes r line (keyword.Command v) words lines e f = command_finishes r line v words lines (not_true (is_inside r.current) e) f

-- ---- the line of a script that hasn't ended

last_begin-append : (found number : ℕ) (before : List (List ℕ)) (line : List ℕ) →
    last_begin found number (before ++ line ∷ []) ≡ cond (begins_script line) (number + length before) (last_begin found number before)
last_begin-append found number [] line = ap (λ n. cond (begins_script line) n found) (omega arith)
last_begin-append found number (first ∷ before) line =
    last_begin-append (cond (begins_script first) number found) (number + 1) before line
    ∙ ap (λ n. cond (begins_script line) n (last_begin (cond (begins_script first) number found) (number + 1) before)) (omega arith)

-- the script that hasn't ended began on the last line that begins one
abbrev BeganOn : ℕ → Option Current → Type 0
BeganOn line None = Unit {0}
BeganOn line (Some current) = current.line ≡ line

pub record Follows (before : List (List ℕ)) (r : Reading) : Type 0 where
  pub stands : standing_of r ≡ standing_after (said_in before)
  pub began : BeganOn (last_begin 0 1 before) r.current

-- ---- one line more

keyword_found : (s : Standing) (words : List (List ℕ)) (said : Said) → refusal_by s words ≡ None → said_by words ≡ Some said → refusal_of s said.keyword said.words ≡ None
keyword_found s [] said e is = cc
keyword_found s (word ∷ words) said e is = by (keyword_of word) e is
  where
    by : (k : Option Keyword) → option_map_or (λ keyword. refusal_of s keyword words) k (Some unknown_command) ≡ None
        → option_map (λ keyword. record { keyword = keyword; words = words }) k ≡ Some said → refusal_of s said.keyword said.words ≡ None
    by None e' is' = cc
    by (Some keyword) e' is' = let same : record { keyword = keyword; words = words } ≡ said = same_Some _ _ is' in subst (λ (d : Said). refusal_of s d.keyword d.words ≡ None) same e'

-- a line that isn't refused says nothing, or what isn't refused
pub line_found : (s : Standing) (line : List ℕ) (said : Said) → refusal s line ≡ None → said_on line ≡ Some said → refusal_of s said.keyword said.words ≡ None
line_found s line said e is = by (is_ascii_line line) e
  where
    by : (t : Bool) → cond t (refusal_by s (words_of line)) (Some not_ascii) ≡ None → refusal_of s said.keyword said.words ≡ None
    by true e' = keyword_found s (words_of line) said e' is
    by false e' = cc

began_kept : (line found number : ℕ) (r : Reading) (k : Keyword) (words : List (List ℕ)) → number ≡ line → BeganOn found r.current →
    BeganOn (cond (is_script k) number found) (keyword_after r line k words).current
began_kept line found number r keyword.Script words n b = sym n
began_kept line found number r keyword.End words n b = by r.current
  where
    by : (c : Option Current) → BeganOn found (ended_after (record r { current = c }) c).current
    by None = tt
    by (Some c) = tt
began_kept line found number r (keyword.Command v) words n b = by r.current b
  where
    by : (c : Option Current) → BeganOn found c → BeganOn found (command_after (record r { current = c }) c v words).current
    by None b' = tt
    by (Some c) b' = b'

said_is : (before : List (List ℕ)) (line : List ℕ) (o : Option Said) → said_on line ≡ o → said_in (before ++ line ∷ []) ≡ said_in before ++ cons_option o []
said_is before line o is = said_more before line ∙ ap (λ p. said_in before ++ cons_option p []) is

begin_is : (before : List (List ℕ)) (line : List ℕ) (o : Option Said) → said_on line ≡ o →
    last_begin 0 1 (before ++ line ∷ []) ≡ cond (option_map_or (λ (s : Said). is_script s.keyword) o false) (1 + length before) (last_begin 0 1 before)
begin_is before line o is = last_begin-append 0 1 before line ∙ ap (λ p. cond (option_map_or (λ (s : Said). is_script s.keyword) p false) (1 + length before) (last_begin 0 1 before)) is

follows_more : (before : List (List ℕ)) (r : Reading) (line : List ℕ) → Follows before r → refusal (standing_of r) line ≡ None →
    Follows (before ++ line ∷ []) (said_after r (length before + 1) (said_on line))
follows_more before r line f e = by (said_on line) refl
  where
    by : (o : Option Said) → said_on line ≡ o → Follows (before ++ line ∷ []) (said_after r (length before + 1) o)
    by None is = record {
      stands = f.stands ∙ ap standing_after (sym (said_is before line None is ∙ append-nil (said_in before)));
      began = subst (λ n. BeganOn n r.current) (sym (begin_is before line None is)) f.began;
    }
    by (Some said) is =
        let quiet : refusal_of (standing_of r) said.keyword said.words ≡ None = line_found (standing_of r) line said e is in
        record {
          stands = keyword_stands r (length before + 1) said.keyword said.words (placed (standing_of r) said.keyword said.words quiet)
              ∙ ap (λ s. standing_by s said) f.stands ∙ sym (standing_more (said_in before) said) ∙ ap standing_after (sym (said_is before line (Some said) is));
          began = subst (λ n. BeganOn n (keyword_after r (length before + 1) said.keyword said.words).current) (sym (begin_is before line (Some said) is))
              (began_kept (length before + 1) (last_begin 0 1 before) (1 + length before) r said.keyword said.words (omega arith) f.began);
        }

finished_more : (r : Reading) (line : ℕ) (text : List ℕ) (lines : List (List ℕ)) → refusal (standing_of r) text ≡ None →
    finished r (said_in (text ∷ lines)) ≡ finished (said_after r line (said_on text)) (said_in lines)
finished_more r line text lines e = by (said_on text) refl
  where
    by : (o : Option Said) → said_on text ≡ o → finished r (cons_option o (said_in lines)) ≡ finished (said_after r line o) (said_in lines)
    by None is = refl
    by (Some said) is =
        let quiet : refusal_of (standing_of r) said.keyword said.words ≡ None = line_found (standing_of r) text said e is in
        keyword_finishes r line said.keyword said.words (said_in lines) (placed (standing_of r) said.keyword said.words quiet) (fitting (standing_of r) said.keyword said.words quiet)

-- ---- all lines

-- what is said of lines of which none is refused
abbrev judged : List (List ℕ) → List ScriptText → Result (List ScriptText) (ℕ × ℕ)
judged lines scripts = cond (standing_after (said_in lines)).inside (Err (last_begin 0 1 lines, unended)) (Ok scripts)

at_end : (before : List (List ℕ)) (r : Reading) → Follows before r → ended r ≡ judged before (finished r [])
at_end before r f =
    by r.current f.began ∙ ap (λ (s : Standing). cond s.inside (Err (last_begin 0 1 before, unended)) (Ok (finished r []))) f.stands
  where
    by : (c : Option Current) → BeganOn (last_begin 0 1 before) c →
        option_map_or {U = Result (List ScriptText) (ℕ × ℕ)} (λ (current : Current). Err (current.line, unended)) c (Ok r.done) ≡ cond (is_inside c) (Err (last_begin 0 1 before, unended)) (Ok (finished_from r.done c []))
    by None b = ap Ok (sym (append-nil r.done))
    by (Some c) b = ap (λ n. Err (n, unended)) b

goes_on : (lines before : List (List ℕ)) (r : Reading) → Follows before r →
    go_on r (length before + 1) lines ≡ option_map_or Err (first_refusal before lines) (judged (before ++ lines) (finished r (said_in lines)))
goes_on [] before r f = at_end before r f ∙ ap (λ all. judged all (finished r [])) (sym (append-nil before))
goes_on (line ∷ lines) before r f =
    by (refusal (standing_of r) line) refl (λ is. goes_on lines (before ++ line ∷ []) (said_after r (length before + 1) (said_on line)) (follows_more before r line f is))
    ∙ ap (λ s. option_map_or Err (option_map_or (λ number. Some (length before + 1, number)) (refusal s line) (first_refusal (before ++ line ∷ []) lines)) (judged (before ++ line ∷ lines) (finished r (said_in (line ∷ lines))))) f.stands
  where
    by : (o : Option ℕ) → refusal (standing_of r) line ≡ o →
        (refusal (standing_of r) line ≡ None → go_on (said_after r (length before + 1) (said_on line)) (length (before ++ line ∷ []) + 1) lines
        ≡ option_map_or Err (first_refusal (before ++ line ∷ []) lines) (judged ((before ++ line ∷ []) ++ lines) (finished (said_after r (length before + 1) (said_on line)) (said_in lines)))) →
        followed (length before + 1) (unless_refused o (said_after r (length before + 1) (said_on line))) (λ after. go_on after (length before + 1 + 1) lines)
        ≡ option_map_or Err (option_map_or (λ number. Some (length before + 1, number)) o (first_refusal (before ++ line ∷ []) lines)) (judged (before ++ line ∷ lines) (finished r (said_in (line ∷ lines))))
    by (Some number) is later = refl
    by None is later =
        let after : Reading = said_after r (length before + 1) (said_on line) in
        let count : length (before ++ line ∷ []) ≡ length before + 1 = length-append before (line ∷ []) in
        ap (λ n. go_on after (n + 1) lines) (sym count) ∙ later is
        ∙ ap (λ all. option_map_or Err (first_refusal (before ++ line ∷ []) lines) (judged all (finished after (said_in lines)))) (append_assoc before (line ∷ []) lines)
        ∙ ap (λ scripts. option_map_or Err (first_refusal (before ++ line ∷ []) lines) (judged (before ++ line ∷ lines) scripts)) (sym (finished_more r (length before + 1) line lines is))

nothing_read : Follows [] start
nothing_read = record { stands = refl; began = tt }

-- what reading from the first line on gives is what the text says
pub reads_all : (text : List ℕ) → go_on start 1 (text_lines text) ≡ scripts_in text
unfolding scripts_in
reads_all text = goes_on (text_lines text) [] start nothing_read

-- ---- where the reading stops

pub refused_here : (text rest line more : List ℕ) (r : Reading) (number refused : ℕ) → go_on r number (text_lines rest) ≡ go_on start 1 (text_lines text) → text_lines rest ≡ line ∷ text_lines more → step r number line ≡ Err refused →
    scripts_in text ≡ Err (number, refused)
refused_here text rest line more r number refused same lines e =
    sym (reads_all text) ∙ sym same ∙ ap (go_on r number) lines ∙ ap (λ taken. followed number taken (λ next. go_on next (number + 1) (text_lines more))) e

pub ends_here : (text rest : List ℕ) (r : Reading) (number : ℕ) → go_on r number (text_lines rest) ≡ go_on start 1 (text_lines text) → text_lines rest ≡ [] → scripts_in text ≡ ended r
ends_here text rest r number same lines = sym (reads_all text) ∙ sym same ∙ ap (go_on r number) lines

-- a line that is well formed is refused for its limits alone
pub limited : (r : Reading) (line : ℕ) (k : Keyword) (words : List (List ℕ)) → is_misplaced (standing_of r) k ≡ false → fit (kinds_behind k) words ≡ true → any_word is_too_large (kinds_behind k) words ≡ false →
    limited_step r line k words ≡ keyword_step r line k words
limited r line k words p f l =
    by (is_misplaced (standing_of r) k) (fit (kinds_behind k) words) (any_word is_too_large (kinds_behind k) words) p f l
  where
    by : (m t u : Bool) → m ≡ false → t ≡ true → u ≡ false →
        limited_step r line k words ≡ unless_refused (cond (m || not t) (Some syntax_error) (cond u (Some number_too_large) (limit_of (standing_of r) k words))) (keyword_after r line k words)
    by true t u p' f' l' = cc
    by false false u p' f' l' = cc
    by false true true p' f' l' = cc
    by false true false p' f' l' = refl
