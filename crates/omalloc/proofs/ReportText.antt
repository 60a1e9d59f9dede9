-- Lines that are written one by one, and the whole output in the pieces in which it is written.
use Rattle.std.proofs.Common.{◌≡◌, ℕ, ◌+◌, Option, Some, List, [], ◌∷◌, ◌++◌, length, map, take, drop, Result, Ok, Err, sym, subst, ◌∙◌, ap, append_assoc, append-nil, codes}
use Rattle.std.specs.List.{flat_map, slice_get, enumerate_from, position}
use Rattle.std.specs.Fmt.{decimal}
use Rattle.std.proofs.lemmas.List.{take-append-drop}
use Rattle.std.proofs.lemmas.List.Concat.{flat_map-append}
use Rattle.std.proofs.lemmas.List.Folds.{flat_map-map}
use Rattle.om_io.specs.Buffered.{Adds}
use Rattle.om_io.specs.BufferedLaws.{Adds-both, Adds-longer}
use Rattle.om_io.specs.declared.buffered.BufferedSink.{BufferedSink}
use Rattle.om_io.specs.declared.sink.WriteStop.{WriteStop}
use Rattle.om_model.proofs.Lists.{flat_map_next}
use Rattle.om_model.specs.declared.entry.Entry.{Entry}
use Rattle.om_model.specs.declared.reply.Outcome.{Outcome}
use Rattle.om_model.specs.Output.Content.{Told}
use Rattle.om_model.specs.Output.Head.{Head}
use Rattle.om_model.specs.Output.Text.{head_lines, pool_title, pool_lines, board_lines, script_lines, entry_text, entry_line, outcome_line, numbered_line, ending_line, ended_line, text_of}
use Rattle.om_model.specs.Scripts.Outcomes.{is_fault}
use Rattle.omalloc.specs.Report.{content, front_of, back_of, title_of, titles_of, end_of}

-- ---- line by line

-- the lines of the items so far, and that of the next
pub Adds-next : {K X : Type 0} (written : K → Option (List ℕ)) (faults : K → ℕ) (old middle new : BufferedSink K)
    (line : X → List ℕ) (xs : List X) (i : ℕ) (x : X) → slice_get xs i ≡ Some x →
    Adds written faults old middle (flat_map line (take i xs)) (Ok tt) → Adds written faults middle new (line x) (Ok tt) →
    Adds written faults old new (flat_map line (take (i + 1) xs)) (Ok tt)
Adds-next written faults old middle new line xs i x at before next =
    subst (λ text. Adds written faults old new text (Ok tt)) (flat_map_next line [] xs i x at)
    (Adds-both written faults old middle new (flat_map line (take i xs)) (line x) (Ok tt) before next)

-- where the next wasn't added whole, the lines of all items weren't
pub Adds-stopped : {K X : Type 0} (written : K → Option (List ℕ)) (faults : K → ℕ) (old middle new : BufferedSink K)
    (line : X → List ℕ) (xs : List X) (i : ℕ) (x : X) (stop : WriteStop) → slice_get xs i ≡ Some x →
    Adds written faults old middle (flat_map line (take i xs)) (Ok tt) → Adds written faults middle new (line x) (Err stop) →
    Adds written faults old new (flat_map line xs) (Err stop)
Adds-stopped written faults old middle new line xs i x stop at before next =
    let rest = flat_map line (drop (i + 1) xs) in
    let all : flat_map line (take (i + 1) xs) ++ rest ≡ flat_map line xs =
    sym (flat_map-append line (take (i + 1) xs) (drop (i + 1) xs)) ∙ ap (flat_map line) (take-append-drop (i + 1) xs) in
    subst (λ text. Adds written faults old new text (Err stop)) (ap (λ text. text ++ rest) (flat_map_next line [] xs i x at) ∙ all)
    (Adds-longer written faults old new (flat_map line (take i xs) ++ line x) rest stop
    (Adds-both written faults old middle new (flat_map line (take i xs)) (line x) (Err stop) before next))

-- three texts, one after another
pub Adds-three : {K : Type 0} (written : K → Option (List ℕ)) (faults : K → ℕ) (old first second new : BufferedSink K)
    (a b c text : List ℕ) (result : Result (Unit {0}) WriteStop) → a ++ (b ++ c) ≡ text →
    Adds written faults old first a (Ok tt) → Adds written faults first second b (Ok tt) → Adds written faults second new c result →
    Adds written faults old new text result
Adds-three written faults old first second new a b c text result same one two three =
    subst (λ all. Adds written faults old new all result) same
    (Adds-both written faults old first new a (b ++ c) result one (Adds-both written faults first second new b c result two three))

-- the second of three wasn't added whole
pub Adds-second : {K : Type 0} (written : K → Option (List ℕ)) (faults : K → ℕ) (old first new : BufferedSink K)
    (a b c text : List ℕ) (stop : WriteStop) → a ++ (b ++ c) ≡ text →
    Adds written faults old first a (Ok tt) → Adds written faults first new b (Err stop) →
    Adds written faults old new text (Err stop)
Adds-second written faults old first new a b c text stop same one two =
    subst (λ all. Adds written faults old new all (Err stop)) same
    (Adds-both written faults old first new a (b ++ c) (Err stop) one (Adds-longer written faults first new b c stop two))

-- the first of several wasn't added whole
pub Adds-first : {K : Type 0} (written : K → Option (List ℕ)) (faults : K → ℕ) (old new : BufferedSink K)
    (a rest text : List ℕ) (stop : WriteStop) → a ++ rest ≡ text →
    Adds written faults old new a (Err stop) → Adds written faults old new text (Err stop)
Adds-first written faults old new a rest text stop same one =
    subst (λ all. Adds written faults old new all (Err stop)) same (Adds-longer written faults old new a rest stop one)

-- ---- the whole output

abbrev told : List ℕ → List Outcome → Told
told name outcomes = record { name = name; outcomes = outcomes }

-- the head, the pool's title and its entries
pub front_text : (head : Head) (entries : List Entry) →
    flat_map ended_line (head_lines head) ++ (title_of head entries ++ flat_map entry_line entries) ≡ front_of head entries
unfolding pool_lines title_of
front_text head entries =
    ap (λ text. flat_map ended_line (head_lines head) ++ (ended_line (pool_title head 0 (length entries)) ++ text)) (sym (flat_map-map ended_line entry_text entries))
    ∙ sym (flat_map-append ended_line (head_lines head) (pool_title head 0 (length entries) ∷ map entry_text entries))

outcomes_text : (numbered : List (ℕ × Outcome)) (ending done : List ℕ) →
    flat_map numbered_line numbered ++ (ended_line ending ++ ended_line done) ≡ flat_map ended_line ((map outcome_line numbered ++ ending ∷ []) ++ done ∷ [])
outcomes_text [] ending done = ap (λ text. ended_line ending ++ text) (sym (append-nil (ended_line done)))
outcomes_text (first ∷ rest) ending done =
    append_assoc (numbered_line first) (flat_map numbered_line rest) (ended_line ending ++ ended_line done)
    ∙ ap (λ text. numbered_line first ++ text) (outcomes_text rest ending done)

-- the titles, the outcomes and the end
pub back_text : (name : List ℕ) (outcomes : List Outcome) →
    titles_of name ++ (flat_map numbered_line (enumerate_from 1 outcomes) ++ end_of outcomes) ≡ back_of name outcomes
unfolding board_lines script_lines
back_text name outcomes =
    let board = ended_line (codes "board entries " ++ decimal 0) in
    let title = ended_line (codes "script " ++ decimal 0 ++ codes " " ++ name) in
    append_assoc board title (flat_map numbered_line (enumerate_from 1 outcomes) ++ end_of outcomes)
    ∙ ap (λ text. board ++ (title ++ text)) (outcomes_text (enumerate_from 1 outcomes) (ending_line (position is_fault outcomes)) (codes "done"))

pub whole_text : (head : Head) (entries : List Entry) (name : List ℕ) (outcomes : List Outcome) →
    front_of head entries ++ back_of name outcomes ≡ text_of (content head entries name outcomes)
whole_text head entries name outcomes =
    sym (flat_map-append ended_line (head_lines head ++ pool_lines head (0, entries)) (board_lines [] ++ script_lines (0, told name outcomes) ++ codes "done" ∷ []))
    ∙ ap (flat_map ended_line) (grouped (head_lines head) (pool_lines head (0, entries)) (board_lines []) (script_lines (0, told name outcomes)) (codes "done" ∷ []))
  where
    grouped : (h p b s d : List (List ℕ)) → (h ++ p) ++ (b ++ s ++ d) ≡ h ++ (p ++ []) ++ b ++ (s ++ []) ++ d
    grouped h p b s d = rw (append-nil p, append-nil s) (simp append_assoc)
