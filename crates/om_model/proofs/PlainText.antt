-- The text of a content, put together line by line.
use Rattle.std.proofs.Common.{◌≡◌, ℕ, ◌+◌, List, [], ◌∷◌, ◌++◌, map, take, Some, refl, sym, ap, ◌∙◌, append-nil, append_assoc, codes}
use Rattle.std.specs.List.{flat_map, enumerate_from, slice_get, position}
use Rattle.std.specs.Fmt.{decimal}
use Rattle.std.proofs.lemmas.List.{flat_map_more}
use Rattle.std.proofs.lemmas.List.Concat.{flat_map-append}
use Rattle.std.proofs.lemmas.List.Folds.{flat_map-map}
use Rattle.om_model.specs.Output.Content.{Told}
use Rattle.om_model.specs.Output.Head.{Head}
use Rattle.om_model.specs.Output.Text.{head_lines, pool_lines, board_lines, outcome_line, ending_line, script_lines, ended_line, text_of, numbered_line, pool_text, script_text}
use Rattle.om_model.specs.Scripts.Outcomes.{is_fault}
use Rattle.om_model.specs.declared.board.BoardEntry.{BoardEntry}
use Rattle.om_model.specs.declared.entry.Entry.{Entry}
use Rattle.om_model.proofs.Lists.{flat_map_next, slice_get-enumerate_from}

-- the text of one item more
pub text_next : {X : Type 0} (f : X → List ℕ) (before now new : List ℕ) (xs : List X) (i : ℕ) (x : X) →
    slice_get xs i ≡ Some x → now ≡ before ++ flat_map f (take i xs) → new ≡ now ++ f x → new ≡ before ++ flat_map f (take (i + 1) xs)
text_next f before now new xs i x at so_far more = more ∙ ap (λ text. text ++ f x) so_far ∙ flat_map_next f before xs i x at

-- the item with this number
pub numbered_at : {X : Type 0} (n : ℕ) (xs : List X) (i k : ℕ) (x : X) → slice_get xs i ≡ Some x → i + n ≡ k → slice_get (enumerate_from n xs) i ≡ Some (k, x)
numbered_at n xs i k x at is = slice_get-enumerate_from n xs i x at ∙ ap (λ m. Some (m, x)) is

-- a title, and below it a line for each item
pub titled_added : {X : Type 0} (f : X → List ℕ) (before middle title : List ℕ) (xs : List X) → middle ≡ before ++ ended_line title →
    middle ++ flat_map (λ x. ended_line (f x)) xs ≡ before ++ flat_map ended_line (title ∷ map f xs)
titled_added f before middle title xs first =
    ap (λ text. text ++ flat_map (λ x. ended_line (f x)) xs) first
    ∙ ap (λ text. (before ++ ended_line title) ++ text) (sym (flat_map-map ended_line f xs))
    ∙ append_assoc before (ended_line title) (flat_map ended_line (map f xs))

pub script_added : (before first second : List ℕ) (told : Told) (number : ℕ) →
    first ≡ before ++ ended_line (codes "script " ++ decimal number ++ codes " " ++ told.name)
    → second ≡ first ++ flat_map numbered_line (enumerate_from 1 told.outcomes) →
    second ++ ended_line (ending_line (position is_fault told.outcomes)) ≡ before ++ script_text (number, told)
unfolding script_lines
script_added before first second told number e1 e2 =
    let heading = codes "script " ++ decimal number ++ codes " " ++ told.name in
    let last = ending_line (position is_fault told.outcomes) in
    ap (λ text. text ++ ended_line last) (e2 ∙ titled_added outcome_line before first heading (enumerate_from 1 told.outcomes) e1)
    ∙ flat_map_more ended_line before (heading ∷ map outcome_line (enumerate_from 1 told.outcomes)) last

-- ---- the whole text

nested : {X : Type 0} (f : X → List (List ℕ)) (xs : List X) → flat_map (λ x. flat_map ended_line (f x)) xs ≡ flat_map ended_line (flat_map f xs)
nested f [] = refl
nested f (x ∷ xs) =
    ap (λ text. flat_map ended_line (f x) ++ text) (nested f xs)
    ∙ sym (flat_map-append ended_line (f x) (flat_map f xs))

both : (text more : List ℕ) (lines others : List (List ℕ)) → text ≡ flat_map ended_line lines → more ≡ flat_map ended_line others → text ++ more ≡ flat_map ended_line (lines ++ others)
both text more lines others first second =
    ap (λ t. t ++ more) first ∙ ap (λ t. flat_map ended_line lines ++ t) second ∙ sym (flat_map-append ended_line lines others)

pub whole : (head : Head) (journals : List (List Entry)) (board : List BoardEntry) (scripts : List Told) (a b c d e : List ℕ) →
    a ≡ flat_map ended_line (head_lines head) → b ≡ a ++ flat_map (pool_text head) (enumerate_from 0 journals) → c ≡ b ++ flat_map ended_line (board_lines board)
    → d ≡ c ++ flat_map script_text (enumerate_from 0 scripts) → e ≡ d ++ ended_line (codes "done") →
    e ≡ text_of (record { head = head; journals = journals; board = board; transcripts = scripts })
whole head journals board scripts a b c d e e1 e2 e3 e4 e5 =
    let h = head_lines head in
    let p = flat_map (pool_lines head) (enumerate_from 0 journals) in
    let s = flat_map script_lines (enumerate_from 0 scripts) in
    let pools = e2 ∙ both a (flat_map (pool_text head) (enumerate_from 0 journals)) h p e1 (nested (pool_lines head) (enumerate_from 0 journals)) in
    let posted = e3 ∙ both b (flat_map ended_line (board_lines board)) (h ++ p) (board_lines board) pools refl in
    let told = e4 ∙ both c (flat_map script_text (enumerate_from 0 scripts)) (h ++ p ++ board_lines board) s posted (nested script_lines (enumerate_from 0 scripts)) in
    e5 ∙ both d (ended_line (codes "done")) (h ++ p ++ board_lines board ++ s) (codes "done" ∷ []) told (sym (append-nil (ended_line (codes "done"))))
