-- What holds of a turn lock between any two steps.
-- Word 0 is the ticket that is drawn next, and word 1 the ticket that is served. The slot has the value while it is out with no turn.
use Rattle.std.specs.Prelude.{◌≡◌, ◌≢◌, ℕ, ◌+◌, ◌^◌, ◌<◌, ◌≤◌, List, [], ◌∷◌, length, Bool, Option, Some, ◌⊎◌}
use Rattle.std.specs.List.{slice_get, Contains}
use mathlib.Core.List.{IsPrefix}
use mathlib.Core.Option.{some, none}
use mathlib.Core.Option as maybe
use lib.ListN.{get_elem?}
use Rattle.atomic_table.specs.Table.{State}
use Rattle.om_turn.specs.Entries.{once, below, total, times, times_at, mark, Became}
use Rattle.om_turn.specs.Views.{in_turn, out_at, spent_view, HoldsUncommon, HoldsMarked}
use Rattle.om_turn.specs.declared.view.View.{View}
use Rattle.om_turn.specs.declared.view.Stage.TheVariants.{Spent, Served}

-- the mark is the first pass's, or one that a pass gave to a part of it
abbrev pub Issued : {E : Type 0} → List (View E) → ℕ → Type 0
Issued views m = (m ≡ 0) ⊎ ((p : ℕ) × (n : ℕ) × (m ≡ mark p n) × (p < length views) × ((v : View _) → get_elem? views p ≡ some v → v.stage ≢ Spent → n < v.splits))

-- what one pass knows is so
pub record Knows {S E : Type 0} (common : E → Bool) (marks_of : E → List ℕ) (turns serving : ℕ) (journal : List E) (homes : List (maybe.Option (Option S))) (v : View E) : Type 0 where
  pub share : v.stage ≢ Spent → v.share ≡ turns
  pub seen : IsPrefix v.seen journal
  pub also : IsPrefix v.also journal
  pub held : (k : ℕ) (e : E) → Contains v.held (k, e) → slice_get journal k ≡ Some e
  pub busy : length v.held + in_turn v.stage ≤ v.taken
  pub served : v.stage ≡ Served → (v.ticket ≡ serving) × (v.seen ≡ journal) × (homes ≡ none ∷ [])
  pub chief : HoldsUncommon common journal v
  pub marks : HoldsMarked marks_of journal v
  pub spent : v.stage ≡ Spent → v ≡ spent_view

module _ {S E N : Type 0} (stands_for : S → List E → Type 0) (name : S → N) where
  -- the value is at home and is what the first one became by the journal, or a served pass has it
  abbrev pub IsHome : S → List E → List (maybe.Option (Option S)) → List (View E) → Type 0
  IsHome first journal homes views =
      ((x : S) × (homes ≡ some (Some x) ∷ []) × Became stands_for name first journal x)
      ⊎ ((homes ≡ none ∷ []) × ((j : ℕ) × (v : View E) × (get_elem? views j ≡ some v) × (v.stage ≡ Served)))

  pub record Kept (common : E → Bool) (marks_of : E → List ℕ) (first : S) (turns : ℕ) (s : State (Option S) (View E)) : Type 0 where
    pub ticket : ℕ
    pub serving : ℕ
    pub journal : List E
    pub words : s.words ≡ ticket ∷ serving ∷ []
    pub queue : serving ≤ ticket
    pub small : turns < 2 ^ 32
    -- the turns left and the tickets drawn are all turns
    pub left : total (λ v. v.left) s.views + ticket ≡ turns
    pub taken : total (λ v. v.taken) s.views ≡ ticket
    -- each ticket below the next one was served, or is out in one view
    pub tickets : (t : ℕ) → total (λ v. out_at v.stage v.ticket t) s.views + below serving t ≡ below ticket t
    -- each place of the journal is in one view
    pub places : (k : ℕ) → total (λ v. times_at k v.held) s.views ≡ below (length journal) k
    pub short : length journal ≤ serving
    pub apart : (m : ℕ) → total (λ v. times m v.marks) s.views ≤ 1
    pub one_chief : total (λ v. once v.chief) s.views ≤ 1
    pub view_marks : (j m : ℕ) (v : View E) → get_elem? s.views j ≡ some v → Contains v.marks m → Issued s.views m
    pub entry_marks : (k m : ℕ) (e : E) → slice_get journal k ≡ Some e → Contains (marks_of e) m → Issued s.views m
    pub each : (j : ℕ) (v : View E) → get_elem? s.views j ≡ some v → Knows common marks_of turns serving journal s.homes v
    pub home : IsHome first journal s.homes s.views
