-- What each step tells.
use Rattle.std.specs.Prelude.{◌≡◌, ◌≢◌, ℕ, ◌^◌, ◌<◌, ◌≤◌, List, [], ◌∷◌, ◌++◌, length, Bool, Option, Some}
use Rattle.std.specs.List.{Contains}
use mathlib.Core.List.{IsPrefix}
use Rattle.atomic_table.specs.Table.{Me, Step}
use Rattle.om_turn.specs.Entries.{times, mark, listed, Became}
use Rattle.om_turn.specs.Views.{drawn, served, passed, settled, IsWhole, HoldsAll, HoldsUncommon, HoldsMarked, MayAdd}
use Rattle.om_turn.specs.declared.view.View.{View}

abbrev Sat : Type 0 → Type 0 → Type 0
Sat S E = Me (Option S) (View E)

abbrev At : Type 0 → Type 0
At S = Step (Option S)

module _ {S E : Type 0} where
  -- the number found is the pass's ticket
  abbrev pub drew : At S → Sat S E → ℕ → Sat S E → Type 0
  drew st m r m' = m' ≡ (drawn r m.0, m.1)

  -- the turn is over: the entry was added, if there is one
  abbrev pub passed_on : Option E → At S → Sat S E → ℕ → Sat S E → Type 0
  passed_on added st m r m' = (m' ≡ (passed added m.0, [])) × (IsWhole m'.0 → HoldsAll m'.0)

  -- what two passes that became one had seen, each begins what is seen now
  abbrev pub told : At S → Sat S E → ℕ → Sat S E → Type 0
  told st m r m' = ((journal : List E) × (m' ≡ (settled journal m.0, m.1)))
      × IsPrefix m.0.seen m'.0.seen × IsPrefix m.0.also m'.0.seen
      × (m'.0.left < 2 ^ 32) × ((k : ℕ) → times k m'.0.marks ≤ 1) × (IsWhole m'.0 → HoldsAll m'.0)

  -- the mark that the pass with this seat gives next is none of its own
  abbrev pub minted : ℕ → At S → Sat S E → ℕ → Sat S E → Type 0
  minted seat st m r m' = (m' ≡ m) × ¬ Contains m.0.marks (mark seat m.0.splits)

  -- the turn is over, and some entry that it may add was added, or none
  abbrev pub Passed : (Option E → Type 0) → Sat S E → Sat S E → Type 0
  Passed lawful m m' = (added : Option E) × lawful added × (m' ≡ (passed added m.0, [])) × (IsWhole m'.0 → HoldsAll m'.0)

-- what a served pass knows
pub record IsShown {E : Type 0} (common : E → Bool) (marks_of : E → List ℕ) (v : View E) : Type 0 where
  pub short : length v.seen < v.share
  pub uncommon : HoldsUncommon common v.seen v
  pub marked : HoldsMarked marks_of v.seen v
  pub whole : IsWhole v → HoldsAll v

module _ {S E N : Type 0} (stands_for : S → List E → Type 0) (name : S → N) (common : E → Bool) (marks_of : E → List ℕ) where
  -- the pass is served: it has the value, which is what `first` became by all that the pass has now seen
  abbrev pub Serves : Option S → Sat S E → Sat S E → Type 0
  Serves first m m' = (journal : List E) × (x : S) × (m' ≡ (served journal m.0, (0, Some x) ∷ m.1))
      × IsPrefix m.0.seen journal × IsShown common marks_of m'.0 × ((f : S) → first ≡ Some f → Became stands_for name f journal x)

  -- the value that the pass gives back is what `first` became by all that it has seen and these entries, which it may add
  abbrev pub IsLawful : S → View E → S → Option E → Type 0
  IsLawful first v x added = Became stands_for name first (v.seen ++ listed added) x × MayAdd common marks_of v added

  abbrev pub passed_some : Option S → At S → Sat S E → ℕ → Sat S E → Type 0
  passed_some first st m r m' = (x : S) → m.1 ≡ (0, Some x) ∷ [] → (f : S) → first ≡ Some f → Passed (IsLawful f m.0 x) m m'

  -- the number found is the ticket that is served
  abbrev pub looked : Option S → At S → Sat S E → ℕ → Sat S E → Type 0
  looked first st m r m' = (r ≡ m.0.ticket → Serves first m m') × (r ≢ m.0.ticket → m' ≡ m)
