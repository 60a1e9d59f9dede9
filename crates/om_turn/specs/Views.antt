-- What a pass knows, and how each step changes it.
use Rattle.std.specs.Prelude.{◌≡◌, ℕ, zero, suc, ◌+◌, ◌-◌, ◌==◌, List, [], ◌∷◌, ◌++◌, length, Bool, true, false, ◌||◌, Option, Some, None, ◌⊎◌}
use Rattle.std.specs.List.{slice_get, Contains}
use Rattle.om_turn.specs.Entries.{once, listed, placed, mark}
use Rattle.om_turn.specs.declared.view.View.{View}
use Rattle.om_turn.specs.declared.view.Stage.{Stage}
use Rattle.om_turn.specs.declared.view.Stage.TheVariants.{Spent, Outside, Waiting, Served}

-- the tickets that a pass has out
abbrev pub in_turn : Stage → ℕ
in_turn Spent = 0
in_turn Outside = 0
in_turn Waiting = 1
in_turn Served = 1

-- 1 where the pass has the ticket t out, and else 0
abbrev pub out_at : Stage → ℕ → ℕ → ℕ
out_at Spent u t = 0
out_at Outside u t = 0
out_at Waiting u t = once (u == t)
out_at Served u t = once (u == t)

-- the one mark of a new pass with turns, if it has turns
abbrev pub new_marks : ℕ → ℕ → ℕ → List ℕ
new_marks seat n zero = []
new_marks seat n (suc turns) = mark seat n ∷ []

module _ {E : Type 0} where
  -- the first pass of a lock, which is its chief
  abbrev pub first_view : ℕ → View E
  first_view turns = record {
    share = turns;
    left = turns;
    taken = 0;
    stage = Outside;
    ticket = 0;
    seen = [];
    also = [];
    held = [];
    marks = 0 ∷ [];
    splits = 0;
    chief = true;
  }

  -- a pass that was joined into another
  abbrev pub spent_view : View E
  spent_view = record {
    share = 0;
    left = 0;
    taken = 0;
    stage = Spent;
    ticket = 0;
    seen = [];
    also = [];
    held = [];
    marks = [];
    splits = 0;
    chief = false;
  }

  -- the pass has drawn the ticket t
  abbrev pub drawn : ℕ → View E → View E
  drawn t v = record v { left = v.left - 1; taken = v.taken + 1; stage = Waiting; ticket = t }

  -- the pass is served, and has seen the journal
  abbrev pub served : List E → View E → View E
  served journal v = record v { stage = Served; seen = journal }

  -- the pass has left its turn, and has added the entry, if there is one
  abbrev pub passed : Option E → View E → View E
  passed added v = record v { stage = Outside; seen = v.seen ++ listed added; held = v.held ++ placed (length v.seen) added }

  -- what is left of a pass that handed turns over
  abbrev pub parted : ℕ → View E → View E
  parted turns v = record v { left = v.left - turns; splits = v.splits + 1 }

  -- the pass that got turns of another one, which has this seat
  abbrev pub part : ℕ → ℕ → View E → View E
  part seat turns v = record {
    share = v.share;
    left = turns;
    taken = 0;
    stage = Outside;
    ticket = 0;
    seen = v.seen;
    also = [];
    held = [];
    marks = new_marks seat v.splits turns;
    splits = 0;
    chief = false;
  }

  -- two passes as one, which hasn't told yet what both had seen
  abbrev pub joined : View E → View E → View E
  joined v w = record {
    share = v.share;
    left = v.left + w.left;
    taken = v.taken + w.taken;
    stage = Outside;
    ticket = v.ticket;
    seen = v.seen;
    also = w.seen;
    held = v.held ++ w.held;
    marks = v.marks ++ w.marks;
    splits = v.splits;
    chief = v.chief || w.chief;
  }

  -- the pass has seen the journal, with all that either of two passes had seen
  abbrev pub settled : List E → View E → View E
  settled journal v = record v { seen = journal; also = [] }

  -- no mark of the one is a mark of the other
  abbrev pub AreApart : View E → View E → Type 0
  AreApart v w = (m : ℕ) → Contains v.marks m → ¬ Contains w.marks m

  -- the turns that the pass has left, and those that were taken with it
  abbrev pub part_of : View E → ℕ
  part_of v = v.left + v.taken

  -- the turns that the pass has left, and those that were taken with it, are all turns of the lock
  abbrev pub IsWhole : View E → Type 0
  IsWhole v = v.left + v.taken ≡ v.share

  -- the pass holds each entry that it has seen, at its place
  abbrev pub HoldsAll : View E → Type 0
  HoldsAll v = (k : ℕ) (e : E) → slice_get v.seen k ≡ Some e → Contains v.held (k, e)

  -- if the pass is the chief, it holds each entry of the list that isn't common
  abbrev pub HoldsUncommon : (E → Bool) → List E → View E → Type 0
  HoldsUncommon common entries v = v.chief ≡ true → (k : ℕ) (e : E) → slice_get entries k ≡ Some e → common e ≡ false → Contains v.held (k, e)

  -- the pass holds each entry of the list that bears a mark of it
  abbrev pub HoldsMarked : (E → List ℕ) → List E → View E → Type 0
  HoldsMarked marks_of entries v = (m : ℕ) → Contains v.marks m → (k : ℕ) (e : E) → slice_get entries k ≡ Some e → Contains (marks_of e) m → Contains v.held (k, e)

  -- the pass may add the entry, if there is one: it has each mark of it, and is the chief or the entry is common
  abbrev pub MayAdd : (E → Bool) → (E → List ℕ) → View E → Option E → Type 0
  MayAdd common marks_of v None = Unit {0}
  MayAdd common marks_of v (Some e) = ((m : ℕ) → Contains (marks_of e) m → Contains v.marks m) × ((v.chief ≡ true) ⊎ (common e ≡ true))
