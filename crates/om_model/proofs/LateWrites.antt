-- The search for a place that was written while it waits, slot after slot.
use Rattle.std.proofs.Common.{◌≡◌, ℕ, zero, suc, ◌+◌, ◌<◌, ◌≤◌, true, false, List, [], ◌∷◌, drop, length, Option, Some, None, is_some, refl, sym, ap, ◌∙◌, arith}
use Rattle.std.specs.Prelude.{slice_index_or}
use Rattle.std.specs.Option.{option_map}
use Rattle.std.proofs.Math.ListN.{get_or-map}
use Rattle.om_delay.specs.Changes.{changed_of, first_changed}
use Rattle.om_delay.specs.Slots.{slot_at}
use Rattle.om_delay.specs.declared.check.Changed.{Changed}
use Rattle.om_model.specs.Pool.Junk.{extent_of_place, fills_freed}
use Rattle.om_model.specs.Pool.Rules.{Rules}
use Rattle.om_model.specs.Pool.State.{State}
use Rattle.om_model.specs.Pool.WriteAfterFree.{slot_extents, written_late}
use Rattle.om_model.specs.declared.block.Place.{Place}

module _ (memory : List (List ℕ)) where
  abbrev found_at : List (Option Place) → ℕ → Option Changed
  found_at slots i = changed_of memory (option_map extent_of_place (slice_index_or slots i None))

  none-step : (slots : List (Option Place)) (i : ℕ) → i < length slots → found_at slots i ≡ None → first_changed memory (slot_extents (drop (suc i) slots)) ≡ first_changed memory (slot_extents (drop i slots))
  none-step [] i low none = absurd (omega arith)
  none-step (x ∷ slots) zero low none = rw none refl
  none-step (x ∷ slots) (suc i) low none = none-step slots i (omega arith) none

  pub none_at : (slots : List (Option Place)) (i : ℕ) → i < length slots → found_at slots i ≡ None → first_changed memory (slot_extents (drop (i + 1) slots)) ≡ first_changed memory (slot_extents (drop i slots))
  none_at slots i low none = let next : i + 1 ≡ suc i = omega arith in ap (λ j. first_changed memory (slot_extents (drop j slots))) next ∙ none-step slots i low none

  pub some_at : (slots : List (Option Place)) (i : ℕ) (found : Option Changed) → i < length slots → found ≡ found_at slots i → is_some found ≡ true → found ≡ first_changed memory (slot_extents (drop i slots))
  some_at [] i found low here some = absurd (omega arith)
  some_at (x ∷ slots) zero (Some found) low here some = rw (sym here) refl
  some_at (x ∷ slots) zero None low here some = cc
  some_at (x ∷ slots) (suc i) found low here some = some_at slots i found (omega arith) here some

  pub none_left : (slots : List (Option Place)) (i : ℕ) → length slots ≤ i → first_changed memory (slot_extents (drop i slots)) ≡ None
  none_left [] zero high = refl
  none_left [] (suc i) high = refl
  none_left (x ∷ slots) zero high = absurd (omega arith)
  none_left (x ∷ slots) (suc i) high = none_left slots i (omega arith)

-- the extent that a slot has
pub extent-at : (slots : List (Option Place)) (slot : ℕ) → slot_at (slot_extents slots) slot ≡ option_map extent_of_place (slice_index_or slots slot None)
extent-at slots slot = get_or-map (option_map extent_of_place) slots slot None

pub late-in-slot : (rules : Rules) (state : State) (slot : ℕ) → fills_freed rules ≡ true → rules.options.freecheck ≡ false
    → written_late rules state slot ≡ changed_of state.memory (option_map extent_of_place (slice_index_or state.slots slot None))
late-in-slot rules state slot fills alone = rw (fills, alone) (ap (changed_of state.memory) (extent-at state.slots slot))
