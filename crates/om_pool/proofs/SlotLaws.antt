-- Slots, of which one is set: what is found among the places that wait, what is so of them, and their bytes.
use Rattle.std.proofs.Common.{◌≡◌, ℕ, zero, suc, ◌<◌, Bool, true, false, List, [], ◌∷◌, length, cond, Option, Some, None, IfSome, is_some, refl, sym, ap, subst, arith}
use Rattle.std.specs.Prelude.{slice_index_or, slice_set}
use Rattle.std.specs.List.{AllByRecursion, find}
use Rattle.std.specs.Option.{option_map}
use Rattle.std.proofs.Math.ListN.{get_or-map}
use Rattle.std.proofs.lemmas.List.{map-set}
use Rattle.om_delay.specs.Slots.{begins_at, slot_at, with_slot}
use Rattle.om_geom.specs.declared.address.Extent.{Extent}
use Rattle.om_model.specs.Pool.Free.{slot_holds}
use Rattle.om_model.specs.Pool.InUse.{Use, use_of_place}
use Rattle.om_model.specs.Pool.Junk.{extent_of_place}
use Rattle.om_model.specs.Pool.State.{delayed}
use Rattle.om_model.specs.Pool.WellFormed.{EachPair}
use Rattle.om_model.specs.Pool.WriteAfterFree.{slot_extents}
use Rattle.om_model.specs.declared.block.Place.{Place}
use Rattle.om_model.proofs.Free.{waiting}

-- what is so of all that waits is so of what a slot has
pub slot-has : (P : Use → Type 0) (slots : List (Option Place)) (k : ℕ) (gone : Place) → AllByRecursion P (waiting slots) → slice_index_or slots k None ≡ Some gone → P (use_of_place gone)
slot-has P [] k gone all at = cc
slot-has P (None ∷ slots) zero gone all at = cc
slot-has P (Some x ∷ slots) zero gone all at = let same : x ≡ gone = cc in subst (λ p. P (use_of_place p)) same all.0
slot-has P (None ∷ slots) (suc k) gone all at = slot-has P slots k gone all at
slot-has P (Some x ∷ slots) (suc k) gone all at = slot-has P slots k gone all.1 at

module _ (new : Place) where
  pub slot-found : (test : Place → Bool) (slots : List (Option Place)) (k : ℕ) → test new ≡ true → k < length slots → is_some (find test (delayed (slice_set slots k (Some new)))) ≡ true
  slot-found test [] k passes low = absurd (omega arith)
  slot-found test (None ∷ slots) zero passes low = rw passes refl
  slot-found test (Some x ∷ slots) zero passes low = rw passes refl
  slot-found test (None ∷ slots) (suc k) passes low = slot-found test slots k passes (omega arith)
  slot-found test (Some x ∷ slots) (suc k) passes low =
      let later = slot-found test slots k passes (omega arith) in
      elim (test x) as (λ b. is_some (cond b (Some x) (find test (delayed (slice_set slots k (Some new))))) ≡ true) [
        | true ↦ refl
        | false ↦ later
      ]

  -- where neither the new place passes nor the one that it takes the slot of, the same is found
  pub slot-other : (test : Place → Bool) (slots : List (Option Place)) (k : ℕ) → test new ≡ false → IfSome (slice_index_or slots k None) (λ gone. test gone ≡ false)
      → find test (delayed (slice_set slots k (Some new))) ≡ find test (delayed slots)
  slot-other test [] k fails left = refl
  slot-other test (None ∷ slots) zero fails left = rw fails refl
  slot-other test (Some x ∷ slots) zero fails left = rw (fails, left) refl
  slot-other test (None ∷ slots) (suc k) fails left = slot-other test slots k fails left
  slot-other test (Some x ∷ slots) (suc k) fails left = ap (cond (test x) (Some x)) (slot-other test slots k fails left)

  pub slot-all : (P : Use → Type 0) (slots : List (Option Place)) (k : ℕ) → k < length slots → AllByRecursion P (waiting (slice_set slots k (Some new))) → IfSome (slice_index_or slots k None) (λ gone. P (use_of_place gone))
      → P (use_of_place new) × AllByRecursion P (waiting slots)
  slot-all P [] k low all left = absurd (omega arith)
  slot-all P (None ∷ slots) zero low all left = (all.0, all.1)
  slot-all P (Some x ∷ slots) zero low all left = (all.0, (left, all.1))
  slot-all P (None ∷ slots) (suc k) low all left = slot-all P slots k (omega arith) all left
  slot-all P (Some x ∷ slots) (suc k) low all left = let rest = slot-all P slots k (omega arith) all.1 left in (rest.0, (all.0, rest.1))

  -- what leaves its slot stands so to all that waits then
  pub slot-related : (R : Use → Use → Type 0) → ((a b : Use) → R a b → R b a) → (slots : List (Option Place)) (k : ℕ) (gone : Place) → EachPair R (waiting slots) → slice_index_or slots k None ≡ Some gone
      → R (use_of_place gone) (use_of_place new) → AllByRecursion (R (use_of_place gone)) (waiting (slice_set slots k (Some new)))
  slot-related R swap [] k gone pairs at here = cc
  slot-related R swap (None ∷ slots) zero gone pairs at here = cc
  slot-related R swap (Some x ∷ slots) zero gone pairs at here = let same : x ≡ gone = cc in (here, subst (λ p. AllByRecursion (R (use_of_place p)) (waiting slots)) same pairs.0)
  slot-related R swap (None ∷ slots) (suc k) gone pairs at here = slot-related R swap slots k gone pairs at here
  slot-related R swap (Some x ∷ slots) (suc k) gone pairs at here = (
    swap (use_of_place x) (use_of_place gone) (slot-has (R (use_of_place x)) slots k gone pairs.0 at),
    slot-related R swap slots k gone pairs.1 at here,
  )

-- ---- the bytes that wait in each slot

module _ (slots : List (Option Place)) (k : ℕ) where
  pub extent-at : slot_at (slot_extents slots) k ≡ option_map extent_of_place (slice_index_or slots k None)
  extent-at = get_or-map (option_map extent_of_place) slots k None

  pub extents-put : (place : Place) → with_slot (slot_extents slots) k (extent_of_place place) ≡ slot_extents (slice_set slots k (Some place))
  extents-put place = sym (map-set (option_map extent_of_place) slots k (Some place))

-- what is so of the bytes that a slot has
pub if-waits : (P : Extent → Type 0) (slot : Option Place) → ((place : Place) → slot ≡ Some place → P (extent_of_place place)) → IfSome (option_map extent_of_place slot) P
if-waits P None each = tt
if-waits P (Some place) each = each place refl

-- a slot has a place as its bytes begin there
pub begins-waiting : (slot : Option Place) (address : ℕ) → begins_at address (option_map extent_of_place slot) ≡ slot_holds slot address
begins-waiting None address = refl
begins-waiting (Some place) address = refl
