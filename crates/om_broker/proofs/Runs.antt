-- The pages of a run of bits of a zone, and how a run that is claimed or released shows in the bits.
use Rattle.std.proofs.Common.{◌≡◌, ◌≢◌, ℕ, zero, suc, ◌+◌, ◌*◌, ◌/◌, ◌%◌, ◌^◌, ◌<◌, ◌≤◌, Bool, true, false, not, ◌&&◌, nat_le, nat_lt, ◌⊎◌, inl, inr, refl, sym, subst, ◌∙◌, ap, arith}
use Rattle.std.proofs.lemmas.Bool.{cases_Bool, cases_lt, and_from, and_parts, and_left, and_right, lt-leb, le-leb, lt-ltb, le-ltb, leb-true, ltb-true}
use Rattle.std.proofs.Math.Bool.{and-true, and-false}
use Rattle.om_geom.specs.Fit.{has_bit, is_in_run}
use Rattle.om_geom.specs.BitLaws.{same_from_has_bit}
use Rattle.om_broker.specs.Zones.{HasHeld}
use mathlib.Core.Logic.{⊎_elim}

-- ---- in a run, and not

pub in-run : (first n i : ℕ) → first ≤ i → i < first + n → is_in_run first n i ≡ true
in-run first n i from to = and_from _ _ (le-leb first i from) (lt-ltb i (first + n) to)

pub not-in-run : (first n i : ℕ) → (i < first) ⊎ (first + n ≤ i) → is_in_run first n i ≡ false
not-in-run first n i = ⊎_elim
    (λ below. and_left _ _ (lt-leb first i below))
    (λ past. and_right _ _ (le-ltb i (first + n) past))

pub run-from : (first n i : ℕ) → is_in_run first n i ≡ true → first ≤ i
run-from first n i inside = leb-true first i (and_parts (nat_le first i) (nat_lt i (first + n)) inside).0

pub run-to : (first n i : ℕ) → is_in_run first n i ≡ true → i < first + n
run-to first n i inside = ltb-true i (first + n) (and_parts (nat_le first i) (nat_lt i (first + n)) inside).1

pub run-cases : (first n i : ℕ) → ((first ≤ i) × (i < first + n)) ⊎ ((i < first) ⊎ (first + n ≤ i))
run-cases first n i = ⊎_elim
    (λ below. inr (inl below))
    (λ from. ⊎_elim (λ to. inl (from, to)) (λ past. inr (inr past)) (cases_lt i (first + n)))
    (cases_lt i first)

-- ---- bits and pages of one zone

-- the bits of a run are the pages of the run
pub run-shift : (zone first n page : ℕ) → page / 32 ≡ zone → is_in_run (32 * zone + first) n page ≡ is_in_run first n (page % 32)
run-shift zone first n page same = ⊎_elim
    (λ inside. let from = inside.0 in let to = inside.1 in in-run (32 * zone + first) n page (omega arith) (omega arith) ∙ sym (in-run first n (page % 32) from to))
    (λ outside. not-in-run (32 * zone + first) n page (⊎_elim (λ below. inl (omega arith)) (λ past. inr (omega arith)) outside) ∙ sym (not-in-run first n (page % 32) outside))
    (run-cases first n (page % 32))

pub run-other : (zone first n page : ℕ) → first + n ≤ 32 → page / 32 ≢ zone → is_in_run (32 * zone + first) n page ≡ false
run-other zone first n page within other = not-in-run (32 * zone + first) n page (⊎_elim
    (λ low. inl low)
    (λ from. inr (omega arith))
    (cases_lt page (32 * zone + first)))

-- the zone of a page of a run
pub run-zone : (zone first n page : ℕ) → first + n ≤ 32 → is_in_run (32 * zone + first) n page ≡ true → page / 32 ≡ zone
run-zone zone first n page within inside =
    let from = run-from (32 * zone + first) n page inside in
    let to = run-to (32 * zone + first) n page inside in omega arith

-- ---- free, or not

pub free-or-held : (is_set : ℕ → Bool) (first n : ℕ) → ((bit : ℕ) → first ≤ bit → bit < first + n → is_set bit ≡ false) ⊎ HasHeld is_set first n
free-or-held is_set first zero = inl (λ bit from to. absurd (omega arith))
free-or-held is_set first (suc n) = ⊎_elim
    (λ here. inr (record { bit = first; from = omega arith; to = omega arith; held = here }))
    (λ clear. ⊎_elim
    (λ rest. inl (λ bit from to. ⊎_elim
    (λ low. subst (λ i. is_set i ≡ false) (let e : first ≡ bit = omega arith in e) clear)
    (λ high. rest bit (omega arith) (omega arith))
    (cases_lt bit (first + 1))))
    (λ later. let from = later.from in let to = later.to in inr (record { bit = later.bit; from = omega arith; to = omega arith; held = later.held }))
    (free-or-held is_set (first + 1) n))
    (cases_Bool (is_set first))

abbrev Cleared : ℕ → ℕ → ℕ → ℕ → Type 0
Cleared bits cleared first n = (i : ℕ) → i < 32 → has_bit cleared i ≡ (has_bit bits i && not (is_in_run first n i))

-- clearing the bits of a run changes nothing exactly where none of them was set
pub cleared-same : (bits first n : ℕ) → first + n ≤ 32 → Cleared bits bits first n → (bit : ℕ) → first ≤ bit → bit < first + n → has_bit bits bit ≡ false
cleared-same bits first n within cleared bit from to =
    cleared bit (omega arith) ∙ ap (λ b. has_bit bits bit && not b) (in-run first n bit from to) ∙ and-false (has_bit bits bit)

pub cleared-other : (bits cleared first n : ℕ) → bits < 2 ^ 32 → cleared < 2 ^ 32 → Cleared bits cleared first n → cleared ≢ bits → HasHeld (has_bit bits) first n
cleared-other bits cleared first n small less is other = ⊎_elim
    (λ clear. absurd (other (same_from_has_bit cleared bits less small (λ i low. is i low ∙ ⊎_elim
    (λ inside. rw (clear i inside.0 inside.1) refl)
    (λ outside. rw (not-in-run first n i outside) (and-true (has_bit bits i)))
    (run-cases first n i)))))
    (λ held. held)
    (free-or-held (has_bit bits) first n)
