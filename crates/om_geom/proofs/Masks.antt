-- A mask whose set bits are a run: its bits, and what `&` and `|` with it say of a number's bits.
use Rattle.std.proofs.Common.{◌≡◌, ℕ, zero, suc, ◌+◌, ◌-◌, ◌^◌, ◌<◌, ◌≤◌, true, false, not, ◌&&◌, ◌||◌, refl, sym, ◌∙◌, ap, arith, nat_eq, min, max, bit_and, bit_or, w32}
use Rattle.std.specs.Int.{bit_at}
use Rattle.std.proofs.lemmas.Bool.{cases_Bool, cases_lt, and_from, le-leb, lt-leb, lt-ltb, le-ltb, eqb-true, eq-eqb, and_cases, and_left, and_right, false_from_ne_true, both_ways}
use Rattle.std.proofs.lemmas.Nat.{pow_pos}
use Rattle.std.proofs.lemmas.Nat.Bits.{bit_at_and, bit_at_or, bit_at_not, bit_at-lt, bit_at-zero, bit_at_mask_inside, bit_at_mask_below, bit_at_mask_above, same_from_bits}
use Rattle.std.proofs.Math.Nat.{pow-le-pow_right}
use Rattle.om_geom.specs.Fit.{has_bit, is_in_run, is_clear_run}
use Rattle.om_geom.specs.FitLaws.{clear_run-true, clear_run-from}
use mathlib.Core.Logic.{⊎_elim}

abbrev pub mask : ℕ → ℕ → ℕ
mask first n = 2 ^ (first + n) - 2 ^ first

pub pow-le : (i j : ℕ) → i ≤ j → 2 ^ i ≤ 2 ^ j
pow-le i j le = pow-le-pow_right (omega arith) le

-- the bits of a mask are those of the run
pub has_bit-mask : (first n i : ℕ) → has_bit (mask first n) i ≡ is_in_run first n i
has_bit-mask first n i = ⊎_elim
    (λ low. rw (bit_at_mask_below first (first + n) i low, lt-leb first i low) refl)
    (λ from. ⊎_elim
    (λ inside. rw (bit_at_mask_inside first (first + n) i from inside, le-leb first i from, lt-ltb i (first + n) inside) refl)
    (λ above. rw (bit_at_mask_above first (first + n) i above, le-leb first i from, le-ltb i (first + n) above) refl)
    (cases_lt i (first + n)))
    (cases_lt i first)

-- on single bits, `max` is or, `min` is and, and a difference from 1 is not
max_bits : (x y : ℕ) → x < 2 → y < 2 → nat_eq (max x y) 1 ≡ (nat_eq x 1 || nat_eq y 1)
max_bits zero zero a b = refl
max_bits zero (suc zero) a b = refl
max_bits (suc zero) zero a b = refl
max_bits (suc zero) (suc zero) a b = refl
max_bits (suc (suc x)) y a b = absurd (omega arith)
max_bits zero (suc (suc y)) a b = absurd (omega arith)
max_bits (suc zero) (suc (suc y)) a b = absurd (omega arith)

min_bits : (x y : ℕ) → x < 2 → y < 2 → nat_eq (min x y) 1 ≡ (nat_eq x 1 && nat_eq y 1)
min_bits zero zero a b = refl
min_bits zero (suc zero) a b = refl
min_bits (suc zero) zero a b = refl
min_bits (suc zero) (suc zero) a b = refl
min_bits (suc (suc x)) y a b = absurd (omega arith)
min_bits zero (suc (suc y)) a b = absurd (omega arith)
min_bits (suc zero) (suc (suc y)) a b = absurd (omega arith)

not_bit : (x : ℕ) → x < 2 → nat_eq (1 - x) 1 ≡ not (nat_eq x 1)
not_bit zero a = refl
not_bit (suc zero) a = refl
not_bit (suc (suc x)) a = absurd (omega arith)

zero_bit : (x : ℕ) → x < 2 → nat_eq x 1 ≡ false → x ≡ 0
zero_bit zero a b = refl
zero_bit (suc zero) a b = cc
zero_bit (suc (suc x)) a b = absurd (omega arith)

pub has_bit-or : (a b i : ℕ) → has_bit (bit_or a b) i ≡ (has_bit a i || has_bit b i)
has_bit-or a b i = rw (bit_at_or a b i) (max_bits (bit_at a i) (bit_at b i) (bit_at-lt a i) (bit_at-lt b i))

pub has_bit-and : (a b i : ℕ) → has_bit (bit_and a b) i ≡ (has_bit a i && has_bit b i)
has_bit-and a b i = rw (bit_at_and a b i) (min_bits (bit_at a i) (bit_at b i) (bit_at-lt a i) (bit_at-lt b i))

pub has_bit-not : (a i : ℕ) → a < 2 ^ 32 → i < 32 → has_bit (4294967295 - a) i ≡ not (has_bit a i)
has_bit-not a i small lt = rw (bit_at_not w32 a i small lt) (not_bit (bit_at a i) (bit_at-lt a i))

pub mask_below : (first n : ℕ) → first + n ≤ 32 → mask first n < 2 ^ 32
mask_below first n fits = omega (arith, pow-le (first + n) 32 fits, pow_pos first)

-- no bit of the run is set where `&` with its mask gives 0, and else some bit is
and_mask-run : (bits first n i : ℕ) → bit_and bits (mask first n) ≡ 0 → first ≤ i → i < first + n → has_bit bits i ≡ false
and_mask-run bits first n i none low high =
    let inside : is_in_run first n i ≡ true = and_from _ _ (le-leb first i low) (lt-ltb i (first + n) high) in
    let both : (has_bit bits i && has_bit (mask first n) i) ≡ false = sym (has_bit-and bits (mask first n) i) ∙ ap (λ x. has_bit x i) none ∙ ap (λ x. nat_eq x 1) (bit_at-zero i) in
    ⊎_elim (λ f. f) (λ f. absurd (both_ways _ f (has_bit-mask first n i ∙ inside))) (and_cases _ _ both)

and_mask-clear : (bits first n : ℕ) → ((i : ℕ) → first ≤ i → i < first + n → has_bit bits i ≡ false) → bit_and bits (mask first n) ≡ 0
and_mask-clear bits first n clear = same_from_bits (bit_and bits (mask first n)) 0 (λ i. zero_at i ∙ sym (bit_at-zero i))
  where
    zero_at : (i : ℕ) → bit_at (bit_and bits (mask first n)) i ≡ 0
    zero_at i = zero_bit _ (bit_at-lt (bit_and bits (mask first n)) i) (has_bit-and bits (mask first n) i ∙ ⊎_elim
        (λ out. and_right _ _ (has_bit-mask first n i ∙ and_left _ _ (lt-leb first i out)))
        (λ from. ⊎_elim
        (λ inside. and_left _ _ (clear i from inside))
        (λ above. and_right _ _ (has_bit-mask first n i ∙ and_right _ _ (le-ltb i (first + n) above)))
        (cases_lt i (first + n)))
        (cases_lt i first))

pub mask_tests_run : (bits first n : ℕ) → first + n ≤ 32 → nat_eq (bit_and bits (mask first n)) 0 ≡ is_clear_run (has_bit bits) n first
mask_tests_run bits first n within = ⊎_elim
    (λ t. t' t) (λ f. f' f) (cases_Bool (is_clear_run (has_bit bits) n first))
  where
    t' : is_clear_run (has_bit bits) n first ≡ true → nat_eq (bit_and bits (mask first n)) 0 ≡ is_clear_run (has_bit bits) n first
    t' t = eq-eqb _ _ (and_mask-clear bits first n (clear_run-true (has_bit bits) n first t).clear) ∙ sym t

    f' : is_clear_run (has_bit bits) n first ≡ false → nat_eq (bit_and bits (mask first n)) 0 ≡ is_clear_run (has_bit bits) n first
    f' f = false_from_ne_true _ (λ e. both_ways _ f (clear_run-from (has_bit bits) n first within (λ i low high. and_mask-run bits first n i (eqb-true _ 0 e) low high))) ∙ sym f
