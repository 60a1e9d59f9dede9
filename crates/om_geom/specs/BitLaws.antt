-- Bits of numbers: a number is its bits, and a fit depends on the 32 bits alone.
use Rattle.std.proofs.Common.{◌≡◌, ℕ, zero, suc, ◌+◌, ◌^◌, ◌<◌, ◌≤◌, Bool, false, not, ◌&&◌, List, [], ◌∷◌, refl, sym, ◌∙◌, ap, arith, nat_eq, nat_le}
use Rattle.std.specs.Int.{bit_at}
use Rattle.std.specs.List.{find, list_all, range_with_len}
use Rattle.std.proofs.lemmas.Bool.{cases_lt, and_left, lt-leb}
use Rattle.std.proofs.lemmas.Nat.Bits.{bit_at-lt, bit_at-zero, same_from_bits_below}
use Rattle.om_geom.specs.Fit.{cyclic, has_bit, is_clear_run, fit_of}
use mathlib.Core.Logic.{⊎_elim}

-- ---- numbers

pub has_bit-zero : (i : ℕ) → has_bit 0 i ≡ false
has_bit-zero i = ap (λ x. nat_eq x 1) (bit_at-zero i)

same_bit : (x y : ℕ) → x < 2 → y < 2 → nat_eq x 1 ≡ nat_eq y 1 → x ≡ y
same_bit zero zero a b same = refl
same_bit zero (suc zero) a b same = cc
same_bit (suc zero) zero a b same = cc
same_bit (suc zero) (suc zero) a b same = refl
same_bit (suc (suc x)) y a b same = absurd (omega arith)
same_bit zero (suc (suc y)) a b same = absurd (omega arith)
same_bit (suc zero) (suc (suc y)) a b same = absurd (omega arith)

-- two numbers of 32 bits with the same bits are equal
pub same_from_has_bit : (a b : ℕ) → a < 2 ^ 32 → b < 2 ^ 32 → ((i : ℕ) → i < 32 → has_bit a i ≡ has_bit b i) → a ≡ b
same_from_has_bit a b small_a small_b same =
    same_from_bits_below 32 a b small_a small_b (λ i lt. same_bit (bit_at a i) (bit_at b i) (bit_at-lt a i) (bit_at-lt b i) (same i lt))

-- ---- the same bits give the same fit

list_all-same : (p q : ℕ → Bool) (a n : ℕ) → ((i : ℕ) → a ≤ i → i < a + n → p i ≡ q i) → list_all p (range_with_len a n) ≡ list_all q (range_with_len a n)
list_all-same p q a zero same = refl
list_all-same p q a (suc n) same =
    rw (same a (omega arith) (omega arith), list_all-same p q (a + 1) n (λ i low high. same i (omega arith) (omega arith))) refl

find-same : {X : Type 0} (p q : X → Bool) (xs : List X) → ((x : X) → p x ≡ q x) → find p xs ≡ find q xs
find-same p q [] same = refl
find-same p q (x ∷ xs) same = rw (same x, find-same p q xs same) refl

pub clear_run-same : (p q : ℕ → Bool) (n first : ℕ) → ((i : ℕ) → i < 32 → p i ≡ q i) → is_clear_run p n first ≡ is_clear_run q n first
clear_run-same p q n first same = ⊎_elim
    (λ past. and_left _ _ (lt-leb (first + n) 32 past) ∙ sym (and_left _ _ (lt-leb (first + n) 32 past)))
    (λ within. ap (λ b. nat_le (first + n) 32 && b)
    (list_all-same (λ i. not (p i)) (λ i. not (q i)) first n (λ i low high. ap not (same i (omega arith)))))
    (cases_lt 32 (first + n))

pub fit_of-same : (p q : ℕ → Bool) (n start : ℕ) → ((i : ℕ) → i < 32 → p i ≡ q i) → fit_of p n start ≡ fit_of q n start
fit_of-same p q n start same =
    find-same (is_clear_run p n) (is_clear_run q n) (cyclic 32 start) (λ first. clear_run-same p q n first same)
