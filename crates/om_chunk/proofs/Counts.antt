-- Tests of all elements of a list, by how many pass.
use Rattle.std.proofs.Common.{◌≡◌, ℕ, suc, ◌+◌, ◌<◌, Bool, true, false, ◌&&◌, ◌||◌, nat_lt, nat_eq, List, [], ◌∷◌, length, cond, refl, sym, ap, ◌∙◌, arith}
use Rattle.std.specs.List.{count_by, list_all, list_any}
use Rattle.std.proofs.lemmas.Bool.{cases_Bool, lt-ltb, ne_eqb}
use Rattle.std.proofs.lemmas.Bool.Decides.{nat_tests}
use Rattle.std.proofs.lemmas.List.Sums.{sum_by-cons, count_by-le-length}
use mathlib.Core.Logic.{⊎_elim}

eq-suc : (n m : ℕ) → nat_eq (1 + n) (suc m) ≡ nat_eq n m
eq-suc n m = grind (arith, nat_tests)

module _ {X : Type 0} (test : X → Bool) where
  count-yes : (x : X) (xs : List X) → test x ≡ true → count_by test (x ∷ xs) ≡ 1 + count_by test xs
  count-yes x xs passes = sum_by-cons (λ (y : X). cond (test y) 1 0) x xs ∙ ap (λ b. cond b 1 0 + count_by test xs) passes

  count-no : (x : X) (xs : List X) → test x ≡ false → count_by test (x ∷ xs) ≡ count_by test xs
  count-no x xs fails = sum_by-cons (λ (y : X). cond (test y) 1 0) x xs ∙ ap (λ b. cond b 1 0 + count_by test xs) fails ∙ omega arith

  -- some pass where more than none do
  pub any-counted : (xs : List X) → nat_lt 0 (count_by test xs) ≡ list_any test xs
  any-counted [] = refl
  any-counted (x ∷ xs) = ⊎_elim
      (λ t. let some : 0 < count_by test (x ∷ xs) = omega (arith, count-yes x xs t) in lt-ltb 0 (count_by test (x ∷ xs)) some ∙ sym (ap (λ b. b || list_any test xs) t))
      (λ f. ap (λ n. nat_lt 0 n) (count-no x xs f) ∙ any-counted xs ∙ sym (ap (λ b. b || list_any test xs) f))
      (cases_Bool (test x))

  -- all pass where as many do as there are
  pub all-counted : (xs : List X) → nat_eq (count_by test xs) (length xs) ≡ list_all test xs
  all-counted [] = refl
  all-counted (x ∷ xs) = ⊎_elim
      (λ t. ap (λ n. nat_eq n (suc (length xs))) (count-yes x xs t) ∙ eq-suc (count_by test xs) (length xs) ∙ all-counted xs ∙ sym (ap (λ b. b && list_all test xs) t))
      (λ f. let few = count_by-le-length test xs in
      ne_eqb (count_by test (x ∷ xs)) (suc (length xs)) (λ e. omega (arith, count-no x xs f)) ∙ sym (ap (λ b. b && list_all test xs) f))
      (cases_Bool (test x))
