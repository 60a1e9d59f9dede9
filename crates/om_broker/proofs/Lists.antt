-- Elements of lists, and how many of them pass a test.
use Rattle.std.proofs.Common.{◌≡◌, ℕ, zero, suc, ◌+◌, ◌-◌, ◌<◌, ◌≤◌, Bool, true, cond, List, [], ◌∷◌, length, map, get_or, Some, refl, subst, ◌∙◌, ap, arith, count_by}
use Rattle.std.specs.List.{AllByRecursion, find, range_with_len}
use Rattle.std.proofs.lemmas.Bool.{cases_Bool, cases_lt, and_from, and_left, and_right, le-leb, lt-leb, lt-ltb, le-ltb}
use Rattle.std.proofs.lemmas.List.Sums.{sum_by-cons}
use Rattle.om_geom.specs.Fit.{is_in_run}
use mathlib.Core.Logic.{⊎_elim}

abbrev pub tally : Bool → ℕ
tally b = cond b 1 0

-- ---- an element

module _ {X : Type 0} (c : X) where
  -- what holds of each element holds of this one
  pub all-contained : (P : X → Type 0) (xs : List X) (k : ℕ) → k < length xs → get_or xs k c ≡ c → AllByRecursion P xs → P c
  all-contained P [] k lt at all = absurd (omega arith)
  all-contained P (x ∷ xs) zero lt at all = subst P at all.0
  all-contained P (x ∷ xs) (suc k) lt at all = all-contained P xs k (omega arith) at all.1

  counted : (test : X → Bool) (xs : List X) (k : ℕ) → k < length xs → get_or xs k c ≡ c → test c ≡ true → 1 ≤ count_by test xs
  counted test [] k lt at passes = absurd (omega arith)
  counted test (x ∷ xs) zero lt at passes =
      let here : tally (test x) ≡ 1 = ap (λ y. tally (test y)) at ∙ ap tally passes in
      let split = sum_by-cons (λ y. cond (test y) 1 0) x xs in omega arith
  counted test (x ∷ xs) (suc k) lt at passes =
      let rest = counted test xs k (omega arith) at passes in
      let split = sum_by-cons (λ y. cond (test y) 1 0) x xs in omega arith

  -- the one that passes is found
  pub find-one : (test : X → Bool) (xs : List X) (k : ℕ) → k < length xs → get_or xs k c ≡ c → test c ≡ true → count_by test xs ≡ 1 → find test xs ≡ Some c
  find-one test [] k lt at passes one = absurd (omega arith)
  find-one test (x ∷ xs) zero lt at passes one =
      ap (λ y. cond (test y) (Some y) (find test xs)) at ∙ ap (λ b. cond b (Some c) (find test xs)) passes
  find-one test (x ∷ xs) (suc k) lt at passes one =
      let split = sum_by-cons (λ y. cond (test y) 1 0) x xs in
      ⊎_elim
      (λ (t : test x ≡ true). let here : tally (test x) ≡ 1 = ap tally t in
      let rest = counted test xs k (omega arith) at passes in absurd (omega arith))
      (λ f. let here : tally (test x) ≡ 0 = ap tally f in
      ap (λ b. cond b (Some x) (find test xs)) f ∙ find-one test xs k (omega arith) at passes (omega arith))
      (cases_Bool (test x))

-- what holds of each of a range's values
pub all-range : {X : Type 0} (P : X → Type 0) (f : ℕ → X) (a n : ℕ) → ((i : ℕ) → a ≤ i → i < a + n → P (f i)) → AllByRecursion P (map f (range_with_len a n))
all-range P f a zero each = tt
all-range P f a (suc n) each = (each a (omega arith) (omega arith), all-range P f (a + 1) n (λ i from below. each i (omega arith) (omega arith)))

-- ---- how many are in a run

abbrev pub count_in : (ℕ → Bool) → ℕ → ℕ → ℕ
count_in test a n = count_by test (range_with_len a n)

-- where each counts as much as by two tests, so do all
pub count-both : (p q r : ℕ → Bool) (a n : ℕ) → ((i : ℕ) → a ≤ i → i < a + n → cond (r i) 1 0 ≡ cond (p i) 1 0 + cond (q i) 1 0) → count_in r a n ≡ count_in p a n + count_in q a n
count-both p q r a zero each = refl
count-both p q r a (suc n) each =
    let rest = count-both p q r (a + 1) n (λ i from to. each i (omega arith) (omega arith)) in
    let here = each a (omega arith) (omega arith) in
    let split_p = sum_by-cons (λ y. cond (p y) 1 0) a (range_with_len (a + 1) n) in
    let split_q = sum_by-cons (λ y. cond (q y) 1 0) a (range_with_len (a + 1) n) in
    let split_r = sum_by-cons (λ y. cond (r y) 1 0) a (range_with_len (a + 1) n) in
    omega arith

module _ (first k : ℕ) where
  count-from : (a n : ℕ) → first ≤ a → first + k ≤ a + n → count_in (is_in_run first k) a n ≡ (first + k) - a
  count-from a zero from to = omega arith
  count-from a (suc n) from to =
      let rest = count-from (a + 1) n (omega arith) (omega arith) in
      let split = sum_by-cons (λ y. cond (is_in_run first k y) 1 0) a (range_with_len (a + 1) n) in
      ⊎_elim
      (λ below. let here : tally (is_in_run first k a) ≡ 1 = ap tally (and_from _ _ (le-leb first a from) (lt-ltb a (first + k) below)) in omega arith)
      (λ past. let here : tally (is_in_run first k a) ≡ 0 = ap tally (and_right _ _ (le-ltb a (first + k) past)) in omega arith)
      (cases_lt a (first + k))

  pub count-run : (a n : ℕ) → a ≤ first → first + k ≤ a + n → count_in (is_in_run first k) a n ≡ k
  count-run a zero from to = omega arith
  count-run a (suc n) from to = ⊎_elim
      (λ below. let rest = count-run (a + 1) n (omega arith) (omega arith) in
      let split = sum_by-cons (λ y. cond (is_in_run first k y) 1 0) a (range_with_len (a + 1) n) in
      let here : tally (is_in_run first k a) ≡ 0 = ap tally (and_left _ _ (lt-leb first a below)) in omega arith)
      (λ past. let all = count-from a (suc n) (omega arith) to in omega arith)
      (cases_lt a first)
