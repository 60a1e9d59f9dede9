-- What a search over a range, a cyclic order or the runs of bits finds, and what it says to find nothing.
use Rattle.std.proofs.Common.{◌≡◌, ℕ, zero, suc, ◌+◌, ◌-◌, ◌<◌, ◌≤◌, Bool, true, false, not, List, [], ◌∷◌, Option, Some, None, ◌⊎◌, inl, inr, refl, sym, subst, ◌∙◌, arith, nat_le}
use Rattle.std.specs.Prelude.{All, IfSome}
use Rattle.std.specs.Option.{option_or}
use Rattle.std.specs.List.{find, list_all, range_with_len}
use Rattle.std.proofs.lemmas.Bool.{cases_Bool, cases_eq, cases_lt, and_parts, and_from, leb-true, le-leb, not-true, not_from_false}
use Rattle.std.proofs.lemmas.List.FromFn.{get_or-range_with_len, length-range_with_len}
use Rattle.std.proofs.lemmas.List.Elements.{All-append}
use Rattle.std.proofs.lemmas.List.Folds.{find-append}
use Rattle.om_geom.specs.Fit.{cyclic, is_clear_run, fit_of}
use mathlib.Core.Logic.{⊎_elim}

-- ---- ranges and the cyclic order

pub list_all-range : (p : ℕ → Bool) (a n : ℕ) → list_all p (range_with_len a n) ≡ true → (i : ℕ) → a ≤ i → i < a + n → p i ≡ true
list_all-range p a zero all i low high = absurd (omega arith)
list_all-range p a (suc n) all i low high =
    let both = and_parts (p a) (list_all p (range_with_len (a + 1) n)) all in
    ⊎_elim
    (λ e. subst (λ j. p j ≡ true) (sym e) both.0)
    (λ ne. list_all-range p (a + 1) n both.1 i (omega arith) (omega arith))
    (cases_eq i a)

pub list_all-range_from : (p : ℕ → Bool) (a n : ℕ) → ((i : ℕ) → a ≤ i → i < a + n → p i ≡ true) → list_all p (range_with_len a n) ≡ true
list_all-range_from p a zero each = refl
list_all-range_from p a (suc n) each =
    and_from _ _ (each a (omega arith) (omega arith))
    (list_all-range_from p (a + 1) n (λ i low high. each i (omega arith) (omega arith)))

-- each of them is from a on, and below a + n
pub range-within : (a n : ℕ) → All (λ i. (a ≤ i) × (i < a + n)) (range_with_len a n)
range-within a n k d lt =
    let at = get_or-range_with_len a n k d (omega (arith, length-range_with_len a n)) in
    (omega (arith, length-range_with_len a n), omega (arith, length-range_with_len a n))

pub cyclic-below : (count start : ℕ) → start ≤ count → All (λ i. i < count) (cyclic count start)
cyclic-below count start le =
    All-append (λ i. i < count) (range_with_len start (count - start)) (range_with_len 0 start)
    (λ k d lt. let at = range-within start (count - start) k d lt in omega arith)
    (λ k d lt. let at = range-within 0 start k d lt in omega arith)

-- ---- what a search finds

pub find-passes : {X : Type 0} (test : X → Bool) (xs : List X) (y : X) → find test xs ≡ Some y → test y ≡ true
find-passes test [] y found = cc
find-passes {X} test (x ∷ xs) y found = ⊎_elim
    (λ t. let here : Some x ≡ Some y = rw t at found in let same : x ≡ y = cc in subst (λ (z : X). test z ≡ true) same t)
    (λ f. find-passes test xs y (rw f at found))
    (cases_Bool (test x))

pub find-range_within : (test : ℕ → Bool) (a n y : ℕ) → find test (range_with_len a n) ≡ Some y → (a ≤ y) × (y < a + n)
find-range_within test a zero y found = cc
find-range_within test a (suc n) y found = ⊎_elim
    (λ t. let here : Some a ≡ Some y = rw t at found in let same : a ≡ y = cc in (omega arith, omega arith))
    (λ f. let rest = find-range_within test (a + 1) n y (rw f at found) in (omega arith, omega arith))
    (cases_Bool (test a))

-- the numbers before the one found fail
pub find-range_first : (test : ℕ → Bool) (a n y : ℕ) → find test (range_with_len a n) ≡ Some y → (i : ℕ) → a ≤ i → i < y → test i ≡ false
find-range_first test a zero y found i low high = cc
find-range_first test a (suc n) y found i low high = ⊎_elim
    (λ t. let here : Some a ≡ Some y = rw t at found in let same : a ≡ y = cc in absurd (omega arith))
    (λ f. ⊎_elim
    (λ e. subst (λ j. test j ≡ false) (sym e) f)
    (λ ne. find-range_first test (a + 1) n y (rw f at found) i (omega arith) high)
    (cases_eq i a))
    (cases_Bool (test a))

-- where nothing is found, none passes
pub find-range_none : (test : ℕ → Bool) (a n : ℕ) → find test (range_with_len a n) ≡ None → (i : ℕ) → a ≤ i → i < a + n → test i ≡ false
find-range_none test a zero none i low high = absurd (omega arith)
find-range_none test a (suc n) none i low high = ⊎_elim
    (λ t. let here : Some a ≡ None = rw t at none in cc)
    (λ f. ⊎_elim
    (λ e. subst (λ j. test j ≡ false) (sym e) f)
    (λ ne. find-range_none test (a + 1) n (rw f at none) i (omega arith) (omega arith))
    (cases_eq i a))
    (cases_Bool (test a))

option_or-none : {X : Type 0} (a b : Option X) → option_or a b ≡ None → (a ≡ None) × (b ≡ None)
option_or-none None b none = (refl, none)
option_or-none (Some x) b none = cc

option_or-some : {X : Type 0} (a b : Option X) (y : X) → option_or a b ≡ Some y → (a ≡ Some y) ⊎ ((a ≡ None) × (b ≡ Some y))
option_or-some None b y some = inr (refl, some)
option_or-some (Some x) b y some = inl some

pub find-cyclic_below : (test : ℕ → Bool) (count start y : ℕ) → start ≤ count → find test (cyclic count start) ≡ Some y → y < count
find-cyclic_below test count start y le found = ⊎_elim
    (λ first. let within = find-range_within test start (count - start) y first in omega arith)
    (λ second. let within = find-range_within test 0 start y second.1 in omega arith)
    (option_or-some _ _ y (sym (find-append test (range_with_len start (count - start)) (range_with_len 0 start)) ∙ found))

pub find-cyclic_none : (test : ℕ → Bool) (count start : ℕ) → find test (cyclic count start) ≡ None → (i : ℕ) → i < count → test i ≡ false
find-cyclic_none test count start none i lt =
    let both = option_or-none _ _ (sym (find-append test (range_with_len start (count - start)) (range_with_len 0 start)) ∙ none) in
    ⊎_elim
    (λ low. find-range_none test 0 start both.1 i (omega arith) (omega arith))
    (λ high. find-range_none test start (count - start) both.0 i high (omega arith))
    (cases_lt i start)

-- ---- runs of clear bits

-- the n bits from first on are there and are clear
pub record HasClearRun (is_set : ℕ → Bool) (n first : ℕ) : Type 0 where
  pub within : first + n ≤ 32
  pub clear : (i : ℕ) → first ≤ i → i < first + n → is_set i ≡ false

pub clear_run-true : (is_set : ℕ → Bool) (n first : ℕ) → is_clear_run is_set n first ≡ true → HasClearRun is_set n first
clear_run-true is_set n first holds =
    let both = and_parts (nat_le (first + n) 32) (list_all (λ i. not (is_set i)) (range_with_len first n)) holds in
    record {
      within = leb-true (first + n) 32 both.0;
      clear = λ i low high. not-true (is_set i) (list_all-range (λ i. not (is_set i)) first n both.1 i low high);
    }

pub clear_run-from : (is_set : ℕ → Bool) (n first : ℕ) → first + n ≤ 32 → ((i : ℕ) → first ≤ i → i < first + n → is_set i ≡ false) → is_clear_run is_set n first ≡ true
clear_run-from is_set n first within clear =
    and_from _ _ (le-leb (first + n) 32 within)
    (list_all-range_from (λ i. not (is_set i)) first n (λ i low high. not_from_false (is_set i) (clear i low high)))

pub fit_of-some : (is_set : ℕ → Bool) (n start first : ℕ) → fit_of is_set n start ≡ Some first → HasClearRun is_set n first
fit_of-some is_set n start first found =
    clear_run-true is_set n first (find-passes (is_clear_run is_set n) (cyclic 32 start) first found)

pub fit_of-none : (is_set : ℕ → Bool) (n start : ℕ) → fit_of is_set n start ≡ None → (first : ℕ) → first < 32 → is_clear_run is_set n first ≡ false
fit_of-none is_set n start none first lt = find-cyclic_none (is_clear_run is_set n) 32 start none first lt

-- the same of an answer that is a fit
pub IfSome-fit : (is_set : ℕ → Bool) (n start : ℕ) (answer : Option ℕ) → answer ≡ fit_of is_set n start → IfSome answer (HasClearRun is_set n)
IfSome-fit is_set n start None same = tt
IfSome-fit is_set n start (Some first) same = fit_of-some is_set n start first (sym same)
