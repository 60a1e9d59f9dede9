-- Counts over lists and over views, and beginnings of lists.
use Rattle.std.proofs.Common.{◌≡◌, ◌≢◌, ℕ, zero, suc, ◌+◌, ◌<◌, ◌≤◌, ◌==◌, Bool, true, false, ◌||◌, ◌⊎◌, inl, inr, ⊎_elim, List, [], ◌∷◌, ◌++◌, length, get_or, set, Option, Some, None, refl, sym, ap, subst, ◌∙◌, arith, append_assoc, length-append}
use Rattle.std.specs.List.{slice_get, Contains}
use Rattle.std.proofs.lemmas.Bool.Decides.{nat_tests}
use Rattle.std.proofs.lemmas.List.{append-nil}
use mathlib.Core.List.{IsPrefix}
use mathlib.Core.Option.{some, some-injective, some-ne-none}
use mathlib.Core.Logic.{dite}
use native.Mathlib.Decide.{ℕ_discrete}
use lib.ListN.{get_elem?}
use Rattle.om_turn.specs.Entries.{once, below, total, times, times_at, mark, listed, placed}
use Rattle.om_turn.specs.Views.{new_marks}

pub below_next : (n k : ℕ) → below (n + 1) k ≡ below n k + once (n == k)
below_next n k = grind (arith, nat_tests)

pub below_in : (n k : ℕ) → k < n → below n k ≡ 1
below_in n k h = grind (arith, nat_tests)

pub below_out : (n k : ℕ) → n ≤ k → below n k ≡ 0
below_out n k h = grind (arith, nat_tests)

pub below_most : (n k : ℕ) → below n k ≤ 1
below_most n k = grind (arith, nat_tests)

pub in_range : (low high k : ℕ) → 1 + below low k ≤ below high k → (low ≤ k) × (k < high)
in_range low high k h = (grind (arith, nat_tests), grind (arith, nat_tests))

pub once_same : (n : ℕ) → once (n == n) ≡ 1
once_same n = grind (arith, nat_tests)

pub once_other : (n k : ℕ) → n ≢ k → once (n == k) ≡ 0
once_other n k h = grind (arith, nat_tests)

pub once_is : (n k : ℕ) → 1 ≤ once (n == k) → n ≡ k
once_is n k h = grind (arith, nat_tests)

pub set_at : {A : Type 0} (xs : List A) (i : ℕ) (x y : A) → get_elem? xs i ≡ some x → get_elem? (set xs i y) i ≡ some y
set_at [] i x y e = absurd (some-ne-none x (sym e))
set_at (z ∷ xs) zero x y e = refl
set_at (z ∷ xs) (suc i) x y e = set_at xs i x y e

pub within : {A : Type 0} (i : ℕ) (xs : List A) (x : A) → get_elem? xs i ≡ some x → i < length xs
within i [] x e = absurd (some-ne-none x (sym e))
within zero (z ∷ xs) x e = omega arith
within (suc i) (z ∷ xs) x e = let l = within i xs x e in omega arith

pub at_front : {A : Type 0} (xs ys : List A) (i : ℕ) → i < length xs → get_elem? (xs ++ ys) i ≡ get_elem? xs i
at_front [] ys i h = absurd (omega arith)
at_front (x ∷ xs) ys zero h = refl
at_front (x ∷ xs) ys (suc i) h = at_front xs ys i (omega arith)

module _ {A : Type 0} (f : A → ℕ) where
  pub total-append : (xs ys : List A) → total f (xs ++ ys) ≡ total f xs + total f ys
  total-append [] ys = omega arith
  total-append (x ∷ xs) ys = omega (arith, total-append xs ys)

  pub total_push : (xs : List A) (y : A) → total f (xs ++ y ∷ []) ≡ total f xs + f y
  total_push xs y = omega (arith, total-append xs (y ∷ []))

  pub total-set : (xs : List A) (i : ℕ) (x y : A) → get_elem? xs i ≡ some x → total f (set xs i y) + f x ≡ total f xs + f y
  total-set [] i x y e = absurd (some-ne-none x (sym e))
  total-set (z ∷ xs) zero x y e = let same : f z ≡ f x = ap f (some-injective z x e) in omega arith
  total-set (z ∷ xs) (suc i) x y e = omega (arith, total-set xs i x y e)

  pub part_of_total : (xs : List A) (i : ℕ) (x : A) → get_elem? xs i ≡ some x → f x ≤ total f xs
  part_of_total [] i x e = absurd (some-ne-none x (sym e))
  part_of_total (z ∷ xs) zero x e = let same : f z ≡ f x = ap f (some-injective z x e) in omega arith
  part_of_total (z ∷ xs) (suc i) x e = omega (arith, part_of_total xs i x e)

  pub two_of_total : (xs : List A) (i j : ℕ) (x y : A) → i ≢ j → get_elem? xs i ≡ some x → get_elem? xs j ≡ some y → f x + f y ≤ total f xs
  two_of_total [] i j x y n e d = absurd (some-ne-none x (sym e))
  two_of_total (z ∷ xs) zero zero x y n e d = absurd (n refl)
  two_of_total (z ∷ xs) zero (suc j) x y n e d = let same : f z ≡ f x = ap f (some-injective z x e) in omega (arith, part_of_total xs j y d)
  two_of_total (z ∷ xs) (suc i) zero x y n e d = let same : f z ≡ f y = ap f (some-injective z y d) in omega (arith, part_of_total xs i x e)
  two_of_total (z ∷ xs) (suc i) (suc j) x y n e d = omega (arith, two_of_total xs i j x y (λ h. n (ap suc h)) e d)

  pub total_zero : (xs : List A) → ((i : ℕ) (x : A) → get_elem? xs i ≡ some x → f x ≡ 0) → total f xs ≡ 0
  total_zero [] h = refl
  total_zero (x ∷ xs) h = omega (arith, h 0 x refl, total_zero xs (λ i y. h (suc i) y))

  -- one view alone counts where it has all of it
  pub whole_total : (xs : List A) (i : ℕ) (x : A) → get_elem? xs i ≡ some x → ((j : ℕ) (y : A) → j ≢ i → get_elem? xs j ≡ some y → f y ≡ 0) → total f xs ≡ f x
  whole_total [] i x e h = absurd (some-ne-none x (sym e))
  whole_total (z ∷ xs) zero x e h = let same : f z ≡ f x = ap f (some-injective z x e) in let none_else = total_zero xs (λ j y d. h (suc j) y (λ s. absurd (omega arith)) d) in omega arith
  whole_total (z ∷ xs) (suc i) x e h = let none_here = h 0 z (λ s. absurd (omega arith)) refl in omega (arith, whole_total xs i x e (λ j y n d. h (suc j) y (λ s. n (omega arith)) d))

times_at_index : (m : ℕ) (xs : List ℕ) (k : ℕ) → k < length xs → get_or xs k m ≡ m → 1 ≤ times m xs
times_at_index m [] k l e = absurd (omega arith)
times_at_index m (x ∷ xs) zero l e = let h : once (x == m) ≡ 1 = ap (λ (z : ℕ). once (z == m)) e ∙ once_same m in omega arith
times_at_index m (x ∷ xs) (suc k) l e = omega (arith, times_at_index m xs k (omega arith) e)

pub times_in : (m : ℕ) (xs : List ℕ) → Contains xs m → 1 ≤ times m xs
times_in m xs c = times_at_index m xs c.0 c.1 c.2

pub times_out : (m : ℕ) (xs : List ℕ) → ¬ Contains xs m → times m xs ≡ 0
times_out m [] n = refl
times_out m (x ∷ xs) n = let here = once_other x m (λ e. n (0, omega arith, e)) in omega (arith, times_out m xs (λ c. n (suc c.0, (let l = c.1 in omega arith), c.2)))

module _ {E : Type 0} where
  in_front : (p : ℕ × E) (ps : List (ℕ × E)) (x : ℕ × E) → Contains ps x → Contains (p ∷ ps) x
  in_front p ps x c = (suc c.0, (let l = c.1 in omega arith), c.2)

  pub held_at : (k : ℕ) (held : List (ℕ × E)) → 1 ≤ times_at k held → (e : E) × Contains held (k, e)
  held_at k [] h = absurd (omega arith)
  held_at k (p ∷ ps) h = dite (ℕ_discrete p.0 k) (λ e. (p.1, (0, omega arith, λ i. (e i, p.1))))
      (λ n. let none_here = once_other p.0 k n in let c = held_at k ps (omega arith) in (c.0, in_front p ps (k, c.0) c.1))

  held_at_index : (held : List (ℕ × E)) (k : ℕ) (e : E) (i : ℕ) → i < length held → get_or held i (k, e) ≡ (k, e) → 1 ≤ times_at k held
  held_at_index [] k e i l h = absurd (omega arith)
  held_at_index (p ∷ ps) k e zero l h = let here : once (p.0 == k) ≡ 1 = ap (λ (z : ℕ × E). once (z.0 == k)) h ∙ once_same k in omega arith
  held_at_index (p ∷ ps) k e (suc i) l h = omega (arith, held_at_index ps k e i (omega arith) h)

  -- an entry that is held counts at its place
  pub held_counts : (held : List (ℕ × E)) (k : ℕ) (e : E) → Contains held (k, e) → 1 ≤ times_at k held
  held_counts held k e c = held_at_index held k e c.0 c.1 c.2

  pub none_held : (k : ℕ) (held : List (ℕ × E)) → length held ≡ 0 → times_at k held ≡ 0
  none_held k [] h = refl
  none_held k (p ∷ ps) h = absurd (omega arith)

  pub get_longer : (xs ys : List E) (k : ℕ) (e : E) → slice_get xs k ≡ Some e → slice_get (xs ++ ys) k ≡ Some e
  get_longer [] ys k e h = cc
  get_longer (x ∷ xs) ys zero e h = h
  get_longer (x ∷ xs) ys (suc k) e h = get_longer xs ys k e h

  pub get_last : (xs : List E) (e : E) → slice_get (xs ++ e ∷ []) (length xs) ≡ Some e
  get_last [] e = refl
  get_last (x ∷ xs) e = get_last xs e

  -- the entry is one of the list, or the last one
  pub get_pushed : (xs : List E) (y e : E) (k : ℕ) → slice_get (xs ++ y ∷ []) k ≡ Some e → (slice_get xs k ≡ Some e) ⊎ ((k ≡ length xs) × (y ≡ e))
  get_pushed [] y e zero h = inr (refl, cc)
  get_pushed [] y e (suc k) h = cc
  get_pushed (x ∷ xs) y e zero h = inl h
  get_pushed (x ∷ xs) y e (suc k) h = ⊎_elim inl (λ t. inr (ap suc t.0, t.1)) (get_pushed xs y e k h)

  pub get_within : (xs : List E) (k : ℕ) (e : E) → slice_get xs k ≡ Some e → k < length xs
  get_within [] k e h = cc
  get_within (x ∷ xs) zero e h = omega arith
  get_within (x ∷ xs) (suc k) e h = let l = get_within xs k e h in omega arith

  pub prefix_get : (xs ys : List E) (k : ℕ) (e : E) → IsPrefix xs ys → slice_get xs k ≡ Some e → slice_get ys k ≡ Some e
  prefix_get xs ys k e p h = subst (λ (z : List E). slice_get z k ≡ Some e) p.1 (get_longer xs p.0 k e h)

  pub prefix_same : (xs : List E) → IsPrefix xs xs
  prefix_same xs = ([], append-nil xs)

  pub prefix_longer : (xs ys zs : List E) → IsPrefix xs ys → IsPrefix xs (ys ++ zs)
  prefix_longer xs ys zs p = (p.0 ++ zs, sym (append_assoc xs p.0 zs) ∙ ap (λ (z : List E). z ++ zs) p.1)

pub mark_positive : (p n : ℕ) → 0 < mark p n
mark_positive zero n = omega arith
mark_positive (suc p) n = let h = mark_positive p n in omega arith

-- no two marks are equal
pub mark_once : (p n q m : ℕ) → mark p n ≡ mark q m → (p ≡ q) × (n ≡ m)
mark_once zero n zero m e = (refl, omega arith)
mark_once zero n (suc q) m e = absurd (omega arith)
mark_once (suc p) n zero m e = absurd (omega arith)
mark_once (suc p) n (suc q) m e = let h = mark_once p n q m (omega arith) in (ap suc h.0, h.1)

-- what a turn adds
module _ {E : Type 0} where
  pub placed_counts : (xs : List E) (added : Option E) (k : ℕ) → below (length (xs ++ listed added)) k ≡ below (length xs) k + times_at k (placed (length xs) added)
  placed_counts xs None k = let e : below (length (xs ++ [])) k ≡ below (length xs) k = ap (λ (ys : List E). below (length ys) k) (append-nil xs) in omega arith
  placed_counts xs (Some e) k = let long : length (xs ++ e ∷ []) ≡ length xs + 1 = length-append xs (e ∷ []) in
      let here : below (length (xs ++ e ∷ [])) k ≡ below (length xs + 1) k = ap (λ (n : ℕ). below n k) long in let next = below_next (length xs) k in omega arith

  pub listed_short : (xs : List E) (added : Option E) → length (xs ++ listed added) ≤ length xs + 1
  listed_short xs None = omega (arith, length-append {A = E} xs [])
  listed_short xs (Some e) = omega (arith, length-append xs (e ∷ []))

  pub placed_short : (held : List (ℕ × E)) (n : ℕ) (added : Option E) → length (held ++ placed n added) ≤ length held + 1
  placed_short held n None = omega (arith, length-append {A = ℕ × E} held [])
  placed_short held n (Some e) = omega (arith, length-append held ((n, e) ∷ []))

  pub get_listed : (xs : List E) (added : Option E) (k : ℕ) (e : E) → slice_get (xs ++ listed added) k ≡ Some e → (slice_get xs k ≡ Some e) ⊎ ((k ≡ length xs) × (added ≡ Some e))
  get_listed xs None k e h = inl (subst (λ (z : List E). slice_get z k ≡ Some e) (append-nil xs) h)
  get_listed xs (Some y) k e h = ⊎_elim inl (λ t. inr (t.0, λ i. Some (t.1 i))) (get_pushed xs y e k h)

  pub get_added : (xs : List E) (added : Option E) (e : E) → added ≡ Some e → slice_get (xs ++ listed added) (length xs) ≡ Some e
  get_added xs added e is = subst (λ (a : Option E). slice_get (xs ++ listed a) (length xs) ≡ Some e) (sym is) (get_last xs e)

  pub placed_has : (n : ℕ) (added : Option E) (e : E) → added ≡ Some e → Contains (placed n added) (n, e)
  placed_has n added e is = subst (λ (a : Option E). Contains (placed n a) (n, e)) (sym is) (0, omega arith, refl)

  in_one : (n k : ℕ) (y e : E) (i : ℕ) → i < 1 → ◌≡◌ {A = ℕ × E} (get_or ((n, y) ∷ []) i (k, e)) (k, e) → (k ≡ n) × (Some y ≡ Some e)
  in_one n k y e zero l h = (sym (λ i. (h i).0), λ i. Some (h i).1)
  in_one n k y e (suc i) l h = absurd (omega arith)

  pub placed_is : (n : ℕ) (added : Option E) (k : ℕ) (e : E) → Contains (placed n added) (k, e) → (k ≡ n) × (added ≡ Some e)
  placed_is n None k e c = let l = c.1 in absurd (omega arith)
  placed_is n (Some y) k e c = in_one n k y e c.0 c.1 c.2

-- the mark of a part
only_one : (x m i : ℕ) → i < 1 → get_or (x ∷ []) i m ≡ m → m ≡ x
only_one x m zero l h = sym h
only_one x m (suc i) l h = absurd (omega arith)

pub new_is : (seat n turns m : ℕ) → Contains (new_marks seat n turns) m → m ≡ mark seat n
new_is seat n zero m c = let l = c.1 in absurd (omega arith)
new_is seat n (suc turns) m c = only_one (mark seat n) m c.0 c.1 c.2

pub new_most : (seat n turns m : ℕ) → times m (new_marks seat n turns) ≤ 1
new_most seat n zero m = omega arith
new_most seat n (suc turns) m = grind (arith, nat_tests)

pub new_other : (seat n turns m : ℕ) → m ≢ mark seat n → times m (new_marks seat n turns) ≡ 0
new_other seat n turns m other = times_out m (new_marks seat n turns) (λ c. other (new_is seat n turns m c))

pub none_in : {A : Type 0} (x : A) → ¬ Contains [] x
none_in x c = let l = c.1 in omega arith

pub once_or : (a b : Bool) → once (a || b) ≤ once a + once b
once_or true b = omega arith
once_or false b = omega arith

pub or_cases : (a b : Bool) → (a || b) ≡ true → (a ≡ true) ⊎ (b ≡ true)
or_cases true b h = inl refl
or_cases false b h = inr h
