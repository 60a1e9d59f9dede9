-- What elements make, taken together: what is so of it stays where some elements leave, and where one leaves that is
-- found, what it made is related to what the others make as before.
use Rattle.std.proofs.Common.{◌≡◌, Bool, true, false, not, List, [], ◌∷◌, ◌++◌, cond, Some, subst}
use Rattle.std.specs.List.{filter, find, flat_map, AllByRecursion}
use Rattle.std.proofs.lemmas.Bool.{cases_Bool}
use mathlib.Core.Logic.{⊎_elim}
use Rattle.om_model.specs.Pool.WellFormed.{EachPair}
use Rattle.om_model.proofs.Each.{Across, all-weaker, all-both, all-append, all-first, all-second, all-find, across-swap, pairs-append, pairs-first, pairs-second, pairs-across}

module _ {X Y : Type 0} (f : X → List Y) where
  pub all-flat : (P : Y → Type 0) (xs : List X) → AllByRecursion P (flat_map f xs) → AllByRecursion (λ x. AllByRecursion P (f x)) xs
  all-flat P [] all = tt
  all-flat P (x ∷ xs) all = (all-first P (f x) (flat_map f xs) all, all-flat P xs (all-second P (f x) (flat_map f xs) all))

  all-cond : (P : Y → Type 0) (kept : Bool) (x : X) (xs : List X) → AllByRecursion P (f x) → AllByRecursion P (flat_map f xs) → AllByRecursion P (flat_map f (cond kept (x ∷ xs) xs))
  all-cond P true x xs first rest = all-append P (f x) (flat_map f xs) first rest
  all-cond P false x xs first rest = rest

  pub all-flat_filter : (P : Y → Type 0) (test : X → Bool) (xs : List X) → AllByRecursion P (flat_map f xs) → AllByRecursion P (flat_map f (filter test xs))
  all-flat_filter P test [] all = tt
  all-flat_filter P test (x ∷ xs) all =
      all-cond P (test x) x (filter test xs) (all-first P (f x) (flat_map f xs) all) (all-flat_filter P test xs (all-second P (f x) (flat_map f xs) all))

  pairs-cond : (R : Y → Y → Type 0) (kept : Bool) (x : X) (xs : List X) → EachPair R (f x) → Across R (f x) (flat_map f xs) → EachPair R (flat_map f xs) → EachPair R (flat_map f (cond kept (x ∷ xs) xs))
  pairs-cond R true x xs first across rest = pairs-append R (f x) (flat_map f xs) first rest across
  pairs-cond R false x xs first across rest = rest

  -- what one makes stands so to what the others make that are kept
  across-filter : (R : Y → Y → Type 0) (test : X → Bool) (x : X) (xs : List X) → EachPair R (f x ++ flat_map f xs) → Across R (f x) (flat_map f (filter test xs))
  across-filter R test x xs pairs =
      all-weaker (λ u. AllByRecursion (R u) (flat_map f xs)) (λ u. AllByRecursion (R u) (flat_map f (filter test xs))) (f x)
      (λ u. all-flat_filter (R u) test xs) (pairs-across R (f x) (flat_map f xs) pairs)

  pub pairs-flat_filter : (R : Y → Y → Type 0) (test : X → Bool) (xs : List X) → EachPair R (flat_map f xs) → EachPair R (flat_map f (filter test xs))
  pairs-flat_filter R test [] pairs = tt
  pairs-flat_filter R test (x ∷ xs) pairs =
      pairs-cond R (test x) x (filter test xs) (pairs-first R (f x) (flat_map f xs) pairs) (across-filter R test x xs pairs)
      (pairs-flat_filter R test xs (pairs-second R (f x) (flat_map f xs) pairs))

  -- what was made by the one that is found, and what those make that the test doesn't take
  pub across-left : (R : Y → Y → Type 0) (test : X → Bool) (xs : List X) (b : X) → ((u v : Y) → R u v → R v u) → find test xs ≡ Some b → EachPair R (flat_map f xs) → Across R (f b) (flat_map f (filter (λ x. not (test x)) xs))
  across-left R test [] b swap found pairs = cc
  across-left R test (x ∷ xs) b swap found pairs =
      let kept : X → Bool = λ y. not (test y) in
      let left = flat_map f (filter kept xs) in
      ⊎_elim
      (λ t.
      let here : Some x ≡ Some b = rw t at found in
      let same : x ≡ b = cc in
      let P : X → Type 0 = λ y. Across R (f y) left in
      rw t (subst P same (across-filter R kept x xs pairs)))
      (λ isnt.
      let later : find test xs ≡ Some b = rw isnt at found in
      let before = all-weaker (λ u. AllByRecursion (R u) (flat_map f xs)) (λ u. AllByRecursion (R u) (f b)) (f x)
      (λ u all. all-find (λ y. AllByRecursion (R u) (f y)) test xs b (all-flat (R u) xs all) later) (pairs-across R (f x) (flat_map f xs) pairs) in
      rw isnt (all-both (λ u. AllByRecursion (R u) (f x)) (λ u. AllByRecursion (R u) left) (λ u. AllByRecursion (R u) (f x ++ left)) (f b)
      (λ u. all-append (R u) (f x) left) (across-swap R (f x) (f b) swap before) (across-left R test xs b swap later (pairs-second R (f x) (flat_map f xs) pairs))))
      (cases_Bool (test x))
