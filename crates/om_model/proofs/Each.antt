-- What holds of each element of a list, and of each pair, where the list is filtered or gets one more.
use Rattle.std.proofs.Common.{◌≡◌, ℕ, zero, suc, ◌+◌, ◌<◌, ◌≤◌, Bool, true, false, ◌||◌, List, [], ◌∷◌, ◌++◌, cond, Some, None, refl, ap, ◌∙◌, subst, arith}
use Rattle.std.specs.List.{list_any, filter, find, slice_get, range_with_len, AllByRecursion}
use Rattle.std.proofs.lemmas.Bool.{cases_Bool, cases_eq, or_left}
use mathlib.Core.Logic.{⊎_elim}
use Rattle.om_model.specs.Pool.WellFormed.{EachPair}

-- ---- each element

pub all-weaker : {X : Type 0} (P Q : X → Type 0) (xs : List X) → ((x : X) → P x → Q x) → AllByRecursion P xs → AllByRecursion Q xs
all-weaker P Q [] step all = tt
all-weaker P Q (x ∷ xs) step all = (step x all.0, all-weaker P Q xs step all.1)

pub all-both : {X : Type 0} (P Q R : X → Type 0) (xs : List X) → ((x : X) → P x → Q x → R x) → AllByRecursion P xs → AllByRecursion Q xs → AllByRecursion R xs
all-both P Q R [] step first second = tt
all-both P Q R (x ∷ xs) step first second = (step x first.0 second.0, all-both P Q R xs step first.1 second.1)

-- what is so of all, at each index, is at each index so of each
pub all-each : {I X : Type 0} (P : I → Type 0) (Q : I → X → Type 0) (xs : List X) → ((i : I) → P i → AllByRecursion (Q i) xs) → AllByRecursion (λ x. (i : I) → P i → Q i x) xs
all-each P Q [] each = tt
all-each P Q (x ∷ xs) each = ((λ i here. (each i here).0), all-each P Q xs (λ i here. (each i here).1))

pub all-append : {X : Type 0} (P : X → Type 0) (xs ys : List X) → AllByRecursion P xs → AllByRecursion P ys → AllByRecursion P (xs ++ ys)
all-append P [] ys first second = second
all-append P (x ∷ xs) ys first second = (first.0, all-append P xs ys first.1 second)

pub all-first : {X : Type 0} (P : X → Type 0) (xs ys : List X) → AllByRecursion P (xs ++ ys) → AllByRecursion P xs
all-first P [] ys all = tt
all-first P (x ∷ xs) ys all = (all.0, all-first P xs ys all.1)

pub all-second : {X : Type 0} (P : X → Type 0) (xs ys : List X) → AllByRecursion P (xs ++ ys) → AllByRecursion P ys
all-second P [] ys all = all
all-second P (x ∷ xs) ys all = all-second P xs ys all.1

all-cond : {X : Type 0} (P : X → Type 0) (here : Bool) (x : X) (xs : List X) → (here ≡ true → P x) → AllByRecursion P xs → AllByRecursion P (cond here (x ∷ xs) xs)
all-cond P true x xs first rest = (first refl, rest)
all-cond P false x xs first rest = rest

pub all-filter : {X : Type 0} (P : X → Type 0) (test : X → Bool) (xs : List X) → AllByRecursion P xs → AllByRecursion P (filter test xs)
all-filter P test [] all = all
all-filter P test (x ∷ xs) all = all-cond P (test x) x (filter test xs) (λ passes. all.0) (all-filter P test xs all.1)

pub passes-filter : {X : Type 0} (test : X → Bool) (xs : List X) → AllByRecursion (λ x. test x ≡ true) (filter test xs)
passes-filter test [] = tt
passes-filter test (x ∷ xs) = all-cond (λ y. test y ≡ true) (test x) x (filter test xs) (λ passes. passes) (passes-filter test xs)

pub all-find : {X : Type 0} (P : X → Type 0) (test : X → Bool) (xs : List X) (y : X) → AllByRecursion P xs → find test xs ≡ Some y → P y
all-find P test [] y all found = cc
all-find {X} P test (x ∷ xs) y all found = ⊎_elim
    (λ t. let here : Some x ≡ Some y = rw t at found in let same : x ≡ y = cc in subst P same all.0)
    (λ f. all-find P test xs y all.1 (rw f at found))
    (cases_Bool (test x))

pub all-get : {X : Type 0} (P : X → Type 0) (xs : List X) (i : ℕ) (y : X) → AllByRecursion P xs → slice_get xs i ≡ Some y → P y
all-get P [] i y all found = cc
all-get P (x ∷ xs) zero y all found = let same : x ≡ y = cc in subst P same all.0
all-get P (x ∷ xs) (suc i) y all found = all-get P xs i y all.1 found

-- ---- tests of which none holds, or one does

pub or_none : (a b : Bool) → (a || b) ≡ false → (a ≡ false) × (b ≡ false)
or_none true b e = cc
or_none false b e = (refl, e)

pub or_some : (a b : Bool) → a ≡ false → (a || b) ≡ true → b ≡ true
or_some true b e some = cc
or_some false b e some = some

pub none-any : {X : Type 0} (test : X → Bool) (xs : List X) → list_any test xs ≡ false → AllByRecursion (λ x. test x ≡ false) xs
none-any test [] none = tt
none-any test (x ∷ xs) none =
    let parts = or_none (test x) (list_any test xs) none in
    (parts.0, none-any test xs parts.1)

pub any-none : {X : Type 0} (test : X → Bool) (xs : List X) → AllByRecursion (λ x. test x ≡ false) xs → list_any test xs ≡ false
any-none test [] all = refl
any-none test (x ∷ xs) all = rw all.0 (any-none test xs all.1)

pub any-range : (test : ℕ → Bool) (n : ℕ) → 0 < n → test 0 ≡ true → list_any test (range_with_len 0 n) ≡ true
any-range test zero some passes = absurd (omega arith)
any-range test (suc n) some passes = or_left (test 0) (list_any test (range_with_len 1 n)) passes

pub none-range : (test : ℕ → Bool) (a n : ℕ) → list_any test (range_with_len a n) ≡ false → (i : ℕ) → a ≤ i → i < a + n → test i ≡ false
none-range test a zero none i low high = absurd (omega arith)
none-range test a (suc n) none i low high =
    let parts = or_none (test a) (list_any test (range_with_len (a + 1) n)) none in
    ⊎_elim
    (λ here. ap test here ∙ parts.0)
    (λ other. none-range test (a + 1) n parts.1 i (omega arith) (omega arith))
    (cases_eq i a)

-- an element that passes the test, and what holds of each
pub record Passing {X : Type 0} (test : X → Bool) (P : X → Type 0) : Type 0 where
  pub element : X
  pub passes : test element ≡ true
  pub holds : P element

pub any-passing : {X : Type 0} (test : X → Bool) (P : X → Type 0) (xs : List X) → list_any test xs ≡ true → AllByRecursion P xs → Passing test P
any-passing test P [] some all = cc
any-passing test P (x ∷ xs) some all = ⊎_elim
    (λ t. record { element = x; passes = t; holds = all.0 })
    (λ f. any-passing test P xs (or_some (test x) (list_any test xs) f some) all.1)
    (cases_Bool (test x))

pub all-range : (a n : ℕ) → AllByRecursion (λ i. i < a + n) (range_with_len a n)
all-range a zero = tt
all-range a (suc n) = (omega arith, all-weaker (λ i. i < (a + 1) + n) (λ i. i < a + suc n) (range_with_len (a + 1) n) (λ i lt. omega arith) (all-range (a + 1) n))

-- ---- each pair

pub pairs-weaker : {X : Type 0} (R S : X → X → Type 0) (xs : List X) → ((a b : X) → R a b → S a b) → EachPair R xs → EachPair S xs
pairs-weaker R S [] step pairs = tt
pairs-weaker R S (x ∷ xs) step pairs = (all-weaker (R x) (S x) xs (λ y. step x y) pairs.0, pairs-weaker R S xs step pairs.1)

pub pairs-both : {X : Type 0} (R S T : X → X → Type 0) (xs : List X) → ((a b : X) → R a b → S a b → T a b) → EachPair R xs → EachPair S xs → EachPair T xs
pairs-both R S T [] step first second = tt
pairs-both R S T (x ∷ xs) step first second = (all-both (R x) (S x) (T x) xs (λ y. step x y) first.0 second.0, pairs-both R S T xs step first.1 second.1)

pub pairs-first : {X : Type 0} (R : X → X → Type 0) (xs ys : List X) → EachPair R (xs ++ ys) → EachPair R xs
pairs-first R [] ys pairs = tt
pairs-first R (x ∷ xs) ys pairs = (all-first (R x) xs ys pairs.0, pairs-first R xs ys pairs.1)

pub pairs-second : {X : Type 0} (R : X → X → Type 0) (xs ys : List X) → EachPair R (xs ++ ys) → EachPair R ys
pairs-second R [] ys pairs = pairs
pairs-second R (x ∷ xs) ys pairs = pairs-second R xs ys pairs.1

pub pairs-across : {X : Type 0} (R : X → X → Type 0) (xs ys : List X) → EachPair R (xs ++ ys) → AllByRecursion (λ x. AllByRecursion (R x) ys) xs
pairs-across R [] ys pairs = tt
pairs-across R (x ∷ xs) ys pairs = (all-second (R x) xs ys pairs.0, pairs-across R xs ys pairs.1)

pub pairs-append : {X : Type 0} (R : X → X → Type 0) (xs ys : List X) → EachPair R xs → EachPair R ys → AllByRecursion (λ x. AllByRecursion (R x) ys) xs → EachPair R (xs ++ ys)
pairs-append R [] ys first second across = second
pairs-append R (x ∷ xs) ys first second across = (all-append (R x) xs ys first.0 across.0, pairs-append R xs ys first.1 second across.1)

pairs-cond : {X : Type 0} (R : X → X → Type 0) (here : Bool) (x : X) (xs : List X) → AllByRecursion (R x) xs → EachPair R xs → EachPair R (cond here (x ∷ xs) xs)
pairs-cond R true x xs first rest = (first, rest)
pairs-cond R false x xs first rest = rest

pub pairs-filter : {X : Type 0} (R : X → X → Type 0) (test : X → Bool) (xs : List X) → EachPair R xs → EachPair R (filter test xs)
pairs-filter R test [] pairs = pairs
pairs-filter R test (x ∷ xs) pairs = pairs-cond R (test x) x (filter test xs) (all-filter (R x) test xs pairs.0) (pairs-filter R test xs pairs.1)

-- a symmetric relation of each pair holds of each element and every one
pub pairs-all : {X : Type 0} (R : X → X → Type 0) (xs : List X) → ((a : X) → R a a) → ((a b : X) → R a b → R b a) → EachPair R xs → AllByRecursion (λ y. AllByRecursion (R y) xs) xs
pairs-all R [] self swap pairs = tt
pairs-all R (x ∷ xs) self swap pairs = (
  (self x, pairs.0),
  all-both (λ y. AllByRecursion (R y) xs) (λ y. R y x) (λ y. AllByRecursion (R y) (x ∷ xs)) xs (λ y all back. (back, all)) (pairs-all R xs self swap pairs.1) (all-weaker (R x) (λ y. R y x) xs (λ y. swap x y) pairs.0),
)

-- ---- two lists

abbrev pub Across : {X : Type 0} → (X → X → Type 0) → List X → List X → Type 0
Across R xs ys = AllByRecursion (λ x. AllByRecursion (R x) ys) xs

pub across-swap : {X : Type 0} (R : X → X → Type 0) (xs ys : List X) → ((a b : X) → R a b → R b a) → Across R xs ys → Across R ys xs
across-swap R xs [] swap all = tt
across-swap R xs (y ∷ ys) swap all = (
  all-weaker (λ x. AllByRecursion (R x) (y ∷ ys)) (R y) xs (λ x both. swap x y both.0) all,
  across-swap R xs ys swap (all-weaker (λ x. AllByRecursion (R x) (y ∷ ys)) (λ x. AllByRecursion (R x) ys) xs (λ x both. both.1) all),
)

-- more stand between two lists
pub all-between : {X : Type 0} (P : X → Type 0) (new xs ys : List X) → AllByRecursion P new → AllByRecursion P (xs ++ ys) → AllByRecursion P ((xs ++ new) ++ ys)
all-between P new xs ys own all = all-append P (xs ++ new) ys (all-append P xs new (all-first P xs ys all) own) (all-second P xs ys all)

pub pairs-between : {X : Type 0} (R : X → X → Type 0) (new xs ys : List X) → ((a b : X) → R a b → R b a) → EachPair R new → Across R new (xs ++ ys) → EachPair R (xs ++ ys) → EachPair R ((xs ++ new) ++ ys)
pairs-between R new xs ys swap own others pairs =
    pairs-append R (xs ++ new) ys
    (pairs-append R xs new (pairs-first R xs ys pairs) own
    (across-swap R new xs swap (all-weaker (λ u. AllByRecursion (R u) (xs ++ ys)) (λ u. AllByRecursion (R u) xs) new (λ u. all-first (R u) xs ys) others)))
    (pairs-second R xs ys pairs)
    (all-append (λ x. AllByRecursion (R x) ys) xs new (pairs-across R xs ys pairs)
    (all-weaker (λ u. AllByRecursion (R u) (xs ++ ys)) (λ u. AllByRecursion (R u) ys) new (λ u. all-second (R u) xs ys) others))

-- ---- searches

pub find-nothing : {X : Type 0} (test : X → Bool) (xs : List X) → AllByRecursion (λ x. test x ≡ false) xs → find test xs ≡ None
find-nothing test [] all = refl
find-nothing test (x ∷ xs) all = rw all.0 (find-nothing test xs all.1)

pub none-found : {X : Type 0} (test : X → Bool) (xs : List X) → find test xs ≡ None → AllByRecursion (λ x. test x ≡ false) xs
none-found test [] none = tt
none-found test (x ∷ xs) none = ⊎_elim
    (λ t. let isnt : Some x ≡ None = rw t at none in cc)
    (λ f. (f, none-found test xs (rw f at none)))
    (cases_Bool (test x))
