-- What holds of every class, and of the class and the pages of a size.
use Rattle.std.proofs.Common.{◌≡◌, ℕ, ◌+◌, ◌*◌, ◌<◌, ◌≤◌, Bool, true, false, ◌||◌, if◌then◌else◌, List, [], ◌∷◌, Some, refl, sym, subst, ◌∙◌, arith, nat_eq, nat_le, IsTrue, lit≤}
use Rattle.std.specs.List.{find, list_any}
use Rattle.std.proofs.lemmas.Bool.{cases_Bool, cases_eq, ne_eqb, or_cases, or_left, or_right, eqb-true, eq-eqb, leb-true}
use Rattle.std.proofs.Math.Nat.{mul-le-mul_right}
use Rattle.om_geom.specs.Classes.{chunk_classes, is_class, least_class, class_of, stride_of, places_of, data_pages}
use Rattle.om_geom.specs.FitLaws.{find-passes}
use mathlib.Core.Logic.{⊎_elim}

-- ---- every class

some_of : (P : ℕ → Type 0) (class value : ℕ) (rest : Bool) → P value → (rest ≡ true → P class) → (nat_eq class value || rest) ≡ true → P class
some_of P class value rest here other some = ⊎_elim
    (λ same. subst P (sym (eqb-true class value same)) here)
    other
    (or_cases (nat_eq class value) rest some)

-- what holds of each of the nine holds of a class
pub class-cases : (P : ℕ → Type 0) → P 0 → P 16 → P 32 → P 64 → P 128 → P 256 → P 512 → P 1024 → P 2048 → (class : ℕ) → IsTrue (is_class class) → P class
class-cases P p0 p16 p32 p64 p128 p256 p512 p1024 p2048 class given =
    some_of P class 0 _ p0
    (some_of P class 16 _ p16
    (some_of P class 32 _ p32
    (some_of P class 64 _ p64
    (some_of P class 128 _ p128
    (some_of P class 256 _ p256
    (some_of P class 512 _ p512
    (some_of P class 1024 _ p1024
    (some_of P class 2048 _ p2048 (λ none. cc)))))))))
    given

pub stride-at_least_16 : (class : ℕ) → IsTrue (is_class class) → 16 ≤ stride_of class
stride-at_least_16 = class-cases (λ class. 16 ≤ stride_of class) (lit≤ tt) (lit≤ tt) (lit≤ tt) (lit≤ tt) (lit≤ tt) (lit≤ tt) (lit≤ tt) (lit≤ tt) (lit≤ tt)

pub stride-at_most_2048 : (class : ℕ) → IsTrue (is_class class) → stride_of class ≤ 2048
stride-at_most_2048 = class-cases (λ class. stride_of class ≤ 2048) (lit≤ tt) (lit≤ tt) (lit≤ tt) (lit≤ tt) (lit≤ tt) (lit≤ tt) (lit≤ tt) (lit≤ tt) (lit≤ tt)

pub stride-positive : (class : ℕ) → IsTrue (is_class class) → 0 < stride_of class
stride-positive class given = omega (arith, stride-at_least_16 class given)

-- the places of a class have room on a page
pub places-within : (class : ℕ) → IsTrue (is_class class) → places_of class * stride_of class ≤ 4096
places-within = class-cases (λ class. places_of class * stride_of class ≤ 4096) (lit≤ tt) (lit≤ tt) (lit≤ tt) (lit≤ tt) (lit≤ tt) (lit≤ tt) (lit≤ tt) (lit≤ tt) (lit≤ tt)

pub places-at_least_2 : (class : ℕ) → IsTrue (is_class class) → 2 ≤ places_of class
places-at_least_2 = class-cases (λ class. 2 ≤ places_of class) (lit≤ tt) (lit≤ tt) (lit≤ tt) (lit≤ tt) (lit≤ tt) (lit≤ tt) (lit≤ tt) (lit≤ tt) (lit≤ tt)

pub places-at_most_256 : (class : ℕ) → IsTrue (is_class class) → places_of class ≤ 256
places-at_most_256 = class-cases (λ class. places_of class ≤ 256) (lit≤ tt) (lit≤ tt) (lit≤ tt) (lit≤ tt) (lit≤ tt) (lit≤ tt) (lit≤ tt) (lit≤ tt) (lit≤ tt)

-- each place lies on the page
pub place-within : (class place : ℕ) → IsTrue (is_class class) → place < places_of class → place * stride_of class + stride_of class ≤ 4096
place-within class place given lt = omega (arith, places-within class given, mul-le-mul_right (stride_of class) lt)

-- ---- the class of a size

any-of_found : (test : ℕ → Bool) (all : List ℕ) (class : ℕ) → find test all ≡ Some class → list_any (nat_eq class) all ≡ true
any-of_found test [] class found = cc
any-of_found test (value ∷ all) class found = ⊎_elim
    (λ t. let here : Some value ≡ Some class = rw t at found in let same : value ≡ class = cc in or_left _ _ (eq-eqb class value (sym same)))
    (λ f. or_right _ _ (any-of_found test all class (rw f at found)))
    (cases_Bool (test value))

pub least_class-is_class : (n class : ℕ) → least_class n ≡ Some class → IsTrue (is_class class)
least_class-is_class n class found = or_right _ _ (any-of_found (nat_le n) chunk_classes class found)

pub least_class-holds : (n class : ℕ) → least_class n ≡ Some class → n ≤ class
least_class-holds n class found = leb-true n class (find-passes (nat_le n) chunk_classes class found)

pub class_of-some_size : (size : ℕ) (canary : Bool) → 0 < size → class_of size canary ≡ least_class (if canary then size + 1 else size)
class_of-some_size size canary some = rw (ne_eqb size 0 (λ e. omega arith)) refl

pub class_of-is_class : (size : ℕ) (canary : Bool) (class : ℕ) → class_of size canary ≡ Some class → IsTrue (is_class class)
class_of-is_class size canary class found = ⊎_elim
    (λ none. let here : Some 0 ≡ Some class = rw none at found in let same : 0 ≡ class = cc in subst (λ c. IsTrue (is_class c)) same refl)
    (λ some. least_class-is_class (if canary then size + 1 else size) class (sym (class_of-some_size size canary (omega arith)) ∙ found))
    (cases_eq size 0)

-- a class holds its sizes, with the byte more where canaries are written
pub class_of-holds : (size class : ℕ) → 0 < size → class_of size false ≡ Some class → size ≤ class
class_of-holds size class some found = least_class-holds size class (sym (class_of-some_size size false some) ∙ found)

pub class_of-holds_canary : (size class : ℕ) → 0 < size → class_of size true ≡ Some class → size + 1 ≤ class
class_of-holds_canary size class some found = least_class-holds (size + 1) class (sym (class_of-some_size size true some) ∙ found)

-- ---- the pages of a size

pub data_pages-hold : (size : ℕ) → size ≤ 4096 * data_pages size
data_pages-hold size = omega arith

pub data_pages-tight : (size : ℕ) → 4096 * data_pages size < size + 4096
data_pages-tight size = omega arith
