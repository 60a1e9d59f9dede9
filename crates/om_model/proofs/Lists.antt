-- Lists, item by item: the items so far and one more, and items with their numbers.
use Rattle.std.proofs.Common.{◌≡◌, ℕ, zero, suc, ◌+◌, ◌≤◌, Some, List, [], ◌∷◌, ◌++◌, length, map, take, refl, sym, ◌∙◌, ap, arith, zero-add}
use Rattle.std.specs.List.{flat_map, slice_get, enumerate_from, range_with_len}
use Rattle.std.specs.Option.{option_map}
use Rattle.std.proofs.lemmas.List.FromFn.{length-enumerate_from, map-range_with_len_more}
use Rattle.std.proofs.lemmas.List.{flat_map_more, take_all}

-- the items so far, and the next
pub take_next : {X : Type 0} (xs : List X) (i : ℕ) (x : X) → slice_get xs i ≡ Some x → take (i + 1) xs ≡ take i xs ++ x ∷ []
take_next [] i x at = cc
take_next (y ∷ ys) zero x at = let same : y ≡ x = cc in ap (λ z. z ∷ []) same
take_next (y ∷ ys) (suc i) x at =
    let next : suc i + 1 ≡ suc (i + 1) = omega arith in
    rw next (ap (λ zs. y ∷ zs) (take_next ys i x at))

-- the text of one item more
pub flat_map_next : {X : Type 0} (f : X → List ℕ) (before : List ℕ) (xs : List X) (i : ℕ) (x : X) →
    slice_get xs i ≡ Some x → (before ++ flat_map f (take i xs)) ++ f x ≡ before ++ flat_map f (take (i + 1) xs)
flat_map_next f before xs i x at =
    rw (take_next xs i x at) (flat_map_more f before (take i xs) x)

-- what the numbers of a range so far give, and the next
pub range_next : {X : Type 0} (f : ℕ → X) (first i : ℕ) (before after : List X) (x : X) → after ≡ before ++ x ∷ [] → before ≡ map f (range_with_len first i) → x ≡ f (first + i)
    → after ≡ map f (range_with_len first (i + 1))
range_next f first i before after x pushed so_far is =
    pushed ∙ ap (λ xs. xs ++ x ∷ []) so_far ∙ ap (λ y. map f (range_with_len first i) ++ y ∷ []) is ∙ sym (map-range_with_len_more f first i (first + i) refl)

-- ---- items with their numbers

abbrev with_number : {X : Type 0} → X → ℕ → ℕ × X
with_number x n = (n, x)

pub slice_get-enumerate_from : {X : Type 0} (n : ℕ) (xs : List X) (i : ℕ) (x : X) → slice_get xs i ≡ Some x → slice_get (enumerate_from n xs) i ≡ Some (with_number x (i + n))
slice_get-enumerate_from n [] i x at = cc
slice_get-enumerate_from n (y ∷ ys) zero x at =
    ap (option_map (λ z. with_number z n)) at ∙ ap (λ k. Some (with_number x k)) (sym (zero-add n))
slice_get-enumerate_from n (y ∷ ys) (suc i) x at =
    slice_get-enumerate_from (n + 1) ys i x at ∙ ap (λ k. Some (with_number x k)) (omega arith)

pub take_enumerated : {X : Type 0} (n : ℕ) (xs : List X) (i : ℕ) → length xs ≤ i → take i (enumerate_from n xs) ≡ enumerate_from n xs
take_enumerated n xs i within = take_all i (enumerate_from n xs) (omega (arith, length-enumerate_from n xs))
