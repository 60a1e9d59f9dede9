-- The places of names, among slices and among lists.
use Rattle.std.proofs.Common.{◌≡◌, refl, sym, ap, ◌∙◌, Bool, not, cond, List, [], ◌∷◌, ◌+◌, length, map, unwrap_or}
use Rattle.std.specs.List.{position, position_or_len, prefix_len}
use Rattle.omalloc.proofs.Cuts.{place_or_len}

prefix_len-map : {X Y : Type 0} (p : Y → Bool) (f : X → Y) (xs : List X) → prefix_len p (map f xs) ≡ prefix_len (λ x. p (f x)) xs
prefix_len-map p f [] = refl
prefix_len-map p f (x ∷ xs) = ap (λ n. cond (p (f x)) (1 + n) 0) (prefix_len-map p f xs)

-- a place that is searched in slices is that in the lists, and the length stands for none
pub place_in_map : {X Y : Type 0} (p : Y → Bool) (f : X → Y) (xs : List X) → unwrap_or (position (λ x. p (f x)) xs) (length xs) ≡ position_or_len p (map f xs)
place_in_map p f xs = place_or_len (λ x. p (f x)) xs ∙ sym (prefix_len-map (λ y. not (p y)) f xs)
