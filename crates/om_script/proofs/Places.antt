-- The places of names: a name that is there keeps its place when others come behind it.
use Rattle.std.proofs.Common.{◌≡◌, refl, sym, ap, ◌∙◌, Bool, true, false, not, cond, ◌&&◌, List, [], ◌∷◌, ◌++◌, ℕ, zero, suc, ◌+◌, ◌<◌, ◌≤◌, length, length-append, arith, Some, None, ◌||◌, eqb, ltb, slice_get, map, bytes_eq, eq-eqb, ne_eqb}
use Rattle.std.proofs.lemmas.Bool.Decides.{nat_tests}
use Rattle.std.specs.List.{list_any, position, position_or_len, prefix_len}
use Rattle.std.proofs.lemmas.List.{map-append}
use Rattle.std.proofs.lemmas.List.Folds.{position_or_len_push}
use Rattle.std.proofs.lemmas.List.Sums.{prefix_len-le-length}
use Rattle.std.proofs.lemmas.Slice.Eq.{bytes_eq-Decides}
use Rattle.om_script.specs.declared.keyword.Kind.{Kind}
use Rattle.om_script.specs.declared.keyword.Kind.TheVariants.{Name, Number, Byte, Cell, Site}
use Rattle.om_script.specs.Words.{is_name}
use Rattle.om_script.specs.Keywords.{fit, is_of_kind, may_miss, names_in, place_of, with_name, with_names, word_at}

-- the name is one of the names
abbrev pub IsThere : List (List ℕ) → List ℕ → Type 0
IsThere names name = place_of names name < length names

pub place-le : (names : List (List ℕ)) (name : List ℕ) → place_of names name ≤ length names
place-le names name = prefix_len-le-length _ names

bytes_same : (name : List ℕ) → bytes_eq name name ≡ true
bytes_same name = (bytes_eq-Decides name name).1 refl

-- the place behind one more name
place_push : (names : List (List ℕ)) (more name : List ℕ) → place_of (names ++ more ∷ []) name ≡ cond (eqb (place_of names name) (length names)) (length names + cond (bytes_eq name more) 0 1) (place_of names name)
place_push names more name = position_or_len_push (λ n. bytes_eq name n) names more

picked : (t : Bool) (k n : ℕ) (a : ℕ) → t ≡ eqb k n → k < n → cond t a k ≡ k
picked true k n a e l = grind (arith, nat_tests)
picked false k n a e l = refl

-- one name more changes no place, and none is lost
stays_pushed : (names : List (List ℕ)) (more name : List ℕ) → IsThere names name → place_of (names ++ more ∷ []) name ≡ place_of names name
stays_pushed names more name there = place_push names more name ∙ picked (eqb (place_of names name) (length names)) (place_of names name) (length names) _ refl there

pub place-with_name : (names : List (List ℕ)) (more name : List ℕ) → IsThere names name → place_of (with_name names more) name ≡ place_of names name
place-with_name names more name there = by (eqb (place_of names more) (length names))
  where
    by : (t : Bool) → place_of (cond t (names ++ more ∷ []) names) name ≡ place_of names name
    by true = stays_pushed names more name there
    by false = refl

pub longer_by_name : (names : List (List ℕ)) (more : List ℕ) → length names ≤ length (with_name names more)
longer_by_name names more = by (eqb (place_of names more) (length names))
  where
    by : (t : Bool) → length names ≤ length (cond t (names ++ more ∷ []) names)
    by true = omega (arith, length-append names (more ∷ []))
    by false = omega arith

pub longer_by_names : (names more : List (List ℕ)) → length names ≤ length (with_names names more)
longer_by_names names [] = omega arith
longer_by_names names (name ∷ more) = omega (arith, longer_by_name names name, longer_by_names (with_name names name) more)

there-with_name : (names : List (List ℕ)) (more name : List ℕ) → IsThere names name → IsThere (with_name names more) name
there-with_name names more name there = omega (arith, place-with_name names more name there, longer_by_name names more)

pub place-with_names : (names more : List (List ℕ)) (name : List ℕ) → IsThere names name → place_of (with_names names more) name ≡ place_of names name
place-with_names names [] name there = refl
place-with_names names (m ∷ more) name there = place-with_names (with_name names m) more name (there-with_name names m name there) ∙ place-with_name names m name there

there-with_names : (names more : List (List ℕ)) (name : List ℕ) → IsThere names name → IsThere (with_names names more) name
there-with_names names more name there = omega (arith, place-with_names names more name there, longer_by_names names more)

-- a name that is none of the others is in the last place
pub at_end : (names : List (List ℕ)) (name : List ℕ) → eqb (place_of names name) (length names) ≡ true → place_of (names ++ name ∷ []) name ≡ length names
at_end names name e =
    place_push names name name ∙ ap (λ t. cond t (length names + cond (bytes_eq name name) 0 1) (place_of names name)) e
    ∙ ap (λ t. length names + cond t 0 1) (bytes_same name) ∙ omega arith

-- a name that was added is there
pub there_added : (names : List (List ℕ)) (name : List ℕ) → IsThere (with_name names name) name
there_added names name = by (eqb (place_of names name) (length names)) refl
  where
    by : (t : Bool) → eqb (place_of names name) (length names) ≡ t → IsThere (cond t (names ++ name ∷ []) names) name
    by true e = omega (arith, at_end names name e, length-append names (name ∷ []))
    by false e = let le = place-le names name in grind (arith, nat_tests)

-- ---- the names of a line

and_front : (a b : Bool) → (a && b) ≡ true → a ≡ true
and_front true b e = refl
and_front false b e = cc

and_back : (a b : Bool) → (a && b) ≡ true → b ≡ true
and_back true b e = e
and_back false b e = cc

none_missing : (kinds : List Kind) (i : ℕ) → fit kinds [] ≡ true → slice_get kinds i ≡ Some Name → ⊥
none_missing [] i f e = cc
none_missing (kind ∷ kinds) (suc i) f e = none_missing kinds i (and_back (may_miss kind) (fit kinds []) f) e
none_missing (Name ∷ kinds) zero f e = cc
none_missing (Number ∷ kinds) zero f e = cc
none_missing (Byte ∷ kinds) zero f e = cc
none_missing (Cell ∷ kinds) zero f e = cc
none_missing (Site ∷ kinds) zero f e = cc

-- where words fit, the word in a name's place is a name
pub name_fits : (kinds : List Kind) (words : List (List ℕ)) (i : ℕ) → fit kinds words ≡ true → slice_get kinds i ≡ Some Name → is_name (word_at words i) ≡ true
name_fits [] words i f e = cc
name_fits (kind ∷ kinds) [] i f e = absurd (none_missing (kind ∷ kinds) i f e)
name_fits (kind ∷ kinds) (word ∷ words) (suc i) f e = name_fits kinds words i (and_back (is_of_kind kind word) (fit kinds words) f) e
name_fits (Name ∷ kinds) (word ∷ words) zero f e = and_front (is_name word) (fit kinds words) f
name_fits (Number ∷ kinds) (word ∷ words) zero f e = cc
name_fits (Byte ∷ kinds) (word ∷ words) zero f e = cc
name_fits (Cell ∷ kinds) (word ∷ words) zero f e = cc
name_fits (Site ∷ kinds) (word ∷ words) zero f e = cc

-- and it is there once the line's names were added
pub name_added : (names : List (List ℕ)) (kinds : List Kind) (words : List (List ℕ)) (i : ℕ) → fit kinds words ≡ true → slice_get kinds i ≡ Some Name → IsThere (with_names names (names_in kinds words)) (word_at words i)
name_added names [] words i f e = cc
name_added names (kind ∷ kinds) [] i f e = absurd (none_missing (kind ∷ kinds) i f e)
name_added names (Name ∷ kinds) (word ∷ words) zero f e = there-with_names (with_name names word) (names_in kinds words) word (there_added names word)
name_added names (Name ∷ kinds) (word ∷ words) (suc i) f e = name_added (with_name names word) kinds words i (and_back (is_name word) (fit kinds words) f) e
name_added names (Number ∷ kinds) (word ∷ words) zero f e = cc
name_added names (Number ∷ kinds) (word ∷ words) (suc i) f e = name_added names kinds words i (and_back (is_of_kind Number word) (fit kinds words) f) e
name_added names (Byte ∷ kinds) (word ∷ words) zero f e = cc
name_added names (Byte ∷ kinds) (word ∷ words) (suc i) f e = name_added names kinds words i (and_back (is_of_kind Byte word) (fit kinds words) f) e
name_added names (Cell ∷ kinds) (word ∷ words) zero f e = cc
name_added names (Cell ∷ kinds) (word ∷ words) (suc i) f e = name_added names kinds words i (and_back (is_of_kind Cell word) (fit kinds words) f) e
name_added names (Site ∷ kinds) (word ∷ words) zero f e = cc
name_added names (Site ∷ kinds) (word ∷ words) (suc i) f e = name_added names kinds words i (and_back (is_of_kind Site word) (fit kinds words) f) e

-- ---- names that are kept as texts

prefix_len-map : {X Y : Type 0} (p : Y → Bool) (f : X → Y) (xs : List X) → prefix_len p (map f xs) ≡ prefix_len (λ x. p (f x)) xs
prefix_len-map p f [] = refl
prefix_len-map p f (x ∷ xs) = ap (λ n. cond (p (f x)) (1 + n) 0) (prefix_len-map p f xs)

-- a place among texts is that among their bytes
pub place_in_map : {X Y : Type 0} (p : Y → Bool) (f : X → Y) (xs : List X) → position_or_len (λ x. p (f x)) xs ≡ position_or_len p (map f xs)
place_in_map p f xs = sym (prefix_len-map (λ y. not (p y)) f xs)

found_is : (k n i : ℕ) → cond (ltb k n) (Some k) None ≡ Some i → i ≡ k
found_is k n i e = grind (arith, nat_tests)

lost_is : (k n : ℕ) → k ≤ n → cond (ltb k n) (Some k) None ≡ None → n ≡ k
lost_is k n l e = grind (arith, nat_tests)

-- a search among the texts gives the place among their bytes
pub place_found : {X : Type 0} (f : X → List ℕ) (keys : List X) (name : List ℕ) (i : ℕ) → position (λ k. bytes_eq name (f k)) keys ≡ Some i → i ≡ place_of (map f keys) name
place_found f keys name i e = found_is (position_or_len (λ k. bytes_eq name (f k)) keys) (length keys) i e ∙ place_in_map (λ n. bytes_eq name n) f keys

pub place_lost : {X : Type 0} (f : X → List ℕ) (keys : List X) (name : List ℕ) → position (λ k. bytes_eq name (f k)) keys ≡ None → length keys ≡ place_of (map f keys) name
place_lost f keys name e =
    lost_is (position_or_len (λ k. bytes_eq name (f k)) keys) (length keys) (prefix_len-le-length _ keys) e ∙ place_in_map (λ n. bytes_eq name n) f keys

-- ---- a name that is there, and one that is new

place_of_some : {X : Type 0} (p : X → Bool) (xs : List X) → list_any p xs ≡ true → position_or_len p xs < length xs
place_of_some p [] e = cc
place_of_some p (x ∷ xs) e = by (p x) e (place_of_some p xs)
  where
    by : (t : Bool) → (t || list_any p xs) ≡ true → (list_any p xs ≡ true → position_or_len p xs < length xs) → cond (not t) (1 + position_or_len p xs) 0 < length (x ∷ xs)
    by true e' rest = omega arith
    by false e' rest = omega (arith, rest e')

place_of_none : {X : Type 0} (p : X → Bool) (xs : List X) → list_any p xs ≡ false → position_or_len p xs ≡ length xs
place_of_none p [] e = refl
place_of_none p (x ∷ xs) e = by (p x) e (place_of_none p xs)
  where
    by : (t : Bool) → (t || list_any p xs) ≡ false → (list_any p xs ≡ false → position_or_len p xs ≡ length xs) → cond (not t) (1 + position_or_len p xs) 0 ≡ length (x ∷ xs)
    by true e' rest = cc
    by false e' rest = omega (arith, rest e')

pub same_length : {X Y : Type 0} (f : X → Y) (xs : List X) → length (map f xs) ≡ length xs
same_length f [] = refl
same_length f (x ∷ xs) = ap suc (same_length f xs)

pub kept_name : {X : Type 0} (f : X → List ℕ) (keys : List X) (name : List ℕ) → list_any (λ k. bytes_eq name (f k)) keys ≡ true → with_name (map f keys) name ≡ map f keys
kept_name f keys name e =
    let there : place_of (map f keys) name < length (map f keys) =
    omega (arith, place_of_some (λ k. bytes_eq name (f k)) keys e, place_in_map (λ n. bytes_eq name n) f keys, same_length f keys) in
    ap (λ t. cond t (map f keys ++ name ∷ []) (map f keys)) (ne_eqb (place_of (map f keys) name) (length (map f keys)) (λ same. omega arith))

pub new_name : {X : Type 0} (f : X → List ℕ) (keys : List X) (name : List ℕ) → list_any (λ k. bytes_eq name (f k)) keys ≡ false → with_name (map f keys) name ≡ map f keys ++ name ∷ []
new_name f keys name e =
    ap (λ t. cond t (map f keys ++ name ∷ []) (map f keys))
    (eq-eqb (place_of (map f keys) name) (length (map f keys)) (omega (arith, place_of_none (λ k. bytes_eq name (f k)) keys e, place_in_map (λ n. bytes_eq name n) f keys, same_length f keys)))

-- a name that is inserted is the last
pub inserted : {X : Type 0} (f : X → List ℕ) (keys made : List X) (key : X) (name : List ℕ) → list_any (λ k. bytes_eq name (f k)) keys ≡ false → f key ≡ name
    → made ≡ cond (list_any (λ k. bytes_eq (f key) (f k)) keys) keys (keys ++ key ∷ []) → map f made ≡ with_name (map f keys) name
inserted f keys made key name none is makes =
    ap (map f) (makes ∙ ap (λ t. cond t keys (keys ++ key ∷ [])) (ap (λ n. list_any (λ k. bytes_eq n (f k)) keys) is ∙ none))
    ∙ map-append f keys (key ∷ []) ∙ ap (λ n. map f keys ++ n ∷ []) is ∙ sym (new_name f keys name none)

pub length-new_name : {X : Type 0} (f : X → List ℕ) (keys : List X) (name : List ℕ) → list_any (λ k. bytes_eq name (f k)) keys ≡ false → length (with_name (map f keys) name) ≡ length keys + 1
length-new_name f keys name none = ap length (new_name f keys name none) ∙ omega (arith, length-append (map f keys) (name ∷ []), same_length f keys)
