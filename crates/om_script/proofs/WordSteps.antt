-- One word more, or none.
use Rattle.std.proofs.Common.{◌≡◌, ◌≢◌, refl, sym, ap, ◌∙◌, Bool, true, false, ◌&&◌, List, [], ◌∷◌, ◌++◌, ℕ, zero, suc, ◌-◌, ◌<◌, ◌≤◌, length, get_or, arith, Some, None, slice_get}
use Rattle.std.proofs.lemmas.List.Sums.{fold-append}
use Rattle.std.proofs.lemmas.Option.{get_or_from_slice_get}
use Rattle.om_script.specs.declared.keyword.Kind.{Kind}
use Rattle.om_script.specs.declared.keyword.Kind.TheVariants.{Name, Number, Byte, Cell, Site}
use Rattle.om_script.specs.Standing.{most_names}
use Rattle.om_script.proofs.Places.{longer_by_names}
use Rattle.om_script.specs.Keywords.{any_word, fit, is_of_kind, names_in, with_name, with_names, word_at}

pub no_word : (test : Kind → List ℕ → Bool) (kinds : List Kind) → any_word test kinds [] ≡ false
no_word test [] = refl
no_word test (kind ∷ kinds) = refl

pub none_passes_of : (test : Kind → List ℕ → Bool) (kinds : List Kind) (words : List (List ℕ)) (b : Bool) → words ≡ [] → any_word test kinds words ≡ b → false ≡ b
none_passes_of test kinds words b e h = cc (no_word test kinds, ap (any_word test kinds) e)

pub get_behind : {X : Type 0} (x : X) (xs all : List X) (n : ℕ) → all ≡ x ∷ xs → n ≢ 0 → slice_get all n ≡ slice_get xs (n - 1)
get_behind x xs all zero e h = absurd (h refl)
get_behind x xs all (suc n) e h = ap (λ ys. slice_get ys (suc n)) e ∙ ap (slice_get xs) (omega arith)

pub get_none : {X : Type 0} (all : List X) (n : ℕ) → all ≡ [] → slice_get all n ≡ slice_get [] n
get_none all n e = ap (λ ys. slice_get ys n) e

pub word_some : (words : List (List ℕ)) (i : ℕ) (word : List ℕ) → Some word ≡ slice_get words i → word ≡ word_at words i
word_some words i word e = sym (get_or_from_slice_get words i word [] (sym e))

pub word_none : (words : List (List ℕ)) (i : ℕ) → None ≡ slice_get words i → [] ≡ word_at words i
word_none [] i e = refl
word_none (word ∷ words) zero e = cc
word_none (word ∷ words) (suc i) e = word_none words i e

-- ---- the names of a line, word by word

pub no_names : (kinds : List Kind) → names_in kinds [] ≡ []
no_names [] = refl
no_names (kind ∷ kinds) = refl

pub names_first : (kind : Kind) (kinds : List Kind) (word : List ℕ) (words : List (List ℕ)) → names_in (kind ∷ kinds) (word ∷ words) ≡ names_in (kind ∷ []) (word ∷ []) ++ names_in kinds words
names_first Name kinds word words = refl
names_first Number kinds word words = refl
names_first Byte kinds word words = refl
names_first Cell kinds word words = refl
names_first Site kinds word words = refl

and_front : (a b : Bool) → (a && b) ≡ true → a ≡ true
and_front true b e = refl
and_front false b e = cc

and_back : (a b : Bool) → (a && b) ≡ true → b ≡ true
and_back true b e = e
and_back false b e = cc

-- a word that fits in its place, and the words behind it
pub fits_first : (kind : Kind) (kinds : List Kind) (word : List ℕ) (words : List (List ℕ)) → fit (kind ∷ kinds) (word ∷ words) ≡ true → (is_of_kind kind word ≡ true) × (fit kinds words ≡ true)
fits_first kind kinds word words f = (and_front (is_of_kind kind word) (fit kinds words) f, and_back (is_of_kind kind word) (fit kinds words) f)

pub with_names_first : (names : List (List ℕ)) (kind : Kind) (kinds : List Kind) (word : List ℕ) (words : List (List ℕ)) →
    with_names names (names_in (kind ∷ kinds) (word ∷ words)) ≡ with_names (with_names names (names_in (kind ∷ []) (word ∷ []))) (names_in kinds words)
with_names_first names kind kinds word words =
    ap (with_names names) (names_first kind kinds word words) ∙ fold-append with_name names (names_in (kind ∷ []) (word ∷ [])) (names_in kinds words)

-- a word's names that are too many are so with those of the words behind it
pub too_many : (names : List (List ℕ)) (kinds : List Kind) (d : Kind) (words : List (List ℕ)) (word : List ℕ) (rest : List (List ℕ)) → 1 ≤ length kinds → words ≡ word ∷ rest →
    most_names < length (with_names names (names_in (get_or kinds 0 d ∷ []) (word ∷ []))) → most_names < length (with_names names (names_in kinds words))
too_many names [] d words word rest l e long = absurd (omega arith)
too_many names (kind ∷ kinds) d words word rest l e long =
    let whole : with_names names (names_in (kind ∷ kinds) words) ≡ with_names (with_names names (names_in (kind ∷ []) (word ∷ []))) (names_in kinds rest) =
    ap (λ ws. with_names names (names_in (kind ∷ kinds) ws)) e ∙ with_names_first names kind kinds word rest in
    omega (arith, ap length whole, longer_by_names (with_names names (names_in (kind ∷ []) (word ∷ []))) (names_in kinds rest))
