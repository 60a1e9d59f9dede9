-- Where a text is cut at a byte.
use Rattle.std.proofs.Common.{◌≡◌, refl, sym, ap, ◌∙◌, subst, Bool, true, false, cond, List, [], ◌∷◌, ◌++◌, ℕ, ◌+◌, ◌<◌, ◌≤◌, ◌-◌, length, take, drop, arith, Some, None, eqb, ltb, unwrap_or}
use Rattle.std.proofs.lemmas.Grind.{common_steps}
use Rattle.std.proofs.lemmas.Bool.Decides.{nat_tests}
use Rattle.std.specs.List.{All, onto_first, slice_split, position_or_len, position, before_first, after_first}
use Rattle.std.proofs.lemmas.List.Elements.{All-head, All-tail}
use Rattle.std.proofs.lemmas.List.Sums.{split_at_first, fails_before_first, passes_at_first, prefix_len-le-length}
use Rattle.std.proofs.lemmas.List.Splits.{slice_split_first, slice_split_none, length-slice_split}
use Rattle.omalloc.specs.AcceptedInput.{text_lines, fields_of, title_of, only_number, free_of}

found_at : (k n i : ℕ) → Some i ≡ cond (ltb k n) (Some k) None → (k ≡ i) × (i < n)
found_at k n i e = grind (arith, nat_tests)

found_nowhere : (k n : ℕ) → cond (ltb k n) (Some k) None ≡ None → n ≤ k
found_nowhere k n e = grind (arith, nat_tests)

found_or_len : (k n : ℕ) → k ≤ n → unwrap_or (cond (ltb k n) (Some k) None) n ≡ k
found_or_len k n l = grind (arith, nat_tests)

-- the elements before the first that passes
none_before : (p : ℕ → Bool) (xs : List ℕ) → All (λ x. p x ≡ false) (before_first p xs)
none_before p xs k e m = let k' = fails_before_first p xs k e (grind (arith, common_steps)) in grind (arith, common_steps)

text_lines-cons_yes : (x : ℕ) (xs : List ℕ) → eqb x 10 ≡ true → text_lines (x ∷ xs) ≡ [] ∷ text_lines xs
text_lines-cons_yes x xs e = ap (λ b. cond b ([] ∷ text_lines xs) (onto_first x (text_lines xs))) e

text_lines-cons_no : (x : ℕ) (xs : List ℕ) → eqb x 10 ≡ false → text_lines (x ∷ xs) ≡ onto_first x (text_lines xs)
text_lines-cons_no x xs e = ap (λ b. cond b ([] ∷ text_lines xs) (onto_first x (text_lines xs))) e

-- a text without a line's end is one line
lines_of_none : (x : ℕ) (xs : List ℕ) → All (λ b. eqb b 10 ≡ false) (x ∷ xs) → text_lines (x ∷ xs) ≡ (x ∷ xs) ∷ []
lines_of_none x [] h = text_lines-cons_no x [] (All-head (λ b. eqb b 10 ≡ false) x [] h)
lines_of_none x (y ∷ xs) h =
    text_lines-cons_no x (y ∷ xs) (All-head (λ b. eqb b 10 ≡ false) x (y ∷ xs) h) ∙ ap (onto_first x) (lines_of_none y xs (All-tail (λ b. eqb b 10 ≡ false) x (y ∷ xs) h))

-- the first line ends at the first line's end
lines_of_at : (xs : List ℕ) (y : ℕ) (ys : List ℕ) → All (λ b. eqb b 10 ≡ false) xs → eqb y 10 ≡ true → text_lines (xs ++ y ∷ ys) ≡ xs ∷ text_lines ys
lines_of_at [] y ys h e = text_lines-cons_yes y ys e
lines_of_at (x ∷ xs) y ys h e =
    text_lines-cons_no x (xs ++ y ∷ ys) (All-head (λ b. eqb b 10 ≡ false) x xs h) ∙ ap (onto_first x) (lines_of_at xs y ys (All-tail (λ b. eqb b 10 ≡ false) x xs h) e)

lines_of_first : (xs : List ℕ) → position_or_len (λ b. eqb b 10) xs < length xs → text_lines xs ≡ before_first (λ b. eqb b 10) xs ∷ text_lines (after_first (λ b. eqb b 10) xs)
lines_of_first xs l =
    ap text_lines (split_at_first (λ b. eqb b 10) xs 0 l) ∙ lines_of_at (before_first (λ b. eqb b 10) xs) _ (after_first (λ b. eqb b 10) xs) (none_before (λ b. eqb b 10) xs) (passes_at_first (λ b. eqb b 10) xs 0 l)

after_place : (xs : List ℕ) (k : ℕ) → take (length xs - k) (drop k xs) ≡ drop k xs
after_place xs k = grind (arith, common_steps)

-- what a search for a byte says of the lines and the parts
pub line_found : (xs : List ℕ) (i : ℕ) → Some i ≡ position (λ b. eqb b 10) xs → text_lines xs ≡ take i xs ∷ text_lines (take (length xs - (i + 1)) (drop (i + 1) xs))
line_found xs i e =
    let at : (position_or_len (λ b. eqb b 10) xs ≡ i) × (i < length xs) = found_at (position_or_len (λ b. eqb b 10) xs) (length xs) i e in
    let split : text_lines xs ≡ take i xs ∷ text_lines (drop (i + 1) xs) =
    subst (λ k. text_lines xs ≡ take k xs ∷ text_lines (drop (k + 1) xs)) at.0 (lines_of_first xs (omega (arith, at))) in
    split ∙ ap (λ rest. take i xs ∷ text_lines rest) (sym (after_place xs (i + 1)))

none_passes : (p : ℕ → Bool) (xs : List ℕ) → None ≡ position p xs → All (λ x. p x ≡ false) xs
none_passes p xs e =
    let far : length xs ≤ position_or_len p xs = found_nowhere (position_or_len p xs) (length xs) (sym e) in
    let whole : before_first p xs ≡ xs = grind (arith, common_steps) in
    subst (All (λ x. p x ≡ false)) whole (none_before p xs)

pub line_whole : (xs : List ℕ) → None ≡ position (λ b. eqb b 10) xs → 0 < length xs → text_lines xs ≡ xs ∷ []
line_whole [] e l = absurd (omega arith)
line_whole (x ∷ xs) e l = lines_of_none x xs (none_passes (λ b. eqb b 10) (x ∷ xs) e)

pub part_found : (byte : ℕ) (xs : List ℕ) (i : ℕ) → Some i ≡ position (λ b. eqb b byte) xs → slice_split (λ b. eqb b byte) xs ≡ take i xs ∷ slice_split (λ b. eqb b byte) (take (length xs - (i + 1)) (drop (i + 1) xs))
part_found byte xs i e =
    let at : (position_or_len (λ b. eqb b byte) xs ≡ i) × (i < length xs) = found_at (position_or_len (λ b. eqb b byte) xs) (length xs) i e in
    let parts = slice_split (λ b. eqb b byte) in
    let split : parts xs ≡ take i xs ∷ parts (drop (i + 1) xs) =
    subst (λ k. parts xs ≡ take k xs ∷ parts (drop (k + 1) xs)) at.0 (slice_split_first (λ b. eqb b byte) xs 0 (omega (arith, at))) in
    split ∙ ap (λ rest. take i xs ∷ parts rest) (sym (after_place xs (i + 1)))

pub part_whole : (byte : ℕ) (xs : List ℕ) → None ≡ position (λ b. eqb b byte) xs → slice_split (λ b. eqb b byte) xs ≡ xs ∷ []
part_whole byte xs e = slice_split_none (λ b. eqb b byte) xs (none_passes (λ b. eqb b byte) xs e)

pub place_or_len : {X : Type 0} (p : X → Bool) (xs : List X) → unwrap_or (position p xs) (length xs) ≡ position_or_len p xs
place_or_len p xs = found_or_len (position_or_len p xs) (length xs) (prefix_len-le-length _ xs)

fields_of_some : (line : List ℕ) → 0 < length (fields_of line)
fields_of_some line = omega (arith, length-slice_split (λ b. eqb b 32) line)

no_title : (k n : List ℕ) (words : List (List ℕ)) → 0 < length words → title_of (k ∷ n ∷ words) ≡ None
no_title k n [] l = absurd (omega arith)
no_title k n (w ∷ words) l = refl

-- a first line with more words names no script
pub title_long : (k n line : List ℕ) → title_of (k ∷ n ∷ fields_of line) ≡ None
title_long k n line = no_title k n (fields_of line) (fields_of_some line)

no_number : (greatest : ℕ) (field : List ℕ) (fields : List (List ℕ)) → 0 < length fields → only_number greatest (field ∷ fields) ≡ None
no_number greatest field [] l = absurd (omega arith)
no_number greatest field (more ∷ fields) l = refl

-- a number that other fields follow isn't the only one
pub number_long : (greatest : ℕ) (field line : List ℕ) → only_number greatest (field ∷ fields_of line) ≡ None
number_long greatest field line = no_number greatest field (fields_of line) (fields_of_some line)

no_free : (fields : List (List ℕ)) → 0 < length fields → free_of fields ≡ None
no_free [] l = absurd (omega arith)
no_free (field ∷ fields) l = refl

-- a free has nothing behind the name
pub free_long : (line : List ℕ) → free_of (fields_of line) ≡ None
free_long line = no_free (fields_of line) (fields_of_some line)
