-- Where a text is cut into lines, and a line into words.
use Rattle.std.proofs.Common.{◌≡◌, refl, sym, ap, ◌∙◌, subst, Bool, true, false, not, cond, List, [], ◌∷◌, ◌++◌, ℕ, ◌+◌, ◌<◌, ◌≤◌, ◌-◌, length, take, drop, arith, Some, None, IfSome, eqb, ltb, leb, filter, slice_get, get_or, drop-cons, add-one, length-take}
use Rattle.std.proofs.lemmas.Grind.{common_steps}
use Rattle.std.proofs.lemmas.Bool.Decides.{nat_tests}
use Rattle.std.specs.List.{All, onto_first, slice_split, position_or_len, position, before_first, after_first}
use Rattle.std.proofs.lemmas.List.Elements.{All-head, All-tail}
use Rattle.std.proofs.lemmas.List.Sums.{split_at_first, fails_before_first, passes_at_first}
use Rattle.std.proofs.lemmas.List.Splits.{slice_split_none, slice_split_at, slice_split-cons_yes}
use Rattle.om_script.specs.Lines.{text_lines, is_blank, words_in}

found_at : (k n i : ℕ) → Some i ≡ cond (ltb k n) (Some k) None → (k ≡ i) × (i < n)
found_at k n i e = grind (arith, nat_tests)

found_nowhere : (k n : ℕ) → cond (ltb k n) (Some k) None ≡ None → n ≤ k
found_nowhere k n e = grind (arith, nat_tests)

-- the elements before the first that passes
none_before : (p : ℕ → Bool) (xs : List ℕ) → All (λ x. p x ≡ false) (before_first p xs)
none_before p xs k e m = let k' = fails_before_first p xs k e (grind (arith, common_steps)) in grind (arith, common_steps)

-- ---- lines

text_lines-cons_yes : (x : ℕ) (xs : List ℕ) → eqb x 10 ≡ true → text_lines (x ∷ xs) ≡ [] ∷ text_lines xs
text_lines-cons_yes x xs e = ap (λ b. cond b ([] ∷ text_lines xs) (onto_first x (text_lines xs))) e

text_lines-cons_no : (x : ℕ) (xs : List ℕ) → eqb x 10 ≡ false → text_lines (x ∷ xs) ≡ onto_first x (text_lines xs)
text_lines-cons_no x xs e = ap (λ b. cond b ([] ∷ text_lines xs) (onto_first x (text_lines xs))) e

-- a text without a line's end is one line
lines_of_none : (x : ℕ) (xs : List ℕ) → All (λ b. eqb b 10 ≡ false) (x ∷ xs) → text_lines (x ∷ xs) ≡ (x ∷ xs) ∷ []
lines_of_none x [] h = text_lines-cons_no x [] (All-head (λ b. eqb b 10 ≡ false) x [] h)
lines_of_none x (y ∷ xs) h =
    text_lines-cons_no x (y ∷ xs) (All-head (λ b. eqb b 10 ≡ false) x (y ∷ xs) h) ∙ ap (onto_first x) (lines_of_none y xs (All-tail (λ b. eqb b 10 ≡ false) x (y ∷ xs) h))

-- the first line ends at the first line's end
pub lines_of_at : (xs : List ℕ) (y : ℕ) (ys : List ℕ) → All (λ b. eqb b 10 ≡ false) xs → eqb y 10 ≡ true → text_lines (xs ++ y ∷ ys) ≡ xs ∷ text_lines ys
lines_of_at [] y ys h e = text_lines-cons_yes y ys e
lines_of_at (x ∷ xs) y ys h e =
    text_lines-cons_no x (xs ++ y ∷ ys) (All-head (λ b. eqb b 10 ≡ false) x xs h) ∙ ap (onto_first x) (lines_of_at xs y ys (All-tail (λ b. eqb b 10 ≡ false) x xs h) e)

lines_of_first : (xs : List ℕ) → position_or_len (λ b. eqb b 10) xs < length xs → text_lines xs ≡ before_first (λ b. eqb b 10) xs ∷ text_lines (after_first (λ b. eqb b 10) xs)
lines_of_first xs l =
    ap text_lines (split_at_first (λ b. eqb b 10) xs 0 l) ∙ lines_of_at (before_first (λ b. eqb b 10) xs) _ (after_first (λ b. eqb b 10) xs) (none_before (λ b. eqb b 10) xs) (passes_at_first (λ b. eqb b 10) xs 0 l)

after_place : (xs : List ℕ) (k : ℕ) → take (length xs - k) (drop k xs) ≡ drop k xs
after_place xs k = grind (arith, common_steps)

-- what a search for a line's end says of the lines
pub line_found : (xs : List ℕ) (i : ℕ) → Some i ≡ position (λ b. eqb b 10) xs → text_lines xs ≡ take i xs ∷ text_lines (take (length xs - (i + 1)) (drop (i + 1) xs))
line_found xs i e =
    let at : (position_or_len (λ b. eqb b 10) xs ≡ i) × (i < length xs) = found_at (position_or_len (λ b. eqb b 10) xs) (length xs) i e in
    let split : text_lines xs ≡ take i xs ∷ text_lines (drop (i + 1) xs) =
    subst (λ k. text_lines xs ≡ take k xs ∷ text_lines (drop (k + 1) xs)) at.0 (lines_of_first xs (omega (arith, at))) in
    split ∙ ap (λ rest. take i xs ∷ text_lines rest) (sym (after_place xs (i + 1)))

none_passes : (p : ℕ → Bool) (xs : List ℕ) → None ≡ position p xs → All (λ x. p x ≡ false) xs
none_passes p xs e =
    let far : length xs ≤ position_or_len p xs = found_nowhere (position_or_len p xs) (length xs) (sym e) in
    let whole : before_first p xs ≡ xs = grind (arith, common_steps) in
    subst (All (λ x. p x ≡ false)) whole (none_before p xs)

pub line_whole : (xs : List ℕ) → None ≡ position (λ b. eqb b 10) xs → 0 < length xs → text_lines xs ≡ xs ∷ []
line_whole [] e l = absurd (omega arith)
line_whole (x ∷ xs) e l = lines_of_none x xs (none_passes (λ b. eqb b 10) (x ∷ xs) e)

-- ---- what stands before a byte

-- a search that finds nothing leaves all before it
pub before_none : (p : ℕ → Bool) (xs : List ℕ) → None ≡ position p xs → before_first p xs ≡ xs
before_none p xs e =
    let far : length xs ≤ position_or_len p xs = found_nowhere (position_or_len p xs) (length xs) (sym e) in
    grind (arith, common_steps)

pub before_found : (p : ℕ → Bool) (xs : List ℕ) (i : ℕ) → Some i ≡ position p xs → before_first p xs ≡ take i xs
before_found p xs i e =
    let at : (position_or_len p xs ≡ i) × (i < length xs) = found_at (position_or_len p xs) (length xs) i e in
    ap (λ k. take k xs) at.0

-- ---- words

-- a blank at the front is before the first word
pub words_behind_blank : (b : ℕ) (bs : List ℕ) → is_blank b ≡ true → words_in (b ∷ bs) ≡ words_in bs
words_behind_blank b bs e = ap (filter (λ word. leb 1 (length word))) (slice_split-cons_yes is_blank b bs e)

first_stays : (word : List ℕ) (parts : List (List ℕ)) → 0 < length word → filter (λ part. leb 1 (length part)) (word ∷ parts) ≡ word ∷ filter (λ part. leb 1 (length part)) parts
first_stays [] parts l = absurd (omega arith)
first_stays (b ∷ bs) parts l = grind (arith, nat_tests)

-- a text with a first byte and without a blank is one word
pub word_whole : (text : List ℕ) → None ≡ position is_blank text → 0 < length text → words_in text ≡ text ∷ []
word_whole text e l =
    ap (filter (λ word. leb 1 (length word))) (slice_split_none is_blank text (none_passes is_blank text e)) ∙ first_stays text [] l

-- a word ends at a blank
pub word_at_front : (word : List ℕ) (b : ℕ) (rest : List ℕ) → All (λ x. is_blank x ≡ false) word → 0 < length word → is_blank b ≡ true → words_in (word ++ b ∷ rest) ≡ word ∷ words_in (b ∷ rest)
word_at_front word b rest h l e =
    ap (filter (λ part. leb 1 (length part))) (slice_split_at is_blank word b rest h e)
    ∙ first_stays word (slice_split is_blank rest) l
    ∙ ap (λ words. word ∷ words) (sym (words_behind_blank b rest e))

blank_later : (text : List ℕ) (i : ℕ) → IfSome (slice_get text 0) (λ b. is_blank b ≡ false) → position_or_len is_blank text ≡ i → i < length text → 0 < i
blank_later [] i front e l = absurd (omega arith)
blank_later (b ∷ bs) i front e l = later (is_blank b) (position_or_len is_blank bs) front e
  where
    later : (t : Bool) (n : ℕ) → t ≡ false → cond (not t) (1 + n) 0 ≡ i → 0 < i
    later true n f e' = cc
    later false n f e' = omega arith

-- what a search for a blank says of the words of a text that begins with none
pub word_found : (text : List ℕ) (i : ℕ) → IfSome (slice_get text 0) (λ b. is_blank b ≡ false) → Some i ≡ position is_blank text → words_in text ≡ take i text ∷ words_in (take (length text - i) (drop i text))
word_found text i front e =
    let at : (position_or_len is_blank text ≡ i) × (i < length text) = found_at (position_or_len is_blank text) (length text) i e in
    let some : 0 < i = blank_later text i front at.0 at.1 in
    let short : position_or_len is_blank text < length text = omega (arith, at) in
    let long : 0 < length (before_first is_blank text) = omega (arith, length-take (position_or_len is_blank text) text) in
    let cut : words_in text ≡ before_first is_blank text ∷ words_in (drop (position_or_len is_blank text) text) =
    ap words_in (split_at_first is_blank text 0 short)
    ∙ word_at_front (before_first is_blank text) _ (after_first is_blank text) (none_before is_blank text) long (passes_at_first is_blank text 0 short)
    ∙ ap (λ rest. before_first is_blank text ∷ words_in rest) (sym (drop_first text (position_or_len is_blank text) short)) in
    subst (λ k. words_in text ≡ take k text ∷ words_in (drop k text)) at.0 cut
    ∙ ap (λ rest. take i text ∷ words_in rest) (sym (after_place text i))
  where
    drop_first : (xs : List ℕ) (k : ℕ) → k < length xs → drop k xs ≡ get_or xs k 0 ∷ drop (k + 1) xs
    drop_first xs k l = rw (add-one, drop-cons xs k 0) refl
