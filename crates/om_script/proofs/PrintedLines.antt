-- A printed line is cut into the words that it was made of.
use Rattle.std.proofs.Common.{◌≡◌, refl, ap, ◌∙◌, Bool, true, false, not, cond, ◌&&◌, List, [], ◌∷◌, ◌++◌, ℕ, ◌+◌, ◌<◌, length, append_assoc, map, arith, eqb, leb, filter, take_all}
use Rattle.std.specs.List.{All, list_all, flat_map, join_with_byte, onto_first, position_or_len}
use Rattle.std.proofs.lemmas.Bool.Decides.{nat_tests}
use Rattle.std.proofs.lemmas.List.Elements.{All-nil, All-cons}
use Rattle.std.proofs.lemmas.List.Splits.{slice_split_none}
use Rattle.om_script.specs.Lines.{text_lines, is_blank, is_allowed, is_ascii_line, without_comment, words_in, words_of}
use Rattle.om_script.specs.Canonical.{line_text}
use Rattle.om_script.proofs.Cuts.{words_behind_blank, word_at_front}
use Rattle.om_script.proofs.PrintedWords.{is_plain, is_clean}

and_front : (a b : Bool) → (a && b) ≡ true → a ≡ true
and_front true b e = refl
and_front false b e = cc

and_back : (a b : Bool) → (a && b) ≡ true → b ≡ true
and_back true b e = e
and_back false b e = cc

both : (a b : Bool) → a ≡ true → b ≡ true → (a && b) ≡ true
both true b e f = f
both false b e f = cc

-- a byte of a printed line
abbrev is_line_byte : ℕ → Bool
is_line_byte b = leb 32 b && leb b 126 && not (eqb b 35)

plain_on_line : (b : ℕ) → is_plain b ≡ true → is_line_byte b ≡ true
plain_on_line b e = grind (arith, nat_tests)

no_end : (b : ℕ) → is_line_byte b ≡ true → eqb b 10 ≡ false
no_end b e = grind (arith, nat_tests)

no_comment : (b : ℕ) → is_line_byte b ≡ true → eqb b 35 ≡ false
no_comment b e = grind (arith, nat_tests)

allowed : (b : ℕ) → is_line_byte b ≡ true → is_allowed b ≡ true
allowed b e = grind (arith, nat_tests)

no_blank : (b : ℕ) → is_plain b ≡ true → is_blank b ≡ false
no_blank b e = grind (arith, nat_tests)

lined : (bs : List ℕ) → list_all is_plain bs ≡ true → list_all is_line_byte bs ≡ true
lined [] e = refl
lined (b ∷ bs) e = both (is_line_byte b) (list_all is_line_byte bs) (plain_on_line b (and_front (is_plain b) (list_all is_plain bs) e)) (lined bs (and_back (is_plain b) (list_all is_plain bs) e))

joined : (xs ys : List ℕ) → list_all is_line_byte xs ≡ true → list_all is_line_byte ys ≡ true → list_all is_line_byte (xs ++ ys) ≡ true
joined [] ys e f = f
joined (x ∷ xs) ys e f = both (is_line_byte x) (list_all is_line_byte (xs ++ ys)) (and_front (is_line_byte x) (list_all is_line_byte xs) e) (joined xs ys (and_back (is_line_byte x) (list_all is_line_byte xs) e) f)

-- ---- words

plain_bytes : (word : List ℕ) → is_clean word ≡ true → list_all is_plain word ≡ true
plain_bytes word e = and_back (leb 1 (length word)) (list_all is_plain word) e

long : (word : List ℕ) → is_clean word ≡ true → 0 < length word
long [] e = cc
long (b ∷ bs) e = omega arith

blank_free : (word : List ℕ) → list_all is_plain word ≡ true → All (λ b. is_blank b ≡ false) word
blank_free [] e = All-nil (λ b. is_blank b ≡ false)
blank_free (b ∷ bs) e = All-cons (λ x. is_blank x ≡ false) b bs (no_blank b (and_front (is_plain b) (list_all is_plain bs) e)) (blank_free bs (and_back (is_plain b) (list_all is_plain bs) e))

first_stays : (word : List ℕ) (parts : List (List ℕ)) → 0 < length word → filter (λ part. leb 1 (length part)) (word ∷ parts) ≡ word ∷ filter (λ part. leb 1 (length part)) parts
first_stays [] parts l = absurd (omega arith)
first_stays (b ∷ bs) parts l = grind (arith, nat_tests)

-- clean words, joined by spaces, are the words of the line
words_in-join : (words : List (List ℕ)) → list_all is_clean words ≡ true → words_in (join_with_byte 32 words) ≡ words
words_in-join [] e = refl
words_in-join (word ∷ []) e =
    let clean : is_clean word ≡ true = and_front (is_clean word) true e in
    ap (filter (λ part. leb 1 (length part))) (slice_split_none is_blank word (blank_free word (plain_bytes word clean))) ∙ first_stays word [] (long word clean)
words_in-join (word ∷ next ∷ words) e =
    let clean : is_clean word ≡ true = and_front (is_clean word) (list_all is_clean (next ∷ words)) e in
    let rest : list_all is_clean (next ∷ words) ≡ true = and_back (is_clean word) (list_all is_clean (next ∷ words)) e in
    word_at_front word 32 (join_with_byte 32 (next ∷ words)) (blank_free word (plain_bytes word clean)) (long word clean) refl
    ∙ ap (λ ws. word ∷ ws) (words_behind_blank 32 (join_with_byte 32 (next ∷ words)) refl ∙ words_in-join (next ∷ words) rest)

line_bytes : (words : List (List ℕ)) → list_all is_clean words ≡ true → list_all is_line_byte (join_with_byte 32 words) ≡ true
line_bytes [] e = refl
line_bytes (word ∷ []) e = lined word (plain_bytes word (and_front (is_clean word) true e))
line_bytes (word ∷ next ∷ words) e =
    joined word (32 ∷ join_with_byte 32 (next ∷ words)) (lined word (plain_bytes word (and_front (is_clean word) (list_all is_clean (next ∷ words)) e)))
    (line_bytes (next ∷ words) (and_back (is_clean word) (list_all is_clean (next ∷ words)) e))

-- ---- the line

place_past : (bs : List ℕ) → list_all is_line_byte bs ≡ true → position_or_len (λ b. eqb b 35) bs ≡ length bs
place_past [] e = refl
place_past (b ∷ bs) e =
    ap (λ t. cond (not t) (1 + position_or_len (λ x. eqb x 35) bs) 0) (no_comment b (and_front (is_line_byte b) (list_all is_line_byte bs) e))
    ∙ omega (arith, place_past bs (and_back (is_line_byte b) (list_all is_line_byte bs) e))

whole_line : (bs : List ℕ) → list_all is_line_byte bs ≡ true → without_comment bs ≡ bs
whole_line bs e = take_all (position_or_len (λ b. eqb b 35) bs) bs (omega (arith, place_past bs e))

ascii_line : (bs : List ℕ) → list_all is_line_byte bs ≡ true → is_ascii_line bs ≡ true
ascii_line [] e = refl
ascii_line (b ∷ bs) e = both (is_allowed b) (list_all is_allowed bs) (allowed b (and_front (is_line_byte b) (list_all is_line_byte bs) e)) (ascii_line bs (and_back (is_line_byte b) (list_all is_line_byte bs) e))

pub printed_ascii : (words : List (List ℕ)) → list_all is_clean words ≡ true → is_ascii_line (join_with_byte 32 words) ≡ true
printed_ascii words e = ascii_line (join_with_byte 32 words) (line_bytes words e)

pub printed_words : (words : List (List ℕ)) → list_all is_clean words ≡ true → words_of (join_with_byte 32 words) ≡ words
printed_words words e = ap words_in (whole_line (join_with_byte 32 words) (line_bytes words e)) ∙ words_in-join words e

first_line : (bs rest : List ℕ) → list_all is_line_byte bs ≡ true → text_lines (bs ++ 10 ∷ rest) ≡ bs ∷ text_lines rest
first_line [] rest e = refl
first_line (b ∷ bs) rest e =
    ap (λ t. cond t ([] ∷ text_lines (bs ++ 10 ∷ rest)) (onto_first b (text_lines (bs ++ 10 ∷ rest)))) (no_end b (and_front (is_line_byte b) (list_all is_line_byte bs) e))
    ∙ ap (onto_first b) (first_line bs rest (and_back (is_line_byte b) (list_all is_line_byte bs) e))

abbrev pub all_clean : List (List (List ℕ)) → Bool
all_clean lines = list_all (list_all is_clean) lines

-- the lines of a text that was printed from lines of words
pub printed_lines : (lines : List (List (List ℕ))) → all_clean lines ≡ true → text_lines (flat_map line_text lines) ≡ map (join_with_byte 32) lines
printed_lines [] e = refl
printed_lines (words ∷ lines) e =
    let clean : list_all is_clean words ≡ true = and_front (list_all is_clean words) (all_clean lines) e in
    ap text_lines (append_assoc (join_with_byte 32 words) (10 ∷ []) (flat_map line_text lines))
    ∙ first_line (join_with_byte 32 words) (flat_map line_text lines) (line_bytes words clean)
    ∙ ap (λ ls. join_with_byte 32 words ∷ ls) (printed_lines lines (and_back (list_all is_clean words) (all_clean lines) e))
