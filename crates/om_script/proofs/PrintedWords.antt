-- The words that are printed: none has a blank or begins a comment, and each is read as what it was printed for.
use Rattle.std.proofs.Common.{◌≡◌, refl, ap, ◌∙◌, Bool, true, false, not, cond, ◌&&◌, ◌||◌, List, [], ◌∷◌, ℕ, slice_get, ◌<◌, ◌^◌, length, drop, arith, eqb, leb, decimal, le-leb, lit≤}
use Rattle.std.specs.List.{list_all}
use Rattle.std.specs.Option.{option_map_or}
use Rattle.std.specs.Fmt.{digits}
use Rattle.std.specs.Char.{digit_value}
use Rattle.std.specs.Str.Parse.{digits_value, AllDigits, IsNumeral}
use Rattle.std.proofs.lemmas.Bool.Decides.{nat_tests}
use Rattle.std.proofs.lemmas.Fmt.{decimal_is_IsNumeral, digits_is_IsNumeral}
use Rattle.om_script.specs.Words.{is_digit, is_letter, is_name_byte, is_name, is_hex_digit, is_decimal, is_hex, is_number, value_of, is_site, site_value}
use Rattle.om_script.specs.Canonical.{hex, site_word}

and_front : (a b : Bool) → (a && b) ≡ true → a ≡ true
and_front true b e = refl
and_front false b e = cc

and_back : (a b : Bool) → (a && b) ≡ true → b ≡ true
and_back true b e = e
and_back false b e = cc

both : (a b : Bool) → a ≡ true → b ≡ true → (a && b) ≡ true
both true b e f = f
both false b e f = cc

or_true : (a b : Bool) → b ≡ true → (a || b) ≡ true
or_true true b e = refl
or_true false b e = e

-- a byte of a printed word
abbrev pub is_plain : ℕ → Bool
is_plain b = leb 33 b && leb b 126 && not (eqb b 35)

abbrev pub is_clean : List ℕ → Bool
is_clean word = leb 1 (length word) && list_all is_plain word

all_plain : (p : ℕ → Bool) → ((b : ℕ) → p b ≡ true → is_plain b ≡ true) → (bs : List ℕ) → list_all p bs ≡ true → list_all is_plain bs ≡ true
all_plain p each [] e = refl
all_plain p each (b ∷ bs) e = both (is_plain b) (list_all is_plain bs) (each b (and_front (p b) (list_all p bs) e)) (all_plain p each bs (and_back (p b) (list_all p bs) e))

some : (bs : List ℕ) → 0 < length bs → leb 1 (length bs) ≡ true
some [] l = absurd (omega arith)
some (b ∷ bs) l = le-leb 1 (length (b ∷ bs)) (omega arith)

name_byte_plain : (b : ℕ) → is_name_byte b ≡ true → is_plain b ≡ true
name_byte_plain b e = grind (arith, nat_tests)

digit_plain : (b : ℕ) → is_digit b ≡ true → is_plain b ≡ true
digit_plain b e = grind (arith, nat_tests)

hex_digit_plain : (b : ℕ) → is_hex_digit b ≡ true → is_plain b ≡ true
hex_digit_plain b e = grind (arith, nat_tests)

named_some : (word : List ℕ) → is_name word ≡ true → leb 1 (length word) ≡ true
named_some [] e = cc
named_some (b ∷ bs) e = some (b ∷ bs) (omega arith)

pub name_clean : (word : List ℕ) → is_name word ≡ true → is_clean word ≡ true
name_clean word e =
    both (leb 1 (length word)) (list_all is_plain word) (named_some word e)
    (all_plain is_name_byte name_byte_plain word (and_back (option_map_or is_letter (slice_get word 0) false && leb (length word) 16) (list_all is_name_byte word) e))

-- ---- decimal numbers

value_digit : (b : ℕ) → digit_value b < 10 → is_digit b ≡ true
value_digit b l = grind (arith, nat_tests)

all_digits : (ds : List ℕ) → AllDigits 10 ds → list_all is_digit ds ≡ true
all_digits [] h = refl
all_digits (d ∷ ds) h = both (is_digit d) (list_all is_digit ds) (value_digit d h.0) (all_digits ds h.1)

digit_no_x : (b : ℕ) → is_digit b ≡ true → eqb 120 b ≡ false
digit_no_x b e = grind (arith, nat_tests)

no_hex : (ds : List ℕ) → list_all is_digit ds ≡ true → is_hex ds ≡ false
no_hex [] e = refl
no_hex (a ∷ []) e = by (eqb 48 a)
  where
    by : (t : Bool) → ((t && false) && leb 3 (length (a ∷ [])) && list_all is_hex_digit []) ≡ false
    by true = refl
    by false = refl
no_hex (a ∷ b ∷ ds) e = by (eqb 48 a) (eqb 120 b) (digit_no_x b (and_front (is_digit b) (list_all is_digit ds) (and_back (is_digit a) (list_all is_digit (b ∷ ds)) e)))
  where
    by : (t u : Bool) → u ≡ false → ((t && (u && true)) && leb 3 (length (a ∷ b ∷ ds)) && list_all is_hex_digit ds) ≡ false
    by true true f = cc
    by true false f = refl
    by false u f = refl

pub decimal_number : (n : ℕ) → n < 2 ^ 64 → is_number (decimal n) ≡ true
decimal_number n l =
    let is = decimal_is_IsNumeral n l in
    ap (λ t. t || is_hex (decimal n)) (both (leb 1 (length (decimal n))) (list_all is_digit (decimal n)) (some (decimal n) is.0.0) (all_digits (decimal n) is.0.1))

pub decimal_value : (n : ℕ) → n < 2 ^ 64 → value_of (decimal n) ≡ n
decimal_value n l =
    let is = decimal_is_IsNumeral n l in
    ap (λ t. cond t (digits_value 16 (drop 2 (decimal n))) (digits_value 10 (decimal n))) (no_hex (decimal n) (all_digits (decimal n) is.0.1)) ∙ is.1

pub decimal_clean : (n : ℕ) → n < 2 ^ 64 → is_clean (decimal n) ≡ true
decimal_clean n l =
    let is = decimal_is_IsNumeral n l in
    both (leb 1 (length (decimal n))) (list_all is_plain (decimal n)) (some (decimal n) is.0.0) (all_plain is_digit digit_plain (decimal n) (all_digits (decimal n) is.0.1))

-- ---- hexadecimal numbers

value_hex_digit : (b : ℕ) → digit_value b < 16 → is_hex_digit b ≡ true
value_hex_digit b l = grind (arith, nat_tests)

all_hex_digits : (ds : List ℕ) → AllDigits 16 ds → list_all is_hex_digit ds ≡ true
all_hex_digits [] h = refl
all_hex_digits (d ∷ ds) h = both (is_hex_digit d) (list_all is_hex_digit ds) (value_hex_digit d h.0) (all_hex_digits ds h.1)

hex_digits : (n : ℕ) → n < 2 ^ 64 → IsNumeral 16 (digits 16 false n) × (digits_value 16 (digits 16 false n) ≡ n)
hex_digits n l = let wide : n < 16 ^ 64 = omega arith in digits_is_IsNumeral 16 false (lit≤ tt) (lit≤ tt) n wide

is_hex-hex : (ds : List ℕ) → 0 < length ds → list_all is_hex_digit ds ≡ true → is_hex (48 ∷ 120 ∷ ds) ≡ true
is_hex-hex ds l e = both (leb 3 (length (48 ∷ 120 ∷ ds))) (list_all is_hex_digit ds) (le-leb 3 (length (48 ∷ 120 ∷ ds)) (omega arith)) e

pub hex_is : (n : ℕ) → n < 2 ^ 64 → is_hex (hex n) ≡ true
hex_is n l = let is = hex_digits n l in is_hex-hex (digits 16 false n) is.0.0 (all_hex_digits (digits 16 false n) is.0.1)

pub hex_number : (n : ℕ) → n < 2 ^ 64 → is_number (hex n) ≡ true
hex_number n l = or_true (is_decimal (hex n)) (is_hex (hex n)) (hex_is n l)

pub hex_value : (n : ℕ) → n < 2 ^ 64 → value_of (hex n) ≡ n
hex_value n l = ap (λ t. cond t (digits_value 16 (drop 2 (hex n))) (digits_value 10 (hex n))) (hex_is n l) ∙ (hex_digits n l).1

hex_plain : (n : ℕ) → n < 2 ^ 64 → list_all is_plain (digits 16 false n) ≡ true
hex_plain n l = all_plain is_hex_digit hex_digit_plain (digits 16 false n) (all_hex_digits (digits 16 false n) (hex_digits n l).0.1)

pub hex_clean : (n : ℕ) → n < 2 ^ 64 → is_clean (hex n) ≡ true
hex_clean n l = both (leb 1 (length (hex n))) (list_all is_plain (hex n)) (some (hex n) (omega arith)) (hex_plain n l)

pub site_clean : (n : ℕ) → n < 2 ^ 64 → is_clean (site_word n) ≡ true
site_clean n l = both (leb 1 (length (site_word n))) (list_all is_plain (site_word n)) (some (site_word n) (omega arith)) (hex_plain n l)

pub site_is : (n : ℕ) → n < 2 ^ 64 → is_site (site_word n) ≡ true
site_is n l = hex_number n l

pub site_value_is : (n : ℕ) → n < 2 ^ 64 → site_value (site_word n) ≡ n
site_value_is n l = hex_value n l
