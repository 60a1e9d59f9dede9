-- The forms of words, and the numbers that they stand for. A name is a small letter, and at most 15 small letters,
-- digits and underscores. A number is one or more decimal digits, or `0x` and one or more hexadecimal digits of either
-- case. A site is `@` and a number. No number is too large to be one.
use Rattle.std.specs.Prelude.{ℕ, Bool, false, ◌&&◌, ◌||◌, ◌==◌, nat_le, nat_eq, List, [], ◌∷◌, length, drop, codes, slice_get, if◌then◌else◌}
use Rattle.std.specs.List.{list_all, starts_with}
use Rattle.std.specs.Option.{option_map_or}
use Rattle.std.specs.Str.Parse.{digits_value}

abbrev pub is_digit : ℕ → Bool
is_digit b = nat_le 48 b && nat_le b 57

abbrev pub is_letter : ℕ → Bool
is_letter b = nat_le 97 b && nat_le b 122

abbrev pub is_name_byte : ℕ → Bool
is_name_byte b = is_letter b || is_digit b || b == 95

abbrev pub is_name : List ℕ → Bool
is_name word = option_map_or is_letter (slice_get word 0) false && nat_le (length word) 16 && list_all is_name_byte word

-- a digit, or a letter from a to f or from A to F
abbrev pub is_hex_digit : ℕ → Bool
is_hex_digit b = is_digit b || (nat_le 97 b && nat_le b 102) || (nat_le 65 b && nat_le b 70)

abbrev pub is_decimal : List ℕ → Bool
is_decimal word = nat_le 1 (length word) && list_all is_digit word

abbrev pub is_hex : List ℕ → Bool
is_hex word = starts_with nat_eq word (codes "0x") && nat_le 3 (length word) && list_all is_hex_digit (drop 2 word)

abbrev pub is_number : List ℕ → Bool
is_number word = is_decimal word || is_hex word

-- the number that a word stands for
abbrev pub value_of : List ℕ → ℕ
value_of word = if is_hex word then digits_value 16 (drop 2 word) else digits_value 10 word

abbrev pub is_site : List ℕ → Bool
is_site [] = false
is_site (b ∷ bs) = b == 64 && is_number bs

-- the number behind the `@`
abbrev pub site_value : List ℕ → ℕ
site_value word = value_of (drop 1 word)
