-- Names of scripts and variables: a letter, and at most 15 letters, digits and underscores. Letters are small.
use Rattle.std.specs.Prelude.{ℕ, Bool, false, ◌&&◌, ◌||◌, ◌==◌, nat_le, List, length, slice_get}
use Rattle.std.specs.List.{list_all}
use Rattle.std.specs.Option.{option_map_or}

abbrev pub is_digit : ℕ → Bool
is_digit b = nat_le 48 b && nat_le b 57

abbrev pub is_letter : ℕ → Bool
is_letter b = nat_le 97 b && nat_le b 122

abbrev pub is_name_byte : ℕ → Bool
is_name_byte b = is_letter b || is_digit b || b == 95

abbrev pub is_name : List ℕ → Bool
is_name word = option_map_or is_letter (slice_get word 0) false && nat_le (length word) 16 && list_all is_name_byte word
