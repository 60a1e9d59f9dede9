-- One more digit, where numbers above a cap count as the cap.
use Rattle.std.proofs.Common.{◌≡◌, ℕ, ◌+◌, ◌*◌, ◌<◌, List, length, take, get_or, min, arith}
use Rattle.std.specs.Char.{digit_value}
use Rattle.std.specs.Str.Parse.{digits_value}
use Rattle.std.proofs.lemmas.Int.Digits.{digits_value_more}

pub decimal_step : (bs : List ℕ) (i v cap : ℕ) → i < length bs → v ≡ min (digits_value 10 (take i bs)) cap → min (v * 10 + digit_value (get_or bs i 0)) cap ≡ min (digits_value 10 (take (i + 1) bs)) cap
decimal_step bs i v cap l e = omega (arith, digits_value_more 10 bs i l)

pub hex_step : (bs : List ℕ) (i v cap : ℕ) → i < length bs → v ≡ min (digits_value 16 (take i bs)) cap → min (v * 16 + digit_value (get_or bs i 0)) cap ≡ min (digits_value 16 (take (i + 1) bs)) cap
hex_step bs i v cap l e = omega (arith, digits_value_more 16 bs i l)
