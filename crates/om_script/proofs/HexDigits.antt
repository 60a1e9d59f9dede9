-- The hexadecimal digits of a number are those of the number without its last digit, and then that digit.
use Rattle.std.proofs.Common.{◌≡◌, ℕ, zero, suc, ◌/◌, ◌%◌, ◌^◌, ◌<◌, ◌≤◌, ◌==◌, Bool, true, false, cond, List, [], ◌∷◌, ◌++◌, refl, sym, ◌∙◌, ap, arith, append_assoc, eq-eqb}
use Rattle.std.proofs.lemmas.Bool.{ne_eqb}
use Rattle.std.specs.Fmt.{digits, digits_onto, digit_glyph}

abbrev spell : ℕ → ℕ → List ℕ → List ℕ
spell k n acc = digits_onto k 16 false n acc

abbrev last_digit : ℕ → ℕ
last_digit n = digit_glyph false (n % 16)

spell-append : (k n : ℕ) (acc : List ℕ) → spell k n acc ≡ spell k n [] ++ acc
spell-append zero n acc = refl
spell-append (suc k) n acc = by (n / 16 == 0) (spell-append k (n / 16) (last_digit n ∷ acc)) (spell-append k (n / 16) (last_digit n ∷ []))
  where
    by : (t : Bool) → spell k (n / 16) (last_digit n ∷ acc) ≡ spell k (n / 16) [] ++ last_digit n ∷ acc
        → spell k (n / 16) (last_digit n ∷ []) ≡ spell k (n / 16) [] ++ last_digit n ∷ []
        → cond t (last_digit n ∷ acc) (spell k (n / 16) (last_digit n ∷ acc)) ≡ cond t (last_digit n ∷ []) (spell k (n / 16) (last_digit n ∷ [])) ++ acc
    by true whole front = refl
    by false whole front = whole ∙ sym (append_assoc (spell k (n / 16) []) (last_digit n ∷ []) acc) ∙ ap (λ ds. ds ++ acc) (sym front)

-- more digits than the number has change nothing
spell_more : (k n : ℕ) (acc : List ℕ) → n < 16 ^ suc k → spell (suc (suc k)) n acc ≡ spell (suc k) n acc
spell_more zero n acc small =
    let last : (n / 16 == 0) ≡ true = eq-eqb (n / 16) 0 (omega arith) in
    ap (λ t. cond t (last_digit n ∷ acc) (spell 1 (n / 16) (last_digit n ∷ acc))) last
    ∙ sym (ap (λ t. cond t (last_digit n ∷ acc) (spell 0 (n / 16) (last_digit n ∷ acc))) last)
spell_more (suc k) n acc small =
    ap (cond (n / 16 == 0) (last_digit n ∷ acc)) (spell_more k (n / 16) (last_digit n ∷ acc) (omega arith))

pub hex_digits_step : (n : ℕ) → 16 ≤ n → n < 2 ^ 64 →
    digits 16 false n ≡ digits 16 false (n / 16) ++ digit_glyph false (n % 16) ∷ []
unfolding digits
hex_digits_step n large small =
    ap (λ t. cond t (last_digit n ∷ []) (spell 63 (n / 16) (last_digit n ∷ []))) (ne_eqb (n / 16) 0 (λ e. omega arith))
    ∙ spell-append 63 (n / 16) (last_digit n ∷ [])
    ∙ ap (λ front. front ++ last_digit n ∷ []) (sym (spell_more 62 (n / 16) [] (omega arith)))
