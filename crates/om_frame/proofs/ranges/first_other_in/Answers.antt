use Rattle.std.proofs.Common.{◌≡◌, ◌∙◌, ◌==◌, ◌&&◌, not, true, false, sym, ℕ, ◌+◌, List, [], ◌∷◌, None, refl}
use Rattle.std.proofs.lemmas.Bool.{cases_Bool}
use Rattle.std.specs.List.{fold, position_from}
use Rattle.om_frame.proofs.ranges.first_other_in.Goals as goal
use mathlib.Core.Logic.{⊎_elim}

-- once one differs, they aren't all the same
stays_false : (byte : ℕ) (bytes : List ℕ) → fold (λ equal other. equal && (other == byte)) false bytes ≡ false
stays_false byte [] = refl
stays_false byte (other ∷ bytes) = stays_false byte bytes

no_other : (byte i : ℕ) (bytes : List ℕ) → fold (λ equal other. equal && (other == byte)) true bytes ≡ true →
    position_from (λ other. not (other == byte)) i bytes ≡ None
no_other byte i [] all = refl
no_other byte i (other ∷ bytes) all = ⊎_elim
    (λ (t : (other == byte) ≡ true). rw t (no_other byte (i + 1) bytes (rw t at all)))
    (λ (f : (other == byte) ≡ false). let no : false ≡ true = sym (stays_false byte bytes) ∙ (rw f at all) in cc)
    (cases_Bool (other == byte))

pub returns-then-are_all-clause-value : goal.returns-then-are_all-clause-value
returns-then-are_all-clause-value c = sym (no_other c.args.byte 0 c.args.bytes.now (sym c.are_all.ensures ∙ c.if-are_all.true))
