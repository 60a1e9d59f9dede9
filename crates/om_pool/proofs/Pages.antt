-- Lists of held pages where one comes in.
use Rattle.std.proofs.Common.{◌≡◌, ℕ, ◌+◌, ◌<◌, Bool, true, false, nat_eq, nat_le, nat_lt, List, [], ◌∷◌, ◌++◌, length, refl, sym, ap, ◌∙◌, arith}
use Rattle.std.specs.List.{filter, insert, AllByRecursion}
use Rattle.std.proofs.lemmas.Bool.{cases_lt, eqb-false}
use Rattle.std.proofs.lemmas.Bool.Decides.{nat_tests}
use mathlib.Core.Logic.{⊎_elim}
use Rattle.om_model.specs.Pool.State.{is_held, with_run}
use Rattle.om_model.specs.Pool.WellFormed.{EachPair}
use Rattle.om_model.proofs.Each.{or_none}
use Rattle.om_pool.specs.Asking.{one_page}

-- ---- a new page goes behind those below it

module _ (page : ℕ) where
  abbrev is_below : ℕ → Bool
  is_below other = nat_lt other page

  abbrev is_above : ℕ → Bool
  is_above other = nat_le (page + 1) other

  -- what is above a page has no page below it
  below-none : (pages : List ℕ) → AllByRecursion (λ other. page < other) pages → filter is_below pages ≡ []
  below-none [] all = refl
  below-none (x ∷ xs) all = let test : is_below x ≡ false = grind (arith, nat_tests, all.0) in rw test (below-none xs all.1)

  above-all : (pages : List ℕ) → AllByRecursion (λ other. page < other) pages → filter is_above pages ≡ pages
  above-all [] all = refl
  above-all (x ∷ xs) all = let test : is_above x ≡ true = grind (arith, nat_tests, all.0) in rw test (ap (λ ys. x ∷ ys) (above-all xs all.1))

  all-above : (low : ℕ) (pages : List ℕ) → page < low → AllByRecursion (λ other. low < other) pages → AllByRecursion (λ other. page < other) pages
  all-above low [] lt all = all
  all-above low (x ∷ xs) lt all = (omega (arith, all.0), all-above low xs lt all.1)

  pub insert-with_run : (held : List ℕ) → EachPair ◌<◌ held → is_held held page ≡ false → insert held (length (filter is_below held)) page ≡ with_run (one_page page) held
  insert-with_run [] ascends fresh = refl
  insert-with_run (x ∷ xs) ascends fresh =
      let parts = or_none (nat_eq page x) (is_held xs page) fresh in
      let rest = insert-with_run xs ascends.1 parts.1 in
      let ne = eqb-false page x parts.0 in
      ⊎_elim
      (λ lt.
      let below : is_below x ≡ true = grind (arith, nat_tests) in
      let above : is_above x ≡ false = grind (arith, nat_tests) in
      rw (below, above) (ap (λ ys. x ∷ ys) rest))
      (λ le.
      let all : AllByRecursion (λ other. page < other) (x ∷ xs) = (omega (arith, ne), all-above x xs (omega (arith, ne)) ascends.0) in
      let none = below-none (x ∷ xs) all in
      ap (λ ys. insert (x ∷ xs) (length ys) page) none ∙ sym (ap (λ ys. (ys ++ page ∷ []) ++ filter is_above (x ∷ xs)) none ∙ ap (λ ys. page ∷ ys) (above-all (x ∷ xs) all)))
      (cases_lt x page)
