-- Held pages ascend. What holds of them stays where a run of pages comes in or goes.
use Rattle.std.proofs.Common.{◌≡◌, ℕ, zero, suc, ◌+◌, ◌<◌, ◌≤◌, Bool, true, false, not, ◌&&◌, ◌||◌, nat_eq, nat_le, nat_lt, List, [], ◌∷◌, ◌++◌, cond, refl, sym, ap, ◌∙◌, arith, eq-eqb}
use Rattle.std.specs.List.{filter, range_with_len, AllByRecursion}
use Rattle.std.proofs.lemmas.Bool.{and_parts, eqb-true, leb-true, or_left, or_right, ltb-true}
use Rattle.std.proofs.lemmas.Bool.Decides.{nat_tests}
use Rattle.std.proofs.lemmas.List.Folds.{list_any-append}
use Rattle.std.proofs.Math.Bool.{and-false}
use Rattle.om_geom.specs.Fit.{is_in_run}
use Rattle.om_model.specs.Pool.Runs.{Run, is_page_of}
use Rattle.om_model.specs.Pool.State.{is_held, with_run, without_run}
use Rattle.om_model.specs.Pool.WellFormed.{EachPair}
use Rattle.om_model.proofs.Each.{all-weaker, all-append, all-filter, passes-filter, all-range, pairs-append, pairs-filter}

-- each page is below those after it
abbrev pub Ascends : List ℕ → Type 0
Ascends held = EachPair ◌<◌ held

pub all-held : (held : List ℕ) → AllByRecursion (λ page. is_held held page ≡ true) held
all-held [] = tt
all-held (x ∷ xs) = (
  or_left _ _ (eq-eqb x x refl),
  all-weaker (λ page. is_held xs page ≡ true) (λ page. is_held (x ∷ xs) page ≡ true) xs (λ page there. or_right _ _ there) (all-held xs),
)

held_step : (found rest within passes here : Bool) → (found ≡ true → here ≡ passes) → within ≡ (rest && passes) → cond here (found || within) within ≡ ((found || rest) && passes)
held_step true rest within true here same ih = rw (same refl) refl
held_step true rest within false here same ih = rw (same refl) (ih ∙ and-false rest)
held_step false rest within passes true same ih = ih
held_step false rest within passes false same ih = ih

held-cond : (here : Bool) (x : ℕ) (xs : List ℕ) (page : ℕ) → is_held (cond here (x ∷ xs) xs) page ≡ cond here (nat_eq page x || is_held xs page) (is_held xs page)
held-cond true x xs page = refl
held-cond false x xs page = refl

-- among the pages that pass the test are those that are held and pass
pub held-filter : (test : ℕ → Bool) (held : List ℕ) (page : ℕ) → is_held (filter test held) page ≡ (is_held held page && test page)
held-filter test [] page = refl
held-filter test (x ∷ xs) page =
    held-cond (test x) x (filter test xs) page
    ∙ held_step (nat_eq page x) (is_held xs page) (is_held (filter test xs) page) (test page) (test x)
    (λ same. ap test (sym (eqb-true page x same)))
    (held-filter test xs page)

-- no page from a bound on is held where all held ones are below it
pub held-below : (held : List ℕ) (bound page : ℕ) → AllByRecursion (λ p. p < bound) held → bound ≤ page → is_held held page ≡ false
held-below [] bound page below past = refl
held-below (x ∷ xs) bound page below past = let other : nat_eq page x ≡ false = grind (arith, nat_tests, below.0) in rw other (held-below xs bound page below.1 past)

-- ---- runs of pages

-- a page of a run lies between its ends
pub run-ends : (run : Run) (page : ℕ) → is_page_of run page ≡ true → (run.first ≤ page) × (page < run.first + run.count)
run-ends run page inside =
    let parts = and_parts (nat_le run.first page) (nat_lt page (run.first + run.count)) inside in
    (leb-true run.first page parts.0, ltb-true page (run.first + run.count) parts.1)

all-from : (first count : ℕ) → AllByRecursion (λ page. first ≤ page) (range_with_len first count)
all-from first zero = tt
all-from first (suc count) =
    (omega arith, all-weaker (λ page. first + 1 ≤ page) (λ page. first ≤ page) (range_with_len (first + 1) count) (λ page later. omega arith) (all-from (first + 1) count))

ascends-range : (first count : ℕ) → Ascends (range_with_len first count)
ascends-range first zero = tt
ascends-range first (suc count) =
    (all-weaker (λ page. first + 1 ≤ page) (λ page. first < page) (range_with_len (first + 1) count) (λ page later. omega arith) (all-from (first + 1) count), ascends-range (first + 1) count)

held-range : (first count page : ℕ) → is_held (range_with_len first count) page ≡ is_in_run first count page
held-range first zero page = grind (arith, nat_tests)
held-range first (suc count) page = let rest = held-range (first + 1) count page in rw rest (grind (arith, nat_tests))

module _ (run : Run) (held : List ℕ) where
  abbrev below : List ℕ
  below = filter (λ page. nat_lt page run.first) held

  abbrev above : List ℕ
  above = filter (λ page. nat_le (run.first + run.count) page) held

  with_parts : (h : Bool) (page : ℕ) → (((h && nat_lt page run.first) || is_page_of run page) || (h && nat_le (run.first + run.count) page)) ≡ (h || is_page_of run page)
  with_parts true page = grind (arith, nat_tests)
  with_parts false page = grind (arith, nat_tests)

  pub held-with_run : (page : ℕ) → is_held (with_run run held) page ≡ (is_held held page || is_page_of run page)
  held-with_run page =
      let pages = range_with_len run.first run.count in
      list_any-append (nat_eq page) (below ++ pages) above
      ∙ ap (λ b. b || is_held above page) (list_any-append (nat_eq page) below pages)
      ∙ ap (λ b. (b || is_held pages page) || is_held above page) (held-filter (λ p. nat_lt p run.first) held page)
      ∙ ap (λ b. ((is_held held page && nat_lt page run.first) || b) || is_held above page) (held-range run.first run.count page)
      ∙ ap (λ b. ((is_held held page && nat_lt page run.first) || is_page_of run page) || b) (held-filter (λ p. nat_le (run.first + run.count) p) held page)
      ∙ with_parts (is_held held page) page

  pub held-without_run : (page : ℕ) → is_held (without_run run held) page ≡ (is_held held page && not (is_page_of run page))
  held-without_run page = held-filter (λ p. not (is_page_of run p)) held page

  -- pages that were held stay so, and those of the run are held too
  pub held-still : (page : ℕ) → is_held held page ≡ true → is_held (with_run run held) page ≡ true
  held-still page there = held-with_run page ∙ or_left _ _ there

  pub held-in_run : (page : ℕ) → run.first ≤ page → page < run.first + run.count → is_held (with_run run held) page ≡ true
  held-in_run page low high = let inside : is_page_of run page ≡ true = grind (arith, nat_tests) in held-with_run page ∙ or_right _ _ inside

  pub all-with_run : (P : ℕ → Type 0) → ((page : ℕ) → page < run.first + run.count → P page) → AllByRecursion P held → AllByRecursion P (with_run run held)
  all-with_run P inside all =
      all-append P (below ++ range_with_len run.first run.count) above
      (all-append P below (range_with_len run.first run.count) (all-filter P (λ page. nat_lt page run.first) held all)
      (all-weaker (λ page. page < run.first + run.count) P (range_with_len run.first run.count) inside (all-range run.first run.count)))
      (all-filter P (λ page. nat_le (run.first + run.count) page) held all)

  all-below : AllByRecursion (λ page. page < run.first) below
  all-below = all-weaker (λ page. nat_lt page run.first ≡ true) (λ page. page < run.first) below (λ page low. ltb-true page run.first low) (passes-filter (λ page. nat_lt page run.first) held)

  all-above : AllByRecursion (λ page. run.first + run.count ≤ page) above
  all-above =
      all-weaker (λ page. nat_le (run.first + run.count) page ≡ true) (λ page. run.first + run.count ≤ page) above
      (λ page high. leb-true (run.first + run.count) page high) (passes-filter (λ page. nat_le (run.first + run.count) page) held)

  pub ascends-with_run : Ascends held → Ascends (with_run run held)
  ascends-with_run ascends =
      let pages = range_with_len run.first run.count in
      pairs-append ◌<◌ (below ++ pages) above
      (pairs-append ◌<◌ below pages (pairs-filter ◌<◌ (λ page. nat_lt page run.first) held ascends) (ascends-range run.first run.count)
      (all-weaker (λ page. page < run.first) (λ page. AllByRecursion (λ other. page < other) pages) below
      (λ page low. all-weaker (λ other. run.first ≤ other) (λ other. page < other) pages (λ other from. omega arith) (all-from run.first run.count)) all-below))
      (pairs-filter ◌<◌ (λ page. nat_le (run.first + run.count) page) held ascends)
      (all-weaker (λ page. page < run.first + run.count) (λ page. AllByRecursion (λ other. page < other) above) (below ++ pages)
      (λ page low. all-weaker (λ other. run.first + run.count ≤ other) (λ other. page < other) above (λ other high. omega arith) all-above)
      (all-append (λ page. page < run.first + run.count) below pages (all-weaker (λ page. page < run.first) (λ page. page < run.first + run.count) below (λ page low. omega arith) all-below) (all-range run.first run.count)))
