-- The flagged pages once the flag of one page has changed: where it is found, or where it belongs.
use Rattle.std.proofs.Common.{◌≡◌, ◌≢◌, ℕ, ◌+◌, ◌-◌, ◌<◌, ◌≤◌, Bool, true, false, List, [], ◌∷◌, ◌++◌, Ok, Err, length, get_or, set, take, drop, cond, replicate, refl, sym, subst, ap, ◌∙◌, arith}
use Rattle.std.specs.List.{All, filter, range_with_len, insert, remove}
use Rattle.std.specs.List.Sorted.{IsBinarySearchResult}
use Rattle.std.specs.Ordering.{nat_cmp}
use Rattle.std.proofs.lemmas.Bool.{true_from_ne_false, false_from_ne_true}
use Rattle.std.proofs.lemmas.List.{take-append-drop, drop_more, get_or-set_same, get_or-set_other, get_or-replicate, get_or_past, length-replicate, length-set, get_or_default, take_at, drop_at, places}
use Rattle.std.proofs.lemmas.List.Edits.{length-insert, remove-append_right}
use Rattle.std.proofs.lemmas.List.Elements.{All-head, All-tail, All-filter, filter-append, filter_agree, filter_passes}
use Rattle.std.proofs.lemmas.List.Sums.{length-filter, count_by-le-length}
use Rattle.std.proofs.lemmas.List.Sorted.{searched}
use Rattle.std.proofs.lemmas.List.FromFn.{length-range_with_len, get_or-range_with_len}
use Rattle.std.proofs.lemmas.List.Kept.{IsNonDecreasingBy-filter}
use Rattle.om_chunk.specs.OpenSets.{flagged_pages}
use Rattle.std.proofs.Math.Bool.{beq}

-- ---- a number among smaller and greater ones

module _ (front back : List ℕ) (p : ℕ) (low : All (λ q. q < p) front) (high : All (λ q. p < q) back) where
  -- it is found at its place alone
  found-place : (k : ℕ) → k < length (front ++ p ∷ back) → get_or (front ++ p ∷ back) k 0 ≡ p → k ≡ length front
  found-place k lt is = grind (arith, places, low k 0, high (k - length front - 1) 0)

  -- where it is missing it belongs between them
  missing-place : (k : ℕ) → k ≤ length (front ++ back) → ((i : ℕ) → i < k → get_or (front ++ back) i 0 < p) → ((i : ℕ) → k ≤ i → i < length (front ++ back) → p < get_or (front ++ back) i 0) → k ≡ length front
  missing-place k le before after = grind (arith, places, low k 0, high 0 0, before (length front), after k)

  pub remove-found : (k : ℕ) → k < length (front ++ p ∷ back) → get_or (front ++ p ∷ back) k 0 ≡ p → remove (front ++ p ∷ back) k ≡ front ++ back
  remove-found k lt is =
      let at = found-place k lt is in
      let none : k - length front ≡ 0 = omega arith in
      remove-append_right front (p ∷ back) (length front) k refl (omega arith) ∙ ap (λ i. front ++ remove (p ∷ back) i) none

  pub insert-missing : (k : ℕ) → k ≤ length (front ++ back) → ((i : ℕ) → i < k → get_or (front ++ back) i 0 < p) → ((i : ℕ) → k ≤ i → i < length (front ++ back) → p < get_or (front ++ back) i 0) → insert (front ++ back) k p ≡ front ++ p ∷ back
  insert-missing k le before after = let at = missing-place k le before after in rw at (rw (take_at front back (length front) refl, drop_at front back (length front) refl) refl)

-- ---- the numbers below n that pass a test, on both sides of one

same-passed : (test after : ℕ → Bool) (xs : List ℕ) → All (λ q. test q ≡ after q) xs → filter test xs ≡ filter after xs
same-passed test after [] each = refl
same-passed test after (x ∷ xs) each =
    ap (λ b. cond b (x ∷ filter test xs) (filter test xs)) (All-head (λ q. test q ≡ after q) x xs each)
    ∙ ap (λ ys. cond (after x) (x ∷ ys) ys) (same-passed test after xs (All-tail (λ q. test q ≡ after q) x xs each))

module _ (n p : ℕ) (there : p < n) where
  abbrev below : List ℕ
  below = take p (range_with_len 0 n)

  abbrev above : List ℕ
  above = drop (p + 1) (range_with_len 0 n)

  below-low : All (λ q. q < p) below
  below-low k d lt = grind (arith, places, length-range_with_len, get_or-range_with_len)

  above-high : All (λ q. p < q) above
  above-high k d lt = grind (arith, places, length-range_with_len, get_or-range_with_len)

  pub split-passed : (test : ℕ → Bool) (passes : Bool) → test p ≡ passes → filter test (range_with_len 0 n) ≡ filter test below ++ cond passes (p ∷ filter test above) (filter test above)
  split-passed test passes is =
      let here : drop p (range_with_len 0 n) ≡ p ∷ above =
      drop_more (range_with_len 0 n) p 0 (omega (arith, length-range_with_len 0 n)) ∙ ap (λ q. q ∷ above) (get_or-range_with_len 0 n p 0 there ∙ omega arith) in
      ap (filter test) (sym (take-append-drop p (range_with_len 0 n)))
      ∙ filter-append test below (drop p (range_with_len 0 n))
      ∙ ap (λ xs. filter test below ++ filter test xs) here
      ∙ ap (λ b. filter test below ++ cond b (p ∷ filter test above) (filter test above)) is

-- no page is flagged at first
none-passed : (xs : List ℕ) → filter (λ (q : ℕ). false) xs ≡ []
none-passed [] = refl
none-passed (x ∷ xs) = none-passed xs

flag-none : (n q : ℕ) → get_or (replicate n false) q false ≡ false
flag-none n q = grind (arith, places, get_or-replicate, get_or_past, length-replicate)

pub flagged_pages-none : (n : ℕ) → flagged_pages (replicate n false) ≡ []
flagged_pages-none n =
    filter_agree (λ q. get_or (replicate n false) q false) (λ q. false) (flag-none n) (range_with_len 0 (length (replicate n false)))
    ∙ none-passed (range_with_len 0 (length (replicate n false)))

-- ---- once the flag of one page has changed

rising : (flags : List Bool) (i j : ℕ) → i ≤ j → j < length (flagged_pages flags) → get_or (flagged_pages flags) i 0 ≤ get_or (flagged_pages flags) j 0
rising flags i j = IsNonDecreasingBy-filter (λ q. q) (λ q. get_or flags q false) (range_with_len 0 (length flags))
    (λ a b d le lt. let few = length-range_with_len 0 (length flags) in
    omega (arith, get_or-range_with_len 0 (length flags) a d (omega arith), get_or-range_with_len 0 (length flags) b d (omega arith))) i j 0

flagged_pages-le : (flags : List Bool) → length (flagged_pages flags) ≤ length flags
flagged_pages-le flags =
    omega (arith, length-filter (λ q. get_or flags q false) (range_with_len 0 (length flags)), count_by-le-length (λ q. get_or flags q false) (range_with_len 0 (length flags)), length-range_with_len 0 (length flags))

beq-self : (b : Bool) → beq b b ≡ true
beq-self true = refl
beq-self false = refl

-- the flag as it was read isn't the new one
module _ (flags : List Bool) (p : ℕ) (read flag : Bool) (there : p < length flags) (is_read : read ≡ get_or flags p read) (differs : beq read flag ≡ false) where
  changes : get_or flags p false ≢ flag
  changes e =
      let same : read ≡ flag = is_read ∙ get_or_default flags p read false there ∙ e in
      let true_too : beq read flag ≡ true = ap (λ b. beq read b) (sym same) ∙ beq-self read in
      cc

  abbrev test : ℕ → Bool
  test q = get_or flags q false

  abbrev after : ℕ → Bool
  after q = get_or (set flags p flag) q false

  abbrev front : List ℕ
  front = filter test (below (length flags) p there)

  abbrev back : List ℕ
  back = filter test (above (length flags) p there)

  low : All (λ q. q < p) front
  low = All-filter test (λ q. q < p) (below (length flags) p there) (below-low (length flags) p there)

  high : All (λ q. p < q) back
  high = All-filter test (λ q. p < q) (above (length flags) p there) (above-high (length flags) p there)

  agree : (q : ℕ) → q ≢ p → after q ≡ test q
  agree q ne = get_or-set_other flags p q flag false ne

  flagged_pages-before : (was : Bool) → test p ≡ was → flagged_pages flags ≡ front ++ cond was (p ∷ back) back
  flagged_pages-before was is = split-passed (length flags) p there test was is

  flagged_pages-after : (now : Bool) → flag ≡ now → flagged_pages (set flags p flag) ≡ front ++ cond now (p ∷ back) back
  flagged_pages-after now is =
      ap (λ n. filter after (range_with_len 0 n)) (length-set flags p flag)
      ∙ split-passed (length flags) p there after now (get_or-set_same flags p flag false there ∙ is)
      ∙ ap (λ xs. xs ++ cond now (p ∷ filter after (above (length flags) p there)) (filter after (above (length flags) p there)))
      (same-passed after test (below (length flags) p there) (λ k d lt. let less : get_or (below (length flags) p there) k d < p = below-low (length flags) p there k d lt in agree _ (λ e. omega arith)))
      ∙ ap (λ xs. front ++ cond now (p ∷ xs) xs)
      (same-passed after test (above (length flags) p there) (λ k d lt. let more : p < get_or (above (length flags) p there) k d = above-high (length flags) p there k d lt in agree _ (λ e. omega arith)))

  -- a page that is found was flagged
  found-flagged : (k : ℕ) → k < length (flagged_pages flags) → get_or (flagged_pages flags) k 0 ≡ p → test p ≡ true
  found-flagged k lt is = subst (λ q. test q ≡ true) is (filter_passes test (range_with_len 0 (length flags)) k 0 lt)

  -- a page that isn't flagged is missing
  missing-unflagged : (k : ℕ) → ((i : ℕ) → i < k → get_or (flagged_pages flags) i 0 < p) → ((i : ℕ) → k ≤ i → i < length (flagged_pages flags) → p < get_or (flagged_pages flags) i 0) → test p ≡ false
  missing-unflagged k before past = false_from_ne_true (test p) (λ t.
      let all : flagged_pages flags ≡ front ++ p ∷ back = flagged_pages-before true t in
      grind (arith, places, all, before (length front), past (length front)))

  pub remove-searched : (xs : List ℕ) → xs ≡ flagged_pages flags → (k : ℕ) → IsBinarySearchResult (λ y. nat_cmp y p) xs (Ok k) → remove xs k ≡ flagged_pages (set flags p flag)
  remove-searched xs is k answer =
      let found : (k < length (flagged_pages flags)) × (get_or (flagged_pages flags) k 0 ≡ p) =
      searched (flagged_pages flags) p (Ok k) (subst (λ ys. IsBinarySearchResult (λ y. nat_cmp y p) ys (Ok k)) is answer) (rising flags) in
      let was : test p ≡ true = found-flagged k found.0 found.1 in
      let all : flagged_pages flags ≡ front ++ p ∷ back = flagged_pages-before true was in
      ap (λ ys. remove ys k) (is ∙ all)
      ∙ remove-found front back p low high k (subst (λ ys. k < length ys) all found.0) (subst (λ ys. get_or ys k 0 ≡ p) all found.1)
      ∙ sym (flagged_pages-after false (false_from_ne_true flag (λ e. changes (was ∙ sym e))))

  pub insert-searched : (xs : List ℕ) → xs ≡ flagged_pages flags → (k : ℕ) → IsBinarySearchResult (λ y. nat_cmp y p) xs (Err k) → insert xs k p ≡ flagged_pages (set flags p flag)
  insert-searched xs is k answer =
      let place : (k ≤ length (flagged_pages flags)) × ((i : ℕ) → i < k → get_or (flagged_pages flags) i 0 < p) × ((i : ℕ) → k ≤ i → i < length (flagged_pages flags) → p < get_or (flagged_pages flags) i 0) =
      searched (flagged_pages flags) p (Err k) (subst (λ ys. IsBinarySearchResult (λ y. nat_cmp y p) ys (Err k)) is answer) (rising flags) in
      let was : test p ≡ false = missing-unflagged k place.1 place.2 in
      let all : flagged_pages flags ≡ front ++ back = flagged_pages-before false was in
      ap (λ ys. insert ys k p) (is ∙ all)
      ∙ insert-missing front back p low high k (subst (λ ys. k ≤ length ys) all place.0)
      (subst (λ ys. (i : ℕ) → i < k → get_or ys i 0 < p) all place.1)
      (subst (λ ys. (i : ℕ) → k ≤ i → i < length ys → p < get_or ys i 0) all place.2)
      ∙ sym (flagged_pages-after true (true_from_ne_false flag (λ e. changes (was ∙ sym e))))

  -- there is room for one more
  pub room-searched : (xs : List ℕ) → xs ≡ flagged_pages flags → (k : ℕ) → k ≤ length xs → IsBinarySearchResult (λ y. nat_cmp y p) xs (Err k) → length xs < length flags
  room-searched xs is k le answer = omega (arith, length-insert xs k p le, ap length (insert-searched xs is k answer), flagged_pages-le (set flags p flag), length-set flags p flag)
