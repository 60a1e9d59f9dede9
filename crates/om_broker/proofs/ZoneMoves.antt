-- Lists of moves, and what one more move changes in them.
use Rattle.std.proofs.Common.{◌≡◌, ◌≢◌, ℕ, zero, suc, ◌+◌, ◌-◌, ◌≤◌, Bool, true, false, cond, ◌==◌, List, [], ◌∷◌, ◌++◌, Option, Some, None, refl, subst, ◌∙◌, ap, arith, add-one, count_by, IfSome}
use Rattle.std.specs.List.{AllByRecursion, find}
use Rattle.std.specs.Option.{is_some, option_or}
use Rattle.std.proofs.lemmas.Bool.{cases_eq, and_from, and_left, and_right, eq-eqb, ne_eqb}
use Rattle.std.proofs.lemmas.List.Folds.{find-append}
use Rattle.std.proofs.lemmas.List.Sums.{sum_by-cons, sum_by_push}
use Rattle.om_geom.specs.BitLaws.{fit_of-same}
use Rattle.om_geom.specs.Fit.{searched_bit}
use Rattle.om_model.proofs.Each.{all-weaker, all-both, find-nothing}
use Rattle.om_model.specs.declared.entry.ZoneMove.{ZoneMove}
use Rattle.om_model.specs.Zones.Order.{IsNumbered, IsZoneOrder, IsLawfulMove, is_at, last_version, owner, owner_after, fit_at}
use Rattle.om_broker.specs.ZoneStand.{IsOwnMove}
use mathlib.Core.Logic.{⊎_elim}
use Rattle.om_broker.proofs.Lists.{tally}

-- ---- each element of a list

pub all_push : {X : Type 0} (P : X → Type 0) (xs : List X) (y : X) → AllByRecursion P xs → P y → AllByRecursion P (xs ++ y ∷ [])
all_push P [] y all last = (last, tt)
all_push P (x ∷ xs) y all last = (all.0, all_push P xs y all.1 last)

count_by-none : {X : Type 0} (test : X → Bool) (xs : List X) → AllByRecursion (λ x. test x ≡ false) xs → count_by test xs ≡ 0
count_by-none test [] all = refl
count_by-none test (x ∷ xs) all =
    let here : tally (test x) ≡ 0 = ap tally all.0 in
    let rest = count_by-none test xs all.1 in
    let split = sum_by-cons (λ y. cond (test y) 1 0) x xs in
    omega arith

find-push_no : {X : Type 0} (test : X → Bool) (xs : List X) (y : X) → test y ≡ false → find test (xs ++ y ∷ []) ≡ find test xs
find-push_no {X} test xs y out = find-append test xs (y ∷ []) ∙ ap (λ b. option_or (find test xs) (cond b (Some y) None)) out ∙ right (find test xs)
  where
    right : (o : Option X) → option_or o None ≡ o
    right None = refl
    right (Some x) = refl

find-push_first : {X : Type 0} (test : X → Bool) (xs : List X) (y : X) → find test xs ≡ None → test y ≡ true → find test (xs ++ y ∷ []) ≡ Some y
find-push_first test xs y none passes = find-append test xs (y ∷ []) ∙ ap (λ o. option_or o (cond (test y) (Some y) None)) none ∙ ap (λ b. cond b (Some y) None) passes

count_by-push_no : {X : Type 0} (test : X → Bool) (xs : List X) (y : X) → test y ≡ false → count_by test (xs ++ y ∷ []) ≡ count_by test xs
count_by-push_no test xs y out =
    let more = sum_by_push (λ x. cond (test x) 1 0) xs y in
    let last : tally (test y) ≡ 0 = ap tally out in
    omega arith

count_by-push_yes : {X : Type 0} (test : X → Bool) (xs : List X) (y : X) → test y ≡ true → count_by test (xs ++ y ∷ []) ≡ count_by test xs + 1
count_by-push_yes test xs y passes =
    let more = sum_by_push (λ x. cond (test x) 1 0) xs y in
    let last : tally (test y) ≡ 1 = ap tally passes in
    omega arith

-- ---- one more move

pub is_at-true : (zone version : ℕ) (m : ZoneMove) → m.made.zone ≡ zone → m.made.version ≡ version → is_at zone version m ≡ true
is_at-true zone version m z v = and_from _ _ (eq-eqb m.made.zone zone z) (eq-eqb m.made.version version v)

is_at-other_zone : (zone version : ℕ) (m : ZoneMove) → m.made.zone ≢ zone → is_at zone version m ≡ false
is_at-other_zone zone version m z = and_left _ _ (ne_eqb m.made.zone zone z)

is_at-other_version : (zone version : ℕ) (m : ZoneMove) → m.made.version ≢ version → is_at zone version m ≡ false
is_at-other_version zone version m v = and_right _ _ (ne_eqb m.made.version version v)

module _ (moves : List ZoneMove) (m : ZoneMove) where
  abbrev longer : List ZoneMove
  longer = moves ++ m ∷ []

  pub last_version-same : (zone : ℕ) → m.made.zone ≡ zone → last_version longer zone ≡ last_version moves zone + 1
  last_version-same zone z = count_by-push_yes (λ x. x.made.zone == zone) moves m (eq-eqb m.made.zone zone z)

  pub last_version-other : (zone : ℕ) → m.made.zone ≢ zone → last_version longer zone ≡ last_version moves zone
  last_version-other zone z = count_by-push_no (λ x. x.made.zone == zone) moves m (ne_eqb m.made.zone zone z)

  pub last_version-grows : (zone : ℕ) → last_version moves zone ≤ last_version longer zone
  last_version-grows zone = ⊎_elim
      (λ z. let more = last_version-same zone z in omega arith)
      (λ z. let more = last_version-other zone z in omega arith)
      (cases_eq m.made.zone zone)

  owner-same : (zone bit u : ℕ) → ((v : ℕ) → v ≤ u → is_at zone v m ≡ false) → owner longer zone u bit ≡ owner moves zone u bit
  owner-same zone bit zero out = refl
  owner-same zone bit (suc u) out =
      ap (λ o. owner_after o bit (owner longer zone u bit)) (find-push_no (is_at zone (suc u)) moves m (out (suc u) (omega arith)))
      ∙ ap (λ o. owner_after (find (is_at zone (suc u)) moves) bit o) (owner-same zone bit u (λ v le. out v (omega arith)))

  -- who had a bit before is not changed by the next move
  pub owner-stable : (zone bit u : ℕ) → m.made.version ≡ last_version moves m.made.zone + 1 → u ≤ last_version moves zone → owner longer zone u bit ≡ owner moves zone u bit
  owner-stable zone bit u next le = owner-same zone bit u (λ v low. ⊎_elim
      (λ z. let same = ap (last_version moves) z in is_at-other_version zone v m (λ e. omega arith))
      (λ z. is_at-other_zone zone v m z)
      (cases_eq m.made.zone zone))

  -- a lawful move stays lawful
  lawful-stable : (x : ZoneMove) → m.made.version ≡ last_version moves m.made.zone + 1 → x.made.version ≤ last_version moves x.made.zone + 1 → IsLawfulMove moves x → IsLawfulMove longer x
  lawful-stable x next low lawful = record {
    claim = λ t. record {
      clear = λ bit from below. same bit ∙ (lawful.claim t).clear bit from below;
      first = first x.search (lawful.claim t).first;
    };
    release = λ f bit from below. same bit ∙ lawful.release f bit from below;
  }
    where
      same : (bit : ℕ) → owner longer x.made.zone (x.made.version - 1) bit ≡ owner moves x.made.zone (x.made.version - 1) bit
      same bit = owner-stable x.made.zone bit (x.made.version - 1) next (omega arith)

      first : (search : Option ℕ) → IfSome search (λ word. fit_at moves x.made.zone (x.made.version - 1) x.made.count word ≡ Some x.made.first)
          → IfSome search (λ word. fit_at longer x.made.zone (x.made.version - 1) x.made.count word ≡ Some x.made.first)
      first None found = tt
      first (Some word) found = fit_of-same _ _ x.made.count (searched_bit word) (λ bit lt. ap is_some (same bit)) ∙ found

-- ---- zone order

module _ (zones : ℕ) (moves : List ZoneMove) (m : ZoneMove) (own : AllByRecursion (IsOwnMove zones moves) moves) where
  -- no move has the next version yet
  not_yet : (zone : ℕ) → AllByRecursion (λ x. is_at zone (suc (last_version moves zone)) x ≡ false) moves
  not_yet zone = all-weaker (IsOwnMove zones moves) (λ x. is_at zone (suc (last_version moves zone)) x ≡ false) moves
      (λ x (mine : IsOwnMove zones moves x). ⊎_elim
      (λ z. let same = ap (last_version moves) z in let low = mine.version in is_at-other_version zone _ x (λ e. omega arith))
      (λ z. is_at-other_zone zone _ x z)
      (cases_eq x.made.zone zone))
      own

  module _ (next : m.made.version ≡ last_version moves m.made.zone + 1) where
    -- who has a bit after the next move
    pub owner-next : (bit : ℕ) → owner (moves ++ m ∷ []) m.made.zone (last_version moves m.made.zone + 1) bit ≡ owner_after (Some m) bit (owner moves m.made.zone (last_version moves m.made.zone) bit)
    owner-next bit =
        let zone : ℕ = m.made.zone in
        let last : ℕ = last_version moves zone in
        ap (λ u. owner (moves ++ m ∷ []) zone u bit) (add-one last)
        ∙ ap (λ o. owner_after o bit (owner (moves ++ m ∷ []) zone last bit)) (find-push_first (is_at zone (suc last)) moves m (find-nothing _ moves (not_yet zone)) (is_at-true zone (suc last) m refl (omega arith)))
        ∙ ap (λ o. owner_after (Some m) bit o) (owner-stable moves m zone bit last next (omega arith))

    module _ (order : IsZoneOrder moves) where
      once-push : (zone : ℕ) → IsNumbered (moves ++ m ∷ []) zone
      once-push zone version low high = ⊎_elim
          (λ z. let same = ap (last_version moves) z in let more = last_version-same moves m zone z in ⊎_elim
          (λ v. let none : count_by (is_at zone version) moves ≡ 0 = subst (λ u. count_by (is_at zone u) moves ≡ 0) (let e : suc (last_version moves zone) ≡ version = omega arith in e) (count_by-none _ moves (not_yet zone)) in
          let one = count_by-push_yes (is_at zone version) moves m (is_at-true zone version m z v) in omega arith)
          (λ v. count_by-push_no (is_at zone version) moves m (is_at-other_version zone version m v) ∙ order.once zone version low (omega arith))
          (cases_eq m.made.version version))
          (λ z. let more = last_version-other moves m zone z in count_by-push_no (is_at zone version) moves m (is_at-other_zone zone version m z) ∙ order.once zone version low (omega arith))
          (cases_eq m.made.zone zone)

      pub order-push : IsLawfulMove moves m → IsZoneOrder (moves ++ m ∷ [])
      order-push lawful = record {
        once = once-push;
        lawful = all_push (IsLawfulMove (moves ++ m ∷ [])) moves m
            (all-both (IsOwnMove zones moves) (IsLawfulMove moves) (IsLawfulMove (moves ++ m ∷ [])) moves
            (λ x (mine : IsOwnMove zones moves x) fine. let low = mine.version in lawful-stable moves m x next (omega arith) fine)
            own order.lawful)
            (lawful-stable moves m m next (omega arith) lawful);
      }
