-- Pages that have room for a block: for a chunk, and the place that is picked on them, one that nothing in use has;
-- and runs of pages that nothing in use touches.
use Rattle.std.proofs.Common.{◌≡◌, ℕ, ◌+◌, ◌*◌, ◌%◌, ◌<◌, ◌≤◌, inl, Bool, true, false, ◌&&◌, nat_eq, nat_le, List, length, Option, Some, None, unwrap_or, IsTrue, refl, sym, ap, ◌∙◌, subst, arith}
use Rattle.std.specs.List.{list_all, list_any, find, slice_get, range_with_len, AllByRecursion}
use Rattle.std.proofs.lemmas.Bool.{true≢false, cases_Bool, and_parts, not-true, not_from_false, ne_eqb, eqb-true, eqb-false, leb-true}
use Rattle.std.proofs.lemmas.Nat.{mod_below}
use mathlib.Core.Logic.{⊎_elim}
use Rattle.om_geom.specs.Addresses.{bit_of, page_at}
use Rattle.om_geom.specs.Classes.{is_class, places_of}
use Rattle.om_geom.specs.ClassLaws.{places-at_least_2}
use Rattle.om_geom.specs.Fit.{cyclic}
use Rattle.om_geom.specs.FitLaws.{find-passes, find-cyclic_below, find-cyclic_none, list_all-range}
use Rattle.om_geom.specs.Numbers.{zone_pages}
use Rattle.om_model.specs.Pool.Rules.{Rules}
use Rattle.om_model.specs.Pool.State.{is_held}
use Rattle.om_model.specs.Pool.InUse.{Kind, Chunk, Pages, Guard, Use, use_of_place, touches, begins_at, is_free_page}
use Rattle.om_model.specs.Pool.Picks.{place_address, is_free_place, is_chunk_of, is_free_run, is_open_page, open_pages, own_page, own_run, picked_place}
use Rattle.om_model.specs.Pool.WellFormed.{EachPair, AgreeOnPages}
use Rattle.om_model.proofs.Each.{all-weaker, all-both, all-filter, all-find, all-get, passes-filter, none-any, any-none, any-passing, any-range, all-range, pairs-all, pairs-weaker}
use Rattle.om_model.proofs.Held.{all-held}
use Rattle.om_model.proofs.Sound.{IsPlace, IsPlaced, GoTogether, HasShape, first_of, place_of, place-page, place-kind, touches-place, touches-first, shape-chunk, apart-on_page, apart-pages, alike-self, alike-swap, alike-chunk, same_class}

-- all that touches the page is of the class
abbrev pub IsAllOf : List Use → ℕ → ℕ → Type 0
IsAllOf used page class = AllByRecursion (λ one. touches page one ≡ true → one.kind ≡ Chunk class) used

-- nothing touches the page
abbrev pub IsUntouched : List Use → ℕ → Type 0
IsUntouched used page = AllByRecursion (λ one. touches page one ≡ false) used

-- the page has room for a chunk of the class
pub record Serves (rules : Rules) (held : List ℕ) (used : List Use) (page class : ℕ) : Type 0 where
  pub held_is : is_held held page ≡ true
  pub there : page < zone_pages * rules.zones
  pub room : list_any (is_free_place used page class) (range_with_len 0 (places_of class)) ≡ true
  pub all_of : IsAllOf used page class

-- so many pages of one zone from this one on are held, and nothing touches them
pub record HasRun (rules : Rules) (held : List ℕ) (used : List Use) (first count : ℕ) : Type 0 where
  pub held_is : (page : ℕ) → first ≤ page → page < first + count → is_held held page ≡ true
  pub there : first + count ≤ zone_pages * rules.zones
  pub untouched : (page : ℕ) → first ≤ page → page < first + count → IsUntouched used page
  pub zone : bit_of first + count ≤ zone_pages

pub record IsPicked (used : List Use) (page class index : ℕ) : Type 0 where
  pub below : index < places_of class
  pub free : is_free_place used page class index ≡ true

pub untouched-free : (used : List Use) (page : ℕ) → is_free_page used page ≡ true → IsUntouched used page
untouched-free used page free = none-any (touches page) used (not-true (list_any (touches page) used) free)

pub not-touched : (page : ℕ) (one : Use) → touches page one ≡ false → touches page one ≡ true → ⊥
not-touched page one isnt touched = true≢false (sym touched ∙ isnt)

pub chunk-is : (class : ℕ) (kind : Kind) → is_chunk_of class kind ≡ true → kind ≡ Chunk class
chunk-is class (Chunk other) is = ap Chunk (eqb-true other class is)
chunk-is class Pages is = cc
chunk-is class Guard is = cc

module _ (rules : Rules) (held : List ℕ) (used : List Use) (placed : AllByRecursion (IsPlaced rules held) used) where
  free-first : (page class : ℕ) → IsTrue (is_class class) → IsUntouched used page → is_free_place used page class 0 ≡ true
  free-first page class is untouched =
      let address = place_address page class 0 in
      let on = place-page page class 0 is (omega (arith, places-at_least_2 class is)) in
      not_from_false (list_any (begins_at address) used)
      (any-none (begins_at address) used
      (all-both (IsPlaced rules held) (λ one. touches page one ≡ false) (λ one. begins_at address one ≡ false) used
      (λ one here isnt. ne_eqb (first_of one) address (λ e.
      let P : ℕ → Type 0 = λ p. touches p one ≡ true in
      not-touched page one isnt (subst P (ap page_at e ∙ on) (touches-first one here.shape))))
      placed untouched))

  -- a page that nothing touches serves each class
  pub serves-run : (page class : ℕ) → IsTrue (is_class class) → HasRun rules held used page 1 → Serves rules held used page class
  serves-run page class is run =
      let untouched = run.untouched page (omega arith) (omega arith) in
      record {
        held_is = run.held_is page (omega arith) (omega arith);
        there = let there = run.there in omega arith;
        room = any-range (is_free_place used page class) (places_of class) (omega (arith, places-at_least_2 class is)) (free-first page class is untouched);
        all_of = all-weaker (λ one. touches page one ≡ false) (λ one. touches page one ≡ true → one.kind ≡ Chunk class) used (λ one isnt touched. absurd (not-touched page one isnt touched)) untouched;
      }

  run-of_page : (page : ℕ) → is_held held page ≡ true → page < zone_pages * rules.zones → IsUntouched used page → HasRun rules held used page 1
  run-of_page page held_is there untouched =
      let same : (other : ℕ) → page ≤ other → other < page + 1 → page ≡ other = λ other low high. omega arith in
      record {
        held_is = λ other low high. subst (λ p. is_held held p ≡ true) (same other low high) held_is;
        there = omega arith;
        untouched = λ other low high. subst (IsUntouched used) (same other low high) untouched;
        zone = omega arith;
      }

  serves-open : (page class : ℕ) → is_held held page ≡ true → page < zone_pages * rules.zones → EachPair AgreeOnPages used → is_open_page used class page ≡ true → Serves rules held used page class
  serves-open page class held_is there alike open_is =
      let test : Use → Bool = λ one. touches page one && is_chunk_of class one.kind in
      let parts = and_parts (list_any test used) (list_any (is_free_place used page class) (range_with_len 0 (places_of class))) open_is in
      let one = any-passing test (λ one. AllByRecursion (AgreeOnPages one) used) used parts.0
      (pairs-all AgreeOnPages used (λ a p first second. alike-self a.kind) (λ a b both p first second. alike-swap a.kind b.kind (both p second first)) alike) in
      let passes = and_parts (touches page one.element) (is_chunk_of class (one.element).kind) one.passes in
      let kind = chunk-is class (one.element).kind passes.1 in
      record {
        held_is = held_is;
        there = there;
        room = parts.1;
        all_of = all-weaker (AgreeOnPages one.element) (λ other. touches page other ≡ true → other.kind ≡ Chunk class) used
            (λ other both here. alike-chunk class other.kind (rw kind at (both page passes.0 here))) one.holds;
      }

  -- a page that the pool has for a chunk serves it
  pub serves-own : (page class word : ℕ) → IsTrue (is_class class) → AllByRecursion (λ p. p < zone_pages * rules.zones) held → EachPair GoTogether used → own_page used held class word ≡ Some page → Serves rules held used page class
  unfolding own_page
  serves-own page class word is arena together own =
      let Held : ℕ → Type 0 = λ p. (is_held held p ≡ true) × (p < zone_pages * rules.zones) in
      let all : AllByRecursion Held held = all-both (λ p. is_held held p ≡ true) (λ p. p < zone_pages * rules.zones) Held held (λ p one two. (one, two)) (all-held held) arena in
      let pages = open_pages used held class in
      ⊎_elim
      (λ none.
      let found : find (is_free_page used) held ≡ Some page = rw none at own in
      let here = all-find Held (is_free_page used) held page all found in
      let untouched = untouched-free used page (find-passes (is_free_page used) held page found) in
      serves-run page class is (run-of_page page here.0 here.1 untouched))
      (λ some.
      let found : slice_get pages (word % length pages) ≡ Some page = rw some at own in
      let here = all-get Held pages (word % length pages) page (all-filter Held (is_open_page used class) held all) found in
      let passes = all-get (λ p. is_open_page used class p ≡ true) pages (word % length pages) page (passes-filter (is_open_page used class) held) found in
      serves-open page class here.0 here.1 (pairs-weaker GoTogether AgreeOnPages used (λ a b both. both.alike) together) passes)
      (cases_Bool (nat_eq (length pages) 0))

  -- a run that the pool has
  pub run-own : (first count : ℕ) → AllByRecursion (λ p. p < zone_pages * rules.zones) held → own_run used held count ≡ Some first → HasRun rules held used first count
  unfolding own_run
  run-own first count arena own =
      let test : ℕ → Bool = λ page. is_held held page && is_free_page used page in
      let parts = and_parts (nat_le (bit_of first + count) zone_pages) (list_all test (range_with_len first count)) (find-passes (is_free_run used held count) held first own) in
      let within = leb-true (bit_of first + count) zone_pages parts.0 in
      let there = all-find (λ p. p < zone_pages * rules.zones) (is_free_run used held count) held first arena own in
      let each : (page : ℕ) → first ≤ page → page < first + count → (is_held held page ≡ true) × (is_free_page used page ≡ true) =
      λ page low high. and_parts (is_held held page) (is_free_page used page) (list_all-range test first count parts.1 page low high) in
      record {
        held_is = λ page low high. (each page low high).0;
        there = omega arith;
        untouched = λ page low high. untouched-free used page (each page low high).1;
        zone = within;
      }

-- ---- the place that is picked

picked-or : (P : ℕ → Type 0) (found : Option ℕ) → (found ≡ None → ⊥) → ((i : ℕ) → found ≡ Some i → P i) → P (unwrap_or found 0)
picked-or P None none some = absurd (none refl)
picked-or P (Some i) none some = some i refl

pub picked : (used : List Use) (page class word : ℕ) → IsTrue (is_class class) → list_any (is_free_place used page class) (range_with_len 0 (places_of class)) ≡ true → IsPicked used page class (unwrap_or (picked_place used page class word) 0)
unfolding picked_place
picked used page class word is room =
    let test = is_free_place used page class in
    let count = places_of class in
    let start : word % count ≤ count = omega (arith, mod_below word count (omega (arith, places-at_least_2 class is))) in
    let free = any-passing test (λ i. i < 0 + count) (range_with_len 0 count) room (all-range 0 count) in
    picked-or (IsPicked used page class) (picked_place used page class word)
    (λ none.
    let taken : test free.element ≡ false = find-cyclic_none test count (word % count) none free.element (omega (arith, free.holds)) in
    let passes = free.passes in cc)
    (λ i found. record {
      below = find-cyclic_below test count (word % count) i start found;
      free = find-passes test (cyclic count (word % count)) i found;
    })

module _ (rules : Rules) (held : List ℕ) (used : List Use) (page class index : ℕ) (is : IsTrue (is_class class)) (serves : Serves rules held used page class) (pick : IsPicked used page class index) where
  abbrev new : Use
  new = use_of_place (place_of page class index)

  abbrev new_is : IsPlace new
  new_is = record { page = page; index = index; class = class; is = is; below = pick.below; one_is = refl }

  on_page : (other : ℕ) → touches other new ≡ true → page ≡ other
  on_page other touched = eqb-true page other (sym (touches-place new new_is other) ∙ touched)

  pub picked-placed : IsPlaced rules held new
  picked-placed = record {
    shape = inl new_is;
    held_is = λ other touched. subst (λ p. is_held held p ≡ true) (on_page other touched) serves.held_is;
    there = λ other touched. subst (λ p. p < zone_pages * rules.zones) (on_page other touched) serves.there;
  }

  -- it and another of its page and class
  beside : (one : Use) → touches page one ≡ true → one.kind ≡ Chunk class → begins_at (place_address page class index) one ≡ false → HasShape one → GoTogether new one
  beside one here kind isnt shape =
      let on = shape-chunk one class kind shape in
      let at : on.page ≡ page = eqb-true on.page page (sym (touches-place one on page) ∙ here) in
      let same : on.class ≡ class = same_class on.class class (sym (place-kind one on) ∙ kind) in
      let one_is : one ≡ use_of_place (place_of page class on.index) =
      on.one_is ∙ ap (λ p. use_of_place (place_of p on.class on.index)) at ∙ ap (λ c. use_of_place (place_of page c on.index)) same in
      record {
        apart = rw one_is (apart-on_page page class index on.index (λ e. eqb-false (first_of one) (place_address page class index) isnt (ap first_of one_is ∙ sym e)));
        alike = λ other first second. rw kind refl;
      }

  pub picked-together : AllByRecursion (IsPlaced rules held) used → AllByRecursion (GoTogether new) used
  picked-together placed =
      let address = place_address page class index in
      let Free : Use → Type 0 = λ one. begins_at address one ≡ false in
      let Of : Use → Type 0 = λ one. touches page one ≡ true → one.kind ≡ Chunk class in
      all-both (λ one. Of one × Free one) (IsPlaced rules held) (GoTogether new) used
      (λ one both here. ⊎_elim
      (λ touched. beside one touched (both.0 touched) both.1 here.shape)
      (λ isnt. apart-pages new one (inl new_is) (λ other first second.
      let P : ℕ → Type 0 = λ p. touches p one ≡ true in
      not-touched page one isnt (subst P (sym (on_page other first)) second)))
      (cases_Bool (touches page one)))
      (all-both Of Free (λ one. Of one × Free one) used (λ one first second. (first, second)) serves.all_of
      (none-any (begins_at address) used (not-true (list_any (begins_at address) used) pick.free)))
      placed
