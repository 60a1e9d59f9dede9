-- What the search for a free place of a page finds, and when it finds none.
use Rattle.std.proofs.Common.{◌≡◌, ℕ, zero, suc, ◌*◌, ◌/◌, ◌%◌, ◌<◌, ◌≤◌, true, false, ◌||◌, ◌==◌, if◌then◌else◌, List, [], ◌∷◌, length, Option, Some, None, refl, sym, ap, ◌∙◌, arith}
use Rattle.std.specs.Prelude.{IfSome, is_some}
use Rattle.std.specs.List.{list_any, slice_get}
use Rattle.std.proofs.Math.Nat.{mul-div_cancel, mul-mod_left}
use Rattle.std.proofs.lemmas.Bool.{or_right}
use Rattle.om_geom.specs.Classes.{stride_of, places_of}
use Rattle.om_geom.specs.ClassLaws.{stride-positive, places-at_least_2, place-within}
use Rattle.om_geom.specs.Fit.{cyclic}
use Rattle.om_geom.specs.FitLaws.{find-passes, find-cyclic_below, find-cyclic_none}
use Rattle.om_chunk.specs.Places.{ChunkPage, is_free, has_free, is_there_and_free, is_free_place, picked_place, IsFormed, IsFreeIn}
use Rattle.om_chunk.specs.declared.place.Place.{Place}
use Rattle.om_chunk.specs.declared.place.Place.TheVariants.{Live, Delayed, Free}

any-at : (xs : List Place) (i : ℕ) → slice_get xs i ≡ Some Free → list_any is_free xs ≡ true
any-at [] i found = cc
any-at (x ∷ xs) zero found = let same : x ≡ Free = cc in ap (λ (place : Place). is_free place || list_any is_free xs) same
any-at (x ∷ xs) (suc i) found = or_right (is_free x) (list_any is_free xs) (any-at xs i found)

none-free : (xs : List Place) → ((i : ℕ) → i < length xs → is_there_and_free (slice_get xs i) ≡ false) → list_any is_free xs ≡ false
none-free [] each = refl
none-free (x ∷ xs) each =
    ap (λ b. b || list_any is_free xs) (each zero (omega arith))
    ∙ none-free xs (λ i lt. each (suc i) (omega arith))

free-there : (place : Option Place) → is_there_and_free place ≡ true → place ≡ Some Free
free-there None free = cc
free-there (Some Free) free = refl
free-there (Some Delayed) free = cc
free-there (Some (Live size site)) free = cc

module _ (page : ChunkPage) (formed : IsFormed page) (word : ℕ) where
  start-within : word % places_of page.class ≤ places_of page.class
  start-within = let some = places-at_least_2 page.class formed.class in omega arith

  found-free : (place : ℕ) → picked_place page word ≡ Some place → slice_get page.places place ≡ Some Free
  found-free place found = free-there (slice_get page.places place) (find-passes (is_free_place page) (cyclic (places_of page.class) (word % places_of page.class)) place found)

  is_free_in : (place : ℕ) → picked_place page word ≡ Some place → IsFreeIn page place
  is_free_in place found =
      let some = stride-positive page.class formed.class in
      let there = find-cyclic_below (is_free_place page) (places_of page.class) (word % places_of page.class) place start-within found in
      let fits = place-within page.class place formed.class there in
      record {
        there = there;
        on_page = omega arith;
        free = ap (λ n. if n == 0 then slice_get page.places (place * stride_of page.class / stride_of page.class) else None) (mul-mod_left place (stride_of page.class))
            ∙ ap (λ i. slice_get page.places i) (mul-div_cancel place some)
            ∙ found-free place found;
      }

  some_by : (answer : Option ℕ) → picked_place page word ≡ answer → is_some answer ≡ has_free page
  some_by None none =
      sym (none-free page.places (λ i lt. let long = formed.long in find-cyclic_none (is_free_place page) (places_of page.class) (word % places_of page.class) none i (omega arith)))
  some_by (Some place) found = sym (any-at page.places place (found-free place found))

  -- one is found exactly where one is free
  pub picked-some : (answer : Option ℕ) → answer ≡ picked_place page word → is_some answer ≡ has_free page
  picked-some answer is = some_by answer (sym is)

  pub picked-free : (answer : Option ℕ) → answer ≡ picked_place page word → IfSome answer (IsFreeIn page)
  picked-free None is = tt
  picked-free (Some place) is = is_free_in place (sym is)
