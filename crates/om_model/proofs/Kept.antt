-- Well-formed states are sound: what begins where a place does is one, and what begins where a page does is whole
-- pages. So each step, of every size, keeps states well formed.
use Rattle.std.proofs.Common.{◌≡◌, ℕ, ◌+◌, ◌-◌, ◌*◌, ◌/◌, ◌%◌, ◌<◌, ◌≤◌, inl, inr, Bool, true, false, nat_eq, nat_le, nat_lt, if◌then◌else◌, List, [], ◌∷◌, map, Option, Some, None, IsTrue, refl, sym, ap, ◌∙◌, arith}
use Rattle.std.specs.List.{flat_map, AllByRecursion}
use Rattle.std.proofs.lemmas.Bool.{and_parts, eqb-true, leb-true, ltb-true}
use Rattle.std.proofs.Math.Nat.{div-add-mod, mul_comm}
use Rattle.om_geom.specs.Addresses.{address_of, is_in_arena, page_at, page_extent}
use Rattle.om_geom.specs.AddressLaws.{SharesByte-true}
use Rattle.om_geom.specs.Classes.{is_class, data_pages, places_of, stride_of}
use Rattle.om_geom.specs.ClassLaws.{class_of-is_class, stride-at_least_16}
use Rattle.om_geom.specs.Numbers.{first_address, page_size, zone_pages}
use Rattle.om_model.specs.Pool.Rules.{Rules, size_class}
use Rattle.om_model.specs.Pool.State.{State, delayed, holds, is_held}
use Rattle.om_model.specs.Pool.InUse.{Guard, Use, guard_of, use_of_place, uses_by_class, uses_of_block, uses, touches}
use Rattle.om_model.specs.Pool.Picks.{place_address}
use Rattle.om_model.specs.Pool.Steps.{Answers}
use Rattle.om_model.specs.Pool.Malloc.{malloc_wish, malloc}
use Rattle.om_model.specs.Pool.Calloc.{calloc_wish, calloc}
use Rattle.om_model.specs.Pool.Free.{free}
use Rattle.om_model.specs.Pool.Realloc.{realloc_wish, realloc, reallocarray_wish, reallocarray}
use Rattle.om_model.specs.Pool.Access.{barred, store}
use Rattle.om_model.specs.Pool.Journal.{MayAnswer}
use Rattle.om_model.specs.Pool.WellFormed.{AreApart, AgreeOnPages, BeginsRight, LiesOn, IsWellFormed}
use Rattle.om_model.specs.declared.block.Block.{Block}
use Rattle.om_model.specs.declared.block.Place.{Place}
use Rattle.om_model.proofs.Each.{all-both, all-append, all-first, all-second, pairs-both}
use Rattle.om_model.proofs.Sound.{IsPlace, HasShape, IsPlaced, GoTogether, IsSound, first_of, well-formed}
use Rattle.om_model.proofs.Malloc.{calloc-sound, malloc-sound, some-pages}
use Rattle.om_model.proofs.Free.{free-sound}
use Rattle.om_model.proofs.Realloc.{realloc-sound, reallocarray-sound}
use Rattle.om_model.proofs.Lawful.{store-sound}

module _ (rules : Rules) (state : State) where
  -- it begins where it may, and lies on held pages
  record Stands (one : Use) : Type 0 where
    begins : BeginsRight (first_of one) one.kind
    on_held : LiesOn rules state one

  record IsOn (page : ℕ) : Type 0 where
    held_is : is_held state.held page ≡ true
    there : page < zone_pages * rules.zones

  on-page : (byte page : ℕ) → holds rules state byte ≡ true → address_of page ≤ byte → byte < address_of page + page_size → IsOn page
  on-page byte page here low high =
      let parts = and_parts (is_in_arena byte rules.zones) (is_held state.held (page_at byte)) here in
      let below = ltb-true byte (address_of (zone_pages * rules.zones)) (and_parts (nat_le first_address byte) (nat_lt byte (address_of (zone_pages * rules.zones))) parts.0).1 in
      let same : page_at byte ≡ page = omega arith in
      record { held_is = ap (is_held state.held) (sym same) ∙ parts.1; there = omega arith }

  touched-on : (one : Use) → LiesOn rules state one → (page : ℕ) → touches page one ≡ true → IsOn page
  touched-on one lies page touched =
      let shared = SharesByte-true (page_extent page) one.extent touched in
      let in_page = shared.1 in
      on-page shared.0 page (lies shared.0 shared.2) in_page.0 in_page.1

  low : (one : Use) → 0 < (one.extent).len → LiesOn rules state one → first_address ≤ first_of one
  low one some lies =
      let parts = and_parts (is_in_arena (first_of one) rules.zones) (is_held state.held (page_at (first_of one))) (lies (first_of one) (omega arith, omega arith)) in
      leb-true first_address (first_of one) (and_parts (nat_le first_address (first_of one)) (nat_lt (first_of one) (address_of (zone_pages * rules.zones))) parts.0).0

  -- ---- what each thing is

  place-from : (place : Place) → IsTrue (is_class place.class) → Stands (use_of_place place) → IsPlace (use_of_place place)
  place-from place is stands =
      let address = place.address in
      let class = place.class in
      let stride = stride_of class in
      let offset = address - address_of (page_at address) in
      let from = low (use_of_place place) (omega (arith, stride-at_least_16 class is)) stands.on_held in
      let parts = and_parts (nat_eq (offset % stride) 0) (nat_lt (offset / stride) (places_of class)) stands.begins in
      let whole = eqb-true (offset % stride) 0 parts.0 in
      let times : offset / stride * stride ≡ offset = omega (arith, div-add-mod offset stride, mul_comm stride (offset / stride), whole) in
      let at : address ≡ place_address (page_at address) class (offset / stride) = omega (arith, times) in
      record {
        page = page_at address;
        index = offset / stride;
        class = class;
        is = is;
        below = ltb-true (offset / stride) (places_of class) parts.1;
        one_is = ap (λ a. use_of_place (record { address = a; class = class })) at;
      }

  shape-waiting : (places : List Place) → AllByRecursion (λ place. IsTrue (is_class place.class)) places → AllByRecursion Stands (map use_of_place places) → AllByRecursion HasShape (map use_of_place places)
  shape-waiting [] classes stand = tt
  shape-waiting (place ∷ places) classes stand = (inl (place-from place classes.0 stand.0), shape-waiting places classes.1 stand.1)

  guard-from : (block : Block) (guards : Bool) → AllByRecursion Stands (if guards then record { extent = guard_of block; kind = Guard } ∷ [] else [])
      → AllByRecursion HasShape (if guards then record { extent = guard_of block; kind = Guard } ∷ [] else [])
  guard-from block false stand = tt
  guard-from block true stand =
      let begins = (stand.0).begins in
      (inr (record { first = page_at ((guard_of block).first); count = 1; some = omega arith; first_is = begins; len_is = refl; kind_is = tt }), tt)

  shape-block : (block : Block) (class : Option ℕ) → size_class rules block.size ≡ class → AllByRecursion Stands (uses_by_class rules block class) → AllByRecursion HasShape (uses_by_class rules block class)
  shape-block block (Some class) is stand = (inl (place-from (record { address = block.address; class = class }) (class_of-is_class block.size rules.options.canary class is) stand.0), tt)
  shape-block block None none stand =
      let begins = (stand.0).begins in (
        inr (record { first = page_at block.address; count = data_pages block.size; some = some-pages rules block.size none; first_is = begins; len_is = refl; kind_is = tt }),
        guard-from block rules.options.guard stand.1,
      )

  shape-live : (live : List Block) → AllByRecursion Stands (flat_map (uses_of_block rules) live) → AllByRecursion HasShape (flat_map (uses_of_block rules) live)
  shape-live [] stand = tt
  shape-live (block ∷ live) stand =
      let own = uses_of_block rules block in
      let others = flat_map (uses_of_block rules) live in
      all-append HasShape own others (shape-block block (size_class rules block.size) refl (all-first Stands own others stand)) (shape-live live (all-second Stands own others stand))

  pub sound : IsWellFormed rules state → IsSound rules state
  sound is =
      let live = flat_map (uses_of_block rules) state.live in
      let waiting = map use_of_place (delayed state.slots) in
      let used = uses rules state in
      let stand : AllByRecursion Stands used =
      all-both (λ one. BeginsRight (first_of one) one.kind) (LiesOn rules state) Stands used (λ one begins lies. record { begins = begins; on_held = lies }) is.begin is.on_held in
      let shapes = all-append HasShape live waiting (shape-live state.live (all-first Stands live waiting stand)) (shape-waiting (delayed state.slots) is.classes (all-second Stands live waiting stand)) in
      record {
        slots = is.slots;
        zoned = is.zoned;
        ascends = is.ascend;
        arena = is.arena;
        pages = is.pages;
        bytes = is.bytes;
        sound = record {
          placed = all-both HasShape (LiesOn rules state) (IsPlaced rules state.held) used
              (λ one shape lies. record {
                shape = shape;
                held_is = λ page touched. (touched-on one lies page touched).held_is;
                there = λ page touched. (touched-on one lies page touched).there;
              })
              shapes is.on_held;
          together = pairs-both AreApart AgreeOnPages GoTogether used (λ a b apart alike. record { apart = apart; alike = alike }) is.apart is.alike;
        };
      }

  -- ---- each step

  pub malloc-kept : (size site : ℕ) (answers : Answers) → MayAnswer rules state (malloc_wish rules state size) answers → IsWellFormed rules state → IsWellFormed rules ((malloc rules state size site answers.claim).next)
  malloc-kept size site answers may is = well-formed rules _ (malloc-sound rules size state site answers may (sound is))

  pub calloc-kept : (count size site : ℕ) (answers : Answers) → MayAnswer rules state (calloc_wish rules state count size) answers → IsWellFormed rules state → IsWellFormed rules ((calloc rules state count size site answers.claim).next)
  calloc-kept count size site answers may is = well-formed rules _ (calloc-sound rules state count size site answers may (sound is))

  pub realloc-kept : (address size site : ℕ) (answers : Answers) → MayAnswer rules state (realloc_wish rules state address size) answers → IsWellFormed rules state → IsWellFormed rules ((realloc rules state address size site answers).next)
  realloc-kept address size site answers may is = well-formed rules _ (realloc-sound rules state (sound is) address size site answers may)

  pub reallocarray-kept : (address count size site : ℕ) (answers : Answers) → MayAnswer rules state (reallocarray_wish rules state address count size) answers → IsWellFormed rules state
      → IsWellFormed rules ((reallocarray rules state address count size site answers).next)
  reallocarray-kept address count size site answers may is = well-formed rules _ (reallocarray-sound rules state (sound is) address count size site answers may)

  pub free-kept : (address : ℕ) → IsWellFormed rules state → IsWellFormed rules ((free rules state address).next)
  free-kept address is = well-formed rules _ (free-sound rules state (sound is) address)

  pub store-kept : (address byte : ℕ) → IsWellFormed rules state → IsWellFormed rules ((store rules state address byte).next)
  store-kept address byte is = well-formed rules _ (store-sound rules state address byte (barred rules state address) (sound is))
