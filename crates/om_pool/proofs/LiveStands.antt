-- What is live stands at its address, also in a later state in which it is live still.
use Rattle.std.proofs.Common.{◌≡◌, ℕ, ◌<◌, Bool, true, false, ◌==◌, if◌then◌else◌, List, [], ◌∷◌, Option, Some, None, refl, sym, ap, ◌∙◌, subst, arith}
use Rattle.std.specs.Prelude.{map}
use Rattle.std.specs.List.{find, flat_map, AllByRecursion}
use Rattle.std.proofs.lemmas.Bool.{eqb-false, eqb-true}
use Rattle.om_geom.specs.Addresses.{page_at}
use Rattle.om_geom.specs.Classes.{stride_of}
use Rattle.om_model.specs.Pool.Free.{without_block}
use Rattle.om_model.specs.Pool.InUse.{Use, use_of_place, uses, uses_of_block, page_kind}
use Rattle.om_model.specs.Pool.Picks.{starts_place}
use Rattle.om_model.specs.Pool.Rules.{Rules, size_class}
use Rattle.om_model.specs.Pool.Standing.{NotHeld, LivePlace, Unaligned, at_place, block_at, delayed_at, in_pages, on_page, standing}
use Rattle.om_model.specs.Pool.State.{State, delayed, holds}
use Rattle.om_model.specs.Pool.WellFormed.{BeginsRight, LiesOn}
use Rattle.om_model.specs.declared.block.Block.{Block}
use Rattle.om_model.specs.declared.block.Place.{Place}
use Rattle.om_model.proofs.Each.{all-first, all-second}
use Rattle.om_model.proofs.Free.{block-together, of-block, standing-tells, waiting, IsLive, IsPlaceOf, Tells}
use Rattle.om_model.proofs.Malloc.{chunk-uses, pages-uses, some-pages}
use Rattle.om_model.proofs.PageKinds.{kind-of_block}
use Rattle.om_model.proofs.Sound.{GoTogether, IsSound, well-formed}
use Rattle.om_pool.specs.Moving.{StandsAs, stands_as}

-- where a waiting place would begin at the address, something is so of it
none-waits : (P : Use → Type 0) (address : ℕ) (places : List Place) → AllByRecursion P (map use_of_place places) → ((place : Place) → place.address ≡ address → P (use_of_place place) → ⊥) → find (λ (place : Place). place.address == address) places ≡ None
none-waits P address [] all never = refl
none-waits P address (x ∷ xs) all never = by (x.address == address) refl (none-waits P address xs all.1 never)
  where
    by : (here : Bool) → (x.address == address) ≡ here → find (λ (place : Place). place.address == address) xs ≡ None → (if here then Some x else find (λ (place : Place). place.address == address) xs) ≡ None
    by true is rest = absurd (never x (eqb-true x.address address is) all.0)
    by false is rest = rest

some-stride : (class : ℕ) → 0 < stride_of class
some-stride class = by (class == 0) refl
  where
    by : (zero_class : Bool) → (class == 0) ≡ zero_class → 0 < (if zero_class then 16 else class)
    by true is = omega arith
    by false is = let other = eqb-false class 0 is in omega arith

module _ (rules : Rules) (state : State) (is : IsSound rules state) (block : Block) (live : block_at state block.address ≡ Some block) where
  of-live : (P : Use → Type 0) → AllByRecursion P (uses rules state) → AllByRecursion P (uses_of_block rules block)
  of-live P all = of-block rules state is block.address block live P (all-first P (flat_map (uses_of_block rules) state.live) (waiting state.slots) all)

  module _ (class : ℕ) (class_is : size_class rules block.size ≡ Some class) where
    abbrev own : Place
    own = record { address = block.address; class = class }

    of-own : (P : Use → Type 0) → AllByRecursion P (uses_of_block rules block) → P (use_of_place own)
    of-own P all = (subst (AllByRecursion P) (chunk-uses rules block.size class class_is block.address block.site) all).0

    nothing-waits : delayed_at state block.address ≡ None
    nothing-waits =
        let With : Use → Type 0 = λ one. AllByRecursion (GoTogether one) (uses rules (without_block state block.address)) in
        let together = of-own With (block-together rules state is block.address block live) in
        none-waits (GoTogether (use_of_place own)) block.address (delayed state.slots) (all-second (GoTogether (use_of_place own)) (flat_map (uses_of_block rules) (without_block state block.address).live) (waiting state.slots) together)
        (λ place at both. both.apart (block.address, (omega (arith, some-stride class), omega (arith, some-stride class)), (omega (arith, some-stride place.class), omega (arith, some-stride place.class))))

    chunk-holds : holds rules state block.address ≡ true
    chunk-holds =
        let formed = well-formed rules state is in
        of-own (LiesOn rules state) (of-live (LiesOn rules state) formed.on_held) block.address (omega (arith, some-stride class), omega (arith, some-stride class))

    chunk-begins : starts_place class block.address ≡ true
    chunk-begins =
        let formed = well-formed rules state is in
        of-own (λ one. BeginsRight (one.extent).first one.kind) (of-live (λ one. BeginsRight (one.extent).first one.kind) formed.begin)

    chunk-stands : standing rules state block.address ≡ LivePlace own block
    chunk-stands =
        let kind = kind-of_block rules state is block live (Some class) class_is in
        ap (λ held. if held then on_page state block.address (page_kind (uses rules state) (page_at block.address)) else NotHeld) chunk-holds
        ∙ ap (on_page state block.address) kind
        ∙ ap (λ starts. if starts then at_place class block.address (block_at state block.address) (delayed_at state block.address) else Unaligned) chunk-begins
        ∙ ap (λ found. at_place class block.address found (delayed_at state block.address)) live
        ∙ ap (at_place class block.address (Some block)) nothing-waits

  pages-stand : size_class rules block.size ≡ None → standing rules state block.address ≡ stands_as block None
  pages-stand none =
      let kind = kind-of_block rules state is block live None none in
      ap (λ held. if held then on_page state block.address (page_kind (uses rules state) (page_at block.address)) else NotHeld) pages-hold
      ∙ ap (on_page state block.address) kind
      ∙ ap in_pages live
    where
      pages-hold : holds rules state block.address ≡ true
      pages-hold =
          let formed = well-formed rules state is in
          let some = some-pages rules block.size none in
          (subst (AllByRecursion (LiesOn rules state)) (pages-uses rules block.size none block.address block.site) (of-live (LiesOn rules state) formed.on_held)).0 block.address (omega arith, omega arith)

  pub live-stands : (place : Option Place) → IsPlaceOf rules block place → StandsAs rules state block place
  live-stands None has = pages-stand has
  live-stands (Some place) has =
      let same : record { address = block.address; class = place.class } ≡ place = ap (λ a. let p : Place = record { address = a; class = place.class } in p) (sym has.0) in
      chunk-stands place.class has.1 ∙ ap (λ p. LivePlace p block) same

-- and what stands so is live
module _ (rules : Rules) (state : State) (is : IsSound rules state) (block : Block) where
  tells : (place : Option Place) → Tells rules state (stands_as block place) → IsLive rules state block place
  tells None told = told
  tells (Some place) told = told

  pub stands-live : (place : Option Place) → StandsAs rules state block place → IsLive rules state block place
  stands-live place stands = tells place (subst (Tells rules state) stands (standing-tells rules state is block.address))
