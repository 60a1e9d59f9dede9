-- A live chunk stands at its address: its place is live, and doesn't wait in a slot.
use Rattle.std.proofs.Common.{◌≡◌, ℕ, ◌≤◌, ◌==◌, true, if◌then◌else◌, Option, Some, None, refl, ap, ◌∙◌, subst, arith}
use Rattle.std.specs.List.{flat_map, AllByRecursion}
use Rattle.std.proofs.lemmas.Bool.{cases_eq, eq-eqb, eqb-true, ne_eqb}
use mathlib.Core.Logic.{⊎_elim}
use Rattle.om_geom.specs.Classes.{stride_of}
use Rattle.om_geom.specs.FitLaws.{find-passes}
use Rattle.om_model.specs.Pool.Free.{without_block}
use Rattle.om_model.specs.Pool.InUse.{Use, use_of_place, uses_of_block, uses}
use Rattle.om_model.specs.Pool.Picks.{starts_place}
use Rattle.om_model.specs.Pool.Rules.{Rules, size_class}
use Rattle.om_model.specs.Pool.Standing.{LivePlace, Unaligned, at_place, block_at, delayed_at, standing}
use Rattle.om_model.specs.Pool.State.{State, delayed}
use Rattle.om_model.specs.Pool.WellFormed.{BeginsRight}
use Rattle.om_model.specs.declared.block.Block.{Block}
use Rattle.om_model.specs.declared.block.Place.{Place}
use Rattle.om_model.proofs.Each.{Across, all-find, all-first, all-second}
use Rattle.om_model.proofs.Free.{block-together, of-block}
use Rattle.om_model.proofs.Malloc.{chunk-uses}
use Rattle.om_model.proofs.PageKinds.{Decides, each-decides}
use Rattle.om_model.proofs.Sound.{GoTogether, IsSound, well-formed}
use Rattle.om_pool.proofs.TableAnswers.{map-all}

stride-some : (class : ℕ) → 1 ≤ stride_of class
stride-some class = ⊎_elim (λ same. rw (eq-eqb class 0 same) (omega arith)) (λ ne. rw (ne_eqb class 0 ne) (omega arith)) (cases_eq class 0)

module _ (rules : Rules) (state : State) (is : IsSound rules state) (block : Block) (live : block_at state block.address ≡ Some block) (class : ℕ) (class_is : size_class rules block.size ≡ Some class) where
  abbrev own : Use
  own = use_of_place (record { address = block.address; class = class })

  -- what is so of all that is in use is so of its place
  of-own : (P : Use → Type 0) → AllByRecursion P (uses rules state) → P own
  of-own P all =
      (subst (AllByRecursion P) (chunk-uses rules block.size class class_is block.address block.site)
      (of-block rules state is block.address block live P (all-first P (flat_map (uses_of_block rules) state.live) _ all))).0

  -- it has no byte in common with a place that waits
  not-waiting : (found : Option Place) → delayed_at state block.address ≡ found → found ≡ None
  not-waiting None found_is = refl
  not-waiting (Some place) found_is =
      let left = without_block state block.address in
      let begins : Place → Type 0 = λ p. GoTogether own (use_of_place p) in
      let at : place.address ≡ block.address = eqb-true place.address block.address (find-passes (λ (p : Place). p.address == block.address) (delayed state.slots) place found_is) in
      let together : AllByRecursion (GoTogether own) (uses rules left) =
      (subst (λ us. Across GoTogether us (uses rules left)) (chunk-uses rules block.size class class_is block.address block.site) (block-together rules state is block.address block live)).0 in
      let both = all-find begins (λ (p : Place). p.address == block.address) (delayed state.slots) place
      (map-all (GoTogether own) use_of_place (delayed state.slots) (all-second (GoTogether own) (flat_map (uses_of_block rules) left.live) _ together)) found_is in
      let some = stride-some class in
      let other = stride-some place.class in
      absurd (both.apart (block.address, (omega arith, omega arith), (omega arith, omega arith)))

  pub standing-live : standing rules state block.address ≡ LivePlace (record { address = block.address; class = class }) block
  standing-live =
      let formed = well-formed rules state is in
      let some = stride-some class in
      let starts : starts_place class block.address ≡ true = of-own (λ one. BeginsRight (one.extent).first one.kind) formed.begin in
      of-own (Decides rules state is) (each-decides rules state is) block.address (omega arith, omega arith)
      ∙ ap (λ b. if b then at_place class block.address (block_at state block.address) (delayed_at state block.address) else Unaligned) starts
      ∙ ap (at_place class block.address (block_at state block.address)) (not-waiting (delayed_at state block.address) refl)
      ∙ ap (λ found. at_place class block.address found None) live
