-- The bytes of a block that was placed: memory has all that were asked for, and they are no more than those of a zone.
use Rattle.std.proofs.Common.{◌≡◌, ℕ, zero, suc, ◌+◌, ◌*◌, ◌≤◌, Bool, true, false, ◌==◌, nat_le, nat_lt, List, [], ◌∷◌, ◌++◌, Option, Some, None, IfSome, refl, ap, ◌∙◌, subst, arith, append-nil}
use Rattle.std.specs.List.{flat_map, AllByRecursion}
use Rattle.std.proofs.lemmas.Bool.{and_from, and_parts, cases_Bool, eqb-true}
use Rattle.std.proofs.lemmas.List.Concat.{flat_map-append}
use mathlib.Core.Logic.{⊎_elim}
use Rattle.om_frame.specs.Memory.{IsHeldPart}
use Rattle.om_geom.specs.Addresses.{address_of, is_in_arena, page_at}
use Rattle.om_geom.specs.ClassLaws.{class_of-holds, class_of-holds_canary, class_of-is_class, data_pages-hold, stride-at_most_2048}
use Rattle.om_geom.specs.Classes.{class_of, stride_of}
use Rattle.om_geom.specs.Numbers.{first_address, page_size, zone_pages}
use Rattle.om_model.specs.Pool.InUse.{uses_by_class, uses_of_block}
use Rattle.om_model.specs.Pool.Malloc.{address_on, is_too_large, page_for, placed_on, placed_where, placing, words_for}
use Rattle.om_model.specs.Pool.Rules.{Rules, size_class, word_at}
use Rattle.om_model.specs.Pool.Runs.{run_of}
use Rattle.om_model.specs.Pool.State.{State, drawn_more, holds, is_held, with_pages}
use Rattle.om_model.specs.Pool.WellFormed.{LiesOn}
use Rattle.om_model.specs.declared.block.Block.{Block}
use Rattle.om_model.specs.declared.entry.Move.{Move}
use Rattle.om_model.proofs.Each.{all-first, all-second}
use Rattle.om_model.proofs.Free.{waiting}
use Rattle.om_model.proofs.LiveBlocks.{entered-live}
use Rattle.om_model.proofs.Sound.{IsSound, well-formed}
use Rattle.om_pool.proofs.BlockPlacing.{block-few}
use Rattle.om_pool.proofs.TableTies.{shelf-holds}

-- ---- how many there are

class-within : (class : ℕ) → class ≤ stride_of class
class-within class = ⊎_elim
    (λ (none : (class == 0) ≡ true). let same : class ≡ 0 = eqb-true class 0 none in rw none (omega arith))
    (λ (some : (class == 0) ≡ false). rw some (omega arith))
    (cases_Bool (class == 0))

pub size-within : (size class : ℕ) (canary : Bool) → class_of size canary ≡ Some class → size ≤ stride_of class
size-within zero class canary is = omega arith
size-within (suc n) class true is = omega (arith, class_of-holds_canary (suc n) class (omega arith) is, class-within class)
size-within (suc n) class false is = omega (arith, class_of-holds (suc n) class (omega arith) is, class-within class)

pub size-few : (rules : Rules) (size : ℕ) → is_too_large rules size ≡ false → size ≤ page_size * zone_pages
size-few rules size fits = by (size_class rules size) refl
  where
    by : (class : Option ℕ) → size_class rules size ≡ class → size ≤ page_size * zone_pages
    by (Some class) is =
        let small = stride-at_most_2048 class (class_of-is_class size rules.options.canary class is) in
        omega (arith, size-within size class rules.options.canary is)
    by None is = omega (arith, block-few rules size is fits, data_pages-hold size)

-- ---- those of a live block

module _ (rules : Rules) (state : State) (is : IsSound rules state) where
  byte-held : (byte : ℕ) → holds rules state byte ≡ true → IsHeldPart state.memory byte 1
  byte-held byte lies other low high =
      let same : other ≡ byte = omega arith in
      let both = and_parts (is_in_arena byte rules.zones) (is_held state.held (page_at byte)) lies in
      let inside = and_parts (nat_le first_address byte) (nat_lt byte (address_of (zone_pages * rules.zones))) both.0 in
      rw same (and_from _ _ inside.0 (shelf-holds state (page_at byte) (is.bytes (page_at byte)) ∙ both.1))

  pub uses-held : (block : Block) → AllByRecursion (LiesOn rules state) (uses_of_block rules block) → IsHeldPart state.memory block.address block.size
  uses-held block lie byte low high = byte-held byte (by (size_class rules block.size) refl lie) byte (omega arith) (omega arith)
    where
      by : (class : Option ℕ) → size_class rules block.size ≡ class → AllByRecursion (LiesOn rules state) (uses_by_class rules block class) → holds rules state byte ≡ true
      by (Some class) class_is all = all.0 byte (low, omega (arith, size-within block.size class rules.options.canary class_is))
      by None class_is all = all.0 byte (low, omega (arith, data_pages-hold block.size))

  -- the last of the live blocks
  pub last-held : (live : List Block) (block : Block) → state.live ≡ live ++ block ∷ [] → IsHeldPart state.memory block.address block.size
  last-held live block last =
      let formed = well-formed rules state is in
      let Lie : List Block → Type 0 = λ blocks. AllByRecursion (LiesOn rules state) (flat_map (uses_of_block rules) blocks) in
      let all : Lie state.live = all-first (LiesOn rules state) (flat_map (uses_of_block rules) state.live) (waiting state.slots) formed.on_held in
      let parted = subst (AllByRecursion (LiesOn rules state)) (flat_map-append (uses_of_block rules) live (block ∷ [])) (subst Lie last all) in
      let own = all-second (LiesOn rules state) (flat_map (uses_of_block rules) live) (flat_map (uses_of_block rules) (block ∷ [])) parted in
      uses-held block (subst (AllByRecursion (LiesOn rules state)) (append-nil (uses_of_block rules block)) own)

-- ---- a placed block is the last of those that are live

module _ (rules : Rules) (size site : ℕ) where
  abbrev at : ℕ → Block
  at to = record { address = to; size = size; site = site }

  on-live : (state : State) (page word to : ℕ) → (placed_on rules state page word size site).address ≡ Some to → ((placed_on rules state page word size site).next).live ≡ state.live ++ at to ∷ []
  on-live state page word to is =
      let here : address_on rules state page word (size_class rules size) ≡ to = cc in
      entered-live rules (at (address_on rules state page word (size_class rules size))) state ∙ ap (λ a. state.live ++ at a ∷ []) here

  where-live : (state : State) (own : Option ℕ) (claim : Option Move) (word to : ℕ) → (placed_where rules state own claim word size site).address ≡ Some to
      → ((placed_where rules state own claim word size site).next).live ≡ state.live ++ at to ∷ []
  where-live state (Some page) claim word to is = on-live state page word to is
  where-live state None None word to is = cc
  where-live state None (Some move) word to is = on-live (with_pages (run_of move) state) (run_of move).first word to is

  pub placing-live : (state : State) (claim : Option Move) (to : ℕ) → (placing rules state size site claim).address ≡ Some to → ((placing rules state size site claim).next).live ≡ state.live ++ at to ∷ []
  placing-live state claim = where-live (drawn_more (words_for rules size) state) (page_for rules state size) claim (word_at rules (state.drawn + 1))

-- ---- its bytes

pub placed-bytes : (rules : Rules) (state : State) (size site : ℕ) (claim : Option Move) → IsSound rules ((placing rules state size site claim).next)
    → IfSome (placing rules state size site claim).address (λ at. IsHeldPart ((placing rules state size site claim).next).memory at size)
placed-bytes rules state size site claim is = by (placing rules state size site claim).address refl
  where
    by : (address : Option ℕ) → (placing rules state size site claim).address ≡ address → IfSome address (λ at. IsHeldPart ((placing rules state size site claim).next).memory at size)
    by None at = tt
    by (Some to) at = last-held rules (placing rules state size site claim).next is state.live (record { address = to; size = size; site = site }) (placing-live rules size site state claim to at)
