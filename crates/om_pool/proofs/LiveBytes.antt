-- The bytes of live blocks: memory has them, and two blocks have none in common.
use Rattle.std.proofs.Common.{◌≡◌, ℕ, ◌+◌, ◌<◌, ◌≤◌, ◌==◌, List, [], ◌∷◌, ◌++◌, Option, Some, None, refl, ap, ◌∙◌, subst, arith}
use Rattle.std.specs.List.{find, flat_map, AllByRecursion}
use Rattle.std.proofs.lemmas.List.Concat.{flat_map-append}
use Rattle.om_frame.specs.Memory.{IsHeldPart, ShareNoByte}
use Rattle.om_geom.specs.Addresses.{Covers}
use Rattle.om_geom.specs.ClassLaws.{data_pages-hold}
use Rattle.om_model.specs.Pool.InUse.{Pages, Use, data_of, use_of_place, uses_by_class, uses_of_block}
use Rattle.om_model.specs.Pool.Rules.{Rules, size_class}
use Rattle.om_model.specs.Pool.Standing.{block_at}
use Rattle.om_model.specs.Pool.State.{State}
use Rattle.om_model.specs.Pool.WellFormed.{EachPair, LiesOn}
use Rattle.om_model.specs.declared.block.Block.{Block}
use Rattle.om_model.proofs.Each.{all-find, all-first, pairs-across, pairs-first}
use Rattle.om_model.proofs.Flat.{all-flat}
use Rattle.om_model.proofs.Free.{waiting}
use Rattle.om_model.proofs.Sound.{GoTogether, IsSound, well-formed}
use Rattle.om_pool.proofs.PlacedBytes.{size-within, uses-held}

-- ---- what has the bytes of a block

module _ (rules : Rules) (block : Block) where
  -- its place, or its data pages
  abbrev front_by : Option ℕ → Use
  front_by (Some class) = use_of_place (record { address = block.address; class = class })
  front_by None = record { extent = data_of block; kind = Pages }

  abbrev front : Use
  front = front_by (size_class rules block.size)

  of-front : (P : Use → Type 0) → AllByRecursion P (uses_of_block rules block) → P front
  of-front P = by (size_class rules block.size)
    where
      by : (class : Option ℕ) → AllByRecursion P (uses_by_class rules block class) → P (front_by class)
      by (Some class) all = all.0
      by None all = all.0

  front-covers : (byte : ℕ) → block.address ≤ byte → byte < block.address + block.size → Covers front.extent byte
  front-covers byte low high = by (size_class rules block.size) refl
    where
      by : (class : Option ℕ) → size_class rules block.size ≡ class → Covers (front_by class).extent byte
      by (Some class) is = let holds = size-within block.size class rules.options.canary is in (omega arith, omega arith)
      by None none = let hold = data_pages-hold block.size in (omega arith, omega arith)

-- ---- they are held

module _ (rules : Rules) (state : State) (is : IsSound rules state) where
  abbrev live_uses : List Use
  live_uses = flat_map (uses_of_block rules) state.live

  each-lies : AllByRecursion (λ block. AllByRecursion (LiesOn rules state) (uses_of_block rules block)) state.live
  each-lies =
      let formed = well-formed rules state is in
      all-flat (uses_of_block rules) (LiesOn rules state) state.live (all-first (LiesOn rules state) live_uses (waiting state.slots) formed.on_held)

  pub live-held : (address : ℕ) (block : Block) → block_at state address ≡ Some block → (len : ℕ) → len ≤ block.size → IsHeldPart state.memory block.address len
  live-held address block live len few byte low high =
      uses-held rules state is block (all-find (λ (b : Block). AllByRecursion (LiesOn rules state) (uses_of_block rules b)) (λ (b : Block). b.address == address) state.live block each-lies live)
      byte low (omega arith)

  -- ---- another has none of those of the last block

  module _ (before : List Block) (new : Block) (live_is : state.live ≡ before ++ new ∷ []) where
    last-together : (address : ℕ) (block : Block) → find (λ (b : Block). b.address == address) before ≡ Some block → GoTogether (front rules block) (front rules new)
    last-together address block found =
        let sound = is.sound in
        let f = uses_of_block rules in
        let pairs = subst (EachPair GoTogether) (ap (flat_map f) live_is ∙ flat_map-append f before (new ∷ [])) (pairs-first GoTogether live_uses (waiting state.slots) sound.together) in
        let With : Use → Type 0 = λ one. AllByRecursion (GoTogether one) (flat_map f (new ∷ [])) in
        let each = all-flat f With before (pairs-across GoTogether (flat_map f before) (flat_map f (new ∷ [])) pairs) in
        let own = of-front rules block With (all-find (λ (b : Block). AllByRecursion With (f b)) (λ (b : Block). b.address == address) before block each found) in
        of-front rules new (GoTogether (front rules block)) (all-flat f (GoTogether (front rules block)) (new ∷ []) own).0

    pub last-apart : (address : ℕ) (block : Block) → find (λ (b : Block). b.address == address) before ≡ Some block → (len : ℕ) → len ≤ block.size → len ≤ new.size → ShareNoByte block.address new.address len
    last-apart address block found len of_old of_new (byte, old_has, new_has) =
        (last-together address block found).apart (byte, front-covers rules block byte old_has.0 (omega (arith, old_has.1)), front-covers rules new byte new_has.0 (omega (arith, new_has.1)))
