-- What stands at an address: nothing of this pool, a free page, the first byte of a page block or another of
-- its bytes, a guard, or on a chunk page the first byte of a place, which is delayed, live or free, or another
-- byte.
use Rattle.std.specs.Prelude.{ℕ, ◌==◌, if◌then◌else◌, Option, Some, None}
use Rattle.std.specs.List.{find}
use Rattle.om_geom.specs.Addresses.{page_at}
use Rattle.om_model.specs.Pool.Rules.{Rules}
use Rattle.om_model.specs.Pool.State.{State, delayed, holds}
use Rattle.om_model.specs.Pool.InUse.{Kind, Chunk, Pages, Guard, uses, page_kind}
use Rattle.om_model.specs.Pool.Picks.{starts_place}
use Rattle.om_model.specs.declared.block.Block.{Block}
use Rattle.om_model.specs.declared.block.Place.{Place}

pub data Standing : Type 0 where
  NotHeld : Standing
  FreePage : Standing
  PageBlock : (block : Block) → Standing
  InPageBlock : Standing
  OnGuard : Standing
  LivePlace : (place : Place) (block : Block) → Standing
  DelayedPlace : (place : Place) → Standing
  FreePlace : Standing
  Unaligned : Standing

-- the live block that begins at the address
abbrev pub block_at : State → ℕ → Option Block
block_at state address = find (λ block. block.address == address) state.live

-- the delayed place that begins at the address
abbrev pub delayed_at : State → ℕ → Option Place
delayed_at state address = find (λ place. place.address == address) (delayed state.slots)

abbrev pub in_pages : Option Block → Standing
in_pages (Some block) = PageBlock block
in_pages None = InPageBlock

abbrev pub at_place : ℕ → ℕ → Option Block → Option Place → Standing
at_place class address found (Some place) = DelayedPlace place
at_place class address (Some block) None = LivePlace (record { address = address; class = class }) block
at_place class address None None = FreePlace

abbrev pub on_page : State → ℕ → Option Kind → Standing
on_page state address None = FreePage
on_page state address (Some Pages) = in_pages (block_at state address)
on_page state address (Some Guard) = OnGuard
on_page state address (Some (Chunk class)) =
    if starts_place class address then at_place class address (block_at state address) (delayed_at state address) else Unaligned

abbrev pub standing : Rules → State → ℕ → Standing
standing rules state address = if holds rules state address then on_page state address (page_kind (uses rules state) (page_at address)) else NotHeld
