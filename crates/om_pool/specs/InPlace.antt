-- A page block comes to a new size at its address in the midst of a call: it gives up its last pages, it grows over
-- pages of the pool, or over claimed ones.
use Rattle.std.specs.Prelude.{◌≡◌, ℕ, false, List, Some, None}
use Rattle.om_broker.specs.declared.broker.Broker as broker
use Rattle.om_broker.specs.declared.broker.ClaimAt.TheVariants as at
use Rattle.om_frame.specs.Frames.{PageBytes}
use Rattle.om_model.specs.Pool.Malloc.{is_too_large}
use Rattle.om_model.specs.Pool.Realloc.{Resize, grown}
use Rattle.om_model.specs.Pool.Resizing.{Way, pages_after, way}
use Rattle.om_model.specs.Pool.Rules.{Rules}
use Rattle.om_model.specs.Pool.Standing.{block_at}
use Rattle.om_model.specs.Pool.State.{State, with_pages}
use Rattle.om_model.specs.Pool.WellFormed.{IsWellFormed}
use Rattle.om_model.specs.declared.block.Block.{Block}
use Rattle.om_model.specs.declared.entry.Move.{Move}
use Rattle.om_model.specs.declared.looks.Look.{Look}
use Rattle.om_pool.specs.Asking.{IsRunAsked}
use Rattle.om_pool.specs.HoldingsView.{rules_in}
use Rattle.om_pool.specs.Moving.{resize_of}
use Rattle.om_pool.specs.Tables.{Tables, StandFor}
use Rattle.om_pool.specs.Underway.{HasComeTo}
use Rattle.om_pool.specs.declared.in_place.Growth.{Growth}
use Rattle.om_pool.specs.declared.in_place.Growth.TheVariants.{Grown, Taken}
use Rattle.om_pool.specs.declared.pool_core.Core.{Core}

-- the block, with the size and the site that it is to have
abbrev pub resize_to : Block → ℕ → ℕ → Resize
resize_to block size site = resize_of block None size site

-- the block is live, and comes to the size in this way
pub record ComesBy (rules : Rules) (state : State) (block : Block) (size : ℕ) (by : Way) : Type 0 where
  pub live : block_at state block.address ≡ Some block
  pub fits : is_too_large rules size ≡ false
  pub way_is : way rules state block size ≡ by

-- the tables stand for a well-formed state in which it does
pub record StandsWith (rules : Rules) (tables : Tables) (state : State) (block : Block) (size : ℕ) (by : Way) : Type 0 where
  pub stands : StandFor rules tables state
  pub well_formed : IsWellFormed rules state
  pub comes : ComesBy rules state block size by

-- they have come to a state in which it does
abbrev pub HasWayUnderway : {B A : Type 0} → broker.Ghosts B A → Core → B → Block → ℕ → Way → Type 0
HasWayUnderway g core b block size by =
    (state : State) × HasComeTo g core b state × ComesBy (rules_in core.state) state block size by

-- ---- the pages after it are claimed

-- it has grown over them
pub record IsGrown {B A : Type 0} (g : broker.Ghosts B A) (old new : Core) (before after : B) (state : State) (block : Block) (size site : ℕ) (move : Move) : Type 0 where
  pub frames : List PageBytes
  pub asked : IsRunAsked g before after (pages_after (rules_in old.state) block size) (at.Claimed move frames)
  pub come : HasComeTo g new after (grown (rules_in old.state) (with_pages (pages_after (rules_in old.state) block size) state) (resize_to block size site)).next
  pub rules : rules_in new.state ≡ rules_in old.state

-- one of them was found held, and nothing has changed
pub record IsTaken {B A : Type 0} (g : broker.Ghosts B A) (old new : Core) (before after : B) (state : State) (block : Block) (size : ℕ) (look : Look) : Type 0 where
  pub asked : IsRunAsked g before after (pages_after (rules_in old.state) block size) (at.Taken look)
  pub come : HasComeTo g new after state
  pub unchanged : new ≡ old

abbrev pub ClaimsAfter : {B A : Type 0} → broker.Ghosts B A → Core → Core → B → B → State → Block → ℕ → ℕ → Growth → Type 0
ClaimsAfter g old new before after state block size site (Grown move) = IsGrown g old new before after state block size site move
ClaimsAfter g old new before after state block size site (Taken look) = IsTaken g old new before after state block size look
