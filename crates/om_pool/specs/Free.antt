-- A free, as the core makes it: its step, and what stands at the address.
use Rattle.std.specs.Prelude.{◌≡◌, ℕ, None}
use Rattle.om_model.specs.Pool.Canaries.{broken_canary}
use Rattle.om_model.specs.Pool.Free.{free}
use Rattle.om_model.specs.Pool.Standing.{LivePlace, PageBlock, standing}
use Rattle.om_model.specs.Pool.Steps.{Step}
use Rattle.om_model.specs.declared.block.Block.{Block}
use Rattle.om_model.specs.declared.block.Place.{Place}
use Rattle.om_model.specs.declared.operation.Op.TheVariants.{Free}
use Rattle.om_model.specs.declared.operation.Who.{Who}
use Rattle.om_model.specs.declared.reply.Reply.{Reply}
use Rattle.om_pool.specs.CoreKept.{core_state, core_view}
use Rattle.om_pool.specs.HoldingsView.{rules_in}
use Rattle.om_pool.specs.PoolView.{Takes}
use Rattle.om_pool.specs.declared.pool_core.Core.{Core}

-- a free of the address has this step
abbrev pub FreeIs : Core → ℕ → Step → Type 0
FreeIs core address step = free (rules_in core.state) (core_state core) address ≡ step

-- the call took the step of a free
abbrev pub Frees : Core → Core → Who → ℕ → Reply → Type 0
Frees old new who address reply =
    Takes (core_view old) (core_view new) who (Free address) reply (λ answers. free (rules_in old.state) (core_state old) address)

-- a block's place begins at the address, and is live
abbrev pub IsLiveAt : Core → ℕ → Place → Block → Type 0
IsLiveAt core address place block = standing (rules_in core.state) (core_state core) address ≡ LivePlace place block

-- and no canary behind the block is broken
abbrev pub IsWholeAt : Core → ℕ → Place → Type 0
IsWholeAt core address place =
    (block : Block) × IsLiveAt core address place block × (broken_canary (rules_in core.state) (core_state core) block ≡ None)

-- the block begins at the address
abbrev pub IsBlockAt : Core → ℕ → Block → Type 0
IsBlockAt core address block = standing (rules_in core.state) (core_state core) address ≡ PageBlock block
