-- A load and a store, as the core makes them.
use Rattle.std.specs.Prelude.{ℕ, Option, Some, None}
use Rattle.om_frame.specs.Memory.{byte_at, with_byte}
use Rattle.om_model.specs.Pool.Access.{load, store}
use Rattle.om_model.specs.declared.operation.Op.TheVariants.{Load, Store}
use Rattle.om_model.specs.declared.operation.Who.{Who}
use Rattle.om_model.specs.declared.reply.Reply.{Reply}
use Rattle.om_model.specs.declared.reply.Reply.TheVariants.{Byte, Done}
use Rattle.om_pool.specs.CoreKept.{core_state, core_view}
use Rattle.om_pool.specs.HoldingsView.{rules_in}
use Rattle.om_pool.specs.PoolView.{Takes}
use Rattle.om_pool.specs.Tables.{Tables}
use Rattle.om_pool.specs.declared.pool_core.Core.{Core}

-- what a load answers, by what bars the byte
abbrev pub load_reply : Tables → ℕ → Option Reply → Reply
load_reply tables address (Some bar) = bar
load_reply tables address None = Byte (byte_at tables.memory address)

abbrev pub store_reply : Option Reply → Reply
store_reply (Some bar) = bar
store_reply None = Done

-- the tables after a store
abbrev pub stored : Tables → ℕ → ℕ → Option Reply → Tables
stored tables address byte (Some bar) = tables
stored tables address byte None = record tables { memory = with_byte tables.memory address byte }

-- the call took the step of a load
abbrev pub Loads : Core → Core → Who → ℕ → Reply → Type 0
Loads old new who address reply =
    Takes (core_view old) (core_view new) who (Load address) reply (λ answers. load (rules_in old.state) (core_state old) address)

-- the call took the step of a store
abbrev pub Stores : Core → Core → Who → ℕ → ℕ → Reply → Type 0
Stores old new who address byte reply =
    Takes (core_view old) (core_view new) who (Store address byte) reply (λ answers. store (rules_in old.state) (core_state old) address byte)
