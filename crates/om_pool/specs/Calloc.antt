-- Calloc, as the core makes it: its step, and the zeros of the block.
use Rattle.std.specs.Prelude.{ℕ, Option, Some, None}
use Rattle.om_model.specs.Pool.Calloc.{calloc}
use Rattle.om_model.specs.declared.operation.Op.TheVariants.{Calloc}
use Rattle.om_model.specs.declared.operation.Who.{Who}
use Rattle.om_model.specs.declared.reply.Reply.{Reply}
use Rattle.om_pool.specs.CoreKept.{core_state, core_view}
use Rattle.om_pool.specs.HoldingsView.{rules_in}
use Rattle.om_pool.specs.PoolView.{Takes}
use Rattle.om_pool.specs.TableSteps.{filled_by}
use Rattle.om_pool.specs.Tables.{Tables}
use Rattle.om_pool.specs.declared.pool_core.Core.{Core}

-- the call took the step of an allocation of zeros, given the claim
abbrev pub Callocs : Core → Core → Who → ℕ → ℕ → ℕ → Reply → Type 0
Callocs old new who count size site answer =
    Takes (core_view old) (core_view new) who (Calloc count size site) answer (λ answers. calloc (rules_in old.state) (core_state old) count size site answers.claim)

-- so many bytes from the address on, if there is one, are zeros
abbrev pub zeros_filled : Option ℕ → ℕ → Tables → Tables
zeros_filled (Some address) size tables = filled_by 0 (record { first = address; len = size }) tables
zeros_filled None size tables = tables
