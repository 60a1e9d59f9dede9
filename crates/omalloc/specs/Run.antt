-- One command on one pool, and a whole script there.
use Rattle.std.specs.Prelude.{◌≡◌, ℕ, ◌+◌, ◌*◌, ◌^◌, ◌≤◌, false, List, [], ◌∷◌, ◌++◌, length, Option, Some, None}
use Rattle.om_broker.specs.Lone.{Lone, lone_share}
use Rattle.om_model.specs.declared.operation.Op.{Op}
use Rattle.om_model.specs.declared.operation.Op.TheVariants as op
use Rattle.om_model.specs.declared.operation.Who.{Who}
use Rattle.om_model.specs.declared.reply.Outcome.{Outcome}
use Rattle.om_model.specs.declared.reply.Outcome.TheVariants as outcome
use Rattle.om_model.specs.declared.entry.Entry.{Entry}
use Rattle.om_model.specs.declared.entry.Entry.TheVariants.{Call}
use Rattle.om_model.specs.Data.CallEntry.{CallEntry}
use Rattle.om_model.specs.Output.Head.{Head, rules_of}
use Rattle.om_model.specs.Scripts.Calls.{OnlyCallers}
use Rattle.om_model.specs.Scripts.Outcomes.{outcome_of, is_fault}
use Rattle.om_pool.specs.PoolView.{call_moves, PoolView}
use Rattle.omalloc.specs.declared.command.Command.{Command}
use Rattle.omalloc.specs.Script.{ScriptText}
use Rattle.omalloc.specs.ScriptRun.{IsScriptRun, op_of, assigned}

-- the command with this number of the only caller, who asks the only pool
abbrev pub who_of : ℕ → Who
who_of number = record { caller = 0; command = number; hop = 0 }

-- a call that a pool may be asked: what is asked as a malloc isn't asked as another
abbrev pub IsAsked : Op → Type 0
IsAsked (op.Realloc address size site) = address ≡ 0 → ⊥
IsAsked (op.Reallocarray address count size site) = address ≡ 0 → 2 ^ 64 ≤ count * size
IsAsked other = Unit {0}

-- the call was made, and its reply is the outcome
pub record IsCall (number : ℕ) (called : Op) (old new : List Entry) (o : Outcome) : Type 0 where
  pub entry : CallEntry
  pub added : new ≡ old ++ Call entry ∷ []
  pub who_is : entry.who ≡ who_of number
  pub op_is : entry.op ≡ called
  pub outcome_is : o ≡ outcome_of called entry.reply

-- a command without a call is done, and enters nothing
abbrev pub IsDone : ℕ → Option Op → List Entry → List Entry → Outcome → Type 0
IsDone number None old new o = (new ≡ old) × (o ≡ outcome.Done)
IsDone number (Some called) old new o = IsCall number called old new o

-- the command with this number had this outcome, and left these values in the variables
pub record IsCommandRun (number : ℕ) (c : Command) (before after : List ℕ) (old new : List Entry) (o : Outcome) : Type 0 where
  pub done : IsDone number (op_of before c) old new o
  pub values : is_fault o ≡ false → after ≡ assigned before c o

-- Of its broker's share the pool has used at most those of one call for each; the moves that stand for held pages come
-- back when the pages do.
abbrev pub HasMoves : PoolView Lone → Type 0
HasMoves pool = lone_share ≤ (pool.broker).left + length pool.state.held + call_moves * length pool.journal.items

-- the script ran on a pool of its own, by the rules of the head
pub record RanAlone (head : Head) (script : ScriptText) (pool : PoolView Lone) (outcomes : List Outcome) : Type 0 where
  pub rules : pool.rules ≡ rules_of head 0
  pub script_run : IsScriptRun 1 0 (length script.names) script.commands (pool.journal.items ∷ []) outcomes
  pub only : OnlyCallers 1 1 pool.journal.items
