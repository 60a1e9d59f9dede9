-- A realloc, as the core makes it: the op of its call, what it finds at the address, and what it answers.
use Rattle.std.specs.Prelude.{◌≡◌, ℕ, true, false, [], Option, Some, None, Result, Ok, Err, IsSome}
use Rattle.om_broker.specs.declared.broker.Broker as broker
use Rattle.om_model.specs.Data.CallEntry.{CallEntry}
use Rattle.om_model.specs.Pool.Canaries.{broken_canary}
use Rattle.om_model.specs.Pool.Journal.{step_of, wish_of}
use Rattle.om_model.specs.Pool.Malloc.{is_too_large}
use Rattle.om_model.specs.Pool.Realloc.{realloc, realloc_wish, reallocarray}
use Rattle.om_model.specs.Pool.Resizing as model
use Rattle.om_model.specs.Pool.Resizing.{way}
use Rattle.om_model.specs.Pool.Rules.{Rules}
use Rattle.om_model.specs.Pool.State.{State}
use Rattle.om_model.specs.Pool.Steps.{Answers, Nothing, null_or_fault, unchanged}
use Rattle.om_model.specs.Zones.Moves.{size_asked}
use Rattle.om_model.specs.declared.entry.Move.{Move}
use Rattle.om_model.specs.declared.looks.Look.{Look}
use Rattle.om_model.specs.declared.operation.Op.{Op}
use Rattle.om_model.specs.declared.operation.Op.TheVariants.{Reallocarray}
use Rattle.om_model.specs.declared.operation.Who.{Who}
use Rattle.om_model.specs.declared.reply.Reply.{Reply}
use Rattle.om_model.specs.declared.reply.Why.TheVariants.{TooLarge}
use Rattle.om_pool.specs.CoreKept.{core_state, IsAnswered}
use Rattle.om_pool.specs.HoldingsView.{rules_in}
use Rattle.om_pool.specs.Moving.{StandsAs}
use Rattle.om_pool.specs.PoolView.{says_no_run}
use Rattle.om_pool.specs.declared.moving.Live.{Live}
use Rattle.om_pool.specs.declared.moving.Moving.{Moving}
use Rattle.om_pool.specs.declared.pool_core.Core.{Core}
use Rattle.om_pool.specs.declared.realloc.Ask.{Ask}

-- the op asks for the size, and its step is that of a realloc of the address
pub record IsReallocOp (rules : Rules) (state : State) (op : Op) (address size site : ℕ) : Type 0 where
  pub asks : size_asked op ≡ Some size
  pub wish : wish_of rules state op ≡ realloc_wish rules state address size
  pub step_is : (answers : Answers) → step_of rules state op answers ≡ Some (realloc rules state address size site answers)

-- the call took the step of a realloc
abbrev pub Reallocs : {B A : Type 0} → broker.Ghosts B A → Core → Core → B → B → Ask → ℕ → Reply → Type 0
Reallocs g old new before after ask address reply =
    IsAnswered g old new before after ask.who ask.op reply (λ answers. realloc (rules_in old.state) (core_state old) address ask.size ask.site answers)

-- the call took that of a reallocarray
abbrev pub ReallocsArray : {B A : Type 0} → broker.Ghosts B A → Core → Core → B → B → Who → ℕ → ℕ → ℕ → ℕ → Reply → Type 0
ReallocsArray g old new before after who address count size site reply =
    IsAnswered g old new before after who (Reallocarray address count size site) reply (λ answers. reallocarray (rules_in old.state) (core_state old) address count size site answers)

-- the op of what is asked for the address
abbrev pub IsAsk : Core → Ask → ℕ → Type 0
IsAsk core ask address = IsReallocOp (rules_in core.state) (core_state core) ask.op address ask.size ask.site

-- the live block begins at the address, no canary behind it is broken, and the size fits in a zone
pub record IsResizable (core : Core) (address size : ℕ) (live : Live) : Type 0 where
  pub at : (live.block).address ≡ address
  pub stands : StandsAs (rules_in core.state) (core_state core) live.block live.place
  pub whole : IsSome live.place → broken_canary (rules_in core.state) (core_state core) live.block ≡ None
  pub fits : is_too_large (rules_in core.state) size ≡ false

-- the call is answered so, no word is drawn, and nothing changes
pub record IsDenied (core : Core) (address size : ℕ) (reply : Reply) : Type 0 where
  pub wish : realloc_wish (rules_in core.state) (core_state core) address size ≡ Nothing
  pub step_is : (site : ℕ) (answers : Answers) → realloc (rules_in core.state) (core_state core) address size site answers ≡ unchanged (core_state core) reply
  pub says : says_no_run reply ≡ false

abbrev pub FindsBlock : Core → ℕ → ℕ → Result Live Reply → Type 0
FindsBlock core address size (Ok live) = IsResizable core address size live
FindsBlock core address size (Err reply) = IsDenied core address size reply

-- where the size fits in a zone
abbrev pub FindsIfFits : Rules → Live → ℕ → Result Live Reply → Type 0
FindsIfFits rules live size (Ok found) = (found ≡ live) × (is_too_large rules size ≡ false)
FindsIfFits rules live size (Err reply) = (reply ≡ null_or_fault rules TooLarge) × (is_too_large rules size ≡ true)

-- what is asked, of a block to which the size can be given in this way
pub record IsToResize (core : Core) (ask : Ask) (live : Live) (by : model.Way) : Type 0 where
  pub op : IsAsk core ask (live.block).address
  pub is : IsResizable core (live.block).address ask.size live
  pub way_is : way (rules_in core.state) (core_state core) live.block ask.size ≡ by

-- the entry of a call that moved a block, or tried to
abbrev pub moving_entry : Ask → Moving → Option Look → CallEntry
moving_entry ask moving taken = record {
  who = ask.who;
  op = ask.op;
  reply = moving.reply;
  words = moving.words;
  looks = (moving.looks).items;
  taken = taken;
  claim = moving.claim;
  release = moving.release;
}

-- the entry of a call whose block grew over claimed pages
abbrev pub grown_entry : Ask → Reply → Move → CallEntry
grown_entry ask reply claim =
    record { who = ask.who; op = ask.op; reply = reply; words = []; looks = []; taken = None; claim = Some claim; release = None }
