-- A pool as its callers see it: the rules by which it answers, its state, its journal, for how many calls room is
-- already made, and its broker.
use Rattle.std.specs.Prelude.{◌≡◌, ℕ, ◌+◌, ◌*◌, ◌-◌, ◌^◌, ◌<◌, ◌≤◌, ◌⊎◌, Bool, true, false, [], ◌∷◌, ◌++◌, length, Option, IsSome}
use Rattle.om_opts.specs.declared.options.Opts.{Opts}
use Rattle.om_words.specs.DrawnWords.{Source}
use Rattle.om_geom.specs.Numbers.{zone_pages}
use Rattle.om_model.specs.Data.CallEntry.{CallEntry}
use Rattle.om_model.specs.Data.Room.{Entries}
use Rattle.om_model.specs.Pool.Journal.{IsLawful, GivesUp, MayAnswer, entry_of, state_of, wish_of}
use Rattle.om_model.specs.Pool.Rules.{Rules}
use Rattle.om_model.specs.Pool.State.{State, drawn_more}
use Rattle.om_model.specs.Pool.Steps.{Answers, Step, is_denied}
use Rattle.om_model.specs.Zones.Looks.{AreLooks}
use Rattle.om_model.specs.Zones.Moves.{moves_of}
use Rattle.om_model.specs.Zones.Order.{IsZoneOrder}
use Rattle.om_model.specs.declared.entry.Entry.TheVariants.{Call}
use Rattle.om_model.specs.declared.entry.Move.{Move}
use Rattle.om_model.specs.declared.operation.Op.{Op}
use Rattle.om_model.specs.declared.operation.Who.{Who}
use Rattle.om_model.specs.declared.reply.Reply.{Reply}
use Rattle.om_model.specs.declared.reply.Reply.TheVariants.{Fault, Null}
use Rattle.om_model.specs.declared.reply.Fault.TheVariants.{OutOfMemory}
use Rattle.om_model.specs.declared.reply.Why.TheVariants.{NoRun}
use Rattle.om_broker.specs.declared.broker.Broker as broker
use Rattle.om_pool.specs.Asking.{IsSameBroker}
use Rattle.om_pool.specs.Backing.{AddsEntry, IsBacked}

pub record PoolView (B : Type 0) : Type 0 where
  pub rules : Rules
  pub state : State
  pub journal : Entries
  pub spare : ℕ
  pub broker : B

-- the rules of a pool in an arena of so many zones
abbrev pub rules_by : Opts → ℕ → Source → Rules
rules_by options zones words = record { options = options; zones = zones; words = words }

-- the journal is a run of one pool: it is lawful, and the state is the one that it leaves
pub record IsRun {B : Type 0} (pool : PoolView B) : Type 0 where
  pub lawful : IsLawful pool.rules pool.journal.items
  pub left : pool.state ≡ state_of pool.rules pool.journal.items

-- what holds besides of a pool that is alone in its arena, as number 0: its moves are in zone order, and its
-- looks are true and in order
pub record IsAlone {B : Type 0} (pool : PoolView B) : Type 0 where
  pub order : IsZoneOrder (moves_of pool.rules 0 pool.journal.items)
  pub looks : AreLooks pool.rules (moves_of pool.rules 0 pool.journal.items) pool.journal.items

-- A call took a step, given what the zones answered: the reply, the release and the state after it are those of
-- the step, and the entry that shows them was added.
pub record Takes {B : Type 0} (old new : PoolView B) (who : Who) (op : Op) (reply : Reply) (step : Answers → Step) : Type 0 where
  pub answers : Answers
  pub release : Option Move
  pub rules : new.rules ≡ old.rules
  pub may : MayAnswer old.rules old.state (wish_of old.rules old.state op) answers
  pub reply_is : reply ≡ (step answers).reply
  pub gives_up : GivesUp (step answers).release release
  pub next : new.state ≡ (step answers).next
  pub added : new.journal.items ≡ old.journal.items ++ Call (entry_of old.rules old.state who op answers (step answers) release) ∷ []
  pub spare : old.spare ≤ new.spare + 1

-- nothing of the state has changed but the words drawn
pub record IsButForWords (old new : State) : Type 0 where
  pub words : ℕ
  pub same : new ≡ drawn_more words old

-- where a call is denied, by a null or a fault, only the words drawn and the journal have changed
abbrev pub IsKeptWhereDenied : {B : Type 0} → PoolView B → PoolView B → Reply → Type 0
IsKeptWhereDenied old new reply = is_denied reply ≡ true → IsButForWords old.state new.state

-- the rules, the state, the entries and the broker are the same; room may have been made
pub record IsAsBefore {B : Type 0} (old new : PoolView B) : Type 0 where
  pub rules : new.rules ≡ old.rules
  pub state : new.state ≡ old.state
  pub entries : new.journal.items ≡ old.journal.items
  pub broker : new.broker ≡ old.broker

-- ---- the broker of a pool

-- the moves that a claim takes at most, one and one for each of its pages, and those of a call, which makes two at most
abbrev pub claim_moves : ℕ
claim_moves = zone_pages + 1

abbrev pub call_moves : ℕ
call_moves = 2 * claim_moves

-- a null, or a fault in its place, for want of a run of pages
abbrev pub says_no_run : Reply → Bool
says_no_run (Null NoRun) = true
says_no_run (Fault (OutOfMemory NoRun)) = true
says_no_run other = false

module _ {B A : Type 0} (g : broker.Ghosts B A) where
  -- the pool has its arena to itself
  abbrev pub HasWhole : PoolView B → Type 0
  HasWhole pool = g.part pool.broker ≡ g.share (g.arena pool.broker)

  -- the broker's moves are those of the journal, and it has seen each version that the journal names
  abbrev pub HasMade : PoolView B → Type 0
  HasMade pool = IsBacked g pool.rules pool.state.held pool.journal.items pool.broker

  -- the moves that are left to the broker, and those that stand for the pages that are held
  abbrev pub moves_of_pool : PoolView B → ℕ
  moves_of_pool pool = g.moves_left pool.broker + length pool.state.held

  -- it was asked in this call, unless the count of asks stands at its end
  abbrev pub WasAsked : B → B → Type 0
  WasAsked old new = (g.asks old < g.asks new) ⊎ (g.asks new ≡ 2 ^ 64 - 1)

  -- What a call makes of the broker: it is of the same arena, with the same part of it; a call takes at most so many of its
  -- moves; no run is said to be wanting, or to be taken, where it wasn't asked; and it made the moves of the entry, and
  -- saw in this call all that the entry names.
  pub record UsesBroker (old new : PoolView B) (reply : Reply) : Type 0 where
    pub same : IsSameBroker g old.broker new.broker
    pub spent : moves_of_pool old ≤ moves_of_pool new + call_moves
    pub asked : says_no_run reply ≡ true → WasAsked old.broker new.broker
    pub entry : CallEntry
    pub taken : IsSome entry.taken → WasAsked old.broker new.broker
    pub added : new.journal.items ≡ old.journal.items ++ Call entry ∷ []
    pub adds : AddsEntry g old.rules entry old.broker new.broker
