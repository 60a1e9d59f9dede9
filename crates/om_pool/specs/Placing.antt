-- The placing of a block in the midst of a call: what it makes of the core and of the broker, whatever state they had
-- come to. The entry of a call that does nothing else.
use Rattle.std.specs.Prelude.{◌≡◌, ℕ, List, ◌++◌, Option, None, is_some}
use Rattle.om_broker.specs.declared.broker.Broker as broker
use Rattle.om_broker.specs.declared.broker.Claim.{Claim}
use Rattle.om_model.specs.Data.CallEntry.{CallEntry}
use Rattle.om_model.specs.Pool.Journal.{MayAnswer}
use Rattle.om_model.specs.Pool.Malloc.{page_for, pages_for, placing, placing_wish, words_for}
use Rattle.om_model.specs.Pool.Rules.{word_at, words_from}
use Rattle.om_model.specs.Pool.State.{State}
use Rattle.om_model.specs.Pool.Steps.{Answers}
use Rattle.om_model.specs.declared.operation.Op.{Op}
use Rattle.om_model.specs.declared.operation.Who.{Who}
use Rattle.om_model.specs.declared.reply.Reply.{Reply}
use Rattle.om_pool.specs.Asking.{claim_in, IsAsked}
use Rattle.om_pool.specs.HoldingsView.{rules_in}
use Rattle.om_pool.specs.Underway.{HasComeTo}
use Rattle.om_pool.specs.declared.placing.Placing.{Placing}
use Rattle.om_pool.specs.declared.pool_core.Core.{Core}

-- what the zones answered
abbrev pub answers_in : Placing → Answers
answers_in placed = record { claim = placed.claim; looks = (placed.looks).items; taken = None }

-- The block was placed as the definition says, given the claim, and the state is the one after it. The broker was asked
-- only where the pool had no page or run of its own, by the first of the words that were drawn.
pub record Places {B A : Type 0} (g : broker.Ghosts B A) (old new : Core) (before after : B) (state : State) (size site : ℕ) (words : List ℕ) (placed : Placing) : Type 0 where
  pub answer : Option Claim
  pub claim_is : placed.claim ≡ claim_in answer
  pub asked : IsAsked g (is_some (page_for (rules_in old.state) state size)) before after (pages_for (rules_in old.state) size) (word_at (rules_in old.state) state.drawn) (placed.looks).items answer
  pub may : MayAnswer (rules_in old.state) state (placing_wish (rules_in old.state) state size) (answers_in placed)
  pub address_is : placed.address ≡ (placing (rules_in old.state) state size site placed.claim).address
  pub come : HasComeTo g new after (placing (rules_in old.state) state size site placed.claim).next
  pub words_are : placed.words ≡ words ++ words_from (rules_in old.state) state.drawn (words_for (rules_in old.state) size)
  pub rules : rules_in new.state ≡ rules_in old.state

-- nothing was let go
abbrev pub placing_entry : Who → Op → Reply → Placing → CallEntry
placing_entry who op reply placed =
    record { who = who; op = op; reply = reply; words = placed.words; looks = (placed.looks).items; taken = None; claim = placed.claim; release = None }
