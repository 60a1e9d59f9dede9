-- A live block moves, in the midst of a call: what this makes of the core and of the broker, whatever state they had
-- come to, and what its call answers then.
use Rattle.std.specs.Prelude.{◌≡◌, ℕ, ◌-◌, Bool, true, false, List, length, slice_get, Option, Some, None}
use Rattle.om_broker.specs.declared.broker.Broker as broker
use Rattle.om_broker.specs.declared.broker.Claim.{Claim}
use Rattle.om_model.specs.Pool.Journal.{GivesUp, MayAnswer}
use Rattle.om_model.specs.Pool.Malloc.{pages_for, placing, words_for}
use Rattle.om_model.specs.Pool.Realloc.{Resize, moves_checked, moving_wish, with_copy}
use Rattle.om_model.specs.Pool.Rules.{Rules, words_from}
use Rattle.om_model.specs.Pool.Standing.{Standing, LivePlace, PageBlock, block_at, standing}
use Rattle.om_model.specs.Pool.State.{State}
use Rattle.om_model.specs.Pool.Steps.{Answers}
use Rattle.om_model.specs.declared.block.Block.{Block}
use Rattle.om_model.specs.declared.block.Place.{Place}
use Rattle.om_model.specs.declared.entry.Move.{Move}
use Rattle.om_pool.specs.Asking.{IsAsked, IsLeft, claim_in, held_after}
use Rattle.om_pool.specs.HoldingsView.{rules_in}
use Rattle.om_pool.specs.Malloc.{reply_for}
use Rattle.om_pool.specs.Placing.{Places}
use Rattle.om_pool.specs.PoolView.{says_no_run}
use Rattle.om_pool.specs.Underway.{HasComeTo}
use Rattle.om_pool.specs.declared.moving.Live.{Live}
use Rattle.om_pool.specs.declared.moving.Moving.{Moving}
use Rattle.om_pool.specs.declared.placing.Placing.{Placing}
use Rattle.om_pool.specs.declared.pool_core.Core.{Core}

-- what stands where the block begins: a chunk has its place, and a block of whole pages none
abbrev pub stands_as : Block → Option Place → Standing
stands_as block (Some place) = LivePlace place block
stands_as block None = PageBlock block

abbrev pub StandsAs : Rules → State → Block → Option Place → Type 0
StandsAs rules state block place = standing rules state block.address ≡ stands_as block place

-- they have come to a state in which the block is live
abbrev pub HasLiveUnderway : {B A : Type 0} → broker.Ghosts B A → Core → B → Block → Type 0
HasLiveUnderway g core b block = (state : State) × HasComeTo g core b state × (block_at state block.address ≡ Some block)

-- to one in which it stands so
abbrev pub StandsUnderway : {B A : Type 0} → broker.Ghosts B A → Core → B → Block → Option Place → Type 0
StandsUnderway g core b block place = (state : State) × HasComeTo g core b state × StandsAs (rules_in core.state) state block place

-- the bytes of the block are copied to where the new one was placed
abbrev pub copied_where : Block → ℕ → Option ℕ → State → State
copied_where block size (Some to) state = with_copy block size to state
copied_where block size None state = state

-- a block, and the size and the site that it is to have
abbrev pub resize_of : Block → Option Place → ℕ → ℕ → Resize
resize_of block place size site = record { block = block; place = place; size = size; site = site }

abbrev pub resize_in : Live → ℕ → ℕ → Resize
resize_in live size site = resize_of live.block live.place size site

-- a block was placed, and the bytes of the old one were copied to it
pub record Copies {B A : Type 0} (g : broker.Ghosts B A) (old new : Core) (before after : B) (state : State) (block : Block) (size site : ℕ) (words : List ℕ) (placed : Placing) : Type 0 where
  pub mid : Core
  pub places : Places g old mid before after state size site words placed
  pub come : HasComeTo g new after (copied_where block size placed.address (placing (rules_in old.state) state size site placed.claim).next)
  pub rules : rules_in new.state ≡ rules_in old.state

-- what its call answers by where the block was placed
abbrev pub moving_by : Bool → Placing → Option Move → Moving
moving_by xmalloc placed release =
    record { reply = reply_for xmalloc placed.address; words = placed.words; looks = placed.looks; claim = placed.claim; release = release }

-- the answers of the zones to a move
abbrev pub answers_to : Moving → Answers
answers_to moving = record { claim = moving.claim; looks = (moving.looks).items; taken = None }

-- The step of a move was made, given the claim. The broker was asked for pages only where the pool had none of its own,
-- and then by the first of the words that the placing draws, which come last. No run is said to be wanting where it
-- wasn't asked.
pub record MovesTo {B A : Type 0} (g : broker.Ghosts B A) (rules : Rules) (new : Core) (before after : B) (state : State) (asked : Resize) (moving : Moving) : Type 0 where
  pub own : Bool
  pub word : ℕ
  pub answer : Option Claim
  pub searched : B
  pub claim_is : moving.claim ≡ claim_in answer
  pub search : IsAsked g own before searched (pages_for rules asked.size) word (moving.looks).items answer
  pub left : IsLeft g searched after (held_after state.held own answer) ((moves_checked rules state asked moving.claim).next).held moving.release
  pub word_is : own ≡ false → slice_get moving.words (length moving.words - words_for rules asked.size) ≡ Some word
  pub says : own ≡ true → says_no_run moving.reply ≡ false
  pub may : MayAnswer rules state (moving_wish rules state asked.place asked.size) (answers_to moving)
  pub reply_is : moving.reply ≡ (moves_checked rules state asked moving.claim).reply
  pub gives_up : GivesUp (moves_checked rules state asked moving.claim).release moving.release
  pub words_are : moving.words ≡ words_from rules state.drawn (moves_checked rules state asked moving.claim).words
  pub come : HasComeTo g new after (moves_checked rules state asked moving.claim).next
  pub rules_are : rules_in new.state ≡ rules
