-- What a pool asks of its broker in a call, and what it was answered.
use Rattle.std.specs.Prelude.{◌≡◌, ℕ, ◌+◌, ◌≤◌, Bool, true, false, List, [], ◌∷◌, length, Option, Some, None, IsSome}
use Rattle.om_broker.specs.Claims.{one_more_ask, Adds, Finds, FindsAt, ShowsNothingElse, ShowsPlace, ShowsSearch, Spends, SpendsAt, moves_of_claim, moves_of_claim_at}
use Rattle.om_broker.specs.Sights.{released}
use Rattle.om_broker.specs.declared.broker.Broker as broker
use Rattle.om_broker.specs.declared.broker.Claim.{Claim}
use Rattle.om_broker.specs.declared.broker.Claim.TheVariants.{Claimed, NoRun}
use Rattle.om_broker.specs.declared.broker.ClaimAt.{ClaimAt}
use Rattle.om_broker.specs.declared.broker.ClaimAt.TheVariants as at
use Rattle.om_model.specs.Pool.Journal.{NamesSearched}
use Rattle.om_model.specs.Pool.Runs.{Run, run_of}
use Rattle.om_geom.specs.Addresses.{bit_of, zone_of}
use Rattle.om_geom.specs.Numbers.{zone_pages}
use Rattle.om_model.specs.Pool.State.{with_run, without_run}
use Rattle.om_model.specs.declared.entry.Move.{Move}
use Rattle.om_model.specs.declared.looks.Look.{Look}

abbrev pub one_page : ℕ → Run
one_page page = record { first = page; count = 1 }

-- the claim of an answer
abbrev pub claim_in : Option Claim → Option Move
claim_in None = None
claim_in (Some (Claimed move frames)) = Some move
claim_in (Some NoRun) = None

-- the claim of an answer to a claim at a given run, and the look at which a page of it was held
abbrev pub given_in : Option ClaimAt → Option Move
given_in None = None
given_in (Some (at.Claimed move frames)) = Some move
given_in (Some (at.Taken look)) = None

abbrev pub taken_in : Option ClaimAt → Option Look
taken_in None = None
taken_in (Some (at.Claimed move frames)) = None
taken_in (Some (at.Taken look)) = Some look

-- the claim of a call that asks for a given run, and where it isn't given for any
abbrev pub claim_of : Option ClaimAt → Option Claim → Option Move
claim_of None answer = claim_in answer
claim_of (Some (at.Claimed move frames)) answer = Some move
claim_of (Some (at.Taken look)) answer = claim_in answer

-- the held pages after a search, or after none
abbrev pub held_after : List ℕ → Bool → Option Claim → List ℕ
held_after held true answer = held
held_after held false None = held
held_after held false (Some (Claimed move frames)) = with_run (run_of move) held
held_after held false (Some NoRun) = held

-- those after a claim at a given run, or after none
abbrev pub held_given : List ℕ → Option ClaimAt → List ℕ
held_given held None = held
held_given held (Some (at.Claimed move frames)) = with_run (run_of move) held
held_given held (Some (at.Taken look)) = held

-- what a call may ask of its broker, and what it was answered
pub record Trace : Type 0 where
  -- a run that it asks for, and the answer
  pub run : Option Run
  pub given : Option ClaimAt
  -- so many pages that it searches for by a word, unless the pool has some of its own
  pub own : Bool
  pub count : ℕ
  pub word : ℕ
  pub looks : List Look
  pub answer : Option Claim
  -- what it gives back
  pub release : Option Move

module _ {B A : Type 0} (g : broker.Ghosts B A) where
  -- neither the arena nor the part of it has changed
  pub record IsSameBroker (old new : B) : Type 0 where
    pub arena : g.arena new ≡ g.arena old
    pub part : g.part new ≡ g.part old

  -- the broker was asked for that run
  pub record IsRunAsked (old new : B) (run : Run) (answer : ClaimAt) : Type 0 where
    pub same : IsSameBroker old new
    pub asked : g.asks new ≡ one_more_ask (g.asks old)
    pub inside : bit_of run.first + run.count ≤ zone_pages
    pub found : FindsAt (zone_of run.first) (bit_of run.first) run.count answer
    pub spent : SpendsAt (g.moves_left old) (g.moves_left new) run.count answer
    pub made : Adds g.made old new (moves_of_claim_at answer) (ShowsPlace (bit_of run.first) run.count answer)

  -- it is asked for a run only where there is one that would serve
  abbrev pub IsAskedAt : Option Run → B → B → Option ClaimAt → Type 0
  IsAskedAt None old new answer = (new ≡ old) × (answer ≡ None)
  IsAskedAt (Some run) old new None = ⊥
  IsAskedAt (Some run) old new (Some answer) = IsRunAsked old new run answer

  -- the broker searched so many pages by the word
  pub record IsSearched (old new : B) (n word : ℕ) (looks : List Look) (answer : Claim) : Type 0 where
    pub same : IsSameBroker old new
    pub asked : g.asks new ≡ one_more_ask (g.asks old)
    pub names : NamesSearched (g.zones (g.arena old)) word looks
    pub found : Finds (g.zones (g.arena old)) n word (length looks) answer
    pub spent : Spends (g.moves_left old) (g.moves_left new) n answer
    pub made : Adds g.made old new (moves_of_claim word answer) (ShowsSearch n word looks answer)

  -- it is asked for so many pages by the word only where the pool has none
  abbrev pub IsAsked : Bool → B → B → ℕ → ℕ → List Look → Option Claim → Type 0
  IsAsked true old new n word looks answer = (new ≡ old) × (looks ≡ []) × (answer ≡ None)
  IsAsked false old new n word looks None = ⊥
  IsAsked false old new n word looks (Some answer) = IsSearched old new n word looks answer

  -- the run was given back
  pub record IsRunGivenBack (old new : B) (run : Run) (move : Move) : Type 0 where
    pub same : IsSameBroker old new
    pub asked : g.asks new ≡ g.asks old
    pub paid : g.moves_left new + 1 ≡ g.moves_left old + run.count
    pub made : Adds g.made old new (released move ∷ []) ShowsNothingElse
    pub run_is : run_of move ≡ run
    pub inside : move.first + move.count ≤ zone_pages

  -- its pages are held no longer
  pub record IsLetGo (old new : B) (before after : List ℕ) (run : Run) (move : Move) : Type 0 where
    pub given : IsRunGivenBack old new run move
    pub left : after ≡ without_run run before

  -- what becomes of the broker and of the held pages by a release, or by none
  abbrev pub IsLeft : B → B → List ℕ → List ℕ → Option Move → Type 0
  IsLeft old new before after None = (new ≡ old) × (after ≡ before)
  IsLeft old new before after (Some move) = (run : Run) × IsLetGo old new before after run move

  -- All that a call asks of its broker, in this order, each only where there is need of it: the pages of a given run;
  -- where these weren't claimed, a search for pages; and to take a run back.
  pub record IsTrace (old new : B) (before after : List ℕ) (trace : Trace) : Type 0 where
    pub asked : B
    pub searched : B
    pub first : IsAskedAt trace.run old asked trace.given
    pub second : IsAsked trace.own asked searched trace.count trace.word trace.looks trace.answer
    pub third : IsLeft searched new (held_after (held_given before trace.given) trace.own trace.answer) after trace.release
    pub once : IsSome (given_in trace.given) → trace.own ≡ true
