-- What a call takes of the broker's moves, and that no run is said to be wanting where none was asked for.
use Rattle.std.proofs.Common.{◌≡◌, ℕ, ◌+◌, ◌-◌, ◌^◌, ◌<◌, ◌≤◌, Bool, true, false, not, nat_le, nat_lt, cond, List, [], ◌∷◌, ◌++◌, length, length-append, if◌then◌else◌, Option, Some, None, ◌⊎◌, inl, inr, is_some, refl, sym, subst, ◌∙◌, ap, arith}
use Rattle.std.specs.Prelude.{IsSome}
use Rattle.std.specs.List.{filter, range_with_len, AllByRecursion}
use Rattle.std.proofs.lemmas.Bool.{false≢true, and_parts, cases_lt, cases_Bool, le-leb, leb-true, lt-ltb, ltb-true}
use Rattle.std.proofs.lemmas.Bool.Decides.{nat_tests}
use Rattle.std.proofs.lemmas.List.FromFn.{length-range_with_len}
use mathlib.Core.Logic.{⊎_elim}
use Rattle.om_broker.specs.Claims.{one_more_ask}
use Rattle.om_broker.specs.declared.broker.Broker as broker
use Rattle.om_broker.specs.declared.broker.Claim.{Claim}
use Rattle.om_broker.specs.declared.broker.Claim.TheVariants.{Claimed, NoRun}
use Rattle.om_broker.specs.declared.broker.ClaimAt.{ClaimAt}
use Rattle.om_broker.specs.declared.broker.ClaimAt.TheVariants as at
use Rattle.om_model.specs.Data.CallEntry.{CallEntry}
use Rattle.om_model.specs.Pool.Access.{PageState, Plain, Shut, Guarding, bar_of, page_state, load, load_unless, store, store_unless}
use Rattle.om_geom.specs.Addresses.{page_at}
use Rattle.om_geom.specs.Numbers.{zone_pages}
use Rattle.om_model.specs.Pool.Rules.{Rules}
use Rattle.om_model.specs.Pool.Runs.{Run, run_of, is_page_of}
use Rattle.om_model.specs.Pool.State.{State, holds, with_run, without_run}
use Rattle.om_model.specs.Pool.WellFormed.{EachPair}
use Rattle.om_model.specs.declared.entry.Entry.TheVariants.{Call}
use Rattle.om_model.specs.declared.entry.Move.{Move}
use Rattle.om_model.specs.declared.looks.Look.{Look}
use Rattle.om_model.specs.declared.operation.Op.{Op}
use Rattle.om_model.specs.declared.operation.Who.{Who}
use Rattle.om_model.specs.declared.reply.Reply.{Reply}
use Rattle.om_model.specs.declared.reply.Reply.TheVariants.{Miss}
use Rattle.om_model.proofs.Each.{all-weaker}
use Rattle.om_model.proofs.Held.{ascends-with_run}
use Rattle.om_pool.specs.Asking.{given_in, held_after, held_given, taken_in, IsAsked, IsAskedAt, IsLeft, IsTrace, Trace}
use Rattle.om_pool.specs.CoreKept.{core_state, view_of}
use Rattle.om_pool.specs.HoldingsView.{rules_in}
use Rattle.om_pool.specs.PoolView.{call_moves, claim_moves, says_no_run, UsesBroker, WasAsked}
use Rattle.om_pool.specs.Unasked.{unasked_entry, IsQuiet}
use Rattle.om_pool.specs.declared.pool_core.Core.{Core}
use Rattle.om_pool.proofs.TraceLaws.{IsTraced, adds-traced, left-traced, left_trace, quiet-traced, whole}

-- ---- how many pages are held

-- pages that ascend, from one on and below another
pages-between : (low high : ℕ) (held : List ℕ) → low ≤ high → AllByRecursion (λ page. low ≤ page) held → EachPair ◌<◌ held → AllByRecursion (λ page. page < high) held → low + length held ≤ high
pages-between low high [] le from pairs below = omega arith
pages-between low high (x ∷ xs) le from pairs below =
    let rest = pages-between (x + 1) high xs (omega (arith, below.0)) (all-weaker (λ page. x < page) (λ page. x + 1 ≤ page) xs (λ page above. omega arith) pairs.0) pairs.1 below.1 in
    omega (arith, from.0)

all-from_0 : (held : List ℕ) → AllByRecursion (λ page. 0 ≤ page) held
all-from_0 [] = tt
all-from_0 (x ∷ xs) = (omega arith, all-from_0 xs)

pub few-pages : (bound : ℕ) (held : List ℕ) → EachPair ◌<◌ held → AllByRecursion (λ page. page < bound) held → length held ≤ bound
few-pages bound held pairs below = let all = pages-between 0 bound held (omega arith) (all-from_0 held) pairs below in omega arith

-- of pages that ascend, from one on, no more are of a run than the run has from there on
run-goes-from : (run : Run) (low left : ℕ) (held : List ℕ) → AllByRecursion (λ page. low ≤ page) held → EachPair ◌<◌ held → run.count ≤ left + (low - run.first) → length held ≤ length (without_run run held) + left
run-goes-from run low left [] from pairs few = omega arith
run-goes-from run low left (x ∷ xs) from pairs few =
    let later = all-weaker (λ page. x < page) (λ page. x + 1 ≤ page) xs (λ page above. omega arith) pairs.0 in
    ⊎_elim
    (λ (here : is_page_of run x ≡ true).
    let parts = and_parts (nat_le run.first x) (nat_lt x (run.first + run.count)) here in
    let start = leb-true run.first x parts.0 in
    let end = ltb-true x (run.first + run.count) parts.1 in
    let rest = run-goes-from run (x + 1) (left - 1) xs later pairs.1 (omega (arith, from.0)) in
    rw here (omega (arith, from.0)))
    (λ (other : is_page_of run x ≡ false). let rest = run-goes-from run (x + 1) left xs later pairs.1 (omega (arith, from.0)) in rw other (omega arith))
    (cases_Bool (is_page_of run x))

pub run-goes : (run : Run) (held : List ℕ) → EachPair ◌<◌ held → length held ≤ length (without_run run held) + run.count
run-goes run held pairs = run-goes-from run 0 run.count held (all-from_0 held) pairs (omega arith)

-- a run comes
module _ (run : Run) where
  abbrev is_below : ℕ → Bool
  is_below page = nat_lt page run.first

  abbrev is_above : ℕ → Bool
  is_above page = nat_le (run.first + run.count) page

  at-most : (b : Bool) (y : ℕ) (ys : List ℕ) → length (cond b (y ∷ ys) ys) ≤ length ys + 1
  at-most true y ys = omega arith
  at-most false y ys = omega arith

  at-least : (b : Bool) (y : ℕ) (ys : List ℕ) → length ys ≤ length (cond b (y ∷ ys) ys)
  at-least true y ys = omega arith
  at-least false y ys = omega arith

  beside-run : (held : List ℕ) → length (without_run run held) ≤ length (filter is_below held) + length (filter is_above held)
  beside-run [] = omega arith
  beside-run (x ∷ xs) =
      let rest = beside-run xs in
      let before = at-least (is_below x) x (filter is_below xs) in
      let behind = at-least (is_above x) x (filter is_above xs) in
      let more = at-most (not (is_page_of run x)) x (without_run run xs) in
      ⊎_elim
      (λ (lt : x < run.first). let below : is_below x ≡ true = lt-ltb x run.first lt in rw below (omega arith))
      (λ (le : run.first ≤ x). ⊎_elim
      (λ (lt : x < run.first + run.count). let on : is_page_of run x ≡ true = grind (arith, nat_tests) in rw on (omega arith))
      (λ (past : run.first + run.count ≤ x). let above : is_above x ≡ true = le-leb (run.first + run.count) x past in rw above (omega arith))
      (cases_lt x (run.first + run.count)))
      (cases_lt x run.first)

  pub run-comes : (held : List ℕ) → EachPair ◌<◌ held → length held ≤ length (with_run run held)
  run-comes held pairs =
      let below = filter is_below held in
      let range = range_with_len run.first run.count in
      let long : length (with_run run held) ≡ length below + length range + length (filter is_above held) = length-append (below ++ range) (filter is_above held) ∙ ap (λ k. k + length (filter is_above held)) (length-append below range) in
      let count : length range ≡ run.count = length-range_with_len run.first run.count in
      omega (arith, run-goes run held pairs, beside-run held)

-- ---- a count of asks

-- it rises by one, or stays at its end
asks-once : (old new : ℕ) → new ≡ one_more_ask old → (old < new) ⊎ (new ≡ 2 ^ 64 - 1)
asks-once old new is = ⊎_elim
    (λ (lt : old < 2 ^ 64 - 1). inl (omega arith))
    (λ (le : 2 ^ 64 - 1 ≤ old). inr (omega arith))
    (cases_lt old (2 ^ 64 - 1))

asks-twice : (old mid new : ℕ) → mid ≡ one_more_ask old → new ≡ one_more_ask mid → (old < new) ⊎ (new ≡ 2 ^ 64 - 1)
asks-twice old mid new first second = ⊎_elim
    (λ (lt : old < 2 ^ 64 - 1). inl (omega arith))
    (λ (le : 2 ^ 64 - 1 ≤ old). inr (omega arith))
    (cases_lt old (2 ^ 64 - 1))

-- ---- loads and stores

module _ (state : State) (address byte : ℕ) where
  load-unless : (held : Bool) (page : PageState) → says_no_run (load_unless state address (if held then bar_of page else Some Miss)).reply ≡ false
  load-unless true Plain = refl
  load-unless true Shut = refl
  load-unless true Guarding = refl
  load-unless false page = refl

  store-unless : (held : Bool) (page : PageState) → says_no_run (store_unless state address byte (if held then bar_of page else Some Miss)).reply ≡ false
  store-unless true Plain = refl
  store-unless true Shut = refl
  store-unless true Guarding = refl
  store-unless false page = refl

pub load-says : (rules : Rules) (state : State) (address : ℕ) → says_no_run (load rules state address).reply ≡ false
load-says rules state address = load-unless state address 0 (holds rules state address) (page_state rules state (page_at address))

pub store-says : (rules : Rules) (state : State) (address byte : ℕ) → says_no_run (store rules state address byte).reply ≡ false
store-says rules state address byte = store-unless state address byte (holds rules state address) (page_state rules state (page_at address))

-- ---- the moves that are taken, beside those that stand for held pages

abbrev cost_given : Option ClaimAt → ℕ
cost_given None = 0
cost_given (Some (at.Claimed move frames)) = claim_moves
cost_given (Some (at.Taken look)) = 1

abbrev cost_asked : Bool → ℕ
cost_asked own = if own then 0 else claim_moves

-- what was claimed at a given run isn't searched for
cost-few : (given : Option ClaimAt) (own : Bool) → (IsSome (given_in given) → own ≡ true) → cost_given given + cost_asked own + 1 ≤ call_moves
cost-few None true once = omega arith
cost-few None false once = omega arith
cost-few (Some (at.Claimed move frames)) own once = let owned : own ≡ true = once refl in rw owned (omega arith)
cost-few (Some (at.Taken look)) true once = omega arith
cost-few (Some (at.Taken look)) false once = omega arith

ascends-given : (held : List ℕ) (given : Option ClaimAt) → EachPair ◌<◌ held → EachPair ◌<◌ (held_given held given)
ascends-given held None pairs = pairs
ascends-given held (Some (at.Claimed move frames)) pairs = ascends-with_run (run_of move) held pairs
ascends-given held (Some (at.Taken look)) pairs = pairs

ascends-after : (held : List ℕ) (own : Bool) (answer : Option Claim) → EachPair ◌<◌ held → EachPair ◌<◌ (held_after held own answer)
ascends-after held true answer pairs = pairs
ascends-after held false None pairs = pairs
ascends-after held false (Some (Claimed move frames)) pairs = ascends-with_run (run_of move) held pairs
ascends-after held false (Some NoRun) pairs = pairs

-- ---- what a call uses

module _ {B A : Type 0} (g : broker.Ghosts B A) where
  module _ (old new : B) where
    asks-given : (run : Option Run) (given : Option ClaimAt) → IsAskedAt g run old new given → (g.asks new ≡ g.asks old) ⊎ (g.asks new ≡ one_more_ask (g.asks old))
    asks-given None given asked = inl (ap g.asks asked.0)
    asks-given (Some run) None asked = absurd asked
    asks-given (Some run) (Some answer) asked = inr asked.asked

    asks-taken : (run : Option Run) (given : Option ClaimAt) → IsAskedAt g run old new given → IsSome (taken_in given) → g.asks new ≡ one_more_ask (g.asks old)
    asks-taken None given asked some = absurd (false≢true (sym (ap (λ a. is_some (taken_in a)) asked.1) ∙ some))
    asks-taken (Some run) None asked some = absurd asked
    asks-taken (Some run) (Some answer) asked some = asked.asked

    asks-searched : (own : Bool) (n word : ℕ) (looks : List Look) (answer : Option Claim) → IsAsked g own old new n word looks answer → own ≡ false → g.asks new ≡ one_more_ask (g.asks old)
    asks-searched true n word looks answer asked unowned = cc
    asks-searched false n word looks None asked unowned = absurd asked
    asks-searched false n word looks (Some answer) asked unowned = asked.asked

    asks-own : (own : Bool) (n word : ℕ) (looks : List Look) (answer : Option Claim) → IsAsked g own old new n word looks answer → own ≡ true → g.asks new ≡ g.asks old
    asks-own true n word looks answer asked owned = ap g.asks asked.0
    asks-own false n word looks answer asked owned = cc

    asks-left : (before after : List ℕ) (release : Option Move) → IsLeft g old new before after release → g.asks new ≡ g.asks old
    asks-left before after None left = ap g.asks left.0
    asks-left before after (Some move) left = ((left.1).given).asked

    -- a claim at a given run takes a move and one for each page, and the pages are held then
    spent-given : (run : Option Run) (given : Option ClaimAt) (held : List ℕ) → EachPair ◌<◌ held → IsAskedAt g run old new given → g.moves_left old + length held ≤ (g.moves_left new + length (held_given held given)) + cost_given given
    spent-given None given held pairs asked =
        let Spent : B → Option ClaimAt → Type 0 = λ b a. g.moves_left old + length held ≤ (g.moves_left b + length (held_given held a)) + cost_given a in
        subst (λ b. Spent b given) (sym asked.0) (subst (Spent old) (sym asked.1) (omega arith))
    spent-given (Some run) None held pairs asked = absurd asked
    spent-given (Some run) (Some (at.Claimed move frames)) held pairs asked = omega (arith, asked.spent, asked.inside, run-comes (run_of move) held pairs)
    spent-given (Some run) (Some (at.Taken look)) held pairs asked = let spent = asked.spent in omega (arith, spent.1)

    -- so does a search
    spent-asked : (own : Bool) (n word : ℕ) (looks : List Look) (answer : Option Claim) (held : List ℕ) → EachPair ◌<◌ held → (own ≡ false → n ≤ zone_pages) → IsAsked g own old new n word looks answer
        → g.moves_left old + length held ≤ (g.moves_left new + length (held_after held own answer)) + cost_asked own
    spent-asked true n word looks answer held pairs few asked =
        let Spent : B → Type 0 = λ b. g.moves_left old + length held ≤ (g.moves_left b + length held) + 0 in
        subst Spent (sym asked.0) (omega arith)
    spent-asked false n word looks None held pairs few asked = absurd asked
    spent-asked false n word looks (Some (Claimed move frames)) held pairs few asked = omega (arith, few refl, asked.spent, run-comes (run_of move) held pairs)
    spent-asked false n word looks (Some NoRun) held pairs few asked = let spent = asked.spent in omega (arith, spent.1)

    -- a release takes a move, and gives one back for each page
    spent-left : (before after : List ℕ) (release : Option Move) → EachPair ◌<◌ before → IsLeft g old new before after release → g.moves_left old + length before ≤ (g.moves_left new + length after) + 1
    spent-left before after None pairs left =
        let Spent : B → List ℕ → Type 0 = λ b pages. g.moves_left old + length before ≤ (g.moves_left b + length pages) + 1 in
        subst (λ b. Spent b after) (sym left.0) (subst (Spent old) (sym left.1) (omega arith))
    spent-left before after (Some move) pairs left = let lets = left.1 in omega (arith, (lets.given).paid, run-goes left.0 before pairs, ap length lets.left)

  -- in all at most those of a call
  pub trace-spent : (old new : B) (before after : List ℕ) (trace : Trace) → IsTrace g old new before after trace → EachPair ◌<◌ before → (trace.own ≡ false → trace.count ≤ zone_pages)
      → g.moves_left old + length before ≤ (g.moves_left new + length after) + call_moves
  trace-spent old new before after trace is pairs few =
      let between = held_given before trace.given in
      let later = held_after between trace.own trace.answer in
      let between_pairs = ascends-given before trace.given pairs in
      let first = spent-given old is.asked trace.run trace.given before pairs is.first in
      let second = spent-asked is.asked is.searched trace.own trace.count trace.word trace.looks trace.answer between between_pairs few is.second in
      let third = spent-left is.searched new later after trace.release (ascends-after between trace.own trace.answer between_pairs) is.third in
      let costs = cost-few trace.given trace.own is.once in
      omega arith

  pub uses-traced : (old new : Core) (before after : B) (reply : Reply) (entry : CallEntry) (trace : Trace) → IsTraced g old new before after entry trace
      → g.moves_left before + length (core_state old).held ≤ (g.moves_left after + length (core_state new).held) + call_moves
      → (trace.own ≡ true → says_no_run reply ≡ false) → UsesBroker g (view_of old before) (view_of new after) reply
  uses-traced old new before after reply entry trace traced spent says =
      let is = traced.is in
      let held = (core_state old).held in
      let last = asks-left is.searched after (held_after (held_given held trace.given) trace.own trace.answer) (core_state new).held trace.release is.third in
      let by_search : trace.own ≡ false → WasAsked g before after = λ unowned.
      let more = asks-searched is.asked is.searched trace.own trace.count trace.word trace.looks trace.answer is.second unowned in
      ⊎_elim
      (λ same. asks-once (g.asks before) (g.asks after) (last ∙ more ∙ ap one_more_ask same))
      (λ once. asks-twice (g.asks before) (g.asks is.asked) (g.asks after) once (last ∙ more))
      (asks-given before is.asked trace.run trace.given is.first) in
      record {
        same = (whole g before after held (core_state new).held trace is).same;
        spent = spent;
        asked = λ no_run. ⊎_elim
            (λ (own : trace.own ≡ true). absurd (false≢true (sym (says own) ∙ no_run)))
            by_search
            (cases_Bool trace.own);
        entry = entry;
        taken = λ some.
            let once = asks-taken before is.asked trace.run trace.given is.first (sym (ap is_some (traced.entered).taken) ∙ some) in
            ⊎_elim
            (λ (own : trace.own ≡ true).
            asks-once (g.asks before) (g.asks after) (last ∙ asks-own is.asked is.searched trace.own trace.count trace.word trace.looks trace.answer is.second own ∙ once))
            by_search
            (cases_Bool trace.own);
        added = traced.added;
        adds = adds-traced g before after held (core_state new).held trace is (rules_in old.state) (core_state old) entry traced.entered;
      }

  pub uses-quiet : (old new : Core) (b : B) (who : Who) (op : Op) (reply : Reply) → IsQuiet old new who op reply → says_no_run reply ≡ false → UsesBroker g (view_of old b) (view_of new b) reply
  uses-quiet old new b who op reply quiet says =
      uses-traced old new b b reply (unasked_entry who op reply quiet.words None) (left_trace None) (quiet-traced g old new b who op reply quiet) (omega (arith, ap length quiet.held)) (λ own. says)

  pub uses-left : (old new : Core) (before after : B) (who : Who) (op : Op) (reply : Reply) (words : List ℕ) (release : Option Move) → new.journal.items ≡ old.journal.items ++ Call (unasked_entry who op reply words release) ∷ []
      → EachPair ◌<◌ (core_state old).held → IsLeft g before after (core_state old).held (core_state new).held release → says_no_run reply ≡ false → UsesBroker g (view_of old before) (view_of new after) reply
  uses-left old new before after who op reply words release added pairs left says =
      uses-traced old new before after reply (unasked_entry who op reply words release) (left_trace release) (left-traced g old new before after who op reply words release added left)
      (omega (arith, spent-left before after (core_state old).held (core_state new).held release pairs left)) (λ own. says)
