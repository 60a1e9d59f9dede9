-- What a realloc shows of the core and of the broker: a call that has come to what its step leaves, and entered its
-- answer.
use Rattle.std.proofs.Common.{◌≡◌, ℕ, ◌*◌, ◌-◌, ◌^◌, ◌<◌, ◌≤◌, Bool, true, false, ◌&&◌, ◌==◌, nat_eq, nat_lt, List, [], ◌∷◌, ◌++◌, length, if◌then◌else◌, Option, Some, None, is_some, refl, sym, ap, ◌∙◌, subst, arith}
use Rattle.std.specs.Prelude.{IsSome}
use Rattle.std.specs.List.{slice_get}
use Rattle.std.specs.Option.{option_and_then, option_map_or}
use Rattle.std.proofs.lemmas.Bool.{eqb-true, false≢true, ltb-true, true≢false}
use Rattle.om_broker.specs.declared.broker.Broker as broker
use Rattle.om_broker.specs.declared.broker.Claim.{Claim}
use Rattle.om_broker.specs.declared.broker.ClaimAt.{ClaimAt}
use Rattle.om_broker.specs.declared.broker.ClaimAt.TheVariants as at
use Rattle.om_geom.specs.Numbers.{zone_pages}
use Rattle.om_model.specs.Data.CallEntry.{CallEntry}
use Rattle.om_model.specs.Pool.Canaries.{broken_canary}
use Rattle.om_model.specs.Pool.Journal.{GivesUp, MayAnswer, step_of, step_unless}
use Rattle.om_model.specs.Pool.Malloc.{is_too_large, pages_for, words_for}
use Rattle.om_model.specs.Pool.Product.{overflow, product}
use Rattle.om_model.specs.Pool.Realloc.{block_wish, grown, moves_checked, moving_wish, realloc, reallocarray_of, realloc_at, realloc_block, realloc_by, realloc_wish, realloc_wish_at, resized, unless_broken, wish_by}
use Rattle.om_model.specs.Pool.Resizing as model
use Rattle.om_model.specs.Pool.Resizing.{pages_after, way}
use Rattle.om_model.specs.Pool.Rules.{Rules, words_from}
use Rattle.om_model.specs.Pool.Runs.{Run}
use Rattle.om_model.specs.Pool.State.{State, with_pages, with_run}
use Rattle.om_model.specs.Pool.Steps.{Answers, Step, Wish, Nothing, null_or_fault, unchanged}
use Rattle.om_model.specs.declared.block.Block.{Block}
use Rattle.om_model.specs.declared.block.Place.{Place}
use Rattle.om_model.specs.declared.entry.Entry.TheVariants.{Call}
use Rattle.om_model.specs.declared.entry.Move.{Move}
use Rattle.om_model.specs.declared.operation.Op.TheVariants.{Reallocarray}
use Rattle.om_model.specs.declared.reply.Reply.{Reply}
use Rattle.om_model.specs.declared.reply.Why.TheVariants.{TooLarge}
use Rattle.om_pool.specs.Asking.{claim_in, claim_of, given_in, held_after, held_given, taken_in, IsAskedAt, IsLeft, IsTrace, Trace}
use Rattle.om_pool.specs.CoreKept.{core_state, IsBackedCore, IsCore, IsLookRoom}
use Rattle.om_pool.specs.HoldingsView.{rules_in, tables_in}
use Rattle.om_pool.specs.InPlace.{ClaimsAfter, ComesBy, IsGrown}
use Rattle.om_pool.specs.Moving.{MovesTo, resize_in, StandsAs}
use Rattle.om_pool.specs.PoolView.{says_no_run}
use Rattle.om_pool.specs.Realloc.{grown_entry, moving_entry, IsAsk, IsResizable, IsToResize, Reallocs}
use Rattle.om_pool.specs.Unasked.{no_answers, unasked_entry}
use Rattle.om_pool.specs.Underway.{HasComeTo}
use Rattle.om_pool.specs.declared.in_place.Growth.{Growth}
use Rattle.om_pool.specs.declared.moving.Live.{Live}
use Rattle.om_pool.specs.declared.moving.Moving.{Moving}
use Rattle.om_pool.specs.declared.pool_core.Core.{Core}
use Rattle.om_pool.specs.Ways.{way_by, way_in}
use Rattle.om_pool.specs.declared.realloc.Ask.{Ask}
use Rattle.om_pool.specs.declared.resizing.Way.{Way}
use Rattle.om_pool.proofs.GivenLaws.{given-run, may-given}
use Rattle.om_pool.proofs.InPlaceLaws.{new_data-held}
use Rattle.om_pool.proofs.LiveStands.{stands-live}
use Rattle.om_pool.proofs.Ways.{found-way}
use Rattle.om_pool.proofs.CoreLaws.{core-sound, entry_with, kept, left_after, taken, Does}
use Rattle.om_pool.proofs.MallocLaws.{pages-few}
use Rattle.om_pool.proofs.Spending.{trace-spent, uses-traced}
use Rattle.om_pool.proofs.TraceLaws.{core-backed, left_trace, wished_run, IsEntered, IsTraced}
use Rattle.om_pool.proofs.UnderwayLaws.{core-come, enters-does}

-- ---- a call that ends

module _ {B A : Type 0} (g : broker.Ghosts B A) (old mid new : Core) (before after : B) (ask : Ask) (address : ℕ) (reply : Reply) (words : List ℕ) (answers : Answers) (release : Option Move) (made : Step) (trace : Trace) where
  abbrev rules : Rules
  rules = rules_in old.state

  abbrev state : State
  state = core_state old

  abbrev entry : CallEntry
  entry = entry_with ask.who ask.op reply words answers release

  -- it has come to what its step leaves, it asked the broker for this, and its answer was entered
  pub record Ends : Type 0 where
    pub op : IsAsk old ask address
    pub may : MayAnswer rules state (realloc_wish rules state address ask.size) answers
    pub made_is : realloc rules state address ask.size ask.site answers ≡ made
    pub gives_up : GivesUp made.release release
    pub reply_is : reply ≡ made.reply
    pub words_are : words ≡ words_from rules state.drawn made.words
    pub come : HasComeTo g mid after made.next
    pub rules_are : rules_in mid.state ≡ rules
    pub room : IsLookRoom mid.room
    pub journal : mid.journal.items ≡ old.journal.items
    pub same : new ≡ record mid { journal = new.journal }
    pub added : new.journal.items ≡ mid.journal.items ++ Call entry ∷ []
    pub trace_is : IsTrace g before after state.held (made.next).held trace
    pub entered : IsEntered rules state entry trace
    pub few : trace.own ≡ false → trace.count ≤ zone_pages
    pub says : trace.own ≡ true → says_no_run reply ≡ false

  abbrev step : Answers → Step
  step given = realloc rules state address ask.size ask.site given

  pub ends-answered : IsCore old → IsBackedCore g old before → Ends → Reallocs g old new before after ask address reply
  ends-answered core backed ends =
      let op = ends.op in
      let made_is = ends.made_is in
      let May : Wish → Type 0 = λ wish. MayAnswer rules state wish answers in
      let Gives : Step → Type 0 = λ s. GivesUp s.release release in
      let Come : Step → Type 0 = λ s. HasComeTo g mid after s.next in
      let does : Does old new ask.who ask.op reply words answers step release =
      enters-does g old mid new after ask.who ask.op reply words answers step release core (record {
        may = subst May (sym op.wish) ends.may;
        step_is = op.step_is answers;
        gives_up = subst Gives (sym made_is) ends.gives_up;
        reply_is = ends.reply_is ∙ ap (λ (s : Step). s.reply) (sym made_is);
        words_are = ends.words_are ∙ ap (λ (s : Step). words_from rules state.drawn s.words) (sym made_is);
        come = subst Come (sym made_is) ends.come;
        rules = ends.rules_are;
        room = ends.room;
        same = ends.same;
        added = ends.added ∙ ap (λ items. items ++ Call entry ∷ []) ends.journal;
      }) in
      let held : (core_state new).held ≡ (made.next).held =
      ap (λ (s : State). s.held) (left_after old new ask.who ask.op reply words answers step release core does) ∙ ap (λ (s : Step). (s.next).held) made_is in
      let Traces : List ℕ → Type 0 = λ pages. IsTrace g before after state.held pages trace in
      let traced : IsTraced g old new before after entry trace = record { added = does.added; is = subst Traces (sym held) ends.trace_is; entered = ends.entered } in
      record {
        kept = kept old new ask.who ask.op reply words answers step release core does;
        backed = core-backed g old new before after entry trace traced does.rules backed;
        uses = uses-traced g old new before after reply entry trace traced
            (trace-spent g before after state.held (core_state new).held trace traced.is (core-sound old core).ascends ends.few) ends.says;
        taken = taken old new ask.who ask.op reply words answers step release core does;
      }

-- ---- one that asks the broker for nothing, but may let a run go

module _ {B A : Type 0} (g : broker.Ghosts B A) (old mid new : Core) (before after : B) (ask : Ask) (address : ℕ) (reply : Reply) (words : List ℕ) (release : Option Move) (made : Step) where
  pub record EndsUnasked : Type 0 where
    pub op : IsAsk old ask address
    pub wish : realloc_wish (rules_in old.state) (core_state old) address ask.size ≡ Nothing
    pub made_is : realloc (rules_in old.state) (core_state old) address ask.size ask.site no_answers ≡ made
    pub gives_up : GivesUp made.release release
    pub reply_is : reply ≡ made.reply
    pub words_are : words ≡ words_from (rules_in old.state) (core_state old).drawn made.words
    pub come : HasComeTo g mid after made.next
    pub rules_are : rules_in mid.state ≡ rules_in old.state
    pub room : IsLookRoom mid.room
    pub journal : mid.journal.items ≡ old.journal.items
    pub same : new ≡ record mid { journal = new.journal }
    pub added : new.journal.items ≡ mid.journal.items ++ Call (unasked_entry ask.who ask.op reply words release) ∷ []
    pub left : IsLeft g before after (core_state old).held (made.next).held release
    pub says : says_no_run reply ≡ false

  pub unasked-answered : IsCore old → IsBackedCore g old before → EndsUnasked → Reallocs g old new before after ask address reply
  unasked-answered core backed ends =
      let May : Wish → Type 0 = λ wish. MayAnswer (rules_in old.state) (core_state old) wish no_answers in
      ends-answered g old mid new before after ask address reply words no_answers release made (left_trace release) core backed (record {
        op = ends.op;
        may = subst May (sym ends.wish) (refl, refl, refl);
        made_is = ends.made_is;
        gives_up = ends.gives_up;
        reply_is = ends.reply_is;
        words_are = ends.words_are;
        come = ends.come;
        rules_are = ends.rules_are;
        room = ends.room;
        journal = ends.journal;
        same = ends.same;
        added = ends.added;
        trace_is = record { asked = before; searched = before; first = (refl, refl); second = (refl, refl, refl); third = ends.left; once = λ some. absurd (false≢true some) };
        entered = record {
          taken = refl;
          looks = refl;
          claim = refl;
          release = refl;
          word = λ unowned. absurd (true≢false unowned);
          pages = λ unowned. absurd (true≢false unowned);
          no_word = λ some. absurd (false≢true some);
          run = λ some. absurd (false≢true some);
        };
        few = λ unowned. absurd (true≢false unowned);
        says = λ own. ends.says;
      })

-- ---- the step of a realloc

-- that of an address other than 0
pub own-op : (address : ℕ) → 1 ≤ address → (step : Step) → step_unless (address == 0) step ≡ Some step
own-op address some step = by (nat_eq address 0) refl
  where
    by : (zero : Bool) → nat_eq address 0 ≡ zero → step_unless zero step ≡ Some step
    by false is = refl
    by true is = let zero : address ≡ 0 = eqb-true address 0 is in absurd (omega arith)

-- ---- the step of a reallocarray

product-few : (count size bytes : ℕ) → product count size ≡ Some bytes → count * size < 2 ^ 64
product-few count size bytes some = by (nat_lt (count * size) (2 ^ 64)) refl
  where
    by : (less : Bool) → nat_lt (count * size) (2 ^ 64) ≡ less → count * size < 2 ^ 64
    by true is = ltb-true (count * size) (2 ^ 64) is
    by false is = let isnt : None ≡ Some bytes = sym (ap (λ b. if b then Some (count * size) else None) is) ∙ some in cc

module _ (rules : Rules) (state : State) (address count size site : ℕ) (answers : Answers) where
  -- as that of a realloc to the product
  pub array-fits : (bytes : ℕ) → product count size ≡ Some bytes → (address ≡ 0 → 2 ^ 64 ≤ count * size) → step_of rules state (Reallocarray address count size site) answers ≡ Some (realloc rules state address bytes site answers)
  array-fits bytes some overflows =
      ap (λ asked. step_unless ((address == 0) && is_some asked) (reallocarray_of rules state address asked site answers)) some ∙ by (nat_eq address 0) refl
    where
      by : (zero : Bool) → nat_eq address 0 ≡ zero → step_unless (zero && true) (realloc rules state address bytes site answers) ≡ Some (realloc rules state address bytes site answers)
      by false is = refl
      by true is =
          let large = overflows (eqb-true address 0 is) in
          let few = product-few count size bytes some in
          absurd (omega arith)

  pub array-overflows : product count size ≡ None → step_of rules state (Reallocarray address count size site) answers ≡ Some (overflow rules state)
  array-overflows none =
      ap (λ asked. step_unless ((address == 0) && is_some asked) (reallocarray_of rules state address asked site answers)) none ∙ by (nat_eq address 0)
    where
      by : (zero : Bool) → step_unless (zero && false) (overflow rules state) ≡ Some (overflow rules state)
      by false = refl
      by true = refl

-- ---- the step, by the way in which a live block comes to the size

module _ (core : Core) (size : ℕ) (live : Live) (is : IsResizable core (live.block).address size live) (by : model.Way) (way_is : way (rules_in core.state) (core_state core) live.block size ≡ by) where
  abbrev by_rules : Rules
  by_rules = rules_in core.state

  abbrev by_state : State
  by_state = core_state core

  block-step : (place : Option Place) → StandsAs by_rules by_state live.block place → (IsSome place → broken_canary by_rules by_state live.block ≡ None) → (site : ℕ) (answers : Answers)
      → realloc by_rules by_state (live.block).address size site answers ≡ realloc_block by_rules by_state (record { block = live.block; place = place; size = size; site = site }) answers
  block-step None stands whole site answers = ap (realloc_at by_rules by_state (live.block).address size site answers) stands
  block-step (Some place) stands whole site answers =
      ap (realloc_at by_rules by_state (live.block).address size site answers) stands
      ∙ ap (λ broken. unless_broken broken by_state (realloc_block by_rules by_state (record { block = live.block; place = Some place; size = size; site = site }) answers)) (whole refl)

  pub way-step : (site : ℕ) (answers : Answers) → realloc by_rules by_state (live.block).address size site answers ≡ realloc_by by by_rules by_state (resize_in live size site) answers
  way-step site answers =
      let asked = resize_in live size site in
      block-step live.place is.stands is.whole site answers
      ∙ ap (λ large. if large then unchanged by_state (null_or_fault by_rules TooLarge) else realloc_by (way by_rules by_state live.block size) by_rules by_state asked answers) is.fits
      ∙ ap (λ w. realloc_by w by_rules by_state asked answers) way_is

  block-wish : (place : Option Place) → StandsAs by_rules by_state live.block place → (IsSome place → broken_canary by_rules by_state live.block ≡ None)
      → realloc_wish by_rules by_state (live.block).address size ≡ block_wish by_rules by_state live.block place size
  block-wish None stands whole = ap (realloc_wish_at by_rules by_state size) stands
  block-wish (Some place) stands whole =
      ap (realloc_wish_at by_rules by_state size) stands
      ∙ ap (λ broken. if is_some broken then Nothing else block_wish by_rules by_state live.block (Some place) size) (whole refl)

  pub way-wish : realloc_wish by_rules by_state (live.block).address size ≡ wish_by by by_rules by_state live.block live.place size
  way-wish =
      block-wish live.place is.stands is.whole
      ∙ ap (λ large. if large then Nothing else wish_by (way by_rules by_state live.block size) by_rules by_state live.block live.place size) is.fits
      ∙ ap (λ w. wish_by w by_rules by_state live.block live.place size) way_is

  pub comes-by : IsCore core → ComesBy by_rules by_state live.block size by
  comes-by kept_core = record { live = (stands-live by_rules by_state (core-sound core kept_core) live.block live.place is.stands).live; fits = is.fits; way_is = way_is }

-- the way that the code finds
pub way-found : (core : Core) → IsCore core → (block : Block) (size : ℕ) (found : Way) → way_in found ≡ way_by (rules_in core.state) (tables_in core.state) block size → way (rules_in core.state) (core_state core) block size ≡ way_in found
way-found core is block size found found_is = (found-way (rules_in core.state) (tables_in core.state) (core_state core) (core-sound core is) is.tables block size found found_is).0

-- ---- the pages after a block are claimed

-- what becomes of it then
pub claims-after : {B A : Type 0} (g : broker.Ghosts B A) (old new : Core) (before after : B) (ask : Ask) (live : Live) (found growth : Growth) → IsCore old → IsBackedCore g old before → IsToResize old ask live model.Claims
    → ((state : State) → HasComeTo g old before state → ComesBy (rules_in old.state) state live.block ask.size model.Claims → ClaimsAfter g old new before after state live.block ask.size ask.site found)
    → found ≡ growth → ClaimsAfter g old new before after (core_state old) live.block ask.size ask.site growth
claims-after g old new before after ask live found growth core backed is claims found_is =
    let Claimed : Growth → Type 0 = λ r. ClaimsAfter g old new before after (core_state old) live.block ask.size ask.site r in
    subst Claimed found_is (claims (core_state old) (core-come g old before core backed) (comes-by old ask.size live is.is model.Claims is.way_is core))

-- it has grown over them
module _ {B A : Type 0} (g : broker.Ghosts B A) (old mid new : Core) (before after : B) (ask : Ask) (live : Live) (move : Move) where
  abbrev old_rules : Rules
  old_rules = rules_in old.state

  abbrev old_state : State
  old_state = core_state old

  abbrev next_run : Run
  next_run = pages_after old_rules live.block ask.size

  abbrev grown_answers : Answers
  grown_answers = record { claim = Some move; looks = []; taken = None }

  abbrev grown_step : Step
  grown_step = grown old_rules (with_pages next_run old_state) (resize_in live ask.size ask.site)

  pub record EndsGrown (reply : Reply) : Type 0 where
    pub is : IsToResize old ask live model.Claims
    pub grows : IsGrown g old mid before after old_state live.block ask.size ask.site move
    pub reply_is : reply ≡ grown_step.reply
    pub room : IsLookRoom mid.room
    pub journal : mid.journal.items ≡ old.journal.items
    pub same : new ≡ record mid { journal = new.journal }
    pub added : new.journal.items ≡ mid.journal.items ++ Call (grown_entry ask reply move) ∷ []

  pub grown-answered : (reply : Reply) → IsCore old → IsBackedCore g old before → EndsGrown reply → Reallocs g old new before after ask (live.block).address reply
  grown-answered reply core backed ends =
      let is = ends.is in
      let op = is.op in
      let grows = ends.grows in
      let given : Option ClaimAt = Some (at.Claimed move grows.frames) in
      let come = core-come g old before core backed in
      let May : Wish → Type 0 = λ wish. MayAnswer old_rules old_state wish grown_answers in
      ends-answered g old mid new before after ask (live.block).address reply [] grown_answers None grown_step
      (record { run = Some next_run; given = given; own = true; count = 0; word = 0; looks = []; answer = None; release = None })
      core backed
      (record {
        op = op;
        may = subst May (sym (way-wish old ask.size live is.is model.Claims is.way_is))
            (may-given g before after next_run old_rules old_state come.held (moving_wish old_rules old_state live.place ask.size) grown_answers given grows.asked refl (λ some. (refl, refl)) (λ some. absurd (false≢true some)));
        made_is = way-step old ask.size live is.is model.Claims is.way_is ask.site grown_answers;
        gives_up = record { run_is = refl; inside = tt };
        reply_is = ends.reply_is;
        words_are = refl;
        come = grows.come;
        rules_are = grows.rules;
        room = ends.room;
        journal = ends.journal;
        same = ends.same;
        added = ends.added;
        trace_is = record {
          asked = after;
          searched = after;
          first = grows.asked;
          second = (refl, refl, refl);
          third = (refl, new_data-held old_rules live.block ask.size (resized (resize_in live ask.size ask.site) (with_pages next_run old_state)) ∙ sym (ap (λ r. with_run r old_state.held) (given-run g before after next_run move grows.frames grows.asked)));
          once = λ some. refl;
        };
        entered = record {
          taken = refl;
          looks = refl;
          claim = refl;
          release = refl;
          word = λ unowned. absurd (true≢false unowned);
          pages = λ unowned. absurd (true≢false unowned);
          no_word = λ some. ap (λ asked. option_and_then (λ bytes. let none : List ℕ = [] in slice_get none (length none - words_for old_rules bytes)) asked) op.asks;
          run = λ some. absurd (false≢true some);
        };
        few = λ unowned. absurd (true≢false unowned);
        says = λ own. ap says_no_run ends.reply_is;
      })

-- ---- a block moves, be it that the pages behind it were found held

module _ {B A : Type 0} (g : broker.Ghosts B A) (old mid new : Core) (before start after : B) (ask : Ask) (live : Live) (moving : Moving) (run : Option Run) (given : Option ClaimAt) where
  abbrev moving_answers : Answers
  moving_answers = record { claim = moving.claim; looks = (moving.looks).items; taken = taken_in given }

  abbrev moving_step : Step
  moving_step = moves_checked (rules_in old.state) (core_state old) (resize_in live ask.size ask.site) moving.claim

  pub record EndsMoving : Type 0 where
    pub op : IsAsk old ask (live.block).address
    pub fits : is_too_large (rules_in old.state) ask.size ≡ false
    pub may : MayAnswer (rules_in old.state) (core_state old) (realloc_wish (rules_in old.state) (core_state old) (live.block).address ask.size) moving_answers
    pub made_is : realloc (rules_in old.state) (core_state old) (live.block).address ask.size ask.site moving_answers ≡ moving_step
    pub asked_at : IsAskedAt g run before start given
    pub not_given : given_in given ≡ None
    pub held_is : held_given (core_state old).held given ≡ (core_state old).held
    pub wished : IsSome (taken_in given) → wished_run (realloc_wish (rules_in old.state) (core_state old) (live.block).address ask.size) ≡ run
    pub moves : MovesTo g (rules_in old.state) mid start after (core_state old) (resize_in live ask.size ask.site) moving
    pub room : IsLookRoom mid.room
    pub journal : mid.journal.items ≡ old.journal.items
    pub same : new ≡ record mid { journal = new.journal }
    pub added : new.journal.items ≡ mid.journal.items ++ Call (moving_entry ask moving (taken_in given)) ∷ []

  claim-as : (given_in given ≡ None) → (answer : Option Claim) → claim_in answer ≡ claim_of given answer
  claim-as = by given
    where
      by : (other : Option ClaimAt) → given_in other ≡ None → (answer : Option Claim) → claim_in answer ≡ claim_of other answer
      by None none answer = refl
      by (Some (at.Taken look)) none answer = refl
      by (Some (at.Claimed move frames)) none answer = cc

  pub moving-answered : IsCore old → IsBackedCore g old before → EndsMoving → Reallocs g old new before after ask (live.block).address moving.reply
  moving-answered core backed ends =
      let moves = ends.moves in
      let op = ends.op in
      let size = ask.size in
      let Left : List ℕ → Type 0 = λ held. IsLeft g moves.searched after (held_after held moves.own moves.answer) (moving_step.next).held moving.release in
      let none_given : IsSome (given_in given) → ⊥ = λ some. false≢true (sym (ap is_some ends.not_given) ∙ some) in
      ends-answered g old mid new before after ask (live.block).address moving.reply moving.words moving_answers moving.release moving_step
      (record { run = run; given = given; own = moves.own; count = pages_for (rules_in old.state) size; word = moves.word; looks = (moving.looks).items; answer = moves.answer; release = moving.release })
      core backed
      (record {
        op = op;
        may = ends.may;
        made_is = ends.made_is;
        gives_up = moves.gives_up;
        reply_is = moves.reply_is;
        words_are = moves.words_are;
        come = moves.come;
        rules_are = moves.rules_are;
        room = ends.room;
        journal = ends.journal;
        same = ends.same;
        added = ends.added;
        trace_is = record {
          asked = start;
          searched = moves.searched;
          first = ends.asked_at;
          second = moves.search;
          third = subst Left (sym ends.held_is) moves.left;
          once = λ some. absurd (none_given some);
        };
        entered = record {
          taken = refl;
          looks = refl;
          claim = moves.claim_is ∙ claim-as ends.not_given moves.answer;
          release = refl;
          word = λ unowned. ap (λ asked. option_and_then (λ bytes. slice_get moving.words (length moving.words - words_for (rules_in old.state) bytes)) asked) op.asks ∙ moves.word_is unowned;
          pages = λ unowned. ap (λ asked. option_map_or (pages_for (rules_in old.state)) asked 0) op.asks;
          no_word = λ some. absurd (none_given some);
          run = λ some. ap wished_run op.wish ∙ ends.wished some;
        };
        few = λ unowned. pages-few (rules_in old.state) size ends.fits;
        says = moves.says;
      })
