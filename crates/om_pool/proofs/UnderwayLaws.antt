-- What is so of the core and of the state to which it has come with its broker. Between two calls that is the state
-- that the journal leaves. From one state they come to another, at last to the one that the step of the call leaves;
-- then its answer is entered into the journal.
use Rattle.std.proofs.Common.{◌≡◌, ℕ, List, [], ◌∷◌, ◌++◌, Option, Some, sym, subst, ◌∙◌, ap, ◌+◌, refl}
use Rattle.om_broker.specs.declared.broker.Broker as broker
use Rattle.om_model.specs.Pool.Journal.{GivesUp, MayAnswer, step_of, wish_of}
use Rattle.om_model.specs.Pool.Rules.{Rules, canary_byte, words_from}
use Rattle.om_model.specs.Pool.State.{State, drawn_more}
use Rattle.om_model.specs.Pool.Steps.{Answers, Step}
use Rattle.om_model.specs.Pool.WellFormed.{IsWellFormed}
use Rattle.om_model.specs.declared.entry.Entry.TheVariants.{Call}
use Rattle.om_model.specs.declared.entry.Move.{Move}
use Rattle.om_model.specs.declared.operation.Op.{Op}
use Rattle.om_model.specs.declared.operation.Who.{Who}
use Rattle.om_model.specs.declared.reply.Reply.{Reply}
use Rattle.om_model.proofs.Kept.{sound}
use Rattle.om_model.proofs.Sound.{IsSound, well-formed}
use Rattle.om_pool.specs.CoreKept.{core_state, IsBackedCore, IsCore, IsLookRoom}
use Rattle.om_pool.specs.HoldingsView.{rules_in, tables_in, with_drawn, IsSameBut}
use Rattle.om_pool.specs.TableSteps.{IsTied}
use Rattle.om_pool.specs.Tables.{Tables, StandFor}
use Rattle.om_pool.specs.Underway.{HasComeTo, HasHeld}
use Rattle.om_pool.specs.declared.pool_core.Core.{Core}
use Rattle.om_pool.proofs.CoreLaws.{FewZones, SomeZone, core-sound, entry_with, Does, same-rules}
use Rattle.om_pool.proofs.HeldLaws.{backed-held}
use Rattle.om_model.proofs.Malloc.{drawn_more-sound}
use Rattle.om_pool.specs.declared.holdings.Holdings.{Holdings}
use Rattle.om_words.specs.DrawnWords.{WordSource}
use Rattle.om_pool.proofs.TablePages.{words-drawn}
use Rattle.om_pool.proofs.TableTies.{tied}

module _ {B A : Type 0} (g : broker.Ghosts B A) where
  module _ (core : Core) (b : B) (state : State) (come : HasComeTo g core b state) where
    pub come-sound : IsSound (rules_in core.state) state
    come-sound = sound (rules_in core.state) state come.well_formed

    pub come-tied : IsTied core.state.zones (tables_in core.state)
    come-tied = tied (rules_in core.state) (tables_in core.state) state come-sound come.tables come.some_zone come.few_zones

  pub core-come : (core : Core) (b : B) → IsCore core → IsBackedCore g core b → HasComeTo g core b (core_state core)
  core-come core b is backed = record {
    tables = is.tables;
    well_formed = well-formed (rules_in core.state) (core_state core) (core-sound core is);
    drawn = is.drawn;
    canary = is.canary;
    some_zone = is.some_zone;
    few_zones = is.few_zones;
    zones = backed.zones;
    held = backed-held g (rules_in core.state) (core_state core).held core.journal.items b backed;
  }

-- ---- from one state to another

-- the tables stand for another state, and the broker has the pages that are held there
module _ {B A : Type 0} (g : broker.Ghosts B A) (old : Core) (before : B) (state : State) (come : HasComeTo g old before state) where
  pub come-again : (new : Core) (after : B) (next : State) → rules_in new.state ≡ rules_in old.state → new.canary ≡ old.canary → g.arena after ≡ g.arena before
      → StandFor (rules_in old.state) (tables_in new.state) next → IsSound (rules_in old.state) next → new.state.words.place ≡ next.drawn → HasHeld g next.held after → HasComeTo g new after next
  come-again new after next rules canary arena stands formed drawn held =
      let Stands : Rules → Type 0 = λ r. StandFor r (tables_in new.state) next in
      let Formed : Rules → Type 0 = λ r. IsWellFormed r next in
      let same_zones : new.state.zones ≡ old.state.zones = ap (λ (r : Rules). r.zones) rules in
      record {
        tables = subst Stands (sym rules) stands;
        well_formed = subst Formed (sym rules) (well-formed (rules_in old.state) next formed);
        drawn = drawn;
        canary = canary ∙ come.canary ∙ ap canary_byte (sym rules);
        some_zone = subst SomeZone (sym same_zones) come.some_zone;
        few_zones = subst FewZones (sym same_zones) come.few_zones;
        zones = ap g.zones arena ∙ come.zones ∙ sym same_zones;
        held = held;
      }

  -- the tables alone are others; as many words are drawn, and the same pages are held
  pub come-changed : (own : Holdings) (next : State) → IsSameBut old.state own → StandFor (rules_in old.state) (tables_in own) next → IsSound (rules_in old.state) next
      → next.held ≡ state.held → next.drawn ≡ state.drawn → HasComeTo g (record old { state = own }) before next
  come-changed own next same stands formed held drawn =
      let Held : List ℕ → Type 0 = λ pages. HasHeld g pages before in
      come-again (record old { state = own }) before next (same-rules old.state own same) refl refl stands formed
      (ap (λ (w : WordSource). w.place) same.words ∙ come.drawn ∙ sym drawn) (subst Held (sym held) come.held)

  -- a word is drawn
  pub come-drawn : (own : Holdings) → own ≡ with_drawn 1 old.state → HasComeTo g (record old { state = own }) before (drawn_more 1 state)
  come-drawn own draws =
      let rules = rules_in old.state in
      let Come : Holdings → Type 0 = λ x. HasComeTo g (record old { state = x }) before (drawn_more 1 state) in
      subst Come (sym draws)
      (come-again (record old { state = with_drawn 1 old.state }) before (drawn_more 1 state) refl refl refl
      (words-drawn rules (tables_in old.state) state come.tables 1) (drawn_more-sound rules 1 state (come-sound g old before state come)) (ap (λ n. n + 1) come.drawn) come.held)

-- ---- the entering into the journal

module _ {B A : Type 0} (g : broker.Ghosts B A) where
  -- the call has come to what its step leaves, and its answer was entered into the journal then
  pub record Enters (old mid new : Core) (after : B) (who : Who) (op : Op) (reply : Reply) (words : List ℕ) (answers : Answers) (step : Answers → Step) (release : Option Move) : Type 0 where
    pub may : MayAnswer (rules_in old.state) (core_state old) (wish_of (rules_in old.state) (core_state old) op) answers
    pub step_is : step_of (rules_in old.state) (core_state old) op answers ≡ Some (step answers)
    pub gives_up : GivesUp (step answers).release release
    pub reply_is : reply ≡ (step answers).reply
    pub words_are : words ≡ words_from (rules_in old.state) (core_state old).drawn (step answers).words
    pub come : HasComeTo g mid after (step answers).next
    pub rules : rules_in mid.state ≡ rules_in old.state
    pub room : IsLookRoom mid.room
    pub same : new ≡ record mid { journal = new.journal }
    pub added : new.journal.items ≡ old.journal.items ++ Call (entry_with who op reply words answers release) ∷ []

  pub enters-does : (old mid new : Core) (after : B) (who : Who) (op : Op) (reply : Reply) (words : List ℕ) (answers : Answers) (step : Answers → Step) (release : Option Move) → IsCore old
      → Enters old mid new after who op reply words answers step release → Does old new who op reply words answers step release
  enters-does old mid new after who op reply words answers step release is enters =
      let come = enters.come in
      let next = (step answers).next in
      let Rules_stand : Rules → Type 0 = λ r. StandFor r (tables_in mid.state) next in
      let Tables_stand : Tables → Type 0 = λ t. StandFor (rules_in old.state) t next in
      record {
        may = enters.may;
        step_is = enters.step_is;
        gives_up = enters.gives_up;
        reply_is = enters.reply_is;
        words_are = enters.words_are;
        tables = subst Tables_stand (sym (ap (λ (x : Core). tables_in x.state) enters.same)) (subst Rules_stand enters.rules come.tables);
        drawn = ap (λ (x : Core). x.state.words.place) enters.same ∙ come.drawn;
        rules = ap (λ (x : Core). rules_in x.state) enters.same ∙ enters.rules;
        canary = ap (λ (x : Core). x.canary) enters.same ∙ come.canary ∙ ap canary_byte enters.rules ∙ sym is.canary;
        room = let Room : Core → Type 0 = λ x. IsLookRoom x.room in subst Room (sym enters.same) enters.room;
        added = enters.added;
      }
