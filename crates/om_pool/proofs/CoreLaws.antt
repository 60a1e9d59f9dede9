-- What a core that is kept says of its parts, and what a call has to show so that it stays so.
use Rattle.std.proofs.Common.{◌≡◌, ℕ, ◌-◌, ◌^◌, ◌<◌, ◌≤◌, true, false, List, [], ◌∷◌, ◌++◌, length, min, if◌then◌else◌, Option, Some, IsSomeAnd, is_some, refl, sym, ap, ◌∙◌, subst, arith}
use Rattle.om_geom.specs.Numbers.{most_zones}
use Rattle.om_model.specs.Data.CallEntry.{CallEntry}
use Rattle.om_model.specs.Pool.Journal.{Agrees, GivesUp, IsLawful, IsLawfulCall, MayAnswer, entry_of, next_of, state_of, step_of, wish_of}
use Rattle.om_model.specs.Pool.Rules.{Rules, canary_byte, words_from}
use Rattle.om_model.specs.Pool.State.{State}
use Rattle.om_model.specs.Pool.Steps.{Answers, Step, is_denied, KeepsWhereDenied}
use Rattle.om_model.specs.declared.entry.Entry.{Entry}
use Rattle.om_model.specs.declared.entry.Entry.TheVariants.{Call}
use Rattle.om_model.specs.declared.entry.Move.{Move}
use Rattle.om_model.specs.declared.operation.Op.{Op}
use Rattle.om_model.specs.declared.operation.Who.{Who}
use Rattle.om_model.specs.declared.reply.Reply.{Reply}
use Rattle.om_model.proofs.Journals.{state_of-push, IsLawful-push}
use Rattle.om_model.proofs.Lawful.{lawful-sound}
use Rattle.om_model.proofs.Sound.{IsSound}
use Rattle.om_model.proofs.Steps.{state_of-drawn}
use Rattle.om_pool.specs.CoreKept.{core_state, core_view, spare_of, view_of, IsLookRoom, IsCore}
use Rattle.om_pool.specs.HoldingsView.{rules_in, tables_in, IsSameBut}
use Rattle.om_pool.specs.PoolView.{rules_by, PoolView, IsRun, IsKeptWhereDenied, Takes}
use Rattle.om_pool.specs.declared.holdings.Holdings.{Holdings}
use Rattle.om_pool.specs.declared.pool_core.Core.{Core}
use Rattle.om_pool.specs.TableSteps.{IsTied}
use Rattle.om_pool.specs.Tables.{Tables, StandFor}
use Rattle.om_words.specs.DrawnWords.{WordSource}
use Rattle.om_pool.proofs.TableTies.{tied}

abbrev pub SomeZone : ℕ → Type 0
SomeZone zones = 1 ≤ zones

abbrev pub FewZones : ℕ → Type 0
FewZones zones = zones ≤ most_zones

module _ (core : Core) (is : IsCore core) where
  pub core-sound : IsSound (rules_in core.state) (core_state core)
  core-sound = lawful-sound (rules_in core.state) core.journal.items is.lawful

  pub core-tied : IsTied core.state.zones (tables_in core.state)
  core-tied = tied (rules_in core.state) (tables_in core.state) (core_state core) core-sound is.tables is.some_zone is.few_zones

  pub core_drawn : length core.journal.items < 2 ^ 32 - 1 → core.state.words.place < 2 ^ 63 - 2
  core_drawn short =
      let few = state_of-drawn (rules_in core.state) core.journal.items in
      let same = is.drawn in
      omega arith

  pub core_run : {B : Type 0} (b : B) → IsRun (view_of core b)
  core_run b = record { lawful = is.lawful; left = refl }

-- holdings whose tables alone are others have the same rules
pub same-rules : (old new : Holdings) → IsSameBut old new → rules_in new ≡ rules_in old
same-rules old new same =
    ap (λ o. rules_by o new.zones new.words.source) same.opts
    ∙ ap (λ z. rules_by old.opts z new.words.source) same.zones
    ∙ ap (λ (w : WordSource). rules_by old.opts old.zones w.source) same.words

pub same-both : (old mid new : Holdings) → IsSameBut old mid → IsSameBut mid new → IsSameBut old new
same-both old mid new one two = record { opts = two.opts ∙ one.opts; zones = two.zones ∙ one.zones; words = two.words ∙ one.words }

-- room that is made changes none of it
module _ (old new : Core) (is : IsCore old) (rules : rules_in new.state ≡ rules_in old.state) (tables : tables_in new.state ≡ tables_in old.state) (words : new.state.words ≡ old.state.words)
    (entries : new.journal.items ≡ old.journal.items) where
  pub same-state : core_state new ≡ core_state old
  same-state = ap (state_of (rules_in new.state)) entries ∙ ap (λ r. state_of r old.journal.items) rules

  pub kept-reserved : new.canary ≡ old.canary → IsLookRoom new.room → IsCore new
  kept-reserved canary room =
      let ruled = rules_in old.state in
      let Lawful : Rules → List Entry → Type 0 = λ r es. IsLawful r es in
      let Stands : Rules → Tables → State → Type 0 = λ r t s. StandFor r t s in
      let same_zones : new.state.zones ≡ old.state.zones = ap (λ (r : Rules). r.zones) rules in
      record {
        lawful = subst (λ r. Lawful r new.journal.items) (sym rules) (subst (Lawful ruled) (sym entries) is.lawful);
        tables =
            subst (λ r. Stands r (tables_in new.state) (core_state new)) (sym rules)
            (subst (λ t. Stands ruled t (core_state new)) (sym tables)
            (subst (Stands ruled (tables_in old.state)) (sym same-state) is.tables));
        drawn = ap (λ (w : WordSource). w.place) words ∙ is.drawn ∙ ap (λ (s : State). s.drawn) (sym same-state);
        room = room;
        canary = canary ∙ is.canary ∙ ap canary_byte (sym rules);
        some_zone = subst SomeZone (sym same_zones) is.some_zone;
        few_zones = subst FewZones (sym same_zones) is.few_zones;
      }

-- room is made for one call at most
one-spare : (core : Core) → spare_of core ≤ 1
one-spare core = elim (is_some core.room) as (λ b. min core.journal.spare (min (if b then 1 else 0) core.state.chunks.spare) ≤ 1) [
  | true ↦ omega arith
  | false ↦ omega arith
]

-- the entry as the code makes it
abbrev pub entry_with : Who → Op → Reply → List ℕ → Answers → Option Move → CallEntry
entry_with who op reply words answers release = record { who = who; op = op; reply = reply; words = words; looks = answers.looks; taken = answers.taken; claim = answers.claim; release = release }

-- what a call did to the core: its answer is that of the step, and its entry stands in the journal
pub record Does (old new : Core) (who : Who) (op : Op) (reply : Reply) (words : List ℕ) (answers : Answers) (step : Answers → Step) (release : Option Move) : Type 0 where
  pub may : MayAnswer (rules_in old.state) (core_state old) (wish_of (rules_in old.state) (core_state old) op) answers
  pub step_is : step_of (rules_in old.state) (core_state old) op answers ≡ Some (step answers)
  pub gives_up : GivesUp (step answers).release release
  pub reply_is : reply ≡ (step answers).reply
  pub words_are : words ≡ words_from (rules_in old.state) (core_state old).drawn (step answers).words
  pub tables : StandFor (rules_in old.state) (tables_in new.state) (step answers).next
  pub drawn : new.state.words.place ≡ ((step answers).next).drawn
  pub rules : rules_in new.state ≡ rules_in old.state
  pub canary : new.canary ≡ old.canary
  pub room : IsLookRoom new.room
  pub added : new.journal.items ≡ old.journal.items ++ Call (entry_with who op reply words answers release) ∷ []

module _ (old new : Core) (who : Who) (op : Op) (reply : Reply) (words : List ℕ) (answers : Answers) (step : Answers → Step) (release : Option Move) (is : IsCore old)
    (does : Does old new who op reply words answers step release) where
  abbrev rules : Rules
  rules = rules_in old.state

  abbrev state : State
  state = core_state old

  abbrev entry : CallEntry
  entry = entry_with who op reply words answers release

  lawful_call : IsLawfulCall rules state entry
  lawful_call = record {
    zones = does.may;
    step = let P : Option Step → Type 0 = λ s. IsSomeAnd s (Agrees rules state entry) in
        subst P (sym does.step_is) (record { reply = does.reply_is; words = does.words_are; release = does.gives_up });
  }

  lawful_after : IsLawful rules (old.journal.items ++ Call entry ∷ [])
  lawful_after = IsLawful-push rules old.journal.items entry is.lawful lawful_call

  -- the journal leaves what the step does
  pub left_after : core_state new ≡ (step answers).next
  left_after =
      ap (λ r. state_of r new.journal.items) does.rules
      ∙ ap (state_of rules) does.added
      ∙ state_of-push rules old.journal.items (Call entry)
      ∙ ap (next_of state) does.step_is

  pub kept : IsCore new
  kept =
      let Lawful : Rules → List Entry → Type 0 = λ r es. IsLawful r es in
      let Stands : Rules → State → Type 0 = λ r s. StandFor r (tables_in new.state) s in
      let same_zones : new.state.zones ≡ old.state.zones = ap (λ (r : Rules). r.zones) does.rules in
      record {
        lawful = subst (λ r. Lawful r new.journal.items) (sym does.rules) (subst (Lawful rules) (sym does.added) lawful_after);
        tables = subst (λ r. Stands r (core_state new)) (sym does.rules) (subst (Stands rules) (sym left_after) does.tables);
        drawn = does.drawn ∙ ap (λ (s : State). s.drawn) (sym left_after);
        room = does.room;
        canary = does.canary ∙ is.canary ∙ ap canary_byte (sym does.rules);
        some_zone = subst SomeZone (sym same_zones) is.some_zone;
        few_zones = subst FewZones (sym same_zones) is.few_zones;
      }

  pub taken : Takes (core_view old) (core_view new) who op reply step
  taken = record {
    answers = answers;
    release = release;
    rules = does.rules;
    may = does.may;
    reply_is = does.reply_is;
    gives_up = does.gives_up;
    next = left_after;
    added = does.added
        ∙ ap (λ r. old.journal.items ++ Call (entry_with who op r words answers release) ∷ []) does.reply_is
        ∙ ap (λ ws. old.journal.items ++ Call (entry_with who op (step answers).reply ws answers release) ∷ []) does.words_are;
    spare = omega (arith, one-spare old);
  }

-- a call that is denied changes nothing but the words drawn, as its step says
pub taken-keeps : {B : Type 0} (old new : PoolView B) (who : Who) (op : Op) (reply : Reply) (step : Answers → Step) → Takes old new who op reply step → ((answers : Answers) → KeepsWhereDenied old.state (step answers)) → IsKeptWhereDenied old new reply
taken-keeps old new who op reply step took keeps denied =
    let kept = keeps took.answers (ap is_denied (sym took.reply_is) ∙ denied) in
    record { words = (step took.answers).words; same = took.next ∙ kept.1 }

-- it took a step that is the same for all answers
pub taken-as : {B : Type 0} (old new : PoolView B) (who : Who) (op : Op) (reply : Reply) (step other : Answers → Step) → ((answers : Answers) → step answers ≡ other answers) → Takes old new who op reply step → Takes old new who op reply other
taken-as old new who op reply step other same took =
    let is = same took.answers in
    record {
      answers = took.answers;
      release = took.release;
      rules = took.rules;
      may = took.may;
      reply_is = took.reply_is ∙ ap (λ (s : Step). s.reply) is;
      gives_up = let Gives : Step → Type 0 = λ s. GivesUp s.release took.release in subst Gives is took.gives_up;
      next = took.next ∙ ap (λ (s : Step). s.next) is;
      added = took.added ∙ ap (λ s. old.journal.items ++ Call (entry_of old.rules old.state who op took.answers s took.release) ∷ []) is;
      spare = took.spare;
    }

-- with a broker beside each of the cores
pub taken-with : {B : Type 0} (old new : Core) (before after : B) (who : Who) (op : Op) (reply : Reply) (step : Answers → Step)
    → Takes (core_view old) (core_view new) who op reply step → Takes (view_of old before) (view_of new after) who op reply step
taken-with old new before after who op reply step took = record {
  answers = took.answers;
  release = took.release;
  rules = took.rules;
  may = took.may;
  reply_is = took.reply_is;
  gives_up = took.gives_up;
  next = took.next;
  added = took.added;
  spare = took.spare;
}
