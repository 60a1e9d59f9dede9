-- What a free shows of the core: what it finds, what it tells, and that it is done.
use Rattle.std.proofs.Common.{◌≡◌, ℕ, ◌+◌, ◌++◌, [], ◌∷◌, Bool, true, false, ◌||◌, List, if◌then◌else◌, Option, Some, None, ◌%◌, refl, sym, ap, ◌∙◌, subst}
use Rattle.std.specs.Option.{option_map}
use Rattle.om_broker.specs.declared.broker.Broker as broker
use Rattle.om_delay.specs.Slots.{begins_at, slot_at}
use Rattle.om_delay.specs.declared.check.Changed.{Changed}
use Rattle.om_model.specs.Pool.Canaries.{broken_canary}
use Rattle.om_model.specs.Pool.Free.{Freed, slot_of, drawn_slot, delay, delay_unless, first_misuse, freed_again, misuse, told, free_at, free, done_with, moved_to_slot}
use Rattle.om_model.specs.Pool.Journal.{step_of, wish_of}
use Rattle.om_model.specs.Pool.Junk.{extent_of_place}
use Rattle.om_model.specs.Pool.Rules.{Rules, word_at, words_from}
use Rattle.om_model.specs.Pool.Standing.{Standing, standing}
use Rattle.om_model.specs.Pool.State.{State, drawn_more}
use Rattle.om_model.specs.Pool.Steps.{Step, Nothing}
use Rattle.om_model.specs.Pool.WriteAfterFree.{written_in, written_late}
use Rattle.om_model.specs.declared.block.Block.{Block}
use Rattle.om_model.specs.declared.block.Place.{Place}
use Rattle.om_model.specs.declared.entry.Entry.TheVariants.{Call}
use Rattle.om_model.specs.declared.entry.Move.{Move}
use Rattle.om_model.specs.declared.operation.Op.{Op}
use Rattle.om_model.specs.declared.operation.Op.TheVariants.{Free}
use Rattle.om_model.specs.declared.operation.Who.{Who}
use Rattle.om_model.specs.declared.reply.Fault.TheVariants as fault
use Rattle.om_model.specs.declared.reply.Reply.{Reply}
use Rattle.om_model.specs.declared.reply.Reply.TheVariants as reply
use Rattle.om_pool.specs.Asking.{IsLeft}
use Rattle.om_pool.specs.ByTables.{standing_by}
use Rattle.om_pool.specs.CoreKept.{core_state, view_of, IsBackedCore, IsCore, core_view}
use Rattle.om_pool.specs.Free.{Frees, FreeIs, IsBlockAt}
use Rattle.om_pool.specs.HoldingsView.{rules_in, tables_in, with_drawn}
use Rattle.om_pool.specs.Leaving.{IsPagesOf, LeavesTo}
use Rattle.om_pool.specs.PoolView.{says_no_run, UsesBroker, Takes}
use Rattle.om_pool.specs.Standing.{Means}
use Rattle.om_pool.specs.Tables.{Tables, StandFor}
use Rattle.om_pool.specs.Unasked.{no_answers, unasked_entry, IsQuiet}
use Rattle.om_pool.specs.declared.holdings.Holdings.{Holdings}
use Rattle.om_pool.specs.declared.pool_core.Core.{Core}
use Rattle.om_pool.specs.declared.standing.Standing as code
use Rattle.om_pool.proofs.CallLaws.{backed-let_go}
use Rattle.om_pool.proofs.CoreLaws.{core-sound, kept, left_after, taken}
use Rattle.om_pool.proofs.SlotLaws.{begins-waiting, extent-at}
use Rattle.om_pool.proofs.Spending.{uses-left}
use Rattle.om_pool.proofs.TableAnswers.{means-by}
use Rattle.om_pool.proofs.TableBlocks.{page-block}
use Rattle.om_pool.proofs.TablePages.{words-drawn}
use Rattle.om_pool.proofs.UnaskedLaws.{unasked-does}

-- ---- what a free finds

module _ (core : Core) (address : ℕ) where
  pub means-at : IsCore core → (answer : code.Standing) → answer ≡ standing_by core.state.zones (tables_in core.state) address → Means answer (standing (rules_in core.state) (core_state core) address)
  means-at is answer answered =
      let M : code.Standing → Type 0 = λ a. Means a (standing (rules_in core.state) (core_state core) address) in
      subst M (sym answered) (means-by (rules_in core.state) (tables_in core.state) (core_state core) (core-sound core is) is.tables address)

  pub frees-at : (there : Standing) → standing (rules_in core.state) (core_state core) address ≡ there → FreeIs core address (free_at (rules_in core.state) (core_state core) address there)
  frees-at there stands = ap (free_at (rules_in core.state) (core_state core) address) stands

-- where a page block begins it stands at its own address
pub block-stands : (core : Core) → IsCore core → (address : ℕ) (block : Block) → IsBlockAt core address block → IsPagesOf (rules_in core.state) (core_state core) block
block-stands core is address block at =
    let has = page-block (rules_in core.state) (core_state core) (core-sound core is) address block at in
    ap (standing (rules_in core.state) (core_state core)) has.at ∙ at

-- ---- the steps

pub again-says : (seen : Bool) → says_no_run (if seen then reply.Fault fault.DoubleFree else reply.Done) ≡ false
again-says true = refl
again-says false = refl

pub delay-is : (rules : Rules) (state : State) (place : Place) (slot : ℕ) → slot ≡ drawn_slot rules state → delay rules state place ≡ done_with 1 (moved_to_slot rules (drawn_more 1 state) slot place)
unfolding delay
delay-is rules state place slot at = ap (λ s. done_with 1 (moved_to_slot rules (drawn_more 1 state) s place)) (sym at)

-- a write after free is told, and where there is none the place is put off
module _ (rules : Rules) (state : State) (place : Place) (block : Block) (whole : broken_canary rules state block ≡ None) where
  by-late : (late : Option Changed) → written_late rules state (drawn_slot rules state) ≡ late → delay_unless (misuse rules state block) rules state place ≡ delay_unless (first_misuse None late) rules state place
  by-late late late_is =
      ap (λ found. delay_unless found rules state place) (ap (λ broken. first_misuse broken (written_late rules state (drawn_slot rules state))) whole ∙ ap (first_misuse None) late_is)

  pub late-told : (late : Changed) → written_late rules state (drawn_slot rules state) ≡ Some late → delay_unless (misuse rules state block) rules state place ≡ told state (fault.WriteAfterFree late.addr late.offset)
  late-told late = by-late (Some late)

  pub none-late : written_late rules state (drawn_slot rules state) ≡ None → delay_unless (misuse rules state block) rules state place ≡ delay rules state place
  none-late = by-late None

-- the slot that is drawn, and what is written late by the tables, which stand for the state
module _ (old : Holdings) (state : State) (stands : StandFor (rules_in old) (tables_in old) state) (drawn : old.words.place ≡ state.drawn) (own : Holdings) (draws : own ≡ with_drawn 1 old)
    (word slot : ℕ) (word_is : word ≡ word_at (rules_in old) old.words.place) (slot_is : slot ≡ word % 16) where
  pub slot-drawn : slot ≡ drawn_slot (rules_in old) state
  slot-drawn = slot_is ∙ ap (λ w. w % 16) (word_is ∙ ap (word_at (rules_in old)) drawn)

  waits-at : slot_at own.slots slot ≡ option_map extent_of_place (slot_of state slot)
  waits-at = ap (λ (x : Holdings). slot_at x.slots slot) draws ∙ ap (λ slots. slot_at slots slot) stands.slots ∙ extent-at state.slots slot

  pub again-seen : (address : ℕ) (seen : Bool) → seen ≡ (own.opts.freecheck || begins_at address (slot_at own.slots slot))
      → freed_again (rules_in old) state address ≡ record { reply = if seen then reply.Fault fault.DoubleFree else reply.Done; words = 1; release = None; next = drawn_more 1 state }
  unfolding freed_again
  again-seen address seen is_seen =
      let waits = slot_of state (drawn_slot (rules_in old) state) in
      let same = is_seen ∙ ap (λ (x : Holdings). x.opts.freecheck || begins_at address (slot_at own.slots slot)) draws
      ∙ ap (λ bytes. old.opts.freecheck || begins_at address bytes) (waits-at ∙ ap (λ k. option_map extent_of_place (slot_of state k)) slot-drawn) ∙ ap (λ b. old.opts.freecheck || b) (begins-waiting waits address) in
      ap (λ b. let step : Step = record { reply = if b then reply.Fault fault.DoubleFree else reply.Done; words = 1; release = None; next = drawn_more 1 state } in step) (sym same)

  pub late-shown : written_in (rules_in own) own.shelf own.slots slot ≡ written_late (rules_in old) state (drawn_slot (rules_in old) state)
  late-shown =
      let rules = rules_in old in
      ap (λ (x : Holdings). written_in (rules_in x) x.shelf x.slots slot) draws ∙ ap (λ memory. written_in rules memory old.slots slot) stands.memory
      ∙ ap (λ slots. written_in rules state.memory slots slot) stands.slots ∙ ap (written_late rules state) slot-drawn

-- ---- an answer for which the word of the slot is drawn, and nothing else

pub record IsTold (old new : Core) (who : Who) (op : Op) (answer : Reply) (whole : Step) : Type 0 where
  pub kept : IsCore new
  pub quiet : IsQuiet old new who op answer
  pub taken : Takes (core_view old) (core_view new) who op answer (λ answers. whole)

pub told-by : (old new : Core) (who : Who) (op : Op) (answer : Reply) (whole : Step) (own : Holdings) (word : ℕ) (words : List ℕ) → IsCore old
    → wish_of (rules_in old.state) (core_state old) op ≡ Nothing → step_of (rules_in old.state) (core_state old) op no_answers ≡ Some whole
    → whole ≡ record { reply = answer; words = 1; release = None; next = drawn_more 1 (core_state old) }
    → word ≡ word_at (rules_in old.state) old.state.words.place → own ≡ with_drawn 1 old.state → words ≡ word ∷ []
    → new.journal.items ≡ old.journal.items ++ Call (unasked_entry who op answer words None) ∷ [] → new ≡ record (record old { state = own }) { journal = new.journal }
    → IsTold old new who op answer whole
told-by old new who op answer whole own word words is wish whole_is step_is word_is draws words_are added same =
    let rules = rules_in old.state in
    let state = core_state old in
    let step : Step = record { reply = answer; words = 1; release = None; next = drawn_more 1 state } in
    let owns = ap (λ (x : Core). x.state) same ∙ draws in
    let Stands : Tables → Type 0 = λ t. StandFor rules t (drawn_more 1 state) in
    let does = unasked-does old new who op answer whole step words None is
    (record {
      wish = wish;
      whole_is = whole_is;
      step_is = step_is;
      gives_up = record { run_is = refl; inside = tt };
      words_are = words_are ∙ ap (λ w. w ∷ []) (word_is ∙ ap (word_at rules) is.drawn);
      tables = subst Stands (sym (ap tables_in owns)) (words-drawn rules (tables_in old.state) state is.tables 1);
      drawn = ap (λ (x : Holdings). x.words.place) owns ∙ ap (λ n. n + 1) is.drawn;
      rules = ap rules_in owns;
      canary = ap (λ (x : Core). x.canary) same;
      room = ap (λ (x : Core). x.room) same;
    })
    refl added in
    record {
      kept = kept old new _ _ _ _ _ _ _ is does;
      taken = taken old new _ _ _ _ _ _ _ is does;
      quiet = record {
        rules = does.rules;
        held = ap (λ (s : State). s.held) (left_after old new _ _ _ _ _ _ _ is does) ∙ ap (λ (s : Step). (s.next).held) step_is;
        words = words;
        added = added;
      };
    }

-- ---- a free that is done

-- what becomes of the core and of its broker
pub record IsDone {B A : Type 0} (g : broker.Ghosts B A) (old new : Core) (before after : B) (who : Who) (address : ℕ) : Type 0 where
  pub kept : IsCore new
  pub backed : IsBackedCore g new after
  pub uses : UsesBroker g (view_of old before) (view_of new after) reply.Done
  pub taken : Frees old new who address reply.Done

-- by what it leaves from the state of the journal
pub free-done : {B A : Type 0} (g : broker.Ghosts B A) (old mid new : Core) (before after : B) (who : Who) (address count : ℕ) (words : List ℕ) (left : Freed) (release : Option Move)
    → IsCore old → IsBackedCore g old before → FreeIs old address (done_with count left) → words ≡ words_from (rules_in old.state) (core_state old).drawn count
    → LeavesTo g old mid before after (core_state old) left release → mid ≡ record old { state = mid.state } → new ≡ record mid { journal = new.journal }
    → new.journal.items ≡ mid.journal.items ++ Call (unasked_entry who (Free address) reply.Done words release) ∷ [] → IsDone g old new before after who address
free-done g old mid new before after who address count words left release is backed step_is words_are leaves same entered enters =
    let rules = rules_in old.state in
    let whole = free rules (core_state old) address in
    let step = done_with count left in
    let states = ap (λ (x : Core). x.state) entered in
    let added : new.journal.items ≡ old.journal.items ++ Call (unasked_entry who (Free address) reply.Done words release) ∷ [] =
    enters ∙ ap (λ (x : Core). x.journal.items ++ Call (unasked_entry who (Free address) reply.Done words release) ∷ []) same in
    let Stands : Rules → Tables → Type 0 = λ r t. StandFor r t left.next in
    let does = unasked-does old new who (Free address) reply.Done whole step words release is
    (record {
      wish = refl;
      whole_is = refl;
      step_is = step_is;
      gives_up = leaves.gives_up;
      words_are = words_are;
      tables = subst (λ t. Stands rules t) (sym (ap tables_in states)) (subst (λ r. Stands r (tables_in mid.state)) leaves.rules leaves.come.tables);
      drawn = ap (λ (x : Holdings). x.words.place) states ∙ leaves.come.drawn;
      rules = ap rules_in states ∙ leaves.rules;
      canary = ap (λ (x : Core). x.canary) entered ∙ ap (λ (x : Core). x.canary) same;
      room = ap (λ (x : Core). x.room) entered ∙ ap (λ (x : Core). x.room) same;
    })
    refl added in
    let held : (core_state new).held ≡ (left.next).held = ap (λ (s : State). s.held) (left_after old new who (Free address) reply.Done words no_answers (λ given. whole) release is does) ∙ ap (λ (s : Step). (s.next).held) step_is in
    let Left : List ℕ → Type 0 = λ pages. IsLeft g before after (core_state old).held pages release in
    let left_is = subst Left (sym held) leaves.broker in
    record {
      kept = kept old new who (Free address) reply.Done words no_answers (λ given. whole) release is does;
      backed = backed-let_go g old new before after who (Free address) reply.Done words release does.rules left_is added backed;
      uses = uses-left g old new before after who (Free address) reply.Done words release added (core-sound old is).ascends left_is refl;
      taken = taken old new who (Free address) reply.Done words no_answers (λ given. whole) release is does;
    }
