-- What an allocation shows of the core and of the broker: a call that placed a block, may have written into it, and
-- entered its answer.
use Rattle.std.proofs.Common.{◌≡◌, ℕ, ◌+◌, ◌-◌, ◌≤◌, Bool, true, false, List, [], ◌∷◌, ◌++◌, length, Option, Some, None, is_some, refl, sym, ap, ◌∙◌, subst, arith, length-append}
use Rattle.std.specs.List.{slice_get}
use Rattle.std.proofs.lemmas.Bool.{false≢true}
use Rattle.std.specs.Option.{option_and_then, option_map_or}
use Rattle.om_broker.specs.declared.broker.Broker as broker
use Rattle.om_geom.specs.Numbers.{zone_pages}
use Rattle.om_model.specs.Data.CallEntry.{CallEntry}
use Rattle.om_model.specs.Pool.Journal.{MayAnswer, step_of, wish_of}
use Rattle.om_model.specs.Pool.Malloc.{block_or_null, block_placed, is_too_large, page_for, pages_by_class, pages_for, placing, placing_wish, placed_where, words_by_class, words_for, Placed}
use Rattle.om_model.specs.Pool.Rules.{Rules, size_class, word_at, words_from}
use Rattle.om_model.specs.Pool.State.{State, drawn_more}
use Rattle.om_model.specs.Pool.Steps.{null_or_fault_by, Answers, Step, Wish}
use Rattle.om_model.specs.Zones.Moves.{pages_sought, search_word, size_asked}
use Rattle.om_model.specs.declared.entry.Entry.TheVariants.{Call}
use Rattle.om_model.specs.declared.operation.Op.{Op}
use Rattle.om_model.specs.declared.operation.Who.{Who}
use Rattle.om_model.specs.declared.reply.Reply.{Reply}
use Rattle.om_model.specs.declared.reply.Why.TheVariants.{TooLarge}
use Rattle.om_pool.specs.Asking.{held_after, Trace}
use Rattle.om_pool.specs.CoreKept.{core_state, IsAnswered, IsBackedCore, IsCore, IsLookRoom}
use Rattle.om_pool.specs.HoldingsView.{rules_in}
use Rattle.om_pool.specs.Malloc.{reply_for}
use Rattle.om_pool.specs.Placing.{answers_in, placing_entry, Places}
use Rattle.om_pool.specs.PoolView.{says_no_run}
use Rattle.om_pool.specs.Underway.{HasComeTo}
use Rattle.om_pool.specs.declared.placing.Placing.{Placing}
use Rattle.om_pool.specs.declared.pool_core.Core.{Core}
use Rattle.om_pool.proofs.BlockPlacing.{block-few}
use Rattle.om_pool.proofs.CoreLaws.{core-sound, kept, left_after, taken, Does}
use Rattle.om_pool.proofs.PlacingLaws.{places-held}
use Rattle.om_pool.proofs.Spending.{trace-spent, uses-traced}
use Rattle.om_pool.proofs.TraceLaws.{IsTraced, core-backed, searched-traced, searched_trace}
use Rattle.om_pool.proofs.UnderwayLaws.{enters-does}

pub reply-is : (rules : Rules) (given : Option ℕ) → reply_for rules.options.xmalloc given ≡ block_or_null rules given
reply-is rules None = refl
reply-is rules (Some at) = refl

pub pages-few : (rules : Rules) (size : ℕ) → is_too_large rules size ≡ false → pages_for rules size ≤ zone_pages
pages-few rules size fits = by (size_class rules size) refl
  where
    by : (class : Option ℕ) → size_class rules size ≡ class → pages_by_class rules size class ≤ zone_pages
    by (Some class) is = omega arith
    by None is = block-few rules size is fits

-- ---- what is refused at once

pub refused-says : (xmalloc : Bool) → says_no_run (null_or_fault_by xmalloc TooLarge) ≡ false
refused-says true = refl
refused-says false = refl

-- ---- the word of a search is the first of those that the placing draws, which come last

behind : {X : Type 0} (front back : List X) → slice_get (front ++ back) (length front) ≡ slice_get back 0
behind [] back = refl
behind (x ∷ front) back = behind front back

first-drawn : (rules : Rules) (i : ℕ) (front : List ℕ) (class : Option ℕ) → slice_get (front ++ words_from rules i (words_by_class class)) (length (front ++ words_from rules i (words_by_class class)) - words_by_class class) ≡ Some (word_at rules i)
first-drawn rules i front (Some class) =
    let back = words_from rules i 2 in
    let two : length back ≡ 2 = refl in
    let long : length (front ++ back) - 2 ≡ length front = omega (arith, length-append front back) in
    ap (slice_get (front ++ back)) long ∙ behind front back
first-drawn rules i front None =
    let back = words_from rules i 1 in
    let one : length back ≡ 1 = refl in
    let long : length (front ++ back) - 1 ≡ length front = omega (arith, length-append front back) in
    ap (slice_get (front ++ back)) long ∙ behind front back

pub word-searched : (rules : Rules) (i : ℕ) (front words : List ℕ) (size : ℕ) → words ≡ front ++ words_from rules i (words_for rules size) → slice_get words (length words - words_for rules size) ≡ Some (word_at rules i)
word-searched rules i front words size are =
    ap (λ ws. slice_get ws (length ws - words_for rules size)) are ∙ first-drawn rules i front (size_class rules size)

-- ---- an allocation

-- The call placed a block of so many bytes, and entered its answer. In between the held pages stayed the same: other
-- bytes may have been written.
pub record Allocates {B A : Type 0} (g : broker.Ghosts B A) (old mid new : Core) (after : B) (who : Who) (op : Op) (size site : ℕ) (placed : Placing) (reply : Reply) (step : Answers → Step) : Type 0 where
  pub fits : is_too_large (rules_in old.state) size ≡ false
  pub asks : size_asked op ≡ Some size
  pub wish : wish_of (rules_in old.state) (core_state old) op ≡ placing_wish (rules_in old.state) (core_state old) size
  pub step_is : step_of (rules_in old.state) (core_state old) op (answers_in placed) ≡ Some (step (answers_in placed))
  pub next : State
  pub whole : step (answers_in placed) ≡ block_placed (rules_in old.state) (words_for (rules_in old.state) size) (record { address = placed.address; next = next })
  pub held : next.held ≡ ((placing (rules_in old.state) (core_state old) size site placed.claim).next).held
  pub come : HasComeTo g mid after next
  pub rules : rules_in mid.state ≡ rules_in old.state
  pub room : IsLookRoom mid.room
  pub reply_is : reply ≡ reply_for old.state.opts.xmalloc placed.address
  pub same : new ≡ record mid { journal = new.journal }
  pub added : new.journal.items ≡ old.journal.items ++ Call (placing_entry who op reply placed) ∷ []

module _ {B A : Type 0} (g : broker.Ghosts B A) (old placing_core mid new : Core) (before after : B) (who : Who) (op : Op) (size site : ℕ) (placed : Placing) (reply : Reply) (step : Answers → Step)
    (core : IsCore old) (backed : IsBackedCore g old before) (places : Places g old placing_core before after (core_state old) size site [] placed) (is : Allocates g old mid new after who op size site placed reply step) where
  abbrev rules : Rules
  rules = rules_in old.state

  abbrev state : State
  state = core_state old

  abbrev own : Option ℕ
  own = page_for rules state size

  abbrev n : ℕ
  n = pages_for rules size

  abbrev word : ℕ
  word = word_at rules state.drawn

  abbrev entry : CallEntry
  entry = placing_entry who op reply placed

  searched : search_word rules entry ≡ Some word
  searched =
      ap (λ asked. option_and_then (λ bytes. slice_get placed.words (length placed.words - words_for rules bytes)) asked) is.asks
      ∙ word-searched rules state.drawn [] placed.words size places.words_are

  sought : pages_sought rules op ≡ n
  sought = ap (λ asked. option_map_or (pages_for rules) asked 0) is.asks

  does : Does old new who op reply placed.words (answers_in placed) step None
  does =
      let May : Wish → Type 0 = λ wish. MayAnswer rules state wish (answers_in placed) in
      let Come : State → Type 0 = λ s. HasComeTo g mid after s in
      enters-does g old mid new after who op reply placed.words (answers_in placed) step None core (record {
        may = subst May (sym is.wish) places.may;
        step_is = is.step_is;
        gives_up = record { run_is = ap (λ (s : Step). s.release) (sym is.whole); inside = tt };
        reply_is = is.reply_is ∙ reply-is rules placed.address ∙ ap (λ (s : Step). s.reply) (sym is.whole);
        words_are = places.words_are ∙ ap (λ (s : Step). words_from rules state.drawn s.words) (sym is.whole);
        come = subst Come (ap (λ (s : Step). s.next) (sym is.whole)) is.come;
        rules = is.rules;
        room = is.room;
        same = is.same;
        added = is.added;
      })

  held-is : (core_state new).held ≡ held_after state.held (is_some own) places.answer
  held-is =
      ap (λ (s : State). s.held) (left_after old new who op reply placed.words (answers_in placed) step None core does)
      ∙ ap (λ (s : Step). (s.next).held) is.whole
      ∙ is.held
      ∙ places-held g old placing_core before after state size site [] placed places

  -- where the pool has a place of its own, no run is wanting
  own-says : (o : Option ℕ) → own ≡ o → is_some o ≡ true → says_no_run reply ≡ false
  own-says None own_is some = absurd (false≢true some)
  own-says (Some page) own_is some =
      let where_is = ap (λ o. placed_where rules (drawn_more (words_for rules size) state) o placed.claim (word_at rules (state.drawn + 1)) size site) own_is in
      ap says_no_run (is.reply_is ∙ ap (reply_for old.state.opts.xmalloc) (places.address_is ∙ ap (λ (p : Placed). p.address) where_is))

  abbrev trace : Trace
  trace = searched_trace (is_some own) n word entry.looks places.answer

  traced : IsTraced g old new before after entry trace
  traced = searched-traced g old new before after entry is.added refl refl (is_some own) n word places.answer places.claim_is searched sought places.asked held-is

  pub allocation-shows : IsAnswered g old new before after who op reply step
  allocation-shows = record {
    kept = kept old new _ _ _ _ _ _ _ core does;
    backed = core-backed g old new before after entry trace traced does.rules backed;
    uses = uses-traced g old new before after reply entry trace traced
        (trace-spent g before after state.held (core_state new).held trace traced.is (core-sound old core).ascends (λ unowned. pages-few rules size is.fits)) (own-says own refl);
    taken = taken old new _ _ _ _ _ _ _ core does;
  }
