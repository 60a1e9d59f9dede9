-- What a move makes of the core and of the broker: a write after free is told; no run is found; or the block is
-- placed anew and the old one leaves.
use Rattle.std.proofs.Common.{◌≡◌, ℕ, ◌+◌, ◌-◌, ◌++◌, [], Bool, true, false, List, length, Option, Some, None, refl, sym, ap, ◌∙◌, subst}
use Rattle.std.specs.List.{slice_get}
use Rattle.std.specs.Option.{is_some}
use Rattle.std.proofs.lemmas.Bool.{false≢true, true≢false}
use Rattle.om_broker.specs.declared.broker.Broker as broker
use Rattle.om_model.specs.Pool.Free.{Freed, told}
use Rattle.om_model.specs.Pool.Journal.{GivesUp, MayAnswer}
use Rattle.om_model.specs.Pool.Malloc.{Placed, block_or_null, page_for, placed_where, placing, placing_wish, words_for}
use Rattle.om_model.specs.Pool.Realloc.{Resize, late_misuse, left_for, moved, moved_block, moved_unless, moved_where, moves_checked, moving_wish, slot_drawn, slot_words, wish_unless, with_copy}
use Rattle.om_model.specs.Pool.Rules.{Rules, word_at, words_from}
use Rattle.om_model.specs.Pool.State.{State, drawn_more}
use Rattle.om_model.specs.Pool.Steps.{Step, Wish}
use Rattle.om_model.specs.declared.block.Block.{Block}
use Rattle.om_model.specs.declared.block.Place.{Place}
use Rattle.om_model.specs.declared.entry.Move.{Move}
use Rattle.om_model.specs.declared.reply.Fault.{Fault}
use Rattle.om_model.specs.declared.reply.Reply.TheVariants as reply
use Rattle.om_model.proofs.Realloc.{may-held}
use Rattle.om_model.proofs.Steps.{words_from-parts}
use Rattle.om_pool.specs.Asking.{IsLeft, held_after}
use Rattle.om_pool.specs.HoldingsView.{rules_in}
use Rattle.om_pool.specs.Leaving.{LeavesTo}
use Rattle.om_pool.specs.Malloc.{reply_for}
use Rattle.om_pool.specs.Moving.{Copies, MovesTo, answers_to, copied_where, moving_by, resize_of}
use Rattle.om_pool.specs.Placing.{answers_in}
use Rattle.om_pool.specs.PoolView.{says_no_run}
use Rattle.om_pool.specs.Underway.{HasComeTo}
use Rattle.om_pool.specs.declared.moving.Moving.{Moving}
use Rattle.om_pool.specs.declared.placing.Placing.{Placing}
use Rattle.om_pool.specs.declared.pool_core.Core.{Core}
use Rattle.om_pool.proofs.MallocLaws.{reply-is, word-searched}
use Rattle.om_pool.proofs.PlacingLaws.{places-held}

-- a write after free is told
module _ {B A : Type 0} (g : broker.Ghosts B A) (rules : Rules) (new : Core) (b : B) (state : State) (block : Block) (place : Option Place) (size site : ℕ) (fault : Fault)
    (late : late_misuse rules state place ≡ Some fault) where
  abbrev late_asked : Resize
  late_asked = resize_of block place size site

  told-is : moves_checked rules state late_asked None ≡ told state fault
  told-is = ap (λ found. moved_unless found rules state late_asked None) late

  pub moves-told : (moving : Moving) → moving.reply ≡ reply.Fault fault → moving.words ≡ words_from rules state.drawn 1 → (moving.looks).items ≡ [] → moving.claim ≡ None → moving.release ≡ None
      → says_no_run (reply.Fault fault) ≡ false → HasComeTo g new b (drawn_more 1 state) → rules_in new.state ≡ rules → MovesTo g rules new b b state late_asked moving
  moves-told moving reply_is words_are no_looks no_claim no_release known come rules_are =
      let Made : Option Move → Step → Type 0 = λ claim step. moves_checked rules state late_asked claim ≡ step in
      let made : Made moving.claim (told state fault) = subst (λ claim. Made claim (told state fault)) (sym no_claim) told-is in
      let Come : Step → Type 0 = λ step. HasComeTo g new b step.next in
      let Left : Step → Option Move → Type 0 = λ step release. IsLeft g b b state.held (step.next).held release in
      let Gives : Step → Option Move → Type 0 = λ step release. GivesUp step.release release in
      let May : Wish → Type 0 = λ wish. MayAnswer rules state wish (answers_to moving) in
      record {
        own = true;
        word = 0;
        answer = None;
        searched = b;
        claim_is = no_claim;
        search = (refl, no_looks, refl);
        left = subst (λ step. Left step moving.release) (sym made) (subst (Left (told state fault)) (sym no_release) (refl, refl));
        word_is = λ unowned. absurd (true≢false unowned);
        says = λ own. ap says_no_run reply_is ∙ known;
        may = subst (λ found. May (wish_unless found (placing_wish rules (slot_drawn state place) size))) (sym late) (no_claim, no_looks, refl);
        reply_is = reply_is ∙ ap (λ (s : Step). s.reply) (sym made);
        gives_up = subst (λ step. Gives step moving.release) (sym made) (subst (Gives (told state fault)) (sym no_release) (record { run_is = refl; inside = tt }));
        words_are = words_are ∙ ap (λ (s : Step). words_from rules state.drawn s.words) (sym made);
        come = subst Come (sym made) come;
        rules_are = rules_are;
      }

-- whether there is something
pub none-is : {X : Type 0} (found : Option X) → is_some found ≡ false → found ≡ None
none-is None is = refl
none-is (Some x) is = absurd (true≢false is)

pub some-is : {X : Type 0} (found : Option X) → is_some found ≡ true → (x : X) × (found ≡ Some x)
some-is None is = absurd (false≢true is)
some-is (Some x) is = (x, refl)

-- none is; the block is placed
module _ {B A : Type 0} (g : broker.Ghosts B A) (old copy : Core) (before searched : B) (state : State) (block : Block) (place : Option Place) (size site : ℕ) (words : List ℕ) (placed : Placing)
    (late : late_misuse (rules_in old.state) state place ≡ None) (words_are : words ≡ words_from (rules_in old.state) state.drawn (slot_words place))
    (copies : Copies g old copy before searched (slot_drawn state place) block size site words placed) where
  abbrev rules : Rules
  rules = rules_in old.state

  abbrev asked : Resize
  asked = resize_of block place size site

  abbrev from : State
  from = slot_drawn state place

  abbrev there : Placed
  there = placing rules from size site placed.claim

  abbrev total : ℕ
  total = slot_words place + words_for rules size

  abbrev own : Bool
  own = is_some (page_for rules from size)

  moved-is : moves_checked rules state asked placed.claim ≡ moved rules state asked placed.claim
  moved-is = ap (λ found. moved_unless found rules state asked placed.claim) late

  where-is : (at : Option ℕ) → placed.address ≡ at → moves_checked rules state asked placed.claim ≡ moved_where rules state asked total there at
  where-is at at_is = let places = copies.places in moved-is ∙ ap (moved_where rules state asked total there) (sym places.address_is ∙ at_is)

  all-words : placed.words ≡ words_from rules state.drawn total
  all-words =
      let places = copies.places in
      places.words_are ∙ ap (λ ws. ws ++ words_from rules from.drawn (words_for rules size)) words_are ∙ sym (words_from-parts rules state.drawn (slot_words place) (words_for rules size))

  moves-may : MayAnswer rules state (moving_wish rules state place size) (answers_in placed)
  moves-may =
      let places = copies.places in
      let May : Option Fault → Type 0 = λ found. MayAnswer rules state (wish_unless found (placing_wish rules from size)) (answers_in placed) in
      subst May (sym late) (may-held rules from state refl (placing_wish rules from size) (answers_in placed) places.may)

  word-is : own ≡ false → slice_get placed.words (length placed.words - words_for rules size) ≡ Some (word_at rules from.drawn)
  word-is unowned = let places = copies.places in word-searched rules from.drawn words placed.words size places.words_are

  held-is : (there.next).held ≡ held_after state.held own (copies.places).answer
  held-is = let places = copies.places in places-held g old copies.mid before searched from size site words placed places

  -- where the pool has a place of its own, the block was placed
  own-placed : (o : Option ℕ) → page_for rules from size ≡ o → is_some o ≡ true → placed.address ≡ None → ⊥
  own-placed None own_is some none = absurd (false≢true some)
  own-placed (Some page) own_is some none =
      let places = copies.places in
      let where_is = ap (λ o. (placed_where rules (drawn_more (words_for rules size) from) o placed.claim (word_at rules (from.drawn + 1)) size site).address) own_is in
      let clash = sym none ∙ places.address_is ∙ where_is in
      cc

  pub moves-nowhere : placed.address ≡ None → (xmalloc : Bool) → xmalloc ≡ rules.options.xmalloc → MovesTo g rules copy before searched state asked (moving_by xmalloc placed None)
  moves-nowhere none xmalloc xmalloc_is =
      let places = copies.places in
      let made = where-is None none in
      let Come : Option ℕ → Type 0 = λ at. HasComeTo g copy searched (copied_where block size at there.next) in
      let come : HasComeTo g copy searched there.next = subst Come none copies.come in
      let Come_by : Step → Type 0 = λ step. HasComeTo g copy searched step.next in
      let Left : List ℕ → Type 0 = λ held. IsLeft g searched searched (held_after state.held own places.answer) held None in
      let Gives : Step → Type 0 = λ step. GivesUp step.release None in
      record {
        own = own;
        word = word_at rules from.drawn;
        answer = places.answer;
        searched = searched;
        claim_is = places.claim_is;
        search = places.asked;
        left = subst Left (sym (ap (λ (s : Step). (s.next).held) made ∙ held-is)) (refl, refl);
        word_is = word-is;
        says = λ owns. absurd (own-placed (page_for rules from size) refl owns none);
        may = moves-may;
        reply_is = ap (λ x. reply_for x placed.address) xmalloc_is ∙ reply-is rules placed.address ∙ ap (block_or_null rules) places.address_is ∙ ap (λ (s : Step). s.reply) (sym made);
        gives_up = subst Gives (sym made) (record { run_is = refl; inside = tt });
        words_are = all-words ∙ ap (λ (s : Step). words_from rules state.drawn s.words) (sym made);
        come = subst Come_by (sym made) come;
        rules_are = copies.rules;
      }

  -- the old block leaves then
  module _ (to : ℕ) (at : placed.address ≡ Some to) where
    abbrev both : State
    both = with_copy block size to there.next

    pub moves-there : (new : Core) (after : B) (release : Option Move) (xmalloc : Bool) → LeavesTo g copy new searched after both (left_for rules state block place both) release → MovesTo g rules new before after state asked (moving_by xmalloc placed release)
    moves-there new after release xmalloc leaves =
        let places = copies.places in
        let left : Freed = left_for rules state block place both in
        let made : moves_checked rules state asked placed.claim ≡ moved_block total to left = where-is (Some to) at in
        let Come : Step → Type 0 = λ step. HasComeTo g new after step.next in
        let Left : List ℕ → List ℕ → Type 0 = λ first last. IsLeft g searched after first last release in
        let Gives : Step → Type 0 = λ step. GivesUp step.release release in
        let replied : reply_for xmalloc placed.address ≡ reply.Block to = ap (reply_for xmalloc) at in
        record {
          own = own;
          word = word_at rules from.drawn;
          answer = places.answer;
          searched = searched;
          claim_is = places.claim_is;
          search = places.asked;
          left = subst (λ held. Left held ((moves_checked rules state asked placed.claim).next).held) held-is (subst (Left (there.next).held) (ap (λ (s : Step). (s.next).held) (sym made)) leaves.broker);
          word_is = word-is;
          says = λ owns. ap says_no_run replied;
          may = moves-may;
          reply_is = replied ∙ ap (λ (s : Step). s.reply) (sym made);
          gives_up = subst Gives (sym made) leaves.gives_up;
          words_are = all-words ∙ ap (λ (s : Step). words_from rules state.drawn s.words) (sym made);
          come = subst Come (sym made) leaves.come;
          rules_are = leaves.rules ∙ copies.rules;
        }
