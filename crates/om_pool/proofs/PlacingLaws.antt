-- The placing of a block in the midst of a call. What the broker answers is what the zones may answer, and the core and
-- the broker come to the state with the block.
use Rattle.std.proofs.Common.{◌≡◌, ℕ, ◌+◌, ◌*◌, ◌/◌, ◌<◌, ◌≤◌, Bool, true, false, ◌==◌, List, ◌++◌, length, if◌then◌else◌, Option, Some, None, is_some, refl, sym, ap, ◌∙◌, subst, arith}
use Rattle.std.proofs.lemmas.Bool.{cases_Bool}
use Rattle.std.proofs.lemmas.Nat.{mod_below}
use mathlib.Core.Logic.{⊎_elim}
use Rattle.om_broker.specs.declared.broker.Broker as broker
use Rattle.om_broker.specs.declared.broker.Claim.{Claim}
use Rattle.om_broker.specs.declared.broker.Claim.TheVariants.{Claimed, NoRun}
use Rattle.om_frame.specs.Frames.{PageBytes}
use Rattle.om_geom.specs.Addresses.{bit_of}
use Rattle.om_geom.specs.Fit.{searched_zone}
use Rattle.om_geom.specs.Numbers.{zone_pages}
use Rattle.om_model.specs.Pool.Canaries.{canaries, with_canaries}
use Rattle.om_model.specs.Pool.Journal.{MayAnswer, NamesSearched}
use Rattle.om_model.specs.Pool.Junk.{data_extent, fresh_byte, with_fresh_junk}
use Rattle.om_model.specs.Pool.Malloc.{address_on, block_placed, is_too_large, malloc, malloc_wish, page_for, pages_for, placed_on, placed_where, placing, placing_wish, with_block, search_unless, words_for, Placed}
use Rattle.om_model.specs.Pool.Rules.{Rules, canary_byte, size_class, word_at, words_from}
use Rattle.om_model.specs.Pool.Runs.{Run, run_of}
use Rattle.om_model.specs.Pool.State.{State, drawn_more, filled_with, is_held, with_pages, with_run}
use Rattle.om_model.specs.Pool.Steps.{unchanged, null_or_fault, Answers, Nothing, Step, Wish}
use Rattle.om_model.specs.declared.block.Block.{Block}
use Rattle.om_model.specs.declared.entry.Move.{Move}
use Rattle.om_model.specs.declared.looks.Look.{Look}
use Rattle.om_model.specs.declared.reply.Why.TheVariants.{TooLarge}
use Rattle.om_model.proofs.Malloc.{malloc-sound}
use Rattle.om_model.proofs.Sound.{IsSound}
use Rattle.om_model.proofs.Steps.{where-drawn}
use Rattle.om_pool.specs.Asking.{claim_in, held_after, IsAsked, IsSearched}
use Rattle.om_pool.specs.HoldingsView.{rules_in, tables_in}
use Rattle.om_pool.specs.Malloc.{IsFor}
use Rattle.om_pool.specs.Placing.{Places}
use Rattle.om_pool.specs.Tables.{Tables, StandFor}
use Rattle.om_pool.specs.Underway.{HasComeTo, HasHeld}
use Rattle.om_pool.specs.declared.placing.Placing.{Placing}
use Rattle.om_pool.specs.declared.pool_core.Core.{Core}
use Rattle.om_pool.proofs.HeldLaws.{arena-asked, held-asked}
use Rattle.om_pool.proofs.TablePages.{all-absent}
use Rattle.om_pool.proofs.UnderwayLaws.{come-again, come-sound}

-- ---- what the broker answers is what the zones may answer

-- a claim is of so many pages of the arena that aren't held
pub record IsNewRun (rules : Rules) (state : State) (n : ℕ) (run : Run) : Type 0 where
  pub count_is : run.count ≡ n
  pub there : run.first + n ≤ zone_pages * rules.zones
  pub one_zone : bit_of run.first + n ≤ zone_pages
  pub fresh : (page : ℕ) → run.first ≤ page → page < run.first + n → is_held state.held page ≡ false

abbrev pub IsNewClaim : Rules → State → ℕ → Option Claim → Type 0
IsNewClaim rules state n (Some (Claimed move frames)) = IsNewRun rules state n (run_of move)
IsNewClaim rules state n other = Unit {0}

module _ {B A : Type 0} (g : broker.Ghosts B A) (rules : Rules) (state : State) (old new : B) (zones : g.zones (g.arena old) ≡ rules.zones) (has : HasHeld g state.held old) (n word : ℕ) (looks : List Look) where
  -- the pages of a claim weren't held
  pub fresh : (move : Move) (frames : List PageBytes) → IsSearched g old new n word looks (Claimed move frames) → (page : ℕ) → (run_of move).first ≤ page → page < (run_of move).first + (run_of move).count → is_held state.held page ≡ false
  fresh move frames search page low high = ⊎_elim
      (λ was. absurd (((search.made has.moves has.sight has.made).3).lacks page low high (has.has page was)))
      (λ was. was)
      (cases_Bool (is_held state.held page))

  names : (answer : Claim) → IsSearched g old new n word looks answer → NamesSearched rules.zones word looks
  names answer search = subst (λ z. NamesSearched z word looks) zones search.names

  may-asked : (own : Option ℕ) (answer : Option Claim) → IsAsked g (is_some own) old new n word looks answer → MayAnswer rules state (search_unless own n word) (record { claim = claim_in answer; looks = looks; taken = None })
  may-asked (Some page) answer asked = (ap claim_in asked.2, asked.1, refl)
  may-asked None None asked = absurd asked
  may-asked None (Some NoRun) asked = (names NoRun asked, asked.found ∙ zones, refl)
  may-asked None (Some (Claimed move frames)) asked =
      let found = asked.found in (
        names (Claimed move frames) asked,
        record {
          few = let few = found.few in omega (arith, zones);
          zone = found.zone ∙ ap (λ z. searched_zone z word (length looks)) zones;
          count_is = found.count;
          fresh = record { inside = omega (arith, found.inside, found.count); new = fresh move frames asked };
        },
        refl,
      )

  new-run : (move : Move) (frames : List PageBytes) → IsSearched g old new n word looks (Claimed move frames) → IsNewRun rules state n (run_of move)
  new-run move frames asked =
      let found = asked.found in
      let few = found.few in
      let count = found.count in
      let inside = found.inside in
      let below : move.zone < g.zones (g.arena old) = rw found.zone (omega (arith, mod_below (word / 32 + length looks) (g.zones (g.arena old)) (omega arith))) in
      record {
        count_is = count;
        there = omega (arith, zones);
        one_zone = omega arith;
        fresh = λ page low high. fresh move frames asked page low (omega arith);
      }

  new-claim : (has_own : Bool) (answer : Option Claim) → IsAsked g has_own old new n word looks answer → IsNewClaim rules state n answer
  new-claim true answer asked = let P : Option Claim → Type 0 = λ a. IsNewClaim rules state n a in subst P (sym asked.2) tt
  new-claim false None asked = tt
  new-claim false (Some NoRun) asked = tt
  new-claim false (Some (Claimed move frames)) asked = new-run move frames asked

  pub is-for : (tables : Tables) → StandFor rules tables state → (has_own : Bool) (answer : Option Claim) → IsAsked g has_own old new n word looks answer → IsFor rules.zones tables n answer
  is-for tables stands true answer asked = let For : Option Claim → Type 0 = λ a. IsFor rules.zones tables n a in subst For (sym asked.2) tt
  is-for tables stands false None asked = tt
  is-for tables stands false (Some NoRun) asked = tt
  is-for tables stands false (Some (Claimed move frames)) asked =
      let found = asked.found in
      let run = new-run move frames asked in
      record {
        there = run.there;
        fresh = all-absent rules tables state stands (run_of move).first n run.there run.fresh;
        count_is = run.count_is;
        one_zone = run.one_zone;
        frames_are = found.frames_are;
      }

-- ---- the state with the block

on-held : (rules : Rules) (state : State) (page word size site : ℕ) → ((placed_on rules state page word size site).next).held ≡ state.held
unfolding with_canaries with_fresh_junk
on-held rules state page word size site =
    let block : Block = record { address = address_on rules state page word (size_class rules size); size = size; site = site } in
    let whole = with_block block state in
    let filled = filled_with fresh_byte (data_extent rules block) whole in
    elim (rules.options.junk == 2) as (λ b. (filled_with (canary_byte rules) (canaries rules block) (if b then filled else whole)).held ≡ state.held) [ true ↦ refl | false ↦ refl ]

-- the held pages by the claim
abbrev held_by : Option ℕ → Option Move → List ℕ → List ℕ
held_by (Some page) claim held = held
held_by None None held = held
held_by None (Some move) held = with_run (run_of move) held

placed-held : (rules : Rules) (state : State) (own : Option ℕ) (claim : Option Move) (word size site : ℕ) → ((placed_where rules state own claim word size site).next).held ≡ held_by own claim state.held
placed-held rules state (Some page) claim word size site = on-held rules state page word size site
placed-held rules state None None word size site = refl
placed-held rules state None (Some move) word size site = on-held rules (with_pages (run_of move) state) (run_of move).first word size site

by-answer : (held : List ℕ) (own : Option ℕ) (answer : Option Claim) → held_by own (claim_in answer) held ≡ held_after held (is_some own) answer
by-answer held (Some page) answer = refl
by-answer held None None = refl
by-answer held None (Some (Claimed move frames)) = refl
by-answer held None (Some NoRun) = refl

-- where the block goes, given what the pool has and the claim, once so many words are drawn
abbrev pub placed_by : Rules → State → ℕ → Option ℕ → Option Move → ℕ → ℕ → Placed
placed_by rules state words own claim size site = placed_where rules (drawn_more words state) own claim (word_at rules (state.drawn + 1)) size site

-- what isn't too large is placed
module _ (rules : Rules) (state : State) (size : ℕ) where
  pub wish-placing : is_too_large rules size ≡ false → malloc_wish rules state size ≡ placing_wish rules state size
  wish-placing fits = ap (λ large. if large then Nothing else placing_wish rules state size) fits

  pub malloc-placing : (site : ℕ) (claim : Option Move) → is_too_large rules size ≡ false → malloc rules state size site claim ≡ block_placed rules (words_for rules size) (placing rules state size site claim)
  malloc-placing site claim fits =
      ap (λ large. if large then unchanged state (null_or_fault rules TooLarge) else block_placed rules (words_for rules size) (placing rules state size site claim)) fits

module _ (rules : Rules) (state : State) (words : ℕ) (own : Option ℕ) (claim : Option Move) (size site : ℕ) (words_are : words_for rules size ≡ words) (own_is : page_for rules state size ≡ own) where
  placing-by : placing rules state size site claim ≡ placed_by rules state words own claim size site
  placing-by =
      ap (λ w. placed_by rules state w (page_for rules state size) claim size site) words_are
      ∙ ap (λ o. placed_by rules state words o claim size site) own_is

  pub malloc-by : is_too_large rules size ≡ false → malloc rules state size site claim ≡ block_placed rules words (placed_by rules state words own claim size site)
  malloc-by fits =
      malloc-placing rules state size site claim fits
      ∙ ap (λ w. block_placed rules w (placing rules state size site claim)) words_are
      ∙ ap (block_placed rules words) placing-by

-- the words that were drawn, what the pool has, and what the broker was asked and answered
pub record IsSought {B A : Type 0} (g : broker.Ghosts B A) (rules : Rules) (before after : B) (state : State) (words n : ℕ) (own : Option ℕ) (first size : ℕ) (looks : List Look) (answer : Option Claim) : Type 0 where
  pub fits : is_too_large rules size ≡ false
  pub words_are : words_for rules size ≡ words
  pub count_is : pages_for rules size ≡ n
  pub own_is : page_for rules state size ≡ own
  pub first_is : first ≡ word_at rules state.drawn
  pub asked : IsAsked g (is_some own) before after n first looks answer

module _ {B A : Type 0} (g : broker.Ghosts B A) (old : Core) (before after : B) (state : State) (come : HasComeTo g old before state) (words n : ℕ) (own : Option ℕ) (first size : ℕ) (looks : List Look) (answer : Option Claim)
    (is : IsSought g (rules_in old.state) before after state words n own first size looks answer) where
  abbrev rules : Rules
  rules = rules_in old.state

  abbrev answers : Answers
  answers = record { claim = claim_in answer; looks = looks; taken = None }

  abbrev May : Wish → Type 0
  May wish = MayAnswer rules state wish answers

  wish-is : placing_wish rules state size ≡ search_unless own n first
  wish-is =
      let word = word_at rules state.drawn in
      ap (λ o. search_unless o (pages_for rules size) word) is.own_is
      ∙ ap (λ k. search_unless own k word) is.count_is
      ∙ ap (search_unless own n) (sym is.first_is)

  sought-may : May (placing_wish rules state size)
  sought-may = subst May (sym wish-is) (may-asked g rules state before after come.zones come.held n first looks own answer is.asked)

  pub sought-claim : IsNewClaim rules state n answer
  sought-claim = new-claim g rules state before after come.zones come.held n first looks (is_some own) answer is.asked

  pub sought-sound : (site : ℕ) → IsSound rules ((malloc rules state size site (claim_in answer)).next)
  sought-sound site = malloc-sound rules size state site answers (subst May (sym (wish-placing rules state size is.fits)) sought-may) (come-sound g old before state come)

  module _ (new : Core) (site : ℕ) (given : List ℕ) (placed : Placing) where
    abbrev there : Placed
    there = placed_by rules state words own (claim_in answer) size site

    -- what the calls of the body say then
    pub record IsPlacing : Type 0 where
      pub address_is : there.address ≡ placed.address
      pub claim_is : placed.claim ≡ claim_in answer
      pub looks_are : (placed.looks).items ≡ looks
      pub words_are : placed.words ≡ given ++ words_from rules state.drawn words
      pub stands : StandFor rules (tables_in new.state) there.next
      pub drawn : new.state.words.place ≡ state.drawn + words
      pub rules_are : rules_in new.state ≡ rules
      pub canary : new.canary ≡ old.canary

    module _ (body : IsPlacing) where
      placing-is : placing rules state size site placed.claim ≡ there
      placing-is = ap (placing rules state size site) body.claim_is ∙ placing-by rules state words own (claim_in answer) size site is.words_are is.own_is

      there-held : (there.next).held ≡ held_after state.held (is_some own) answer
      there-held = placed-held rules (drawn_more words state) own (claim_in answer) (word_at rules (state.drawn + 1)) size site ∙ by-answer state.held own answer

      come-there : HasComeTo g new after there.next
      come-there =
          let Held : List ℕ → Type 0 = λ held. HasHeld g held after in
          let Sound : State → Type 0 = λ s. IsSound rules s in
          come-again g old before state come new after there.next body.rules_are body.canary (arena-asked g before after n first looks (is_some own) answer is.asked) body.stands
          (subst Sound (ap (λ (s : Step). s.next) (malloc-by rules state words own (claim_in answer) size site is.words_are is.own_is is.fits)) (sought-sound site))
          (body.drawn ∙ sym (where-drawn rules (drawn_more words state) own (claim_in answer) (word_at rules (state.drawn + 1)) size site))
          (subst Held (sym there-held) (held-asked g before after n first looks state.held come.held (is_some own) answer is.asked))

      pub places : Places g old new before after state size site given placed
      places =
          let Asked : Option ℕ → ℕ → ℕ → List Look → Type 0 = λ o k w ls. IsAsked g (is_some o) before after k w ls answer in
          let May_so : Option Move → List Look → Type 0 = λ c ls. MayAnswer rules state (placing_wish rules state size) (record { claim = c; looks = ls; taken = None }) in
          let Come : State → Type 0 = λ s. HasComeTo g new after s in
          record {
            answer = answer;
            claim_is = body.claim_is;
            asked = subst (λ o. Asked o (pages_for rules size) (word_at rules state.drawn) (placed.looks).items) (sym is.own_is)
                (subst (λ k. Asked own k (word_at rules state.drawn) (placed.looks).items) (sym is.count_is)
                (subst (λ w. Asked own n w (placed.looks).items) is.first_is
                (subst (Asked own n first) (sym body.looks_are) is.asked)));
            may = subst (λ c. May_so c (placed.looks).items) (sym body.claim_is) (subst (May_so (claim_in answer)) (sym body.looks_are) sought-may);
            address_is = sym body.address_is ∙ ap (λ (p : Placed). p.address) (sym placing-is);
            come = subst Come (ap (λ (p : Placed). p.next) (sym placing-is)) come-there;
            words_are = body.words_are ∙ ap (λ w. given ++ words_from rules state.drawn w) (sym is.words_are);
            rules = body.rules_are;
          }

-- the pages that are held once the block is placed
pub places-held : {B A : Type 0} (g : broker.Ghosts B A) (old new : Core) (before after : B) (state : State) (size site : ℕ) (given : List ℕ) (placed : Placing) (places : Places g old new before after state size site given placed)
    → ((placing (rules_in old.state) state size site placed.claim).next).held ≡ held_after state.held (is_some (page_for (rules_in old.state) state size)) places.answer
places-held g old new before after state size site given placed places =
    let rules = rules_in old.state in
    ap (λ c. ((placing rules state size site c).next).held) places.claim_is
    ∙ placed-held rules (drawn_more (words_for rules size) state) (page_for rules state size) (claim_in places.answer) (word_at rules (state.drawn + 1)) size site
    ∙ by-answer state.held (page_for rules state size) places.answer
