use Rattle.std.proofs.Common.{◌≡◌, ℕ, ◌+◌, ◌*◌, ◌<◌, Bool, true, false, List, ◌++◌, [], ◌∷◌, Option, Some, None, IfSome, is_some, append_assoc, ap, refl, sym, subst, ◌∙◌, arith}
use Rattle.om_broker.specs.declared.broker.Broker as broker
use Rattle.om_broker.specs.declared.broker.Claim.{Claim}
use Rattle.om_chunk.specs.Picks.{IsFreeOn}
use Rattle.om_chunk.specs.declared.pages.Picked.{Picked}
use Rattle.om_frame.specs.Memory as frames
use Rattle.om_geom.specs.ClassLaws.{class_of-is_class}
use Rattle.om_geom.specs.Numbers.{zone_pages}
use Rattle.om_words.specs.DrawnWords.{WordSource}
use Rattle.om_model.specs.Pool.InUse.{uses}
use Rattle.om_model.specs.Pool.Malloc.{pages_by_class, placed_where, words_by_class}
use Rattle.om_model.specs.Pool.Picks.{own_page}
use Rattle.om_model.specs.Pool.Rules.{Rules, canary_byte, size_class, word_at}
use Rattle.om_model.specs.Pool.State.{State, drawn_more, is_held}
use Rattle.om_model.specs.declared.looks.Look.{Look}
use Rattle.om_model.proofs.Malloc.{chunk-fits, chunk-page}
use Rattle.om_pool.specs.Asking.{claim_in, IsAsked}
use Rattle.om_pool.specs.HoldingsView.{rules_in, tables_in, with_drawn, IsSameBut}
use Rattle.om_pool.specs.Malloc.{IsFor, IsOwnPlace, PlacesBlock}
use Rattle.om_pool.specs.TableSteps.{IsTied, OwnPlace}
use Rattle.om_pool.specs.Tables.{Tables, StandFor}
use Rattle.om_pool.specs.Underway.{HasComeTo}
use Rattle.om_pool.specs.declared.holdings.Holdings.{Holdings}
use Rattle.om_pool.specs.declared.pool_core.Core.{Core}
use Rattle.om_pool.proofs.CoreLaws.{same-rules}
use Rattle.om_pool.proofs.PlaceOwn.{owned, Owns}
use Rattle.om_pool.proofs.PlacingLaws.{is-for, places, sought-claim, sought-sound, IsSought}
use Rattle.om_pool.proofs.TableTies.{shelf-holds}
use Rattle.om_pool.proofs.UnderwayLaws.{come-sound, come-tied}
use Rattle.om_pool.proofs.pool_core.Core.place_chunk.Goals as goal

pub draw-second-requires : goal.draw-second-requires
draw-second-requires g c =
    let few = c.requires.drawn in
    let one = ap (λ (x : Holdings). x.words.place) c.draw-first.ensures.same in
    omega arith

-- the holdings once two words are drawn
drawn-same : (old one two : Holdings) → one ≡ with_drawn 1 old → two ≡ with_drawn 1 one → two ≡ with_drawn 2 old
drawn-same old one two first second =
    let sum : old.words.place + 1 + 1 ≡ old.words.place + 2 = omega arith in
    second ∙ ap (with_drawn 1) first ∙ ap (λ n. record old { words = record old.words { place = n } }) sum

-- the rules stay while the words are drawn and the zones are asked
asked-rules : (old one two own : Holdings) (asked : Core) → one ≡ with_drawn 1 old → two ≡ with_drawn 1 one → IsSameBut two own → asked.state ≡ own → rules_in asked.state ≡ rules_in old
asked-rules old one two own asked first second kept at = ap rules_in at ∙ same-rules two own kept ∙ ap rules_in (drawn-same old one two first second)

pub place-address-requires-clause-class : goal.place-address-requires-clause-class
place-address-requires-clause-class g c =
    let old = c.args.self.now in
    ap (λ r. size_class r c.args.size)
    (asked-rules old.state c.draw-first.new.self c.draw-second.new.self c.own_place-own.new.self c.ask-search.new.self c.draw-first.ensures.same c.draw-second.ensures.same c.own_place-own.ensures.same (ap (λ (x : Core). x.state) c.ask-search.ensures.same))
    ∙ c.requires.class

pub place-address-requires-clause-canary : goal.place-address-requires-clause-canary
place-address-requires-clause-canary g c =
    let old = c.args.self.now in
    ap (λ (x : Core). x.canary) c.ask-search.ensures.same ∙ c.requires.come.1.canary
    ∙ ap canary_byte (sym (asked-rules old.state c.draw-first.new.self c.draw-second.new.self c.own_place-own.new.self c.ask-search.new.self c.draw-first.ensures.same c.draw-second.ensures.same c.own_place-own.ensures.same (ap (λ (x : Core). x.state) c.ask-search.ensures.same)))

-- the second word
second-word : (old : Core) (one : Holdings) → one ≡ with_drawn 1 old.state → (state : State) → old.state.words.place ≡ state.drawn → (second : ℕ) → second ≡ word_at (rules_in one) one.words.place → second ≡ word_at (rules_in old.state) (state.drawn + 1)
second-word old one same state drawn second second_is = second_is ∙ ap (λ (x : Holdings). word_at (rules_in x) x.words.place) same ∙ ap (λ n. word_at (rules_in old.state) (n + 1)) drawn

pub own_place-own-requires-clause-class : goal.own_place-own-requires-clause-class
own_place-own-requires-clause-class g c = class_of-is_class c.args.size (rules_in c.args.self.now.state).options.canary c.args.class.0 c.requires.class

pub own_place-own-requires-clause-tied : goal.own_place-own-requires-clause-tied
own_place-own-requires-clause-tied g c =
    let old = c.args.self.now in
    let Tied : Holdings → Type 0 = λ x. IsTied x.zones (tables_in x) in
    subst Tied (sym (drawn-same old.state c.draw-first.new.self c.draw-second.new.self c.draw-first.ensures.same c.draw-second.ensures.same)) (come-tied g.B.Broker old c.args.broker.now c.requires.come.0 c.requires.come.1)

-- what the pool's own place is
module _ {B A : Type 0} (g : broker.Ghosts B A) (old : Core) (before : B) (state : State) (come : HasComeTo g old before state) (first second size class site : ℕ) (class_is : size_class (rules_in old.state) size ≡ Some class)
    (first_is : first ≡ word_at (rules_in old.state) state.drawn) (second_is : second ≡ word_at (rules_in old.state) (state.drawn + 1)) where
  own-is : (drawn own : Holdings) (result : Option Picked) → drawn ≡ with_drawn 2 old.state → OwnPlace (tables_in drawn) (tables_in own) class first second result
      → Owns (rules_in old.state) size class class_is site (tables_in old.state) state (come-sound g old before state come) come.tables first second first_is second_is (tables_in own) result
  own-is drawn own result same place =
      let P : Holdings → Type 0 = λ x. OwnPlace (tables_in x) (tables_in own) class first second result in
      owned (rules_in old.state) size class class_is site (tables_in old.state) state (come-sound g old before state come) come.tables first second first_is second_is (tables_in own) result (subst P same place)

both-some : {X : Type 0} (P Q R : X → Type 0) (o : Option X) → ((x : X) → P x → Q x → R x) → IfSome o P → IfSome o Q → IfSome o R
both-some P Q R None step first second = tt
both-some P Q R (Some x) step first second = step x first second

pub place-address-requires-clause-own : goal.place-address-requires-clause-own
place-address-requires-clause-own g c =
    let old = c.args.self.now in
    let state = c.requires.come.0 in
    let come = c.requires.come.1 in
    let class = c.args.class.0 in
    let own = c.own_place-own.new.self in
    let result = c.own_place-own.result in
    let drawn = drawn-same old.state c.draw-first.new.self c.draw-second.new.self c.draw-first.ensures.same c.draw-second.ensures.same in
    let first_is = c.draw-first.ensures.word ∙ ap (word_at (rules_in old.state)) come.drawn in
    let second_is = second-word old c.draw-first.new.self c.draw-first.ensures.same state come.drawn c.draw-second.result c.draw-second.ensures.word in
    let owns = own-is g.B.Broker old c.args.broker.now state come c.draw-first.result c.draw-second.result c.args.size class c.args.site c.requires.class first_is second_is c.draw-second.new.self own result drawn c.own_place-own.ensures.found in
    let sound = come-sound g.B.Broker old c.args.broker.now state come in
    let At : Holdings → Type 0 = λ x. IfSome result (IsOwnPlace x class) in
    subst At (sym (ap (λ (x : Core). x.state) c.ask-search.ensures.same))
    (both-some
    (λ found. ((found.page).0 < zone_pages * (rules_in old.state).zones) × (is_held state.held ((found.page).0) ≡ true))
    (λ found. IsFreeOn own.chunks.pages class ((found.page).0) found.place)
    (IsOwnPlace own class) result
    (λ found fits free. record {
      there = let few = come.few_zones in omega (arith, fits.0);
      held = ap (λ m. frames.is_held m ((found.page).0)) (owns.memory ∙ come.tables.memory) ∙ shelf-holds state ((found.page).0) (sound.bytes ((found.page).0)) ∙ fits.1;
      free = free;
    })
    owns.fits c.own_place-own.ensures.free)

pub place-address-requires-clause-tied : goal.place-address-requires-clause-tied
place-address-requires-clause-tied g c none =
    let old = c.args.self.now in
    let state = c.requires.come.0 in
    let come = c.requires.come.1 in
    let own = c.own_place-own.new.self in
    let drawn = drawn-same old.state c.draw-first.new.self c.draw-second.new.self c.draw-first.ensures.same c.draw-second.ensures.same in
    let first_is = c.draw-first.ensures.word ∙ ap (word_at (rules_in old.state)) come.drawn in
    let second_is = second-word old c.draw-first.new.self c.draw-first.ensures.same state come.drawn c.draw-second.result c.draw-second.ensures.word in
    let owns = own-is g.B.Broker old c.args.broker.now state come c.draw-first.result c.draw-second.result c.args.size c.args.class.0 c.args.site c.requires.class first_is second_is c.draw-second.new.self own c.own_place-own.result drawn
    c.own_place-own.ensures.found in
    let zones = (c.own_place-own.ensures.same).zones ∙ ap (λ (x : Holdings). x.zones) drawn in
    let At : Holdings → Type 0 = λ x. IsTied x.zones (tables_in x) in
    let Tied : ℕ → Tables → Type 0 = λ n t. IsTied n t in
    subst At (sym (ap (λ (x : Core). x.state) c.ask-search.ensures.same))
    (subst (λ n. Tied n (tables_in own)) (sym zones) (subst (Tied old.state.zones) (sym (owns.same none)) (come-tied g.B.Broker old c.args.broker.now state come)))

for-own : {B A : Type 0} (g : broker.Ghosts B A) (old : Core) (before after : B) (state : State) (come : HasComeTo g old before state) (word : ℕ) (looks : List Look) (tables : Tables) (result : Option Picked)
    → (result ≡ None → tables ≡ tables_in old.state) → (has : Bool) → has ≡ is_some result → (answer : Option Claim) → IsAsked g has before after 1 word looks answer → IsFor (rules_in old.state).zones tables 1 answer
for-own g old before after state come word looks tables (Some found) same has has_is answer asked =
    let Asked : Bool → Type 0 = λ b. IsAsked g b before after 1 word looks answer in
    let none = (subst Asked has_is asked).2 in
    let For : Option Claim → Type 0 = λ a. IsFor (rules_in old.state).zones tables 1 a in
    subst For (sym none) tt
for-own g old before after state come word looks tables None same has has_is answer asked =
    let Asked : Bool → Type 0 = λ b. IsAsked g b before after 1 word looks answer in
    let For : Tables → Type 0 = λ t. IsFor (rules_in old.state).zones t 1 answer in
    subst For (sym (same refl)) (is-for g (rules_in old.state) state before after come.zones come.held 1 word looks (tables_in old.state) come.tables false answer (subst Asked has_is asked))

pub place-address-requires-clause-page : goal.place-address-requires-clause-page
place-address-requires-clause-page g c =
    let old = c.args.self.now in
    let state = c.requires.come.0 in
    let come = c.requires.come.1 in
    let own = c.own_place-own.new.self in
    let drawn = drawn-same old.state c.draw-first.new.self c.draw-second.new.self c.draw-first.ensures.same c.draw-second.ensures.same in
    let first_is = c.draw-first.ensures.word ∙ ap (word_at (rules_in old.state)) come.drawn in
    let second_is = second-word old c.draw-first.new.self c.draw-first.ensures.same state come.drawn c.draw-second.result c.draw-second.ensures.word in
    let owns = own-is g.B.Broker old c.args.broker.now state come c.draw-first.result c.draw-second.result c.args.size c.args.class.0 c.args.site c.requires.class first_is second_is c.draw-second.new.self own c.own_place-own.result drawn
    c.own_place-own.ensures.found in
    let zones = (c.own_place-own.ensures.same).zones ∙ ap (λ (x : Holdings). x.zones) drawn in
    let For : ℕ → Type 0 = λ n. IsFor n (tables_in own) 1 c.ask-search.result.answer in
    let At : Holdings → Type 0 = λ x. IsFor x.zones (tables_in x) 1 c.ask-search.result.answer in
    subst At (sym (ap (λ (x : Core). x.state) c.ask-search.ensures.same))
    (subst For (sym zones)
    (for-own g.B.Broker old c.args.broker.now c.ask-search.new.broker state come c.draw-first.result c.ask-search.result.looks.items (tables_in own) c.own_place-own.result owns.same c.is_some.result c.is_some.ensures
    c.ask-search.result.answer c.ask-search.ensures.asked))

pub returns-clause-placed : goal.returns-clause-placed
returns-clause-placed g c state come =
    let old = c.args.self.now in
    let rules = rules_in old.state in
    let before = c.args.broker.now in
    let after = c.ask-search.new.broker in
    let class = c.args.class.0 in
    let class_is = c.requires.class in
    let first = c.draw-first.result in
    let second = c.draw-second.result in
    let looks = c.ask-search.result.looks.items in
    let answer = c.ask-search.result.answer in
    let claim = claim_in answer in
    let size = c.args.size in
    let site = c.args.site in
    let result = c.place-address.result in
    let new = c.place-address.new.self in
    let own_holdings = c.own_place-own.new.self in
    let drawn = drawn-same old.state c.draw-first.new.self c.draw-second.new.self c.draw-first.ensures.same c.draw-second.ensures.same in
    let first_is = c.draw-first.ensures.word ∙ ap (word_at rules) come.drawn in
    let second_is = second-word old c.draw-first.new.self c.draw-first.ensures.same state come.drawn second c.draw-second.ensures.word in
    let owns = own-is g.B.Broker old before state come first second size class site class_is first_is second_is c.draw-second.new.self own_holdings c.own_place-own.result drawn c.own_place-own.ensures.found in
    let own : Option ℕ = own_page (uses rules state) state.held class first in
    let Asked : Bool → Type 0 = λ b. IsAsked g.B.Broker b before after 1 first looks answer in
    let sought : IsSought g.B.Broker rules before after state 2 1 own first size looks answer = record {
      fits = chunk-fits rules size class class_is;
      words_are = ap words_by_class class_is;
      count_is = ap (pages_by_class rules size) class_is;
      own_is = chunk-page rules size class class_is state ∙ ap (own_page (uses rules state) state.held class) (sym first_is);
      first_is = first_is;
      asked = subst Asked (c.is_some.ensures ∙ owns.has) c.ask-search.ensures.asked;
    } in
    let at = ap (λ (x : Core). x.state) c.ask-search.ensures.same in
    let same_holdings = c.own_place-own.ensures.same in
    let ruled = same-rules c.draw-second.new.self own_holdings same_holdings ∙ ap rules_in drawn in
    let Placed : Rules → Tables → Type 0 = λ r t. PlacesBlock r t (tables_in new) class second size site result c.own_place-own.result answer in
    let blocks = subst (λ r. Placed r (tables_in own_holdings)) ruled (let P : Holdings → Type 0 = λ x. Placed (rules_in x) (tables_in x) in subst P at c.place-address.ensures.placed) in
    let placed = owns.places (tables_in new) answer result (sought-claim g.B.Broker old before after state come 2 1 own first size looks answer sought)
    (sought-sound g.B.Broker old before after state come 2 1 own first size looks answer sought site) blocks in
    let At : Option ℕ → ℕ → Type 0 = λ o w. (placed_where rules (drawn_more 2 state) own claim w size site).address ≡ o in
    let Next : ℕ → Type 0 = λ w. StandFor rules (tables_in new) (placed_where rules (drawn_more 2 state) own claim w size site).next in
    let given = c.args.words in
    places g.B.Broker old before after state come 2 1 own first size looks answer sought _ site given _ (record {
      address_is = subst (At result) second_is placed.address_is;
      claim_is = c.claim_in-claim.ensures;
      looks_are = refl;
      words_are = c.push-2.ensures ∙ ap (λ ws. ws ++ second ∷ []) c.push.ensures ∙ append_assoc given (first ∷ []) (second ∷ [])
          ∙ ap (λ w. given ++ w ∷ second ∷ []) first_is ∙ ap (λ w. given ++ word_at rules state.drawn ∷ w ∷ []) second_is;
      stands = subst Next second_is placed.stands_then;
      drawn = ap (λ (w : WordSource). w.place) ((c.place-address.ensures.same).words ∙ ap (λ (x : Holdings). x.words) at ∙ same_holdings.words ∙ ap (λ (x : Holdings). x.words) drawn) ∙ ap (λ n. n + 2) come.drawn;
      rules_are = same-rules c.ask-search.new.self.state new c.place-address.ensures.same ∙ ap rules_in at ∙ ruled;
      canary = ap (λ (x : Core). x.canary) c.ask-search.ensures.same;
    })
