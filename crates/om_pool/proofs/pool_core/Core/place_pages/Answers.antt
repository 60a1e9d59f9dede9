use Rattle.std.proofs.Common.{◌≡◌, ℕ, ◌+◌, ◌≤◌, Bool, false, List, ◌++◌, ◌∷◌, [], Option, Some, None, IfSome, is_some, ap, refl, sym, subst, ◌∙◌, arith}
use Rattle.om_broker.specs.declared.broker.Broker as broker
use Rattle.om_broker.specs.declared.broker.Claim.{Claim}
use Rattle.om_geom.specs.Classes.{data_pages}
use Rattle.om_geom.specs.Numbers.{zone_pages}
use Rattle.om_geom.specs.declared.address.Page.{Page}
use Rattle.om_model.specs.Pool.Malloc.{is_too_large}
use Rattle.om_model.specs.Pool.Rules.{Rules, size_class, word_at}
use Rattle.om_model.specs.Pool.State.{State}
use Rattle.om_model.specs.declared.looks.Look.{Look}
use Rattle.om_opts.specs.declared.options.Opts.{Opts}
use Rattle.om_pages.specs.Tables as table
use Rattle.om_words.specs.DrawnWords.{WordSource}
use Rattle.om_pool.specs.Asking.{IsAsked}
use Rattle.om_pool.specs.HoldingsView.{rules_in, tables_in, with_drawn, IsSameBut}
use Rattle.om_pool.specs.Malloc.{IsFor, IsOwnRun, PutsBlock, TakesRun}
use Rattle.om_pool.specs.TableSteps.{IsTied}
use Rattle.om_pool.specs.Tables.{Tables}
use Rattle.om_pool.specs.Underway.{HasComeTo}
use Rattle.om_pool.specs.declared.holdings.Holdings.{Holdings}
use Rattle.om_pool.specs.declared.pool_core.Core.{Core}
use Rattle.om_pool.proofs.BlockPlacing.{block-few, block-own, block-sought, block-words, owns-run, page-of, puts}
use Rattle.om_pool.proofs.CoreLaws.{same-rules}
use Rattle.om_pool.proofs.PlacingLaws.{is-for, places, sought-claim, sought-sound, IsSought}
use Rattle.om_pool.proofs.UnderwayLaws.{come-sound, come-tied}
use Rattle.om_pool.proofs.pool_core.Core.place_pages.Goals as goal

module _ {B A : Type 0} (g : broker.Ghosts B A) (old : Core) (before : B) (state : State) (come : HasComeTo g old before state) (size : ℕ) (none : size_class (rules_in old.state) size ≡ None) (fits : is_too_large (rules_in old.state) size ≡ false) (pages n : ℕ)
    (pages_is : pages ≡ data_pages size) (n_is : n ≡ table.block_pages pages old.state.opts.guard) (drawn own : Holdings) (result : Option Page) (same : drawn ≡ with_drawn 1 old.state) (found : TakesRun (tables_in drawn) (tables_in own) n result) (kept : IsSameBut drawn own) where
  -- the run that the pool has
  takes : TakesRun (tables_in old.state) (tables_in own) n result
  takes = let Takes : Holdings → Type 0 = λ x. TakesRun (tables_in x) (tables_in own) n result in subst Takes same found

  count : n ≡ table.block_pages pages own.opts.guard
  count = n_is ∙ ap (λ (o : Opts). table.block_pages pages o.guard) (sym (kept.opts ∙ ap (λ (x : Holdings). x.opts) same))

  zones : own.zones ≡ old.state.zones
  zones = kept.zones ∙ ap (λ (x : Holdings). x.zones) same

  untaken : result ≡ None → tables_in own ≡ tables_in old.state
  untaken missing = let Takes : Option Page → Type 0 = λ o. TakesRun (tables_in old.state) (tables_in own) n o in (subst Takes missing takes).1

  own-run : IfSome result (λ first. IsOwnRun own (table.block_pages pages own.opts.guard) first.0)
  own-run = by result takes
    where
      by : (o : Option Page) → TakesRun (tables_in old.state) (tables_in own) n o → IfSome o (λ first. IsOwnRun own (table.block_pages pages own.opts.guard) first.0)
      by None took = tt
      by (Some first) took =
          let Run : ℕ → Type 0 = λ k. IsOwnRun own k first.0 in
          subst Run count (owns-run (rules_in old.state) size none fits pages n pages_is n_is (tables_in old.state) state (come-sound g old before state come) come.tables 0 (tables_in own) first took own refl come.few_zones)

  own-tied : result ≡ None → IsTied own.zones (tables_in own)
  own-tied missing =
      let Tied : ℕ → Tables → Type 0 = λ k t. IsTied k t in
      subst (λ k. Tied k (tables_in own)) (sym zones) (subst (Tied old.state.zones) (sym (untaken missing)) (come-tied g old before state come))

  own-for : (after : B) (word : ℕ) (looks : List Look) (has : Bool) → has ≡ is_some result → (answer : Option Claim) → IsAsked g has before after n word looks answer → IsFor own.zones (tables_in own) (table.block_pages pages own.opts.guard) answer
  own-for after word looks has has_is answer asked =
      let Asked : Bool → Type 0 = λ b. IsAsked g b before after n word looks answer in
      let For : ℕ → ℕ → Type 0 = λ k m. IsFor k (tables_in own) m answer in
      subst (λ k. For k (table.block_pages pages own.opts.guard)) (sym zones) (subst (For old.state.zones) count (by result refl (subst Asked has_is asked)))
    where
      by : (o : Option Page) → result ≡ o → IsAsked g (is_some o) before after n word looks answer → IsFor old.state.zones (tables_in own) n answer
      by (Some first) there was = let None_for : Option Claim → Type 0 = λ a. IsFor old.state.zones (tables_in own) n a in subst None_for (sym was.2) tt
      by None missing was =
          let Tables_for : Tables → Type 0 = λ t. IsFor old.state.zones t n answer in
          subst Tables_for (sym (untaken missing)) (is-for g (rules_in old.state) state before after come.zones come.held n word looks (tables_in old.state) come.tables false answer was)

-- whether there is one
page-some : (own : Option Page) → is_some own ≡ is_some (page-of own)
page-some None = refl
page-some (Some page) = refl

-- the pages without the guard
few-pages : (rules : Rules) (size pages : ℕ) → size_class rules size ≡ None → is_too_large rules size ≡ false → pages ≡ data_pages size → pages ≤ zone_pages
few-pages rules size pages none fits is = omega (arith, block-few rules size none fits)

pub overflow_cast-pages : goal.overflow_cast-pages
overflow_cast-pages g c = let few = few-pages (rules_in c.args.self.now.state) c.args.size c.pages_of-pages.result c.requires.class c.requires.fits c.pages_of-pages.ensures in omega arith

pub put-address-requires-clause-own : goal.put-address-requires-clause-own
put-address-requires-clause-own g c =
    let At : Holdings → Type 0 = λ x. IfSome c.own_run-own.result (λ first. IsOwnRun x (table.block_pages c.pages_of-pages.result x.opts.guard) first.0) in
    subst At (sym (ap (λ (x : Core). x.state) c.ask-search.ensures.same))
    (own-run g.B.Broker c.args.self.now c.args.broker.now c.requires.come.0 c.requires.come.1 c.args.size c.requires.class c.requires.fits c.pages_of-pages.result c.with_guard-n.result c.pages_of-pages.ensures c.with_guard-n.ensures
    c.draw-word.new.self c.own_run-own.new.self c.own_run-own.result c.draw-word.ensures.same c.own_run-own.ensures.found c.own_run-own.ensures.same)

pub put-address-requires-clause-tied : goal.put-address-requires-clause-tied
put-address-requires-clause-tied g c missing =
    let At : Holdings → Type 0 = λ x. IsTied x.zones (tables_in x) in
    subst At (sym (ap (λ (x : Core). x.state) c.ask-search.ensures.same))
    (own-tied g.B.Broker c.args.self.now c.args.broker.now c.requires.come.0 c.requires.come.1 c.args.size c.requires.class c.requires.fits c.pages_of-pages.result c.with_guard-n.result c.pages_of-pages.ensures c.with_guard-n.ensures
    c.draw-word.new.self c.own_run-own.new.self c.own_run-own.result c.draw-word.ensures.same c.own_run-own.ensures.found c.own_run-own.ensures.same missing)

pub put-address-requires-clause-run : goal.put-address-requires-clause-run
put-address-requires-clause-run g c =
    let At : Holdings → Type 0 = λ x. IsFor x.zones (tables_in x) (table.block_pages c.pages_of-pages.result x.opts.guard) c.ask-search.result.answer in
    subst At (sym (ap (λ (x : Core). x.state) c.ask-search.ensures.same))
    (own-for g.B.Broker c.args.self.now c.args.broker.now c.requires.come.0 c.requires.come.1 c.args.size c.requires.class c.requires.fits c.pages_of-pages.result c.with_guard-n.result c.pages_of-pages.ensures c.with_guard-n.ensures
    c.draw-word.new.self c.own_run-own.new.self c.own_run-own.result c.draw-word.ensures.same c.own_run-own.ensures.found c.own_run-own.ensures.same
    c.ask-search.new.broker c.draw-word.result c.ask-search.result.looks.items c.is_some.result c.is_some.ensures c.ask-search.result.answer c.ask-search.ensures.asked)

pub returns-clause-placed : goal.returns-clause-placed
returns-clause-placed g c state come =
    let old = c.args.self.now in
    let new = c.put-address.new.self in
    let rules = rules_in old.state in
    let tables = tables_in old.state in
    let before = c.args.broker.now in
    let after = c.ask-search.new.broker in
    let size = c.args.size in
    let site = c.args.site in
    let pages = c.pages_of-pages.result in
    let pages_is = c.pages_of-pages.ensures in
    let n = c.with_guard-n.result in
    let n_is = c.with_guard-n.ensures in
    let none = c.requires.class in
    let fits = c.requires.fits in
    let word = c.draw-word.result in
    let looks = c.ask-search.result.looks.items in
    let answer = c.ask-search.result.answer in
    let result = c.put-address.result in
    let own_page = c.own_run-own.result in
    let own = page-of own_page in
    let drawn = c.draw-word.ensures.same in
    let own_same = c.own_run-own.ensures.same in
    let mid = tables_in c.own_run-own.new.self in
    let sound = come-sound g.B.Broker old before state come in
    let took = takes g.B.Broker old before state come size none fits pages n pages_is n_is c.draw-word.new.self c.own_run-own.new.self own_page drawn c.own_run-own.ensures.found own_same in
    let first_is = c.draw-word.ensures.word ∙ ap (word_at rules) come.drawn in
    let Asked : Bool → Type 0 = λ b. IsAsked g.B.Broker b before after n word looks answer in
    let sought : IsSought g.B.Broker rules before after state 1 n own word size looks answer = record {
      fits = fits;
      words_are = block-words rules size none fits;
      count_is = block-sought rules size none fits pages n pages_is n_is;
      own_is = block-own rules size none fits pages n pages_is n_is tables state sound come.tables site mid own_page took;
      first_is = first_is;
      asked = subst Asked (c.is_some.ensures ∙ page-some own_page) c.ask-search.ensures.asked;
    } in
    let at = ap (λ (x : Core). x.state) c.ask-search.ensures.same in
    let ruled = same-rules c.draw-word.new.self c.own_run-own.new.self own_same ∙ ap rules_in drawn in
    let Put : Rules → Tables → Type 0 = λ r t. PutsBlock r t (tables_in new) pages (record { size = size; site = site }) result own_page answer in
    let blocks = subst (λ r. Put r mid) ruled (let P : Holdings → Type 0 = λ x. Put (rules_in x) (tables_in x) in subst P at c.put-address.ensures.placed) in
    let placed = puts rules size none fits pages n pages_is n_is tables state sound come.tables site mid own_page took (tables_in new) answer result (sought-claim g.B.Broker old before after state come 1 n own word size looks answer sought)
    (sought-sound g.B.Broker old before after state come 1 n own word size looks answer sought site) blocks in
    places g.B.Broker old before after state come 1 n own word size looks answer sought _ site c.args.words _ (record {
      address_is = placed.address_is;
      claim_is = c.claim_in-claim.ensures;
      looks_are = refl;
      words_are = c.push.ensures ∙ ap (λ w. c.args.words ++ w ∷ []) first_is;
      stands = placed.stands_then;
      drawn = ap (λ (w : WordSource). w.place) ((c.put-address.ensures.same).words ∙ ap (λ (x : Holdings). x.words) at ∙ own_same.words ∙ ap (λ (x : Holdings). x.words) drawn) ∙ ap (λ k. k + 1) come.drawn;
      rules_are = same-rules c.ask-search.new.self.state new c.put-address.ensures.same ∙ ap rules_in at ∙ ruled;
      canary = ap (λ (x : Core). x.canary) c.ask-search.ensures.same;
    })
