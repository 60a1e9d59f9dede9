-- What becomes of the tables by a page block: on the pool's own run, or on a claimed one.
use Rattle.std.proofs.Common.{◌≡◌, ℕ, ◌+◌, ◌*◌, ◌≤◌, false, not, ◌&&◌, nat_lt, List, length, Option, Some, None, refl, sym, ap, ◌∙◌, subst, arith}
use Rattle.std.specs.Prelude.{slice_set}
use Rattle.std.specs.Option.{is_none, option_map}
use Rattle.std.proofs.lemmas.Bool.{ltb-false}
use Rattle.om_broker.specs.declared.broker.Claim.{Claim}
use Rattle.om_broker.specs.declared.broker.Claim.TheVariants.{Claimed, NoRun}
use Rattle.om_frame.specs.Memory as frames
use Rattle.om_geom.specs.Addresses.{address_of}
use Rattle.om_geom.specs.Classes.{data_pages}
use Rattle.om_geom.specs.Numbers.{most_zones, page_size, zone_pages}
use Rattle.om_geom.specs.declared.address.Extent.{Extent}
use Rattle.om_geom.specs.declared.address.Page.{Page}
use Rattle.om_model.specs.Pool.InUse.{uses, touches}
use Rattle.om_model.specs.Pool.Junk.{data_by_class, data_extent, with_fresh_junk}
use Rattle.om_model.specs.Pool.Malloc.{address_on, is_too_large, malloc, page_by_class, page_for, pages_by_class, pages_for, placed_on, with_block, words_by_class, words_for, Placed, entered}
use Rattle.om_model.specs.Pool.Picks.{own_run}
use Rattle.om_model.specs.Pool.Rules.{Rules, block_pages, size_class, word_at}
use Rattle.om_model.specs.Pool.Runs.{Run, run_of}
use Rattle.om_model.specs.Pool.State.{State, drawn_more, with_pages}
use Rattle.om_model.specs.Pool.Steps.{Step}
use Rattle.om_model.specs.declared.block.Block.{Block}
use Rattle.om_model.specs.declared.entry.Move.{Move}
use Rattle.om_model.proofs.Each.{any-none}
use Rattle.om_model.proofs.Held.{held-in_run}
use Rattle.om_model.proofs.Malloc.{drawn_more-sound, some-pages, with_pages-sound}
use Rattle.om_model.proofs.Places.{run-own, untouched-free, HasRun}
use Rattle.om_model.proofs.Sound.{IsSound}
use Rattle.om_pages.specs.FreeRuns.{lowest_run}
use Rattle.om_pages.specs.Kinds as kinds
use Rattle.om_pages.specs.Tables as table
use Rattle.om_pages.specs.declared.kind.PageKind.{PageKind}
use Rattle.om_pool.specs.Asking.{claim_in}
use Rattle.om_pool.specs.HoldingsView.{tables_in}
use Rattle.om_pool.specs.Malloc.{IsBlockOn, IsOwnRun, PutsBlock, TakesRun}
use Rattle.om_pool.specs.TableSteps.{block_on_pages, claimed_run, fresh_filled, pages_of_block, with_page_block}
use Rattle.om_pool.specs.Tables.{Tables, StandFor}
use Rattle.om_pool.specs.declared.blocks.Request.{Request}
use Rattle.om_pool.specs.declared.holdings.Holdings.{Holdings}
use Rattle.om_pool.proofs.Fills.{fresh-stands, no-canaries, unwritten}
use Rattle.om_pool.proofs.PlacingLaws.{malloc-by, placed_by, IsNewClaim}
use Rattle.om_pool.proofs.TableBlocks.{block-comes, set-block-again, take-held}
use Rattle.om_pool.proofs.TablePages.{all-free, free-run, pages-come, words-drawn}
use Rattle.om_pool.proofs.TableRuns.{guard-count}
use Rattle.om_pool.proofs.TableTies.{free-unheld, shelf-holds}

abbrev pub page-of : Option Page → Option ℕ
page-of own = option_map (λ page. page.0) own

module _ (rules : Rules) (size : ℕ) (none : size_class rules size ≡ None) (fits : is_too_large rules size ≡ false) where
  pub block-few : block_pages rules size ≤ zone_pages
  block-few = ltb-false zone_pages (block_pages rules size) (ap (λ class. is_none class && nat_lt zone_pages (block_pages rules size)) (sym none) ∙ fits)

  pub block-words : words_for rules size ≡ 1
  block-words = ap words_by_class none

  module _ (pages n : ℕ) (pages_is : pages ≡ data_pages size) (n_is : n ≡ table.block_pages pages rules.options.guard) where
    pub block-count : block_pages rules size ≡ n
    block-count = guard-count (data_pages size) rules.options.guard ∙ ap (λ count. table.block_pages count rules.options.guard) (sym pages_is) ∙ sym n_is

    pub block-sought : pages_for rules size ≡ n
    block-sought = ap (pages_by_class rules size) none ∙ block-count

    pub block-some : 1 ≤ n
    block-some = let some = some-pages rules size none in omega (arith, block-count)

    module _ (tables : Tables) (state : State) (is : IsSound rules state) (stands : StandFor rules tables state) (site : ℕ) where
      abbrev drawn : State
      drawn = drawn_more 1 state

      abbrev request : Request
      request = record { size = size; site = site }

      drawn-is : IsSound rules drawn
      drawn-is = drawn_more-sound rules 1 state is

      drawn-stands : StandFor rules tables drawn
      drawn-stands = words-drawn rules tables state stands 1

      -- ---- the run that the pool has

      own-is : page_for rules state size ≡ lowest_run tables.pages n
      own-is = ap (page_by_class rules state size) none ∙ ap (own_run (uses rules state) state.held) block-count ∙ sym (free-run rules tables state is stands n block-some)

      low-is : (mid : Tables) (own : Option Page) → TakesRun tables mid n own → lowest_run tables.pages n ≡ page-of own
      low-is mid (Some page) takes = takes.0
      low-is mid None takes = takes.0

      pub block-own : (mid : Tables) (own : Option Page) → TakesRun tables mid n own → page_for rules state size ≡ page-of own
      block-own mid own takes = own-is ∙ low-is mid own takes

      own-has : (first : ℕ) → lowest_run tables.pages n ≡ Some first → HasRun rules state.held (uses rules state) first n
      own-has first low = let sound = is.sound in run-own rules state.held (uses rules state) sound.placed first n is.arena (sym (free-run rules tables state is stands n block-some) ∙ low)

      pub owns-run : (mid : Tables) (page : Page) → TakesRun tables mid n (Some page) → (own : Holdings) → tables_in own ≡ mid → rules.zones ≤ most_zones → IsOwnRun own n page.0
      owns-run mid page takes own own_is few =
          let first = page.0 in
          let run = own-has first takes.0 in
          let there = run.there in
          let same = own_is ∙ takes.1 in
          let All : List PageKind → Type 0 = λ t. table.AreAll kinds.is_held t first n in
          record {
            there = omega arith;
            one_zone = run.zone;
            held = subst All (sym (ap (λ (t : Tables). t.pages) same))
                (take-held tables.pages first n
                (all-free rules tables state stands first n there (λ p low high. (run.held_is p low high, ap not (any-none (touches p) (uses rules state) (run.untouched p low high))))));
            in_blocks = let long : length own.blocks ≡ zone_pages * rules.zones = ap (λ (t : Tables). length t.blocks) same ∙ stands.blocks_all in omega (arith, block-some);
            bytes = λ p low high. ap (λ (t : Tables). frames.is_held t.memory p) same ∙ ap (λ m. frames.is_held m p) stands.memory ∙ shelf-holds state p (is.bytes p) ∙ run.held_is p low high;
          }

      -- ---- the block there

      abbrev block : ℕ → Block
      block first = record { address = address_of first; size = size; site = site }

      extent-is : (first : ℕ) → data_extent rules (block first) ≡ pages_of_block first pages
      extent-is first = ap (data_by_class (block first)) none ∙ ap (λ count. let extent : Extent = record { first = address_of first; len = page_size * count } in extent) (sym pages_is)

      -- the state with the block
      abbrev after : State → ℕ → State
      after old first = entered rules (block first) old

      placed-is : (old : State) (first word : ℕ) → placed_on rules old first word size site ≡ record { address = Some (address_of first); next = after old first }
      unfolding address_on
      placed-is old first word =
          let at : address_on rules old first word (size_class rules size) ≡ address_of first = ap (address_on rules old first word) none in
          ap (λ a. let one : Block = record { address = a; size = size; site = site } in let placed : Placed = record { address = Some a; next = entered rules one old } in placed) at

      -- on a run that nothing touches
      block-stands : (old_tables : Tables) (old : State) → IsSound rules old → StandFor rules old_tables old → (first : ℕ) → HasRun rules old.held (uses rules old) first n → IsSound rules (after old first)
          → StandFor rules (block_on_pages rules old_tables first pages request) (after old first)
      block-stands old_tables old sound old_stands first run next_is =
          let with_is = unwritten rules (with_block (block first) old) (block first) sound.pages sound.bytes next_is in
          let Run : ℕ → Type 0 = λ count. HasRun rules old.held (uses rules old) first count in
          let comes = block-comes rules old_tables old first size site none sound with_is old_stands (subst Run (sym block-count) run) in
          let Stands : ℕ → Type 0 = λ count. StandFor rules (with_page_block old_tables first count rules.options.guard request) (with_block (block first) old) in
          let New : State → Type 0 = λ s. StandFor rules (block_on_pages rules old_tables first pages request) s in
          subst New (sym (no-canaries rules (block first) (with_fresh_junk rules (block first) (with_block (block first) old)) none))
          (fresh-stands rules (block first) (pages_of_block first pages) (extent-is first) (with_page_block old_tables first pages rules.options.guard request) (with_block (block first) old)
          (subst Stands (sym pages_is) comes))

      pub record Puts (new : Tables) (own : Option ℕ) (claim : Option Move) (result : Option ℕ) : Type 0 where
        pub address_is : (placed_by rules state 1 own claim size site).address ≡ result
        pub stands_then : StandFor rules new (placed_by rules state 1 own claim size site).next

      -- where the block goes on the run
      puts-on : (old_tables : Tables) (old : State) → IsSound rules old → StandFor rules old_tables old → (first : ℕ) → HasRun rules old.held (uses rules old) first n
          → (own : Option ℕ) (claim : Option Move) → placed_by rules state 1 own claim size site ≡ placed_on rules old first (word_at rules (state.drawn + 1)) size site
          → page_for rules state size ≡ own → IsSound rules ((malloc rules state size site claim).next)
          → (new : Tables) (result : Option ℕ) → IsBlockOn rules old_tables new first pages request result → Puts new own claim result
      puts-on old_tables old sound old_stands first run own claim at own_at next_is new result on =
          let whole = at ∙ placed-is old first (word_at rules (state.drawn + 1)) in
          let Step_sound : Step → Type 0 = λ s. IsSound rules s.next in
          let Placed_sound : Placed → Type 0 = λ p. IsSound rules p.next in
          let after_is = subst Placed_sound whole (subst Step_sound (malloc-by rules state 1 own claim size site block-words own_at fits) next_is) in
          let New : Tables → Type 0 = λ t. StandFor rules t (after old first) in
          let Stands : Placed → Type 0 = λ p. StandFor rules new p.next in
          record {
            address_is = ap (λ (p : Placed). p.address) whole ∙ sym on.result_is;
            stands_then = subst Stands (sym whole) (subst New (sym on.new_is) (block-stands old_tables old sound old_stands first run after_is));
          }

      puts-nowhere : (mid : Tables) → TakesRun tables mid n None → (new : Tables) (result : Option ℕ) → (new ≡ mid) × (result ≡ None) → Puts new None None result
      puts-nowhere mid takes new result on =
          let New : Tables → Type 0 = λ t. StandFor rules t drawn in
          record { address_is = sym on.1; stands_then = subst New (sym (on.0 ∙ takes.1)) drawn-stands }

      pub puts : (mid : Tables) (own : Option Page) → TakesRun tables mid n own → (new : Tables) (answer : Option Claim) (result : Option ℕ) → IsNewClaim rules state n answer → IsSound rules ((malloc rules state size site (claim_in answer)).next)
          → PutsBlock rules mid new pages request result own answer → Puts new (page-of own) (claim_in answer) result
      puts mid (Some page) takes new answer result claim next_is on =
          let first = page.0 in
          let guards = rules.options.guard in
          let same : block_on_pages rules mid first pages request ≡ block_on_pages rules tables first pages request =
          ap (λ t. block_on_pages rules t first pages request) takes.1
          ∙ ap (λ kinds. fresh_filled rules (pages_of_block first pages) (record (record tables { pages = kinds }) { blocks = slice_set tables.blocks first request })) (ap (λ count. table.with_block (table.with_data tables.pages first count) first pages guards) n_is ∙ set-block-again tables.pages first pages guards) in
          puts-on tables drawn drawn-is drawn-stands first (own-has first takes.0) (Some first) (claim_in answer) refl (block-own mid (Some page) takes) next_is new result
          (record { result_is = on.result_is; new_is = on.new_is ∙ same })
      puts mid None takes new None result claim next_is on = puts-nowhere mid takes new result on
      puts mid None takes new (Some NoRun) result claim next_is on = puts-nowhere mid takes new result on
      puts mid None takes new (Some (Claimed move frames)) result new_run next_is on =
          let run : Run = run_of move in
          let count : run.count ≡ n = new_run.count_is in
          let there = new_run.there in
          let came : State = with_pages run drawn in
          let came_is : IsSound rules came = with_pages-sound rules drawn run (omega arith) drawn-is in
          let came_stands : StandFor rules (claimed_run tables run) came = pages-come rules tables drawn drawn-stands run drawn-is (λ page low high. new_run.fresh page low (omega arith)) in
          puts-on (claimed_run tables run) came came_is came_stands run.first
          (record {
            held_is = λ page low high. held-in_run run state.held page low (omega arith);
            there = there;
            untouched = λ page low high. untouched-free (uses rules came) page (free-unheld rules state is page (new_run.fresh page low high));
            zone = new_run.one_zone;
          })
          None (Some move) refl (block-own mid None takes) next_is new result
          (record { result_is = on.result_is; new_is = on.new_is ∙ ap (λ t. block_on_pages rules (claimed_run t run) run.first pages request) takes.1 })
