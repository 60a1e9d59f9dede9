-- A page block leaves: its bytes are filled, and its pages become free with its guard.
use Rattle.std.proofs.Common.{◌≡◌, ℕ, ◌+◌, ◌*◌, ◌<◌, ◌≤◌, Bool, true, false, Option, Some, if◌then◌else◌, refl, sym, ap, ◌∙◌, subst, arith, List, None}
use Rattle.om_broker.specs.declared.broker.Broker as broker
use Rattle.om_delay.specs.Changes.{freed_byte}
use Rattle.om_frame.specs.Memory as frames
use Rattle.om_frame.specs.Memory.{IsHeldPart}
use Rattle.om_geom.specs.Addresses.{address_of, bit_of, page_at}
use Rattle.om_geom.specs.Classes.{data_pages}
use Rattle.om_geom.specs.Numbers.{most_zones, page_size, zone_pages}
use Rattle.om_geom.specs.declared.address.Extent.{Extent}
use Rattle.om_model.specs.Pool.Free.{kept_or_let_go, without_block, without_page_block}
use Rattle.om_model.specs.Pool.Junk.{freed_len, with_freed_pages}
use Rattle.om_model.specs.Pool.Rules.{Rules, block_pages, size_class}
use Rattle.om_model.specs.Pool.Runs.{Run}
use Rattle.om_model.specs.Pool.Standing.{block_at}
use Rattle.om_model.specs.Pool.State.{State, is_held}
use Rattle.om_model.specs.declared.block.Block.{Block}
use Rattle.om_model.specs.declared.entry.Move.{Move}
use Rattle.om_model.proofs.Bytes.{freed_pages-drawn, freed_pages-sound}
use Rattle.om_model.proofs.Free.{without-sound}
use Rattle.om_model.proofs.Sound.{IsSound}
use Rattle.om_pages.specs.Kinds as kinds
use Rattle.om_pages.specs.TableLaws.{with_run-all}
use Rattle.om_pages.specs.Tables as table
use Rattle.om_pages.specs.declared.kind.PageKind.{PageKind}
use Rattle.om_pages.specs.declared.kind.PageKind.TheVariants as page_is
use Rattle.om_pool.specs.HoldingsView.{rules_in, tables_in, IsSameBut}
use Rattle.om_pool.specs.Leaving.{IsPagesOf, LeavesTo}
use Rattle.om_pool.specs.TableSteps.{filled_by, freed_pages_filled, freed_run}
use Rattle.om_pool.specs.Tables.{Tables, StandFor}
use Rattle.om_pool.specs.Underway.{HasComeTo}
use Rattle.om_pool.specs.declared.holdings.Holdings.{Holdings}
use Rattle.om_pool.specs.declared.pool_core.Core.{Core}
use Rattle.om_pool.proofs.CoreLaws.{same-rules}
use Rattle.om_pool.proofs.RunLeaving.{leaves-from}
use Rattle.om_pool.proofs.TableBlocks.{HasBlock, IsBlockFit, block-fits, block-goes, block-held, bytes-run, page-block}
use Rattle.om_pool.proofs.TablePages.{all-held, bytes-filled}
use Rattle.om_pool.proofs.TableTies.{shelf-holds}
use Rattle.om_pool.proofs.UnderwayLaws.{come-changed, come-sound}

-- what is asked of the pages before they become free
pub record HasPages (tables : Tables) (first pages n : ℕ) : Type 0 where
  pub some : 1 ≤ pages
  pub few : pages ≤ zone_pages
  pub there : first < zone_pages * most_zones
  pub more : 1 ≤ n
  pub one_zone : bit_of first + n ≤ zone_pages
  pub bytes : IsHeldPart tables.memory (address_of first) (page_size * pages)
  pub held : table.AreAll kinds.is_held tables.pages first n

-- its first page, so many data pages, and those with the guard
module _ (rules : Rules) (tables : Tables) (state : State) (sound : IsSound rules state) (stands : StandFor rules tables state) (block : Block) (on : IsPagesOf rules state block)
    (first pages n : ℕ) (first_at : first ≡ page_at block.address) (pages_are : pages ≡ data_pages block.size) (n_is : n ≡ table.block_pages pages rules.options.guard) where
  abbrev run : Run
  run = record { first = first; count = n }

  has : HasBlock rules state block.address block
  has = page-block rules state sound block.address block on

  live : block_at state block.address ≡ Some block
  live = has.found

  none : size_class rules block.size ≡ None
  none = has.none

  fits : IsBlockFit rules block
  fits = block-fits rules state sound block live none

  first-is : page_at block.address ≡ first
  first-is = sym first_at

  begins : block.address ≡ address_of first
  begins = fits.begins ∙ ap address_of first-is

  pages-is : data_pages block.size ≡ pages
  pages-is = sym pages_are

  count-is : block_pages rules block.size ≡ n
  count-is = by rules.options.guard ∙ ap (λ p. table.block_pages p rules.options.guard) pages-is ∙ sym n_is
    where
      by : (guards : Bool) → data_pages block.size + (if guards then 1 else 0) ≡ table.block_pages (data_pages block.size) guards
      by true = refl
      by false = omega arith

  run-is : record { first = page_at block.address; count = block_pages rules block.size } ≡ run
  run-is = ap (λ f. let r : Run = record { first = f; count = block_pages rules block.size } in r) first-is ∙ ap (λ k. let r : Run = record { first = first; count = k } in r) count-is

  abbrev front : Extent
  front = record { first = block.address; len = freed_len rules.options.junk (data_pages block.size) }

  front-is : front ≡ record { first = address_of first; len = freed_len rules.options.junk pages }
  front-is =
      ap (λ a. let e : Extent = record { first = a; len = freed_len rules.options.junk (data_pages block.size) } in e) begins
      ∙ ap (λ p. let e : Extent = record { first = address_of first; len = freed_len rules.options.junk p } in e) pages-is

  each-held : (page : ℕ) → first ≤ page → page < first + n → is_held state.held page ≡ true
  each-held page low high = block-held rules state sound block live none page (omega (arith, first-is)) (omega (arith, first-is, count-is))

  in-arena : first + n ≤ zone_pages * rules.zones
  in-arena = omega (arith, fits.there, first-is, count-is)

  at-least : pages ≤ n
  at-least = omega (arith, count-is, pages-is)

  pub has-pages : rules.zones ≤ most_zones → HasPages tables first pages n
  has-pages few =
      let some : 1 ≤ pages = omega (arith, fits.some, pages-is) in
      let one_zone : bit_of first + n ≤ zone_pages = omega (arith, fits.within, ap bit_of first-is, count-is) in
      record {
        some = some;
        few = omega (arith, at-least);
        there = omega (arith, in-arena, at-least);
        more = omega (arith, at-least);
        one_zone = one_zone;
        bytes = bytes-run tables.memory first pages (λ page low high.
            ap (λ m. frames.is_held m page) stands.memory ∙ shelf-holds state page (sound.bytes page) ∙ each-held page low (omega (arith, at-least)));
        held = all-held rules tables state stands first n in-arena each-held;
      }

  -- once it has left

  abbrev left : State
  left = with_freed_pages rules block (without_block state block.address)

  abbrev freed : Tables
  freed = freed_run (freed_pages_filled rules first pages tables) run

  pub left-sound : IsSound rules left
  left-sound = freed_pages-sound rules (without_block state block.address) (without-sound rules state sound block.address block live) block

  pub left-stands : StandFor rules freed left
  unfolding with_freed_pages
  left-stands =
      let Gone : Run → Type 0 = λ r. StandFor rules (freed_run tables r) (without_block state block.address) in
      let Filled : Extent → Type 0 = λ e. StandFor rules (filled_by freed_byte e (freed_run tables run)) left in
      let goes = subst Gone run-is (block-goes rules tables state sound stands block live none) in
      subst Filled front-is (bytes-filled rules (freed_run tables run) (without_block state block.address) goes freed_byte front)

  pub left-held : left.held ≡ state.held
  unfolding with_freed_pages
  left-held = refl

  pub freed-free : table.AreAll kinds.is_free freed.pages first n
  freed-free = let long = stands.pages_all in with_run-all kinds.is_free tables.pages first n page_is.Free (omega (arith, in-arena)) refl first n (omega arith) (omega arith)

  -- its pages are a run that became free
  pub left-let_go : kept_or_let_go rules left run ≡ without_page_block rules state block
  left-let_go = ap (kept_or_let_go rules left) (sym run-is)

-- a state to which the core has come, in which the block is live
module _ {B A : Type 0} (g : broker.Ghosts B A) (old : Core) (b : B) (state : State) (come : HasComeTo g old b state) (block : Block) (on : IsPagesOf (rules_in old.state) state block)
    (first pages n : ℕ) (first_at : first ≡ page_at block.address) (pages_are : pages ≡ data_pages block.size) (n_is : n ≡ table.block_pages pages old.state.opts.guard) where
  abbrev rules : Rules
  rules = rules_in old.state

  abbrev tables : Tables
  tables = tables_in old.state

  abbrev sound : IsSound rules state
  sound = come-sound g old b state come

  abbrev own_run : Run
  own_run = record { first = first; count = n }

  pub come-pages : HasPages tables first pages n
  come-pages = has-pages rules tables state sound come.tables block on first pages n first_at pages_are n_is come.few_zones

  abbrev pub state_left : State
  state_left = with_freed_pages rules block (without_block state block.address)

  abbrev pub tables_left : Tables
  tables_left = freed_run (freed_pages_filled rules first pages tables) own_run

  -- its pages are free
  module _ (own : Holdings) (same : IsSameBut old.state own) (own_is : tables_in own ≡ tables_left) where
    pub left-come : HasComeTo g (record old { state = own }) b state_left
    left-come =
        let Stands : Tables → Type 0 = λ t. StandFor rules t state_left in
        come-changed g old b state come own state_left same
        (subst Stands (sym own_is) (left-stands rules tables state sound come.tables block on first pages n first_at pages_are n_is))
        (left-sound rules tables state sound come.tables block on first pages n first_at pages_are n_is)
        (left-held rules tables state sound come.tables block on first pages n first_at pages_are n_is)
        (freed_pages-drawn rules block (without_block state block.address))

    pub left-free : table.AreAll kinds.is_free own.pages first n
    left-free =
        let All : List PageKind → Type 0 = λ t. table.AreAll kinds.is_free t first n in
        subst All (sym (ap (λ (t : Tables). t.pages) own_is)) (freed-free rules tables state sound come.tables block on first pages n first_at pages_are n_is)

    pub leaves-block : (new : Core) (after : B) (release : Option Move) → LeavesTo g (record old { state = own }) new b after state_left (kept_or_let_go (rules_in own) state_left own_run) release
        → LeavesTo g old new b after state (without_page_block rules state block) release
    leaves-block new after release leaves =
        let ruled = same-rules old.state own same in
        leaves-from g old (record old { state = own }) new b after state state_left (kept_or_let_go (rules_in own) state_left own_run) (without_page_block rules state block) release ruled
        (left-held rules tables state sound come.tables block on first pages n first_at pages_are n_is)
        (ap (λ r. kept_or_let_go r state_left own_run) ruled ∙ left-let_go rules tables state sound come.tables block on first pages n first_at pages_are n_is) leaves
