-- What the code asks of the pages of a live block that comes to a new size at its address, and of those that it frees.
use Rattle.std.proofs.Common.{◌≡◌, ℕ, ◌+◌, ◌-◌, ◌*◌, ◌<◌, ◌≤◌, true, false, List, Option, Some, None, refl, sym, ap, ◌∙◌, subst, arith}
use Rattle.std.specs.List.{AllByRecursion}
use Rattle.om_frame.specs.Frames.{AreHeld, PageBytes, zero_frames}
use Rattle.om_frame.specs.Memory as frames
use Rattle.om_geom.specs.Addresses.{bit_of, page_at}
use Rattle.om_geom.specs.Classes.{data_pages}
use Rattle.om_geom.specs.Numbers.{most_zones, zone_pages}
use Rattle.om_model.specs.Pool.InUse.{Pages, Use, data_of, use_of_place, uses_by_class, uses}
use Rattle.om_model.specs.Pool.Malloc.{is_too_large}
use Rattle.om_model.specs.Pool.Picks.{is_free_run}
use Rattle.om_model.specs.Pool.Resizing.{holds_some, last_pages, pages_after}
use Rattle.om_model.specs.Pool.Rules.{Rules, size_class, block_pages}
use Rattle.om_model.specs.Pool.Runs.{Run}
use Rattle.om_model.specs.Pool.Standing.{block_at}
use Rattle.om_model.specs.Pool.State.{State, is_held}
use Rattle.om_model.specs.declared.block.Block.{Block}
use Rattle.om_model.proofs.Each.{none-range}
use Rattle.om_model.proofs.Free.{block-placed}
use Rattle.om_model.proofs.Realloc.{grows-over}
use Rattle.om_model.proofs.Sound.{IsPlaced, IsSound, touches-first}
use Rattle.om_model.proofs.Ways.{AreWhole, GoesOn, after-count, after-there}
use Rattle.om_pages.specs.Kinds as kinds
use Rattle.om_pages.specs.TableLaws.{with_run-all}
use Rattle.om_pages.specs.Tables as table
use Rattle.om_pages.specs.declared.kind.PageKind.TheVariants as page_is
use Rattle.om_pool.specs.HoldingsView.{rules_in, tables_in}
use Rattle.om_pool.specs.InPlace.{resize_to}
use Rattle.om_pool.specs.Malloc.{IsOwnRun}
use Rattle.om_pool.specs.Resizing.{last_run, next_run, pages_shrunk, IsNextRun}
use Rattle.om_pool.specs.Tables.{Tables, StandFor}
use Rattle.om_pool.specs.declared.blocks.Request.{Request}
use Rattle.om_pool.specs.declared.holdings.Holdings.{Holdings}
use Rattle.om_pool.proofs.TableBlocks.{block-fits, block-held}
use Rattle.om_pool.proofs.TablePages.{all-absent, all-held}
use Rattle.om_pool.proofs.TableResizing.{new-run}
use Rattle.om_pool.proofs.TableRuns.{count-more, data-within, guard-count, length-with_block}
use Rattle.om_pool.proofs.TableTies.{shelf-holds}

-- a live block begins in the arena
pub block-in_arena : (rules : Rules) (state : State) (is : IsSound rules state) (block : Block) → block_at state block.address ≡ Some block → page_at block.address < zone_pages * rules.zones
block-in_arena rules state is block live = by (size_class rules block.size) (block-placed rules state is block.address block live)
  where
    by : (class : Option ℕ) → AllByRecursion (IsPlaced rules state.held) (uses_by_class rules block class) → page_at block.address < zone_pages * rules.zones
    by (Some class) all =
        let own : Use = use_of_place (record { address = block.address; class = class }) in
        let placed = all.0 in
        placed.there (page_at block.address) (touches-first own placed.shape)
    by None all =
        let own : Use = record { extent = data_of block; kind = Pages } in
        let placed = all.0 in
        placed.there (page_at block.address) (touches-first own placed.shape)

-- pages that became free, and that are held
pub record HasFreed (state : State) (tables : Tables) (run : Run) : Type 0 where
  pub some : 1 ≤ run.count
  pub one_zone : bit_of run.first + run.count ≤ zone_pages
  pub free : table.AreAll kinds.is_free tables.pages run.first run.count
  pub held : AreHeld tables.memory run.first run.count
  pub each : (page : ℕ) → run.first ≤ page → page < run.first + run.count → is_held state.held page ≡ true

module _ (own : Holdings) (state : State) (is : IsSound (rules_in own) state) (stands : StandFor (rules_in own) (tables_in own) state) (few : own.zones ≤ most_zones) where
  abbrev rules : Rules
  rules = rules_in own

  abbrev tables : Tables
  tables = tables_in own

  shelf-has : (page : ℕ) → is_held state.held page ≡ true → frames.is_held own.shelf page ≡ true
  shelf-has page held = ap (λ m. frames.is_held m page) stands.memory ∙ shelf-holds state page (is.bytes page) ∙ held

  -- held pages of one zone
  own-run : (first count : ℕ) → 1 ≤ count → bit_of first + count ≤ zone_pages → first + count ≤ zone_pages * rules.zones → ((page : ℕ) → first ≤ page → page < first + count → is_held state.held page ≡ true) → IsOwnRun own count first
  own-run first count some zone there held = record {
    there = omega arith;
    one_zone = zone;
    held = all-held rules tables state stands first count there held;
    in_blocks = omega (arith, stands.blocks_all);
    bytes = λ page low high. shelf-has page (held page low high);
  }

  module _ (block : Block) (live : block_at state block.address ≡ Some block) where
    abbrev first : ℕ
    first = page_at block.address

    abbrev old : ℕ
    old = data_pages block.size

    -- the pages that it has
    module _ (none : size_class rules block.size ≡ None) where
      old-count : block_pages rules block.size ≡ table.block_pages old own.opts.guard
      old-count = guard-count old own.opts.guard

      pub few-pages : (1 ≤ old) × (old ≤ zone_pages)
      few-pages =
          let fit = block-fits rules state is block live none in
          let within = fit.within in
          (fit.some, omega (arith, old-count, data-within old own.opts.guard))

      pub own-pages : IsOwnRun own (table.block_pages old own.opts.guard) first
      own-pages =
          let fit = block-fits rules state is block live none in
          let some = fit.some in
          let within = fit.within in
          let there = fit.there in
          own-run first (table.block_pages old own.opts.guard) (omega (arith, old-count, data-within old own.opts.guard)) (omega (arith, old-count)) (omega (arith, old-count))
          (λ page low high. block-held rules state is block live none page low (omega (arith, old-count)))

    module _ (size : ℕ) where
      abbrev new : ℕ
      new = data_pages size

      new-count : block_pages rules size ≡ table.block_pages new own.opts.guard
      new-count = guard-count new own.opts.guard

      -- it goes on over pages of the pool
      pub grown-pages : (site : ℕ) → GoesOn rules block size → is_free_run (uses rules state) state.held (pages_after rules block size).count (pages_after rules block size).first ≡ true → is_too_large rules size ≡ false
          → IsOwnRun own (table.block_pages new own.opts.guard) first
      grown-pages site on free fits =
          let whole = on.whole in
          let more = on.more in
          let run = new-run rules tables state is stands block live whole.old size site whole.new (grows-over rules state is (resize_to block size site) live on free fits) in
          let zone = run.zone in
          let there = run.there in
          own-run first (table.block_pages new own.opts.guard) (omega (arith, data-within new own.opts.guard)) (omega (arith, new-count)) (omega (arith, new-count))
          (λ page low high. run.held_is page low (omega (arith, new-count)))

      -- it goes on over claimed ones
      pub next-is : pages_after rules block size ≡ next_run rules first old new
      next-is = ap (λ n. let run : Run = record { first = first + n; count = new - old } in run) (guard-count old own.opts.guard)

      pub next-pages : GoesOn rules block size → holds_some state (pages_after rules block size) ≡ false → (claimed : List PageBytes) → claimed ≡ zero_frames (pages_after rules block size).first (pages_after rules block size).count
          → IsNextRun own first old new claimed
      next-pages on unheld claimed claimed_is =
          let whole = on.whole in
          let more = on.more in
          let zone = on.zone in
          let fit = block-fits rules state is block live whole.old in
          let some = fit.some in
          let within = fit.there in
          let count = after-count rules block size on in
          let run = pages_after rules block size in
          let there = after-there rules block size on (omega arith) in
          let fresh = all-absent rules tables state stands run.first run.count there (none-range (is_held state.held) run.first run.count unheld) in
          record {
            there = omega (arith, new-count);
            one_zone = omega (arith, new-count);
            fresh = subst (λ r. table.AreAll kinds.is_absent own.pages r.first r.count) next-is fresh;
            frames_are = subst (λ r. claimed ≡ zero_frames r.first r.count) next-is claimed_is;
          }

      -- it gives its last pages up
      pub last-is : last_run rules first old new ≡ last_pages rules block size
      last-is = ap (λ n. let run : Run = record { first = first + n; count = old - new } in run) (sym (guard-count new own.opts.guard))

      pub last-freed : AreWhole rules block size → new < old → (request : Request) → HasFreed state (pages_shrunk rules tables first old new request) (last_run rules first old new)
      last-freed whole fewer request =
          let fit = block-fits rules state is block live whole.old in
          let within = fit.within in
          let there = fit.there in
          let guards = own.opts.guard in
          let kept = table.block_pages new guards in
          let gives = old - new in
          let count = count-more new old guards (omega arith) in
          let each : (page : ℕ) → first + kept ≤ page → page < first + kept + gives → is_held state.held page ≡ true =
          λ page low high. block-held rules state is block live whole.old page (omega arith) (omega (arith, guard-count old guards)) in
          let set = table.with_block own.pages first new guards in
          record {
            some = omega arith;
            one_zone = omega (arith, guard-count old guards);
            free = with_run-all kinds.is_free set (first + kept) gives page_is.Free (omega (arith, length-with_block own.pages first new guards, stands.pages_all, guard-count old guards)) refl (first + kept) gives (omega arith) (omega arith);
            held = λ page low high. shelf-has page (each page low high);
            each = each;
          }
