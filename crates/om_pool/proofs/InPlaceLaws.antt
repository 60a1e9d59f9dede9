-- A page block comes to a new size at its address in the midst of a call: what is asked of its pages, and the state
-- to which the core has come then.
use Rattle.std.proofs.Common.{◌≡◌, ℕ, ◌+◌, ◌-◌, ◌*◌, ◌<◌, ◌≤◌, ◌==◌, Bool, true, false, if◌then◌else◌, List, Option, Some, None, refl, sym, ap, ◌∙◌, subst, arith}
use mathlib.Core.Logic.{⊎_elim}
use Rattle.om_broker.specs.declared.broker.Broker as broker
use Rattle.om_broker.specs.declared.broker.ClaimAt.TheVariants as at
use Rattle.om_frame.specs.Frames.{PageBytes}
use Rattle.om_geom.specs.Addresses.{bit_of, page_at}
use Rattle.om_geom.specs.Classes.{data_pages}
use Rattle.om_geom.specs.Numbers.{most_zones, zone_pages}
use Rattle.om_model.specs.Pool.Canaries.{with_canaries}
use Rattle.om_model.specs.Pool.Free.{kept_or_let_go}
use Rattle.om_model.specs.Pool.Junk.{fresh_byte, new_data, with_new_data}
use Rattle.om_model.specs.Pool.Realloc.{Resize, grown, resized, stayed, with_size}
use Rattle.om_model.specs.Pool.Resizing.{Way, Stays, Shrinks, Grows, Claims, last_pages, pages_after}
use Rattle.om_model.specs.Pool.Rules.{Rules, block_pages, size_class}
use Rattle.om_model.specs.Pool.Runs.{Run, run_of}
use Rattle.om_model.specs.Pool.Standing.{LivePlace, block_at, standing}
use Rattle.om_model.specs.Pool.State.{State, filled_with, with_pages, with_run}
use Rattle.om_model.specs.declared.block.Block.{Block}
use Rattle.om_model.specs.declared.block.Place.{Place}
use Rattle.om_model.specs.declared.entry.Move.{Move}
use Rattle.om_model.specs.declared.looks.Look.{Look}
use Rattle.om_model.proofs.Bytes.{canary-drawn, canary-sound, new_data-drawn, new_data-sound}
use Rattle.om_model.proofs.Realloc.{claims-resized, fewer-resized, grows-over, stays-resized}
use Rattle.om_model.proofs.Sound.{IsSound}
use Rattle.om_model.proofs.Ways.{AreWhole, IsBy, after-there, after-zone, way-by}
use Rattle.om_opts.specs.declared.options.Opts.{Opts}
use Rattle.om_pages.specs.Tables as table
use Rattle.om_pool.specs.Asking.{IsRunAsked}
use Rattle.om_pool.specs.Chunks.{HoldsPlace}
use Rattle.om_pool.specs.HoldingsView.{rules_in, tables_in, IsSameBut}
use Rattle.om_pool.specs.InPlace.{resize_to, ComesBy, HasWayUnderway, IsGrown, IsTaken, StandsWith}
use Rattle.om_pool.specs.Leaving.{LeavesTo}
use Rattle.om_pool.specs.Malloc.{IsOwnRun}
use Rattle.om_pool.specs.Resizing.{last_run, pages_grown_over, pages_shrunk, IsNextRun}
use Rattle.om_pool.specs.Tables.{Tables, StandFor}
use Rattle.om_pool.specs.Underway.{HasComeTo, HasHeld}
use Rattle.om_pool.specs.declared.blocks.Request.{Request}
use Rattle.om_pool.specs.declared.holdings.Holdings.{Holdings}
use Rattle.om_pool.specs.declared.pool_core.Core.{Core}
use Rattle.om_words.specs.DrawnWords.{WordSource}
use Rattle.om_pool.proofs.CoreLaws.{same-rules}
use Rattle.om_pool.proofs.GivenLaws.{given-frames, given-run}
use Rattle.om_pool.proofs.HeldLaws.{held-asked_at}
use Rattle.om_pool.proofs.LiveChunks.{standing-live}
use Rattle.om_pool.proofs.PlaceLeaving.{lives, place-bytes}
use Rattle.om_pool.proofs.ResizingPages.{HasFreed, block-in_arena, few-pages, grown-pages, last-freed, last-is, next-pages, own-pages}
use Rattle.om_pool.proofs.RunLeaving.{leaves-from}
use Rattle.om_pool.proofs.TableAnswers.{HasPlace}
use Rattle.om_pool.proofs.TableResizing.{pages-claim, pages-shrink}
use Rattle.om_pool.proofs.TableRuns.{guard-count}
use Rattle.om_pool.proofs.UnderwayLaws.{come-again, come-changed, come-sound}

-- ---- what is asked of the pages, where the tables stand for a state in which the block comes to the size

-- what is so where it comes to it in this way
pub by-way : (rules : Rules) (state : State) (block : Block) (size : ℕ) (by : Way) → ComesBy rules state block size by → IsBy rules state block size by
by-way rules state block size by on = let By : Way → Type 0 = IsBy rules state block size in subst By on.way_is (way-by rules state block size)

pub record AsksMore (own : Holdings) (block : Block) (size : ℕ) : Type 0 where
  pub low : page_at block.address < zone_pages * most_zones
  pub more : data_pages block.size < data_pages size
  pub few : data_pages size ≤ zone_pages
  pub run : IsOwnRun own (table.block_pages (data_pages size) own.opts.guard) (page_at block.address)

pub record AsksFewer (own : Holdings) (block : Block) (size : ℕ) : Type 0 where
  pub low : page_at block.address < zone_pages * most_zones
  pub fewer : data_pages size < data_pages block.size
  pub few : data_pages block.size ≤ zone_pages
  pub run : IsOwnRun own (table.block_pages (data_pages block.size) own.opts.guard) (page_at block.address)

-- of the pages that it has, before those after it come
pub record AsksAfter (own : Holdings) (block : Block) (size : ℕ) : Type 0 where
  pub low : page_at block.address < zone_pages * most_zones
  pub more : data_pages block.size < data_pages size
  pub few : data_pages size ≤ zone_pages
  pub after : (pages_after (rules_in own) block size).first + (pages_after (rules_in own) block size).count ≤ zone_pages * own.zones
  pub one_zone : bit_of (pages_after (rules_in own) block size).first + (pages_after (rules_in own) block size).count ≤ zone_pages
  pub run : IsOwnRun own (table.block_pages (data_pages block.size) own.opts.guard) (page_at block.address)

module _ (own : Holdings) (state : State) (is : IsSound (rules_in own) state) (stands : StandFor (rules_in own) (tables_in own) state) (few : own.zones ≤ most_zones) (block : Block) (size : ℕ) where
  pub low-page : block_at state block.address ≡ Some block → page_at block.address < zone_pages * most_zones
  low-page live = let here = block-in_arena (rules_in own) state is block live in omega arith

  pub asks-fewer : ComesBy (rules_in own) state block size Shrinks → AsksFewer own block size
  asks-fewer on =
      let how = by-way (rules_in own) state block size Shrinks on in
      let whole = how.0 in
      record {
        low = low-page on.live;
        fewer = how.1;
        few = (few-pages own state is stands few block on.live whole.old).1;
        run = own-pages own state is stands few block on.live whole.old;
      }

  pub asks-more : ComesBy (rules_in own) state block size Grows → AsksMore own block size
  asks-more on =
      let how = by-way (rules_in own) state block size Grows on in
      let goes = how.0 in
      let zone = goes.zone in
      record {
        low = low-page on.live;
        more = goes.more;
        few = omega arith;
        run = grown-pages own state is stands few block on.live size 0 goes how.1 on.fits;
      }

  pub asks-after : ComesBy (rules_in own) state block size Claims → AsksAfter own block size
  asks-after on =
      let how = by-way (rules_in own) state block size Claims on in
      let goes = how.0 in
      let whole = goes.whole in
      let zone = goes.zone in
      record {
        low = low-page on.live;
        more = goes.more;
        few = omega arith;
        after = after-there (rules_in own) block size goes (block-in_arena (rules_in own) state is block on.live);
        one_zone = after-zone (rules_in own) block size goes;
        run = own-pages own state is stands few block on.live whole.old;
      }

-- it stays, by the class of its new size
module _ (own : Holdings) (state : State) (is : IsSound (rules_in own) state) (stands : StandFor (rules_in own) (tables_in own) state) (block : Block) (size : ℕ) (on : ComesBy (rules_in own) state block size Stays) where
  stays-class : (class : ℕ) → size_class (rules_in own) size ≡ Some class → size_class (rules_in own) block.size ≡ Some class
  stays-class class class_is = ⊎_elim
      (λ have. let same : Some have.class ≡ Some class = sym have.new ∙ class_is in have.old ∙ same)
      (λ both. let whole = both.0 in let isnt : None ≡ Some class = sym whole.new ∙ class_is in cc)
      (by-way (rules_in own) state block size Stays on)

  pub stays-pages : size_class (rules_in own) size ≡ None → AreWhole (rules_in own) block size × (data_pages size ≡ data_pages block.size)
  stays-pages none = ⊎_elim
      (λ have. let isnt : Some have.class ≡ None = sym have.new ∙ none in cc)
      (λ both. both)
      (by-way (rules_in own) state block size Stays on)

  module _ (class : ℕ) (class_is : size_class (rules_in own) size ≡ Some class) where
    abbrev place : Place
    place = record { address = block.address; class = class }

    stands-there : standing (rules_in own) state block.address ≡ LivePlace place block
    stands-there = standing-live (rules_in own) state is block on.live class (stays-class class class_is)

    pub stays-place : HasPlace (rules_in own) (tables_in own) state block.address place block
    stays-place = lives (rules_in own) (tables_in own) state is stands block.address place block stands-there

    pub stays-bytes : HoldsPlace own.shelf place
    stays-bytes = place-bytes (rules_in own) (tables_in own) state is stands block.address place block stands-there

-- a guard is one page
pub count-most : (pages : ℕ) (guards : Bool) → table.block_pages pages guards ≤ pages + 1
count-most pages true = omega arith
count-most pages false = omega arith

-- ---- the state to which the core has come then

pub new_data-held : (rules : Rules) (block : Block) (size : ℕ) (state : State) → (with_new_data rules block size state).held ≡ state.held
unfolding with_new_data
new_data-held rules block size state = by (rules.options.junk == 2)
  where
    by : (b : Bool) → (if b then filled_with fresh_byte (new_data block size) state else state).held ≡ state.held
    by true = refl
    by false = refl

module _ {B A : Type 0} (g : broker.Ghosts B A) (old : Core) (b : B) (block : Block) (size : ℕ) where
  abbrev asks : (state : State) → HasComeTo g old b state → IsSound (rules_in old.state) state
  asks state come = come-sound g old b state come

  pub underway-fewer : HasWayUnderway g old b block size Shrinks → AsksFewer old.state block size
  underway-fewer on = let come = on.1 in asks-fewer old.state on.0 (asks on.0 come) come.tables come.few_zones block size on.2

  pub underway-after : HasWayUnderway g old b block size Claims → AsksAfter old.state block size
  underway-after on = let come = on.1 in asks-after old.state on.0 (asks on.0 come) come.tables come.few_zones block size on.2

-- the first page of the block, so many data pages that it had, and so many that it has
module _ {B A : Type 0} (g : broker.Ghosts B A) (old : Core) (b : B) (state : State) (come : HasComeTo g old b state) (block : Block) (size site : ℕ)
    (first had has : ℕ) (first_is : first ≡ page_at block.address) (had_is : had ≡ data_pages block.size) (has_is : has ≡ data_pages size) where
  abbrev rules : Rules
  rules = rules_in old.state

  abbrev tables : Tables
  tables = tables_in old.state

  abbrev is : IsSound rules state
  is = come-sound g old b state come

  abbrev request : Request
  request = record { size = size; site = site }

  abbrev what : Resize
  what = resize_to block size site

  -- a table that depends on these numbers
  numbers : (T : ℕ → ℕ → ℕ → Tables) → T first had has ≡ T (page_at block.address) (data_pages block.size) (data_pages size)
  numbers T = ap (λ f. T f had has) first_is ∙ ap (λ n. T (page_at block.address) n has) had_is ∙ ap (T (page_at block.address) (data_pages block.size)) has_is

  -- ---- fewer pages are its own, and the last ones are free

  module _ (on : ComesBy rules state block size Shrinks) (own : Holdings) (same : IsSameBut old.state own) (own_is : tables_in own ≡ pages_shrunk rules tables first had has request) (kept : ℕ) (kept_is : kept ≡ table.block_pages has own.opts.guard) where
    abbrev how : IsBy rules state block size Shrinks
    how = by-way rules state block size Shrinks on

    abbrev fewer : State
    fewer = resized what state

    abbrev mid : Core
    mid = record old { state = own }

    abbrev last : Run
    last = record { first = first + kept; count = had - has }

    last-run : last ≡ last_run rules (page_at block.address) (data_pages block.size) (data_pages size)
    last-run =
        let count : kept ≡ table.block_pages (data_pages size) rules.options.guard = kept_is ∙ ap (table.block_pages has) (ap (λ (o : Opts). o.guard) same.opts) ∙ ap (λ n. table.block_pages n rules.options.guard) has_is in
        ap (λ f. let r : Run = record { first = f + kept; count = had - has } in r) first_is
        ∙ ap (λ k. let r : Run = record { first = page_at block.address + k; count = had - has } in r) count
        ∙ ap (λ n. let r : Run = record { first = page_at block.address + table.block_pages (data_pages size) rules.options.guard; count = n - has } in r) had_is
        ∙ ap (λ n. let r : Run = record { first = page_at block.address + table.block_pages (data_pages size) rules.options.guard; count = data_pages block.size - n } in r) has_is

    shrunk-is : tables_in own ≡ pages_shrunk rules tables (page_at block.address) (data_pages block.size) (data_pages size) request
    shrunk-is = own_is ∙ numbers (λ f n m. pages_shrunk rules tables f n m request)

    pub shrunk-come : HasComeTo g mid b fewer
    shrunk-come =
        let whole = how.0 in
        let less = how.1 in
        let Stands : Tables → Type 0 = λ t. StandFor rules t fewer in
        come-changed g old b state come own fewer same
        (subst Stands (sym shrunk-is) (pages-shrink rules tables state is come.tables block on.live size site on.fits whole less))
        (fewer-resized rules state is what on.live whole on.fits (omega arith)) refl refl

    pub shrunk-last : HasFreed state (tables_in own) last
    shrunk-last =
        let last_is = last-run in
        let Of : Tables → Type 0 = λ t. HasFreed state t last in
        let Has : Run → Type 0 = λ r. HasFreed state (pages_shrunk rules tables (page_at block.address) (data_pages block.size) (data_pages size) request) r in
        subst Of (sym shrunk-is) (subst Has (sym last_is) (last-freed old.state state is come.tables come.few_zones block on.live size how.0 how.1 request))

    pub shrunk-leaves : (new : Core) (after : B) (release : Option Move) → LeavesTo g mid new b after fewer (kept_or_let_go (rules_in own) fewer last) release
        → LeavesTo g old new b after state (kept_or_let_go rules fewer (last_pages rules block size)) release
    shrunk-leaves new after release leaves =
        let ruled = same-rules old.state own same in
        leaves-from g old mid new b after state fewer (kept_or_let_go (rules_in own) fewer last) (kept_or_let_go rules fewer (last_pages rules block size)) release ruled refl
        (ap (λ r. kept_or_let_go r fewer last) ruled ∙ ap (kept_or_let_go rules fewer) (last-run ∙ last-is old.state state is come.tables come.few_zones block on.live size)) leaves

  -- ---- the pages after it are claimed

  module _ (on : ComesBy rules state block size Claims) (kept : ℕ) (kept_is : kept ≡ table.block_pages had old.state.opts.guard) where
    abbrev goes-on : IsBy rules state block size Claims
    goes-on = by-way rules state block size Claims on

    abbrev run : Run
    run = pages_after rules block size

    abbrev next_pages : Run
    next_pages = record { first = first + kept; count = has - had }

    pub next-run : next_pages ≡ run
    next-run =
        let count : kept ≡ block_pages rules block.size = kept_is ∙ ap (λ n. table.block_pages n rules.options.guard) had_is ∙ sym (guard-count (data_pages block.size) rules.options.guard) in
        ap (λ f. let r : Run = record { first = f + kept; count = has - had } in r) first_is
        ∙ ap (λ k. let r : Run = record { first = page_at block.address + k; count = has - had } in r) count
        ∙ ap (λ n. let r : Run = record { first = page_at block.address + block_pages rules block.size; count = n - had } in r) has_is
        ∙ ap (λ n. let r : Run = record { first = page_at block.address + block_pages rules block.size; count = data_pages size - n } in r) had_is

    module _ (after : B) where
      -- one of them was held
      pub taken-come : (look : Look) → IsRunAsked g b after next_pages (at.Taken look) → IsTaken g old old b after state block size look
      taken-come look found =
          let Asked : Run → Type 0 = λ r. IsRunAsked g b after r (at.Taken look) in
          let asked = subst Asked next-run found in
          record {
            asked = asked;
            come = come-again g old b state come old after state refl refl (asked.same).arena come.tables is come.drawn (held-asked_at g b after (Some run) state.held come.held (Some (at.Taken look)) asked);
            unchanged = refl;
          }

      module _ (move : Move) (frames : List PageBytes) (found : IsRunAsked g b after next_pages (at.Claimed move frames)) where
        asked : IsRunAsked g b after run (at.Claimed move frames)
        asked = let Asked : Run → Type 0 = λ r. IsRunAsked g b after r (at.Claimed move frames) in subst Asked next-run found

        pub claimed-next : IsNextRun old.state first had has frames
        claimed-next =
            let Next : ℕ → ℕ → ℕ → Type 0 = λ f n m. IsNextRun old.state f n m frames in
            subst (λ f. Next f had has) (sym first_is) (subst (λ n. Next (page_at block.address) n has) (sym had_is) (subst (Next (page_at block.address) (data_pages block.size)) (sym has_is)
            (next-pages old.state state is come.tables come.few_zones block on.live size goes-on.0 goes-on.1 frames (given-frames g b after run move frames asked))))

        pub grown-come : (own : Holdings) → IsSameBut old.state own → tables_in own ≡ pages_grown_over rules tables first had has request → IsGrown g old (record old { state = own }) b after state block size site move
        grown-come own same own_is =
            let wide = with_pages run state in
            let wider = resized what wide in
            let next = (grown rules wide what).next in
            let grown_is = own_is ∙ numbers (λ f n m. pages_grown_over rules tables f n m request) in
            let Stands : Tables → Type 0 = λ t. StandFor rules t next in
            let Held : List ℕ → Type 0 = λ held. HasHeld g held after in
            let held_is : with_run (run_of move) state.held ≡ next.held = ap (λ r. with_run r state.held) (given-run g b after run move frames asked) ∙ sym (new_data-held rules block size wider) in
            record {
              frames = frames;
              asked = asked;
              come = come-again g old b state come (record old { state = own }) after next (same-rules old.state own same) refl (asked.same).arena
                  (subst Stands (sym grown_is) (pages-claim rules tables state is come.tables block on.live size site on.fits goes-on.0 goes-on.1))
                  (new_data-sound rules wider (claims-resized rules state is what on.live goes-on.0 goes-on.1 on.fits) block size)
                  (ap (λ (w : WordSource). w.place) same.words ∙ come.drawn ∙ sym (new_data-drawn rules block size wider))
                  (subst Held held_is (held-asked_at g b after (Some run) state.held come.held (Some (at.Claimed move frames)) asked));
              rules = same-rules old.state own same;
            }

-- ---- the holdings alone have changed: it stays, or grows over pages of the pool

pub canary-held : (rules : Rules) (block : Block) (state : State) → (with_canaries rules block state).held ≡ state.held
unfolding with_canaries
canary-held _ block state = refl

module _ {B A : Type 0} (g : broker.Ghosts B A) (old : Core) (b : B) (state : State) (come : HasComeTo g old b state) (block : Block) (size site : ℕ) (own : Holdings) (same : IsSameBut old.state own) where
  abbrev ruled : Rules
  ruled = rules_in old.state

  abbrev asked_for : Resize
  asked_for = resize_to block size site

  abbrev changed : State
  changed = resized asked_for state

  -- such a state stands with the tables
  pub stands-with : (by : Way) → ComesBy ruled state block size by → StandsWith ruled (tables_in old.state) state block size by
  stands-with by on = record { stands = come.tables; well_formed = come.well_formed; comes = on }

  pub stayed-come : ComesBy ruled state block size Stays → StandFor ruled (tables_in own) ((stayed ruled state asked_for).next) → HasComeTo g (record old { state = own }) b ((stayed ruled state asked_for).next)
  stayed-come on stands =
      let is = come-sound g old b state come in
      let sound_then = stays-resized ruled state is asked_for on.live on.fits (by-way ruled state block size Stays on) in
      come-changed g old b state come own ((stayed ruled state asked_for).next) same stands (canary-sound ruled changed sound_then (with_size asked_for))
      (canary-held ruled (with_size asked_for) changed) (canary-drawn ruled (with_size asked_for) changed)

  pub grows-come : ComesBy ruled state block size Grows → StandFor ruled (tables_in own) ((grown ruled state asked_for).next) → HasComeTo g (record old { state = own }) b ((grown ruled state asked_for).next)
  grows-come on stands =
      let is = come-sound g old b state come in
      let how = by-way ruled state block size Grows on in
      let sound_then = grows-over ruled state is asked_for on.live how.0 how.1 on.fits in
      come-changed g old b state come own ((grown ruled state asked_for).next) same stands (new_data-sound ruled changed sound_then block size)
      (new_data-held ruled block size changed) (new_data-drawn ruled block size changed)
