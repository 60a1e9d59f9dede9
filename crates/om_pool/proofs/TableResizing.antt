-- Tables stand for the state when a block of whole pages comes to a new size at its address: its pages are what they
-- become where it leaves and comes again.
use Rattle.std.proofs.Common.{◌≡◌, ℕ, ◌+◌, ◌-◌, ◌*◌, ◌<◌, ◌≤◌, ◌⊎◌, Bool, true, false, not, ◌==◌, if◌then◌else◌, List, [], ◌∷◌, ◌++◌, length, Some, None, cond, refl, sym, ap, ◌∙◌, subst, arith}
use Rattle.std.specs.Prelude.{slice_set}
use Rattle.std.specs.List.{filter, find, flat_map, list_any, AllByRecursion}
use Rattle.std.proofs.lemmas.Bool.{true≢false, cases_Bool, eq-eqb}
use mathlib.Core.Logic.{⊎_elim}
use Rattle.om_geom.specs.AddressLaws.{SharesByte-true}
use Rattle.om_geom.specs.Addresses.{address_of, page_at, page_extent}
use Rattle.om_geom.specs.Classes.{data_pages}
use Rattle.om_geom.specs.Numbers.{page_size, zone_pages}
use Rattle.om_geom.specs.declared.address.Extent.{Extent}
use Rattle.om_model.specs.Pool.Free.{without_block}
use Rattle.om_model.specs.Pool.InUse.{Use, uses_of_block, uses, touches, page_kind}
use Rattle.om_model.specs.Pool.Junk.{fresh_byte}
use Rattle.om_model.specs.Pool.Malloc.{is_too_large, with_block}
use Rattle.om_model.specs.Pool.Picks.{is_free_run}
use Rattle.om_model.specs.Pool.Junk.{new_data, with_new_data}
use Rattle.om_model.specs.Pool.Realloc.{grown, resized, stayed, with_size}
use Rattle.om_model.specs.Pool.Resizing.{holds_some, pages_after}
use Rattle.om_model.specs.Pool.Rules.{Rules, size_class, block_pages}
use Rattle.om_model.specs.Pool.Runs.{Run}
use Rattle.om_model.specs.Pool.Standing.{block_at}
use Rattle.om_model.specs.Pool.State.{State, filled_with, is_held, with_pages}
use Rattle.om_model.specs.declared.block.Block.{Block}
use Rattle.om_model.proofs.Each.{all-find, all-weaker, any-none, none-any, none-range, pairs-across, pairs-first, pairs-second}
use Rattle.om_model.proofs.Flat.{all-flat}
use Rattle.om_model.proofs.Free.{own_run, without-sound}
use Rattle.om_model.proofs.Malloc.{whole_data, whole_guard}
use Rattle.om_model.proofs.Places.{HasRun}
use Rattle.om_model.proofs.Realloc.{claims-resized, claims-wide, fewer-resized, grows-over}
use Rattle.om_model.proofs.Sound.{GoTogether, IsSound, IsWhole, whole-touched}
use Rattle.om_model.proofs.Ways.{AreWhole, GoesOn}
use Rattle.om_model.specs.Pool.WellFormed.{EachPair}
use Rattle.om_pages.specs.Kinds as kinds
use Rattle.om_pages.specs.TableLaws.{length-with_run, kind_of-with_run_out, kind_of-with_block_data, kind_of-with_block_out}
use Rattle.om_pages.specs.Tables as table
use Rattle.om_pages.specs.declared.kind.PageKind.{PageKind}
use Rattle.om_pages.specs.declared.kind.PageKind.TheVariants as page_is
use Rattle.om_pool.specs.InPlace.{resize_to}
use Rattle.om_pool.specs.Resizing.{new_pages, next_run, pages_grown, pages_grown_over, pages_shrunk, pages_stayed}
use Rattle.om_pool.specs.TableSteps.{claimed_run, filled_by, freed_run, with_page_block}
use Rattle.om_pool.specs.Tables.{Tables, StandFor, block_on, data_kind, guard_kind, kind_by, kind_in}
use Rattle.om_pool.specs.declared.blocks.Request.{Request}
use Rattle.om_pool.proofs.Fills.{no-canaries}
use Rattle.om_pool.proofs.TableBlocks.{block-comes, block-fits, block-goes, block-held, was-data, was-guard}
use Rattle.om_pool.proofs.TablePages.{bytes-filled, pages-come}
use Rattle.om_pool.proofs.TableRuns.{data-within, guard-count, kind_of-guard, length-with_block, set-narrower, set-wider, tables-agree}
use Rattle.om_pool.proofs.WholeBlocks.{spot, front, guard, data-touched, guard-touched, of-data, of-guard}

-- ---- a block leaves, and comes again with another size

module _ (state : State) (block : Block) (size site : ℕ) where
  abbrev again : Block
  again = with_size (resize_to block size site)

  abbrev begins_here : Block → Bool
  begins_here other = other.address == block.address

  abbrev others : List Block → List Block
  others live = filter (λ other. not (begins_here other)) live

  others-again : (live : List Block) → others (others live ++ again ∷ []) ≡ others live
  others-again [] = ap (λ b. cond (not b) (again ∷ []) []) (eq-eqb block.address block.address refl)
  others-again (x ∷ xs) = by (begins_here x) refl (others-again xs)
    where
      by : (b : Bool) → begins_here x ≡ b → others (others xs ++ again ∷ []) ≡ others xs → others (cond (not b) (x ∷ others xs) (others xs) ++ again ∷ []) ≡ cond (not b) (x ∷ others xs) (others xs)
      by true is rest = rest
      by false is rest = ap (λ b. cond (not b) (x ∷ others (others xs ++ again ∷ [])) (others (others xs ++ again ∷ []))) is ∙ ap (λ ys. x ∷ ys) rest

  -- without it nothing is there but what was there without the old one
  left-again : without_block (resized (resize_to block size site) state) block.address ≡ without_block state block.address
  left-again = ap (λ (live : List Block). record state { live = live }) (others-again state.live)

  again-found : (live : List Block) → find begins_here (others live ++ again ∷ []) ≡ Some again
  again-found [] = ap (λ b. cond b (Some again) None) (eq-eqb block.address block.address refl)
  again-found (x ∷ xs) = by (begins_here x) refl (again-found xs)
    where
      by : (b : Bool) → begins_here x ≡ b → find begins_here (others xs ++ again ∷ []) ≡ Some again → find begins_here (cond (not b) (x ∷ others xs) (others xs) ++ again ∷ []) ≡ Some again
      by true is rest = rest
      by false is rest = ap (λ b. cond b (Some x) (find begins_here (others xs ++ again ∷ []))) is ∙ rest

  -- it stands where it stood
  pub resized-found : block_at (resized (resize_to block size site) state) block.address ≡ Some again
  resized-found = again-found state.live

-- ---- the live block that a page is of

-- what is apart from something that has the whole page doesn't touch it
apart-untouched : (one : Use) (on : IsWhole one) (page : ℕ) → touches page one ≡ true → (other : Use) → GoTogether other one → touches page other ≡ false
apart-untouched one on page touched other both = ⊎_elim
    (λ (t : touches page other ≡ true).
    let shared = SharesByte-true (page_extent page) other.extent t in
    let here = shared.1 in
    let within = whole-touched one on page touched in
    let first = on.first_is in
    let len = on.len_is in
    absurd (both.apart (shared.0, shared.2, (omega arith, omega arith))))
    (λ f. f)
    (cases_Bool (touches page other))

-- a page that the block has whole is of no other
module _ (rules : Rules) (page : ℕ) (block : Block) (one : Use) (whole : IsWhole one) (touched : touches page one ≡ true) (of-own : (P : Use → Type 0) → AllByRecursion P (uses_of_block rules block) → P one) where
  abbrev on : Block → Bool
  on other = list_any (touches page) (uses_of_block rules other)

  own-on : on block ≡ true
  own-on = ⊎_elim
      (λ t. t)
      (λ f. absurd (true≢false (sym touched ∙ of-own (λ u. touches page u ≡ false) (none-any (touches page) (uses_of_block rules block) f))))
      (cases_Bool (on block))

  found-on : (live : List Block) → EachPair GoTogether (flat_map (uses_of_block rules) live) → find (λ (b : Block). b.address == block.address) live ≡ Some block → find on live ≡ Some block
  found-on [] pairs found = cc
  found-on (x ∷ xs) pairs found = ⊎_elim
      (λ (t : (x.address == block.address) ≡ true).
      let here : Some x ≡ Some block = rw t at found in
      let same : x ≡ block = cc in
      ap (λ b. cond b (Some x) (find on xs)) (ap on same ∙ own-on) ∙ here)
      (λ (f : (x.address == block.address) ≡ false).
      let has = uses_of_block rules in
      let there : find (λ (b : Block). b.address == block.address) xs ≡ Some block = rw f at found in
      let clear = all-weaker (λ u. AllByRecursion (GoTogether u) (flat_map has xs)) (λ u. touches page u ≡ false) (has x)
      (λ u all. apart-untouched one whole page touched u
      (of-own (GoTogether u) (all-find (λ b. AllByRecursion (GoTogether u) (has b)) (λ (b : Block). b.address == block.address) xs block (all-flat has (GoTogether u) xs all) there)))
      (pairs-across GoTogether (has x) (flat_map has xs) pairs) in
      ap (λ b. cond b (Some x) (find on xs)) (any-none (touches page) (has x) clear) ∙ found-on xs (pairs-second GoTogether (has x) (flat_map has xs) pairs) there)
      (cases_Bool (x.address == block.address))

module _ (rules : Rules) (tables : Tables) (state : State) (is : IsSound rules state) (stands : StandFor rules tables state) (block : Block) (live : block_at state block.address ≡ Some block) (none : size_class rules block.size ≡ None) where
  abbrev first : ℕ
  first = page_at block.address

  abbrev guards : Bool
  guards = rules.options.guard

  abbrev old : ℕ
  old = data_pages block.size

  begins : block.address ≡ address_of first
  begins = (block-fits rules state is block live none).begins

  old-count : block_pages rules block.size ≡ table.block_pages old guards
  old-count = guard-count old guards

  live-pairs : EachPair GoTogether (flat_map (uses_of_block rules) state.live)
  live-pairs = let sound = is.sound in pairs-first GoTogether (flat_map (uses_of_block rules) state.live) _ sound.together

  module _ (page : ℕ) where
    is-data : first ≤ page → page < first + old → kind_in rules state page ≡ kinds.data_page first old
    is-data low high =
        ap (λ b. if b then kind_by (block_on rules state page) (page_kind (uses rules state) page) else page_is.Absent) (block-held rules state is block live none page low (omega (arith, old-count, data-within old guards)))
        ∙ ap (kind_by (block_on rules state page)) (was-data rules tables state is stands block live none page low high)
        ∙ ap data_kind (found-on rules page block (front block) (whole_data rules block none first begins) (data-touched rules block first none begins page low high) (of-data rules block none) state.live live-pairs live)

    is-guard : guards ≡ true → page ≡ first + old → kind_in rules state page ≡ kinds.guard_page first
    is-guard on_guard same =
        ap (λ b. if b then kind_by (block_on rules state page) (page_kind (uses rules state) page) else page_is.Absent)
        (block-held rules state is block live none page (omega arith) (omega (arith, old-count, ap (table.block_pages old) on_guard)))
        ∙ ap (kind_by (block_on rules state page)) (was-guard rules tables state is stands block live none page on_guard same)
        ∙ ap guard_kind (found-on rules page block (guard block) (whole_guard rules block none first begins) (guard-touched rules block first none begins page same) (λ P all. of-guard rules block none P all on_guard) state.live live-pairs live)

  abbrev freed_pages : List PageKind
  freed_pages = table.with_run tables.pages first (block_pages rules block.size) page_is.Free

  -- the tables have it as if it were set anew
  stands-again : table.with_block freed_pages first old guards ≡ tables.pages
  stands-again =
      let freed_long = length-with_run tables.pages first (block_pages rules block.size) page_is.Free in
      let long = length-with_block freed_pages first old guards ∙ freed_long in
      tables-agree _ _ long (λ page lt.
      let there : page < length tables.pages = omega (arith, long) in
      let arena : page < zone_pages * rules.zones = omega (arith, stands.pages_all) in
      ⊎_elim
      (λ on_data.
      kind_of-with_block_data freed_pages first old guards page (omega (arith, freed_long)) on_data.0 on_data.1
      ∙ sym (stands.pages page arena ∙ is-data page on_data.0 on_data.1))
      (λ others. ⊎_elim
      (λ on_guard.
      kind_of-guard freed_pages first old page guards on_guard.0 (omega (arith, freed_long)) on_guard.1
      ∙ sym (stands.pages page arena ∙ is-guard page on_guard.0 on_guard.1))
      (λ out.
      kind_of-with_block_out freed_pages first old guards page (subst (λ n. (page < first) ⊎ (first + n ≤ page)) old-count out)
      ∙ kind_of-with_run_out tables.pages first (block_pages rules block.size) page_is.Free page out)
      others)
      (spot rules block.size first page))

  -- ---- another size

  module _ (size site : ℕ) (new_none : size_class rules size ≡ None) (next_is : IsSound rules (resized (resize_to block size site) state)) where
    abbrev gone : State
    gone = without_block state block.address

    abbrev new_block : Block
    new_block = with_size (resize_to block size site)

    abbrev next : State
    next = resized (resize_to block size site) state

    abbrev request : Request
    request = record { size = size; site = site }

    abbrev new : ℕ
    new = data_pages size

    -- the run that it has then
    pub new-run : HasRun rules state.held (uses rules gone) first (block_pages rules size)
    new-run =
        subst (λ s. HasRun rules state.held (uses rules s) first (block_pages rules size)) (left-again state block size site)
        (own_run rules next next_is new_block (resized-found state block size site) new_none)

    comes-again : StandFor rules (with_page_block (freed_run tables (record { first = first; count = block_pages rules block.size })) first new guards request) next
    comes-again =
        let freed = freed_run tables (record { first = first; count = block_pages rules block.size }) in
        let Next : ℕ → State = λ a. let other : Block = record { address = a; size = size; site = site } in with_block other gone in
        let After : ℕ → Type 0 = λ a. StandFor rules (with_page_block freed first new guards request) (Next a) in
        let Sound : ℕ → Type 0 = λ a. IsSound rules (Next a) in
        subst After (sym begins)
        (block-comes rules freed gone first size site new_none (without-sound rules state is block.address block live) (subst Sound begins next_is)
        (block-goes rules tables state is stands block live none) new-run)

    abbrev Set : List PageKind → Type 0
    Set pages = StandFor rules (record (record tables { pages = pages }) { blocks = slice_set tables.blocks first request }) next

    freed-is : freed_pages ≡ table.with_run tables.pages first (table.block_pages old guards) page_is.Free
    freed-is = ap (λ n. table.with_run tables.pages first n page_is.Free) old-count

    -- ---- it stays, or has fewer pages, or more

    stands-stayed : new ≡ old → StandFor rules (pages_stayed tables first request) next
    stands-stayed same = subst Set (ap (λ n. table.with_block freed_pages first n guards) same ∙ stands-again) comes-again

    stands-shrunk : new ≤ old → StandFor rules (pages_shrunk rules tables first old new request) next
    stands-shrunk fewer = subst Set (ap (λ t. table.with_block t first new guards) freed-is ∙ set-narrower tables.pages first old new guards fewer) comes-again

    stands-wider : old ≤ new → StandFor rules (with_page_block tables first new guards request) next
    stands-wider more = subst Set (ap (λ t. table.with_block t first new guards) freed-is ∙ set-wider tables.pages first old new guards more) comes-again

    -- the new data is filled
    stands-grown : old ≤ new → StandFor rules (pages_grown rules tables first old new request) (with_new_data rules block size next)
    unfolding with_new_data
    stands-grown more = by (rules.options.junk == 2)
      where
        wider : Tables
        wider = with_page_block tables first new guards request

        data-is : new_data block size ≡ new_pages first old new
        data-is = ap (λ a. let extent : Extent = record { first = a + page_size * old; len = page_size * (new - old) } in extent) begins

        by : (test : Bool) → StandFor rules (if test then filled_by fresh_byte (new_pages first old new) wider else wider) (if test then filled_with fresh_byte (new_data block size) next else next)
        by true = subst (λ e. StandFor rules (filled_by fresh_byte e wider) (filled_with fresh_byte (new_data block size) next)) data-is (bytes-filled rules wider next (stands-wider more) fresh_byte (new_data block size))
        by false = stands-wider more

-- ---- by its way

module _ (rules : Rules) (tables : Tables) (state : State) (is : IsSound rules state) (stands : StandFor rules tables state) (block : Block) (live : block_at state block.address ≡ Some block) (size site : ℕ) (fits : is_too_large rules size ≡ false) where
  abbrev asked : Request
  asked = record { size = size; site = site }

  pub pages-stay : AreWhole rules block size → data_pages size ≡ data_pages block.size → StandFor rules (pages_stayed tables (page_at block.address) asked) ((stayed rules state (resize_to block size site)).next)
  pages-stay whole same =
      let next = resized (resize_to block size site) state in
      let sound = fewer-resized rules state is (resize_to block size site) live whole fits (omega arith) in
      subst (StandFor rules (pages_stayed tables (page_at block.address) asked)) (sym (no-canaries rules (with_size (resize_to block size site)) next whole.new))
      (stands-stayed rules tables state is stands block live whole.old size site whole.new sound same)

  -- the last ones aren't let go yet
  pub pages-shrink : AreWhole rules block size → data_pages size < data_pages block.size
      → StandFor rules (pages_shrunk rules tables (page_at block.address) (data_pages block.size) (data_pages size) asked) (resized (resize_to block size site) state)
  pages-shrink whole fewer =
      stands-shrunk rules tables state is stands block live whole.old size site whole.new (fewer-resized rules state is (resize_to block size site) live whole fits (omega arith)) (omega arith)

  pub pages-grow : GoesOn rules block size → is_free_run (uses rules state) state.held (pages_after rules block size).count (pages_after rules block size).first ≡ true
      → StandFor rules (pages_grown rules tables (page_at block.address) (data_pages block.size) (data_pages size) asked) ((grown rules state (resize_to block size site)).next)
  pages-grow on free =
      let whole = on.whole in
      let more = on.more in
      stands-grown rules tables state is stands block live whole.old size site whole.new (grows-over rules state is (resize_to block size site) live on free fits) (omega arith)

  pub pages-claim : GoesOn rules block size → holds_some state (pages_after rules block size) ≡ false
      → StandFor rules (pages_grown_over rules tables (page_at block.address) (data_pages block.size) (data_pages size) asked) ((grown rules (with_pages (pages_after rules block size) state) (resize_to block size site)).next)
  pages-claim on unheld =
      let run = pages_after rules block size in
      let wide = with_pages run state in
      let whole = on.whole in
      let more = on.more in
      let first = page_at block.address in
      let came = pages-come rules tables state stands run is (none-range (is_held state.held) run.first run.count unheld) in
      let grows = stands-grown rules (claimed_run tables run) wide (claims-wide rules state is (resize_to block size site) live on) came block live whole.old size site whole.new
      (claims-resized rules state is (resize_to block size site) live on unheld fits) (omega arith) in
      let run-is : run ≡ next_run rules first (data_pages block.size) (data_pages size) =
      ap (λ n. let r : Run = record { first = first + n; count = data_pages size - data_pages block.size } in r) (guard-count (data_pages block.size) rules.options.guard) in
      subst (λ r. StandFor rules (pages_grown rules (claimed_run tables r) first (data_pages block.size) (data_pages size) asked) ((grown rules wide (resize_to block size site)).next)) run-is grows
