-- Tables stand for the state when a page block comes, stands or leaves.
use Rattle.std.proofs.Common.{◌≡◌, ℕ, ◌+◌, ◌-◌, ◌*◌, ◌<◌, ◌≤◌, ◌⊎◌, inl, inr, Bool, true, false, not, ◌==◌, if◌then◌else◌, List, [], ◌∷◌, length, Option, Some, None, cond, refl, sym, ap, ◌∙◌, subst, arith}
use Rattle.std.specs.Prelude.{slice_set}
use Rattle.std.specs.List.{filter, find, flat_map, list_any, AllByRecursion}
use Rattle.std.specs.Option.{option_map, option_or}
use Rattle.std.proofs.lemmas.Bool.{true≢false, cases_Bool, cases_lt, and_from, eqb-true, le-leb, lt-ltb, ne_eqb}
use Rattle.std.proofs.lemmas.List.{get_or-set_same, get_or-set_other, length-set}
use Rattle.std.proofs.lemmas.List.Folds.{find-append}
use mathlib.Core.Logic.{⊎_elim}
use Rattle.om_frame.specs.Memory as frames
use Rattle.om_frame.specs.Memory.{IsHeldPart}
use Rattle.om_geom.specs.Addresses.{address_of, bit_of, page_at}
use Rattle.om_geom.specs.Classes.{data_pages}
use Rattle.om_geom.specs.FitLaws.{find-passes}
use Rattle.om_geom.specs.Numbers.{first_address, page_size, zone_pages}
use Rattle.om_model.specs.Pool.Free.{without_block}
use Rattle.om_model.specs.Pool.InUse.{Kind, Chunk, Pages, Guard, Use, uses_of_block, uses, touches, page_kind}
use Rattle.om_model.specs.Pool.Malloc.{pages_by_class, pages_for, with_block}
use Rattle.om_model.specs.Pool.Picks.{place_address, starts_place}
use Rattle.om_model.specs.Pool.Rules.{Rules, size_class, block_pages}
use Rattle.om_model.specs.Pool.Standing.{NotHeld, PageBlock, Unaligned, at_place, block_at, delayed_at, in_pages, on_page, standing}
use Rattle.om_model.specs.Pool.State.{State, holds, is_held}
use Rattle.om_model.specs.Pool.WellFormed.{FitsZone}
use Rattle.om_model.specs.declared.block.Block.{Block}
use Rattle.om_model.specs.declared.block.Place.{Place}
use Rattle.om_model.proofs.Each.{all-weaker, all-append, all-both, all-filter, all-find, all-first, none-any, any-none, find-nothing}
use Rattle.om_model.proofs.Flat.{all-flat}
use Rattle.om_model.proofs.Malloc.{some-pages}
use Rattle.om_model.proofs.PageKinds.{all-have, with_block-kinds, with_block-others, without_block-others, without_block-free}
use Rattle.om_model.proofs.Places.{HasRun}
use Rattle.om_model.proofs.Sound.{IsPlaced, IsSound, place-page, shape-begins, touches-first}
use Rattle.om_pages.specs.Kinds as kinds
use Rattle.om_pages.specs.TableLaws.{length-with_run, kind_of-with_run_in, kind_of-with_run_out, kind_of-with_block_data, kind_of-with_block_out}
use Rattle.om_pages.specs.Tables as table
use Rattle.om_pages.specs.declared.kind.PageKind.{PageKind}
use Rattle.om_pages.specs.declared.kind.PageKind.TheVariants as page_is
use Rattle.om_pool.specs.Blocks.{no_request, request_at, request_of}
use Rattle.om_pool.specs.TableSteps.{freed_run, with_page_block}
use Rattle.om_pool.specs.Tables.{Tables, StandFor, IsEntered, block_on, kind_by, kind_in, has_by, place_has, chunk_by}
use Rattle.om_pool.specs.declared.blocks.Request.{Request}
use Rattle.om_pool.proofs.TableRuns.{guard-count, kind_of-guard, length-with_block, with_block-over}
use Rattle.om_pool.proofs.TableSteps.{kind-class, kind-stays, or-none, page-same}
use Rattle.om_pool.proofs.WholeBlocks.{spot, front, guard, of-data, of-guard, data-touched, guard-touched, clear, each-page, only-at, of-found, begins-none}

-- ---- tables alone

-- a block that stands again on its own pages
pub set-block-again : (pages_are : List PageKind) (first pages : ℕ) (guard : Bool)
    → table.with_block (table.with_data pages_are first (table.block_pages pages guard)) first pages guard ≡ table.with_block pages_are first pages guard
set-block-again pages_are first pages guard =
    let count = table.block_pages pages guard in
    with_block-over (table.with_data pages_are first count) pages_are first pages guard (length-with_run pages_are first count (kinds.data_page first count))
    (λ page there out. kind_of-with_run_out pages_are first count (kinds.data_page first count) page out)

-- free pages that become data pages are held
pub take-held : (pages_are : List PageKind) (first n : ℕ) → table.AreAll kinds.is_free pages_are first n → table.AreAll kinds.is_held (table.with_data pages_are first n) first n
take-held pages_are first n free page low high =
    let there = (free page low high).0 in
    (omega (arith, length-with_run pages_are first n (kinds.data_page first n)), ap kinds.is_held (kind_of-with_run_in pages_are first n (kinds.data_page first n) page there low high))

-- memory that holds each page of a run holds each of their bytes
pub bytes-run : (memory : List (List ℕ)) (first n : ℕ) → ((page : ℕ) → first ≤ page → page < first + n → frames.is_held memory page ≡ true) → IsHeldPart memory (address_of first) (page_size * n)
bytes-run memory first n held address low high =
    and_from _ _ (le-leb first_address address (omega arith)) (held (page_at address) (omega arith) (omega arith))

-- ---- searches, and pages on which nothing changes

-- a search is the same where what leaves doesn't pass
find-kept : {X : Type 0} (leaves test : X → Bool) (xs : List X) → AllByRecursion (λ x. leaves x ≡ true → test x ≡ false) xs → find test (filter (λ x. not (leaves x)) xs) ≡ find test xs
find-kept leaves test [] all = refl
find-kept leaves test (x ∷ xs) all = by (leaves x) all.0 (find-kept leaves test xs all.1)
  where
    by : (b : Bool) → (b ≡ true → test x ≡ false) → find test (filter (λ y. not (leaves y)) xs) ≡ find test xs
        → find test (cond (not b) (x ∷ filter (λ y. not (leaves y)) xs) (filter (λ y. not (leaves y)) xs)) ≡ cond (test x) (Some x) (find test xs)
    by true fails rest = rest ∙ ap (λ t. cond t (Some x) (find test xs)) (sym (fails refl))
    by false fails rest = ap (λ o. cond (test x) (Some x) o) rest

-- a search that a live block doesn't pass is the same without it
pub find-left : (rules : Rules) (state : State) → IsSound rules state → (block : Block) → block_at state block.address ≡ Some block → (test : Block → Bool) → test block ≡ false
    → find test ((without_block state block.address).live) ≡ find test state.live
find-left rules state is block live test fails =
    let leaves : Block → Bool = λ other. other.address == block.address in
    find-kept leaves test state.live
    (all-weaker (λ other. leaves other ≡ true → other ≡ block) (λ other. leaves other ≡ true → test other ≡ false) state.live (λ other same t. ap test (same t) ∙ fails) (only-at rules state is block.address block live))

-- what a chunk page has, where each of its addresses has the same
chunk-stays : (rules : Rules) (old new : State) → IsSound rules old → (page : ℕ) → ((address : ℕ) → page_at address ≡ page → place_has new address ≡ place_has old address)
    → (kind : Option Kind) → page_kind (uses rules old) page ≡ kind → chunk_by old page kind ≡ chunk_by new page kind
chunk-stays rules old new is page same None kind_is = refl
chunk-stays rules old new is page same (Some Pages) kind_is = refl
chunk-stays rules old new is page same (Some Guard) kind_is = refl
chunk-stays rules old new is page same (Some (Chunk class)) kind_is =
    ap Some (page-same (place_has old) (place_has new) page class (λ i low. same (place_address page class i) (place-page page class i (kind-class rules old is page class kind_is) low)))

-- ---- a block comes, on held pages that nothing touches

module _ (rules : Rules) (tables : Tables) (state : State) (first size site : ℕ) (none : size_class rules size ≡ None) (is : IsSound rules state)
    (with_is : IsSound rules (with_block (record { address = address_of first; size = size; site = site }) state))
    (stands : StandFor rules tables state) (run : HasRun rules state.held (uses rules state) first (block_pages rules size)) where
  abbrev new_block : Block
  new_block = record { address = address_of first; size = size; site = site }

  abbrev next : State
  next = with_block new_block state

  abbrev data_count : ℕ
  data_count = data_pages size

  abbrev on : ℕ → Block → Bool
  on page other = list_any (touches page) (uses_of_block rules other)

  -- ---- its own pages

  module _ (page : ℕ) (low : first ≤ page) (high : page < first + block_pages rules size) where
    here-any : on page new_block ≡ true
    here-any = ⊎_elim
        (λ t. t)
        (λ f. absurd (each-page rules new_block first none refl (λ one. touches page one ≡ false) ⊥ page (none-any (touches page) (uses_of_block rules new_block) f) (λ one isnt t. true≢false (sym t ∙ isnt)) low high))
        (cases_Bool (on page new_block))

    none-here : find (on page) state.live ≡ None
    none-here =
        find-nothing (on page) state.live
        (all-weaker (λ other. AllByRecursion (λ one. touches page one ≡ false) (uses_of_block rules other)) (λ other. on page other ≡ false) state.live (λ other. any-none (touches page) (uses_of_block rules other))
        (all-flat (uses_of_block rules) (λ one. touches page one ≡ false) state.live (all-first (λ one. touches page one ≡ false) (flat_map (uses_of_block rules) state.live) _ (run.untouched page low high))))

    block-here : block_on rules next page ≡ Some new_block
    block-here =
        find-append (on page) state.live (new_block ∷ []) ∙ ap (λ o. option_or o (find (on page) (new_block ∷ []))) none-here
        ∙ ap (λ b. option_or None (cond b (Some new_block) None)) here-any

    kind-before : page_kind (uses rules state) page ≡ None
    kind-before = ap (option_map (λ (u : Use). u.kind)) (find-nothing (touches page) (uses rules state) (run.untouched page low high))

    kind-here : (kind : Kind) → page_kind (uses rules next) page ≡ Some kind → kind_in rules next page ≡ kind_by (Some new_block) (Some kind)
    kind-here kind kind_is =
        ap (λ b. if b then kind_by (block_on rules next page) (page_kind (uses rules next) page) else page_is.Absent) (run.held_is page low high)
        ∙ ap (λ o. kind_by o (page_kind (uses rules next) page)) block-here ∙ ap (kind_by (Some new_block)) kind_is

  abbrev Gets : ℕ → Use → Type 0
  Gets page one = touches page one ≡ true → Some one.kind ≡ page_kind (uses rules next) page

  data-kind : (page : ℕ) → first ≤ page → page < first + data_count → page_kind (uses rules next) page ≡ Some Pages
  data-kind page low high = sym (of-data rules new_block none (Gets page) (with_block-kinds rules state new_block page with_is) (data-touched rules new_block first none refl page low high))

  guard-kind : (page : ℕ) → rules.options.guard ≡ true → page ≡ first + data_count → page_kind (uses rules next) page ≡ Some Guard
  guard-kind page guards same = sym (of-guard rules new_block none (Gets page) (with_block-kinds rules state new_block page with_is) guards (guard-touched rules new_block first none refl page same))

  -- ---- other pages

  module _ (page : ℕ) (out : (page < first) ⊎ (first + block_pages rules size ≤ page)) where
    out-clear : AllByRecursion (λ one. touches page one ≡ false) (uses_of_block rules new_block)
    out-clear = clear rules new_block first none refl page out

    out-kind : page_kind (uses rules next) page ≡ page_kind (uses rules state) page
    out-kind = with_block-others rules state new_block page out-clear

    out-block : block_on rules next page ≡ block_on rules state page
    out-block =
        find-append (on page) state.live (new_block ∷ [])
        ∙ ap (λ b. option_or (find (on page) state.live) (cond b (Some new_block) None)) (any-none (touches page) (uses_of_block rules new_block) out-clear)
        ∙ or-none (find (on page) state.live)

    out-stays : kind_in rules state page ≡ kind_in rules next page
    out-stays =
        kind-stays (is_held state.held page) (block_on rules state page) (block_on rules next page) (page_kind (uses rules state) page) (page_kind (uses rules next) page)
        (ap (λ o. kind_by o (page_kind (uses rules state) page)) (sym out-block) ∙ ap (kind_by (block_on rules next page)) (sym out-kind))

    out-place : (address : ℕ) → page_at address ≡ page → place_has next address ≡ place_has state address
    out-place address at =
        let some = some-pages rules size none in
        let other : ¬ (address_of first ≡ address) = λ same. ⊎_elim (λ below. absurd (omega arith)) (λ past. absurd (omega arith)) out in
        ap (has_by (delayed_at state address))
        (find-append (λ (b : Block). b.address == address) state.live (new_block ∷ [])
        ∙ ap (λ b. option_or (block_at state address) (cond b (Some new_block) None)) (ne_eqb (address_of first) address other)
        ∙ or-none (block_at state address))

  pages-is : table.block_pages data_count rules.options.guard ≡ block_pages rules size
  pages-is = sym (guard-count data_count rules.options.guard)

  -- ---- what was asked for it

  abbrev asked : Request
  asked = request_of new_block

  abbrev later : List Request
  later = slice_set tables.blocks first asked

  -- no other block of whole pages begins at its first page
  begin-elsewhere : AllByRecursion (λ (other : Block). size_class rules other.size ≡ None → ¬ (page_at other.address ≡ first)) state.live
  begin-elsewhere =
      let some = some-pages rules size none in
      let sound = is.sound in
      let P : Use → Type 0 = λ one. (touches first one ≡ false) × IsPlaced rules state.held one in
      let both = all-both (λ one. touches first one ≡ false) (IsPlaced rules state.held) P (uses rules state) (λ one isnt placed. (isnt, placed)) (run.untouched first (omega arith) (omega arith)) sound.placed in
      all-weaker (λ other. AllByRecursion P (uses_of_block rules other)) (λ (other : Block). size_class rules other.size ≡ None → ¬ (page_at other.address ≡ first)) state.live
      (λ other all whole at.
      let has = of-data rules other whole P all in
      let placed = has.1 in
      true≢false (sym (subst (λ page. touches page (front other) ≡ true) at (touches-first (front other) placed.shape)) ∙ has.0))
      (all-flat (uses_of_block rules) P state.live (all-first P (flat_map (uses_of_block rules) state.live) _ both))

  all-entered : AllByRecursion (IsEntered rules later) next.live
  all-entered =
      let some = some-pages rules size none in
      let within = run.there in
      all-append (IsEntered rules later) state.live (new_block ∷ [])
      (all-both (IsEntered rules tables.blocks) (λ (other : Block). size_class rules other.size ≡ None → ¬ (page_at other.address ≡ first)) (IsEntered rules later) state.live
      (λ other was elsewhere whole. get_or-set_other tables.blocks first (page_at other.address) asked no_request (elsewhere whole) ∙ was whole)
      stands.blocks begin-elsewhere) (
        (λ whole.
            let same : page_at (address_of first) ≡ first = omega arith in
            ap (request_at later) same ∙ get_or-set_same tables.blocks first asked no_request (omega (arith, stands.blocks_all))),
        tt,
      )

  pub block-comes : StandFor rules (with_page_block tables first (data_pages size) rules.options.guard (record { size = size; site = site }))
      (with_block (record { address = address_of first; size = size; site = site }) state)
  block-comes =
      let guards = rules.options.guard in
      let same : page_at (address_of first) ≡ first = omega arith in
      let long : length tables.pages ≡ zone_pages * rules.zones = stands.pages_all in
      record {
        pages_all = length-with_block tables.pages first data_count guards ∙ stands.pages_all;
        chunks_all = stands.chunks_all;
        blocks_all = length-set tables.blocks first asked ∙ stands.blocks_all;
        pages = λ page there. ⊎_elim
            (λ on_data.
            let low = on_data.0 in
            let high = on_data.1 in
            kind_of-with_block_data tables.pages first data_count guards page (omega arith) low high
            ∙ sym (kind-here page low (omega arith) Pages (data-kind page low high) ∙ ap (λ p. kinds.data_page p data_count) same))
            (λ others. ⊎_elim
            (λ on_guard.
            kind_of-guard tables.pages first data_count page guards on_guard.0 (omega arith) on_guard.1
            ∙ sym (kind-here page (omega (arith, on_guard.1)) (omega (arith, on_guard.1, pages-is, ap (table.block_pages data_count) on_guard.0)) Guard (guard-kind page on_guard.0 on_guard.1) ∙ ap kinds.guard_page same))
            (λ out.
            kind_of-with_block_out tables.pages first data_count guards page (subst (λ n. (page < first) ⊎ (first + n ≤ page)) (sym pages-is) out)
            ∙ stands.pages page there ∙ out-stays page out)
            others)
            (spot rules size first page);
        chunks = λ page there. ⊎_elim
            (λ on_data.
            let low = on_data.0 in
            let high = on_data.1 in
            stands.chunks page there ∙ ap (chunk_by state page) (kind-before page low (omega arith)) ∙ sym (ap (chunk_by next page) (data-kind page low high)))
            (λ others. ⊎_elim
            (λ on_guard.
            stands.chunks page there ∙ ap (chunk_by state page) (kind-before page (omega (arith, on_guard.1)) (omega (arith, on_guard.1, pages-is, ap (table.block_pages data_count) on_guard.0)))
            ∙ sym (ap (chunk_by next page) (guard-kind page on_guard.0 on_guard.1)))
            (λ out.
            stands.chunks page there ∙ chunk-stays rules state next is page (out-place page out) (page_kind (uses rules state) page) refl
            ∙ sym (ap (chunk_by next page) (out-kind page out)))
            others)
            (spot rules size first page);
        blocks = all-entered;
        slots = stands.slots;
        memory = stands.memory;
      }

-- ---- a live block of whole pages

-- it has some pages, all of one zone and of the arena, and begins where the first one does
pub record IsBlockFit (rules : Rules) (block : Block) : Type 0 where
  pub some : 1 ≤ data_pages block.size
  pub begins : block.address ≡ address_of (page_at block.address)
  pub within : bit_of (page_at block.address) + block_pages rules block.size ≤ zone_pages
  pub there : page_at block.address + block_pages rules block.size ≤ zone_pages * rules.zones

module _ (rules : Rules) (state : State) (is : IsSound rules state) (block : Block) (live : block_at state block.address ≡ Some block) (none : size_class rules block.size ≡ None) where
  abbrev begins_here : Block → Bool
  begins_here other = other.address == block.address

  own-placed : AllByRecursion (IsPlaced rules state.held) (uses_of_block rules block)
  own-placed = let sound = is.sound in of-found rules state is (IsPlaced rules state.held) begins_here block live sound.placed

  own-begins : block.address ≡ address_of (page_at block.address)
  own-begins = let placed = of-data rules block none (IsPlaced rules state.held) own-placed in shape-begins (front block) placed.shape

  -- its pages are held
  pub block-held : (page : ℕ) → page_at block.address ≤ page → page < page_at block.address + block_pages rules block.size → is_held state.held page ≡ true
  block-held page low high =
      each-page rules block (page_at block.address) none own-begins (IsPlaced rules state.held) (is_held state.held page ≡ true) page own-placed (λ one placed touched. placed.held_is page touched) low high

  own-there : (page : ℕ) → page_at block.address ≤ page → page < page_at block.address + block_pages rules block.size → page < zone_pages * rules.zones
  own-there page low high =
      each-page rules block (page_at block.address) none own-begins (IsPlaced rules state.held) (page < zone_pages * rules.zones) page own-placed (λ one placed touched. placed.there page touched) low high

  pub block-fits : IsBlockFit rules block
  block-fits =
      let some = some-pages rules block.size none in
      let count : pages_for rules block.size ≡ block_pages rules block.size = ap (pages_by_class rules block.size) none in
      let zoned = all-find (FitsZone rules) begins_here state.live block is.zoned live in
      let within = zoned.within in
      let last : ℕ = page_at block.address + block_pages rules block.size in
      record {
        some = omega arith;
        begins = own-begins;
        within = omega arith;
        there = omega (arith, own-there (last - 1) (omega arith) (omega arith));
      }

-- it leaves, and its pages are free
module _ (rules : Rules) (tables : Tables) (state : State) (is : IsSound rules state) (stands : StandFor rules tables state) (block : Block) (live : block_at state block.address ≡ Some block) (none : size_class rules block.size ≡ None) where
  abbrev first : ℕ
  first = page_at block.address

  abbrev count : ℕ
  count = block_pages rules block.size

  abbrev left : State
  left = without_block state block.address

  abbrev leaves : Block → Bool
  leaves other = other.address == block.address

  begins : block.address ≡ address_of first
  begins = own-begins rules state is block live none

  -- what the pages of the block were
  abbrev Has : ℕ → Use → Type 0
  Has page one = touches page one ≡ true → Some one.kind ≡ page_kind (uses rules state) page

  has : (page : ℕ) → AllByRecursion (Has page) (uses_of_block rules block)
  has page = let sound = is.sound in of-found rules state is (Has page) leaves block live (all-have rules state.held (uses rules state) sound page)

  pub was-data : (page : ℕ) → first ≤ page → page < first + data_pages block.size → page_kind (uses rules state) page ≡ Some Pages
  was-data page low high = sym (of-data rules block none (Has page) (has page) (data-touched rules block first none begins page low high))

  pub was-guard : (page : ℕ) → rules.options.guard ≡ true → page ≡ first + data_pages block.size → page_kind (uses rules state) page ≡ Some Guard
  was-guard page guards same = sym (of-guard rules block none (Has page) (has page) guards (guard-touched rules block first none begins page same))

  module _ (page : ℕ) (low : first ≤ page) (high : page < first + count) where
    no-chunks : chunk_by state page (page_kind (uses rules state) page) ≡ None
    no-chunks = ⊎_elim
        (λ on_data. ap (chunk_by state page) (was-data page on_data.0 on_data.1))
        (λ others. ⊎_elim
        (λ on_guard. ap (chunk_by state page) (was-guard page on_guard.0 on_guard.1))
        (λ out. ⊎_elim (λ below. absurd (omega arith)) (λ past. absurd (omega arith)) out)
        others)
        (spot rules block.size first page)

    left-free : page_kind (uses rules left) page ≡ None
    left-free =
        let some = some-pages rules block.size none in
        without_block-free rules state is block.address block live page (was-data first (omega arith) (omega arith)) (and_from _ _ (le-leb first page low) (lt-ltb page (first + count) high))

    left-kind : kind_in rules left page ≡ page_is.Free
    left-kind =
        ap (λ b. if b then kind_by (block_on rules left page) (page_kind (uses rules left) page) else page_is.Absent) (block-held rules state is block live none page low high)
        ∙ ap (kind_by (block_on rules left page)) left-free

  -- ---- other pages

  module _ (page : ℕ) (out : (page < first) ⊎ (first + count ≤ page)) where
    left-clear : AllByRecursion (λ one. touches page one ≡ false) (uses_of_block rules block)
    left-clear = clear rules block first none begins page out

    left-others : page_kind (uses rules left) page ≡ page_kind (uses rules state) page
    left-others = without_block-others rules state is block.address block live page left-clear

    left-block : block_on rules left page ≡ block_on rules state page
    left-block = find-left rules state is block live (λ other. list_any (touches page) (uses_of_block rules other)) (any-none (touches page) (uses_of_block rules block) left-clear)

    left-stays : kind_in rules state page ≡ kind_in rules left page
    left-stays =
        kind-stays (is_held state.held page) (block_on rules state page) (block_on rules left page) (page_kind (uses rules state) page) (page_kind (uses rules left) page)
        (ap (λ o. kind_by o (page_kind (uses rules state) page)) (sym left-block) ∙ ap (kind_by (block_on rules left page)) (sym left-others))

    left-place : (address : ℕ) → page_at address ≡ page → place_has left address ≡ place_has state address
    left-place address at =
        let some = some-pages rules block.size none in
        let other : ¬ (block.address ≡ address) = λ same. ⊎_elim (λ below. absurd (omega (arith, ap page_at same))) (λ past. absurd (omega (arith, ap page_at same))) out in
        ap (has_by (delayed_at state address)) (find-left rules state is block live (λ (b : Block). b.address == address) (ne_eqb block.address address other))

  side : (page : ℕ) → ((first ≤ page) × (page < first + count)) ⊎ ((page < first) ⊎ (first + count ≤ page))
  side page = ⊎_elim (λ below. inr (inl below)) (λ low. ⊎_elim (λ high. inl (low, high)) (λ past. inr (inr past)) (cases_lt page (first + count))) (cases_lt page first)

  pub block-goes : StandFor rules (freed_run tables (record { first = page_at block.address; count = block_pages rules block.size })) (without_block state block.address)
  block-goes = record {
    pages_all = length-with_run tables.pages first count page_is.Free ∙ stands.pages_all;
    chunks_all = stands.chunks_all;
    blocks_all = stands.blocks_all;
    pages = λ page there. ⊎_elim
        (λ inside. kind_of-with_run_in tables.pages first count page_is.Free page (omega (arith, stands.pages_all)) inside.0 inside.1 ∙ sym (left-kind page inside.0 inside.1))
        (λ out. kind_of-with_run_out tables.pages first count page_is.Free page out ∙ stands.pages page there ∙ left-stays page out)
        (side page);
    chunks = λ page there. stands.chunks page there ∙ ⊎_elim
        (λ inside. no-chunks page inside.0 inside.1 ∙ sym (ap (chunk_by left page) (left-free page inside.0 inside.1)))
        (λ out. chunk-stays rules state left is page (left-place page out) (page_kind (uses rules state) page) refl ∙ sym (ap (chunk_by left page) (left-others page out)))
        (side page);
    blocks = all-filter (IsEntered rules tables.blocks) (λ (other : Block). not (leaves other)) state.live stands.blocks;
    slots = stands.slots;
    memory = stands.memory;
  }

-- ---- where a page block stands

pub record HasBlock (rules : Rules) (state : State) (address : ℕ) (block : Block) : Type 0 where
  pub found : block_at state address ≡ Some block
  pub at : block.address ≡ address
  pub none : size_class rules block.size ≡ None

module _ (rules : Rules) (state : State) (is : IsSound rules state) (address : ℕ) (block : Block) where
  not-place : (class : ℕ) (found : Option Block) (delayed : Option Place) → at_place class address found delayed ≡ PageBlock block → ⊥
  not-place class found (Some place) stands = cc
  not-place class (Some other) None stands = cc
  not-place class None None stands = cc

  not-start : (class : ℕ) (starts : Bool) → (if starts then at_place class address (block_at state address) (delayed_at state address) else Unaligned) ≡ PageBlock block → ⊥
  not-start class true stands = not-place class (block_at state address) (delayed_at state address) stands
  not-start class false stands = cc

  in-block : page_kind (uses rules state) (page_at address) ≡ Some Pages → (found : Option Block) → block_at state address ≡ found → in_pages found ≡ PageBlock block → HasBlock rules state address block
  in-block kind_is None found_is stands = cc
  in-block kind_is (Some other) found_is stands =
      let begins_here : Block → Bool = λ (one : Block). one.address == address in
      let same : other ≡ block = cc in
      let found : block_at state address ≡ Some block = found_is ∙ ap Some same in
      let at : block.address ≡ address = eqb-true block.address address (find-passes begins_here state.live block found) in
      record { found = found; at = at; none = begins-none rules state is (page_at address) kind_is block begins_here found (ap page_at at) }

  by-kind : (kind : Option Kind) → page_kind (uses rules state) (page_at address) ≡ kind → on_page state address kind ≡ PageBlock block → HasBlock rules state address block
  by-kind None kind_is stands = cc
  by-kind (Some Pages) kind_is stands = in-block kind_is (block_at state address) refl stands
  by-kind (Some Guard) kind_is stands = cc
  by-kind (Some (Chunk class)) kind_is stands = absurd (not-start class (starts_place class address) stands)

  by-held : (held : Bool) → (if held then on_page state address (page_kind (uses rules state) (page_at address)) else NotHeld) ≡ PageBlock block → HasBlock rules state address block
  by-held true stands = by-kind (page_kind (uses rules state) (page_at address)) refl stands
  by-held false stands = cc

  pub page-block : standing rules state address ≡ PageBlock block → HasBlock rules state address block
  page-block = by-held (holds rules state address)
