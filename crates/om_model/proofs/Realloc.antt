-- Realloc keeps states sound: a chunk that stays has the place that it had, and a page block has a run that begins
-- where it did, of its own pages or of these and the ones behind. One that moves is placed while the old one is there,
-- which then leaves.
use Rattle.std.proofs.Common.{◌≡◌, ℕ, ◌+◌, ◌<◌, ◌≤◌, ◌⊎◌, inl, inr, Bool, true, false, ◌&&◌, if◌then◌else◌, nat_le, List, [], ◌∷◌, length, Option, Some, None, IsSomeAnd, is_some, refl, sym, ap, ◌∙◌, subst, arith}
use Rattle.std.specs.List.{flat_map, list_all, range_with_len, AllByRecursion}
use Rattle.std.proofs.lemmas.Bool.{cases_Bool, cases_lt, and_from, and_parts, le-leb, lt-ltb}
use mathlib.Core.Logic.{⊎_elim}
use Rattle.om_geom.specs.Addresses.{address_of, bit_of, page_at}
use Rattle.om_geom.specs.Classes.{data_pages}
use Rattle.om_geom.specs.FitLaws.{list_all-range}
use Rattle.om_geom.specs.Numbers.{zone_pages}
use Rattle.om_model.specs.Pool.Product.{product}
use Rattle.om_model.specs.Pool.Canaries.{broken_canary}
use Rattle.om_model.specs.Pool.Free.{without_block}
use Rattle.om_model.specs.Pool.InUse.{Use, uses_of_pages, uses_of_block, uses, touches, is_free_page}
use Rattle.om_model.specs.Pool.Journal.{IsFresh, IsGiven, EndsSearch, AnswersAt, MayAnswer}
use Rattle.om_model.specs.Pool.Malloc.{Placed, is_too_large, words_for, placing, placing_wish}
use Rattle.om_model.specs.Pool.Picks.{is_free_run}
use Rattle.om_model.specs.Pool.Realloc.{Resize, with_size, resized, shrunk, slot_words, late_misuse, slot_drawn, with_copy, moved_where, moved_unless, moves_checked, claimed_unless, realloc_by, realloc_block, unless_broken, realloc_at, realloc, wish_unless, moving_wish, wish_by, block_wish, realloc_wish_at, realloc_wish, reallocarray_wish_of, reallocarray_of, reallocarray_wish, reallocarray}
use Rattle.om_model.specs.Pool.Resizing.{Way, Stays, Shrinks, Grows, Claims, Moves, last_pages, pages_after, holds_some, way}
use Rattle.om_model.specs.Pool.Rules.{Rules, size_class, guard_pages, block_pages}
use Rattle.om_model.specs.Pool.Runs.{Run, is_page_of}
use Rattle.om_model.specs.Pool.Standing.{Standing, NotHeld, FreePage, PageBlock, InPageBlock, OnGuard, LivePlace, DelayedPlace, FreePlace, Unaligned, block_at, standing}
use Rattle.om_model.specs.Pool.State.{State, is_held, with_pages}
use Rattle.om_model.specs.Pool.Steps.{Wish, Nothing, Search, At, Answers}
use Rattle.om_model.specs.declared.block.Block.{Block}
use Rattle.om_model.specs.declared.entry.Move.{Move}
use Rattle.om_model.specs.declared.looks.Look.{Look}
use Rattle.om_model.specs.declared.reply.Fault.{Fault}
use Rattle.om_model.proofs.Bytes.{canary-sound, copy-sound, new_data-sound}
use Rattle.om_model.proofs.Each.{Across, all-append, all-between, all-first, all-second, none-range}
use Rattle.om_model.proofs.Free.{IsLive, IsFreeRun, Tells, block-placed, block-together, free_at-sound, kept_or_let_go-sound, left_for-sound, of-left, own_run, page_block-at, standing-tells, waiting, without-sound}
use Rattle.om_model.proofs.Held.{held-in_run, run-ends}
use Rattle.om_model.proofs.LiveBlocks.{placing-found}
use Rattle.om_model.proofs.Malloc.{Enters, block-sound, chunk-uses, chunk-zone, data_use, drawn_more-sound, guard_count, guard_use, may-fit, page_block-sound, pages-uses, placing-sound, some-pages, unless-sound, untouched-new, whole_data, whole_guard, with_block-uses, with_pages-sound}
use Rattle.om_model.proofs.Places.{IsUntouched, HasRun, untouched-free}
use Rattle.om_model.proofs.Sound.{GoTogether, IsPlaced, IsSound, IsWhole, whole-touched}
use Rattle.om_model.proofs.Ways.{AreWhole, GoesOn, HaveClass, IsBy, after-count, after-there, way-by}

-- ---- runs

module _ (rules : Rules) (held : List ℕ) (used : List Use) (first count : ℕ) where
  -- its first pages
  pub run-part : (few : ℕ) → few ≤ count → HasRun rules held used first count → HasRun rules held used first few
  run-part few within run =
      let there = run.there in
      let zone = run.zone in
      record {
        held_is = λ page low high. run.held_is page low (omega arith);
        there = omega arith;
        untouched = λ page low high. run.untouched page low (omega arith);
        zone = omega arith;
      }

  -- it, and more pages behind it in its zone, each of them held and touched by nothing
  pub run-longer : (more : ℕ) → HasRun rules held used first count → 0 < count → bit_of first + (count + more) ≤ zone_pages
      → ((page : ℕ) → first + count ≤ page → page < first + (count + more) → is_held held page ≡ true) → ((page : ℕ) → first + count ≤ page → page < first + (count + more) → IsUntouched used page)
      → HasRun rules held used first (count + more)
  run-longer more run some within held_is untouched = let there = run.there in record {
    held_is = λ page low high. ⊎_elim (λ own. run.held_is page low own) (λ past. held_is page past high) (cases_lt page (first + count));
    there = omega arith;
    untouched = λ page low high. ⊎_elim (λ own. run.untouched page low own) (λ past. untouched page past high) (cases_lt page (first + count));
    zone = within;
  }

-- a page behind a page block and its guard is touched by neither
past-pages : (rules : Rules) (block : Block) (none : size_class rules block.size ≡ None) (first : ℕ) (at : block.address ≡ address_of first) (page : ℕ) → first + block_pages rules block.size ≤ page → IsUntouched (uses_of_pages rules block) page
past-pages rules block none first at page past = (past-whole front (whole_data rules block none first at) (omega arith), guards rules.options.guard refl)
  where
    past-whole : (one : Use) (on : IsWhole one) → on.first + on.count ≤ page → touches page one ≡ false
    past-whole one on behind = ⊎_elim
        (λ touched. let within = (whole-touched one on page touched).1 in absurd (omega arith))
        (λ untouched. untouched)
        (cases_Bool (touches page one))

    front : Use
    front = data_use rules block none first at

    guards : (some : Bool) → rules.options.guard ≡ some → IsUntouched (if some then guard_use rules block none first at ∷ [] else []) page
    guards false none = tt
    guards true some =
        let one : guard_pages rules ≡ 1 = ap guard_count some in
        (past-whole (guard_use rules block none first at) (whole_guard rules block none first at) (omega arith), tt)

-- ---- a block that keeps its address

module _ (rules : Rules) (state : State) (is : IsSound rules state) (asked : Resize) (live : block_at state (asked.block).address ≡ Some asked.block) where
  abbrev block : Block
  block = asked.block

  abbrev size : ℕ
  size = asked.size

  abbrev gone : State
  gone = without_block state block.address

  abbrev new : Block
  new = with_size asked

  gone-sound : IsSound rules gone
  gone-sound = without-sound rules state is block.address block live

  -- the same place
  chunk-stays : HaveClass rules block size → IsSound rules (resized asked state)
  chunk-stays have =
      let was = chunk-uses rules block.size have.class have.old block.address block.site in
      let becomes = chunk-uses rules size have.class have.new block.address asked.site in
      let used = uses rules gone in
      let placed = subst (AllByRecursion (IsPlaced rules state.held)) was (block-placed rules state is block.address block live) in
      let together = subst (λ us. Across GoTogether us used) was (block-together rules state is block.address block live) in
      block-sound rules new gone (chunk-zone rules size have.class have.new block.address asked.site)
      (subst (Enters rules state.held used) (sym becomes) (record { placed = placed; own = (tt, tt); others = together })) gone-sound

  module _ (whole : AreWhole rules block size) (fits : is_too_large rules size ≡ false) where
    abbrev first : ℕ
    first = page_at block.address

    at : block.address ≡ address_of first
    at = page_block-at rules state is block live whole.old

    own : HasRun rules state.held (uses rules gone) first (block_pages rules block.size)
    own = own_run rules state is block live whole.old

    -- on a run that begins where it did
    pages-resized : HasRun rules state.held (uses rules gone) first (block_pages rules size) → IsSound rules (resized asked state)
    pages-resized on = page_block-sound rules new whole.new first at gone fits on gone-sound

    pub fewer-resized : data_pages size ≤ data_pages block.size → IsSound rules (resized asked state)
    fewer-resized few = pages-resized (run-part rules state.held (uses rules gone) first (block_pages rules block.size) (block_pages rules size) (omega arith) own)

    -- nothing touches its last pages any more
    pub last-untouched : data_pages size < data_pages block.size → IsFreeRun (uses rules (resized asked state)) (last_pages rules block size)
    last-untouched fewer page within =
        let ends = run-ends (last_pages rules block size) page within in
        let low = ends.0 in
        let high = ends.1 in
        subst (λ us. IsUntouched us page) (sym (with_block-uses rules new gone))
        (all-between (λ one. touches page one ≡ false) (uses_of_block rules new) (flat_map (uses_of_block rules) gone.live) (waiting state.slots)
        (subst (λ us. IsUntouched us page) (sym (pages-uses rules size whole.new block.address asked.site)) (past-pages rules new whole.new first at page low))
        (own.untouched page (omega arith) (omega arith)))

    shrinks-sound : data_pages size < data_pages block.size → IsSound rules ((shrunk rules state asked).next)
    shrinks-sound fewer = kept_or_let_go-sound rules (resized asked state) (last_pages rules block size) (last-untouched fewer) (fewer-resized (omega arith))

  pub stays-resized : is_too_large rules size ≡ false → HaveClass rules block size ⊎ (AreWhole rules block size × (data_pages size ≡ data_pages block.size)) → IsSound rules (resized asked state)
  stays-resized fits (inl have) = chunk-stays have
  stays-resized fits (inr both) = let same = both.1 in fewer-resized both.0 fits (omega arith)

  -- the pages behind it are held, and nothing touches them
  pub grows-resized : GoesOn rules block size → is_too_large rules size ≡ false
      → ((page : ℕ) → is_page_of (pages_after rules block size) page ≡ true → is_held state.held page ≡ true) → IsFreeRun (uses rules state) (pages_after rules block size)
      → IsSound rules (resized asked state)
  grows-resized on fits held_is free =
      let whole = on.whole in
      let zone = on.zone in
      let first = page_at block.address in
      let old_count = block_pages rules block.size in
      let extra = (pages_after rules block size).count in
      let some = some-pages rules block.size whole.old in
      let used = uses rules gone in
      let count : old_count + extra ≡ block_pages rules size = after-count rules block size on in
      let behind : (page : ℕ) → first + old_count ≤ page → page < first + (old_count + extra) → is_page_of (pages_after rules block size) page ≡ true =
      λ page low high. and_from _ _ (le-leb (first + old_count) page low) (lt-ltb page (first + old_count + extra) (omega arith)) in
      let long : HasRun rules state.held used first (old_count + extra) =
      run-longer rules state.held used first old_count extra (own_run rules state is block live whole.old) (omega arith) (omega arith)
      (λ page low high. held_is page (behind page low high))
      (λ page low high. still-untouched page (free page (behind page low high))) in
      pages-resized whole fits (subst (HasRun rules state.held used first) count long)
    where
      still-untouched : (page : ℕ) → IsUntouched (uses rules state) page → IsUntouched (uses rules gone) page
      still-untouched page all =
          let P : Use → Type 0 = λ one. touches page one ≡ false in
          let live_uses = flat_map (uses_of_block rules) state.live in
          all-append P (flat_map (uses_of_block rules) gone.live) (waiting state.slots)
          (of-left rules state is block.address block live P (all-first P live_uses (waiting state.slots) all)) (all-second P live_uses (waiting state.slots) all)

  -- the pool has them
  pub grows-over : GoesOn rules block size → is_free_run (uses rules state) state.held (pages_after rules block size).count (pages_after rules block size).first ≡ true → is_too_large rules size ≡ false
      → IsSound rules (resized asked state)
  grows-over on free_is fits =
      let run = pages_after rules block size in
      let used = uses rules state in
      let test : ℕ → Bool = λ page. is_held state.held page && is_free_page used page in
      let parts = and_parts (nat_le (bit_of run.first + run.count) zone_pages) (list_all test (range_with_len run.first run.count)) free_is in
      let each : (page : ℕ) → is_page_of run page ≡ true → (is_held state.held page ≡ true) × (is_free_page used page ≡ true) =
      λ page inside. let ends = run-ends run page inside in and_parts (is_held state.held page) (is_free_page used page) (list_all-range test run.first run.count parts.1 page ends.0 ends.1) in
      grows-resized on fits (λ page inside. (each page inside).0) (λ page inside. untouched-free used page (each page inside).1)

-- they are claimed, where none of them is held
module _ (rules : Rules) (state : State) (is : IsSound rules state) (asked : Resize) (live : block_at state (asked.block).address ≡ Some asked.block) (on : GoesOn rules asked.block asked.size) where
  abbrev behind : Run
  behind = pages_after rules asked.block asked.size

  abbrev wide : State
  wide = with_pages behind state

  pub claims-wide : IsSound rules wide
  claims-wide =
      let whole = on.whole in
      let some = some-pages rules (asked.block).size whole.old in
      let own = own_run rules state is asked.block live whole.old in
      let there = own.there in
      with_pages-sound rules state behind (after-there rules asked.block asked.size on (omega arith)) is

  pub claims-resized : holds_some state behind ≡ false → is_too_large rules asked.size ≡ false → IsSound rules (resized asked wide)
  claims-resized none fits =
      let sound = is.sound in
      grows-resized rules wide claims-wide asked live on fits
      (λ page inside. let ends = run-ends behind page inside in held-in_run behind state.held page ends.0 ends.1)
      (λ page inside.
      let ends = run-ends behind page inside in
      untouched-new rules state.held (uses rules state) page (none-range (is_held state.held) behind.first behind.count none page ends.0 ends.1) sound.placed)

-- ---- a block that moves

-- what the zones may answer depends on the held pages alone
module _ (rules : Rules) (state next : State) (same : state.held ≡ next.held) where
  fresh-held : (move : Move) → IsFresh state move → IsFresh next move
  fresh-held move fresh = record { inside = fresh.inside; new = λ page low high. ap (λ held. is_held held page) (sym same) ∙ fresh.new page low high }

  ends-held : (count word passed : ℕ) (claim : Option Move) → EndsSearch rules state count word passed claim → EndsSearch rules next count word passed claim
  ends-held count word passed None ends = ends
  ends-held count word passed (Some move) found = record { few = found.few; zone = found.zone; count_is = found.count_is; fresh = fresh-held move found.fresh }

  given-held : (run : Run) (claim : Option Move) → IsSomeAnd claim (IsGiven state run) → IsSomeAnd claim (IsGiven next run)
  given-held run None given = given
  given-held run (Some move) given = record { run_is = given.run_is; fresh = fresh-held move given.fresh }

  at-held : (run : Run) (answers : Answers) (taken : Option Look) (Before After : Type 0) → (Before → After) → AnswersAt state run answers taken Before → AnswersAt next run answers taken After
  at-held run answers None Before After step may = (may.0, given-held run answers.claim may.1)
  at-held run answers (Some look) Before After step may = (may.0, step may.1)

  pub may-held : (wish : Wish) (answers : Answers) → MayAnswer rules state wish answers → MayAnswer rules next wish answers
  may-held Nothing answers may = may
  may-held (Search count word) answers may = (may.0, ends-held count word (length answers.looks) answers.claim may.1, may.2)
  may-held (At run otherwise) answers may =
      let left : Answers = record answers { taken = None } in
      at-held run answers answers.taken (MayAnswer rules state otherwise left) (MayAnswer rules next otherwise left) (may-held otherwise left) may

module _ (rules : Rules) (state : State) (is : IsSound rules state) (asked : Resize) (on : IsLive rules state asked.block asked.place) (fits : is_too_large rules asked.size ≡ false) where
  where-moves : (words : ℕ) (placed : Placed) (to : Option ℕ) → IsSound rules placed.next → block_at placed.next (asked.block).address ≡ Some asked.block
      → IsSound rules ((moved_where rules state asked words placed to).next)
  where-moves words placed None sound live = sound
  where-moves words placed (Some to) sound live =
      let next = with_copy asked.block asked.size to placed.next in
      left_for-sound rules state next (copy-sound rules placed.next sound asked.block asked.size to) asked.block asked.place (record { live = live; has = on.has })

  moves-sound : (answers : Answers) → MayAnswer rules state (moving_wish rules state asked.place asked.size) answers → IsSound rules ((moves_checked rules state asked answers.claim).next)
  moves-sound answers = by (late_misuse rules state asked.place)
    where
      by : (found : Option Fault) → MayAnswer rules state (wish_unless found (placing_wish rules (slot_drawn state asked.place) asked.size)) answers → IsSound rules ((moved_unless found rules state asked answers.claim).next)
      by (Some fault) may = drawn_more-sound rules 1 state is
      by None may =
          let from = slot_drawn state asked.place in
          let placed = placing rules from asked.size asked.site answers.claim in
          where-moves (slot_words asked.place + words_for rules asked.size) placed placed.address
          (placing-sound rules asked.size from asked.site answers fits (may-held rules state from refl (placing_wish rules from asked.size) answers may) (drawn_more-sound rules (slot_words asked.place) state is))
          (placing-found rules from asked.size asked.site answers.claim asked.block (asked.block).address on.live)

  -- ---- by its way

  way-sound : (way : Way) → IsBy rules state asked.block asked.size way → (answers : Answers) → MayAnswer rules state (wish_by way rules state asked.block asked.place asked.size) answers
      → IsSound rules ((realloc_by way rules state asked answers).next)
  way-sound Stays how answers may = canary-sound rules (resized asked state) (stays-resized rules state is asked on.live fits how) (with_size asked)
  way-sound Shrinks how answers may = shrinks-sound rules state is asked on.live how.0 fits how.1
  way-sound Grows how answers may = new_data-sound rules (resized asked state) (grows-over rules state is asked on.live how.0 how.1 fits) asked.block asked.size
  way-sound Moves how answers may = moves-sound answers may
  way-sound Claims how answers may = by answers.taken may
    where
      left : Answers
      left = record answers { taken = None }

      run : Run
      run = pages_after rules asked.block asked.size

      by : (taken : Option Look) → AnswersAt state run answers taken (MayAnswer rules state (moving_wish rules state asked.place asked.size) left) → IsSound rules ((claimed_unless taken rules state asked answers.claim).next)
      by (Some look) may_move = moves-sound left may_move.1
      by None may_grow = new_data-sound rules (resized asked (with_pages run state)) (claims-resized rules state is asked on.live how.0 how.1 fits) asked.block asked.size

-- ---- by what stands at the address

module _ (rules : Rules) (state : State) (is : IsSound rules state) where
  realloc_block-sound : (asked : Resize) → IsLive rules state asked.block asked.place → (answers : Answers) → MayAnswer rules state (block_wish rules state asked.block asked.place asked.size) answers
      → IsSound rules ((realloc_block rules state asked answers).next)
  realloc_block-sound asked on answers may =
      let by = way rules state asked.block asked.size in
      unless-sound rules asked.size state (realloc_by by rules state asked answers) is
      (λ fits. way-sound rules state is asked on fits by (way-by rules state asked.block asked.size) answers (may-fit rules asked.size state (wish_by by rules state asked.block asked.place asked.size) answers fits may))

  pub realloc_at-sound : (address size site : ℕ) (answers : Answers) (stands : Standing) → Tells rules state stands → MayAnswer rules state (realloc_wish_at rules state size stands) answers
      → IsSound rules ((realloc_at rules state address size site answers stands).next)
  realloc_at-sound address size site answers (PageBlock block) told may = realloc_block-sound (record { block = block; place = None; size = size; site = site }) told answers may
  realloc_at-sound address size site answers (LivePlace place block) told may = by (broken_canary rules state block) may
    where
      by : (broken : Option ℕ) → MayAnswer rules state (if is_some broken then Nothing else block_wish rules state block (Some place) size) answers
          → IsSound rules ((unless_broken broken state (realloc_block rules state (record { block = block; place = Some place; size = size; site = site }) answers)).next)
      by (Some offset) asked = is
      by None asked = realloc_block-sound (record { block = block; place = Some place; size = size; site = site }) told answers asked
  realloc_at-sound address size site answers (DelayedPlace place) told may = is
  realloc_at-sound address size site answers NotHeld told may = free_at-sound rules state is address NotHeld told
  realloc_at-sound address size site answers FreePage told may = free_at-sound rules state is address FreePage told
  realloc_at-sound address size site answers InPageBlock told may = free_at-sound rules state is address InPageBlock told
  realloc_at-sound address size site answers OnGuard told may = free_at-sound rules state is address OnGuard told
  realloc_at-sound address size site answers FreePlace told may = free_at-sound rules state is address FreePlace told
  realloc_at-sound address size site answers Unaligned told may = free_at-sound rules state is address Unaligned told

  pub realloc-sound : (address size site : ℕ) (answers : Answers) → MayAnswer rules state (realloc_wish rules state address size) answers → IsSound rules ((realloc rules state address size site answers).next)
  realloc-sound address size site answers may = realloc_at-sound address size site answers (standing rules state address) (standing-tells rules state is address) may

  pub reallocarray-sound : (address count size site : ℕ) (answers : Answers) → MayAnswer rules state (reallocarray_wish rules state address count size) answers → IsSound rules ((reallocarray rules state address count size site answers).next)
  reallocarray-sound address count size site answers = by (product count size)
    where
      by : (asked : Option ℕ) → MayAnswer rules state (reallocarray_wish_of rules state address asked) answers → IsSound rules ((reallocarray_of rules state address asked site answers).next)
      by None may = is
      by (Some bytes) may = realloc-sound address bytes site answers may
