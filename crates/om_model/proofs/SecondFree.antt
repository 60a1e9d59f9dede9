-- Under freecheck a free is done only where a live block begins at the address, and none does then. A block begins
-- there again only where one is given. So between two frees that were done one was given.
use Rattle.std.proofs.Common.{◌≡◌, ℕ, ◌+◌, ◌++◌, Bool, true, false, not, ◌&&◌, ◌==◌, if◌then◌else◌, List, [], ◌∷◌, Option, Some, None, IsSomeAnd, is_some, refl, sym, ap, ◌∙◌, subst}
use Rattle.std.specs.List.{AllByRecursion, list_any}
use Rattle.std.proofs.lemmas.Bool.{cases_Bool, eqb-true}
use mathlib.Core.Logic.{⊎_elim}
use Rattle.om_geom.specs.Addresses.{page_at}
use Rattle.om_geom.specs.FitLaws.{find-passes}
use Rattle.om_model.specs.Data.CallEntry.{CallEntry}
use Rattle.om_model.specs.Pool.Access.{barred, load_unless, load, store_unless, store}
use Rattle.om_model.specs.Pool.Product.{product}
use Rattle.om_model.specs.Pool.Calloc.{zeroed, calloc_of, calloc}
use Rattle.om_model.specs.Pool.Canaries.{broken_canary}
use Rattle.om_model.specs.Pool.Free.{without_block, drawn_slot, delay_unless, misuse, freed_again, free_at, free}
use Rattle.om_model.specs.Pool.InUse.{Kind, Chunk, Pages, Guard, uses, page_kind}
use Rattle.om_model.specs.Pool.Journal.{Agrees, step_unless, step_of, answers_of, next_of, after, state_from, IsLawfulEntry, IsLawfulFrom, IsLawful}
use Rattle.om_model.specs.Pool.Malloc.{Placed, block_or_null, words_for, is_too_large, page_for, address_on, placed_where, placing, block_placed, unless_too_large, malloc}
use Rattle.om_model.specs.Pool.Picks.{starts_place}
use Rattle.om_model.specs.Pool.Realloc.{Resize, with_size, resized, stayed, shrunk, grown, slot_words, late_misuse, slot_drawn, with_copy, left_for, moved_where, moved, moved_unless, moves_checked, claimed_unless, realloc_by, realloc_block, unless_broken, realloc_at, realloc, reallocarray_of, reallocarray}
use Rattle.om_model.specs.Pool.Resizing.{Way, Stays, Shrinks, Grows, Claims, Moves, last_pages, pages_after, way}
use Rattle.om_model.specs.Pool.Rules.{Rules, word_at, size_class}
use Rattle.om_model.specs.Pool.Runs.{run_of}
use Rattle.om_model.specs.Pool.SecondFree.{AreFreedOnce, IsFreeDone, is_block_at, gives_at}
use Rattle.om_model.specs.Pool.Standing.{Standing, NotHeld, FreePage, PageBlock, InPageBlock, OnGuard, LivePlace, DelayedPlace, FreePlace, Unaligned, block_at, delayed_at, in_pages, at_place, on_page, standing}
use Rattle.om_model.specs.Pool.State.{State, opening, drawn_more, holds, with_pages}
use Rattle.om_model.specs.Pool.Steps.{Answers, Step, unchanged, null_or_fault}
use Rattle.om_model.specs.declared.block.Block.{Block}
use Rattle.om_model.specs.declared.block.Place.{Place}
use Rattle.om_model.specs.declared.entry.Entry.{Entry}
use Rattle.om_model.specs.declared.entry.Entry.TheVariants.{Call, Phase}
use Rattle.om_model.specs.declared.entry.Move.{Move}
use Rattle.om_model.specs.declared.looks.Look.{Look}
use Rattle.om_model.specs.declared.operation.Op.{Op}
use Rattle.om_model.specs.declared.operation.Op.TheVariants.{Malloc, Calloc, Realloc, Reallocarray, Free, Load, Store}
use Rattle.om_model.specs.declared.reply.Fault.{Fault}
use Rattle.om_model.specs.declared.reply.Fault.TheVariants as fault
use Rattle.om_model.specs.declared.reply.Reply.{Reply}
use Rattle.om_model.specs.declared.reply.Reply.TheVariants as reply
use Rattle.om_model.specs.declared.reply.Why.TheVariants.{TooLarge}
use Rattle.om_model.proofs.LiveBlocks.{canary-live, delay-live, entered-live, let_go-live, moved_to_slot-live, new_data-live, page_block-live, zeroed-live}
use Rattle.om_model.proofs.Each.{all-append, all-filter, all-weaker, find-nothing, or_none, passes-filter}

-- ---- no live block begins at the address

module _ (rules : Rules) (address : ℕ) where
  abbrev Elsewhere : Block → Type 0
  Elsewhere block = (block.address == address) ≡ false

  abbrev IsVacant : List Block → Type 0
  IsVacant live = AllByRecursion Elsewhere live

  vacated : (state : State) → IsVacant (without_block state address).live
  vacated state = all-weaker (λ (block : Block). not (block.address == address) ≡ true) Elsewhere (without_block state address).live (λ block others. is-false (block.address == address) others) (passes-filter (λ (block : Block). not (block.address == address)) state.live)
    where
      is-false : (b : Bool) → not b ≡ true → b ≡ false
      is-false true e = cc
      is-false false e = refl

  keeps-left : (state : State) (other : ℕ) → IsVacant state.live → IsVacant (without_block state other).live
  keeps-left state other = all-filter Elsewhere (λ (block : Block). not (block.address == other)) state.live

  -- a free of any address gives no block
  at-keeps : (state : State) (other : ℕ) (stands : Standing) → IsVacant state.live → IsVacant ((free_at rules state other stands).next).live
  unfolding freed_again
  at-keeps state other NotHeld is = is
  at-keeps state other (PageBlock block) is = subst IsVacant (sym (page_block-live rules state block)) (keeps-left state block.address is)
  at-keeps state other FreePage is = is
  at-keeps state other InPageBlock is = is
  at-keeps state other OnGuard is = is
  at-keeps state other Unaligned is = is
  at-keeps state other FreePlace is = is
  at-keeps state other (DelayedPlace place) is = is
  at-keeps state other (LivePlace place block) is = by (misuse rules state block)
    where
      by : (found : Option Fault) → IsVacant ((delay_unless found rules state place).next).live
      by (Some fault) = is
      by None = subst IsVacant (sym (delay-live rules state place)) (keeps-left state place.address is)

  -- after a step that gives no block there, there is none where there was none before
  abbrev Keeps : State → Step → Type 0
  Keeps state step = is_block_at address step.reply ≡ false → IsVacant state.live → IsVacant (step.next).live

  -- a block that is placed is given
  where-keeps : (state : State) (words : ℕ) (own : Option ℕ) (claim : Option Move) (word size site : ℕ) → Keeps state (block_placed rules words (placed_where rules state own claim word size site))
  where-keeps state words (Some page) claim word size site others is = subst IsVacant (sym (entered-live rules (record { address = address_on rules state page word (size_class rules size); size = size; site = site }) state)) (all-append Elsewhere state.live _ is (others, tt))
  where-keeps state words None (Some move) word size site others is =
      let pages = with_pages (run_of move) state in
      subst IsVacant (sym (entered-live rules (record { address = address_on rules pages (run_of move).first word (size_class rules size); size = size; site = site }) pages)) (all-append Elsewhere state.live _ is (others, tt))
  where-keeps state words None None word size site others is = is

  placing-keeps : (state : State) (words size site : ℕ) (claim : Option Move) → Keeps state (block_placed rules words (placing rules state size site claim))
  placing-keeps state words size site claim = where-keeps (drawn_more (words_for rules size) state) words (page_for rules state size) claim (word_at rules (state.drawn + 1)) size site

  large-keeps : (state : State) (size : ℕ) (step : Step) → Keeps state step → Keeps state (unless_too_large rules state size step)
  large-keeps state size step keeps = by (is_too_large rules size)
    where
      by : (b : Bool) → Keeps state (if b then unchanged state (null_or_fault rules TooLarge) else step)
      by true = λ others is. is
      by false = keeps

  malloc-keeps : (state : State) (size site : ℕ) (claim : Option Move) → Keeps state (malloc rules state size site claim)
  malloc-keeps state size site claim =
      large-keeps state size (block_placed rules (words_for rules size) (placing rules state size site claim)) (placing-keeps state (words_for rules size) size site claim)

  calloc-keeps : (state : State) (count size site : ℕ) (claim : Option Move) → Keeps state (calloc rules state count size site claim)
  calloc-keeps state count size site claim = by (product count size)
    where
      by : (asked : Option ℕ) → Keeps state (calloc_of rules state asked site claim)
      by None = λ others is. is
      by (Some bytes) =
          let placed = placing rules state bytes site claim in
          large-keeps state bytes (block_placed rules (words_for rules bytes) (zeroed bytes placed))
          (λ others is. subst IsVacant (sym (zeroed-live placed.address bytes placed.next)) (placing-keeps state (words_for rules bytes) bytes site claim others is))

  -- ---- realloc

  -- a block that keeps its address is given there
  resized-keeps : (state : State) (asked : Resize) → is_block_at address (reply.Block (asked.block).address) ≡ false → IsVacant state.live → IsVacant (resized asked state).live
  resized-keeps state asked others is =
      let old = (asked.block).address in
      all-append Elsewhere (without_block state old).live _ (keeps-left state old is) (others, tt)

  stayed-keeps : (state : State) (asked : Resize) → Keeps state (stayed rules state asked)
  stayed-keeps state asked others is = subst IsVacant (sym (canary-live rules (with_size asked) (resized asked state))) (resized-keeps state asked others is)

  shrunk-keeps : (state : State) (asked : Resize) → Keeps state (shrunk rules state asked)
  shrunk-keeps state asked others is =
      subst IsVacant (sym (let_go-live rules (resized asked state) (last_pages rules asked.block asked.size))) (resized-keeps state asked others is)

  grown-keeps : (state : State) (asked : Resize) → Keeps state (grown rules state asked)
  grown-keeps state asked others is = subst IsVacant (sym (new_data-live rules asked.block asked.size (resized asked state))) (resized-keeps state asked others is)

  left_for-keeps : (state : State) (block : Block) (place : Option Place) (next : State) → IsVacant next.live → IsVacant ((left_for rules state block place next).next).live
  left_for-keeps state block (Some place) next is = subst IsVacant (sym (moved_to_slot-live rules next (drawn_slot rules state) place)) (keeps-left next place.address is)
  left_for-keeps state block None next is = subst IsVacant (sym (page_block-live rules next block)) (keeps-left next block.address is)

  moved-keeps : (state : State) (asked : Resize) (claim : Option Move) → Keeps state (moved rules state asked claim)
  moved-keeps state asked claim =
      let from = slot_drawn state asked.place in
      let words = slot_words asked.place + words_for rules asked.size in
      let placed = placing rules from asked.size asked.site claim in
      by words placed placed.address refl (placing-keeps from words asked.size asked.site claim)
    where
      by : (words : ℕ) (placed : Placed) (to : Option ℕ) → placed.address ≡ to → Keeps state (block_placed rules words placed) → Keeps state (moved_where rules state asked words placed to)
      by words placed None at keeps others is = keeps others is
      by words placed (Some to) at keeps others is =
          let elsewhere = subst (λ a. is_block_at address (block_or_null rules a) ≡ false) (sym at) others in
          left_for-keeps state asked.block asked.place (with_copy asked.block asked.size to placed.next) (keeps elsewhere is)

  moves-keeps : (state : State) (asked : Resize) (claim : Option Move) → Keeps state (moves_checked rules state asked claim)
  moves-keeps state asked claim = by (late_misuse rules state asked.place)
    where
      by : (found : Option Fault) → Keeps state (moved_unless found rules state asked claim)
      by (Some fault) = λ others is. is
      by None = moved-keeps state asked claim

  way-keeps : (way : Way) (state : State) (asked : Resize) (answers : Answers) → Keeps state (realloc_by way rules state asked answers)
  way-keeps Stays state asked answers = stayed-keeps state asked
  way-keeps Shrinks state asked answers = shrunk-keeps state asked
  way-keeps Grows state asked answers = grown-keeps state asked
  way-keeps Moves state asked answers = moves-keeps state asked answers.claim
  way-keeps Claims state asked answers = by answers.taken
    where
      by : (taken : Option Look) → Keeps state (claimed_unless taken rules state asked answers.claim)
      by (Some look) = moves-keeps state asked answers.claim
      by None = grown-keeps (with_pages (pages_after rules asked.block asked.size) state) asked

  block-keeps : (state : State) (asked : Resize) (answers : Answers) → Keeps state (realloc_block rules state asked answers)
  block-keeps state asked answers =
      let by = way rules state asked.block asked.size in
      large-keeps state asked.size (realloc_by by rules state asked answers) (way-keeps by state asked answers)

  realloc-at : (state : State) (other size site : ℕ) (answers : Answers) (stands : Standing) → Keeps state (realloc_at rules state other size site answers stands)
  realloc-at state other size site answers (PageBlock block) = block-keeps state (record { block = block; place = None; size = size; site = site }) answers
  realloc-at state other size site answers (LivePlace place block) = by (broken_canary rules state block)
    where
      by : (broken : Option ℕ) → Keeps state (unless_broken broken state (realloc_block rules state (record { block = block; place = Some place; size = size; site = site }) answers))
      by (Some offset) = λ others is. is
      by None = block-keeps state (record { block = block; place = Some place; size = size; site = site }) answers
  realloc-at state other size site answers (DelayedPlace place) = λ others is. is
  realloc-at state other size site answers NotHeld = λ others is. is
  realloc-at state other size site answers FreePage = λ others is. is
  realloc-at state other size site answers InPageBlock = λ others is. is
  realloc-at state other size site answers OnGuard = λ others is. is
  realloc-at state other size site answers FreePlace = λ others is. is
  realloc-at state other size site answers Unaligned = λ others is. is

  realloc-keeps : (state : State) (other size site : ℕ) (answers : Answers) → Keeps state (realloc rules state other size site answers)
  realloc-keeps state other size site answers = realloc-at state other size site answers (standing rules state other)

  reallocarray-keeps : (state : State) (other count size site : ℕ) (answers : Answers) → Keeps state (reallocarray rules state other count size site answers)
  reallocarray-keeps state other count size site answers = by (product count size)
    where
      by : (asked : Option ℕ) → Keeps state (reallocarray_of rules state other asked site answers)
      by None = λ others is. is
      by (Some bytes) = realloc-keeps state other bytes site answers

  -- ---- any step

  store-keeps : (state : State) (other byte : ℕ) → Keeps state (store rules state other byte)
  store-keeps state other byte = by (barred rules state other)
    where
      by : (bar : Option Reply) → Keeps state (store_unless state other byte bar)
      by (Some bar) = λ others is. is
      by None = λ others is. is

  load-keeps : (state : State) (other : ℕ) → Keeps state (load rules state other)
  load-keeps state other = by (barred rules state other)
    where
      by : (bar : Option Reply) → Keeps state (load_unless state other bar)
      by (Some bar) = λ others is. is
      by None = λ others is. is

  -- what its step answers is the entry's answer
  abbrev AllKeep : State → Option Step → Type 0
  AllKeep state step = (answer : Reply) → IsSomeAnd step (λ s. answer ≡ s.reply) → is_block_at address answer ≡ false → IsVacant state.live → IsVacant (next_of state step).live

  some-keep : (state : State) (step : Step) → Keeps state step → AllKeep state (Some step)
  some-keep state step keeps answer same others is = keeps (ap (is_block_at address) (sym same) ∙ others) is

  unless-keep : (state : State) (as_malloc : Bool) (step : Step) → Keeps state step → AllKeep state (step_unless as_malloc step)
  unless-keep state true step keeps = λ answer same others is. is
  unless-keep state false step keeps = some-keep state step keeps

  op-keeps : (state : State) (op : Op) (answers : Answers) → AllKeep state (step_of rules state op answers)
  op-keeps state (Malloc size site) answers = some-keep state (malloc rules state size site answers.claim) (malloc-keeps state size site answers.claim)
  op-keeps state (Calloc count size site) answers = some-keep state (calloc rules state count size site answers.claim) (calloc-keeps state count size site answers.claim)
  op-keeps state (Realloc other size site) answers = unless-keep state (other == 0) (realloc rules state other size site answers) (realloc-keeps state other size site answers)
  op-keeps state (Reallocarray other count size site) answers =
      unless-keep state ((other == 0) && is_some (product count size)) (reallocarray rules state other count size site answers) (reallocarray-keeps state other count size site answers)
  op-keeps state (Free other) answers = some-keep state (free rules state other) (λ others. at-keeps state other (standing rules state other))
  op-keeps state (Load other) answers = some-keep state (load rules state other) (load-keeps state other)
  op-keeps state (Store other byte) answers = some-keep state (store rules state other byte) (store-keeps state other byte)

  entry-keeps : (state : State) (entry : Entry) → IsLawfulEntry rules state entry → gives_at address entry ≡ false → IsVacant state.live → IsVacant (after rules state entry).live
  entry-keeps state (Phase number) lawful others is = is
  entry-keeps state (Call entry) lawful others is = op-keeps state entry.op (answers_of entry) entry.reply (agreed (step_of rules state entry.op (answers_of entry)) lawful.step) others is
    where
      agreed : (step : Option Step) → IsSomeAnd step (Agrees rules state entry) → IsSomeAnd step (λ step. entry.reply ≡ step.reply)
      agreed (Some step) agrees = agrees.reply
      agreed None agrees = agrees

  from-keeps : (state : State) (between rest : List Entry) → IsLawfulFrom rules state (between ++ rest) → list_any (gives_at address) between ≡ false → IsVacant state.live
      → IsVacant (state_from rules state between).live × IsLawfulFrom rules (state_from rules state between) rest
  from-keeps state [] rest lawful others is = (is, lawful)
  from-keeps state (entry ∷ between) rest lawful others is =
      let both = or_none (gives_at address entry) (list_any (gives_at address) between) others in
      from-keeps (after rules state entry) between rest lawful.1 both.1 (entry-keeps state entry lawful.0 both.0 is)

  -- ---- a free that is done

  module _ (seen : rules.options.freecheck ≡ true) (state : State) where
    -- a live block began at the address, and none does then
    abbrev IsLeft : Step → Type 0
    IsLeft step = step.reply ≡ reply.Done → (is_some (block_at state address) ≡ true) × IsVacant (step.next).live

    live-left : (class : ℕ) (block : Block) (found : Option Fault) → block_at state address ≡ Some block → IsLeft (delay_unless found rules state (record { address = address; class = class }))
    live-left class block (Some fault) live done = cc
    live-left class block None live done = (ap is_some live, subst IsVacant (sym (delay-live rules state (record { address = address; class = class }))) (vacated state))

    place-left : (class : ℕ) (live : Option Block) (put : Option Place) → block_at state address ≡ live → IsLeft (free_at rules state address (at_place class address live put))
    unfolding freed_again
    place-left class live (Some place) live_is done = let told : reply.Fault fault.DoubleFree ≡ reply.Done = rw seen at done in cc
    place-left class (Some block) None live_is done = live-left class block (misuse rules state block) live_is done
    place-left class None None live_is done = cc

    start-left : (class : ℕ) (starts : Bool) → IsLeft (free_at rules state address (if starts then at_place class address (block_at state address) (delayed_at state address) else Unaligned))
    start-left class true done = place-left class (block_at state address) (delayed_at state address) refl done
    start-left class false done = cc

    pages-left : (live : Option Block) → block_at state address ≡ live → IsLeft (free_at rules state address (in_pages live))
    pages-left None live_is done = cc
    pages-left (Some block) live_is done =
        let here = eqb-true block.address address (find-passes (λ (b : Block). b.address == address) state.live block live_is) in
        (ap is_some live_is, subst IsVacant (sym (page_block-live rules state block ∙ ap (λ a. (without_block state a).live) here)) (vacated state))

    kind-left : (kind : Option Kind) → IsLeft (free_at rules state address (on_page state address kind))
    kind-left None done = cc
    kind-left (Some Pages) done = pages-left (block_at state address) refl done
    kind-left (Some Guard) done = cc
    kind-left (Some (Chunk class)) done = start-left class (starts_place class address) done

    free-left : IsLeft (free rules state address)
    free-left = held (holds rules state address)
      where
        held : (b : Bool) → IsLeft (free_at rules state address (if b then on_page state address (page_kind (uses rules state) (page_at address)) else NotHeld))
        held true done = kind-left (page_kind (uses rules state) (page_at address)) done
        held false done = cc

    -- an entry of such a free says so
    entry-left : (entry : CallEntry) → IsLawfulEntry rules state (Call entry) → IsFreeDone address entry → (is_some (block_at state address) ≡ true) × IsVacant (after rules state (Call entry)).live
    entry-left entry lawful freed =
        let By : Op → Type 0 = λ op. IsSomeAnd (step_of rules state op (answers_of entry)) (Agrees rules state entry) in
        let agrees : By (Free address) = subst By freed.0 lawful.step in
        let left = free-left (sym agrees.reply ∙ freed.1) in
        let Left : Op → Type 0 = λ op. IsVacant (next_of state (step_of rules state op (answers_of entry))).live in
        (left.0, subst Left (sym freed.0) left.1)

  -- nothing that begins there can be freed where none does
  none-there : (state : State) → IsVacant state.live → is_some (block_at state address) ≡ true → ⊥
  none-there state is some = let nothing : Option Block = None in
      let no : is_some nothing ≡ true = rw (find-nothing (λ (block : Block). block.address == address) state.live is) at some in cc

  given-between : rules.options.freecheck ≡ true → (state : State) (before : List Entry) (first : CallEntry) (between : List Entry) (second : CallEntry) (rest : List Entry)
      → IsLawfulFrom rules state (before ++ Call first ∷ between ++ Call second ∷ rest) → IsFreeDone address first → IsFreeDone address second → list_any (gives_at address) between ≡ true
  given-between seen state (entry ∷ before) first between second rest lawful one two = given-between seen (after rules state entry) before first between second rest lawful.1 one two
  given-between seen state [] first between second rest lawful one two = ⊎_elim
      (λ given. given)
      (λ none.
      let next = after rules state (Call first) in
      let kept = from-keeps next between (Call second ∷ rest) lawful.1 none (entry-left seen state first lawful.0 one).1 in
      absurd (none-there (state_from rules next between) kept.0 (entry-left seen (state_from rules next between) second (kept.1).0 two).0))
      (cases_Bool (list_any (gives_at address) between))

pub freed-once : (rules : Rules) (entries : List Entry) → rules.options.freecheck ≡ true → IsLawful rules entries → AreFreedOnce entries
freed-once rules entries seen lawful before first between second rest address parts one two =
    let Lawful : List Entry → Type 0 = IsLawfulFrom rules (opening rules) in
    given-between rules address seen (opening rules) before first between second rest (subst Lawful parts lawful.calls) one two
