-- A step draws as many words as it says: an allocation at most two, a free at most one, and a realloc at most three, of
-- which one is for the slot of the old block. So a journal draws at most three words for each entry.
use Rattle.std.proofs.Common.{◌≡◌, ℕ, zero, suc, ◌+◌, ◌*◌, ◌≤◌, Bool, true, false, ◌&&◌, ◌==◌, List, [], ◌∷◌, ◌++◌, length, Option, Some, None, is_some, if◌then◌else◌, refl, sym, ap, ◌∙◌, arith, zero-add}
use Rattle.om_geom.specs.Addresses.{page_at}
use Rattle.om_model.specs.Pool.Rules.{Rules, word_at, words_from, size_class, block_pages}
use Rattle.om_model.specs.Pool.Runs.{Run, run_of}
use Rattle.om_model.specs.Pool.State.{State, opening, drawn_more, with_pages}
use Rattle.om_model.specs.Pool.InUse.{uses, is_free_page}
use Rattle.om_model.specs.Pool.Steps.{Answers, Step, unchanged, null_or_fault}
use Rattle.om_model.specs.Pool.Malloc.{Placed, words_by_class, words_for, is_too_large, page_for, with_block, address_on, placed_on, placed_where, placing, block_placed, unless_too_large, malloc}
use Rattle.om_model.specs.Pool.Product.{product}
use Rattle.om_model.specs.Pool.Calloc.{zeroed, calloc_of, calloc}
use Rattle.om_model.specs.Pool.Canaries.{broken_canary}
use Rattle.om_model.specs.Pool.Realloc.{Resize, with_size, resized, slot_words, late_misuse, slot_drawn, with_copy, left_for, moved_where, moved_unless, moves_checked, claimed_unless, realloc_by, realloc_block, unless_broken, realloc_at, realloc, reallocarray_of, reallocarray}
use Rattle.om_model.specs.Pool.Resizing.{Way, Stays, Shrinks, Grows, Claims, Moves, last_pages, pages_after, way}
use Rattle.om_model.specs.Pool.Standing.{Standing, NotHeld, FreePage, PageBlock, InPageBlock, OnGuard, LivePlace, DelayedPlace, FreePlace, Unaligned, standing}
use Rattle.om_model.specs.Pool.Free.{Freed, is_surplus, kept_or_let_go, evicted, without_block, drawn_slot, slot_of, into_slot, put_off, delay, delay_unless, misuse, freed_again, free_at, free}
use Rattle.om_model.specs.Pool.Access.{barred, load_unless, store_unless}
use Rattle.om_model.specs.Pool.Junk.{with_fresh_junk, with_freed_pages}
use Rattle.om_model.specs.Pool.Journal.{step_unless, step_of, answers_of, next_of, after, state_from, state_of}
use Rattle.om_model.specs.declared.block.Block.{Block}
use Rattle.om_model.specs.declared.block.Place.{Place}
use Rattle.om_model.specs.declared.reply.Fault.{Fault}
use Rattle.om_model.specs.declared.entry.Entry.{Entry}
use Rattle.om_model.specs.declared.entry.Entry.TheVariants.{Call, Phase}
use Rattle.om_model.specs.declared.entry.Move.{Move}
use Rattle.om_model.specs.declared.looks.Look.{Look}
use Rattle.om_model.specs.declared.reply.Reply.{Reply}
use Rattle.om_model.specs.declared.reply.Why.TheVariants.{TooLarge}
use Rattle.om_model.specs.declared.operation.Op.{Op}
use Rattle.om_model.specs.declared.operation.Op.TheVariants.{Malloc, Calloc, Realloc, Reallocarray, Free, Load, Store}
use Rattle.om_model.proofs.Bytes.{canary-drawn, fresh-drawn, freed-drawn, freed_pages-drawn, new_data-drawn, zeroed-drawn}

pub on-drawn : (rules : Rules) (state : State) (page word size site : ℕ) → ((placed_on rules state page word size site).next).drawn ≡ state.drawn
on-drawn rules state page word size site =
    let block : Block = record { address = address_on rules state page word (size_class rules size); size = size; site = site } in
    canary-drawn rules block (with_fresh_junk rules block (with_block block state)) ∙ fresh-drawn rules block (with_block block state)

pub where-drawn : (rules : Rules) (state : State) (own : Option ℕ) (claim : Option Move) (word size site : ℕ) → ((placed_where rules state own claim word size site).next).drawn ≡ state.drawn
where-drawn rules state (Some page) claim word size site = on-drawn rules state page word size site
where-drawn rules state None None word size site = refl
where-drawn rules state None (Some move) word size site = on-drawn rules (with_pages (run_of move) state) (run_of move).first word size site

-- the step draws as many words as it says, and at most so many
pub record Draws (limit : ℕ) (state : State) (step : Step) : Type 0 where
  pub few : step.words ≤ limit
  pub next : (step.next).drawn ≡ state.drawn + step.words

none-draw : (limit : ℕ) (state : State) (step : Step) → step.words ≡ 0 → (step.next).drawn ≡ state.drawn → Draws limit state step
none-draw limit state step none next = record { few = omega arith; next = omega arith }

-- ---- allocations

few-words : (rules : Rules) (size : ℕ) → words_for rules size ≤ 2
few-words rules size = by (size_class rules size)
  where
    by : (class : Option ℕ) → words_by_class class ≤ 2
    by (Some class) = omega arith
    by None = omega arith

placing-drawn : (rules : Rules) (state : State) (size site : ℕ) (claim : Option Move) → ((placing rules state size site claim).next).drawn ≡ state.drawn + words_for rules size
placing-drawn rules state size site claim = where-drawn rules (drawn_more (words_for rules size) state) (page_for rules state size) claim (word_at rules (state.drawn + 1)) size site

large-draws : (limit : ℕ) (rules : Rules) (state : State) (size : ℕ) (step : Step) → Draws limit state step → Draws limit state (unless_too_large rules state size step)
large-draws limit rules state size step draws = by (is_too_large rules size)
  where
    by : (b : Bool) → Draws limit state (if b then unchanged state (null_or_fault rules TooLarge) else step)
    by true = none-draw limit state _ refl refl
    by false = draws

pub malloc-draws : (rules : Rules) (state : State) (size site : ℕ) (claim : Option Move) → Draws 2 state (malloc rules state size site claim)
malloc-draws rules state size site claim =
    large-draws 2 rules state size (block_placed rules (words_for rules size) (placing rules state size site claim)) (record { few = few-words rules size; next = placing-drawn rules state size site claim })

pub calloc-draws : (rules : Rules) (state : State) (count size site : ℕ) (claim : Option Move) → Draws 2 state (calloc rules state count size site claim)
calloc-draws rules state count size site claim = by (product count size)
  where
    by : (asked : Option ℕ) → Draws 2 state (calloc_of rules state asked site claim)
    by None = none-draw 2 state _ refl refl
    by (Some bytes) =
        let placed = placing rules state bytes site claim in
        large-draws 2 rules state bytes (block_placed rules (words_for rules bytes) (zeroed bytes placed))
        (record { few = few-words rules bytes; next = zeroed-drawn placed.address bytes placed.next ∙ placing-drawn rules state bytes site claim })

-- ---- frees

either-drawn : (test : Bool) (this other : Freed) (drawn : ℕ) → (this.next).drawn ≡ drawn → (other.next).drawn ≡ drawn → ((if test then this else other).next).drawn ≡ drawn
either-drawn true this other drawn first second = first
either-drawn false this other drawn first second = second

let_go-drawn : (rules : Rules) (state : State) (run : Run) → ((kept_or_let_go rules state run).next).drawn ≡ state.drawn
unfolding kept_or_let_go
let_go-drawn rules state run = either-drawn (is_surplus rules state) _ _ state.drawn refl refl

evicted-drawn : (rules : Rules) (state : State) (slot : Option Place) → ((evicted rules state slot).next).drawn ≡ state.drawn
evicted-drawn rules state None = refl
evicted-drawn rules state (Some place) =
    either-drawn (is_free_page (uses rules state) (page_at place.address)) _ _ state.drawn (let_go-drawn rules state (record { first = page_at place.address; count = 1 })) refl

-- a block that leaves draws none
left_for-drawn : (rules : Rules) (state : State) (block : Block) (place : Option Place) (next : State) → ((left_for rules state block place next).next).drawn ≡ next.drawn
left_for-drawn rules state block (Some place) next =
    let slot = drawn_slot rules state in
    evicted-drawn rules (put_off rules next slot place) (slot_of next slot) ∙ freed-drawn rules place (into_slot next slot place)
left_for-drawn rules state block None next =
    let left = without_block next block.address in
    let_go-drawn rules (with_freed_pages rules block left) (record { first = page_at block.address; count = block_pages rules block.size }) ∙ freed_pages-drawn rules block left

unless-draws : (rules : Rules) (state : State) (place : Place) (block : Block) (found : Option Fault) → Draws 1 state (delay_unless found rules state place)
unfolding delay
unless-draws rules state place block (Some fault) = record { few = omega arith; next = refl }
unless-draws rules state place block None = record { few = omega arith; next = left_for-drawn rules state block (Some place) (drawn_more 1 state) }

at-draws : (rules : Rules) (state : State) (address : ℕ) (stands : Standing) → Draws 1 state (free_at rules state address stands)
unfolding freed_again
at-draws rules state address NotHeld = none-draw 1 state _ refl refl
at-draws rules state address FreePage = none-draw 1 state _ refl refl
at-draws rules state address (PageBlock block) = none-draw 1 state _ refl (left_for-drawn rules state block None state)
at-draws rules state address InPageBlock = none-draw 1 state _ refl refl
at-draws rules state address OnGuard = none-draw 1 state _ refl refl
at-draws rules state address (LivePlace place block) = unless-draws rules state place block (misuse rules state block)
at-draws rules state address (DelayedPlace place) = record { few = omega arith; next = refl }
at-draws rules state address FreePlace = none-draw 1 state _ refl refl
at-draws rules state address Unaligned = none-draw 1 state _ refl refl

pub free-draws : (rules : Rules) (state : State) (address : ℕ) → Draws 1 state (free rules state address)
free-draws rules state address = at-draws rules state address (standing rules state address)

-- ---- reallocs

moves-draw : (rules : Rules) (state : State) (asked : Resize) (claim : Option Move) → Draws 3 state (moves_checked rules state asked claim)
moves-draw rules state asked claim = by (late_misuse rules state asked.place)
  where
    words : ℕ
    words = slot_words asked.place + words_for rules asked.size

    few-slot_words : (at : Option Place) → slot_words at ≤ 1
    few-slot_words (Some here) = omega arith
    few-slot_words None = omega arith

    few : words ≤ 3
    few = omega (arith, few-slot_words asked.place, few-words rules asked.size)

    where-draws : (placed : Placed) (to : Option ℕ) → (placed.next).drawn ≡ state.drawn + words → Draws 3 state (moved_where rules state asked words placed to)
    where-draws placed None drawn = record { few = few; next = drawn }
    where-draws placed (Some to) drawn =
        record { few = few; next = left_for-drawn rules state asked.block asked.place (with_copy asked.block asked.size to placed.next) ∙ drawn }

    by : (found : Option Fault) → Draws 3 state (moved_unless found rules state asked claim)
    by (Some fault) = record { few = omega arith; next = refl }
    by None =
        let from = slot_drawn state asked.place in
        let placed = placing rules from asked.size asked.site claim in
        where-draws placed placed.address (omega (arith, placing-drawn rules from asked.size asked.site claim))

way-draws : (rules : Rules) (way : Way) (state : State) (asked : Resize) (answers : Answers) → Draws 3 state (realloc_by way rules state asked answers)
way-draws rules Stays state asked answers = none-draw 3 state _ refl (canary-drawn rules (with_size asked) (resized asked state))
way-draws rules Shrinks state asked answers = none-draw 3 state _ refl (let_go-drawn rules (resized asked state) (last_pages rules asked.block asked.size))
way-draws rules Grows state asked answers = none-draw 3 state _ refl (new_data-drawn rules asked.block asked.size (resized asked state))
way-draws rules Moves state asked answers = moves-draw rules state asked answers.claim
way-draws rules Claims state asked answers = by answers.taken
  where
    by : (taken : Option Look) → Draws 3 state (claimed_unless taken rules state asked answers.claim)
    by (Some look) = moves-draw rules state asked answers.claim
    by None = none-draw 3 state _ refl (new_data-drawn rules asked.block asked.size (resized asked (with_pages (pages_after rules asked.block asked.size) state)))

block-draws : (rules : Rules) (state : State) (asked : Resize) (answers : Answers) → Draws 3 state (realloc_block rules state asked answers)
block-draws rules state asked answers =
    let by = way rules state asked.block asked.size in
    large-draws 3 rules state asked.size (realloc_by by rules state asked answers) (way-draws rules by state asked answers)

realloc_at-draws : (rules : Rules) (state : State) (address size site : ℕ) (answers : Answers) (stands : Standing) → Draws 3 state (realloc_at rules state address size site answers stands)
realloc_at-draws rules state address size site answers (PageBlock block) = block-draws rules state (record { block = block; place = None; size = size; site = site }) answers
realloc_at-draws rules state address size site answers (LivePlace place block) = by (broken_canary rules state block)
  where
    by : (broken : Option ℕ) → Draws 3 state (unless_broken broken state (realloc_block rules state (record { block = block; place = Some place; size = size; site = site }) answers))
    by (Some offset) = none-draw 3 state _ refl refl
    by None = block-draws rules state (record { block = block; place = Some place; size = size; site = site }) answers
realloc_at-draws rules state address size site answers (DelayedPlace place) = none-draw 3 state _ refl refl
realloc_at-draws rules state address size site answers NotHeld = none-draw 3 state _ refl refl
realloc_at-draws rules state address size site answers FreePage = none-draw 3 state _ refl refl
realloc_at-draws rules state address size site answers InPageBlock = none-draw 3 state _ refl refl
realloc_at-draws rules state address size site answers OnGuard = none-draw 3 state _ refl refl
realloc_at-draws rules state address size site answers FreePlace = none-draw 3 state _ refl refl
realloc_at-draws rules state address size site answers Unaligned = none-draw 3 state _ refl refl

pub realloc-draws : (rules : Rules) (state : State) (address size site : ℕ) (answers : Answers) → Draws 3 state (realloc rules state address size site answers)
realloc-draws rules state address size site answers = realloc_at-draws rules state address size site answers (standing rules state address)

pub reallocarray-draws : (rules : Rules) (state : State) (address count size site : ℕ) (answers : Answers) → Draws 3 state (reallocarray rules state address count size site answers)
reallocarray-draws rules state address count size site answers = by (product count size)
  where
    by : (asked : Option ℕ) → Draws 3 state (reallocarray_of rules state address asked site answers)
    by None = none-draw 3 state _ refl refl
    by (Some bytes) = realloc-draws rules state address bytes site answers

-- ---- at most three words for each entry

load-draws : (state : State) (address : ℕ) (bar : Option Reply) → Draws 0 state (load_unless state address bar)
load-draws state address (Some reply) = none-draw 0 state _ refl refl
load-draws state address None = none-draw 0 state _ refl refl

store-draws : (state : State) (address byte : ℕ) (bar : Option Reply) → Draws 0 state (store_unless state address byte bar)
store-draws state address byte (Some reply) = none-draw 0 state _ refl refl
store-draws state address byte None = none-draw 0 state _ refl refl

step-drawn : (limit : ℕ) (state : State) (step : Step) → limit ≤ 3 → Draws limit state step → (step.next).drawn ≤ state.drawn + 3
step-drawn limit state step most draws = let few = draws.few in let next = draws.next in omega arith

unless-drawn : (state : State) (as_malloc : Bool) (step : Step) → Draws 3 state step → (next_of state (step_unless as_malloc step)).drawn ≤ state.drawn + 3
unless-drawn state true step draws = omega arith
unless-drawn state false step draws = step-drawn 3 state step (omega arith) draws

op-drawn : (rules : Rules) (state : State) (op : Op) (answers : Answers) → (next_of state (step_of rules state op answers)).drawn ≤ state.drawn + 3
op-drawn rules state (Malloc size site) answers = step-drawn 2 state _ (omega arith) (malloc-draws rules state size site answers.claim)
op-drawn rules state (Calloc count size site) answers = step-drawn 2 state _ (omega arith) (calloc-draws rules state count size site answers.claim)
op-drawn rules state (Realloc address size site) answers = unless-drawn state (address == 0) _ (realloc-draws rules state address size site answers)
op-drawn rules state (Reallocarray address count size site) answers =
    unless-drawn state ((address == 0) && is_some (product count size)) _ (reallocarray-draws rules state address count size site answers)
op-drawn rules state (Free address) answers = step-drawn 1 state _ (omega arith) (free-draws rules state address)
op-drawn rules state (Load address) answers = step-drawn 0 state _ (omega arith) (load-draws state address (barred rules state address))
op-drawn rules state (Store address byte) answers = step-drawn 0 state _ (omega arith) (store-draws state address byte (barred rules state address))

pub from-drawn : (rules : Rules) (state : State) (entries : List Entry) → (state_from rules state entries).drawn ≤ state.drawn + 3 * length entries
from-drawn rules state [] = omega arith
from-drawn rules state (Call entry ∷ entries) =
    omega (arith, from-drawn rules (after rules state (Call entry)) entries, op-drawn rules state entry.op (answers_of entry))
from-drawn rules state (Phase number ∷ entries) = omega (arith, from-drawn rules state entries)

pub state_of-drawn : (rules : Rules) (entries : List Entry) → (state_of rules entries).drawn ≤ 1 + 3 * length entries
state_of-drawn rules entries = from-drawn rules (opening rules) entries

-- ---- words that are drawn in two parts

pub words_from-parts : (rules : Rules) (first count more : ℕ) → words_from rules first (count + more) ≡ words_from rules first count ++ words_from rules (first + count) more
words_from-parts rules first zero more = ap (words_from rules first) (zero-add more) ∙ ap (λ i. words_from rules i more) (sym (let same : first + 0 ≡ first = omega arith in same))
words_from-parts rules first (suc count) more =
    let next : suc count + more ≡ suc (count + more) = omega arith in
    let later : first + 1 + count ≡ first + suc count = omega arith in
    rw next (ap (λ words. word_at rules first ∷ words) (words_from-parts rules (first + 1) count more ∙ ap (λ i. words_from rules (first + 1) count ++ words_from rules i more) later))
