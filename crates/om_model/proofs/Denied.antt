-- A null and a fault release nothing, and change nothing but the words drawn.
use Rattle.std.proofs.Common.{◌≡◌, ℕ, ◌+◌, Bool, true, false, Option, Some, None, if◌then◌else◌, refl, ap, ◌∙◌, arith}
use Rattle.om_model.specs.Pool.Access.{barred, load_unless, load, store_unless, store}
use Rattle.om_model.specs.Pool.Product.{product}
use Rattle.om_model.specs.Pool.Calloc.{zeroed_at, zeroed, calloc_of, calloc}
use Rattle.om_model.specs.Pool.Canaries.{broken_canary}
use Rattle.om_model.specs.Pool.Free.{delay, delay_unless, misuse, freed_again, free_at, free}
use Rattle.om_model.specs.Pool.Malloc.{Placed, words_for, is_too_large, page_for, placed_where, placing, block_placed, unless_too_large, malloc}
use Rattle.om_model.specs.Pool.Realloc.{Resize, slot_words, late_misuse, slot_drawn, moved_where, moved_unless, moves_checked, claimed_unless, realloc_by, realloc_block, unless_broken, realloc_at, realloc, reallocarray_of, reallocarray}
use Rattle.om_model.specs.Pool.Resizing.{Way, Stays, Shrinks, Grows, Claims, Moves, way}
use Rattle.om_model.specs.Pool.Rules.{Rules, word_at}
use Rattle.om_model.specs.Pool.Standing.{Standing, NotHeld, FreePage, PageBlock, InPageBlock, OnGuard, LivePlace, DelayedPlace, FreePlace, Unaligned, standing}
use Rattle.om_model.specs.Pool.State.{State, drawn_more}
use Rattle.om_model.specs.Pool.Steps.{Answers, Step, KeepsWhereDenied, unchanged, null_or_fault}
use Rattle.om_model.specs.declared.entry.Move.{Move}
use Rattle.om_model.specs.declared.looks.Look.{Look}
use Rattle.om_model.specs.declared.reply.Fault.{Fault}
use Rattle.om_model.specs.declared.reply.Fault.TheVariants.{DoubleFree, AlreadyFree, Bogus, ModifiedPointer, Canary}
use Rattle.om_model.specs.declared.reply.Reply.{Reply}
use Rattle.om_model.specs.declared.reply.Reply.TheVariants as reply
use Rattle.om_model.specs.declared.reply.Why.TheVariants.{Overflow, TooLarge}

unchanged-keeps : (state : State) (answer : Reply) → KeepsWhereDenied state (unchanged state answer)
unchanged-keeps state answer denied = let same : state.drawn ≡ state.drawn + 0 = omega arith in (refl, ap (λ (n : ℕ). record state { drawn = n }) same)

where-keeps : (rules : Rules) (state : State) (words : ℕ) (own : Option ℕ) (claim : Option Move) (word size site : ℕ)
    → KeepsWhereDenied state (block_placed rules words (placed_where rules (drawn_more words state) own claim word size site))
where-keeps rules state words (Some page) claim word size site denied = cc
where-keeps rules state words None (Some move) word size site denied = cc
where-keeps rules state words None None word size site denied = (refl, refl)

placing-keeps : (rules : Rules) (state : State) (size site : ℕ) (claim : Option Move) → KeepsWhereDenied state (block_placed rules (words_for rules size) (placing rules state size site claim))
placing-keeps rules state size site claim = where-keeps rules state (words_for rules size) (page_for rules state size) claim (word_at rules (state.drawn + 1)) size site

large-keeps : (rules : Rules) (state : State) (size : ℕ) (step : Step) → KeepsWhereDenied state step → KeepsWhereDenied state (unless_too_large rules state size step)
large-keeps rules state size step keeps = by (is_too_large rules size)
  where
    by : (b : Bool) → KeepsWhereDenied state (if b then unchanged state (null_or_fault rules TooLarge) else step)
    by true = unchanged-keeps state (null_or_fault rules TooLarge)
    by false = keeps

pub malloc-keeps : (rules : Rules) (state : State) (size site : ℕ) (claim : Option Move) → KeepsWhereDenied state (malloc rules state size site claim)
malloc-keeps rules state size site claim =
    large-keeps rules state size (block_placed rules (words_for rules size) (placing rules state size site claim)) (placing-keeps rules state size site claim)

pub calloc-keeps : (rules : Rules) (state : State) (count size site : ℕ) (claim : Option Move) → KeepsWhereDenied state (calloc rules state count size site claim)
calloc-keeps rules state count size site claim = by (product count size)
  where
    zeroed-keeps : (words bytes : ℕ) (address : Option ℕ) (next : State) → KeepsWhereDenied state (block_placed rules words (record { address = address; next = next }))
        → KeepsWhereDenied state (block_placed rules words (record { address = address; next = zeroed_at address bytes next }))
    zeroed-keeps words bytes None next keeps = keeps
    zeroed-keeps words bytes (Some address) next keeps = λ denied. cc

    by : (asked : Option ℕ) → KeepsWhereDenied state (calloc_of rules state asked site claim)
    by None = unchanged-keeps state (null_or_fault rules Overflow)
    by (Some bytes) =
        let placed = placing rules state bytes site claim in
        large-keeps rules state bytes (block_placed rules (words_for rules bytes) (zeroed bytes placed)) (zeroed-keeps (words_for rules bytes) bytes placed.address placed.next (placing-keeps rules state bytes site claim))

at-keeps : (rules : Rules) (state : State) (address : ℕ) (stands : Standing) → KeepsWhereDenied state (free_at rules state address stands)
unfolding delay freed_again
at-keeps rules state address NotHeld denied = cc
at-keeps rules state address FreePage denied = unchanged-keeps state (reply.Fault Bogus) denied
at-keeps rules state address (PageBlock block) denied = cc
at-keeps rules state address InPageBlock denied = unchanged-keeps state (reply.Fault Bogus) denied
at-keeps rules state address OnGuard denied = unchanged-keeps state (reply.Fault Bogus) denied
at-keeps rules state address (LivePlace place block) denied = by (misuse rules state block) denied
  where
    by : (found : Option Fault) → KeepsWhereDenied state (delay_unless found rules state place)
    by (Some fault) = λ told. (refl, refl)
    by None = λ also. cc
at-keeps rules state address (DelayedPlace place) denied = (refl, refl)
at-keeps rules state address FreePlace denied = unchanged-keeps state (reply.Fault AlreadyFree) denied
at-keeps rules state address Unaligned denied = unchanged-keeps state (reply.Fault ModifiedPointer) denied

pub free-keeps : (rules : Rules) (state : State) (address : ℕ) → KeepsWhereDenied state (free rules state address)
free-keeps rules state address = at-keeps rules state address (standing rules state address)

pub load-keeps : (rules : Rules) (state : State) (address : ℕ) → KeepsWhereDenied state (load rules state address)
load-keeps rules state address = unless (barred rules state address)
  where
    unless : (bar : Option Reply) → KeepsWhereDenied state (load_unless state address bar)
    unless (Some bar) denied = unchanged-keeps state bar denied
    unless None denied = cc

pub store-keeps : (rules : Rules) (state : State) (address byte : ℕ) → KeepsWhereDenied state (store rules state address byte)
store-keeps rules state address byte = unless (barred rules state address)
  where
    unless : (bar : Option Reply) → KeepsWhereDenied state (store_unless state address byte bar)
    unless (Some bar) denied = unchanged-keeps state bar denied
    unless None denied = cc

-- ---- realloc

moves-keeps : (rules : Rules) (state : State) (asked : Resize) (claim : Option Move) → KeepsWhereDenied state (moves_checked rules state asked claim)
moves-keeps rules state asked claim = by (late_misuse rules state asked.place)
  where
    words : ℕ
    words = words_for rules asked.size

    placed-keeps : (placed : Placed) (to : Option ℕ) → KeepsWhereDenied (slot_drawn state asked.place) (block_placed rules words placed)
        → KeepsWhereDenied state (moved_where rules state asked (slot_words asked.place + words) placed to)
    placed-keeps placed None keeps denied =
        let same : state.drawn + slot_words asked.place + words ≡ state.drawn + (slot_words asked.place + words) = omega arith in
        (refl, (keeps denied).1 ∙ ap (λ (n : ℕ). record state { drawn = n }) same)
    placed-keeps placed (Some to) keeps denied = cc

    by : (found : Option Fault) → KeepsWhereDenied state (moved_unless found rules state asked claim)
    by (Some fault) = λ told. (refl, refl)
    by None =
        let from = slot_drawn state asked.place in
        let placed = placing rules from asked.size asked.site claim in
        placed-keeps placed placed.address (placing-keeps rules from asked.size asked.site claim)

way-keeps : (rules : Rules) (way : Way) (state : State) (asked : Resize) (answers : Answers) → KeepsWhereDenied state (realloc_by way rules state asked answers)
way-keeps rules Stays state asked answers = λ denied. cc
way-keeps rules Shrinks state asked answers = λ denied. cc
way-keeps rules Grows state asked answers = λ denied. cc
way-keeps rules Moves state asked answers = moves-keeps rules state asked answers.claim
way-keeps rules Claims state asked answers = by answers.taken
  where
    by : (taken : Option Look) → KeepsWhereDenied state (claimed_unless taken rules state asked answers.claim)
    by (Some look) = moves-keeps rules state asked answers.claim
    by None = λ denied. cc

block-keeps : (rules : Rules) (state : State) (asked : Resize) (answers : Answers) → KeepsWhereDenied state (realloc_block rules state asked answers)
block-keeps rules state asked answers =
    let by = way rules state asked.block asked.size in
    large-keeps rules state asked.size (realloc_by by rules state asked answers) (way-keeps rules by state asked answers)

realloc_at-keeps : (rules : Rules) (state : State) (address size site : ℕ) (answers : Answers) (stands : Standing) → KeepsWhereDenied state (realloc_at rules state address size site answers stands)
realloc_at-keeps rules state address size site answers (PageBlock block) = block-keeps rules state (record { block = block; place = None; size = size; site = site }) answers
realloc_at-keeps rules state address size site answers (LivePlace place block) = by (broken_canary rules state block)
  where
    by : (broken : Option ℕ) → KeepsWhereDenied state (unless_broken broken state (realloc_block rules state (record { block = block; place = Some place; size = size; site = site }) answers))
    by (Some offset) = unchanged-keeps state (reply.Fault (Canary offset))
    by None = block-keeps rules state (record { block = block; place = Some place; size = size; site = site }) answers
realloc_at-keeps rules state address size site answers (DelayedPlace place) = unchanged-keeps state (reply.Fault DoubleFree)
realloc_at-keeps rules state address size site answers NotHeld = at-keeps rules state address NotHeld
realloc_at-keeps rules state address size site answers FreePage = at-keeps rules state address FreePage
realloc_at-keeps rules state address size site answers InPageBlock = at-keeps rules state address InPageBlock
realloc_at-keeps rules state address size site answers OnGuard = at-keeps rules state address OnGuard
realloc_at-keeps rules state address size site answers FreePlace = at-keeps rules state address FreePlace
realloc_at-keeps rules state address size site answers Unaligned = at-keeps rules state address Unaligned

pub realloc-keeps : (rules : Rules) (state : State) (address size site : ℕ) (answers : Answers) → KeepsWhereDenied state (realloc rules state address size site answers)
realloc-keeps rules state address size site answers = realloc_at-keeps rules state address size site answers (standing rules state address)

pub reallocarray-keeps : (rules : Rules) (state : State) (address count size site : ℕ) (answers : Answers) → KeepsWhereDenied state (reallocarray rules state address count size site answers)
reallocarray-keeps rules state address count size site answers = by (product count size)
  where
    by : (asked : Option ℕ) → KeepsWhereDenied state (reallocarray_of rules state address asked site answers)
    by None = unchanged-keeps state (null_or_fault rules Overflow)
    by (Some bytes) = realloc-keeps rules state address bytes site answers
