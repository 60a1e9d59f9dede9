-- Realloc of an address, by what stands there. A delayed place is a double free under all options, and a broken canary
-- is told; what else can't be freed is answered as in a free. So far no word is drawn. A size that is too large is
-- null. Otherwise the block gets the new size and site, and keeps its bytes up to the lesser size. One that stays gets
-- its canaries anew. Of one that shrinks the last pages become free; one that grows is filled behind its old data at
-- junk level 2. One that moves, also where pages to grow over were found held, is placed like any other block, and its
-- bytes are copied; then the old block leaves, as in a free. Where this is a chunk, the word for its slot is drawn
-- before those of the placing, and a write after free is told. Where no run is found, or a fault is told, the old block
-- stays as it was.
use Rattle.std.specs.Prelude.{ℕ, ◌+◌, min, if◌then◌else◌, Option, Some, None}
use Rattle.std.specs.Option.{is_some, option_map}
use Rattle.om_frame.specs.Memory.{copied}
use Rattle.om_model.specs.Pool.Canaries.{broken_canary, with_canaries}
use Rattle.om_model.specs.Pool.Free.{Freed, kept_or_let_go, without_block, drawn_slot, moved_to_slot, without_page_block, told, free_at}
use Rattle.om_model.specs.Pool.Junk.{with_new_data}
use Rattle.om_model.specs.Pool.Malloc.{Placed, is_too_large, words_for, with_block, placing, placing_wish, block_placed, unless_too_large}
use Rattle.om_model.specs.Pool.Product.{product, overflow}
use Rattle.om_model.specs.Pool.Resizing.{Way, Stays, Shrinks, Grows, Claims, Moves, last_pages, pages_after, way}
use Rattle.om_model.specs.Pool.Rules.{Rules}
use Rattle.om_model.specs.Pool.Standing.{Standing, PageBlock, LivePlace, DelayedPlace, standing}
use Rattle.om_model.specs.Pool.State.{State, drawn_more, with_pages}
use Rattle.om_model.specs.Pool.Steps.{Wish, Nothing, At, Answers, Step, unchanged}
use Rattle.om_model.specs.Pool.WriteAfterFree.{written_late}
use Rattle.om_model.specs.declared.block.Block.{Block}
use Rattle.om_model.specs.declared.block.Place.{Place}
use Rattle.om_model.specs.declared.entry.Move.{Move}
use Rattle.om_model.specs.declared.looks.Look.{Look}
use Rattle.om_model.specs.declared.reply.Fault.{Fault}
use Rattle.om_model.specs.declared.reply.Fault.TheVariants.{DoubleFree, Canary, WriteAfterFree}
use Rattle.om_model.specs.declared.reply.Reply.TheVariants as reply

-- A live block, and the size and the site that it is to have. A chunk has its place, and a page block none.
pub record Resize : Type 0 where
  pub block : Block
  pub place : Option Place
  pub size : ℕ
  pub site : ℕ

-- ---- a block that keeps its address

abbrev pub with_size : Resize → Block
with_size asked = record { address = (asked.block).address; size = asked.size; site = asked.site }

-- the block has the new size and site
abbrev pub resized : Resize → State → State
resized asked state = with_block (with_size asked) (without_block state (asked.block).address)

-- no word is drawn
abbrev pub block_kept : Block → Freed → Step
block_kept block left = record { reply = reply.Block block.address; words = 0; release = left.release; next = left.next }

abbrev pub stayed : Rules → State → Resize → Step
stayed rules state asked = block_kept asked.block (record { release = None; next = with_canaries rules (with_size asked) (resized asked state) })

abbrev pub shrunk : Rules → State → Resize → Step
shrunk rules state asked = block_kept asked.block (kept_or_let_go rules (resized asked state) (last_pages rules asked.block asked.size))

abbrev pub grown : Rules → State → Resize → Step
grown rules state asked =
    block_kept asked.block (record { release = None; next = with_new_data rules asked.block asked.size (resized asked state) })

-- ---- a block that moves

-- the words that are drawn for its slot
abbrev pub slot_words : Option Place → ℕ
slot_words (Some place) = 1
slot_words None = 0

-- a write after free is told before it moves
abbrev pub late_misuse : Rules → State → Option Place → Option Fault
late_misuse rules state (Some place) =
    option_map (λ changed. WriteAfterFree changed.addr changed.offset) (written_late rules state (drawn_slot rules state))
late_misuse rules state None = None

-- the state from which it is placed anew
abbrev pub slot_drawn : State → Option Place → State
slot_drawn state place = drawn_more (slot_words place) state

-- what both sizes have in common is copied
abbrev pub with_copy : Block → ℕ → ℕ → State → State
with_copy block size to state = record state { memory = copied state.memory block.address to (min block.size size) }

-- the old block leaves as in a free: a chunk's place enters the slot that was drawn for it in the first of the states
abbrev pub left_for : Rules → State → Block → Option Place → State → Freed
left_for rules state block (Some place) next = moved_to_slot rules next (drawn_slot rules state) place
left_for rules state block None next = without_page_block rules next block

abbrev pub moved_block : ℕ → ℕ → Freed → Step
moved_block words to left = record { reply = reply.Block to; words = words; release = left.release; next = left.next }

-- by where the new block was placed
abbrev pub moved_where : Rules → State → Resize → ℕ → Placed → Option ℕ → Step
moved_where rules state asked words placed (Some to) =
    moved_block words to (left_for rules state asked.block asked.place (with_copy asked.block asked.size to placed.next))
moved_where rules state asked words placed None = block_placed rules words placed

abbrev pub moved : Rules → State → Resize → Option Move → Step
moved rules state asked claim =
    let placed = placing rules (slot_drawn state asked.place) asked.size asked.site claim in
    moved_where rules state asked (slot_words asked.place + words_for rules asked.size) placed placed.address

abbrev pub moved_unless : Option Fault → Rules → State → Resize → Option Move → Step
moved_unless (Some fault) rules state asked claim = told state fault
moved_unless None rules state asked claim = moved rules state asked claim

abbrev pub moves_checked : Rules → State → Resize → Option Move → Step
moves_checked rules state asked claim = moved_unless (late_misuse rules state asked.place) rules state asked claim

-- ---- a live block, by its way

-- it grows over the claimed pages; where one of them was taken, it moves
abbrev pub claimed_unless : Option Look → Rules → State → Resize → Option Move → Step
claimed_unless (Some look) rules state asked claim = moves_checked rules state asked claim
claimed_unless None rules state asked claim = grown rules (with_pages (pages_after rules asked.block asked.size) state) asked

abbrev pub realloc_by : Way → Rules → State → Resize → Answers → Step
realloc_by Stays rules state asked answers = stayed rules state asked
realloc_by Shrinks rules state asked answers = shrunk rules state asked
realloc_by Grows rules state asked answers = grown rules state asked
realloc_by Claims rules state asked answers = claimed_unless answers.taken rules state asked answers.claim
realloc_by Moves rules state asked answers = moves_checked rules state asked answers.claim

abbrev pub realloc_block : Rules → State → Resize → Answers → Step
realloc_block rules state asked answers =
    unless_too_large rules state asked.size (realloc_by (way rules state asked.block asked.size) rules state asked answers)

-- ---- by what stands at the address

abbrev pub unless_broken : Option ℕ → State → Step → Step
unless_broken (Some offset) state step = unchanged state (reply.Fault (Canary offset))
unless_broken None state step = step

abbrev pub realloc_at : Rules → State → ℕ → ℕ → ℕ → Answers → Standing → Step
realloc_at rules state address size site answers (PageBlock block) =
    realloc_block rules state (record { block = block; place = None; size = size; site = site }) answers
realloc_at rules state address size site answers (LivePlace place block) =
    unless_broken (broken_canary rules state block) state
    (realloc_block rules state (record { block = block; place = Some place; size = size; site = site }) answers)
realloc_at rules state address size site answers (DelayedPlace place) = unchanged state (reply.Fault DoubleFree)
realloc_at rules state address size site answers other = free_at rules state address other

abbrev pub realloc : Rules → State → ℕ → ℕ → ℕ → Answers → Step
realloc rules state address size site answers = realloc_at rules state address size site answers (standing rules state address)

-- ---- what it asks of the zones

-- where a misuse is told, nothing is asked
abbrev pub wish_unless : Option Fault → Wish → Wish
wish_unless (Some fault) wish = Nothing
wish_unless None wish = wish

abbrev pub moving_wish : Rules → State → Option Place → ℕ → Wish
moving_wish rules state place size = wish_unless (late_misuse rules state place) (placing_wish rules (slot_drawn state place) size)

abbrev pub wish_by : Way → Rules → State → Block → Option Place → ℕ → Wish
wish_by Claims rules state block place size = At (pages_after rules block size) (moving_wish rules state place size)
wish_by Moves rules state block place size = moving_wish rules state place size
wish_by other rules state block place size = Nothing

abbrev pub block_wish : Rules → State → Block → Option Place → ℕ → Wish
block_wish rules state block place size =
    if is_too_large rules size then Nothing else wish_by (way rules state block size) rules state block place size

abbrev pub realloc_wish_at : Rules → State → ℕ → Standing → Wish
realloc_wish_at rules state size (PageBlock block) = block_wish rules state block None size
realloc_wish_at rules state size (LivePlace place block) =
    if is_some (broken_canary rules state block) then Nothing else block_wish rules state block (Some place) size
realloc_wish_at rules state size other = Nothing

abbrev pub realloc_wish : Rules → State → ℕ → ℕ → Wish
realloc_wish rules state address size = realloc_wish_at rules state size (standing rules state address)

-- ---- reallocarray: the product is looked at before the address

abbrev pub reallocarray_wish_of : Rules → State → ℕ → Option ℕ → Wish
reallocarray_wish_of rules state address (Some size) = realloc_wish rules state address size
reallocarray_wish_of rules state address None = Nothing

abbrev pub reallocarray_of : Rules → State → ℕ → Option ℕ → ℕ → Answers → Step
reallocarray_of rules state address (Some size) site answers = realloc rules state address size site answers
reallocarray_of rules state address None site answers = overflow rules state

abbrev pub reallocarray_wish : Rules → State → ℕ → ℕ → ℕ → Wish
reallocarray_wish rules state address count size = reallocarray_wish_of rules state address (product count size)

abbrev pub reallocarray : Rules → State → ℕ → ℕ → ℕ → ℕ → Answers → Step
reallocarray rules state address count size site answers = reallocarray_of rules state address (product count size) site answers
