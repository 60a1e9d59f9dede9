-- Free of an address, by what stands there. Not held: a miss. A free page, a guard, or a page block elsewhere than at
-- its first byte: bogus. No place begins there: a modified pointer. A free place: already free. So far no word is
-- drawn. For a delayed or a live place one is, and it chooses a slot. A delayed place is a double free under freecheck,
-- or where that slot holds it, and else the free is done; only the word is spent. For a live place a broken canary, and
-- else a write after free, is the fault; only the word is spent. Otherwise the place is put off: it enters the slot and
-- is filled, and what the slot had becomes free. A page block is filled, and its pages become free with the guard. A
-- run that becomes free stays, or is let go where the pool then has more free pages than its cache bound.
use Rattle.std.specs.Prelude.{ℕ, ◌%◌, Bool, false, not, ◌||◌, ◌==◌, nat_le, length, filter, Option, Some, None, slice_index_or, slice_set, if◌then◌else◌}
use Rattle.om_delay.specs.Slots.{slot_count}
use Rattle.om_delay.specs.declared.check.Changed.{Changed}
use Rattle.om_geom.specs.Addresses.{page_at}
use Rattle.om_model.specs.Pool.Rules.{Rules, word_at, block_pages}
use Rattle.om_model.specs.Pool.Runs.{Run}
use Rattle.om_model.specs.Pool.State.{State, drawn_more, without_pages}
use Rattle.om_model.specs.Pool.Canaries.{broken_canary}
use Rattle.om_model.specs.Pool.InUse.{uses, is_free_page, free_pages}
use Rattle.om_model.specs.Pool.Junk.{with_freed_place, with_freed_pages}
use Rattle.om_model.specs.Pool.Steps.{Step, unchanged}
use Rattle.om_model.specs.Pool.WriteAfterFree.{written_late}
use Rattle.om_model.specs.Pool.Standing.{Standing, NotHeld, FreePage, PageBlock, InPageBlock, OnGuard, LivePlace, DelayedPlace, FreePlace, Unaligned, standing}
use Rattle.om_model.specs.declared.block.Block.{Block}
use Rattle.om_model.specs.declared.block.Place.{Place}
use Rattle.om_model.specs.declared.reply.Fault.{Fault}
use Rattle.om_model.specs.declared.reply.Fault.TheVariants.{DoubleFree, AlreadyFree, Bogus, ModifiedPointer, Canary, WriteAfterFree}
use Rattle.om_model.specs.declared.reply.Reply.TheVariants as reply

-- a state after pages became free, and the run that was let go
pub record Freed : Type 0 where
  pub release : Option Run
  pub next : State

-- more pages are free than the pool keeps
abbrev pub is_surplus : Rules → State → Bool
is_surplus rules state = not (nat_le (length (free_pages (uses rules state) state.held)) rules.options.cache)

-- a run that became free is let go where it is surplus
unfoldable pub kept_or_let_go : Rules → State → Run → Freed
kept_or_let_go rules state run =
    if is_surplus rules state then record { release = Some run; next = without_pages run state }
    else record { release = None; next = state }

-- after a place left its slot, its page becomes free where nothing touches it any more
abbrev pub evicted : Rules → State → Option Place → Freed
evicted rules state None = record { release = None; next = state }
evicted rules state (Some place) =
    let page = page_at place.address in
    if is_free_page (uses rules state) page then kept_or_let_go rules state (record { first = page; count = 1 })
    else record { release = None; next = state }

abbrev pub without_block : State → ℕ → State
without_block state address = record state { live = filter (λ block. not (block.address == address)) state.live }

-- the slot that the next word chooses
abbrev pub drawn_slot : Rules → State → ℕ
drawn_slot rules state = word_at rules state.drawn % slot_count

-- what a slot has
abbrev pub slot_of : State → ℕ → Option Place
slot_of state slot = slice_index_or state.slots slot None

-- the place is live no longer, and waits in the slot
abbrev pub into_slot : State → ℕ → Place → State
into_slot state slot place = record (without_block state place.address) { slots = slice_set state.slots slot (Some place) }

-- its bytes are filled
abbrev pub put_off : Rules → State → ℕ → Place → State
put_off rules state slot place = with_freed_place rules place (into_slot state slot place)

-- done, by so many words
abbrev pub done_with : ℕ → Freed → Step
done_with words left = record { reply = reply.Done; words = words; release = left.release; next = left.next }

-- a place is put off to the slot, and what this had is evicted
abbrev pub moved_to_slot : Rules → State → ℕ → Place → Freed
moved_to_slot rules state slot place = evicted rules (put_off rules state slot place) (slot_of state slot)

-- a live place is put off to the slot that is drawn
unfoldable pub delay : Rules → State → Place → Step
delay rules state place = done_with 1 (moved_to_slot rules (drawn_more 1 state) (drawn_slot rules state) place)

abbrev pub slot_holds : Option Place → ℕ → Bool
slot_holds None address = false
slot_holds (Some place) address = place.address == address

-- A delayed place is freed again. Without freecheck this is seen only where the drawn slot holds it, and else the free
-- is done; the word is spent, and nothing else changes.
unfoldable pub freed_again : Rules → State → ℕ → Step
freed_again rules state address = record {
  reply = if rules.options.freecheck || slot_holds (slot_of state (drawn_slot rules state)) address then reply.Fault DoubleFree else reply.Done;
  words = 1;
  release = None;
  next = drawn_more 1 state;
}

-- the misuse that the free of a live place tells: a broken canary, and where there is none a write after free
abbrev pub first_misuse : Option ℕ → Option Changed → Option Fault
first_misuse (Some offset) changed = Some (Canary offset)
first_misuse None (Some changed) = Some (WriteAfterFree changed.addr changed.offset)
first_misuse None None = None

abbrev pub misuse : Rules → State → Block → Option Fault
misuse rules state block = first_misuse (broken_canary rules state block) (written_late rules state (drawn_slot rules state))

-- it is told; nothing changes but that the slot's word is drawn
abbrev pub told : State → Fault → Step
told state fault = record { reply = reply.Fault fault; words = 1; release = None; next = drawn_more 1 state }

abbrev pub delay_unless : Option Fault → Rules → State → Place → Step
delay_unless (Some fault) rules state place = told state fault
delay_unless None rules state place = delay rules state place

-- a page block leaves the live blocks, and its bytes are filled: its pages with the guard are a run that becomes free
abbrev pub without_page_block : Rules → State → Block → Freed
without_page_block rules state block =
    kept_or_let_go rules (with_freed_pages rules block (without_block state block.address))
    (record { first = page_at block.address; count = block_pages rules block.size })

abbrev pub free_at : Rules → State → ℕ → Standing → Step
free_at rules state address NotHeld = unchanged state reply.Miss
free_at rules state address (PageBlock block) = done_with 0 (without_page_block rules state block)
free_at rules state address FreePage = unchanged state (reply.Fault Bogus)
free_at rules state address InPageBlock = unchanged state (reply.Fault Bogus)
free_at rules state address OnGuard = unchanged state (reply.Fault Bogus)
free_at rules state address Unaligned = unchanged state (reply.Fault ModifiedPointer)
free_at rules state address FreePlace = unchanged state (reply.Fault AlreadyFree)
free_at rules state address (DelayedPlace place) = freed_again rules state address
free_at rules state address (LivePlace place block) = delay_unless (misuse rules state block) rules state place

abbrev pub free : Rules → State → ℕ → Step
free rules state address = free_at rules state address (standing rules state address)
