-- Allocation of a block of so many bytes. For a chunk two words are drawn, the first for the page and the second for
-- the place; for a page block one, for the run. The pool takes a page or a run that it has, or else claims one, with
-- the first word. At junk level 2 its whole place, or all its data pages, are filled; then the canaries behind a chunk
-- are written, and all other bytes stay. What is too large for a zone is null at once.
use Rattle.std.specs.Prelude.{ℕ, ◌+◌, Bool, ◌&&◌, nat_lt, [], ◌∷◌, ◌++◌, if◌then◌else◌, Option, Some, None, unwrap_or}
use Rattle.std.specs.Option.{is_none}
use Rattle.om_geom.specs.Addresses.{address_of}
use Rattle.om_geom.specs.Numbers.{zone_pages}
use Rattle.om_model.specs.Pool.Rules.{Rules, word_at, size_class, block_pages}
use Rattle.om_model.specs.Pool.Runs.{run_of}
use Rattle.om_model.specs.Pool.State.{State, drawn_more, with_pages}
use Rattle.om_model.specs.Pool.Canaries.{with_canaries}
use Rattle.om_model.specs.Pool.InUse.{uses}
use Rattle.om_model.specs.Pool.Junk.{with_fresh_junk}
use Rattle.om_model.specs.Pool.Picks.{own_page, own_run, picked_place, place_address}
use Rattle.om_model.specs.Pool.Steps.{Wish, Nothing, Search, Step, unchanged, null_or_fault}
use Rattle.om_model.specs.declared.block.Block.{Block}
use Rattle.om_model.specs.declared.entry.Move.{Move}
use Rattle.om_model.specs.declared.reply.Reply.{Reply}
use Rattle.om_model.specs.declared.reply.Reply.TheVariants as reply
use Rattle.om_model.specs.declared.reply.Why.TheVariants.{NoRun, TooLarge}

-- ---- what a block needs, by its class, or as a page block where it has none

-- pages of one zone
abbrev pub pages_by_class : Rules → ℕ → Option ℕ → ℕ
pages_by_class rules size (Some class) = 1
pages_by_class rules size None = block_pages rules size

abbrev pub pages_for : Rules → ℕ → ℕ
pages_for rules size = pages_by_class rules size (size_class rules size)

-- random words
abbrev pub words_by_class : Option ℕ → ℕ
words_by_class (Some class) = 2
words_by_class None = 1

abbrev pub words_for : Rules → ℕ → ℕ
words_for rules size = words_by_class (size_class rules size)

abbrev pub is_too_large : Rules → ℕ → Bool
is_too_large rules size = is_none (size_class rules size) && nat_lt zone_pages (block_pages rules size)

-- ---- the page or the run that the pool has, by the next word

abbrev pub page_by_class : Rules → State → ℕ → Option ℕ → Option ℕ
page_by_class rules state size (Some class) = own_page (uses rules state) state.held class (word_at rules state.drawn)
page_by_class rules state size None = own_run (uses rules state) state.held (block_pages rules size)

abbrev pub page_for : Rules → State → ℕ → Option ℕ
page_for rules state size = page_by_class rules state size (size_class rules size)

abbrev pub search_unless : Option ℕ → ℕ → ℕ → Wish
search_unless (Some page) count word = Nothing
search_unless None count word = Search count word

-- zones are searched only where the pool has none
abbrev pub placing_wish : Rules → State → ℕ → Wish
placing_wish rules state size = search_unless (page_for rules state size) (pages_for rules size) (word_at rules state.drawn)

-- ---- the placing of a block

-- where it was placed, or that no run was found for it, and the state after it
pub record Placed : Type 0 where
  pub address : Option ℕ
  pub next : State

abbrev pub with_block : Block → State → State
with_block block state = record state { live = state.live ++ block ∷ [] }

-- a block joins the live ones, and its bytes and its canaries are written
abbrev pub entered : Rules → Block → State → State
entered rules block state = with_canaries rules block (with_fresh_junk rules block (with_block block state))

-- a chunk at the free place that the word chooses, a page block at the first byte of its run
unfoldable pub address_on : Rules → State → ℕ → ℕ → Option ℕ → ℕ
address_on rules state page word (Some class) = place_address page class (unwrap_or (picked_place (uses rules state) page class word) 0)
address_on rules state page word None = address_of page

abbrev pub placed_on : Rules → State → ℕ → ℕ → ℕ → ℕ → Placed
placed_on rules state page word size site =
    let address = address_on rules state page word (size_class rules size) in
    let block : Block = record { address = address; size = size; site = site } in
    record { address = Some address; next = entered rules block state }

-- on the claimed pages, which join the held ones
abbrev pub placed_by_claim : Rules → State → Option Move → ℕ → ℕ → ℕ → Placed
placed_by_claim rules state None word size site = record { address = None; next = state }
placed_by_claim rules state (Some claim) word size site = placed_on rules (with_pages (run_of claim) state) (run_of claim).first word size site

abbrev pub placed_where : Rules → State → Option ℕ → Option Move → ℕ → ℕ → ℕ → Placed
placed_where rules state (Some page) claim word size site = placed_on rules state page word size site
placed_where rules state None claim word size site = placed_by_claim rules state claim word size site

-- the second word is that of a chunk's place
abbrev pub placing : Rules → State → ℕ → ℕ → Option Move → Placed
placing rules state size site claim =
    placed_where rules (drawn_more (words_for rules size) state) (page_for rules state size) claim (word_at rules (state.drawn + 1)) size site

-- ---- malloc

abbrev pub malloc_wish : Rules → State → ℕ → Wish
malloc_wish rules state size = if is_too_large rules size then Nothing else placing_wish rules state size

abbrev pub block_or_null : Rules → Option ℕ → Reply
block_or_null rules (Some address) = reply.Block address
block_or_null rules None = null_or_fault rules NoRun

abbrev pub block_placed : Rules → ℕ → Placed → Step
block_placed rules words placed = record { reply = block_or_null rules placed.address; words = words; release = None; next = placed.next }

-- the step, but a null at once where the size is too large
abbrev pub unless_too_large : Rules → State → ℕ → Step → Step
unless_too_large rules state size step = if is_too_large rules size then unchanged state (null_or_fault rules TooLarge) else step

abbrev pub malloc : Rules → State → ℕ → ℕ → Option Move → Step
malloc rules state size site claim =
    unless_too_large rules state size (block_placed rules (words_for rules size) (placing rules state size site claim))
