-- A live block that a realloc meets begins in the arena, so that the pages that it claims have small numbers.
use Rattle.std.proofs.Common.{◌≡◌, ℕ, ◌+◌, ◌*◌, ◌^◌, ◌<◌, ◌≤◌, Bool, true, false, ◌&&◌, ◌==◌, nat_le, nat_lt, Option, Some, None, if◌then◌else◌, refl, arith}
use Rattle.std.proofs.lemmas.Bool.{and_parts, eqb-true, ltb-true, ltb-false, leb-true}
use Rattle.std.specs.Option.{is_some}
use Rattle.om_geom.specs.Addresses.{address_of, bit_of, page_at}
use Rattle.om_geom.specs.Classes.{data_pages}
use Rattle.om_geom.specs.FitLaws.{find-passes}
use Rattle.om_geom.specs.Numbers.{first_address, zone_pages}
use Rattle.om_model.specs.Pool.InUse.{Kind, Chunk, Pages, Guard, uses, page_kind}
use Rattle.om_model.specs.Pool.Picks.{starts_place, is_free_run}
use Rattle.om_model.specs.Pool.Calloc.{calloc_wish_of}
use Rattle.om_model.specs.Pool.Product.{product}
use Rattle.om_model.specs.Pool.Canaries.{broken_canary}
use Rattle.om_model.specs.Pool.Journal.{wish_of}
use Rattle.om_model.specs.Pool.Malloc.{is_too_large, pages_for, page_for, search_unless, placing_wish, malloc_wish}
use Rattle.om_model.specs.Pool.Realloc.{late_misuse, slot_drawn, wish_unless, moving_wish, wish_by, block_wish, realloc_wish_at, realloc_wish, reallocarray_wish_of}
use Rattle.om_model.specs.Pool.Resizing.{Way, Stays, Shrinks, Grows, Claims, Moves, pages_after, fits_in_zone, holds_some, way_over, way_by_class, way}
use Rattle.om_model.specs.Pool.Rules.{Rules, word_at, block_pages, size_class}
use Rattle.om_model.specs.Pool.Runs.{Run}
use Rattle.om_model.specs.Pool.Standing.{Standing, NotHeld, FreePage, PageBlock, InPageBlock, OnGuard, LivePlace, DelayedPlace, FreePlace, Unaligned, block_at, delayed_at, in_pages, at_place, on_page, standing}
use Rattle.om_model.specs.Pool.State.{State, holds, is_held}
use Rattle.om_model.specs.Pool.Steps.{Wish, Nothing, At}
use Rattle.om_model.specs.Slow.{IsSmallRun}
use Rattle.om_model.specs.declared.block.Block.{Block}
use Rattle.om_model.specs.declared.block.Place.{Place}
use Rattle.om_model.specs.declared.operation.Op.{Op}
use Rattle.om_model.specs.declared.operation.Op.TheVariants.{Malloc, Calloc, Realloc, Reallocarray, Free, Load, Store}
use Rattle.om_model.specs.declared.reply.Fault.{Fault}

-- ---- where a block begins

-- the arena of at most 64 zones ends below
abbrev pub IsNear : ℕ → Type 0
IsNear address = address < 2 ^ 32

-- the block that stands there, if any, begins in the arena
abbrev pub HasNear : Standing → Type 0
HasNear (PageBlock block) = IsNear block.address
HasNear (LivePlace place block) = IsNear block.address
HasNear other = Unit {0}

found-at : (state : State) (address : ℕ) (block : Block) → block_at state address ≡ Some block → IsNear address → IsNear block.address
found-at state address block found near =
    let here : block.address ≡ address = eqb-true block.address address (find-passes (λ b. b.address == address) state.live block found) in
    omega arith

near-pages : (state : State) (address : ℕ) (found : Option Block) → block_at state address ≡ found → IsNear address → HasNear (in_pages found)
near-pages state address (Some block) is near = found-at state address block is near
near-pages state address None is near = tt

near-place : (state : State) (class address : ℕ) (found : Option Block) (put : Option Place) → block_at state address ≡ found → IsNear address → HasNear (at_place class address found put)
near-place state class address found (Some place) is near = tt
near-place state class address (Some block) None is near = found-at state address block is near
near-place state class address None None is near = tt

near-chunk : (state : State) (class address : ℕ) (starts : Bool) → IsNear address
    → HasNear (if starts then at_place class address (block_at state address) (delayed_at state address) else Unaligned)
near-chunk state class address true near = near-place state class address (block_at state address) (delayed_at state address) refl near
near-chunk state class address false near = tt

near-on_page : (state : State) (address : ℕ) (kind : Option Kind) → IsNear address → HasNear (on_page state address kind)
near-on_page state address None near = tt
near-on_page state address (Some Pages) near = near-pages state address (block_at state address) refl near
near-on_page state address (Some Guard) near = tt
near-on_page state address (Some (Chunk class)) near = near-chunk state class address (starts_place class address) near

near-held : (rules : Rules) (state : State) (address : ℕ) → rules.zones ≤ 64 → holds rules state address ≡ true → IsNear address
near-held rules state address few held =
    let arena = (and_parts (nat_le first_address address && nat_lt address (address_of (zone_pages * rules.zones))) (is_held state.held (page_at address)) held).0 in
    let below : address < address_of (zone_pages * rules.zones) = ltb-true address (address_of (zone_pages * rules.zones)) (and_parts (nat_le first_address address) (nat_lt address (address_of (zone_pages * rules.zones))) arena).1 in
    omega arith

pub near : (rules : Rules) (state : State) (address : ℕ) → rules.zones ≤ 64 → HasNear (standing rules state address)
near rules state address few = tested (holds rules state address) refl
  where
    tested : (held : Bool) → holds rules state address ≡ held → HasNear (if held then on_page state address (page_kind (uses rules state) (page_at address)) else NotHeld)
    tested true is = near-on_page state address (page_kind (uses rules state) (page_at address)) (near-held rules state address few is)
    tested false is = tt

-- ---- the pages that it claims

-- the way doesn't claim, or what it claims is small
abbrev pub ClaimsSmall : Run → Way → Type 0
ClaimsSmall run Claims = IsSmallRun run
ClaimsSmall run other = Unit {0}

over-small : (run : Run) (free some : Bool) → IsSmallRun run → ClaimsSmall run (if free then Grows else if some then Moves else Claims)
over-small run true some small = tt
over-small run false true small = tt
over-small run false false small = small

pages-small : (rules : Rules) (state : State) (block : Block) (size : ℕ) (same fewer within : Bool) → IsNear block.address
    → (nat_lt (data_pages size) (data_pages block.size) ≡ fewer) → (fits_in_zone rules block size ≡ within)
    → ClaimsSmall (pages_after rules block size)
    (if same then Stays else if fewer then Shrinks else if within then way_over rules state (pages_after rules block size) else Moves)
pages-small rules state block size true fewer within near is zone = tt
pages-small rules state block size false true within near is zone = tt
pages-small rules state block size false false false near is zone = tt
pages-small rules state block size false false true near is zone =
    let more : data_pages block.size ≤ data_pages size = ltb-false (data_pages size) (data_pages block.size) is in
    let ends : bit_of (page_at block.address) + block_pages rules size ≤ zone_pages = leb-true (bit_of (page_at block.address) + block_pages rules size) zone_pages zone in
    let run = pages_after rules block size in
    over-small run (is_free_run (uses rules state) state.held run.count run.first) (holds_some state run) (omega arith)

class-small : (rules : Rules) (state : State) (block : Block) (size : ℕ) (old new : Option ℕ) → IsNear block.address
    → ClaimsSmall (pages_after rules block size) (way_by_class rules state block size old new)
class-small rules state block size (Some old) (Some new) near = either (new == old)
  where
    either : (same : Bool) → ClaimsSmall (pages_after rules block size) (if same then Stays else Moves)
    either true = tt
    either false = tt
class-small rules state block size (Some old) None near = tt
class-small rules state block size None (Some new) near = tt
class-small rules state block size None None near =
    pages-small rules state block size (data_pages size == data_pages block.size)
    (nat_lt (data_pages size) (data_pages block.size)) (fits_in_zone rules block size) near refl refl

pub way-small : (rules : Rules) (state : State) (block : Block) (size : ℕ) → IsNear block.address → ClaimsSmall (pages_after rules block size) (way rules state block size)
way-small rules state block size near = either rules.options.always_move
  where
    either : (moves : Bool) → ClaimsSmall (pages_after rules block size) (if moves then Moves else way_by_class rules state block size (size_class rules block.size) (size_class rules size))
    either true = tt
    either false = class-small rules state block size (size_class rules block.size) (size_class rules size) near

-- ---- what an operation asks for

-- a given run that is asked for is small
abbrev pub AsksSmall : Wish → Type 0
AsksSmall (At run otherwise) = IsSmallRun run
AsksSmall other = Unit {0}

unless-small : (own : Option ℕ) (count word : ℕ) → AsksSmall (search_unless own count word)
unless-small (Some page) count word = tt
unless-small None count word = tt

malloc-small : (rules : Rules) (state : State) (size : ℕ) → AsksSmall (malloc_wish rules state size)
malloc-small rules state size = either (is_too_large rules size)
  where
    either : (large : Bool) → AsksSmall (if large then Nothing else placing_wish rules state size)
    either true = tt
    either false = unless-small (page_for rules state size) (pages_for rules size) (word_at rules state.drawn)

calloc-small : (rules : Rules) (state : State) (size : Option ℕ) → AsksSmall (calloc_wish_of rules state size)
calloc-small rules state (Some size) = malloc-small rules state size
calloc-small rules state None = tt

moving-small : (rules : Rules) (state : State) (place : Option Place) (size : ℕ) → AsksSmall (moving_wish rules state place size)
moving-small rules state place size = either (late_misuse rules state place)
  where
    either : (found : Option Fault) → AsksSmall (wish_unless found (placing_wish rules (slot_drawn state place) size))
    either (Some fault) = tt
    either None = unless-small (page_for rules (slot_drawn state place) size) (pages_for rules size) (word_at rules (slot_drawn state place).drawn)

by-small : (rules : Rules) (state : State) (block : Block) (place : Option Place) (size : ℕ) (how : Way) → ClaimsSmall (pages_after rules block size) how
    → AsksSmall (wish_by how rules state block place size)
by-small rules state block place size Stays small = tt
by-small rules state block place size Shrinks small = tt
by-small rules state block place size Grows small = tt
by-small rules state block place size Claims small = small
by-small rules state block place size Moves small = moving-small rules state place size

block-small : (rules : Rules) (state : State) (block : Block) (place : Option Place) (size : ℕ) → IsNear block.address → AsksSmall (block_wish rules state block place size)
block-small rules state block place size near = either (is_too_large rules size)
  where
    either : (large : Bool) → AsksSmall (if large then Nothing else wish_by (way rules state block size) rules state block place size)
    either true = tt
    either false = by-small rules state block place size (way rules state block size) (way-small rules state block size near)

stands-small : (rules : Rules) (state : State) (size : ℕ) (stands : Standing) → HasNear stands → AsksSmall (realloc_wish_at rules state size stands)
stands-small rules state size NotHeld near = tt
stands-small rules state size FreePage near = tt
stands-small rules state size (PageBlock block) near = block-small rules state block None size near
stands-small rules state size InPageBlock near = tt
stands-small rules state size OnGuard near = tt
stands-small rules state size (LivePlace place block) near = either (is_some (broken_canary rules state block))
  where
    either : (broken : Bool) → AsksSmall (if broken then Nothing else block_wish rules state block (Some place) size)
    either true = tt
    either false = block-small rules state block (Some place) size near
stands-small rules state size (DelayedPlace place) near = tt
stands-small rules state size FreePlace near = tt
stands-small rules state size Unaligned near = tt

realloc-small : (rules : Rules) (state : State) (address size : ℕ) → rules.zones ≤ 64 → AsksSmall (realloc_wish rules state address size)
realloc-small rules state address size few = stands-small rules state size (standing rules state address) (near rules state address few)

reallocarray-small : (rules : Rules) (state : State) (address : ℕ) (size : Option ℕ) → rules.zones ≤ 64 → AsksSmall (reallocarray_wish_of rules state address size)
reallocarray-small rules state address (Some size) few = realloc-small rules state address size few
reallocarray-small rules state address None few = tt

pub wish-small : (rules : Rules) (state : State) (op : Op) → rules.zones ≤ 64 → AsksSmall (wish_of rules state op)
wish-small rules state (Malloc size site) few = malloc-small rules state size
wish-small rules state (Calloc count size site) few = calloc-small rules state (product count size)
wish-small rules state (Realloc address size site) few = realloc-small rules state address size few
wish-small rules state (Reallocarray address count size site) few = reallocarray-small rules state address (product count size) few
wish-small rules state (Free address) few = tt
wish-small rules state (Load address) few = tt
wish-small rules state (Store address byte) few = tt
