-- How a live block comes to a new size. Under always_move every block moves. A chunk stays where the new size has its
-- class. A page block whose new size is one of whole pages too stays where it has as many data pages, and shrinks where
-- it has fewer. Where it has more, it grows over the pages after its whole extent, if it still fits in its zone: over
-- the pool's own where all of them are free, and over claimed ones where the pool holds none of them; where one of
-- these is found held when they are claimed, it moves. Any other block moves.
use Rattle.std.specs.Prelude.{ℕ, ◌+◌, ◌-◌, Bool, ◌==◌, nat_le, nat_lt, if◌then◌else◌, Option, Some, None}
use Rattle.std.specs.List.{list_any, range_with_len}
use Rattle.om_geom.specs.Addresses.{bit_of, page_at}
use Rattle.om_geom.specs.Classes.{data_pages}
use Rattle.om_geom.specs.Numbers.{zone_pages}
use Rattle.om_model.specs.Pool.InUse.{uses}
use Rattle.om_model.specs.Pool.Picks.{is_free_run}
use Rattle.om_model.specs.Pool.Rules.{Rules, size_class, block_pages}
use Rattle.om_model.specs.Pool.Runs.{Run}
use Rattle.om_model.specs.Pool.State.{State, is_held}
use Rattle.om_model.specs.declared.block.Block.{Block}

-- it stays as it is; its last pages become free; free pages of the pool join it; pages are claimed for it, or else it
-- moves; it moves
pub data Way : Type 0 where
  Stays : Way
  Shrinks : Way
  Grows : Way
  Claims : Way
  Moves : Way

-- the pages of its extent that a page block doesn't need any more
abbrev pub last_pages : Rules → Block → ℕ → Run
last_pages rules block size = record { first = page_at block.address + block_pages rules size; count = data_pages block.size - data_pages size }

-- the pages after its whole extent that it needs besides
abbrev pub pages_after : Rules → Block → ℕ → Run
pages_after rules block size = record { first = page_at block.address + block_pages rules block.size; count = data_pages size - data_pages block.size }

-- with these it is still a run of one zone
abbrev pub fits_in_zone : Rules → Block → ℕ → Bool
fits_in_zone rules block size = nat_le (bit_of (page_at block.address) + block_pages rules size) zone_pages

abbrev pub holds_some : State → Run → Bool
holds_some state run = list_any (is_held state.held) (range_with_len run.first run.count)

-- how it comes to have the pages after it
abbrev pub way_over : Rules → State → Run → Way
way_over rules state run =
    if is_free_run (uses rules state) state.held run.count run.first then Grows else if holds_some state run then Moves else Claims

abbrev pub way_by_pages : Rules → State → Block → ℕ → Way
way_by_pages rules state block size =
    if data_pages size == data_pages block.size then Stays
    else if nat_lt (data_pages size) (data_pages block.size) then Shrinks
    else if fits_in_zone rules block size then way_over rules state (pages_after rules block size)
    else Moves

-- by the class of the old size and that of the new one, where they have one
abbrev pub way_by_class : Rules → State → Block → ℕ → Option ℕ → Option ℕ → Way
way_by_class rules state block size (Some old) (Some new) = if new == old then Stays else Moves
way_by_class rules state block size (Some old) None = Moves
way_by_class rules state block size None (Some new) = Moves
way_by_class rules state block size None None = way_by_pages rules state block size

abbrev pub way : Rules → State → Block → ℕ → Way
way rules state block size =
    if rules.options.always_move then Moves else way_by_class rules state block size (size_class rules block.size) (size_class rules size)
