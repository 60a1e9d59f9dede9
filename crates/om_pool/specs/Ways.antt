-- How a live block comes to a new size, as it is asked of the tables.
use Rattle.std.specs.Prelude.{ℕ, Bool, ◌==◌, nat_lt, if◌then◌else◌, Option, Some, None}
use Rattle.std.specs.List.{list_all, list_any, range_with_len}
use Rattle.om_geom.specs.Classes.{data_pages}
use Rattle.om_model.specs.Pool.Resizing as model
use Rattle.om_model.specs.Pool.Resizing.{pages_after, fits_in_zone}
use Rattle.om_model.specs.Pool.Rules.{Rules, size_class}
use Rattle.om_model.specs.Pool.Runs.{Run}
use Rattle.om_model.specs.declared.block.Block.{Block}
use Rattle.om_pages.specs.Kinds.{is_free, is_held}
use Rattle.om_pages.specs.Tables.{kind_of}
use Rattle.om_pool.specs.Tables.{Tables}
use Rattle.om_pool.specs.declared.resizing.Way.{Way}
use Rattle.om_pool.specs.declared.resizing.Way.TheVariants.{Stays, Shrinks, Grows, Claims, Moves}

-- a way in the terms of the definitions
abbrev pub way_in : Way → model.Way
way_in Stays = model.Stays
way_in Shrinks = model.Shrinks
way_in Grows = model.Grows
way_in Claims = model.Claims
way_in Moves = model.Moves

abbrev pub are_free : Tables → Run → Bool
are_free tables run = list_all (λ page. is_free (kind_of tables.pages page)) (range_with_len run.first run.count)

abbrev pub holds_some : Tables → Run → Bool
holds_some tables run = list_any (λ page. is_held (kind_of tables.pages page)) (range_with_len run.first run.count)

abbrev pub way_over : Tables → Run → model.Way
way_over tables run = if are_free tables run then model.Grows else if holds_some tables run then model.Moves else model.Claims

abbrev pub way_by_pages : Rules → Tables → Block → ℕ → model.Way
way_by_pages rules tables block size =
    if data_pages size == data_pages block.size then model.Stays
    else if nat_lt (data_pages size) (data_pages block.size) then model.Shrinks
    else if fits_in_zone rules block size then way_over tables (pages_after rules block size)
    else model.Moves

abbrev pub way_by_class : Rules → Tables → Block → ℕ → Option ℕ → Option ℕ → model.Way
way_by_class rules tables block size (Some old) (Some new) = if new == old then model.Stays else model.Moves
way_by_class rules tables block size (Some old) None = model.Moves
way_by_class rules tables block size None (Some new) = model.Moves
way_by_class rules tables block size None None = way_by_pages rules tables block size

abbrev pub way_by : Rules → Tables → Block → ℕ → model.Way
way_by rules tables block size =
    if rules.options.always_move then model.Moves
    else way_by_class rules tables block size (size_class rules block.size) (size_class rules size)
