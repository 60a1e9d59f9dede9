-- Write after free: at junk level 1 or 2 a place is filled when it is freed, so that any other byte there, while it is
-- delayed in its slot, was written since. Level 0 fills nothing, and nothing is looked for. Under freecheck all slots
-- are looked at in order, otherwise the drawn one alone.
use Rattle.std.specs.Prelude.{ℕ, List, Option, None, if◌then◌else◌, map}
use Rattle.std.specs.Option.{option_map}
use Rattle.om_delay.specs.Changes.{changed_at, first_changed}
use Rattle.om_delay.specs.declared.check.Changed.{Changed}
use Rattle.om_geom.specs.declared.address.Extent.{Extent}
use Rattle.om_model.specs.Pool.Junk.{extent_of_place, fills_freed}
use Rattle.om_model.specs.Pool.Rules.{Rules}
use Rattle.om_model.specs.Pool.State.{State}
use Rattle.om_model.specs.declared.block.Place.{Place}

-- the extent of the delayed place in each slot
abbrev pub slot_extents : List (Option Place) → List (Option Extent)
slot_extents slots = map (option_map extent_of_place) slots

-- the first such place, and the offset of its first changed byte
abbrev pub written_in : Rules → List (List ℕ) → List (Option Extent) → ℕ → Option Changed
written_in rules memory slots slot =
    if fills_freed rules then
    if rules.options.freecheck then first_changed memory slots else changed_at memory slots slot
    else None

abbrev pub written_late : Rules → State → ℕ → Option Changed
written_late rules state slot = written_in rules state.memory (slot_extents state.slots) slot
