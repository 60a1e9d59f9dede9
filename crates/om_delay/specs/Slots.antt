-- Slots: 16 of them. Each has the extent of a delayed place, or nothing.
use Rattle.std.specs.Prelude.{ℕ, Bool, false, ◌==◌, List, Option, Some, None, replicate, slice_index_or, slice_set}
use Rattle.std.specs.List.{position}
use Rattle.om_geom.specs.declared.address.Extent.{Extent}

abbrev pub slot_count : ℕ
slot_count = 16

-- all of them empty
abbrev pub no_slots : List (Option Extent)
no_slots = replicate slot_count None

-- what a slot has
abbrev pub slot_at : List (Option Extent) → ℕ → Option Extent
slot_at slots slot = slice_index_or slots slot None

-- a place enters the slot, in place of what it had
abbrev pub with_slot : List (Option Extent) → ℕ → Extent → List (Option Extent)
with_slot slots slot extent = slice_set slots slot (Some extent)

-- whether it has a place that begins at the address
abbrev pub begins_at : ℕ → Option Extent → Bool
begins_at address None = false
begins_at address (Some extent) = extent.first == address

-- the first slot that has such a place
abbrev pub first_slot_with : List (Option Extent) → ℕ → Option ℕ
first_slot_with slots address = position (begins_at address) slots
