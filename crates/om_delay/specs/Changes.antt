-- Changed bytes: those of a delayed place that are another byte than 0xdf. Where freed places are filled with it, such a
-- byte was written after the free.
use Rattle.std.specs.Prelude.{ℕ, List, Option, Some, None, IfSome}
use Rattle.std.specs.List.{filter_map, slice_get, All}
use Rattle.std.specs.Option.{option_map}
use Rattle.om_delay.specs.Slots.{slot_at}
use Rattle.om_delay.specs.declared.check.Changed.{Changed}
use Rattle.om_frame.specs.Memory.{first_other, IsHeldPart}
use Rattle.om_geom.specs.declared.address.Extent.{Extent}

-- freed memory is filled with 0xdf
abbrev pub freed_byte : ℕ
freed_byte = 223

-- the first changed byte of a place
abbrev pub changed_in : List (List ℕ) → Extent → Option Changed
changed_in memory extent =
    option_map (λ offset. record { addr = extent.first; offset = offset }) (first_other memory extent.first extent.len freed_byte)

-- of what a slot has
abbrev pub changed_of : List (List ℕ) → Option Extent → Option Changed
changed_of memory None = None
changed_of memory (Some extent) = changed_in memory extent

abbrev pub changed_at : List (List ℕ) → List (Option Extent) → ℕ → Option Changed
changed_at memory slots slot = changed_of memory (slot_at slots slot)

-- of the first slot that has a changed place
abbrev pub first_changed : List (List ℕ) → List (Option Extent) → Option Changed
first_changed memory slots = slice_get (filter_map (changed_of memory) slots) 0

-- the pages of what a slot has are held
abbrev pub IsHeldSlot : List (List ℕ) → Option Extent → Type 0
IsHeldSlot memory slot = IfSome slot (λ extent. IsHeldPart memory extent.first extent.len)

-- the pages of all that waits are held
abbrev pub AreHeldSlots : List (List ℕ) → List (Option Extent) → Type 0
AreHeldSlots memory slots = All (IsHeldSlot memory) slots
