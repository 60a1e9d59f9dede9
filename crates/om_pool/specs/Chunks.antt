-- Memory that has the bytes of a page, or of a place.
use Rattle.std.specs.Prelude.{◌≡◌, ℕ, true, List}
use Rattle.om_frame.specs.Memory as frames
use Rattle.om_geom.specs.Classes.{stride_of}
use Rattle.om_model.specs.declared.block.Place.{Place}

-- memory has the bytes of the page
abbrev pub HoldsPage : List (List ℕ) → ℕ → Type 0
HoldsPage memory page = frames.is_held memory page ≡ true

-- memory has all bytes of the place
abbrev pub HoldsPlace : List (List ℕ) → Place → Type 0
HoldsPlace memory place = frames.IsHeldPart memory place.address (stride_of place.class)
