-- Memory: the bytes of each page of an arena, in the order of the pages. A page that is held has 4096 bytes, and
-- any other page has none.
use Rattle.std.specs.Prelude.{◌≡◌, ℕ, ◌+◌, ◌-◌, ◌*◌, ◌%◌, ◌<◌, ◌≤◌, Bool, true, ◌&&◌, not, nat_le, nat_lt, ◌==◌, List, [], ◌∷◌, length, map, filter, replicate, slice_index, slice_index_or, slice_set, take, Option, if◌then◌else◌}
use Rattle.std.specs.List.{position_from, range_with_len}
use Rattle.om_geom.specs.Addresses.{page_at, SharesByte}
use Rattle.om_geom.specs.Numbers.{page_size, zone_pages, first_address}
use Rattle.om_geom.specs.declared.address.Extent.{Extent}

-- of an arena of so many zones, while no page is held
abbrev pub no_pages : ℕ → List (List ℕ)
no_pages zones = replicate (zone_pages * zones) []

-- the bytes of a page
abbrev pub page_bytes : List (List ℕ) → ℕ → List ℕ
page_bytes memory page = slice_index_or memory page []

abbrev pub is_held : List (List ℕ) → ℕ → Bool
is_held memory page = nat_lt 0 (length (page_bytes memory page))

-- in ascending order
abbrev pub held_pages : List (List ℕ) → List ℕ
held_pages memory = filter (is_held memory) (range_with_len 0 (length memory))

-- whether the page of an address is held; an address below the arena has no page
abbrev pub is_held_at : List (List ℕ) → ℕ → Bool
is_held_at memory address = nat_le first_address address && is_held memory (page_at address)

-- the number of an address's byte on its page, from 0
abbrev pub offset_at : ℕ → ℕ
offset_at address = (address - first_address) % page_size

-- what a page that is held has there
abbrev pub byte_at : List (List ℕ) → ℕ → ℕ
byte_at memory address = slice_index (page_bytes memory (page_at address)) (offset_at address)

-- so many bytes from an address on
abbrev pub bytes_at : List (List ℕ) → ℕ → ℕ → List ℕ
bytes_at memory address len = map (byte_at memory) (range_with_len address len)

-- the memory after a byte was written
abbrev pub with_byte : List (List ℕ) → ℕ → ℕ → List (List ℕ)
with_byte memory address byte =
    slice_set memory (page_at address) (slice_set (page_bytes memory (page_at address)) (offset_at address) byte)

-- the memory after bytes were written, the first at the address and each other one at the next address
abbrev pub with_bytes : List (List ℕ) → ℕ → List ℕ → List (List ℕ)
with_bytes memory address [] = memory
with_bytes memory address (byte ∷ bytes) = with_bytes (with_byte memory address byte) (address + 1) bytes

-- the same byte, so many times
abbrev pub filled : List (List ℕ) → ℕ → ℕ → ℕ → List (List ℕ)
filled memory address len byte = with_bytes memory address (replicate len byte)

-- the memory after so many bytes from one address on were copied to another: all are read before one is written
abbrev pub copied : List (List ℕ) → ℕ → ℕ → ℕ → List (List ℕ)
copied memory from to len = with_bytes memory to (bytes_at memory from len)

-- The memory after a part was lent and given up with these bytes. There are as many as were lent, all on one page.
-- For lists of any other length, which no slice has, it is what is left of them: none past the page's end, and none
-- where none was lent.
abbrev pub with_part : List (List ℕ) → ℕ → ℕ → List ℕ → List (List ℕ)
with_part memory address len bytes = if len == 0 then memory else with_bytes memory address (take (page_size - offset_at address) bytes)

-- how far from the address, among so many bytes, the first stands that isn't the one given
abbrev pub first_other : List (List ℕ) → ℕ → ℕ → ℕ → Option ℕ
first_other memory address len byte = position_from (λ other. not (other == byte)) 0 (bytes_at memory address len)

-- the bytes of a page, be it held or not
abbrev pub IsPage : List ℕ → Type 0
IsPage bytes = 0 < length bytes → length bytes ≡ page_size

-- every page that so many bytes from an address on touch is held
abbrev pub IsHeldPart : List (List ℕ) → ℕ → ℕ → Type 0
IsHeldPart memory first len = (address : ℕ) → first ≤ address → address < first + len → is_held_at memory address ≡ true

-- their extent
abbrev pub part_extent : ℕ → ℕ → Extent
part_extent first len = record { first = first; len = len }

-- so many bytes from one address on and as many from another have none in common
abbrev pub ShareNoByte : ℕ → ℕ → ℕ → Type 0
ShareNoByte from to len = SharesByte (part_extent from len) (part_extent to len) → ⊥
