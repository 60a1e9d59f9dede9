-- Addresses and extents. A page has 4096 bytes and a zone 32 pages. Byte b of page p has the address
-- 65536 + 4096 * p + b, and the arena of some zones has the pages 0 to 32 * zones - 1.
use Rattle.std.specs.Prelude.{ℕ, ◌+◌, ◌-◌, ◌*◌, ◌/◌, ◌%◌, ◌<◌, ◌≤◌, Bool, ◌&&◌, if◌then◌else◌, nat_le, nat_lt, min, max, Option, Some, None}
use Rattle.om_geom.specs.Numbers.{page_size, zone_pages, first_address}
use Rattle.om_geom.specs.declared.address.Extent.{Extent}

-- the first byte of a page
abbrev pub address_of : ℕ → ℕ
address_of page = first_address + page_size * page

-- whether an address is that of a byte of the arena
abbrev pub is_in_arena : ℕ → ℕ → Bool
is_in_arena address zones = nat_le first_address address && nat_lt address (address_of (zone_pages * zones))

-- the page on which an address of an arena lies
abbrev pub page_at : ℕ → ℕ
page_at address = (address - first_address) / page_size

-- the same for every address: none is there outside the arena
abbrev pub page_of : ℕ → ℕ → Option ℕ
page_of address zones = if is_in_arena address zones then Some (page_at address) else None

-- the zone of a page, and the page's bit there
abbrev pub zone_of : ℕ → ℕ
zone_of page = page / zone_pages

abbrev pub bit_of : ℕ → ℕ
bit_of page = page % zone_pages

-- the byte is one of the extent's
abbrev pub Covers : Extent → ℕ → Type 0
Covers extent byte = (extent.first ≤ byte) × (byte < extent.first + extent.len)

-- some byte is in both
abbrev pub SharesByte : Extent → Extent → Type 0
SharesByte a b = (byte : ℕ) × Covers a byte × Covers b byte

-- the same as a test
abbrev pub shares_byte : Extent → Extent → Bool
shares_byte a b = nat_lt (max a.first b.first) (min (a.first + a.len) (b.first + b.len))

-- the bytes of a page
abbrev pub page_extent : ℕ → Extent
page_extent page = record { first = address_of page; len = page_size }
