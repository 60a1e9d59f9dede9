-- The numbers of an arena. Rules name them, and so does the code.
use Rattle.std.specs.Prelude.{ℕ}

-- the bytes of a page
abbrev pub page_size : ℕ
page_size = 4096

-- the pages of a zone
abbrev pub zone_pages : ℕ
zone_pages = 32

-- the most zones that an arena has
abbrev pub most_zones : ℕ
most_zones = 64

-- the address of the arena's first byte
abbrev pub first_address : ℕ
first_address = 65536

-- the greatest class of small blocks, in bytes
abbrev pub largest_class : ℕ
largest_class = 2048
