-- Junk: bytes that tell a reader of fresh or freed memory what it is. At level 2 a block is filled when it is
-- allocated: its whole place, that of a block of size 0 too, or all its data pages; and of a page block that grows in
-- place the new data pages. When a block is freed, a place is filled whole at level 1 and at level 2; of a page block
-- level 1 fills the first 2048 bytes, and level 2 all data pages.
use Rattle.std.specs.Prelude.{ℕ, ◌+◌, ◌-◌, ◌*◌, Bool, ◌==◌, ◌||◌, if◌then◌else◌, Option, Some, None}
use Rattle.om_delay.specs.Changes.{freed_byte}
use Rattle.om_geom.specs.Classes.{data_pages}
use Rattle.om_geom.specs.Numbers.{page_size}
use Rattle.om_geom.specs.declared.address.Extent.{Extent}
use Rattle.om_model.specs.Pool.InUse.{use_of_place, data_of}
use Rattle.om_model.specs.Pool.Rules.{Rules, size_class}
use Rattle.om_model.specs.Pool.State.{State, filled_with}
use Rattle.om_model.specs.declared.block.Block.{Block}
use Rattle.om_model.specs.declared.block.Place.{Place}

-- fresh memory is filled with 0xdb
abbrev pub fresh_byte : ℕ
fresh_byte = 219

-- whether a freed place is filled
abbrev pub fills_freed : Rules → Bool
fills_freed rules = rules.options.junk == 1 || rules.options.junk == 2

abbrev pub extent_of_place : Place → Extent
extent_of_place place = (use_of_place place).extent

abbrev pub data_by_class : Block → Option ℕ → Extent
data_by_class block (Some class) = extent_of_place (record { address = block.address; class = class })
data_by_class block None = data_of block

-- the bytes that a block has: its whole place, or its data pages
abbrev pub data_extent : Rules → Block → Extent
data_extent rules block = data_by_class block (size_class rules block.size)

unfoldable pub with_fresh_junk : Rules → Block → State → State
with_fresh_junk rules block state = if rules.options.junk == 2 then filled_with fresh_byte (data_extent rules block) state else state

-- the data pages behind the old ones
abbrev pub new_data : Block → ℕ → Extent
new_data block size =
    record { first = block.address + page_size * data_pages block.size; len = page_size * (data_pages size - data_pages block.size) }

unfoldable pub with_new_data : Rules → Block → ℕ → State → State
with_new_data rules block size state = if rules.options.junk == 2 then filled_with fresh_byte (new_data block size) state else state

unfoldable pub with_freed_place : Rules → Place → State → State
with_freed_place rules place state =
    if fills_freed rules then filled_with freed_byte (extent_of_place place) state else state

-- so many bytes of a freed page block are filled at level 1
abbrev pub freed_front : ℕ
freed_front = 2048

-- how many bytes of a freed block of so many data pages are filled, from its first on
abbrev pub freed_len : ℕ → ℕ → ℕ
freed_len level pages = if level == 1 then freed_front else if level == 2 then page_size * pages else 0

unfoldable pub with_freed_pages : Rules → Block → State → State
with_freed_pages rules block state =
    filled_with freed_byte (record { first = block.address; len = freed_len rules.options.junk (data_pages block.size) }) state
