-- What a page is to one pool. A page that the pool doesn't hold is absent. A held page is free, a chunk page of a
-- class, a data page of a page block, or the guard behind a block's data pages.
use Rattle.std.specs.Prelude.{ℕ, Bool, true, false, not}
use Rattle.om_pages.specs.declared.kind.PageKind.{PageKind}
use Rattle.om_pages.specs.declared.kind.PageKind.TheVariants.{Absent, Free, Chunk, Block, Guard}

abbrev pub is_absent : PageKind → Bool
is_absent Absent = true
is_absent Free = false
is_absent (Chunk class) = false
is_absent (Block first pages) = false
is_absent (Guard first) = false

abbrev pub is_held : PageKind → Bool
is_held kind = not (is_absent kind)

abbrev pub is_free : PageKind → Bool
is_free Free = true
is_free Absent = false
is_free (Chunk class) = false
is_free (Block first pages) = false
is_free (Guard first) = false

-- a data page of the block that begins at the page and has so many data pages
abbrev pub data_page : ℕ → ℕ → PageKind
data_page first pages = Block (record { 0 = first }) pages

-- the guard of the block that begins at the page
abbrev pub guard_page : ℕ → PageKind
guard_page first = Guard (record { 0 = first })
