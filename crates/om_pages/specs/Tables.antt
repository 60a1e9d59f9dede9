-- Page tables: the kind of each page of an arena, in the order of the pages.
use Rattle.std.specs.Prelude.{◌≡◌, ℕ, ◌+◌, ◌*◌, ◌<◌, ◌≤◌, Bool, true, if◌then◌else◌, List, length, map, replicate, slice_index_or}
use Rattle.std.specs.List.{count_by, range_with_len}
use Rattle.om_geom.specs.Fit.{is_in_run}
use Rattle.om_geom.specs.Numbers.{zone_pages}
use Rattle.om_pages.specs.Kinds.{is_free, data_page, guard_page}
use Rattle.om_pages.specs.declared.kind.PageKind.{PageKind}
use Rattle.om_pages.specs.declared.kind.PageKind.TheVariants.{Absent}

-- of an arena of so many zones, none of whose pages is held
abbrev pub no_pages : ℕ → List PageKind
no_pages zones = replicate (zone_pages * zones) Absent

-- what a page is; outside the arena every page is absent
abbrev pub kind_of : List PageKind → ℕ → PageKind
kind_of table page = slice_index_or table page Absent

-- how many pages are free
abbrev pub free_count : List PageKind → ℕ
free_count table = count_by is_free table

-- each of the n pages from the first on is in the arena and passes the test
abbrev pub AreAll : (PageKind → Bool) → List PageKind → ℕ → ℕ → Type 0
AreAll test table first n =
    (page : ℕ) → first ≤ page → page < first + n → (page < length table) × (test (kind_of table page) ≡ true)

-- the table once the n pages from the first on are of the kind, and all others what they were
abbrev pub with_run : List PageKind → ℕ → ℕ → PageKind → List PageKind
with_run table first n kind =
    map (λ page. if is_in_run first n page then kind else kind_of table page) (range_with_len 0 (length table))

-- how many pages a block of so many data pages has, with its guard or without one
abbrev pub block_pages : ℕ → Bool → ℕ
block_pages pages guard = if guard then pages + 1 else pages

-- the table once the n pages from the first on are the data pages of a block
abbrev pub with_data : List PageKind → ℕ → ℕ → List PageKind
with_data table first pages = with_run table first pages (data_page first pages)

-- the table once a block of so many data pages begins at the page; with a guard, the page behind them is that
abbrev pub with_block : List PageKind → ℕ → ℕ → Bool → List PageKind
with_block table first pages guard =
    if guard then with_run (with_data table first pages) (first + pages) 1 (guard_page first) else with_data table first pages
