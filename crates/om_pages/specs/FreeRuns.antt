-- Runs of free pages. A run is neighbouring pages of one zone.
use Rattle.std.specs.Prelude.{ℕ, ◌+◌, Bool, ◌&&◌, nat_le, List, length, Option}
use Rattle.std.specs.List.{find, list_all, range_with_len}
use Rattle.om_geom.specs.Addresses.{bit_of}
use Rattle.om_geom.specs.Numbers.{zone_pages}
use Rattle.om_pages.specs.Kinds.{is_free}
use Rattle.om_pages.specs.Tables.{kind_of}
use Rattle.om_pages.specs.declared.kind.PageKind.{PageKind}

-- the n pages from the first on are in one zone, and each of them is free
abbrev pub is_free_run : List PageKind → ℕ → ℕ → Bool
is_free_run table n first =
    nat_le (bit_of first + n) zone_pages && list_all (λ page. is_free (kind_of table page)) (range_with_len first n)

-- where the lowest run of n free pages begins; none where no n free pages are a run
abbrev pub lowest_run : List PageKind → ℕ → Option ℕ
lowest_run table n = find (is_free_run table n) (range_with_len 0 (length table))
