-- What becomes of the tables where a live block comes to a new size at its address.
use Rattle.std.specs.Prelude.{◌≡◌, ℕ, ◌+◌, ◌-◌, ◌*◌, ◌≤◌, List, slice_set}
use Rattle.om_frame.specs.Frames.{PageBytes, zero_frames}
use Rattle.om_geom.specs.Addresses.{address_of, bit_of}
use Rattle.om_geom.specs.Numbers.{most_zones, page_size, zone_pages}
use Rattle.om_geom.specs.declared.address.Extent.{Extent}
use Rattle.om_model.specs.Pool.Rules.{Rules}
use Rattle.om_model.specs.Pool.Runs.{Run}
use Rattle.om_model.specs.declared.block.Block.{Block}
use Rattle.om_pages.specs.Kinds.{is_absent}
use Rattle.om_pages.specs.Tables.{block_pages, AreAll}
use Rattle.om_pool.specs.TableSteps.{canaries_filled, claimed_run, freed_run, fresh_filled, live_place, with_page_block}
use Rattle.om_pool.specs.Tables.{Tables}
use Rattle.om_pool.specs.declared.blocks.Request.{Request}
use Rattle.om_pool.specs.declared.holdings.Holdings.{Holdings}

-- the place of a chunk has the new size and site, and the canaries are written anew
abbrev pub chunk_stayed : Rules → Block → Tables → Tables
chunk_stayed rules block tables = canaries_filled rules block (live_place tables block.address block.size block.site)

-- of a page block that stays only what was asked for it is another
abbrev pub pages_stayed : Tables → ℕ → Request → Tables
pages_stayed tables first request = record tables { blocks = slice_set tables.blocks first request }

-- ---- a page block that begins at the page, and has some data pages, comes to have others

-- the pages that it doesn't need any more
abbrev pub last_run : Rules → ℕ → ℕ → ℕ → Run
last_run rules first old new = record { first = first + block_pages new rules.options.guard; count = old - new }

-- they become free
abbrev pub pages_shrunk : Rules → Tables → ℕ → ℕ → ℕ → Request → Tables
pages_shrunk rules tables first old new request =
    freed_run (with_page_block tables first new rules.options.guard request) (last_run rules first old new)

-- the pages after it that it needs besides
abbrev pub next_run : Rules → ℕ → ℕ → ℕ → Run
next_run rules first old new = record { first = first + block_pages old rules.options.guard; count = new - old }

-- the bytes of its new data pages
abbrev pub new_pages : ℕ → ℕ → ℕ → Extent
new_pages first old new = record { first = address_of first + page_size * old; len = page_size * (new - old) }

-- the pages after it are its own; the new data pages are filled by the junk level
abbrev pub pages_grown : Rules → Tables → ℕ → ℕ → ℕ → Request → Tables
pages_grown rules tables first old new request =
    fresh_filled rules (new_pages first old new) (with_page_block tables first new rules.options.guard request)

-- the same over claimed pages
abbrev pub pages_grown_over : Rules → Tables → ℕ → ℕ → ℕ → Request → Tables
pages_grown_over rules tables first old new request =
    pages_grown rules (claimed_run tables (next_run rules first old new)) first old new request

-- what was claimed is the pages after it, with which it is still a run of one zone
pub record IsNextRun (own : Holdings) (first old new : ℕ) (frames : List PageBytes) : Type 0 where
  pub there : first + block_pages new own.opts.guard ≤ zone_pages * most_zones
  pub one_zone : bit_of first + block_pages new own.opts.guard ≤ zone_pages
  pub fresh : AreAll is_absent own.pages (first + block_pages old own.opts.guard) (new - old)
  pub frames_are : frames ≡ zero_frames (first + block_pages old own.opts.guard) (new - old)
