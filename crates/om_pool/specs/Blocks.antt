-- What was asked for the page blocks: of each page of the arena, the size and the site of the block that begins there.
use Rattle.std.specs.Prelude.{ℕ, ◌*◌, List, replicate, slice_index_or}
use Rattle.om_geom.specs.Numbers.{zone_pages}
use Rattle.om_model.specs.declared.block.Block.{Block}
use Rattle.om_pool.specs.declared.blocks.Request.{Request}

-- what stands at a page before any block has begun there
abbrev pub no_request : Request
no_request = record { size = 0; site = 0 }

-- of an arena of so many zones
abbrev pub no_requests : ℕ → List Request
no_requests zones = replicate (zone_pages * zones) no_request

abbrev pub request_at : List Request → ℕ → Request
request_at requests page = slice_index_or requests page no_request

-- what was asked for the block
abbrev pub request_of : Block → Request
request_of block = record { size = block.size; site = block.site }

-- the block at the address for which this was asked
abbrev pub block_for : ℕ → Request → Block
block_for address request = record { address = address; size = request.size; site = request.site }
