-- Tables at the start of a pool stand for the opening state.
use Rattle.std.proofs.Common.{◌≡◌, ◌*◌, length, None, ap, ◌∙◌}
use Rattle.std.proofs.lemmas.List.{get_or-replicate, length-replicate}
use Rattle.om_chunk.specs.Pages as chunks
use Rattle.om_delay.specs.Slots.{no_slots}
use Rattle.om_frame.specs.Memory.{no_pages}
use Rattle.om_geom.specs.Numbers.{zone_pages}
use Rattle.om_model.specs.Pool.Rules.{Rules}
use Rattle.om_model.specs.Pool.State.{opening}
use Rattle.om_pages.specs.Tables as pages
use Rattle.om_pages.specs.declared.kind.PageKind.TheVariants.{Absent}
use Rattle.om_pool.specs.Blocks.{no_request, no_requests}
use Rattle.om_pool.specs.Tables.{Tables, StandFor}

pub tables-begin : (rules : Rules) (tables : Tables) → tables.pages ≡ pages.no_pages rules.zones → tables.chunks ≡ chunks.no_pages rules.zones → tables.blocks ≡ no_requests rules.zones → tables.slots ≡ no_slots
    → tables.memory ≡ no_pages rules.zones → StandFor rules tables (opening rules)
tables-begin rules tables pages_are chunks_are blocks_are slots memory = record {
  pages_all = ap length pages_are ∙ length-replicate (zone_pages * rules.zones) Absent;
  chunks_all = ap length chunks_are ∙ length-replicate (zone_pages * rules.zones) None;
  blocks_all = ap length blocks_are ∙ length-replicate (zone_pages * rules.zones) no_request;
  pages = λ page there. ap (λ t. pages.kind_of t page) pages_are ∙ get_or-replicate (zone_pages * rules.zones) page Absent Absent there;
  chunks = λ page there. ap (λ t. chunks.page_in t page) chunks_are ∙ get_or-replicate (zone_pages * rules.zones) page None None there;
  blocks = tt;
  slots = slots;
  memory = memory;
}
