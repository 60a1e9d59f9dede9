use Rattle.std.proofs.Common.{ap, nat_lt, ◌∙◌}
use Rattle.om_chunk.specs.Places.{ChunkPage, has_free, is_free}
use Rattle.om_chunk.proofs.Counts.{any-counted}
use Rattle.om_chunk.proofs.page.PagePlaces.has_free.Goals as goal

pub returns : goal.returns
returns c =
    ap (λ n. nat_lt 0 n) c.self.invariant.1 ∙ any-counted is_free c.self.inside.places.items
    ∙ ap (λ (page : ChunkPage). has_free page) c.self.view_is
