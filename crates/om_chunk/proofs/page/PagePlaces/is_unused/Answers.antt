use Rattle.std.proofs.Common.{ap, nat_eq, ◌∙◌}
use Rattle.std.specs.List.{count_by}
use Rattle.om_chunk.specs.Places.{ChunkPage, is_unused, is_free}
use Rattle.om_chunk.proofs.Counts.{all-counted}
use Rattle.om_chunk.proofs.page.PagePlaces.is_unused.Goals as goal

pub returns : goal.returns
returns c =
    ap (λ n. nat_eq n c.len.result) c.self.invariant.1
    ∙ ap (λ n. nat_eq (count_by is_free c.self.inside.places.items) n) (c.len.ensures ∙ c.self.inside.places.ok.0)
    ∙ all-counted is_free c.self.inside.places.items
    ∙ ap (λ (page : ChunkPage). is_unused page) c.self.view_is
