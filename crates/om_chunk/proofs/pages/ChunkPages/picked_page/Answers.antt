use Rattle.std.proofs.Common.{◌∙◌, ap}
use Rattle.om_chunk.specs.Pages.{PageList}
use Rattle.om_chunk.specs.Picks.{picked_page}
use Rattle.om_chunk.proofs.OpenLaws.{chosen_page-open}
use Rattle.om_chunk.proofs.pages.ChunkPages.picked_page.Goals as goal

pub returns : goal.returns
returns c =
    c.pick.ensures
    ∙ chosen_page-open c.self.inside.pages.items c.self.inside.listed c.self.invariant.2 c.args.class.0 c.args.word c.requires
    ∙ ap (λ (list : PageList). picked_page list.pages c.args.class.0 c.args.word) c.self.view_is
