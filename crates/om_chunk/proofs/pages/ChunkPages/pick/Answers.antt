use Rattle.std.proofs.Common.{◌∙◌, sym}
use Rattle.om_chunk.proofs.PageLaws.{picked-place, picked-free_on}
use Rattle.om_chunk.proofs.pages.ChunkPages.pick.Goals as goal

pub returns-in_err-place-clause-some : goal.returns-in_err-place-clause-some
returns-in_err-place-clause-some c =
    absurd (picked-place c.args.self.now.pages c.args.class.0 c.args.w1 c.in_ok-page.page c.place_on.result (sym c.picked_page.ensures ∙ c.in_ok-page.was) c.place_on.ensures.some c.in_err-place.was)

pub returns-clause-free : goal.returns-clause-free
returns-clause-free c =
    picked-free_on c.args.self.now.pages c.args.class.0 c.args.w1 c.in_ok-page.page c.in_ok-place.place (sym c.picked_page.ensures ∙ c.in_ok-page.was) c.in_ok-place.ensures.free
