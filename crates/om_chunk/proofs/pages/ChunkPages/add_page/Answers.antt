use Rattle.std.proofs.Common.{◌≡◌, ◌∙◌, ◌<◌, length, set, Some, None, true, subst, sym, ap, arith, rules}
use Rattle.std.proofs.lemmas.List.{length-set}
use Rattle.om_chunk.specs.OpenSets.{AreOpen}
use Rattle.om_chunk.specs.Pages.{PageList, page_in}
use Rattle.om_chunk.specs.Picks.{is_open}
use Rattle.om_chunk.specs.Places.{ChunkPage}
use Rattle.om_chunk.proofs.OpenLaws.{IsOf, open-replaced, open-fresh}
use Rattle.om_chunk.proofs.pages.ChunkPages.add_page.Goals as goal

pub invariant_of-self : goal.invariant_of-self
invariant_of-self c =
    let none : page_in c.self.inside.pages.items c.args.page.0 ≡ None = ap (λ (list : PageList). page_in list.pages c.args.page.0) c.self.view_is ∙ c.requires.fresh in
    let there : c.args.page.0 < length c.self.inside.pages.items = omega (arith, ap (λ (list : PageList). length list.pages) c.self.view_is, c.requires.there) in (
      omega (arith, length-set c.self.inside.pages.items c.args.page.0 (Some c.new.result), c.self.invariant.0),
      search rules,
      subst (λ sets. AreOpen (set c.self.inside.pages.items c.args.page.0 (Some c.new.result)) sets) (sym c.set.ensures)
          (open-replaced c.self.inside.pages.items c.self.inside.listed c.self.invariant.2 c.args.class.0 c.args.page.0 c.requires.class there
          (subst (IsOf c.args.class.0) (sym none) tt)
          (Some c.new.result) (ap (λ (page : ChunkPage). page.class) c.new.ensures)
          true (sym (ap (λ page. is_open c.args.class.0 (Some page)) c.new.ensures ∙ open-fresh c.args.class.0 c.requires.class))),
    )
