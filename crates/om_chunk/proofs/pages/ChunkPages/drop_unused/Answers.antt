use Rattle.std.proofs.Common.{◌≡◌, ◌∙◌, set, Some, None, false, refl, subst, sym, ap, arith}
use Rattle.std.proofs.lemmas.List.{length-set}
use Rattle.om_chunk.specs.OpenSets.{AreOpen, IsUnusedOf}
use Rattle.om_chunk.specs.Pages.{PageList, page_in}
use Rattle.om_chunk.proofs.OpenLaws.{IsOf, open-replaced}
use Rattle.om_chunk.proofs.PageLaws.{page_in-there}
use Rattle.om_chunk.proofs.pages.ChunkPages.drop_unused.Goals as goal

pub invariant_of-self : goal.invariant_of-self
invariant_of-self c =
    let unused : IsUnusedOf c.in-Some.class.0 (page_in c.args.self.now.pages c.args.page) = c.in-Some.ensures in
    let was : page_in c.self.inside.pages.items c.args.page ≡ Some unused.there = ap (λ (list : PageList). page_in list.pages c.args.page) c.self.view_is ∙ unused.is in (
      omega (arith, length-set c.self.inside.pages.items c.args.page None, c.self.invariant.0),
      c.self.invariant.1,
      subst (λ sets. AreOpen (set c.self.inside.pages.items c.args.page None) sets) (sym c.set.ensures)
          (open-replaced c.self.inside.pages.items c.self.inside.listed c.self.invariant.2 c.in-Some.class.0 c.args.page unused.is_one
          (page_in-there c.self.inside.pages.items c.args.page unused.there was)
          (subst (IsOf c.in-Some.class.0) (sym was) unused.class_is)
          None tt false refl),
    )
