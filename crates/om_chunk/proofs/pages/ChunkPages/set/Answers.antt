use Rattle.std.proofs.Common.{◌≡◌, ◌∙◌, ◌<◌, length, set, Some, None, subst, sym, ap, arith}
use Rattle.std.proofs.lemmas.List.{length-set, get_or_default}
use Rattle.om_chunk.specs.OpenSets.{AreOpen}
use Rattle.om_chunk.specs.Pages.{PageList, page_in}
use Rattle.om_chunk.specs.Places.{ChunkPage}
use Rattle.om_chunk.proofs.OpenLaws.{IsOf, open-replaced, open-of}
use Rattle.om_chunk.proofs.PageLaws.{place_in-page}
use Rattle.om_chunk.proofs.pages.ChunkPages.set.Goals as goal

pub invariant_of-self : goal.invariant_of-self
invariant_of-self c =
    let there : c.page_at-at.result < length c.self.inside.pages.items =
    omega (arith, ap (λ (list : PageList). length list.pages) c.self.view_is, c.page_at-at.ensures, place_in-page c.args.self.now.pages c.args.addr.0 c.requires) in
    let was : page_in c.self.inside.pages.items c.page_at-at.result ≡ Some c.in-Some.page =
    sym (get_or_default c.self.inside.pages.items c.page_at-at.result c.index_mut.result.now None there) ∙ sym c.index_mut.ensures.value ∙ c.in-Some.is in
    let same : c.set.new.self.class ≡ c.in-Some.page.class = ap (λ (page : ChunkPage). page.class) c.set.ensures in (
      omega (arith, length-set c.self.inside.pages.items c.page_at-at.result (Some c.set.new.self), c.self.invariant.0),
      c.self.invariant.1,
      subst (λ sets. AreOpen (set c.self.inside.pages.items c.page_at-at.result (Some c.set.new.self)) sets) (sym c.set-in-Some.ensures)
          (open-replaced c.self.inside.pages.items c.self.inside.listed c.self.invariant.2 c.class-class.result.0 c.page_at-at.result c.class-class.ensures.class there
          (subst (IsOf c.class-class.result.0) (sym was) (sym (c.class-class.ensures.value ∙ same)))
          (Some c.set.new.self) (sym c.class-class.ensures.value)
          c.has_free-free.result (c.has_free-free.ensures ∙ open-of c.class-class.result.0 c.set.new.self c.class-class.ensures.value)),
    )
