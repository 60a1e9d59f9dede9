use Rattle.std.proofs.Common.{List, refl, sym, subst, ap, arith}
use Rattle.om_pages.specs.Kinds.{is_held}
use Rattle.om_pages.specs.Tables.{AreAll}
use Rattle.om_pages.specs.declared.kind.PageKind.{PageKind}
use Rattle.om_pages.specs.declared.kind.PageKind.TheVariants.{Free}
use Rattle.om_pool.specs.Tables.{Tables}
use Rattle.om_pool.proofs.TableRuns.{held-set}
use Rattle.om_pool.proofs.holdings.Holdings.claimed_place.Goals as goal

pub open_page-requires-clause-held : goal.open_page-requires-clause-held
open_page-requires-clause-held c =
    let page = c.args.page.0 in
    let there = (c.requires.new page (omega arith) (omega arith)).0 in
    let Held : List PageKind → Type 0 = λ t. AreAll is_held t page 1 in
    subst Held (sym (ap (λ (t : Tables). t.pages) c.add_pages.ensures.tables)) (held-set c.args.self.now.pages page Free there refl)
