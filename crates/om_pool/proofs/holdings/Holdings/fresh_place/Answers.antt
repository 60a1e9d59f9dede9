use Rattle.std.proofs.Common.{◌≡◌, ℕ, List, Option, Some, refl, sym, subst, ap, ◌∙◌, arith}
use Rattle.std.specs.Option.{option_map}
use Rattle.om_chunk.specs.declared.pages.Picked.{Picked}
use Rattle.om_geom.specs.declared.address.Page.{Page}
use Rattle.om_pages.specs.FreeRuns.{lowest_run}
use Rattle.om_pages.specs.Kinds.{data_page, is_held}
use Rattle.om_pages.specs.Tables.{AreAll}
use Rattle.om_pages.specs.declared.kind.PageKind.{PageKind}
use Rattle.om_pages.specs.declared.kind.PageKind.TheVariants.{Chunk}
use Rattle.om_pool.specs.HoldingsView.{tables_in}
use Rattle.om_chunk.specs.Pages.{with_page}
use Rattle.om_pool.specs.TableSteps.{fresh_page, FreshPlace}
use Rattle.om_pool.proofs.TableRuns.{held-set, set-again}
use Rattle.om_pool.proofs.holdings.Holdings.fresh_place.Goals as goal

pub open_page-requires-clause-held : goal.open_page-requires-clause-held
open_page-requires-clause-held c =
    let page = c.in_ok-page.page.0 in
    let there = (c.in_ok-page.ensures.free page (omega arith) (omega arith)).0 in
    let Held : List PageKind → Type 0 = λ t. AreAll is_held t page 1 in
    subst Held (sym c.in_ok-page.ensures.taken) (held-set c.args.self.now.pages page (data_page page 1) there refl)

pub returns-clause-found : goal.returns-clause-found
returns-clause-found c =
    let old = tables_in c.args.self.now in
    let new = tables_in c.open_page.new.self in
    let page = c.in_ok-page.page in
    let chunk : PageKind = Chunk c.args.class in
    let found : lowest_run old.pages 1 ≡ Some page.0 = sym c.take_run.ensures.first ∙ ap (option_map (λ (p : Page). p.0)) c.in_ok-page.was in
    let Fresh : Option ℕ → Type 0 = λ o. FreshPlace old new c.args.class.0 c.args.word (Some c.open_page.result) o in
    subst Fresh (sym found) (record {
      place = c.open_page.result.place;
      result_is = ap (λ (p : Page). let picked : Picked = record { page = p; place = c.open_page.result.place } in Some picked) c.open_page.ensures.page;
      new_is = c.open_page.ensures.tables
          ∙ ap (λ (t : List PageKind). fresh_page (record old { pages = t }) page.0 c.args.class.0) c.in_ok-page.ensures.taken
          ∙ ap (λ (t : List PageKind). record (record old { pages = t }) { chunks = with_page old.chunks page.0 c.args.class.0 }) (set-again old.pages page.0 (data_page page.0 1) chunk);
      place_is = c.open_page.ensures.place;
    })
