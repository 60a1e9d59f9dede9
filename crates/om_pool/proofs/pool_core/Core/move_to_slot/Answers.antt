use Rattle.std.proofs.Common.{ℕ, List, is_some, sym, subst, ap, ◌∙◌, refl, arith}
use Rattle.om_geom.specs.Addresses.{page_at}
use Rattle.om_pages.specs.Kinds.{is_free}
use Rattle.om_pool.specs.Chunks.{HoldsPlace}
use Rattle.om_pool.specs.TableSteps.{freed_place, page_goes}
use Rattle.om_pool.specs.Tables.{Tables}
use Rattle.om_pool.proofs.CoreLaws.{same-both}
use Rattle.om_pool.proofs.PlaceLeaving.{come-bytes, come-lives, filled-tables, leaves-empty, leaves-on, leaves-page, out-come, out-free, out-there, state_put}
use Rattle.om_pool.proofs.TableRuns.{all-moved}
use Rattle.om_pool.proofs.pool_core.Core.move_to_slot.Goals as goal

pub delay-before-requires-clause-class : goal.delay-before-requires-clause-class
delay-before-requires-clause-class g c = let come = c.requires.come in (come-lives g.B.Broker c.args.self.now c.args.broker.now come.0 come.1 c.args.place come.2 come.3).class_is

pub delay-before-requires-clause-place : goal.delay-before-requires-clause-place
delay-before-requires-clause-place g c =
    let come = c.requires.come in
    ap is_some (come-lives g.B.Broker c.args.self.now c.args.broker.now come.0 come.1 c.args.place come.2 come.3).has_is

pub fill_freed-requires-clause-class : goal.fill_freed-requires-clause-class
fill_freed-requires-clause-class g c = let come = c.requires.come in (come-lives g.B.Broker c.args.self.now c.args.broker.now come.0 come.1 c.args.place come.2 come.3).class_is

pub fill_freed-requires-clause-bytes : goal.fill_freed-requires-clause-bytes
fill_freed-requires-clause-bytes g c =
    let come = c.requires.come in
    let Holds : List (List ℕ) → Type 0 = λ m. HoldsPlace m c.args.place in
    subst Holds (sym (ap (λ (t : Tables). t.memory) c.delay-before.ensures.tables)) (come-bytes g.B.Broker c.args.self.now c.args.broker.now come.0 come.1 c.args.place come.2 come.3)

pub set_free-requires : goal.set_free-requires
set_free-requires g c =
    let old = c.args.self.now in
    let come = c.requires.come in
    let waits = c.delay-before.ensures in
    let fills = c.fill_freed.ensures in
    let own = c.fill_freed.new.self in
    let gone = c.in_ok-gone.gone in
    let here = out-there g.B.Broker old c.args.broker.now come.0 come.1 c.args.place come.2 come.3 c.args.slot c.requires.slot gone (sym waits.before ∙ c.in_ok-gone.was) own
    (filled-tables old.state c.delay-before.new.self own c.args.slot c.args.place waits.tables waits.same fills.tables) in
    record { place = here.chunk; held = here.held; low = here.low }

pub overflow_cast-page_at : goal.overflow_cast-page_at
overflow_cast-page_at g c =
    let old = c.args.self.now in
    let come = c.requires.come in
    let waits = c.delay-before.ensures in
    let fills = c.fill_freed.ensures in
    let own = c.fill_freed.new.self in
    let gone = c.in_ok-gone.gone in
    let here = out-there g.B.Broker old c.args.broker.now come.0 come.1 c.args.place come.2 come.3 c.args.slot c.requires.slot gone (sym waits.before ∙ c.in_ok-gone.was) own
    (filled-tables old.state c.delay-before.new.self own c.args.slot c.args.place waits.tables waits.same fills.tables) in
    omega (arith, here.low, c.page_at.ensures)

pub keep_or_release-requires-clause-come : goal.keep_or_release-requires-clause-come
keep_or_release-requires-clause-come g c =
    let old = c.args.self.now in
    let b = c.args.broker.now in
    let come = c.requires.come in
    let place = c.args.place in
    let slot = c.args.slot in
    let waits = c.delay-before.ensures in
    let fills = c.fill_freed.ensures in
    let frees = c.set_free.ensures in
    let own = c.set_free.new.self in
    let gone = c.in_ok-gone.gone in
    let was = sym waits.before ∙ c.in_ok-gone.was in
    let same = same-both old.state c.fill_freed.new.self own (same-both old.state c.delay-before.new.self c.fill_freed.new.self waits.same fills.same) frees.same in
    let own_is = frees.tables ∙ ap (λ t. freed_place t gone.first) (filled-tables old.state c.delay-before.new.self c.fill_freed.new.self slot place waits.tables waits.same fills.tables) in
    (state_put g.B.Broker old b come.0 come.1 place come.2 come.3 slot c.requires.slot, out-come g.B.Broker old b come.0 come.1 place come.2 come.3 slot c.requires.slot gone was own same own_is)

pub keep_or_release-requires-clause-free : goal.keep_or_release-requires-clause-free
keep_or_release-requires-clause-free g c =
    let old = c.args.self.now in
    let come = c.requires.come in
    let place = c.args.place in
    let slot = c.args.slot in
    let waits = c.delay-before.ensures in
    let fills = c.fill_freed.ensures in
    let frees = c.set_free.ensures in
    let own = c.set_free.new.self in
    let gone = c.in_ok-gone.gone in
    let was = sym waits.before ∙ c.in_ok-gone.was in
    let same = same-both old.state c.fill_freed.new.self own (same-both old.state c.delay-before.new.self c.fill_freed.new.self waits.same fills.same) frees.same in
    let filled_is = filled-tables old.state c.delay-before.new.self c.fill_freed.new.self slot place waits.tables waits.same fills.tables in
    let goes = ap (λ t. page_goes t gone.first) (sym filled_is) ∙ sym frees.goes ∙ c.if-not-set_free.false in
    all-moved is_free own.pages c.page_at.result (page_at gone.first) c.page_at.ensures
    (out-free g.B.Broker old c.args.broker.now come.0 come.1 place come.2 come.3 slot c.requires.slot gone was own same (frees.tables ∙ ap (λ t. freed_place t gone.first) filled_is) goes)

pub returns-in_err-gone : goal.returns-in_err-gone
returns-in_err-gone g c =
    let old = c.args.self.now in
    let waits = c.delay-before.ensures in
    let fills = c.fill_freed.ensures in
    let own = c.fill_freed.new.self in
    record {
      left = λ state come block here.
          leaves-empty g.B.Broker old c.args.broker.now state come c.args.place block here c.args.slot c.requires.slot (sym waits.before ∙ c.in_err-gone.was) own
          (same-both old.state c.delay-before.new.self own waits.same fills.same) (filled-tables old.state c.delay-before.new.self own c.args.slot c.args.place waits.tables waits.same fills.tables) c.from_residual.result c.from_residual.ensures;
      same = refl;
    }

pub returns-then-not-set_free : goal.returns-then-not-set_free
returns-then-not-set_free g c =
    let old = c.args.self.now in
    let place = c.args.place in
    let slot = c.args.slot in
    let waits = c.delay-before.ensures in
    let fills = c.fill_freed.ensures in
    let frees = c.set_free.ensures in
    let own = c.set_free.new.self in
    let gone = c.in_ok-gone.gone in
    let was = sym waits.before ∙ c.in_ok-gone.was in
    let same = same-both old.state c.fill_freed.new.self own (same-both old.state c.delay-before.new.self c.fill_freed.new.self waits.same fills.same) frees.same in
    let filled_is = filled-tables old.state c.delay-before.new.self c.fill_freed.new.self slot place waits.tables waits.same fills.tables in
    let stays = ap (λ t. page_goes t gone.first) (sym filled_is) ∙ sym frees.goes ∙ c.if-not-set_free.true in
    record {
      left = λ state come block here.
          leaves-on g.B.Broker old c.args.broker.now state come place block here slot c.requires.slot gone was own same (frees.tables ∙ ap (λ t. freed_place t gone.first) filled_is) stays;
      same = refl;
    }

pub returns : goal.returns
returns g c =
    let old = c.args.self.now in
    let b = c.args.broker.now in
    let place = c.args.place in
    let slot = c.args.slot in
    let waits = c.delay-before.ensures in
    let fills = c.fill_freed.ensures in
    let frees = c.set_free.ensures in
    let keeps = c.keep_or_release.ensures in
    let own = c.set_free.new.self in
    let gone = c.in_ok-gone.gone in
    let was = sym waits.before ∙ c.in_ok-gone.was in
    let same = same-both old.state c.fill_freed.new.self own (same-both old.state c.delay-before.new.self c.fill_freed.new.self waits.same fills.same) frees.same in
    let filled_is = filled-tables old.state c.delay-before.new.self c.fill_freed.new.self slot place waits.tables waits.same fills.tables in
    let own_is = frees.tables ∙ ap (λ t. freed_place t gone.first) filled_is in
    let goes = ap (λ t. page_goes t gone.first) (sym filled_is) ∙ sym frees.goes ∙ c.if-not-set_free.false in
    record {
      left = λ state come block here.
          leaves-page g.B.Broker old b state come place block here slot c.requires.slot gone was own same own_is goes c.page_at.result c.page_at.ensures c.keep_or_release.new.self c.keep_or_release.new.broker c.keep_or_release.result
          (keeps.left (state_put g.B.Broker old b state come place block here slot c.requires.slot) (out-come g.B.Broker old b state come place block here slot c.requires.slot gone was own same own_is));
      same = keeps.same;
    }
