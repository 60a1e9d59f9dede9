use Rattle.std.proofs.Common.{◌≡◌, ℕ, ◌*◌, Bool, List, length, Option, Some, refl, sym, subst, ap, ◌∙◌, arith}
use Rattle.om_broker.specs.declared.broker.Claim.{Claim}
use Rattle.om_frame.specs.FrameLaws.{held-page, held-with_zeros}
use Rattle.om_frame.specs.Frames.{with_frames, zero_frames}
use Rattle.om_frame.specs.Memory as frames
use Rattle.om_geom.specs.Addresses.{address_of}
use Rattle.om_geom.specs.Numbers.{page_size}
use Rattle.om_pages.specs.Kinds.{is_held}
use Rattle.om_pages.specs.TableLaws.{with_run-all}
use Rattle.om_pages.specs.Tables.{AreAll, block_pages}
use Rattle.om_pages.specs.declared.kind.PageKind.{PageKind}
use Rattle.om_pages.specs.declared.kind.PageKind.TheVariants.{Free}
use Rattle.om_model.specs.Pool.Runs.{run_of}
use Rattle.om_pool.specs.HoldingsView.{tables_in}
use Rattle.om_pool.specs.Malloc.{IsFor, IsForClaim, IsOwnRun}
use Rattle.om_opts.specs.declared.options.Opts.{Opts}
use Rattle.om_pool.specs.TableSteps.{claimed_run}
use Rattle.om_pool.specs.Tables.{Tables}
use Rattle.om_pool.proofs.TableRuns.{data-within}
use Rattle.om_pool.proofs.holdings.Holdings.put_claimed.Goals as goal

pub put_on-requires-clause-run : goal.put_on-requires-clause-run
put_on-requires-clause-run c =
    let old = c.args.self.now in
    let own = c.add_pages.new.self in
    let tables = tables_in old in
    let n = block_pages c.args.pages old.opts.guard in
    let move = c.in-Some-Claimed.at in
    let For : Option Claim → Type 0 = λ a. IsFor old.zones tables n a in
    let for : IsForClaim old.zones tables n move c.in-Some-Claimed.frames = subst For (c.in-Some-Claimed.is ∙ ap Some c.in-Some-Claimed.field-0-is) c.requires.run in
    let first = (run_of move).first in
    let pages_there = for.there in
    let few = c.requires.zones in
    let tied = c.requires.tied in
    let long = tied.pages_all in
    let held_long = tied.memory_all in
    let count : move.count ≡ n = for.count_is in
    let after = c.add_pages.ensures.tables ∙ ap (λ f. claimed_run tables (record { first = f; count = move.count })) c.first_page-first.ensures ∙ ap (λ k. claimed_run tables (record { first = first; count = k })) count in
    let All : List PageKind → Type 0 = λ t. AreAll is_held t first n in
    let run : IsOwnRun own n first = record {
      there = omega arith;
      one_zone = for.one_zone;
      in_blocks = let same = ap length c.add_pages.ensures.requests in omega (arith, tied.blocks_all, c.requires.some, data-within c.args.pages old.opts.guard);
      held = subst All (sym (ap (λ (t : Tables). t.pages) after)) (with_run-all is_held old.pages first n Free (omega arith) refl first n (omega arith) (omega arith));
      bytes = λ page low high. ap (λ (t : Tables). frames.is_held t.memory page) after
          ∙ held-page (with_frames old.shelf (zero_frames first n)) (address_of first) (page_size * n) page (held-with_zeros old.shelf first n (omega arith)) (omega arith) (omega arith);
    } in
    let Run : Bool → ℕ → Type 0 = λ guards f. IsOwnRun own (block_pages c.args.pages guards) f in
    subst (λ f. Run own.opts.guard f) (sym c.first_page-first.ensures) (subst (λ guards. Run guards first) (sym (ap (λ (o : Opts). o.guard) (c.add_pages.ensures.same).opts)) run)
