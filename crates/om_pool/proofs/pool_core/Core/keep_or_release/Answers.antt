use Rattle.std.proofs.Common.{◌≡◌, true, refl, sym, ap, ◌∙◌, List, subst, ◌+◌}
use Rattle.om_broker.specs.Claims.{HasFrames}
use Rattle.om_frame.specs.Frames.{PageBytes}
use Rattle.om_model.specs.Pool.Runs.{Run}
use Rattle.om_pool.specs.HoldingsView.{rules_in, tables_in}
use Rattle.om_pool.specs.TableSteps.{is_surplus_by}
use Rattle.om_pool.proofs.CallLaws.{frames-run, lets-move, lets-zeros}
use Rattle.om_pool.proofs.RunLeaving.{run-bytes, run-frames, run-kept, run-let_go}
use Rattle.om_pool.proofs.pool_core.Core.keep_or_release.Goals as goal

pub leave-frames-requires-clause-held : goal.leave-frames-requires-clause-held
leave-frames-requires-clause-held g c = run-bytes g.B.Broker c.args.self.now c.args.broker.now c.requires.come.0 c.requires.come.1 c.args.first.0 c.args.n c.requires.free

pub release-requires-clause-zeros : goal.release-requires-clause-zeros
release-requires-clause-zeros g c = lets-zeros c.args.first.0 c.args.n c.requires.some c.requires.one_zone c.leave-frames.result c.leave-frames.ensures.frames

pub release-requires-clause-has : goal.release-requires-clause-has
release-requires-clause-has g c =
    let b = c.args.broker.now in
    let Has : List PageBytes → Type 0 = λ frames. HasFrames (g.B.Broker.made b) frames in
    subst Has (sym c.leave-frames.ensures.frames)
    (run-frames g.B.Broker c.args.self.now b c.requires.come.0 c.requires.come.1 c.args.first.0 c.args.n c.requires.free c.requires.some)

pub returns-then-not-is_surplus : goal.returns-then-not-is_surplus
returns-then-not-is_surplus g c = record {
  left = λ state come. run-kept g.B.Broker c.args.self.now c.args.broker.now state come c.args.first.0 c.args.n c.requires.free (sym c.is_surplus.ensures ∙ c.if-not-is_surplus.true);
  same = refl;
}

pub returns : goal.returns
returns g c =
    let old = c.args.self.now in
    let gives = c.release.ensures in
    let move = lets-move c.args.first.0 c.args.n c.requires.some c.requires.one_zone c.leave-frames.result c.leave-frames.ensures.frames c.release.result gives.back in
    let frames = frames-run c.args.first.0 c.args.n c.requires.some c.requires.one_zone c.leave-frames.result c.leave-frames.ensures.frames in
    let surplus : is_surplus_by (rules_in old.state) (tables_in old.state) ≡ true = sym c.is_surplus.ensures ∙ c.if-not-is_surplus.false in
    record {
      left = λ state come. run-let_go g.B.Broker old c.args.broker.now state come c.args.first.0 c.args.n c.requires.free surplus c.leave-frames.new.self c.release.new.self c.release.result
          c.leave-frames.ensures.tables c.leave-frames.ensures.same (record {
            same = record { arena = gives.arena; part = gives.part };
            asked = gives.asks;
            paid = gives.moves ∙ ap (λ (r : Run). g.B.Broker.moves_left c.args.broker.now + r.count) frames;
            made = gives.made;
            run_is = move.0;
            inside = move.1;
          });
      same = refl;
    }
