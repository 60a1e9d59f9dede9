use Rattle.std.proofs.Common.{◌*◌, List, [], ◌∷◌, ◌++◌, length, ap, sym, ◌∙◌, arith}
use Rattle.om_frame.specs.Frames.{PageBytes, zero_frames}
use Rattle.om_frame.specs.FrameLaws.{zero_frames-more, length-zero_frames, next_page-zero_frames}
use Rattle.om_broker.proofs.home.zone_frames.Goals as goal

pub push-requires-clause-few : goal.push-requires-clause-few
push-requires-clause-few c = omega (arith, ap length c.loop-i.invariant, length-zero_frames (32 * c.args.zone) c.loop-i.i)

pub push-requires-clause-next : goal.push-requires-clause-next
push-requires-clause-next c = rw (c.loop-i.invariant, c.in_ok-zeroed.ensures) (sym (next_page-zero_frames (32 * c.args.zone) c.loop-i.i))

pub loop-i-preserved : goal.loop-i-preserved
loop-i-preserved c =
    c.push.ensures
    ∙ ap (λ (xs : List PageBytes). xs ++ c.in_ok-zeroed.field-0 ∷ []) c.loop-i.invariant
    ∙ ap (λ (frame : PageBytes). zero_frames (32 * c.args.zone) c.loop-i.i ++ frame ∷ []) c.in_ok-zeroed.ensures
    ∙ sym (zero_frames-more (32 * c.args.zone) c.loop-i.i)
