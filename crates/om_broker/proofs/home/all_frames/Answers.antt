use Rattle.std.proofs.Common.{◌≡◌, ℕ, ◌+◌, ◌*◌, ◌<◌, List, length, ap, sym, subst, ◌∙◌, arith, false}
use Rattle.std.specs.Prelude.{All}
use Rattle.om_frame.specs.Frames.{PageBytes, with_frames, zero_frames}
use Rattle.om_frame.specs.FrameLaws.{All-zero_frames}
use Rattle.om_frame.specs.Memory.{is_held}
use Rattle.om_broker.proofs.HomeLaws.{first_frames, length-first_frames, first_frames-lack, first_frames-more}
use Rattle.om_broker.proofs.home.all_frames.Goals as goal

pub add-requires-clause-there : goal.add-requires-clause-there
add-requires-clause-there c =
    let long = ap length c.loop-zone.invariant ∙ length-first_frames c.args.zones (32 * c.loop-zone.zone) in
    let There : PageBytes → Type 0 = λ frame. frame.page < length c.loop-zone.home in
    let bundle = c.in_ok-zone_frames.ensures in
    subst (All There) (sym bundle) (All-zero_frames There (32 * c.loop-zone.zone) 32 (λ page low high. omega arith))

pub add-requires-clause-new : goal.add-requires-clause-new
add-requires-clause-new c =
    let New : PageBytes → Type 0 = λ frame. is_held c.loop-zone.home frame.page ≡ false in
    let bundle = c.in_ok-zone_frames.ensures in
    subst (All New) (sym bundle) (All-zero_frames New (32 * c.loop-zone.zone) 32 (λ page low high. rw c.loop-zone.invariant (first_frames-lack c.args.zones (32 * c.loop-zone.zone) page low)))

pub loop-zone-preserved : goal.loop-zone-preserved
loop-zone-preserved c =
    let next : 32 * c.loop-zone.zone + 32 ≡ 32 * (c.loop-zone.zone + 1) = omega arith in
    c.add.ensures
    ∙ ap (with_frames c.loop-zone.home) c.in_ok-zone_frames.ensures
    ∙ ap (λ (m : List (List ℕ)). with_frames m (zero_frames (32 * c.loop-zone.zone) 32)) c.loop-zone.invariant
    ∙ first_frames-more c.args.zones (32 * c.loop-zone.zone) 32
    ∙ ap (first_frames c.args.zones) next
