use Rattle.std.proofs.Common.{◌≡◌, List, ℕ, length, subst, sym, ap, ◌∙◌, arith}
use Rattle.om_geom.specs.Numbers.{zone_pages}
use Rattle.om_frame.specs.Memory.{IsHeldPart, no_pages}
use Rattle.om_frame.specs.Frames.{with_frames}
use Rattle.om_frame.specs.FrameLaws.{held-with_zeros}
use Rattle.om_delay.proofs.tests.held_pages.Goals as goal

pub returns : goal.returns
returns c =
    let empty : c.in_ok-shelf.shelf ≡ no_pages 1 = c.in_ok-shelf.ensures in
    let long : length c.in_ok-shelf.shelf ≡ zone_pages = ap length empty in
    subst (λ (m : List (List ℕ)). IsHeldPart m 69632 8192) (sym (c.add.ensures ∙ ap (with_frames c.in_ok-shelf.shelf) c.in_ok-two_frames.ensures))
    (held-with_zeros c.in_ok-shelf.shelf 1 2 (omega arith))
