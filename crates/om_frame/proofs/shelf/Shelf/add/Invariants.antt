use Rattle.std.proofs.Common.{◌≡◌, ◌<◌, length}
use Rattle.std.specs.Prelude.{All}
use Rattle.om_frame.specs.Frames.{PageBytes, with_frames}
use Rattle.om_frame.proofs.shelf.Shelf.add.Given as goal

abbrev pub invariant-loop-frame : goal.invariant-loop-frame
invariant-loop-frame l = record {
  there : All (λ (frame : PageBytes). frame.page < length l.self) l.bundle;
  after : with_frames l.self l.bundle ≡ with_frames l.fn.self l.fn.bundle;
}

abbrev pub decreases-loop-frame : goal.decreases-loop-frame
decreases-loop-frame l = length l.bundle
