use Rattle.std.proofs.Common.{◌≡◌}
use Rattle.om_frame.specs.Frames.{without_pages, zero_frames}
use Rattle.om_frame.proofs.shelf.Shelf.remove.Given as goal

abbrev pub invariant-loop-i : goal.invariant-loop-i
invariant-loop-i l = record {
  frames : l.bundle ≡ zero_frames l.first.0 l.i;
  rest : l.self ≡ without_pages l.fn.self l.first.0 l.i;
}
