use Rattle.std.proofs.Common.{List, ℕ, ap, ◌∙◌}
use Rattle.om_frame.specs.Memory.{is_held_at}
use Rattle.om_frame.specs.MemoryLaws.{is_held_at-filled}
use Rattle.om_delay.proofs.tests.write.Goals as goal

pub returns : goal.returns
returns c address low high =
    ap (λ (m : List (List ℕ)). is_held_at m address) c.fill.ensures
    ∙ is_held_at-filled c.args.shelf.now c.args.at c.args.len c.args.byte address
    ∙ c.requires.held address low high
