use Rattle.std.proofs.Common.{List, ℕ, ap, ◌∙◌}
use Rattle.om_frame.specs.Memory.{is_held_at}
use Rattle.om_frame.specs.MemoryLaws.{is_held_at-copied}
use Rattle.om_frame.proofs.tests.copy.Goals as goal

pub returns : goal.returns
returns c address low high =
    ap (λ (m : List (List ℕ)). is_held_at m address) c.copy.ensures
    ∙ is_held_at-copied c.args.shelf.now c.args.from c.args.to c.args.len address
    ∙ c.requires.held address low high
