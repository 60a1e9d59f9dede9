use Rattle.std.proofs.Common.{ℕ, List, ap, ◌∙◌}
use Rattle.om_frame.specs.Memory.{is_held_at}
use Rattle.om_frame.specs.MemoryLaws.{is_held_at-filled}
use Rattle.om_pool.proofs.holdings.Holdings.fill.Goals as goal

pub returns-clause-held : goal.returns-clause-held
returns-clause-held c address = ap (λ (m : List (List ℕ)). is_held_at m address) c.fill.ensures ∙ is_held_at-filled c.args.self.now.shelf c.args.at.0 c.args.len c.args.byte address
