use Rattle.std.proofs.Common.{List, ℕ, ap, replicate, ◌∙◌}
use Rattle.om_frame.specs.Frames.{zeros}
use Rattle.om_frame.proofs.frame.Frame.zero.Goals as goal

pub returns : goal.returns
unfolding zeros
returns c = rw (← c.self.view_is) (ap (λ (bytes : List ℕ). record { page = c.self.inside.page.0; bytes = bytes }) (c.fill.ensures.items (λ y same. same) ∙ ap (λ (n : ℕ). replicate n 0) (c.self.inside.block.ok.0 ∙ c.self.invariant)))
