use Rattle.std.proofs.Common.{List, ℕ, ap, ◌∙◌, take, replicate, ◌++◌, ◌-◌}
use Rattle.om_geom.specs.Numbers.{page_size}
use Rattle.om_frame.specs.Frames.{zeros}
use Rattle.om_frame.proofs.frame.Frame.zeroed.Goals as goal

pub returns : goal.returns
unfolding zeros
returns c = ap (λ (bytes : List ℕ). record { page = c.args.page.0; bytes = bytes })
    (c.in_ok-resize.ensures.items
    ∙ ap (λ (bytes : List ℕ). take page_size bytes ++ replicate (page_size - c.in_ok-block.block.len) 0) c.in_ok-block.ensures.items
    ∙ ap (λ (n : ℕ). replicate (page_size - n) 0) c.in_ok-block.ensures.len)
