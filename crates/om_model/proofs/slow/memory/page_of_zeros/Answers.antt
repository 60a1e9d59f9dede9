use Rattle.std.proofs.Common.{List, ℕ, ap, ◌∙◌, take, replicate, ◌++◌, ◌-◌}
use Rattle.om_frame.specs.Frames.{zeros}
use Rattle.om_model.proofs.slow.memory.page_of_zeros.Goals as goal

pub returns : goal.returns
unfolding zeros
returns c =
    c.in_ok-resize.ensures.items
    ∙ ap (λ (bytes : List ℕ). take 4096 bytes ++ replicate (4096 - c.new-bytes.result.len) 0) c.new-bytes.ensures.items
    ∙ ap (λ (n : ℕ). replicate (4096 - n) 0) c.new-bytes.ensures.len
