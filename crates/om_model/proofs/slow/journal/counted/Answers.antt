use Rattle.std.proofs.Common.{◌≡◌, ◌+◌, ◌++◌, ◌∷◌, [], ap, ◌∙◌, sym, arith}
use Rattle.std.specs.List.{range_with_len}
use Rattle.om_model.proofs.PlainCalls.{range-more}
use Rattle.om_model.proofs.slow.journal.counted.Goals as goal

pub loop-i-preserved : goal.loop-i-preserved
loop-i-preserved c =
    let i = c.loop-i.i in
    let last : i + 1 ≡ 1 + i = omega arith in
    c.in_ok-push.ensures.items ∙ ap (λ numbers. numbers ++ (i + 1) ∷ []) c.loop-i.invariant
    ∙ ap (λ k. range_with_len 1 i ++ k ∷ []) last ∙ sym (range-more 1 i)
