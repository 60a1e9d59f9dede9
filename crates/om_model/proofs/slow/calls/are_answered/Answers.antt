use Rattle.std.proofs.Common.{◌<◌, length, sym, subst, arith}
use Rattle.om_model.specs.Scripts.Calls.{IsAnswered}
use Rattle.om_model.specs.Slow.{answered_in}
use Rattle.om_model.proofs.PlainCalls.{all-mapped}
use Rattle.om_model.proofs.slow.calls.are_answered.Goals as goal

pub returns-then-not-is_answered : goal.returns-then-not-is_answered
returns-then-not-is_answered c =
    let answered = c.args.answered.now in
    let i = c.loop-one.one-index in
    let one = c.one-item.result in
    let lt : i < length answered = omega arith in (
      (λ is. cc),
      (λ all. c.if-not-is_answered.ensures.1
          (subst (λ replies. IsAnswered c.args.pools one.call.op replies) (sym c.deref.ensures.value)
          (all-mapped (λ a. IsAnswered c.args.pools (a.0).op a.1) answered_in answered i one lt c.one-item.is all))),
    )
