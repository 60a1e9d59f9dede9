use Rattle.std.proofs.Common.{◌≡◌, ◌+◌, ap, ◌∙◌}
use Rattle.om_model.specs.Output.Head.{rules_of}
use Rattle.om_model.specs.Pool.Rules.{word_at}
use Rattle.om_model.proofs.Lists.{range_next}
use Rattle.om_model.proofs.slow.rules.words_from.Goals as goal

pub loop-k-preserved : goal.loop-k-preserved
loop-k-preserved c =
    let pool_rules = rules_of c.args.head.now c.args.pool in
    let i = c.args.i in
    let k = c.loop-k.k in
    let last : c.word_at.result ≡ word_at pool_rules (i + k) = c.word_at.ensures ∙ ap (λ n. word_at pool_rules (i + n)) c.from.ensures in
    range_next (word_at pool_rules) i k c.loop-k.words.items _ c.word_at.result c.in_ok-push.ensures.items c.loop-k.invariant last
