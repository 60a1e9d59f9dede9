use Rattle.std.proofs.Common.{◌≡◌}
use Rattle.om_model.specs.Output.Head.{rules_of}
use Rattle.om_model.specs.Pool.Rules.{words_from}
use Rattle.om_model.proofs.slow.rules.words_from.Given as goal

abbrev pub invariant-loop-k : goal.invariant-loop-k
invariant-loop-k l = l.words.items ≡ words_from (rules_of l.head l.pool) l.i l.k
