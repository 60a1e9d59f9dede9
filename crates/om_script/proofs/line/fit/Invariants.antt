use Rattle.std.proofs.Common.{◌≡◌, drop}
use Rattle.om_script.specs.Lines.{words_in}
use Rattle.om_script.specs.Keywords.{fit}
use Rattle.om_script.proofs.line.fit.Given as goal

-- what is left fits exactly where all does
abbrev pub invariant-loop-kind : goal.invariant-loop-kind
invariant-loop-kind l = fit (drop l.kind-index l.kinds) (words_in l.rest) ≡ fit l.kinds (words_in l.words)
