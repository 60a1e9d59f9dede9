use Rattle.std.proofs.Common.{◌≡◌}
use Rattle.om_words.specs.DrawnWords.{seeded}
use Rattle.om_model.proofs.slow.rules.seeded_word.Given as goal

abbrev pub invariant-loop : goal.invariant-loop
invariant-loop l = record { source : l.words.source ≡ seeded l.seed l.pool; place : l.words.place ≡ l.counter }
