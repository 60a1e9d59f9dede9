-- What one letter more gives.
use Rattle.std.proofs.Common.{◌≡◌, ℕ, ◌+◌, ◌<◌, not, List, [], ◌∷◌, ◌++◌, cond, length, take, get_or, arith}
use Rattle.std.proofs.lemmas.List.{append-nil}
use Rattle.std.proofs.lemmas.List.Sums.{fold_more}
use Rattle.std.proofs.lemmas.List.Elements.{filter_more}
use Rattle.om_opts.specs.Letters.{start, effect, has_effect, opt_of, warned_of}
use Rattle.om_opts.specs.LetterLaws.{effect-within}

pub opts_step : (letters : List ℕ) (i : ℕ) → i < length letters → opt_of (take (i + 1) letters) ≡ effect (get_or letters i 0) (opt_of (take i letters))
opts_step letters i lt = fold_more (λ opts byte. effect byte opts) start letters i 0 lt

pub warned_step : (letters : List ℕ) (i : ℕ) → i < length letters → warned_of (take (i + 1) letters) ≡ warned_of (take i letters) ++ cond (not (has_effect (get_or letters i 0))) (get_or letters i 0 ∷ []) []
warned_step letters i lt = filter_more (λ byte. not (has_effect byte)) letters i 0 lt

pub ruleset letter_steps = (opts_step, warned_step, effect-within, append-nil)
