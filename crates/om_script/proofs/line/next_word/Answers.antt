use Rattle.std.proofs.Common.{◌≡◌, ◌<◌, ◌∙◌, [], ◌∷◌, ap, sym, length, arith, rules}
use Rattle.std.proofs.lemmas.Bool.Decides.{nat_tests}
use Rattle.om_script.specs.Lines.{words_in}
use Rattle.om_script.proofs.Cuts.{word_found, word_whole}
use Rattle.om_script.proofs.line.next_word.Goals as goal

pub returns-in-None-clause-words : goal.returns-in-None-clause-words
returns-in-None-clause-words c =
    let some : 0 < length c.behind_blanks-text.result.now = grind (arith, nat_tests) in
    let nothing : [] ≡ c.as_slice.result.now = search rules in
    sym c.behind_blanks-text.ensures.words
    ∙ word_whole c.behind_blanks-text.result.now (sym c.in-None.is ∙ c.first_blank.ensures) some
    ∙ ap (λ rest. c.behind_blanks-text.result.now ∷ words_in rest) nothing

pub returns-in-Some-clause-words : goal.returns-in-Some-clause-words
returns-in-Some-clause-words c =
    sym c.behind_blanks-text.ensures.words
    ∙ word_found c.behind_blanks-text.result.now c.in-Some.i c.behind_blanks-text.ensures.front (sym c.in-Some.is ∙ c.first_blank.ensures)
