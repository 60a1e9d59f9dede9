use Rattle.std.proofs.Common.{◌≡◌, ◌∷◌, [], ◌++◌, ◌∙◌, ap, arith}
use Rattle.std.specs.Fmt.{decimal}
use Rattle.om_model.proofs.Titles.{listed_next}
use Rattle.om_model.proofs.text.titles.push_listed.Goals as goal

pub loop-i-preserved : goal.loop-i-preserved
loop-i-preserved c =
    let word : c.from-in-loop-i.result ≡ c.word-in-loop-i.result = c.from-in-loop-i.ensures in
    c.in_ok-push_decimal-2.ensures
    ∙ ap (λ text. text ++ decimal c.from-in-loop-i.result) (c.in_ok-push.ensures.items ∙ ap (λ text. text ++ 44 ∷ []) c.loop-i.invariant)
    ∙ listed_next c.args.out.now.items c.args.list.now c.loop-i.i c.from-in-loop-i.result (omega arith) (omega arith) (word ∙ c.word-in-loop-i.ensures)
