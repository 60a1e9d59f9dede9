use Rattle.std.proofs.Common.{◌≡◌, ◌+◌, count_by, sym, subst, arith, ◌∙◌}
use mathlib.Core.Logic.{⊎_elim}
use Rattle.std.proofs.lemmas.Bool.{cases_eq}
use Rattle.om_model.specs.Zones.Order.{is_at}
use Rattle.om_model.proofs.slow.order.is_numbered.Goals as goal

pub loop-i-preserved : goal.loop-i-preserved
loop-i-preserved c = λ version low high.
    let here : count_by (is_at c.args.zone (c.loop-i.i + 1)) c.args.moves.now ≡ 1 = sym c.count_at.ensures ∙ c.if-count_at-ne1.false in
    ⊎_elim
    (λ e. subst (λ v. count_by (is_at c.args.zone v) c.args.moves.now ≡ 1) (sym e) here)
    (λ ne. c.loop-i.invariant version low (omega arith))
    (cases_eq version (c.loop-i.i + 1))
