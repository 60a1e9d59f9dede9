use Rattle.std.proofs.Common.{[], ◌∷◌, take, refl, ◌∙◌, sym, subst}
use Rattle.std.specs.List.{AllByRecursion}
use Rattle.std.proofs.lemmas.List.{take_all}
use Rattle.std.proofs.lemmas.Option.{slice_get-get_or}
use Rattle.om_model.proofs.Each.{all-append}
use Rattle.om_model.proofs.Lists.{take_next}
use Rattle.om_model.proofs.OrderedMoves.{IsInOrder, from-each, at-each}
use Rattle.om_model.proofs.slow.order.is_zone_order.Goals as goal

pub returns-then-not-is_in_order : goal.returns-then-not-is_in_order
returns-then-not-is_in_order c =
    let moves = c.args.moves.now in
    let i = c.loop-m.m-index in (
      (λ is. cc),
      (λ order.
          let is = c.is_in_order.ensures.1 (at-each moves i _ (slice_get-get_or moves i _ c.loop-m-test.true) order) in
          sym c.if-not-is_in_order.true ∙ is),
    )

pub loop-m-preserved : goal.loop-m-preserved
loop-m-preserved c =
    let moves = c.args.moves.now in
    let i = c.loop-m.m-index in
    let here = c.is_in_order.ensures.0 c.if-not-is_in_order.false in
    subst (AllByRecursion (IsInOrder moves)) (sym (take_next moves i _ (slice_get-get_or moves i _ c.loop-m-test.true)))
    (all-append (IsInOrder moves) (take i moves) (_ ∷ []) c.loop-m.invariant (here, tt))

pub returns : goal.returns
returns c =
    let moves = c.args.moves.now in (
      (λ is. from-each moves (subst (AllByRecursion (IsInOrder moves)) (take_all c.loop-m.m-index moves c.loop-m-test.false) c.loop-m.invariant)),
      (λ order. refl),
    )
