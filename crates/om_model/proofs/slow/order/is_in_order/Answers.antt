use Rattle.om_model.proofs.slow.order.is_in_order.Goals as goal

pub returns-then-is_numbered : goal.returns-then-is_numbered
returns-then-is_numbered c = (
  (λ is. (c.is_numbered.ensures.0 c.if-is_numbered.true, c.is_lawful_move.ensures.0 is)),
  (λ order. c.is_lawful_move.ensures.1 order.1),
)
