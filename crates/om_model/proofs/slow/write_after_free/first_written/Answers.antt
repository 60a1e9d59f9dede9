use Rattle.std.proofs.Common.{arith, sym, ◌∙◌}
use Rattle.om_model.proofs.LateWrites.{none_left, some_at}
use Rattle.om_model.proofs.slow.write_after_free.first_written.Goals as goal

pub returns-then-is_some : goal.returns-then-is_some
returns-then-is_some c =
    some_at c.args.state.now.memory c.args.slots.now c.loop-slot.slot-index c.in_ok-found.found c.loop-slot-test.true c.in_ok-found.ensures (sym c.is_some.ensures ∙ c.if-is_some.true) ∙ c.loop-slot.invariant

pub returns : goal.returns
returns c =
    sym (none_left c.args.state.now.memory c.args.slots.now c.loop-slot.slot-index (omega (arith, c.loop-slot-test.false))) ∙ c.loop-slot.invariant
