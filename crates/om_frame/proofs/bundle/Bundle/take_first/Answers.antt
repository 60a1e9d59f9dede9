use Rattle.std.proofs.Common.{◌≡◌, true, get_or, sym, ap, ◌∙◌}
use Rattle.std.specs.Prelude.{is_some}
use Rattle.om_frame.proofs.Rows.{row_rest}
use Rattle.om_frame.proofs.bundle.Bundle.take_first.Goals as goal

pub invariant_of-self : goal.invariant_of-self
invariant_of-self c =
    let some : is_some (get_or c.self.inside.frames 0 c.index-self-0.result) ≡ true = ap is_some (sym c.take-first.ensures.value) ∙ sym c.is_some.ensures ∙ c.if-is_some.true in
    rw (c.rotate_left.ensures.after, c.take-first.ensures.after) (row_rest c.self.inside.frames c.self.inside.len c.args.self.now c.index-self-0.result c.self.invariant c.self.view_is some).0

pub returns-then-is_some-clause-rest : goal.returns-then-is_some-clause-rest
returns-then-is_some-clause-rest c =
    let some : is_some (get_or c.self.inside.frames 0 c.index-self-0.result) ≡ true = ap is_some (sym c.take-first.ensures.value) ∙ sym c.is_some.ensures ∙ c.if-is_some.true in
    rw (c.rotate_left.ensures.after, c.take-first.ensures.after) (row_rest c.self.inside.frames c.self.inside.len c.args.self.now c.index-self-0.result c.self.invariant c.self.view_is some).1
