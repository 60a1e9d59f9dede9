use Rattle.std.proofs.Common.{◌↔◌, IsTrue, sym, subst}
use Rattle.om_model.specs.Output.Head.{rules_of}
use Rattle.om_model.specs.Pool.Journal.{IsLawfulFrom}
use Rattle.om_model.specs.Pool.State.{State}
use Rattle.om_model.proofs.slow.journal.are_lawful.Goals as goal

pub returns : goal.returns
returns c =
    let Lawful : State → Type 0 = λ state. IsLawfulFrom (rules_of c.args.head.now c.args.pool) state c.args.journal.now.items in
    subst (λ state. IsTrue c.is_some.result ↔ Lawful state) c.in_ok-opening.ensures
    (subst (λ some. IsTrue some ↔ Lawful c.in_ok-opening.opening) (sym c.is_some.ensures) c.in_ok-last.ensures.lawful)
