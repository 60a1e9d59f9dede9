use Rattle.std.proofs.Common.{◌≡◌, take}
use Rattle.om_model.specs.Output.Head.{rules_of}
use Rattle.om_model.specs.Pool.Journal.{state_from, IsLawfulFrom}
use Rattle.om_model.proofs.slow.state.State.follow_all.Given as goal

-- the entries so far are lawful, and lead to this state
abbrev pub invariant-loop-entry : goal.invariant-loop-entry
invariant-loop-entry l = record {
  lawful : IsLawfulFrom (rules_of l.head l.pool) l.self (take l.entry-index l.journal.items);
  next : l.state ≡ state_from (rules_of l.head l.pool) l.self (take l.entry-index l.journal.items);
}
