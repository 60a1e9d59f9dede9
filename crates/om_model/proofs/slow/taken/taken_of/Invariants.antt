use Rattle.std.proofs.Common.{◌≡◌, take}
use Rattle.om_model.specs.Output.Head.{rules_of}
use Rattle.om_model.specs.Pool.Journal.{state_of, IsLawfulFrom}
use Rattle.om_model.specs.Pool.State.{opening}
use Rattle.om_model.specs.Pool.Taken.{taken_of}
use Rattle.om_model.proofs.slow.taken.taken_of.Given as goal

-- the entries so far are lawful, have these looks, and lead to this state
abbrev pub invariant-loop-entry : goal.invariant-loop-entry
invariant-loop-entry l = record {
  lawful : IsLawfulFrom (rules_of l.head l.pool) (opening (rules_of l.head l.pool)) (take l.entry-index l.journal.items);
  taken : l.taken.items ≡ taken_of (rules_of l.head l.pool) (take l.entry-index l.journal.items);
  next : l.state ≡ state_of (rules_of l.head l.pool) (take l.entry-index l.journal.items);
}
