use Rattle.std.proofs.Common.{◌≡◌, ◌+◌, ◌≤◌, length, vec_len, drop, replicate, false}
use Rattle.std.specs.List.{list_any}
use Rattle.om_model.specs.Output.Head.{rules_of}
use Rattle.om_model.specs.Scripts.Outcomes.{is_fault}
use Rattle.omalloc.specs.Run.{HasMoves}
use Rattle.omalloc.specs.ScriptRun.{run_from}
use Rattle.omalloc.proofs.ScriptRun.{IsPart}
use Rattle.omalloc.proofs.run.run_script.Given as goal

abbrev pub invariant-loop-i : goal.invariant-loop-i
invariant-loop-i g l = record {
  items : l.command-items ≡ l.script.commands;
  rules : l.pool.rules ≡ rules_of l.head 0;
  variables : vec_len l.values ≡ length l.script.names;
  outcomes : length l.transcript ≡ l.i;
  entries : length l.pool.journal.items ≤ l.i;
  moves : HasMoves l.pool;
  fine : list_any is_fault l.transcript ≡ false;
  part : IsPart (run_from 1 (replicate (length l.script.names) 0) l.script.commands) (run_from (l.i + 1) l.values.items (drop l.i l.command-items)) l.pool.journal.items l.transcript;
}
