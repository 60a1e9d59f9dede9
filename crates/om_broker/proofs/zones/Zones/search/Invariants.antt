use Rattle.std.proofs.Common.{◌≡◌, ◌+◌, ◌≤◌, length}
use Rattle.om_broker.specs.Zones.{ArePassed}
use Rattle.om_broker.proofs.zones.Zones.search.Given as goal

abbrev pub invariant-loop-i : goal.invariant-loop-i
invariant-loop-i l = record {
  many : length l.looks.items ≡ l.i;
  passed : ArePassed l.self l.n l.word l.looks.items;
  spare : l.fn.looks.spare ≤ l.looks.spare + l.i;
}
