use Rattle.std.proofs.Common.{◌≡◌, ◌++◌, map, take}
use Rattle.om_model.specs.Zones.Looks.{named_by_look}
use Rattle.om_model.proofs.slow.looks.push_looks.Given as goal

abbrev pub invariant-loop-look : goal.invariant-loop-look
invariant-loop-look l = l.named.items ≡ l.initial.named.items ++ map named_by_look (take l.look-index l.looks)
