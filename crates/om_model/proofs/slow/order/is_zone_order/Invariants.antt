use Rattle.std.proofs.Common.{take}
use Rattle.std.specs.List.{AllByRecursion}
use Rattle.om_model.proofs.OrderedMoves.{IsInOrder}
use Rattle.om_model.proofs.slow.order.is_zone_order.Given as goal

abbrev pub invariant-loop-m : goal.invariant-loop-m
invariant-loop-m l = AllByRecursion (IsInOrder l.moves) (take l.m-index l.moves)
