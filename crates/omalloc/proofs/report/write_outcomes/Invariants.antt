use Rattle.std.proofs.Common.{take, Ok}
use Rattle.std.specs.List.{flat_map, enumerate_from}
use Rattle.om_io.specs.Buffered.{Adds}
use Rattle.om_model.specs.Output.Text.{numbered_line}
use Rattle.omalloc.proofs.report.write_outcomes.Given as goal

abbrev pub invariant-loop-i : goal.invariant-loop-i
invariant-loop-i g l = Adds g.K.Sink.written g.K.Sink.faults l.initial.out l.out (flat_map numbered_line (take l.i (enumerate_from 1 l.transcript))) (Ok tt)
