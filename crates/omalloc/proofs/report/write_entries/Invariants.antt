use Rattle.std.proofs.Common.{take, Ok}
use Rattle.std.specs.List.{flat_map}
use Rattle.om_io.specs.Buffered.{Adds}
use Rattle.om_model.specs.Output.Text.{entry_line}
use Rattle.omalloc.proofs.report.write_entries.Given as goal

abbrev pub invariant-loop-entry : goal.invariant-loop-entry
invariant-loop-entry g l = Adds g.K.Sink.written g.K.Sink.faults l.initial.out l.out (flat_map entry_line (take l.entry-index l.journal.items)) (Ok tt)
