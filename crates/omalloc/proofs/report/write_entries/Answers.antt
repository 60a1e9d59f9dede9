use Rattle.std.proofs.Common.{◌≡◌, ◌∙◌, Some, sym, ap, arith, rules}
use Rattle.std.specs.List.{slice_get}
use Rattle.std.proofs.lemmas.Option.{slice_get-get_or}
use Rattle.om_model.specs.Output.Text.{entry_line}
use Rattle.omalloc.proofs.ReportText.{Adds-next, Adds-stopped}
use Rattle.omalloc.proofs.report.write_entries.Goals as goal

pub returns-in_err-write_entry : goal.returns-in_err-write_entry
returns-in_err-write_entry g c =
    let i = c.loop-entry.entry-index in
    let entry = c.entry-item.result in
    let at : slice_get c.as_slice-entry-items.result.now i ≡ Some entry = slice_get-get_or c.as_slice-entry-items.result.now i entry (omega arith) ∙ ap Some (sym c.entry-item.is) in
    let here = ap (λ es. slice_get es i) (sym c.as_slice-entry-items.ensures.items) ∙ at in
    let t = Adds-stopped g.K.Sink.written g.K.Sink.faults c.args.out.now c.loop-entry.out c.write_entry.new.out entry_line c.args.journal.now.items i entry _ here c.loop-entry.invariant c.in_err-write_entry.ensures in
    search rules

pub loop-entry-preserved : goal.loop-entry-preserved
loop-entry-preserved g c =
    let i = c.loop-entry.entry-index in
    let entry = c.entry-item.result in
    let at : slice_get c.as_slice-entry-items.result.now i ≡ Some entry = slice_get-get_or c.as_slice-entry-items.result.now i entry (omega arith) ∙ ap Some (sym c.entry-item.is) in
    let here = ap (λ es. slice_get es i) (sym c.as_slice-entry-items.ensures.items) ∙ at in
    Adds-next g.K.Sink.written g.K.Sink.faults c.args.out.now c.loop-entry.out c.write_entry.new.out entry_line c.args.journal.now.items i entry here c.loop-entry.invariant c.in_ok-write_entry.ensures
