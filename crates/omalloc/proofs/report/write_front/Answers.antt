use Rattle.std.proofs.Common.{rules, ◌++◌, subst}
use Rattle.std.specs.List.{flat_map}
use Rattle.om_io.specs.Buffered.{Adds}
use Rattle.om_model.specs.Data.Room.{Entries}
use Rattle.om_model.specs.Output.Text.{head_lines, ended_line, entry_line}
use Rattle.omalloc.specs.Report.{front_of, title_of}
use Rattle.omalloc.proofs.ReportText.{Adds-first, Adds-second, Adds-three, front_text}
use Rattle.omalloc.proofs.report.write_front.Goals as goal

pub returns-in_err-write_head : goal.returns-in_err-write_head
returns-in_err-write_head g c =
    let head = flat_map ended_line (head_lines c.args.head.now) in
    let entries = c.args.pool.now.journal.items in
    let rest = title_of c.args.head.now entries ++ flat_map entry_line entries in
    let t = Adds-first g.K.Sink.written g.K.Sink.faults c.args.out.now c.write_head.new.out head rest (front_of c.args.head.now entries) _ (front_text c.args.head.now entries) c.in_err-write_head.ensures in
    search rules

pub returns-in_err-write_title : goal.returns-in_err-write_title
returns-in_err-write_title g c =
    let head = flat_map ended_line (head_lines c.args.head.now) in
    let entries = c.args.pool.now.journal.items in
    let title = title_of c.args.head.now entries in
    let t = Adds-second g.K.Sink.written g.K.Sink.faults c.args.out.now c.write_head.new.out c.write_title.new.out head title (flat_map entry_line entries) (front_of c.args.head.now entries) _ (front_text c.args.head.now entries) c.in_ok-write_head.ensures c.in_err-write_title.ensures in
    search rules

pub returns : goal.returns
returns g c =
    let head = flat_map ended_line (head_lines c.args.head.now) in
    let entries = c.args.pool.now.journal.items in
    let title = title_of c.args.head.now entries in
    let three = subst (λ (j : Entries). Adds g.K.Sink.written g.K.Sink.faults c.write_title.new.out c.write_entries.new.out (flat_map entry_line j.items) c.write_entries.result) c.journal.ensures.journal c.write_entries.ensures in
    Adds-three g.K.Sink.written g.K.Sink.faults c.args.out.now c.write_head.new.out c.write_title.new.out c.write_entries.new.out head title (flat_map entry_line entries) (front_of c.args.head.now entries) c.write_entries.result (front_text c.args.head.now entries) c.in_ok-write_head.ensures c.in_ok-write_title.ensures three
