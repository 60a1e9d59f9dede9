use Rattle.std.proofs.Common.{rules, subst}
use Rattle.om_io.specs.Buffered.{Adds}
use Rattle.om_io.specs.BufferedLaws.{Adds-both}
use Rattle.om_model.specs.Output.Text.{text_of}
use Rattle.omalloc.specs.Report.{content, front_of, back_of}
use Rattle.omalloc.proofs.ReportText.{Adds-first, whole_text}
use Rattle.omalloc.proofs.report.write_text.Goals as goal

pub returns-in_err-write_front : goal.returns-in_err-write_front
returns-in_err-write_front g c =
    let head = c.args.head.now in
    let entries = c.args.pool.now.journal.items in
    let name = c.args.name.now in
    let outcomes = c.args.transcript.now in
    let t = Adds-first g.K.Sink.written g.K.Sink.faults c.args.out.now c.write_front.new.out (front_of head entries) (back_of name outcomes) (text_of (content head entries name outcomes)) _ (whole_text head entries name outcomes) c.in_err-write_front.ensures in
    search rules

pub returns : goal.returns
returns g c =
    let head = c.args.head.now in
    let entries = c.args.pool.now.journal.items in
    let name = c.args.name.now in
    let outcomes = c.args.transcript.now in
    subst (λ text. Adds g.K.Sink.written g.K.Sink.faults c.args.out.now c.write_back.new.out text c.write_back.result) (whole_text head entries name outcomes)
    (Adds-both g.K.Sink.written g.K.Sink.faults c.args.out.now c.write_front.new.out c.write_back.new.out (front_of head entries) (back_of name outcomes) c.write_back.result c.in_ok-write_front.ensures c.write_back.ensures)
