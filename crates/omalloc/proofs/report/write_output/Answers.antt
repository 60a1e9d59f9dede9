use Rattle.std.proofs.Common.{rules}
use Rattle.om_io.specs.BufferedLaws.{Writes-flushed}
use Rattle.om_model.specs.Output.Text.{text_of}
use Rattle.omalloc.specs.Report.{content}
use Rattle.omalloc.proofs.report.write_output.Goals as goal

pub returns-clause-written : goal.returns-clause-written
returns-clause-written g c =
    let text = text_of (content c.args.head.now c.args.pool.now.journal.items c.args.name.now c.args.transcript.now) in
    let t = Writes-flushed g.K.Sink.written g.K.Sink.faults c.new-out.result c.write_text.new.out c.flush.new.self text c.flush.result (search rules) c.in_ok-write_text.ensures c.flush.ensures.added c.flush.ensures.all in
    search rules
