use Rattle.std.proofs.Common.{rules, codes, ◌++◌}
use Rattle.om_io.specs.BufferedLaws.{Writes-flushed}
use Rattle.om_io.proofs.tests.buffered.write_text.Goals as goal

pub returns : goal.returns
returns g c =
    let t = Writes-flushed g.K.Sink.written g.K.Sink.faults c.new-out.result c.write_two.new.out c.flush.new.self (codes "word" ++ codes "word") c.flush.result (search rules) c.in_ok-write_two.ensures c.flush.ensures.added c.flush.ensures.all in
    search rules
