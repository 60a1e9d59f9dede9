use Rattle.std.proofs.Common.{rules, codes}
use Rattle.om_io.specs.BufferedLaws.{Adds-both, Adds-longer}
use Rattle.om_io.proofs.tests.buffered.write_two.Goals as goal

pub returns-in_err-write_word : goal.returns-in_err-write_word
returns-in_err-write_word g c =
    let t = Adds-longer g.K.Sink.written g.K.Sink.faults c.args.out.now c.write_word.new.out (codes "word") (codes "word") _ c.in_err-write_word.ensures in
    search rules

pub returns : goal.returns
returns g c =
    Adds-both g.K.Sink.written g.K.Sink.faults c.args.out.now c.write_word.new.out c.write_word-2.new.out (codes "word") (codes "word") c.write_word-2.result c.in_ok-write_word.ensures c.write_word-2.ensures
