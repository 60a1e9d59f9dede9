use Rattle.std.proofs.Common.{rules, ◌++◌}
use Rattle.std.specs.List.{flat_map, enumerate_from}
use Rattle.om_model.specs.Output.Text.{numbered_line}
use Rattle.omalloc.specs.Report.{back_of, titles_of, end_of}
use Rattle.omalloc.proofs.ReportText.{Adds-first, Adds-second, Adds-three, back_text}
use Rattle.omalloc.proofs.report.write_back.Goals as goal

pub returns-in_err-write_titles : goal.returns-in_err-write_titles
returns-in_err-write_titles g c =
    let name = c.args.name.now in
    let outcomes = c.args.transcript.now in
    let lines = flat_map numbered_line (enumerate_from 1 outcomes) in
    let t = Adds-first g.K.Sink.written g.K.Sink.faults c.args.out.now c.write_titles.new.out (titles_of name) (lines ++ end_of outcomes) (back_of name outcomes) _ (back_text name outcomes) c.in_err-write_titles.ensures in
    search rules

pub returns-in_err-write_outcomes : goal.returns-in_err-write_outcomes
returns-in_err-write_outcomes g c =
    let name = c.args.name.now in
    let outcomes = c.args.transcript.now in
    let lines = flat_map numbered_line (enumerate_from 1 outcomes) in
    let t = Adds-second g.K.Sink.written g.K.Sink.faults c.args.out.now c.write_titles.new.out c.write_outcomes.new.out (titles_of name) lines (end_of outcomes) (back_of name outcomes) _ (back_text name outcomes) c.in_ok-write_titles.ensures c.in_err-write_outcomes.ensures in
    search rules

pub returns : goal.returns
returns g c =
    let name = c.args.name.now in
    let outcomes = c.args.transcript.now in
    let lines = flat_map numbered_line (enumerate_from 1 outcomes) in
    Adds-three g.K.Sink.written g.K.Sink.faults c.args.out.now c.write_titles.new.out c.write_outcomes.new.out c.write_end.new.out (titles_of name) lines (end_of outcomes) (back_of name outcomes) c.write_end.result (back_text name outcomes) c.in_ok-write_titles.ensures c.in_ok-write_outcomes.ensures c.write_end.ensures
