use Rattle.std.proofs.Common.{true, false, sym, ◌∙◌, inr}
use Rattle.omalloc.proofs.Answers.{IsRan, tells-run, part-written, front-written}
use Rattle.omalloc.proofs.call.write_run.Goals as goal

pub returns-in-Ok-write_output : goal.returns-in-Ok-write_output
returns-in-Ok-write_output g c =
    let is : IsRan c.args.head.now c.args.script.now c.in-Ok.ran.pool c.in-Ok.ran.transcript true c.name.result.now = record {
      head_form = c.requires.head;
      script_form = c.requires.script;
      ran = c.in-Ok.ensures.ran;
      run = c.in-Ok-write_output.ensures.run;
      numbers = c.in-Ok-write_output.ensures.numbers;
      faulted_is = sym c.if-ran.true ∙ c.in-Ok.ensures.faulted;
      named = c.name.ensures;
    } in
    (_, tells-run _ _ _ _ _ _ is, c.in-Ok-write_output.ensures.written)

pub returns-in-Ok-2 : goal.returns-in-Ok-2
returns-in-Ok-2 g c =
    let is : IsRan c.args.head.now c.args.script.now c.in-Ok.ran.pool c.in-Ok.ran.transcript false c.name.result.now = record {
      head_form = c.requires.head;
      script_form = c.requires.script;
      ran = c.in-Ok.ensures.ran;
      run = c.in-Ok-2.ensures.run;
      numbers = c.in-Ok-2.ensures.numbers;
      faulted_is = sym c.if-ran.false ∙ c.in-Ok.ensures.faulted;
      named = c.name.ensures;
    } in
    (_, tells-run _ _ _ _ _ _ is, c.in-Ok-2.ensures.written)

pub returns-in-Err-Failed : goal.returns-in-Err-Failed
returns-in-Err-Failed g c =
    let is : IsRan c.args.head.now c.args.script.now c.in-Ok.ran.pool c.in-Ok.ran.transcript c.in-Ok.ran.faulted c.name.result.now = record {
      head_form = c.requires.head;
      script_form = c.requires.script;
      ran = c.in-Ok.ensures.ran;
      run = c.in-Err-Failed.ensures.run;
      numbers = c.in-Err-Failed.ensures.numbers;
      faulted_is = c.in-Ok.ensures.faulted;
      named = c.name.ensures;
    } in
    (_, _, tells-run _ _ _ _ _ _ is, part-written g.K.Sink.written g.K.Sink.faults c.args.sink.now c.write_output.new.sink _ _ c.in-Err-Failed.field-0-is c.in-Err-Failed.ensures.written)

pub returns : goal.returns
returns g c =
    let is : IsRan c.args.head.now c.args.script.now c.in-Ok.ran.pool c.in-Ok.ran.transcript c.in-Ok.ran.faulted c.name.result.now = record {
      head_form = c.requires.head;
      script_form = c.requires.script;
      ran = c.in-Ok.ensures.ran;
      run = c.in-Err-Memory.ensures.run;
      numbers = c.in-Err-Memory.ensures.numbers;
      faulted_is = c.in-Ok.ensures.faulted;
      named = c.name.ensures;
    } in
    inr (_, _, tells-run _ _ _ _ _ _ is, front-written g.K.Sink.written g.K.Sink.faults c.args.sink.now c.write_output.new.sink _ _ c.in-Err-Memory.field-0-is c.in-Err-Memory.ensures.written)
