use Rattle.std.proofs.Common.{map, string_bytes, drop, subst, sym, IfOk}
use Rattle.omalloc.specs.Answers.{IsAnswer, input_of, output_of}
use Rattle.omalloc.proofs.edge.call_with.Goals as goal

pub returns-in-Ok-clause-called : goal.returns-in-Ok-clause-called
returns-in-Ok-clause-called g c =
    let called = subst (λ all. IsAnswer (input_of g.S.Source.left g.S.Source.faults (map string_bytes (drop 1 all)) c.args.source.now c.call_after_name.new.source) (output_of g.K.Sink.written g.K.Sink.faults c.args.sink.now c.call_after_name.new.sink) c.call_after_name.result)
    c.as_slice.ensures.value c.call_after_name.ensures in
    subst (λ all. IfOk all (λ given. IsAnswer (input_of g.S.Source.left g.S.Source.faults (map string_bytes (drop 1 given.items)) c.args.source.now c.call_after_name.new.source) (output_of g.K.Sink.written g.K.Sink.faults c.args.sink.now c.call_after_name.new.sink) c.call_after_name.result))
    (sym c.in-Ok.is) called
