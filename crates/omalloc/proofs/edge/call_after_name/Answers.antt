use Rattle.std.proofs.Common.{map, string_bytes, subst}
use Rattle.omalloc.specs.Answers.{IsAnswer, input_of, output_of}
use Rattle.omalloc.proofs.edge.call_after_name.Goals as goal

pub returns : goal.returns
returns g c =
    subst (λ arguments. IsAnswer (input_of g.S.Source.left g.S.Source.faults (map string_bytes arguments) c.args.source.now c.omalloc.new.source) (output_of g.K.Sink.written g.K.Sink.faults c.args.sink.now c.omalloc.new.sink) c.omalloc.result)
    c.after_name.ensures c.omalloc.ensures.answer
