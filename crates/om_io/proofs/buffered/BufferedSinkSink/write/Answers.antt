use Rattle.std.proofs.Common.{sym, ◌∙◌, ap}
use Rattle.std.proofs.Math.Seq.{take-length}
use Rattle.om_io.specs.Sink.{followed}
use Rattle.om_io.specs.BufferedLaws.{followed-followed, HandsOn-followed}
use Rattle.om_io.proofs.buffered.BufferedSinkSink.write.Goals as goal

pub returns-clause-added : goal.returns-clause-added
returns-clause-added g c =
    let before = g.K.Sink.written c.args.self.now.sink.now in
    let taken = g.K.Sink.written c.settle.new.self.sink.now in
    let piece = c.args.piece.now in
    ap (followed taken) c.in_ok-extend_from_slice.ensures.items
    ∙ sym (followed-followed taken c.settle.new.self.waiting.now.items piece)
    ∙ ap (λ written. followed written piece) (HandsOn-followed before taken _ _ c.settle.ensures.kept)
    ∙ ap (followed (followed before c.args.self.now.waiting.now.items)) (sym (take-length piece))
