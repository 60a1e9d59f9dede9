use Rattle.std.proofs.Common.{◌++◌, take}
use Rattle.om_io.proofs.Given.{Gives-more}
use Rattle.om_io.proofs.source.read_all.Goals as goal

pub returns-in_err-extend_from_slice-clause-taken :
    goal.returns-in_err-extend_from_slice-clause-taken
returns-in_err-extend_from_slice-clause-taken g c =
    let came = take c.in_ok-count.count c.read.new.buf in
    (c.loop-buffer.bytes.items ++ came, Gives-more _ (g.S.Source.left c.loop-buffer.source) _ c.loop-buffer.bytes.items came c.loop-buffer.invariant.given c.in_ok-count.ensures.given)
