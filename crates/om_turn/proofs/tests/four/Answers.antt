use Rattle.std.proofs.Common.{◌/◌, arith}
use Rattle.om_turn.proofs.Shares.{rejoined}
use Rattle.om_turn.proofs.tests.four.Goals as goal

pub returns : goal.returns
returns g c =
    let s = c.split-other in let t = c.join-pass in let p = c.requires.pass in
    rejoined c.args.lock.now c.args.pass s.new.pass s.result t.result.0.0 t.result.1.0 c.join.new.pass s.ensures.handed.0 (c.left-half.result / 2) (omega arith) s.ensures.kept s.ensures.handed.1 t.ensures.first t.ensures.second c.join.ensures.lock c.join.ensures.view
