use Rattle.om_pool.proofs.CopyLaws.{copies, copy-apart, copy-source, copy-target}
use Rattle.om_pool.proofs.pool_core.Core.place_copy.Goals as goal

pub copy-requires-clause-source : goal.copy-requires-clause-source
copy-requires-clause-source g c =
    let come = c.requires.come in
    copy-source g.B.Broker c.args.self.now c.place_block-placing.new.self c.args.broker.now c.place_block-placing.new.broker come.0 c.args.block c.args.size c.args.site c.args.words c.place_block-placing.result
    (c.place_block-placing.ensures.placed come.0 come.1) come.2 c.in-Some.to c.in-Some.is c.min-len.result c.min-len.ensures

pub copy-requires-clause-target : goal.copy-requires-clause-target
copy-requires-clause-target g c =
    let come = c.requires.come in
    copy-target g.B.Broker c.args.self.now c.place_block-placing.new.self c.args.broker.now c.place_block-placing.new.broker come.0 c.args.block c.args.size c.args.site c.args.words c.place_block-placing.result
    (c.place_block-placing.ensures.placed come.0 come.1) come.2 c.in-Some.to c.in-Some.is c.min-len.result c.min-len.ensures

pub copy-requires-clause-apart : goal.copy-requires-clause-apart
copy-requires-clause-apart g c =
    let come = c.requires.come in
    copy-apart g.B.Broker c.args.self.now c.place_block-placing.new.self c.args.broker.now c.place_block-placing.new.broker come.0 c.args.block c.args.size c.args.site c.args.words c.place_block-placing.result
    (c.place_block-placing.ensures.placed come.0 come.1) come.2 c.in-Some.to c.in-Some.is c.min-len.result c.min-len.ensures

pub returns-clause-copies : goal.returns-clause-copies
returns-clause-copies g c = λ state come live.
    copies g.B.Broker c.args.self.now c.place_block-placing.new.self c.args.broker.now c.place_block-placing.new.broker state c.args.block c.args.size c.args.site c.args.words c.place_block-placing.result
    (c.place_block-placing.ensures.placed state come) live c.in-Some.to c.in-Some.is c.min-len.result c.min-len.ensures c.copy.new.self c.copy.ensures
