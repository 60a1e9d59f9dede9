use Rattle.std.proofs.Common.{sym, ap, subst, ◌∙◌}
use Rattle.om_model.specs.Output.Head.{rules_of}
use Rattle.om_model.specs.Slow.{standing_in}
use Rattle.om_model.proofs.PlainResizing.{HasNear, near}
use Rattle.om_model.proofs.slow.state.State.realloc.Goals as goal

pub realloc_block-requires-clause-block : goal.realloc_block-requires-clause-block
realloc_block-requires-clause-block c =
    let stands = sym c.in_ok-stands.ensures ∙ ap standing_in c.in-PageBlock.is in
    subst HasNear stands (near (rules_of c.args.head.now c.args.pool) c.args.self.now c.args.address c.requires.few_zones)

pub realloc_chunk-requires-clause-block : goal.realloc_chunk-requires-clause-block
realloc_chunk-requires-clause-block c =
    let stands = sym c.in_ok-stands.ensures ∙ ap standing_in c.in-LivePlace.is in
    subst HasNear stands (near (rules_of c.args.head.now c.args.pool) c.args.self.now c.args.address c.requires.few_zones)
