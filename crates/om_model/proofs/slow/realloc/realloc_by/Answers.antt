use Rattle.std.proofs.Common.{sym, ap, subst, ◌∙◌}
use Rattle.om_model.specs.Output.Head.{rules_of}
use Rattle.om_model.specs.Pool.Resizing.{pages_after}
use Rattle.om_model.specs.Slow.{way_in}
use Rattle.om_model.proofs.PlainResizing.{ClaimsSmall, way-small}
use Rattle.om_model.proofs.slow.realloc.realloc_by.Goals as goal

pub claimed_unless-requires-clause-run : goal.claimed_unless-requires-clause-run
claimed_unless-requires-clause-run c =
    let pool_rules = rules_of c.args.head.now c.args.pool in
    let asked = c.args.asked in
    let claims = sym c.in_ok-way_to.ensures ∙ ap way_in c.in-Claims.is in
    subst (ClaimsSmall (pages_after pool_rules asked.block asked.size)) claims (way-small pool_rules c.args.state.now asked.block asked.size c.requires.block)
