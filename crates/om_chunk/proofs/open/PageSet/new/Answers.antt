use Rattle.std.proofs.Common.{◌≡◌, ◌∙◌, sym, ap, length, replicate, false, arith, rules}
use Rattle.std.proofs.lemmas.List.{length-replicate}
use Rattle.om_chunk.specs.OpenSets.{flagged_pages}
use Rattle.om_chunk.proofs.Flags.{flagged_pages-none}
use Rattle.om_chunk.proofs.open.PageSet.new.Goals as goal

pub invariant_of-result : goal.invariant_of-result
invariant_of-result c =
    let all : c.in_ok-flags.flags.items ≡ replicate c.args.count false = search rules in (
      c.in_ok-pages.ensures.items ∙ sym (ap flagged_pages all ∙ flagged_pages-none c.args.count),
      omega (arith, ap length all, length-replicate c.args.count false, c.in_ok-pages.ensures.capacity),
    )
