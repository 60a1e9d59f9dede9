use Rattle.std.proofs.Common.{◌≡◌, ◌∙◌, ◌*◌, Option, None, replicate, false, length, subst, sym, ap, arith}
use Rattle.std.proofs.lemmas.List.{length-replicate}
use Rattle.om_chunk.specs.OpenSets.{AreOpen}
use Rattle.om_chunk.specs.Places.{ChunkPage}
use Rattle.om_chunk.proofs.OpenLaws.{open-none}
use Rattle.om_chunk.proofs.pages.ChunkPages.new.Goals as goal

pub invariant_of-result : goal.invariant_of-result
invariant_of-result c =
    let count : c.loop.counter ≡ 32 * c.args.zones = omega arith in
    let all : c.loop.pages.items ≡ replicate (32 * c.args.zones) None = c.loop.invariant ∙ ap (λ n. replicate n None) count in (
      omega (arith, ap length all, length-replicate {A = Option ChunkPage} (32 * c.args.zones) None),
      tt,
      subst (λ sets. AreOpen c.loop.pages.items sets) (sym c.in_ok-listed.ensures) (subst (λ pages. AreOpen pages (replicate 9 (replicate (32 * c.args.zones) false))) (sym all) (open-none (32 * c.args.zones))),
    )
