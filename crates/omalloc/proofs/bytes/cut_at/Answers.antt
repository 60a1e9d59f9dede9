use Rattle.std.proofs.Common.{◌∙◌, sym}
use Rattle.omalloc.proofs.Cuts.{part_found, part_whole}
use Rattle.omalloc.proofs.bytes.cut_at.Goals as goal

pub returns-in-None-clause-parts : goal.returns-in-None-clause-parts
returns-in-None-clause-parts c = part_whole c.args.byte c.args.text.now (sym c.in-None.is ∙ c.first_place.ensures)

pub returns-in-Some-clause-parts : goal.returns-in-Some-clause-parts
returns-in-Some-clause-parts c = part_found c.args.byte c.args.text.now c.in-Some.i (sym c.in-Some.is ∙ c.first_place.ensures)
