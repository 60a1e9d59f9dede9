use Rattle.std.proofs.Common.{ap, ℕ, set, ◌∙◌, Vec, Global}
use Rattle.std.proofs.lemmas.List.{map-set}
use Rattle.om_frame.specs.Blocks.{memory_of}
use Rattle.om_frame.proofs.shelf.Shelf.take_page.Goals as goal

pub returns-clause-rest : goal.returns-clause-rest
returns-clause-rest c = rw (← c.self.view_is, c.replace.ensures.after) (map-set (λ (block : Vec ℕ Global). block.items) c.self.inside.blocks.items c.args.page c.new-none.result ∙ ap (set (memory_of c.self.inside.blocks.items) c.args.page) c.new-none.ensures.items)
