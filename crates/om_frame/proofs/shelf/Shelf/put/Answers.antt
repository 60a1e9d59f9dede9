use Rattle.std.proofs.Common.{ℕ, Vec, Global}
use Rattle.std.proofs.lemmas.List.{map-set}
use Rattle.om_frame.proofs.shelf.Shelf.put.Goals as goal

pub returns : goal.returns
returns c = rw (← c.self.view_is, ← c.frame.view_is) (map-set (λ (block : Vec ℕ Global). block.items) _ c.frame.inside.page.0 c.frame.inside.block)
