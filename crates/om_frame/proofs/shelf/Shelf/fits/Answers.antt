use Rattle.std.proofs.Common.{arith, Vec, ℕ, Global}
use Rattle.std.proofs.lemmas.List.{length-map}
use Rattle.om_frame.proofs.Shelves.{pages-law}
use Rattle.om_frame.proofs.shelf.Shelf.fits.Goals as goal

pub returns : goal.returns
returns c =
    let few = c.self.invariant.0 in
    rw (← c.self.view_is) (record { few = omega (arith, length-map c.self.inside.blocks.items (λ (block : Vec ℕ Global). block.items)); pages = pages-law c.self.inside.blocks.items c.self.invariant.1 })
