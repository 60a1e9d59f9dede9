use Rattle.std.proofs.Common.{subst}
use Rattle.om_chunk.specs.Places.{IsFormed}
use Rattle.om_chunk.proofs.PlaceLaws.{picked-some, picked-free}
use Rattle.om_chunk.proofs.page.PagePlaces.picked_place.Goals as goal

pub returns-clause-some : goal.returns-clause-some
returns-clause-some c =
    picked-some c.args.self.now (subst IsFormed c.self.view_is c.self.invariant.0) c.args.word c.first_free.result c.first_free.ensures

pub returns-clause-free : goal.returns-clause-free
returns-clause-free c =
    picked-free c.args.self.now (subst IsFormed c.self.view_is c.self.invariant.0) c.args.word c.first_free.result c.first_free.ensures
