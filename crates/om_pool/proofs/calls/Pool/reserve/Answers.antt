use Rattle.std.proofs.Common.{◌*◌}
use Rattle.om_geom.specs.Numbers.{zone_pages}
use Rattle.om_pool.specs.CoreKept.{core_state}
use Rattle.om_pool.proofs.CoreLaws.{core-sound}
use Rattle.om_pool.proofs.Spending.{few-pages}
use Rattle.om_pool.proofs.calls.Pool.reserve.Goals as goal

pub returns-clause-pages : goal.returns-clause-pages
returns-clause-pages g c =
    let core = c.reserve.new.self in
    let sound = core-sound core c.reserve.ensures.kept in
    few-pages (zone_pages * core.state.zones) (core_state core).held sound.ascends sound.arena
