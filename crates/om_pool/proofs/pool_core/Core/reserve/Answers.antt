use Rattle.std.proofs.Common.{refl}
use Rattle.om_pool.proofs.CoreLaws.{kept-reserved}
use Rattle.om_pool.proofs.pool_core.Core.reserve.Goals as goal

pub returns-in_err-reserve-clause-kept : goal.returns-in_err-reserve-clause-kept
returns-in_err-reserve-clause-kept c = kept-reserved c.args.self.now _ c.requires.kept refl refl refl c.reserve.ensures.items refl c.requires.kept.room

pub returns-in_err-reserve-2-clause-kept : goal.returns-in_err-reserve-2-clause-kept
returns-in_err-reserve-2-clause-kept c = kept-reserved c.args.self.now _ c.requires.kept c.reserve-2.ensures.rules c.reserve-2.ensures.tables c.reserve-2.ensures.drawn c.reserve.ensures.items refl c.requires.kept.room

pub returns-in_err-with_room-clause-kept : goal.returns-in_err-with_room-clause-kept
returns-in_err-with_room-clause-kept c = kept-reserved c.args.self.now _ c.requires.kept c.reserve-2.ensures.rules c.reserve-2.ensures.tables c.reserve-2.ensures.drawn c.reserve.ensures.items refl c.requires.kept.room

pub returns-else-is_none-clause-kept : goal.returns-else-is_none-clause-kept
returns-else-is_none-clause-kept c = kept-reserved c.args.self.now _ c.requires.kept c.reserve-2.ensures.rules c.reserve-2.ensures.tables c.reserve-2.ensures.drawn c.reserve.ensures.items refl c.requires.kept.room

pub returns-in_ok-with_room-clause-kept : goal.returns-in_ok-with_room-clause-kept
returns-in_ok-with_room-clause-kept c =
    let made = c.in_ok-with_room.ensures in
    kept-reserved c.args.self.now _ c.requires.kept c.reserve-2.ensures.rules c.reserve-2.ensures.tables c.reserve-2.ensures.drawn c.reserve.ensures.items refl (made.items, made.room)
