-- The state that a turn lends.
use Rattle.std.specs.Prelude.{[]}
use Rattle.std.specs.Borrow.{Lends, MutBor, Fml}
use denote.RattleType.{RattleType}
use mir.Syntax.{named}
use Rattle.om_turn.specs.declared.journaled.Journaled as journaled
use Rattle.om_turn.specs.declared.turn.Held.{Held}
use Rattle.om_turn.specs.contracts.turn.Held.{the_row}

abbrev pub with_state : {S E N : Type 0} → Held S E N → S → Held S E N
with_state h x = record h { state = x }

-- once the borrow r ends, the turn behind h has the state that was last written through r
abbrev pub LendsState : (S E N : RattleType) → journaled.Ghosts S.Denot E.Denot N.Denot → MutBor (Held S.Denot E.Denot N.Denot) → MutBor S.Denot → Fml
LendsState S E N g h r = Lends (the_row (record { mir = named 1; lft = [] }) S E N g) S h r (with_state h.now)
