-- What a clause says of a lock, of its passes and of a turn.
use Rattle.std.specs.Prelude.{◌≡◌, List, [], ◌∷◌, Option, Some}
use mathlib.Core.List.{IsPrefix}
use Rattle.atomic_table.specs.Table.{Me}
use Rattle.atomic_table.specs.declared.shared.Seat.{Seat}
use Rattle.om_turn.specs.Entries.{Became, AreAll}
use Rattle.om_turn.specs.Steps.{Serves, IsLawful}
use Rattle.om_turn.specs.declared.journaled.Journaled as journaled
use Rattle.om_turn.specs.Views.{spent_view, drawn, served, joined, settled}
use Rattle.om_turn.specs.declared.view.View.{View}
use Rattle.om_turn.specs.declared.view.Stage.TheVariants.{Outside}
use Rattle.om_turn.specs.declared.lock.TurnLock.{TurnLock}
use Rattle.om_turn.specs.declared.lock.Pass.{Pass}
use Rattle.om_turn.specs.declared.turn.Held.{Held}

abbrev pub view_or_spent : {E : Type 0} → List (View E) → View E
view_or_spent [] = spent_view
view_or_spent (v ∷ vs) = v

-- what the pass knows
abbrev pub view : {E : Type 0} → Pass E → View E
view p = view_or_spent p.badge.views

module _ {S E N : Type 0} where
  -- the value with which the lock was made
  abbrev pub first_state : TurnLock S E N → S
  first_state lock = lock.table.shared.key.state.value

  -- a pass of this lock, in no turn
  abbrev pub IsPassOf : TurnLock S E N → Pass E → Type 0
  IsPassOf lock p = (p.badge.table_id ≡ lock.table.shared.table_id) × (lock.table.shared.table_id.words ≡ 2) × (lock.table.shared.table_id.slots ≡ 1)
      × (p.badge.views ≡ view p ∷ []) × ((view p).stage ≡ Outside) × (p.left ≡ (view p).left)

  -- a seat at this lock's table, which has two words and one slot
  abbrev pub IsSeatOf : TurnLock S E N → Seat (Option S) (View E) → Type 0
  IsSeatOf lock seat = (seat.table_id ≡ lock.table.shared.table_id) × (lock.table.shared.table_id.words ≡ 2) × (lock.table.shared.table_id.slots ≡ 1)

  -- a turn of this lock
  abbrev pub IsTurnOf : TurnLock S E N → Held S E N → Type 0
  IsTurnOf lock h = (h.lock.now ≡ lock) × IsSeatOf lock h.ticket.seat

  -- what the pass knows that has the turn
  abbrev pub turn_view : Held S E N → View E
  turn_view h = h.ticket.seat.me.0

module _ {S E N : Type 0} (g : journaled.Ghosts S E N) where
  -- the value is what the lock's first value became by these entries
  abbrev pub HasBecome : TurnLock S E N → List E → S → Type 0
  HasBecome lock entries x = Became g.stands_for g.name (first_state lock) entries x

  -- the pass is served, and has the value and all that was entered
  abbrev pub IsServedAt : TurnLock S E N → Me (Option S) (View E) → Me (Option S) (View E) → Type 0
  IsServedAt lock m m' = Serves g.stands_for g.name g.common g.marks (Some (first_state lock)) m m'

  -- a pass that knows v may leave the value x, with this entry added, or with none
  abbrev pub MayLeaveAt : TurnLock S E N → View E → S → Option E → Type 0
  MayLeaveAt lock v x added = IsLawful g.stands_for g.name g.common g.marks (first_state lock) v x added

  abbrev pub MayLeave : Held S E N → Option E → Type 0
  MayLeave h added = MayLeaveAt h.lock.now (turn_view h) h.state added

  -- the value is what the first one became by all entries that the pass holds, each at its place
  abbrev pub IsClosed : TurnLock S E N → Pass E → S → Type 0
  IsClosed lock p x = (history : List E) × HasBecome lock history x × IsPrefix (view p).seen history
      × AreAll (view p).held history

module _ {T E : Type 0} where
  -- the seat that the pass had, with no slot
  abbrev pub IsSeatOfPass : Pass E → Seat T (View E) → Type 0
  IsSeatOfPass p seat = (seat.table_id ≡ p.badge.table_id) × (seat.id ≡ p.badge.id) × (seat.me ≡ (view p, []))

  -- the pass has this seat
  abbrev pub HasSeat : Pass E → Seat T (View E) → Type 0
  HasSeat p seat = (p.badge.table_id ≡ seat.table_id) × (p.badge.id ≡ seat.id) × (p.badge.views ≡ seat.me.0 ∷ [])

-- the same seat, with the view and the slots m
abbrev pub IsNow : {T V : Type 0} → Seat T V → Seat T V → Me T V → Type 0
IsNow old new m = (new.table_id ≡ old.table_id) × (new.id ≡ old.id) × (new.me ≡ m)

module _ {E : Type 0} where
  -- the pass has spent one turn, and has seen more
  abbrev pub IsEntered : View E → View E → Type 0
  IsEntered v w = (w ≡ served w.seen (drawn w.ticket v)) × IsPrefix v.seen w.seen

  -- the two passes are one, which has seen what either had seen
  abbrev pub IsJoined : View E → View E → View E → Type 0
  IsJoined v w u = (u ≡ settled u.seen (joined v w)) × IsPrefix v.seen u.seen × IsPrefix w.seen u.seen
