-- A pass that goes through a thread: what is asked of it, and what comes back.
use Rattle.std.specs.Prelude.{◌≡◌, ℕ, ◌+◌, ◌^◌, ◌<◌}
use Rattle.om_turn.specs.Views.{part_of}
use Rattle.om_turn.specs.Locks.{view, first_state, IsPassOf}
use Rattle.om_turn.specs.declared.lock.TurnLock.{TurnLock}
use Rattle.om_turn.specs.declared.lock.Pass.{Pass}

-- a pass of a lock that began with this value, whose turns are numbered from `from` on by 32 bits
pub record IsReady {S E N : Type 0} (lock : TurnLock S E N) (began : S) (p : Pass E) (from : ℕ) : Type 0 where
  pub pass : IsPassOf lock p
  pub began_with : first_state lock ≡ began
  pub room : from + p.left < 2 ^ 32

-- q has as large a part of the lock's turns as p had, those that were taken counted too
pub record IsSamePart {S E N : Type 0} (lock : TurnLock S E N) (p q : Pass E) : Type 0 where
  pub pass : IsPassOf lock q
  pub part : part_of (view q) ≡ part_of (view p)
  pub share : (view q).share ≡ (view p).share
