use Rattle.std.proofs.Common.{◌-◌, length}
use Rattle.std.specs.List.{slice_get}
use Rattle.om_turn.proofs.tests.add.Given as goal

-- the number that was added last
abbrev pub ghosts-leave_as : goal.ghosts-leave_as
ghosts-leave_as g a = record { added = slice_get a.self.state (length a.self.state - 1) }
