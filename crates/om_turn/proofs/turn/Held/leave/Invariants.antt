use Rattle.std.proofs.Common.{Some}
use Rattle.om_turn.proofs.turn.Held.leave.Given as goal

abbrev pub ghosts-pass_on_some : goal.ghosts-pass_on_some
ghosts-pass_on_some g a = record { origin = Some a.self.now.table.shared.key.state.value }
