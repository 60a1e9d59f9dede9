use Rattle.om_turn.proofs.lock.TurnLock.split.Given as goal

abbrev pub ghosts-mint : goal.ghosts-mint
ghosts-mint g a = record { seat = a.seat.now.id; turns = 0 }

abbrev pub ghosts-cut : goal.ghosts-cut
ghosts-cut g a = record { seat = a.seat.now.id; turns = a.turns }
