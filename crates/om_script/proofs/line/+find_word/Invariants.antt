use Rattle.om_script.proofs.line.+find_word.Given as goal

abbrev pub decreases-find_word : goal.decreases-find_word
decreases-find_word l = l.number
