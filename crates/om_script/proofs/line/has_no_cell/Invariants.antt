use Rattle.std.proofs.Common.{◌≡◌, drop}
use Rattle.om_script.specs.Lines.{words_in}
use Rattle.om_script.specs.Keywords.{any_word, is_no_cell}
use Rattle.om_script.proofs.line.has_no_cell.Given as goal

abbrev pub invariant-loop-kind : goal.invariant-loop-kind
invariant-loop-kind l = any_word is_no_cell (drop l.kind-index l.kinds) (words_in l.rest) ≡ any_word is_no_cell l.kinds (words_in l.words)
