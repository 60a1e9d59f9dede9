use Rattle.std.proofs.Common.{◌≡◌, ◌∷◌, ◌++◌, map, take}
use Rattle.std.specs.List.{join_with_byte}
use Rattle.om_script.specs.Parts.{part_word}
use Rattle.om_script.proofs.printing.push_words.Given as goal

abbrev pub invariant-loop-part : goal.invariant-loop-part
invariant-loop-part l = l.out.items ≡ l.fn.out.items ++ join_with_byte 32 (l.keyword ∷ map (part_word l.script.names) (take l.part-index l.parts))
