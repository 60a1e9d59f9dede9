-- What all the parts give is what is read so far, and what the parts that are left give.
use Rattle.std.proofs.Common.{◌≡◌, ◌+◌, ◌==◌, length}
use Rattle.std.specs.List.{slice_split}
use Rattle.std.specs.Option.{option_map_or, option_copied}
use Rattle.omalloc.specs.Arguments.{numbers_of}
use Rattle.omalloc.proofs.ArgumentLists.{parts_left, with_front}
use Rattle.omalloc.proofs.arguments.numbers_of.Given as goal

abbrev pub invariant-loop-rest : goal.invariant-loop-rest
invariant-loop-rest l = numbers_of (slice_split (λ b. b == 44) l.fn.list) ≡ with_front l.numbers.items (numbers_of (parts_left (option_copied l.rest)))

abbrev pub decreases-loop-rest : goal.decreases-loop-rest
decreases-loop-rest l = option_map_or (λ text. length text + 1) (option_copied l.rest) 0
