-- What memory is once a lent part is given up.
use Rattle.std.specs.Prelude.{ℕ, List}
use Rattle.std.specs.Borrow.{Lends, MutBor, Fml, Array, u8}
use Rattle.om_frame.specs.Memory.{with_part}
use Rattle.om_frame.specs.contracts.shelf.Shelf.{the_row}

-- the bytes last seen behind r are written where they were lent
abbrev pub LendsPart : MutBor (List (List ℕ)) → ℕ → ℕ → MutBor (List ℕ) → Fml
LendsPart shelf address len r = Lends the_row (Array u8 0) shelf r (with_part shelf.now address len)
