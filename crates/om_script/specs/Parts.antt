-- The words behind the first of a printed command.
use Rattle.std.specs.Prelude.{ℕ, ◌<◌, List, decimal}
use Rattle.om_script.specs.declared.printing.Part.{Part}
use Rattle.om_script.specs.declared.printing.Part.TheVariants.{Name, Decimal, Hex, Site}
use Rattle.om_script.specs.Accepted.{name_at}
use Rattle.om_script.specs.Canonical.{hex, site_word}

-- the word, where the variables have these names
abbrev pub part_word : List (List ℕ) → Part → List ℕ
part_word names (Name var) = name_at names var
part_word names (Decimal number) = decimal number
part_word names (Hex number) = hex number
part_word names (Site site) = site_word site

-- a part for so many variables
abbrev pub IsPart : ℕ → Part → Type 0
IsPart n (Name var) = var < n
IsPart n (Decimal number) = Unit {0}
IsPart n (Hex number) = Unit {0}
IsPart n (Site site) = Unit {0}
