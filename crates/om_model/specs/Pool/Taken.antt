-- The looks at which claims at given runs found a page held, as they stand in a journal. The run of each is the one
-- that its call asks for in the state before it; an entry whose call asks for no run has none.
use Rattle.std.specs.Prelude.{List, [], ◌∷◌, ◌++◌, Option, Some, None}
use Rattle.om_model.specs.Pool.Journal.{wish_of, after}
use Rattle.om_model.specs.Pool.Rules.{Rules}
use Rattle.om_model.specs.Pool.Runs.{Run}
use Rattle.om_model.specs.Pool.State.{State, opening}
use Rattle.om_model.specs.Pool.Steps.{Wish, Nothing, Search, At}
use Rattle.om_model.specs.declared.entry.Entry.{Entry}
use Rattle.om_model.specs.declared.entry.Entry.TheVariants.{Call, Phase}
use Rattle.om_model.specs.declared.looks.Look.{Look}

-- at the look some page of the run was found held
pub record TakenLook : Type 0 where
  pub run : Run
  pub look : Look

abbrev pub taken_at : Wish → Look → List TakenLook
taken_at (At run otherwise) look = record { run = run; look = look } ∷ []
taken_at (Search count word) look = []
taken_at Nothing look = []

abbrev pub taken_if : Wish → Option Look → List TakenLook
taken_if wish (Some look) = taken_at wish look
taken_if wish None = []

-- that of an entry, if it has one
abbrev pub taken_in : Rules → State → Entry → List TakenLook
taken_in rules state (Call entry) = taken_if (wish_of rules state entry.op) entry.taken
taken_in rules state (Phase number) = []

-- those of the entries from a state on, in order
abbrev pub taken_from : Rules → State → List Entry → List TakenLook
taken_from rules state [] = []
taken_from rules state (entry ∷ entries) = taken_in rules state entry ++ taken_from rules (after rules state entry) entries

-- those of a pool's journal
abbrev pub taken_of : Rules → List Entry → List TakenLook
taken_of rules entries = taken_from rules (opening rules) entries
