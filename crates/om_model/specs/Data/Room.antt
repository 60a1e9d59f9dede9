-- Lists that say beside their items for how many more room is already made. What a list is before and
-- after a call are its items: the room may grow at any time.
use Rattle.std.specs.Prelude.{ℕ, List, map}
use Rattle.om_model.specs.declared.entry.Entry.{Entry}
use Rattle.om_model.specs.declared.looks.Look.{Look}

pub record Looks : Type 0 where
  pub items : List Look
  pub spare : ℕ

pub record Entries : Type 0 where
  pub items : List Entry
  pub spare : ℕ

-- the entries of each journal
abbrev pub entries_of : List Entries → List (List Entry)
entries_of journals = map (λ journal. journal.items) journals
