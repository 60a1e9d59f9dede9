-- Journals with one more entry: the fold goes on by it, and so do the moves and the looks of claims at given runs.
use Rattle.std.proofs.Common.{◌≡◌, ℕ, List, [], ◌∷◌, ◌++◌, refl, sym, ap, ◌∙◌}
use Rattle.std.proofs.lemmas.List.Concat.{flat_map-append}
use Rattle.std.proofs.Common.{append-nil, append_assoc}
use Rattle.om_model.specs.Pool.Rules.{Rules}
use Rattle.om_model.specs.Pool.State.{State, opening}
use Rattle.om_model.specs.Pool.Journal.{after, state_from, state_of, IsLawfulEntry, IsLawfulCall, IsLawfulFrom, phases_in, phase_numbers, IsLawful}
use Rattle.om_model.specs.Pool.Taken.{taken_in, taken_from, taken_of}
use Rattle.om_model.specs.Zones.Moves.{moves_of_entry, moves_of}
use Rattle.om_model.specs.Data.CallEntry.{CallEntry}
use Rattle.om_model.specs.declared.entry.Entry.{Entry}
use Rattle.om_model.specs.declared.entry.Entry.TheVariants.{Call}

pub state_from-push : (rules : Rules) (state : State) (entries : List Entry) (entry : Entry) → state_from rules state (entries ++ entry ∷ []) ≡ after rules (state_from rules state entries) entry
state_from-push rules state [] entry = refl
state_from-push rules state (first ∷ entries) entry = state_from-push rules (after rules state first) entries entry

pub state_of-push : (rules : Rules) (entries : List Entry) (entry : Entry) → state_of rules (entries ++ entry ∷ []) ≡ after rules (state_of rules entries) entry
state_of-push rules entries entry = state_from-push rules (opening rules) entries entry

pub IsLawfulFrom-push : (rules : Rules) (state : State) (entries : List Entry) (entry : Entry) → IsLawfulFrom rules state entries → IsLawfulEntry rules (state_from rules state entries) entry → IsLawfulFrom rules state (entries ++ entry ∷ [])
IsLawfulFrom-push rules state [] entry lawful next = (next, tt)
IsLawfulFrom-push rules state (first ∷ entries) entry lawful next = (lawful.0, IsLawfulFrom-push rules (after rules state first) entries entry lawful.1 next)

phase_numbers-push : (entries : List Entry) (entry : CallEntry) → phase_numbers (entries ++ Call entry ∷ []) ≡ phase_numbers entries
phase_numbers-push entries entry = flat_map-append phases_in entries (Call entry ∷ []) ∙ append-nil (phase_numbers entries)

pub IsLawful-push : (rules : Rules) (entries : List Entry) (entry : CallEntry) → IsLawful rules entries → IsLawfulCall rules (state_of rules entries) entry → IsLawful rules (entries ++ Call entry ∷ [])
IsLawful-push rules entries entry lawful next = record {
  calls = IsLawfulFrom-push rules (opening rules) entries (Call entry) lawful.calls next;
  phases = rw (phase_numbers-push entries entry) lawful.phases;
}

pub moves_of-push : (rules : Rules) (pool : ℕ) (entries : List Entry) (entry : Entry) → moves_of rules pool (entries ++ entry ∷ []) ≡ moves_of rules pool entries ++ moves_of_entry rules pool entry
moves_of-push rules pool entries entry =
    flat_map-append (moves_of_entry rules pool) entries (entry ∷ []) ∙ ap (λ moves. moves_of rules pool entries ++ moves) (append-nil (moves_of_entry rules pool entry))

taken_from-push : (rules : Rules) (state : State) (entries : List Entry) (entry : Entry) → taken_from rules state (entries ++ entry ∷ []) ≡ taken_from rules state entries ++ taken_in rules (state_from rules state entries) entry
taken_from-push rules state [] entry = append-nil (taken_in rules state entry)
taken_from-push rules state (first ∷ entries) entry =
    let next = after rules state first in
    ap (λ taken. taken_in rules state first ++ taken) (taken_from-push rules next entries entry)
    ∙ sym (append_assoc (taken_in rules state first) (taken_from rules next entries) (taken_in rules (state_from rules next entries) entry))

pub taken_of-push : (rules : Rules) (entries : List Entry) (entry : Entry) → taken_of rules (entries ++ entry ∷ []) ≡ taken_of rules entries ++ taken_in rules (state_of rules entries) entry
taken_of-push rules entries entry = taken_from-push rules (opening rules) entries entry
