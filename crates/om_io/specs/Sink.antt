-- The bytes that a sink has taken, before and after a call: `None` where the sink doesn't tell
-- them.
use Rattle.std.specs.Prelude.{◌≡◌, ℕ, ◌<◌, ◌≤◌, Option, List, ◌++◌, length, take, Result, Ok, Err}
use Rattle.std.specs.Option.{option_map}
use Rattle.om_io.specs.declared.sink.WriteStop.{WriteStop}
use Rattle.om_io.specs.declared.sink.WriteStop.TheVariants.{Failed, Memory}

-- what a sink has taken, and then the text
abbrev pub followed : Option (List ℕ) → List ℕ → Option (List ℕ)
followed written text = option_map (λ before. before ++ text) written

-- the text was added
abbrev pub Appends : Option (List ℕ) → Option (List ℕ) → List ℕ → Type 0
Appends old new text = new ≡ followed old text

-- some front of the text was added, perhaps none of it
abbrev pub AppendsFront : Option (List ℕ) → Option (List ℕ) → List ℕ → Type 0
AppendsFront old new text = (n : ℕ) × (n ≤ length text) × Appends old new (take n text)

-- some front of the text was added, but not all of it
abbrev pub AppendsPart : Option (List ℕ) → Option (List ℕ) → List ℕ → Type 0
AppendsPart old new text = (n : ℕ) × (n < length text) × Appends old new (take n text)

-- a text was to be added to the sink `old`, which is `new` now, by a call with this answer.
-- `written` and `faults` are those of the sink: what it has taken, and how many of its writes have
-- failed
abbrev pub Writes : {K : Type 0} → (K → Option (List ℕ)) → (K → ℕ) → K → K → List ℕ
    → Result (Unit {0}) WriteStop → Type 0
Writes written faults old new text (Ok _) =
    Appends (written old) (written new) text × (faults new ≡ faults old)
Writes written faults old new text (Err Failed) =
    AppendsPart (written old) (written new) text × (faults old < faults new)
Writes written faults old new text (Err Memory) =
    AppendsFront (written old) (written new) text × (faults new ≡ faults old)
