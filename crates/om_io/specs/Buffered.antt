-- A sink with a buffer before it. A text that is added waits in the buffer, and goes on to the sink
-- from the front.
use Rattle.std.specs.Prelude.{◌≡◌, ℕ, ◌<◌, ◌≤◌, Option, List, ◌++◌, length, take, drop, Result, Ok, Err}
use Rattle.om_io.specs.Sink.{followed, Appends, AppendsFront, AppendsPart}
use Rattle.om_io.specs.declared.sink.WriteStop.{WriteStop}
use Rattle.om_io.specs.declared.sink.WriteStop.TheVariants.{Failed, Memory}
use Rattle.om_io.specs.declared.buffered.BufferedSink.{BufferedSink}

-- the most bytes that wait once a call is over that settles
abbrev pub buffer_size : ℕ
buffer_size = 65536

-- what it means: what the sink has taken, and then what waits
abbrev pub meaning : {K : Type 0} → (K → Option (List ℕ)) → BufferedSink K → Option (List ℕ)
meaning written out = followed (written out.sink.now) out.waiting.now.items

-- the same sink and the same buffer, perhaps with other contents
abbrev pub IsSame : {K : Type 0} → BufferedSink K → BufferedSink K → Type 0
IsSame old new =
    (new.sink.ghost_name ≡ old.sink.ghost_name) × (new.waiting.ghost_name ≡ old.waiting.ghost_name)

-- a sink took a front of these bytes, and the rest of them waits
abbrev pub HandsOn : Option (List ℕ) → Option (List ℕ) → List ℕ → List ℕ → Type 0
HandsOn old new bytes rest =
    (n : ℕ) × (n ≤ length bytes) × Appends old new (take n bytes) × (rest ≡ drop n bytes)

-- what became of these bytes by a call with this answer. After an error nothing is said of what
-- waits
abbrev pub Went : {K : Type 0} → (K → Option (List ℕ)) → (K → ℕ) → K → K → List ℕ → List ℕ
    → Result (Unit {0}) WriteStop → Type 0
Went written faults old new bytes rest (Ok _) =
    HandsOn (written old) (written new) bytes rest × (faults new ≡ faults old)
Went written faults old new bytes rest (Err Failed) =
    AppendsPart (written old) (written new) bytes × (faults old < faults new)
Went written faults old new bytes rest (Err Memory) =
    AppendsFront (written old) (written new) bytes × (faults new ≡ faults old)

-- a text was to be added behind what waits, by a call with this answer
abbrev pub Adds : {K : Type 0} → (K → Option (List ℕ)) → (K → ℕ) → BufferedSink K → BufferedSink K
    → List ℕ → Result (Unit {0}) WriteStop → Type 0
Adds written faults old new text result =
    IsSame old new
    × Went written faults old.sink.now new.sink.now (old.waiting.now.items ++ text)
    new.waiting.now.items result
