-- Texts that are added one after another to a sink with a buffer before it.
use Rattle.std.proofs.Common.{◌≡◌, ℕ, ◌+◌, ◌-◌, ◌≤◌, Option, None, Some, List, [], ◌++◌, length, take, drop, refl, sym, subst, ◌∙◌, ap, arith, append_assoc, append-nil, length-append, take-add, drop-drop, Result, Ok, Err, OnOk}
use Rattle.std.proofs.lemmas.List.{take-append-le, drop-append-le, length-drop, take-append-drop}
use Rattle.om_io.specs.Sink.{followed, Appends, AppendsFront, AppendsPart, Writes}
use Rattle.om_io.specs.declared.sink.WriteStop.{WriteStop}
use Rattle.om_io.specs.declared.sink.WriteStop.TheVariants.{Failed, Memory}
use Rattle.om_io.specs.declared.buffered.BufferedSink.{BufferedSink}
use Rattle.om_io.specs.Buffered.{IsSame, HandsOn, Went, Adds}

pub followed-followed : (written : Option (List ℕ)) (first second : List ℕ) →
    followed (followed written first) second ≡ followed written (first ++ second)
followed-followed None first second = refl
followed-followed (Some before) first second = ap Some (append_assoc before first second)

-- what is handed on is what waited
pub HandsOn-followed : (old new : Option (List ℕ)) (bytes rest : List ℕ) →
    HandsOn old new bytes rest → followed new rest ≡ followed old bytes
HandsOn-followed old new bytes rest (n, within, added, waits) =
    ap (followed new) waits ∙ ap (λ written. followed written (drop n bytes)) added
    ∙ followed-followed old (take n bytes) (drop n bytes)
    ∙ ap (followed old) (take-append-drop n bytes)

nothing_more : (written : Option (List ℕ)) → Appends written written []
nothing_more None = refl
nothing_more (Some before) = ap Some (sym (append-nil before))

-- ---- a front of the bytes, and then a front of their rest and of more

front_then : (old middle new : Option (List ℕ)) (bytes rest more : List ℕ) (k j : ℕ) →
    k ≤ length bytes → rest ≡ drop k bytes → Appends old middle (take k bytes) →
    Appends middle new (take j (rest ++ more)) → Appends old new (take (k + j) (bytes ++ more))
front_then old middle new bytes rest more k j within waits first second =
    let joined : drop k (bytes ++ more) ≡ rest ++ more =
    drop-append-le k bytes more within ∙ ap (λ xs. xs ++ more) (sym waits) in
    rw (take-add k j (bytes ++ more), take-append-le k bytes more within, joined)
    (second ∙ ap (λ written. followed written (take j (rest ++ more))) first
    ∙ followed-followed old (take k bytes) (take j (rest ++ more)))

rest_length : (bytes rest more : List ℕ) (k : ℕ) → k ≤ length bytes → rest ≡ drop k bytes →
    k + length (rest ++ more) ≡ length (bytes ++ more)
rest_length bytes rest more k within waits =
    let left : length rest ≡ length bytes - k = ap length waits ∙ length-drop k bytes in
    omega (arith, length-append rest more, length-append bytes more)

HandsOn-then : (old middle new : Option (List ℕ)) (bytes rest more after : List ℕ) →
    HandsOn old middle bytes rest → HandsOn middle new (rest ++ more) after →
    HandsOn old new (bytes ++ more) after
HandsOn-then old middle new bytes rest more after (k, within, first, waits) (j, inside, second, left) =
    let lengths = rest_length bytes rest more k within waits in
    let joined : drop k (bytes ++ more) ≡ rest ++ more =
    drop-append-le k bytes more within ∙ ap (λ xs. xs ++ more) (sym waits) in (
      k + j,
      omega arith,
      front_then old middle new bytes rest more k j within waits first second,
      left ∙ ap (drop j) (sym joined) ∙ drop-drop j k (bytes ++ more),
    )

AppendsPart-then : (old middle new : Option (List ℕ)) (bytes rest more : List ℕ) →
    HandsOn old middle bytes rest → AppendsPart middle new (rest ++ more) →
    AppendsPart old new (bytes ++ more)
AppendsPart-then old middle new bytes rest more (k, within, first, waits) (j, inside, second) =
    let lengths = rest_length bytes rest more k within waits in
    (k + j, omega arith, front_then old middle new bytes rest more k j within waits first second)

AppendsFront-then : (old middle new : Option (List ℕ)) (bytes rest more : List ℕ) →
    HandsOn old middle bytes rest → AppendsFront middle new (rest ++ more) →
    AppendsFront old new (bytes ++ more)
AppendsFront-then old middle new bytes rest more (k, within, first, waits) (j, inside, second) =
    let lengths = rest_length bytes rest more k within waits in
    (k + j, omega arith, front_then old middle new bytes rest more k j within waits first second)

Went-both : {K : Type 0} (written : K → Option (List ℕ)) (faults : K → ℕ) (old middle new : K)
    (bytes rest more after : List ℕ) (result : Result (Unit {0}) WriteStop) →
    Went written faults old middle bytes rest (Ok tt) →
    Went written faults middle new (rest ++ more) after result →
    Went written faults old new (bytes ++ more) after result
Went-both written faults old middle new bytes rest more after (Ok u) (one, still) (two, still_too) = (
  HandsOn-then (written old) (written middle) (written new) bytes rest more after one two,
  still_too ∙ still,
)
Went-both written faults old middle new bytes rest more after (Err Failed) (one, still) (two, rose) = (
  AppendsPart-then (written old) (written middle) (written new) bytes rest more one two,
  omega (arith, still, rose),
)
Went-both written faults old middle new bytes rest more after (Err Memory) (one, still) (two, same) = (
  AppendsFront-then (written old) (written middle) (written new) bytes rest more one two,
  same ∙ still,
)

-- ---- functions that add texts

-- one text was added, and then another
pub Adds-both : {K : Type 0} (written : K → Option (List ℕ)) (faults : K → ℕ)
    (old middle new : BufferedSink K) (first second : List ℕ)
    (result : Result (Unit {0}) WriteStop) →
    Adds written faults old middle first (Ok tt) → Adds written faults middle new second result →
    Adds written faults old new (first ++ second) result
Adds-both written faults old middle new first second result (same, one) (same_too, two) =
    let waited = old.waiting.now.items in (
      (same_too.0 ∙ same.0, same_too.1 ∙ same.1),
      subst
          (λ bytes. Went written faults old.sink.now new.sink.now bytes new.waiting.now.items result)
          (append_assoc waited first second)
          (Went-both written faults old.sink.now middle.sink.now new.sink.now (waited ++ first)
          middle.waiting.now.items second new.waiting.now.items result one two),
    )

front_of_longer : (old new : Option (List ℕ)) (waited text more : List ℕ) (n : ℕ) →
    n ≤ length (waited ++ text) → Appends old new (take n (waited ++ text)) →
    Appends old new (take n (waited ++ (text ++ more))) × (n ≤ length (waited ++ (text ++ more)))
    × (length (waited ++ text) ≤ length (waited ++ (text ++ more)))
front_of_longer old new waited text more n within added =
    let all : waited ++ (text ++ more) ≡ (waited ++ text) ++ more =
    sym (append_assoc waited text more) in
    let lengths = ap length all ∙ length-append (waited ++ text) more in (
      rw (all, take-append-le n (waited ++ text) more within) added,
      omega (arith, lengths),
      omega (arith, lengths),
    )

-- where a text wasn't added whole, neither was a longer one
pub Adds-longer : {K : Type 0} (written : K → Option (List ℕ)) (faults : K → ℕ)
    (old new : BufferedSink K) (text more : List ℕ) (stop : WriteStop) →
    Adds written faults old new text (Err stop) →
    Adds written faults old new (text ++ more) (Err stop)
Adds-longer written faults old new text more Failed (same, ((n, part, added), rose)) =
    let longer = front_of_longer _ (written new.sink.now) old.waiting.now.items text more n
    (omega (arith, part)) added in
    (same, ((n, omega (arith, part, longer.2), longer.0), rose))
Adds-longer written faults old new text more Memory (same, ((n, within, added), still)) =
    let longer = front_of_longer _ (written new.sink.now) old.waiting.now.items text more n
    within added in
    (same, ((n, longer.1, longer.0), still))

-- a text was put into the buffer
pub Adds-waiting : {K : Type 0} (written : K → Option (List ℕ)) (faults : K → ℕ)
    (old new : BufferedSink K) (text : List ℕ) → IsSame old new →
    new.sink.now ≡ old.sink.now → new.waiting.now.items ≡ old.waiting.now.items ++ text →
    Adds written faults old new text (Ok tt)
Adds-waiting written faults old new text same sink waits =
    (same, ((0, omega arith, rw sink (nothing_more (written old.sink.now)), waits), ap faults sink))

-- memory was wanting before the sink was asked
pub Adds-none : {K : Type 0} (written : K → Option (List ℕ)) (faults : K → ℕ)
    (old new : BufferedSink K) (text : List ℕ) → IsSame old new →
    new.sink.now ≡ old.sink.now → Adds written faults old new text (Err Memory)
Adds-none written faults old new text same sink =
    (same, ((0, omega arith, rw sink (nothing_more (written old.sink.now))), ap faults sink))

-- ---- whole texts

all_of_it : (n : ℕ) (waited text rest : List ℕ) → waited ≡ [] → rest ≡ [] →
    rest ≡ drop n (waited ++ text) → take n (waited ++ text) ≡ text
all_of_it n waited text rest empty done waits =
    sym (append-nil _) ∙ ap (λ xs. take n (waited ++ text) ++ xs) (sym done ∙ waits)
    ∙ take-append-drop n (waited ++ text) ∙ ap (λ xs. xs ++ text) empty

-- a text was added where nothing waited, and if it was added whole, nothing waits now
pub Writes-all : {K : Type 0} (written : K → Option (List ℕ)) (faults : K → ℕ)
    (old new : BufferedSink K) (text : List ℕ) (result : Result (Unit {0}) WriteStop) →
    old.waiting.now.items ≡ [] → OnOk result (new.waiting.now.items ≡ []) →
    Adds written faults old new text result →
    Writes written faults old.sink.now new.sink.now text result
Writes-all written faults old new text (Ok u) empty done (same, ((n, within, added, rest), still)) =
    let whole = all_of_it n old.waiting.now.items text new.waiting.now.items empty done rest in
    (rw whole at added, still)
Writes-all written faults old new text (Err Failed) empty done (same, went) = rw empty at went
Writes-all written faults old new text (Err Memory) empty done (same, went) = rw empty at went

-- a text was added where nothing waited, and then all was handed on
pub Writes-flushed : {K : Type 0} (written : K → Option (List ℕ)) (faults : K → ℕ)
    (old middle new : BufferedSink K) (text : List ℕ) (result : Result (Unit {0}) WriteStop) →
    old.waiting.now.items ≡ [] → Adds written faults old middle text (Ok tt) →
    Adds written faults middle new [] result → OnOk result (new.waiting.now.items ≡ []) →
    Writes written faults old.sink.now new.sink.now text result
Writes-flushed written faults old middle new text result empty one two done =
    Writes-all written faults old new text result empty done
    (subst (λ all. Adds written faults old new all result) (append-nil text)
    (Adds-both written faults old middle new text [] result one two))

-- the count of failures never falls
pub Writes-counted : {K : Type 0} (written : K → Option (List ℕ)) (faults : K → ℕ) (old new : K)
    (text : List ℕ) (result : Result (Unit {0}) WriteStop) →
    Writes written faults old new text result → faults old ≤ faults new
Writes-counted written faults old new text (Ok u) (added, still) = omega (arith, still)
Writes-counted written faults old new text (Err Failed) (part, rose) = omega (arith, rose)
Writes-counted written faults old new text (Err Memory) (front, still) = omega (arith, still)
