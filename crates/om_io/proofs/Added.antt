-- Texts that are added one after another.
use Rattle.std.proofs.Common.{ℕ, ◌+◌, ◌-◌, Option, List, length, take, drop, ◌∙◌, ap, take-add}
use Rattle.std.proofs.lemmas.List.{take_rest}
use Rattle.om_io.specs.Sink.{followed, Appends}
use Rattle.om_io.specs.BufferedLaws.{followed-followed}

-- the front of what is left of a text
pub Appends-more : (old middle new : Option (List ℕ)) (text : List ℕ) (done n : ℕ) →
    Appends old middle (take done text) →
    Appends middle new (take n (take (length text - done) (drop done text))) →
    Appends old new (take (done + n) text)
Appends-more old middle new text done n first second =
    let next = rw (take_rest text done) at second in
    rw (take-add done n text)
    (next ∙ ap (λ written. followed written (take n (drop done text))) first
    ∙ followed-followed old (take done text) (take n (drop done text)))
