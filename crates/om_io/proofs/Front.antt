-- What stands at the front of a buffer after a copy, with what wasn't copied, is all that was left.
use Rattle.std.proofs.Common.{◌≡◌, ℕ, ◌+◌, ◌-◌, List, ◌++◌, length, take, drop, sym, ◌∙◌, ap, drop-drop}
use Rattle.std.proofs.Math.Seq.{take-append_seam}
use Rattle.std.proofs.lemmas.List.{take-append-drop, take_rest}

pub copied_and_rest : (given count : ℕ) (bytes copied after : List ℕ) →
    copied ≡ take count (take (length bytes - given) (drop given bytes)) → length copied ≡ count →
    drop given bytes ≡ take count (copied ++ after) ++ drop (given + count) bytes
copied_and_rest given count bytes copied after same len =
    let front : take count (copied ++ after) ≡ take count (drop given bytes) =
    ap (λ n. take n (copied ++ after)) (sym len) ∙ take-append_seam copied after ∙ same ∙ ap (take count) (take_rest bytes given) in
    rw (front, ← drop-drop count given bytes) (sym (take-append-drop count (drop given bytes)))
