-- Bytes that come one after another.
use Rattle.std.proofs.Common.{Option, None, Some, List, ◌++◌, sym, ◌∙◌, ap, append_assoc, ℕ}
use Rattle.om_io.specs.Source.{Gives}

pub Gives-more : (old middle new : Option (List ℕ)) (first second : List ℕ) →
    Gives old middle first → Gives middle new second → Gives old new (first ++ second)
Gives-more old middle None first second a b = rw b at a
Gives-more old middle (Some rest) first second a b =
    (rw b at a) ∙ ap Some (sym (append_assoc first second rest))
