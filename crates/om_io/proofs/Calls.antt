-- One call more.
use Rattle.std.proofs.Common.{◌≡◌, ℕ, ◌+◌, ◌==◌, List, if◌then◌else◌, refl, add-one}
use Rattle.std.specs.List.{list_any}
use Rattle.om_io.specs.Memory.{failures}

pub failures_next : (listed : List ℕ) (calls : ℕ) →
    failures listed (calls + 1) ≡ failures listed calls + (if list_any (λ number. number == calls + 1) listed then 1 else 0)
failures_next listed calls = rw add-one refl
