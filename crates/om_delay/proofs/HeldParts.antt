-- How long a part can be whose pages are all held.
use Rattle.std.proofs.Common.{ℕ, zero, suc, ◌+◌, ◌*◌, ◌≤◌, List, length, arith}
use Rattle.om_geom.specs.Addresses.{address_of}
use Rattle.om_geom.specs.Numbers.{zone_pages, most_zones}
use Rattle.om_frame.specs.Memory.{IsHeldPart}
use Rattle.om_frame.specs.MemoryLaws.{held_at-high}

-- its last byte stands below the end of the largest arena
pub held_len : (memory : List (List ℕ)) (first len : ℕ) → length memory ≤ zone_pages * most_zones → IsHeldPart memory first len → len ≤ address_of (zone_pages * most_zones)
held_len memory first zero few held = omega arith
held_len memory first (suc before) few held =
    let high = held_at-high memory (first + before) few (held (first + before) (omega arith) (omega arith)) in
    omega arith
