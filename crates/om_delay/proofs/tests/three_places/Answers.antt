use Rattle.std.proofs.Common.{ℕ, ◌+◌, ◌≤◌, None, arith}
use Rattle.std.proofs.lemmas.List.Elements.{All-set, All-replicate, All-same}
use Rattle.om_frame.specs.Memory.{IsHeldPart}
use Rattle.om_delay.specs.Changes.{IsHeldSlot}
use Rattle.om_delay.proofs.tests.three_places.Goals as goal

pub returns : goal.returns
returns c =
    let held : (first : ℕ) → 69632 ≤ first → first + 16 ≤ 77824 → IsHeldPart c.args.shelf.now first 16 =
    λ first low high address from to. c.requires address (omega arith) (omega arith) in
    let slot = IsHeldSlot c.args.shelf.now in
    All-same slot _ _ c.swap-3.ensures.after (rw c.place-3.ensures (All-set slot _ 15 _ (held 77808 (omega arith) (omega arith))
    (All-same slot _ _ c.swap-2.ensures.after (rw c.place-2.ensures (All-set slot _ 4 _ (held 73720 (omega arith) (omega arith))
    (All-same slot _ _ c.swap.ensures.after (rw c.place.ensures (All-set slot _ 0 _ (held 69632 (omega arith) (omega arith))
    (All-same slot _ _ c.new-slots.ensures (All-replicate slot 16 None tt))))))))))
