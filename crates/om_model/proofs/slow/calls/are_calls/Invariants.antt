use Rattle.std.proofs.Common.{◌≡◌, ℕ, ◌<◌, [], slice_index_or}
use Rattle.std.specs.List.{flat_map}
use Rattle.om_model.specs.Data.Room.{entries_of}
use Rattle.om_model.specs.Scripts.Calls.{seen_in, asked_in}
use Rattle.om_model.specs.Slow.{answers_in}
use Rattle.om_model.proofs.slow.calls.are_calls.Given as goal

-- the calls stand in the journals of the pools so far
abbrev pub invariant-loop-pool : goal.invariant-loop-pool
invariant-loop-pool l = (pool : ℕ) → pool < l.pool → seen_in l.caller (slice_index_or (entries_of l.journals) pool []) ≡ flat_map (asked_in l.pools l.caller pool) (answers_in l.answered)
