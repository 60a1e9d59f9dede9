-- Calls of a script. Each call of script t stands in the journals, hop by hop: hop j in pool (t + j) mod
-- pools, each entry once, in the order of commands and hops, in the phase of its command, and no other entry
-- stands there.
use Rattle.std.specs.Prelude.{◌≡◌, ℕ, ◌+◌, ◌-◌, ◌%◌, ◌<◌, ◌==◌, List, [], ◌∷◌, ◌++◌, length, None, unwrap_or, if◌then◌else◌, slice_index_or}
use Rattle.std.specs.List.{AllByRecursion, flat_map, range_with_len, enumerate_from, last_or}
use Rattle.om_model.specs.Data.CallEntry.{CallEntry}
use Rattle.om_model.specs.Pool.Journal.{phase_numbers}
use Rattle.om_model.specs.declared.operation.Op.{Op}
use Rattle.om_model.specs.declared.operation.Op.TheVariants as op
use Rattle.om_model.specs.declared.operation.Call.{Call}
use Rattle.om_model.specs.declared.reply.Reply.{Reply}
use Rattle.om_model.specs.declared.reply.Reply.TheVariants.{Miss}
use Rattle.om_model.specs.declared.entry.Entry.{Entry}
use Rattle.om_model.specs.declared.entry.Entry.TheVariants as entry
use Rattle.om_model.specs.declared.entry.Asked.{Asked}

-- the replies of the pools that a call with an address asks: all but the last are misses, and a last miss
-- stands only where no pool is left to ask
abbrev pub IsSearch : ℕ → List Reply → Type 0
IsSearch pools [] = ⊥
IsSearch pools (reply ∷ []) = reply ≡ Miss → pools ≡ 1
IsSearch pools (reply ∷ next ∷ replies) = (reply ≡ Miss) × (1 < pools) × IsSearch (pools - 1) (next ∷ replies)

-- a call without an address asks its own pool alone
abbrev pub IsAnswered : ℕ → Op → List Reply → Type 0
IsAnswered pools (op.Malloc size site) replies = length replies ≡ 1
IsAnswered pools (op.Calloc count size site) replies = length replies ≡ 1
IsAnswered pools other replies = IsSearch pools replies

-- the last reply to a call
abbrev pub last_reply : List Reply → Reply
last_reply replies = unwrap_or (last_or None replies) Miss

-- what the pool's journal shows of a call, by one of the replies and its hop
abbrev pub asked_of : ℕ → ℕ → ℕ → Call → ℕ × Reply → List Asked
asked_of pools caller pool call numbered =
    if (caller + numbered.0) % pools == pool then record { command = call.command; phase = call.phase; hop = numbered.0; op = call.op; reply = numbered.1 } ∷ [] else []

abbrev pub asked_in : ℕ → ℕ → ℕ → Call × List Reply → List Asked
asked_in pools caller pool answered = flat_map (asked_of pools caller pool answered.0) (enumerate_from 0 answered.1)

-- what the entry of a call in this phase shows of the caller
abbrev pub seen_of : ℕ → ℕ → CallEntry → List Asked
seen_of caller phase call =
    if call.who.caller == caller then record { command = call.who.command; phase = phase; hop = call.who.hop; op = call.op; reply = call.reply } ∷ [] else []

-- the caller's entries in a journal, from this phase on
abbrev pub seen_from : ℕ → ℕ → List Entry → List Asked
seen_from caller phase [] = []
seen_from caller phase (entry.Call call ∷ entries) = seen_of caller phase call ++ seen_from caller phase entries
seen_from caller phase (entry.Phase number ∷ entries) = seen_from caller number entries

-- a journal begins in phase 0
abbrev pub seen_in : ℕ → List Entry → List Asked
seen_in caller entries = seen_from caller 0 entries

abbrev pub CallerBelow : ℕ → Entry → Type 0
CallerBelow callers (entry.Call call) = call.who.caller < callers
CallerBelow callers (entry.Phase number) = Unit {0}

-- A caller's calls with the replies to each stand in the journals, and nothing else of this caller does.
pub record AreCalls (pools caller : ℕ) (answered : List (Call × List Reply)) (journals : List (List Entry)) : Type 0 where
  pub each : AllByRecursion (λ a. IsAnswered pools (a.0).op a.1) answered
  pub stand : (pool : ℕ) → pool < pools → seen_in caller (slice_index_or journals pool []) ≡ flat_map (asked_in pools caller pool) answered

-- no entry has another caller, and each journal enters the phases of the run
pub record OnlyCallers (scripts phases : ℕ) (entries : List Entry) : Type 0 where
  pub callers : AllByRecursion (CallerBelow scripts) entries
  pub entered : phase_numbers entries ≡ range_with_len 1 (phases - 1)
