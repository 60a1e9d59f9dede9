-- Ranges of the numbers in calls, answers and journals: each is one that its type holds, and an entry has at
-- most 4 words.
use Rattle.std.specs.Prelude.{ℕ, ◌<◌, ◌≤◌, ◌^◌, List, length, IfSome}
use Rattle.std.specs.List.{AllByRecursion}
use Rattle.om_model.specs.Data.CallEntry.{CallEntry}
use Rattle.om_model.specs.declared.entry.Entry.{Entry}
use Rattle.om_model.specs.declared.entry.Entry.TheVariants as entry
use Rattle.om_model.specs.declared.entry.Move.{Move}
use Rattle.om_model.specs.declared.looks.Look.{Look}
use Rattle.om_model.specs.declared.operation.Op.{Op}
use Rattle.om_model.specs.declared.operation.Op.TheVariants as op
use Rattle.om_model.specs.declared.operation.Who.{Who}
use Rattle.om_model.specs.declared.reply.Fault.{Fault}
use Rattle.om_model.specs.declared.reply.Fault.TheVariants as fault
use Rattle.om_model.specs.declared.reply.Outcome.{Outcome}
use Rattle.om_model.specs.declared.reply.Outcome.TheVariants as outcome
use Rattle.om_model.specs.declared.reply.Reply.{Reply}
use Rattle.om_model.specs.declared.reply.Reply.TheVariants as reply

abbrev pub IsByte : ℕ → Type 0
IsByte n = n < 2 ^ 8

abbrev pub IsU32 : ℕ → Type 0
IsU32 n = n < 2 ^ 32

abbrev pub IsU64 : ℕ → Type 0
IsU64 n = n < 2 ^ 64

pub record FitsWho (who : Who) : Type 0 where
  pub caller : IsU32 who.caller
  pub command : IsU32 who.command
  pub hop : IsU32 who.hop

pub record FitsLook (look : Look) : Type 0 where
  pub zone : IsU32 look.zone
  pub version : IsU32 look.version

pub record FitsMove (move : Move) : Type 0 where
  pub zone : IsU32 move.zone
  pub version : IsU32 move.version
  pub first : IsU32 move.first
  pub count : IsU32 move.count

-- addresses, sizes, sites, counts and offsets have 64 bits
abbrev pub FitsOp : Op → Type 0
FitsOp (op.Malloc size site) = IsU64 size × IsU64 site
FitsOp (op.Calloc count size site) = IsU64 count × IsU64 size × IsU64 site
FitsOp (op.Realloc address size site) = IsU64 address × IsU64 size × IsU64 site
FitsOp (op.Reallocarray address count size site) = IsU64 address × IsU64 count × IsU64 size × IsU64 site
FitsOp (op.Free address) = IsU64 address
FitsOp (op.Load address) = IsU64 address
FitsOp (op.Store address byte) = IsU64 address × IsByte byte

abbrev pub FitsFault : Fault → Type 0
FitsFault (fault.Canary offset) = IsU64 offset
FitsFault (fault.WriteAfterFree address offset) = IsU64 address × IsU64 offset
FitsFault other = Unit {0}

abbrev pub FitsReply : Reply → Type 0
FitsReply (reply.Block address) = IsU64 address
FitsReply (reply.Byte byte) = IsByte byte
FitsReply (reply.Fault f) = FitsFault f
FitsReply other = Unit {0}

abbrev pub FitsOutcome : Outcome → Type 0
FitsOutcome (outcome.Block address) = IsU64 address
FitsOutcome (outcome.Byte byte) = IsByte byte
FitsOutcome (outcome.Value value) = IsU64 value
FitsOutcome (outcome.Fault f) = FitsFault f
FitsOutcome other = Unit {0}

pub record FitsCall (call : CallEntry) : Type 0 where
  pub who : FitsWho call.who
  pub op : FitsOp call.op
  pub reply : FitsReply call.reply
  pub few_words : length call.words ≤ 4
  pub words : AllByRecursion IsU32 call.words
  pub taken : IfSome call.taken FitsLook
  pub looks : AllByRecursion FitsLook call.looks
  pub claim : IfSome call.claim FitsMove
  pub release : IfSome call.release FitsMove

abbrev pub FitsEntry : Entry → Type 0
FitsEntry (entry.Call call) = FitsCall call
FitsEntry (entry.Phase number) = IsU32 number

abbrev pub FitsJournal : List Entry → Type 0
FitsJournal entries = AllByRecursion FitsEntry entries
