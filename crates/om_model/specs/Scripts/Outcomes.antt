-- The outcome of a call, by the last reply to it.
use Rattle.std.specs.Prelude.{Bool, true, false}
use Rattle.om_model.specs.declared.operation.Op.{Op}
use Rattle.om_model.specs.declared.operation.Op.TheVariants as op
use Rattle.om_model.specs.declared.reply.Reply.{Reply}
use Rattle.om_model.specs.declared.reply.Reply.TheVariants as reply
use Rattle.om_model.specs.declared.reply.Outcome.{Outcome}
use Rattle.om_model.specs.declared.reply.Outcome.TheVariants as outcome
use Rattle.om_model.specs.declared.reply.Fault.{Fault}
use Rattle.om_model.specs.declared.reply.Fault.TheVariants.{Bogus, Segmentation}
use Rattle.om_model.specs.declared.reply.Segv.TheVariants.{Unmapped}

-- the fault where no pool has the address
abbrev pub missed : Op → Fault
missed (op.Load address) = Segmentation Unmapped
missed (op.Store address byte) = Segmentation Unmapped
missed other = Bogus

abbrev pub outcome_of : Op → Reply → Outcome
outcome_of call (reply.Block address) = outcome.Block address
outcome_of call (reply.Null why) = outcome.Null why
outcome_of call reply.Done = outcome.Done
outcome_of call (reply.Byte byte) = outcome.Byte byte
outcome_of call (reply.Fault fault) = outcome.Fault fault
outcome_of call reply.Miss = outcome.Fault (missed call)

abbrev pub is_fault : Outcome → Bool
is_fault (outcome.Fault fault) = true
is_fault other = false
