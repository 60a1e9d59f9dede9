-- One call on a pool as it stands in a journal: who made it, what was asked and answered, the words that were
-- drawn, the looks at the zones that a search passed over, the look at which a claim at a given place found a
-- page held, and the moves of the call.
use Rattle.std.specs.Prelude.{ℕ, List, Option}
use Rattle.om_model.specs.declared.entry.Move.{Move}
use Rattle.om_model.specs.declared.looks.Look.{Look}
use Rattle.om_model.specs.declared.operation.Op.{Op}
use Rattle.om_model.specs.declared.operation.Who.{Who}
use Rattle.om_model.specs.declared.reply.Reply.{Reply}

pub record CallEntry : Type 0 where
  pub who : Who
  pub op : Op
  pub reply : Reply
  pub words : List ℕ
  pub looks : List Look
  pub taken : Option Look
  pub claim : Option Move
  pub release : Option Move
