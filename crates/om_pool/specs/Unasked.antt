-- A call that asks the broker for nothing: its answers, and its entry.
use Rattle.std.specs.Prelude.{◌≡◌, ℕ, List, [], ◌∷◌, ◌++◌, Option, None}
use Rattle.om_model.specs.Data.CallEntry.{CallEntry}
use Rattle.om_model.specs.Pool.Steps.{Answers}
use Rattle.om_model.specs.declared.entry.Entry.TheVariants.{Call}
use Rattle.om_model.specs.declared.entry.Move.{Move}
use Rattle.om_model.specs.declared.operation.Op.{Op}
use Rattle.om_model.specs.declared.operation.Who.{Who}
use Rattle.om_model.specs.declared.reply.Reply.{Reply}
use Rattle.om_pool.specs.CoreKept.{core_state}
use Rattle.om_pool.specs.HoldingsView.{rules_in}
use Rattle.om_pool.specs.declared.pool_core.Core.{Core}

abbrev pub no_answers : Answers
no_answers = record { claim = None; looks = []; taken = None }

abbrev pub unasked_entry : Who → Op → Reply → List ℕ → Option Move → CallEntry
unasked_entry who op reply words release =
    record { who = who; op = op; reply = reply; words = words; looks = []; taken = None; claim = None; release = release }

-- nothing is let go either: the entry is added, and the same pages are held
pub record IsQuiet (old new : Core) (who : Who) (op : Op) (reply : Reply) : Type 0 where
  pub rules : rules_in new.state ≡ rules_in old.state
  pub held : (core_state new).held ≡ (core_state old).held
  pub words : List ℕ
  pub added : new.journal.items ≡ old.journal.items ++ Call (unasked_entry who op reply words None) ∷ []
