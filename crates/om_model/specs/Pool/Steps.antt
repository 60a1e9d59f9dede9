-- One step of a pool: what it asks of the zones, what they answered, and what the step does then.
use Rattle.std.specs.Prelude.{◌≡◌, ℕ, Bool, true, false, List, Option, None, if◌then◌else◌}
use Rattle.om_model.specs.Pool.Rules.{Rules}
use Rattle.om_model.specs.Pool.Runs.{Run}
use Rattle.om_model.specs.Pool.State.{State, drawn_more}
use Rattle.om_model.specs.declared.entry.Move.{Move}
use Rattle.om_model.specs.declared.looks.Look.{Look}
use Rattle.om_model.specs.declared.reply.Fault.TheVariants.{OutOfMemory}
use Rattle.om_model.specs.declared.reply.Reply.{Reply}
use Rattle.om_model.specs.declared.reply.Reply.TheVariants as reply
use Rattle.om_model.specs.declared.reply.Why.{Why}

-- What a step asks of the zones: nothing; a search for so many pages by a random word; or a claim of a given
-- run, and where a page of it is held, what is asked then.
pub data Wish : Type 0 where
  Nothing : Wish
  Search : (count word : ℕ) → Wish
  At : (run : Run) → (otherwise : Wish) → Wish

-- what the zones answered: the claim, the looks at the zones that a search passed over, and the look at which
-- a claim at a given place found a page held
pub record Answers : Type 0 where
  pub claim : Option Move
  pub looks : List Look
  pub taken : Option Look

-- the reply, the number of words drawn, the run that is released, and the state after the call
pub record Step : Type 0 where
  pub reply : Reply
  pub words : ℕ
  pub release : Option Run
  pub next : State

-- an answer that draws no word and changes nothing
abbrev pub unchanged : State → Reply → Step
unchanged state answer = record { reply = answer; words = 0; release = None; next = state }

-- a null, or where the option says so the fault in its place
abbrev pub null_or_fault_by : Bool → Why → Reply
null_or_fault_by xmalloc why = if xmalloc then reply.Fault (OutOfMemory why) else reply.Null why

-- the same by the rules
abbrev pub null_or_fault : Rules → Why → Reply
null_or_fault rules why = null_or_fault_by rules.options.xmalloc why

-- whether what was asked is denied: by a null or a fault
abbrev pub is_denied : Reply → Bool
is_denied (reply.Null why) = true
is_denied (reply.Fault fault) = true
is_denied other = false

-- where it is denied, no page is released and nothing changes but the words drawn
abbrev pub KeepsWhereDenied : State → Step → Type 0
KeepsWhereDenied state step = is_denied step.reply ≡ true → (step.release ≡ None) × (step.next ≡ drawn_more step.words state)
