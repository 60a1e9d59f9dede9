-- Script run. Given the replies to its calls, a script takes its commands in order, from number 1 on, with
-- all variables 0. It ends after its last command, or at the first outcome that is a fault. Its calls stand in
-- the journals, all of them in phase 0 so far.
use Rattle.std.specs.Prelude.{◌≡◌, ℕ, ◌+◌, ◌*◌, ◌%◌, ◌^◌, ◌&&◌, ◌==◌, List, [], ◌∷◌, Option, Some, None, if◌then◌else◌, slice_index, slice_set, replicate, length, map, ◌⊎◌, IsTrue}
use Rattle.std.specs.List.{list_any}
use Rattle.std.specs.Option.{is_some}
use Rattle.om_model.specs.declared.entry.Entry.{Entry}
use Rattle.om_model.specs.declared.operation.Op.{Op}
use Rattle.om_model.specs.declared.operation.Op.TheVariants as op
use Rattle.om_model.specs.declared.operation.Call.{Call}
use Rattle.om_model.specs.declared.reply.Reply.{Reply}
use Rattle.om_model.specs.declared.reply.Outcome.{Outcome}
use Rattle.om_model.specs.declared.reply.Outcome.TheVariants as outcome
use Rattle.om_model.specs.Pool.Product.{product}
use Rattle.om_model.specs.Scripts.Calls.{AreCalls, last_reply}
use Rattle.om_model.specs.Scripts.Outcomes.{outcome_of, is_fault}
use Rattle.omalloc.specs.declared.command.Command.{Command}
use Rattle.omalloc.specs.declared.command.Command.TheVariants as command

-- the address so many bytes after another; behind the greatest number of 64 bits comes 0 again
abbrev pub at_offset : ℕ → ℕ → ℕ
at_offset address off = (address + off) % 2 ^ 64

-- a realloc of 0 is a call of malloc
abbrev pub realloc_op : ℕ → ℕ → ℕ → Op
realloc_op address size site = if address == 0 then op.Malloc size site else op.Realloc address size site

-- so is a reallocarray of 0 whose product doesn't overflow
abbrev pub reallocarray_op : ℕ → ℕ → ℕ → ℕ → Op
reallocarray_op address count size site =
    if (address == 0) && is_some (product count size) then op.Malloc (count * size) site else op.Reallocarray address count size site

-- the call that a command makes; a free of 0 makes none
abbrev pub op_of : List ℕ → Command → Option Op
op_of values (command.Malloc var size site) = Some (op.Malloc size site)
op_of values (command.Calloc var count size site) = Some (op.Calloc count size site)
op_of values (command.Realloc var from size site) = Some (realloc_op (slice_index values from) size site)
op_of values (command.Reallocarray var from count size site) = Some (reallocarray_op (slice_index values from) count size site)
op_of values (command.Free var) = if slice_index values var == 0 then None else Some (op.Free (slice_index values var))
op_of values (command.Load var off) = Some (op.Load (at_offset (slice_index values var) off))
op_of values (command.Store var off byte) = Some (op.Store (at_offset (slice_index values var) off) byte)

-- the number that an allocation leaves in its variable
abbrev pub given : Outcome → ℕ
given (outcome.Block address) = address
given other = 0

-- the variables after a command that met no fault
abbrev pub assigned : List ℕ → Command → Outcome → List ℕ
assigned values (command.Malloc var size site) o = slice_set values var (given o)
assigned values (command.Calloc var count size site) o = slice_set values var (given o)
assigned values (command.Realloc var from size site) o = slice_set values var (given o)
assigned values (command.Reallocarray var from count size site) o = slice_set values var (given o)
assigned values other o = values

-- the calls that a script makes, and its outcomes
pub record Course : Type 0 where
  pub calls : List Call
  pub outcomes : List Outcome

abbrev pub nothing : Course
nothing = record { calls = []; outcomes = [] }

abbrev pub with_outcome : Outcome → Course → Course
with_outcome o course = record { calls = course.calls; outcomes = o ∷ course.outcomes }

abbrev pub with_call : Call → Course → Course
with_call call course = record { calls = call ∷ course.calls; outcomes = course.outcomes }

-- the call of the command with this number
abbrev pub call_of : ℕ → Op → Call
call_of number called = record { command = number; phase = 0; op = called }

-- a command without a call is done; one with a call takes the next reply, and a fault ends the script
abbrev pub command_run : ℕ → Option Op → List Reply → (Outcome → List Reply → Course) → Course
command_run number None replies others = with_outcome outcome.Done (others outcome.Done replies)
command_run number (Some called) [] others = nothing
command_run number (Some called) (r ∷ replies) others =
    let o = outcome_of called r in
    with_call (call_of number called) (with_outcome o (if is_fault o then nothing else others o replies))

abbrev pub run_from : ℕ → List ℕ → List Command → List Reply → Course
run_from number values [] replies = nothing
run_from number values (c ∷ commands) replies =
    command_run number (op_of values c) replies (λ o others. run_from (number + 1) (assigned values c o) commands others)

-- the run of a script with so many variables
abbrev pub script_run : ℕ → List Command → List Reply → Course
script_run variables commands replies = run_from 1 (replicate variables 0) commands replies

-- by the last replies to its calls a script with so many variables makes these calls, and has these outcomes
abbrev pub IsCourse : ℕ → List Command → List (Call × List Reply) → List Outcome → Type 0
IsCourse variables commands answered outcomes =
    script_run variables commands (map (λ a. last_reply a.1) answered) ≡ record { calls = map (λ a. a.0) answered; outcomes = outcomes }

-- each command has its outcome, or the run ended at a fault
abbrev pub IsEnded : List Command → List Outcome → Type 0
IsEnded commands outcomes = (length outcomes ≡ length commands) ⊎ IsTrue (list_any is_fault outcomes)

-- A script with so many variables has run: by the last replies to its calls it has these outcomes and makes
-- no other calls, it went to its end, and its calls stand in the journals.
pub record IsScriptRun (pools caller variables : ℕ) (commands : List Command) (journals : List (List Entry)) (outcomes : List Outcome) : Type 0 where
  pub answered : List (Call × List Reply)
  pub ran : IsCourse variables commands answered outcomes
  pub ended : IsEnded commands outcomes
  pub stand : AreCalls pools caller answered journals
