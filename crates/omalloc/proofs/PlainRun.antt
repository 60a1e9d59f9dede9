-- What the plain form of a script's run tells. The commands of its calls ascend, so no other calls can be meant
-- than those that are read from the journals.
use Rattle.std.proofs.Common.{◌≡◌, ℕ, ◌+◌, ◌-◌, ◌<◌, ◌≤◌, Bool, true, false, cond, List, [], ◌∷◌, length, map, Option, Some, None, refl, ap, ◌∙◌, subst, arith, rules, slice_get, Decides, IsTrue, ◌↔◌}
use Rattle.std.specs.List.{AllByRecursion, last_or}
use Rattle.om_model.specs.contracts.operation.CallPartialEq.TheImpl as call
use Rattle.om_model.specs.contracts.reply.OutcomePartialEq.TheImpl as same
use Rattle.om_model.specs.Pool.WellFormed.{EachPair}
use Rattle.om_model.specs.Scripts.Calls.{AreCalls}
use Rattle.om_model.specs.Scripts.Outcomes.{outcome_of, is_fault}
use Rattle.om_model.specs.declared.entry.Entry.{Entry}
use Rattle.om_model.specs.declared.operation.Call.{Call}
use Rattle.om_model.specs.declared.operation.Op.{Op}
use Rattle.om_model.specs.declared.reply.Outcome.{Outcome}
use Rattle.om_model.specs.declared.reply.Outcome.TheVariants as outcome
use Rattle.om_model.specs.declared.reply.Reply.{Reply}
use Rattle.om_model.proofs.Each.{all-weaker}
use Rattle.omalloc.specs.declared.command.Command.{Command}
use Rattle.omalloc.specs.ScriptRun.{Course, nothing, command_run, run_from, op_of, assigned, IsCourse, IsEnded, IsScriptRun}

pub calls-decide : (a b : Call) → Decides (call.eq-value.it a b) (a ≡ b)
calls-decide a b = search rules

pub outcomes-decide : (a b : Outcome) → Decides (same.eq-value.it a b) (a ≡ b)
outcomes-decide a b = search rules

last-at : {X : Type 0} (o : Option X) (x : X) (xs : List X) → last_or o (x ∷ xs) ≡ slice_get (x ∷ xs) (length xs)
last-at o x [] = refl
last-at o x (y ∷ ys) = last-at (Some x) y ys

pub last-read : {X : Type 0} (xs : List X) → last_or None xs ≡ slice_get xs (length xs - 1)
last-read [] = refl
last-read (x ∷ xs) =
    let place : length xs ≡ length (x ∷ xs) - 1 = omega arith in
    last-at None x xs ∙ ap (slice_get (x ∷ xs)) place

-- each call has this number or a later one, and they ascend
abbrev Ascends : ℕ → Course → Type 0
Ascends number course = AllByRecursion (λ call. number ≤ call.command) course.calls × EachPair (λ a b. a.command < b.command) course.calls

ascends-cond : (number : ℕ) (test : Bool) (course : Course) → Ascends number course → Ascends number (cond test nothing course)
ascends-cond number true course rest = (tt, tt)
ascends-cond number false course rest = rest

ascends-command : (number : ℕ) (called : Option Op) (replies : List Reply) (others : Outcome → List Reply → Course) → ((o : Outcome) (rs : List Reply) → Ascends (number + 1) (others o rs))
    → Ascends number (command_run number called replies others)
ascends-command number None replies others rest =
    let later = rest outcome.Done replies in
    (all-weaker (λ call. number + 1 ≤ call.command) (λ call. number ≤ call.command) (others outcome.Done replies).calls (λ call le. omega arith) later.0, later.1)
ascends-command number (Some called) [] others rest = (tt, tt)
ascends-command number (Some called) (reply ∷ replies) others rest =
    let o = outcome_of called reply in
    let later = ascends-cond (number + 1) (is_fault o) (others o replies) (rest o replies) in
    let calls = (cond (is_fault o) nothing (others o replies)).calls in
    let first : number ≤ number = omega arith in (
      (first, all-weaker (λ call. number + 1 ≤ call.command) (λ call. number ≤ call.command) calls (λ call le. omega arith) later.0),
      (all-weaker (λ call. number + 1 ≤ call.command) (λ call. number < call.command) calls (λ call le. omega arith) later.0, later.1),
    )

ascends : (number : ℕ) (values : List ℕ) (commands : List Command) (replies : List Reply) → Ascends number (run_from number values commands replies)
ascends number values [] replies = (tt, tt)
ascends number values (c ∷ commands) replies =
    ascends-command number (op_of values c) replies (λ o others. run_from (number + 1) (assigned values c o) commands others)
    (λ o others. ascends (number + 1) (assigned values c o) commands others)

-- a script has run where it has run with the calls that are read
pub run-decided : (pools caller variables : ℕ) (commands : List Command) (journals : List (List Entry)) (outcomes : List Outcome) (read : List (Call × List Reply)) (is : Bool)
    → ((answered : List (Call × List Reply)) → EachPair (λ a b. a.command < b.command) (map (λ a. a.0) answered) → AreCalls pools caller answered journals → answered ≡ read)
    → IsTrue is ↔ (IsCourse variables commands read outcomes × IsEnded commands outcomes × AreCalls pools caller read journals)
    → IsTrue is ↔ IsScriptRun pools caller variables commands journals outcomes
run-decided pools caller variables commands journals outcomes read is alone decided =
    let With : List (Call × List Reply) → Type 0 = λ answered. IsCourse variables commands answered outcomes × IsEnded commands outcomes × AreCalls pools caller answered journals in (
      (λ yes.
          let run = decided.0 yes in
          record { answered = read; ran = run.0; ended = run.1; stand = run.2 }),
      (λ run.
          let Pairs : Course → Type 0 = λ course. EachPair (λ a b. a.command < b.command) course.calls in
          let ascend = subst Pairs run.ran (ascends 1 _ commands _).1 in
          let given : With run.answered = (run.ran, run.ended, run.stand) in
          decided.1 (subst With (alone run.answered ascend run.stand) given)),
    )
