-- A script's run, command by command: so far its calls have these replies, and the rest of the run follows,
-- whatever later replies are.
use Rattle.std.proofs.Common.{◌≡◌, ℕ, zero, suc, ◌+◌, ◌<◌, ◌==◌, Bool, true, false, if◌then◌else◌, Option, Some, None, List, [], ◌∷◌, ◌++◌, length, map, replicate, refl, sym, subst, ◌∙◌, ap, arith, append_assoc, append-nil, drop, drop-cons, get_or, ◌≤◌, ◌||◌, length-append, add-one, inr}
use Rattle.std.specs.List.{flat_map, AllByRecursion, list_any, slice_index_or}
use Rattle.std.proofs.lemmas.List.{map-append, drop_all}
use Rattle.std.proofs.lemmas.List.Concat.{flat_map-append}
use Rattle.std.proofs.lemmas.List.Folds.{list_any-append}
use Rattle.om_opts.specs.declared.options.Opts.{Opts}
use Rattle.om_words.specs.DrawnWords.{WordSource, undrawn}
use Rattle.om_words.specs.PlannedWords.{source_for}
use Rattle.om_words.specs.declared.plan.WordPlan.{WordPlan}
use Rattle.om_model.specs.declared.entry.Asked.{Asked}
use Rattle.om_model.specs.declared.entry.Entry.{Entry}
use Rattle.om_model.specs.declared.entry.Entry.TheVariants as journal
use Rattle.om_model.specs.declared.operation.Call.{Call}
use Rattle.om_model.specs.declared.operation.Op.{Op}
use Rattle.om_model.specs.declared.operation.Op.TheVariants as op
use Rattle.om_model.specs.declared.operation.Who.{Who}
use Rattle.om_model.specs.declared.reply.Outcome.{Outcome}
use Rattle.om_model.specs.declared.reply.Outcome.TheVariants as outcome
use Rattle.om_model.specs.declared.reply.Reply.{Reply}
use Rattle.om_model.specs.Data.CallEntry.{CallEntry}
use Rattle.om_model.specs.Output.Head.{Head, rules_of}
use Rattle.om_model.specs.Pool.Journal.{phases_in, phase_numbers}
use Rattle.om_model.specs.Scripts.Calls.{AreCalls, OnlyCallers, CallerBelow, IsAnswered, last_reply, seen_of, seen_from, seen_in, asked_in}
use Rattle.om_model.specs.Scripts.Outcomes.{outcome_of, is_fault}
use Rattle.om_pool.specs.PoolView.{rules_by}
use Rattle.omalloc.specs.declared.command.Command.{Command}
use Rattle.omalloc.specs.Run.{who_of, IsDone, IsCommandRun}
use Rattle.omalloc.specs.ScriptRun.{Course, nothing, with_call, with_outcome, call_of, command_run, run_from, op_of, assigned, IsEnded, IsScriptRun}

abbrev pub calls_of : List (Call × List Reply) → List Call
calls_of answered = map (λ a. a.0) answered

abbrev pub replies_of : List (Call × List Reply) → List Reply
replies_of answered = map (λ a. last_reply a.1) answered

abbrev pub joined : List Call → List Outcome → Course → Course
joined calls outcomes ran = record { calls = calls ++ ran.calls; outcomes = outcomes ++ ran.outcomes }

-- the first part of a whole run, of which `next` is the rest
pub record IsPart (whole next : List Reply → Course) (entries : List Entry) (outcomes : List Outcome) : Type 0 where
  pub answered : List (Call × List Reply)
  pub ran : (later : List Reply) → whole (replies_of answered ++ later) ≡ joined (calls_of answered) outcomes (next later)
  pub stand : AreCalls 1 0 answered (entries ∷ [])
  pub only : OnlyCallers 1 1 entries

all_more : {X : Type 0} (P : X → Type 0) (xs : List X) (x : X) → AllByRecursion P xs → P x → AllByRecursion P (xs ++ x ∷ [])
all_more P [] x all here = (here, tt)
all_more P (y ∷ ys) x (first, all) here = (first, all_more P ys x all here)

answered_once : (call : Op) (reply : Reply) → IsAnswered 1 call (reply ∷ [])
answered_once (op.Malloc size site) reply = omega arith
answered_once (op.Calloc count size site) reply = omega arith
answered_once (op.Realloc address size site) reply = λ _. refl
answered_once (op.Reallocarray address count size site) reply = λ _. refl
answered_once (op.Free address) reply = λ _. refl
answered_once (op.Load address) reply = λ _. refl
answered_once (op.Store address byte) reply = λ _. refl

-- what an entry in phase 0 says, by its parts
abbrev seen : Who → Op → Reply → List Asked
seen who call reply = if who.caller == 0 then record { command = who.command; phase = 0; hop = who.hop; op = call; reply = reply } ∷ [] else []

seen_entry : (entry : CallEntry) (number : ℕ) (call : Op) → entry.who ≡ who_of number → entry.op ≡ call →
    seen_of 0 0 entry ≡ record { command = number; phase = 0; hop = 0; op = call; reply = entry.reply } ∷ []
seen_entry entry number call who_is op_is =
    ap (λ who. seen who entry.op entry.reply) who_is ∙ ap (λ o. seen (who_of number) o entry.reply) op_is

some_empty : {X : Type 0} {x : X} {xs : List X} → x ∷ xs ≡ [] → ⊥
some_empty e = cc

-- a call that is entered where no phase was is seen in the phase of the journal's start
seen_from-call : (caller phase : ℕ) (entries : List Entry) (entry : CallEntry) → phase_numbers entries ≡ [] →
    seen_from caller phase (entries ++ journal.Call entry ∷ []) ≡ seen_from caller phase entries ++ seen_of caller phase entry
seen_from-call caller phase [] entry none = append-nil (seen_of caller phase entry)
seen_from-call caller phase (journal.Call first ∷ entries) entry none =
    ap (λ asked. seen_of caller phase first ++ asked) (seen_from-call caller phase entries entry none)
    ∙ sym (append_assoc (seen_of caller phase first) (seen_from caller phase entries) (seen_of caller phase entry))
seen_from-call caller phase (journal.Phase number ∷ entries) entry none = absurd (some_empty none)

AreCalls-none : AreCalls 1 0 [] ([] ∷ [])
AreCalls-none = record { each = tt; stand = stand }
  where
    stand : (pool : ℕ) → pool < 1 → seen_in 0 (slice_index_or ([] ∷ []) pool []) ≡ []
    stand zero below = refl
    stand (suc pool) below = absurd (omega arith)

AreCalls-more : (answered : List (Call × List Reply)) (entries : List Entry) (entry : CallEntry) (number : ℕ) (call : Op) →
    entry.who ≡ who_of number → entry.op ≡ call → phase_numbers entries ≡ [] → AreCalls 1 0 answered (entries ∷ []) →
    AreCalls 1 0 (answered ++ (call_of number call, entry.reply ∷ []) ∷ []) ((entries ++ journal.Call entry ∷ []) ∷ [])
AreCalls-more answered entries entry number call who_is op_is none calls = record {
  each = all_more (λ a. IsAnswered 1 (a.0).op a.1) answered (call_of number call, entry.reply ∷ []) calls.each (answered_once call entry.reply);
  stand = stand;
}
  where
    stand : (pool : ℕ) → pool < 1 →
        seen_in 0 (slice_index_or ((entries ++ journal.Call entry ∷ []) ∷ []) pool []) ≡ flat_map (asked_in 1 0 pool) (answered ++ (call_of number call, entry.reply ∷ []) ∷ [])
    stand zero below =
        seen_from-call 0 0 entries entry none
        ∙ ap (λ asked. asked ++ seen_of 0 0 entry) (calls.stand 0 (omega arith))
        ∙ ap (λ asked. flat_map (asked_in 1 0 0) answered ++ asked) (seen_entry entry number call who_is op_is)
        ∙ sym (flat_map-append (asked_in 1 0 0) answered ((call_of number call, entry.reply ∷ []) ∷ []))
    stand (suc pool) below = absurd (omega arith)

OnlyCallers-more : (entries : List Entry) (entry : CallEntry) (number : ℕ) → entry.who ≡ who_of number → OnlyCallers 1 1 entries → OnlyCallers 1 1 (entries ++ journal.Call entry ∷ [])
OnlyCallers-more entries entry number who_is only = record {
  callers = all_more (CallerBelow 1) entries (journal.Call entry) only.callers (omega (arith, ap (λ (who : Who). who.caller) who_is));
  entered = flat_map-append phases_in entries (journal.Call entry ∷ []) ∙ append-nil (flat_map phases_in entries) ∙ only.entered;
}

joined_outcome : (calls : List Call) (outcomes : List Outcome) (o : Outcome) (ran : Course) → joined calls outcomes (with_outcome o ran) ≡ joined calls (outcomes ++ o ∷ []) ran
joined_outcome calls outcomes o ran =
    let P : List Outcome → Course = λ os. record { calls = calls ++ ran.calls; outcomes = os } in
    ap P (sym (append_assoc outcomes (o ∷ []) ran.outcomes))

joined_call : (calls : List Call) (outcomes : List Outcome) (call : Call) (ran : Course) → joined calls outcomes (with_call call ran) ≡ joined (calls ++ call ∷ []) outcomes ran
joined_call calls outcomes call ran =
    let P : List Call → Course = λ cs. record { calls = cs; outcomes = outcomes ++ ran.outcomes } in
    ap P (sym (append_assoc calls (call ∷ []) ran.calls))

pub IsPart-start : (whole : List Reply → Course) → IsPart whole whole [] []
IsPart-start whole = record { answered = []; ran = λ later. refl; stand = AreCalls-none; only = record { callers = tt; entered = refl } }

-- before the first command
pub IsPart-script : (variables : ℕ) (commands items : List Command) (values : List ℕ) (entries : List Entry) (outcomes : List Outcome) → items ≡ commands → values ≡ replicate variables 0 → entries ≡ [] → outcomes ≡ [] →
    IsPart (run_from 1 (replicate variables 0) commands) (run_from 1 values items) entries outcomes
IsPart-script variables commands items values entries outcomes same zeros none empty =
    let whole : List Reply → Course = run_from 1 (replicate variables 0) commands in
    let one = IsPart-start whole in
    let two : IsPart whole (run_from 1 values items) [] [] =
    subst (λ vs. IsPart whole (run_from 1 vs items) [] []) (sym zeros) (subst (λ cs. IsPart whole (run_from 1 (replicate variables 0) cs) [] []) (sym same) one) in
    subst (λ es. IsPart whole (run_from 1 values items) es outcomes) (sym none) (subst (λ os. IsPart whole (run_from 1 values items) [] os) (sym empty) two)

-- the part with one call more
called : (whole : List Reply → Course) (others : Outcome → List Reply → Course) (number : ℕ) (call : Op) (old : List Entry) (entry : CallEntry) (outcomes : List Outcome) →
    entry.who ≡ who_of number → entry.op ≡ call →
    IsPart whole (λ later. command_run number (Some call) later others) old outcomes →
    IsPart whole (λ later. if is_fault (outcome_of call entry.reply) then nothing else others (outcome_of call entry.reply) later) (old ++ journal.Call entry ∷ []) (outcomes ++ outcome_of call entry.reply ∷ [])
called whole others number call old entry outcomes who_is op_is part =
    let made : Call = call_of number call in
    let answer : Call × List Reply = (made, entry.reply ∷ []) in
    record {
      answered = part.answered ++ answer ∷ [];
      ran = λ later.
          let o = outcome_of call entry.reply in
          let rest : Course = if is_fault o then nothing else others o later in
          ap whole (ap (λ rs. rs ++ later) (map-append (λ a. last_reply a.1) part.answered (answer ∷ [])) ∙ append_assoc (replies_of part.answered) (entry.reply ∷ []) later)
          ∙ part.ran (entry.reply ∷ later)
          ∙ joined_call (calls_of part.answered) outcomes made (with_outcome o rest)
          ∙ joined_outcome (calls_of part.answered ++ made ∷ []) outcomes o rest
          ∙ ap (λ cs. joined cs (outcomes ++ o ∷ []) rest) (sym (map-append (λ a. a.0) part.answered (answer ∷ [])));
      stand = AreCalls-more part.answered old entry number call who_is op_is part.only.entered part.stand;
      only = OnlyCallers-more old entry number who_is part.only;
    }

-- the part with one command more
stepped : (whole : List Reply → Course) (others : Outcome → List Reply → Course) (number : ℕ) (made : Option Op) (old new : List Entry) (o : Outcome) (outcomes : List Outcome) →
    IsDone number made old new o → IsPart whole (λ later. command_run number made later others) old outcomes →
    IsPart whole (λ later. if is_fault o then nothing else others o later) new (outcomes ++ o ∷ [])
stepped whole others number None old new o outcomes (same, done) part =
    let P : Outcome → Type 0 = λ p. IsPart whole (λ later. if is_fault p then nothing else others p later) old (outcomes ++ p ∷ []) in
    let here : P outcome.Done = record {
      answered = part.answered;
      ran = λ later. part.ran later ∙ joined_outcome (calls_of part.answered) outcomes outcome.Done (others outcome.Done later);
      stand = part.stand;
      only = part.only;
    } in
    subst (λ es. IsPart whole (λ later. if is_fault o then nothing else others o later) es (outcomes ++ o ∷ [])) (sym same) (subst P (sym done) here)
stepped whole others number (Some call) old new o outcomes done part =
    let P : Outcome → Type 0 = λ p. IsPart whole (λ later. if is_fault p then nothing else others p later) (old ++ journal.Call done.entry ∷ []) (outcomes ++ p ∷ []) in
    subst (λ es. IsPart whole (λ later. if is_fault o then nothing else others o later) es (outcomes ++ o ∷ [])) (sym done.added)
    (subst P (sym done.outcome_is) (called whole others number call old done.entry outcomes done.who_is done.op_is part))

-- the command at place i is the next one
pub IsPart-at : (whole : List Reply → Course) (number i : ℕ) (values : List ℕ) (commands : List Command) (d : Command) (entries : List Entry) (outcomes : List Outcome) → i < length commands →
    IsPart whole (run_from number values (drop i commands)) entries outcomes → IsPart whole (run_from number values (get_or commands i d ∷ drop (i + 1) commands)) entries outcomes
IsPart-at whole number i values commands d entries outcomes below part =
    subst (λ rest. IsPart whole (run_from number values rest) entries outcomes) (drop-cons commands i d below ∙ ap (λ k. get_or commands i d ∷ drop k commands) (sym (add-one i))) part

-- no command is left
pub IsPart-over : (whole : List Reply → Course) (number i : ℕ) (values : List ℕ) (commands : List Command) (entries : List Entry) (outcomes : List Outcome) → length commands ≤ i →
    IsPart whole (run_from number values (drop i commands)) entries outcomes → IsPart whole (λ later. nothing) entries outcomes
IsPart-over whole number i values commands entries outcomes over part =
    subst (λ rest. IsPart whole (run_from number values rest) entries outcomes) (drop_all i commands over) part

-- a command that met no fault
pub IsPart-next : (whole : List Reply → Course) (number : ℕ) (c : Command) (rest : List Command) (before after : List ℕ) (old new : List Entry) (o : Outcome) (outcomes : List Outcome) →
    IsCommandRun number c before after old new o → is_fault o ≡ false →
    IsPart whole (run_from number before (c ∷ rest)) old outcomes → IsPart whole (run_from (number + 1) after rest) new (outcomes ++ o ∷ [])
IsPart-next whole number c rest before after old new o outcomes run fine part =
    let next : Outcome → List Reply → Course = λ p later. run_from (number + 1) (assigned before c p) rest later in
    let one = stepped whole next number (op_of before c) old new o outcomes run.done part in
    let two : IsPart whole (run_from (number + 1) (assigned before c o) rest) new (outcomes ++ o ∷ []) =
    subst (λ b. IsPart whole (λ later. if b then nothing else next o later) new (outcomes ++ o ∷ [])) fine one in
    subst (λ values. IsPart whole (run_from (number + 1) values rest) new (outcomes ++ o ∷ [])) (sym (run.values fine)) two

-- a command that met a fault
pub IsPart-stop : (whole : List Reply → Course) (number : ℕ) (c : Command) (rest : List Command) (before after : List ℕ) (old new : List Entry) (o : Outcome) (outcomes : List Outcome) →
    IsCommandRun number c before after old new o → is_fault o ≡ true →
    IsPart whole (run_from number before (c ∷ rest)) old outcomes → IsPart whole (λ later. nothing) new (outcomes ++ o ∷ [])
IsPart-stop whole number c rest before after old new o outcomes run fault part =
    let next : Outcome → List Reply → Course = λ p later. run_from (number + 1) (assigned before c p) rest later in
    let one = stepped whole next number (op_of before c) old new o outcomes run.done part in
    subst (λ b. IsPart whole (λ later. if b then nothing else next o later) new (outcomes ++ o ∷ [])) fault one

joined_nothing : (calls : List Call) (outcomes : List Outcome) → joined calls outcomes nothing ≡ record { calls = calls; outcomes = outcomes }
joined_nothing calls outcomes =
    let P : List Call → Course = λ cs. record { calls = cs; outcomes = outcomes ++ [] } in
    let Q : List Outcome → Course = λ os. record { calls = calls; outcomes = os } in
    ap P (append-nil calls) ∙ ap Q (append-nil outcomes)

-- a run of which nothing is left
pub IsPart-end : (variables : ℕ) (commands : List Command) (entries : List Entry) (outcomes : List Outcome) →
    IsEnded commands outcomes → IsPart (run_from 1 (replicate variables 0) commands) (λ later. nothing) entries outcomes →
    IsScriptRun 1 0 variables commands (entries ∷ []) outcomes
IsPart-end variables commands entries outcomes ended part = record {
  answered = part.answered;
  ran = ap (run_from 1 (replicate variables 0) commands) (sym (append-nil (replies_of part.answered))) ∙ part.ran [] ∙ joined_nothing (calls_of part.answered) outcomes;
  ended = ended;
  stand = part.stand;
}

pub faulted_last : (commands : List Command) (outcomes : List Outcome) (o : Outcome) → is_fault o ≡ true → IsEnded commands (outcomes ++ o ∷ [])
faulted_last commands outcomes o fault =
    let any : list_any is_fault (outcomes ++ o ∷ []) ≡ true = list_any-append is_fault outcomes (o ∷ []) ∙ grind (arith, fault) in
    inr any

pub fault_more : (outcomes : List Outcome) (o : Outcome) (b : Bool) → list_any is_fault outcomes ≡ false → is_fault o ≡ b → list_any is_fault (outcomes ++ o ∷ []) ≡ b
fault_more outcomes o b fine last = list_any-append is_fault outcomes (o ∷ []) ∙ rw (fine, last) (or_false b)
  where
    or_false : (v : Bool) → (false || (v || false)) ≡ v
    or_false true = refl
    or_false false = refl

pub length_more : (outcomes : List Outcome) (o : Outcome) → length (outcomes ++ o ∷ []) ≡ length outcomes + 1
length_more outcomes o = length-append outcomes (o ∷ [])

pub IsPart-pushed : (whole next : List Reply → Course) (entries : List Entry) (outcomes pushed : List Outcome) → pushed ≡ outcomes → IsPart whole next entries outcomes → IsPart whole next entries pushed
IsPart-pushed whole next entries outcomes pushed same part = subst (λ os. IsPart whole next entries os) (sym same) part

pub IsEnded-pushed : (commands : List Command) (outcomes pushed : List Outcome) → pushed ≡ outcomes → IsEnded commands outcomes → IsEnded commands pushed
IsEnded-pushed commands outcomes pushed same ended = subst (λ os. IsEnded commands os) (sym same) ended

-- the rules of a pool that is alone are those of the head
pub rules_by_head : (options : Opts) (zones : ℕ) (plan : WordPlan) (warned : List ℕ) (head : Head) (words : WordSource) →
    record { options = options; zones = zones; plan = plan; warned = warned } ≡ head → words ≡ undrawn (source_for plan 0) →
    rules_by options zones words.source ≡ rules_of head 0
rules_by_head options zones plan warned head words same drawn =
    ap (λ (w : WordSource). rules_by options zones w.source) drawn ∙ ap (λ (h : Head). rules_of h 0) same
