-- A written run, and the answers of the parts of the program as answers of the whole.
use Rattle.std.proofs.Common.{◌≡◌, ℕ, zero, suc, ◌<◌, ◌≤◌, inl, inr, Bool, true, false, ◌||◌, Option, Some, None, IfSome, IsSome, Result, Ok, Err, List, [], ◌∷◌, ◌++◌, length, refl, sym, subst, ◌∙◌, ap, arith, append-nil}
use Rattle.std.specs.List.{slice_get, slice_index_or, list_any}
use Rattle.std.proofs.lemmas.Option.{none-some, same_Some}
use Rattle.om_broker.specs.Lone.{Lone}
use Rattle.om_io.specs.Sink.{Writes}
use Rattle.om_io.specs.Source.{input_limit}
use Rattle.om_io.specs.declared.sink.WriteStop.{WriteStop}
use Rattle.om_io.specs.declared.sink.WriteStop.TheVariants as stop
use Rattle.om_model.proofs.Lawful.{state_of-well_formed}
use Rattle.om_model.specs.declared.entry.Entry.{Entry}
use Rattle.om_model.specs.declared.reply.Outcome.{Outcome}
use Rattle.om_model.specs.Output.Content.{Told}
use Rattle.om_model.specs.Output.Head.{Head, rules_of}
use Rattle.om_model.specs.Output.Ranges.{IsInRange}
use Rattle.om_model.specs.Output.Text.{text_of}
use Rattle.om_model.specs.Pool.Journal.{IsLawful, state_of}
use Rattle.om_model.specs.Pool.WellFormed.{IsWellFormed}
use Rattle.om_model.specs.Scripts.Outcomes.{is_fault}
use Rattle.om_model.specs.Zones.Looks.{AreLooks}
use Rattle.om_model.specs.Zones.Moves.{moves_of, moves_from}
use Rattle.om_model.specs.Zones.Order.{IsZoneOrder}
use Rattle.om_pool.specs.PoolView.{PoolView, IsRun, IsAlone}
use Rattle.omalloc.specs.AcceptedInput.{script_of}
use Rattle.omalloc.specs.Answers.{Input, Output, IsAccepted, IsCause, IsRunOf, TellsRunOf, WritesAll, WritesFront, WritesPart, output_of, IsAnswer, IsRunAnswer, IsRefusalAnswer, IsComplete, IsArgumentsAnswer}
use Rattle.omalloc.specs.Arguments.{head_of_arguments}
use Rattle.omalloc.specs.declared.refusal.ArgumentRefusal.TheVariants as argument
use Rattle.omalloc.specs.declared.refusal.Refusal.{Refusal}
use Rattle.omalloc.specs.declared.refusal.Refusal.TheVariants.{Argument, Line, TooLong}
use Rattle.omalloc.specs.declared.status.Status.{Status}
use Rattle.omalloc.specs.declared.status.Status.TheVariants as status
use Rattle.omalloc.specs.Headline.{IsHeadline}
use Rattle.omalloc.specs.Heads.{IsHead}
use Rattle.omalloc.specs.Refusal.{refusal_line}
use Rattle.omalloc.specs.Report.{content}
use Rattle.omalloc.specs.Run.{RanAlone}
use Rattle.omalloc.specs.Script.{ScriptText, IsScript}
use Rattle.omalloc.specs.ScriptRun.{IsScriptRun}

-- ---- a run of one script on one pool

one_pool : (P : ℕ → List Entry → Type 0) (entries : List Entry) → P 0 entries → (pool : ℕ) → pool < 1 → P pool (slice_index_or (entries ∷ []) pool [])
one_pool P entries here zero below = here
one_pool P entries here (suc pool) below = absurd (omega arith)

one_script : (script : ScriptText) (told : Told) (entries : List Entry) → IsScriptRun 1 0 (length script.names) script.commands (entries ∷ []) told.outcomes →
    (caller : ℕ) (s : ScriptText) (t : Told) → slice_get (script ∷ []) caller ≡ Some s → slice_get (told ∷ []) caller ≡ Some t →
    IsScriptRun 1 caller (length s.names) s.commands (entries ∷ []) t.outcomes
one_script script told entries run zero s t at_script at_told =
    let P : ScriptText → Type 0 = λ x. IsScriptRun 1 0 (length x.names) x.commands (entries ∷ []) told.outcomes in
    let Q : Told → Type 0 = λ x. IsScriptRun 1 0 (length s.names) s.commands (entries ∷ []) x.outcomes in
    subst Q (same_Some _ _ at_told) (subst P (same_Some _ _ at_script) run)
one_script script told entries run (suc caller) s t at_script at_told = absurd (none-some s at_script)

-- wherever the journal is cut off, what is in use is apart
apart-alone : (head : Head) (entries : List Entry) → IsLawful (rules_of head 0) entries → (pool : ℕ) (before rest : List Entry) → pool < 1 →
    slice_index_or (entries ∷ []) pool [] ≡ before ++ rest → IsWellFormed (rules_of head pool) (state_of (rules_of head pool) before)
apart-alone head entries lawful zero before rest below cut = state_of-well_formed (rules_of head 0) before rest (subst (λ es. IsLawful (rules_of head 0) es) cut lawful)
apart-alone head entries lawful (suc pool) before rest below cut = absurd (omega arith)

headline-alone : (head : Head) (script : ScriptText) (pool : PoolView Lone) (outcomes : List Outcome) → IsHead head → IsScript script → RanAlone head script pool outcomes → IsRun pool → IsAlone pool →
    IsInRange (content head pool.journal.items script.name outcomes) → IsHeadline head (script ∷ []) (content head pool.journal.items script.name outcomes)
headline-alone head script pool outcomes form is ran run alone numbers =
    let one = form.pools in
    let entries = pool.journal.items in
    let told : Told = record { name = script.name; outcomes = outcomes } in
    let moves : moves_of (rules_of head 0) 0 entries ≡ moves_from (rules_of head) 0 (entries ∷ []) = sym (append-nil (moves_of (rules_of head 0) 0 entries)) in
    let ordered : IsZoneOrder (moves_of (rules_of head 0) 0 entries) = subst (λ rules. IsZoneOrder (moves_of rules 0 entries)) ran.rules alone.order in
    let looked : AreLooks (rules_of head 0) (moves_of (rules_of head 0) 0 entries) entries = subst (λ rules. AreLooks rules (moves_of rules 0 entries) entries) ran.rules alone.looks in
    let looks : AreLooks (rules_of head 0) (moves_from (rules_of head) 0 (entries ∷ [])) entries = subst (λ ms. AreLooks (rules_of head 0) ms entries) moves looked in
    let lawful : IsLawful (rules_of head 0) entries = subst (λ rules. IsLawful rules entries) ran.rules run.lawful in
    record {
      head_is = refl;
      form = record { pools = sym one; names = (is.name, tt); words = form.words; numbers = numbers };
      board = refl;
      names = refl;
      lawful = λ pool below. one_pool (λ n es. IsLawful (rules_of head n) es) entries lawful pool (omega (arith, one, below));
      apart = λ pool before rest below. apart-alone head entries lawful pool before rest (omega (arith, one, below));
      order = subst (λ ms. IsZoneOrder ms) moves ordered;
      looks = λ pool below. one_pool (λ n es. AreLooks (rules_of head n) (moves_from (rules_of head) 0 (entries ∷ [])) es) entries looks pool (omega (arith, one, below));
      ran = λ caller s t at_script at_told. subst (λ pools. IsScriptRun pools caller (length s.names) s.commands (entries ∷ []) t.outcomes) (sym one) (one_script script told entries ran.script_run caller s t at_script at_told);
      only = (ran.only, tt);
    }

-- what is known of a script that ran on a pool of its own, and of what is told of it
pub record IsRan (head : Head) (script : ScriptText) (pool : PoolView Lone) (outcomes : List Outcome) (faulted : Bool) (name : List ℕ) : Type 0 where
  pub head_form : IsHead head
  pub script_form : IsScript script
  pub ran : RanAlone head script pool outcomes
  pub run : IsRun pool × IsAlone pool
  pub numbers : IsInRange (content head pool.journal.items name outcomes)
  pub faulted_is : faulted ≡ list_any is_fault outcomes
  pub named : name ≡ script.name

run-of : (head : Head) (script : ScriptText) (pool : PoolView Lone) (outcomes : List Outcome) (faulted : Bool) (name : List ℕ) →
    IsRan head script pool outcomes faulted name → IsRunOf head script faulted (content head pool.journal.items name outcomes)
run-of head script pool outcomes faulted name is =
    let here = subst (λ n. IsInRange (content head pool.journal.items n outcomes)) is.named is.numbers in
    subst (λ n. IsRunOf head script faulted (content head pool.journal.items n outcomes)) (sym is.named)
    (headline-alone head script pool outcomes is.head_form is.script_form is.ran is.run.0 is.run.1 here, or_false (list_any is_fault outcomes) ∙ sym is.faulted_is)
  where
    or_false : (b : Bool) → (b || false) ≡ b
    or_false true = refl
    or_false false = refl

pub tells-run : (head : Head) (script : ScriptText) (pool : PoolView Lone) (outcomes : List Outcome) (faulted : Bool) (name : List ℕ) →
    IsRan head script pool outcomes faulted name → TellsRunOf head script faulted (text_of (content head pool.journal.items name outcomes))
tells-run head script pool outcomes faulted name is = (content head pool.journal.items name outcomes, run-of head script pool outcomes faulted name is, refl)

-- what was written where a write failed, and where memory was short
pub part-written : {K : Type 0} (written : K → Option (List ℕ)) (faults : K → ℕ) (old new : K) (text : List ℕ) (why : WriteStop) → why ≡ stop.Failed →
    Writes written faults old new text (Err why) → WritesPart (output_of written faults old new) text
part-written written faults old new text why failed writes = subst (λ w. Writes written faults old new text (Err w)) failed writes

pub front-written : {K : Type 0} (written : K → Option (List ℕ)) (faults : K → ℕ) (old new : K) (text : List ℕ) (why : WriteStop) → why ≡ stop.Memory →
    Writes written faults old new text (Err why) → WritesFront (output_of written faults old new) text
front-written written faults old new text why short writes = subst (λ w. Writes written faults old new text (Err w)) short writes

-- ---- the answers of the parts are answers of the whole

pub run_answer : (input : Input) (output : Output) (head : Head) (script : ScriptText) (s : Status) → IsAccepted input head script → IsRunAnswer head script output s → IsAnswer input output s
run_answer input output head script status.Finished accepted (text, tells, writes) = (text, (head, script, accepted, tells), writes)
run_answer input output head script status.Faulted accepted (text, tells, writes) = (text, (head, script, accepted, tells), writes)
run_answer input output head script (status.Refused refusal) accepted writes = absurd writes
run_answer input output head script status.Memory accepted (inl nothing) = (accepted.read.none_failed, inl nothing)
run_answer input output head script status.Memory accepted (inr (faulted, text, tells, front)) = (accepted.read.none_failed, inr (text, inl (faulted, (head, script, accepted, tells)), front))
run_answer input output head script status.ReadFault accepted writes = absurd writes
run_answer input output head script status.WriteFault accepted (faulted, text, tells, part) = (text, inl (faulted, (head, script, accepted, tells)), part)

-- no read failed where something is refused
cause-none_failed : (input : Input) (refusal : Refusal) → IsCause input refusal → input.failed_after ≡ input.failed
cause-none_failed input (Argument why at) (missing, is_why, is_at, (unread, none)) = none
cause-none_failed input TooLong (given, none, long) = none
cause-none_failed input (Line at why) (given, is_why, (text, read, refused)) = read.none_failed

pub refusal_answer : (input : Input) (output : Output) (refusal : Refusal) (s : Status) → IsCause input refusal → IsRefusalAnswer refusal output s → IsAnswer input output s
refusal_answer input output refusal status.Finished cause writes = absurd writes
refusal_answer input output refusal status.Faulted cause writes = absurd writes
refusal_answer input output refusal (status.Refused told) cause (same, line) =
    (subst (λ r. IsCause input r) (sym same) cause, subst (λ r. WritesAll output (refusal_line r)) (sym same) line)
refusal_answer input output refusal status.Memory cause front = (cause-none_failed input refusal cause, inr (refusal_line refusal, inr (refusal, cause, refl), front))
refusal_answer input output refusal status.ReadFault cause writes = absurd writes
refusal_answer input output refusal status.WriteFault cause part = (refusal_line refusal, inr (refusal, cause, refl), part)

-- ---- completeness

some_or_none : {X : Type 0} {o : Option X} {x : X} → o ≡ Some x → o ≡ None → ⊥
some_or_none some none = cc

-- the arguments are accepted or refused
both : {X : Type 0} (o : Option X) → IsSome o → o ≡ None → ⊥
both (Some x) given missing = cc
both None given missing = cc

some_of : (P : List ℕ → Type 0) (left : Option (List ℕ)) (text : List ℕ) → left ≡ Some text → IfSome left P → P text
some_of P left text same holds = let Q : Option (List ℕ) → Type 0 = λ o. IfSome o P in subst Q same holds

ok_or_err : {T E : Type 0} {r : Result T E} {x : T} {e : E} → r ≡ Ok x → r ≡ Err e → ⊥
ok_or_err ok err = cc

-- an accepted script isn't refused
not-refused : (input : Input) (refusal : Refusal) (text : List ℕ) (script : ScriptText) → IsCause input refusal → IsSome (head_of_arguments input.arguments) → input.left ≡ Some text → length text ≤ input_limit → script_of text ≡ Ok script → ⊥
not-refused input (Argument why at) text script (missing, is_why, is_at, (unread, none)) given left short says = both (head_of_arguments input.arguments) given missing
not-refused input TooLong text script (given, none, long) accepted left short says =
    let above : input_limit < length text = some_of (λ bytes. input_limit < length bytes) input.left text left long in omega (arith, above, short)
not-refused input (Line at why) text script (given, is_why, (other, read, refused)) accepted left short says =
    let same : text ≡ other = some_of (λ bytes. bytes ≡ other) input.left text left read.all in
    ok_or_err says (ap script_of same ∙ refused)

pub complete : (input : Input) (output : Output) (s : Status) → IsAnswer input output s → IsComplete input output s
complete input output status.Finished answer text script given left short says reads writes = tt
complete input output status.Faulted answer text script given left short says reads writes = tt
complete input output (status.Refused refusal) (cause, line) text script given left short says reads writes =
    not-refused input refusal text script cause given left short says
complete input output status.Memory answer text script given left short says reads writes = tt
complete input output status.ReadFault ((given, failed), nothing) text script accepted left short says reads writes = omega (arith, failed, reads)
complete input output status.WriteFault (written, allowed, (part, failed)) text script given left short says reads writes = omega (arith, failed, writes)

pub refused : (input : Input) (output : Output) (s : Status) → IsAnswer input output s → head_of_arguments input.arguments ≡ None → IsArgumentsAnswer s
refused input output status.Finished (text, (head, script, accepted, tells), writes) missing = some_or_none accepted.arguments missing
refused input output status.Faulted (text, (head, script, accepted, tells), writes) missing = some_or_none accepted.arguments missing
refused input output (status.Refused (Argument why at)) ((cause, is_why, is_at, (unread, none)), line) missing =
    ap (λ w. Argument w at) is_why ∙ ap (λ a. Argument argument.NotBuilt a) is_at
refused input output (status.Refused TooLong) ((given, none, long), line) missing = absurd (both (head_of_arguments input.arguments) given missing)
refused input output (status.Refused (Line at why)) ((given, is_why, text), line) missing = absurd (both (head_of_arguments input.arguments) given missing)
refused input output status.Memory answer missing = tt
refused input output status.ReadFault ((given, failed), nothing) missing = both (head_of_arguments input.arguments) given missing
refused input output status.WriteFault answer missing = tt
