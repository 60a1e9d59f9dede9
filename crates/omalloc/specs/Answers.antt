-- The answers of the program, and their causes.
use Rattle.std.specs.Prelude.{◌≡◌, ℕ, ◌<◌, ◌≤◌, ◌⊎◌, Bool, true, false, Option, Some, None, IfSome, IsSome, Ok, Err, List, [], ◌∷◌, length}
use Rattle.om_io.specs.Sink.{Appends, AppendsFront, AppendsPart}
use Rattle.om_io.specs.Source.{input_limit}
use Rattle.om_model.specs.Output.Content.{Content}
use Rattle.om_model.specs.Output.Head.{Head}
use Rattle.om_model.specs.Output.Text.{text_of}
use Rattle.omalloc.specs.AcceptedInput.{script_of}
use Rattle.omalloc.specs.Arguments.{head_of_arguments}
use Rattle.omalloc.specs.Headline.{IsHeadline, is_faulted}
use Rattle.omalloc.specs.Refusal.{refusal_line}
use Rattle.omalloc.specs.Script.{ScriptText}
use Rattle.omalloc.specs.declared.refusal.ArgumentRefusal.TheVariants as argument
use Rattle.omalloc.specs.declared.refusal.LineRefusal.TheVariants as line
use Rattle.omalloc.specs.declared.refusal.Refusal.{Refusal}
use Rattle.omalloc.specs.declared.refusal.Refusal.TheVariants.{Argument, Line, TooLong}
use Rattle.omalloc.specs.declared.status.Status.{Status}
use Rattle.omalloc.specs.declared.status.Status.TheVariants as status

-- what a call was given: the arguments, the bytes that the source had left before and after, where it tells
-- them, and how many reads had failed before and after
pub record Input : Type 0 where
  pub arguments : List (List ℕ)
  pub left : Option (List ℕ)
  pub left_after : Option (List ℕ)
  pub failed : ℕ
  pub failed_after : ℕ

-- what became of the sink: the bytes that it had taken, where it tells them, and how many
-- writes had failed before and after
pub record Output : Type 0 where
  pub written : Option (List ℕ)
  pub written_after : Option (List ℕ)
  pub failed : ℕ
  pub failed_after : ℕ

-- the arguments, and a source before and after, by what it has left and how many of its reads have failed
abbrev pub input_of : {S : Type 0} → (S → Option (List ℕ)) → (S → ℕ) → List (List ℕ) → S → S → Input
input_of left faults arguments old new = record {
  arguments = arguments;
  left = left old;
  left_after = left new;
  failed = faults old;
  failed_after = faults new;
}

-- a sink before and after, by what it has taken and how many of its writes have failed
abbrev pub output_of : {K : Type 0} → (K → Option (List ℕ)) → (K → ℕ) → K → K → Output
output_of written faults old new = record {
  written = written old;
  written_after = written new;
  failed = faults old;
  failed_after = faults new;
}

-- ---- what was read

abbrev pub NoReadFailed : Input → Type 0
NoReadFailed input = input.failed_after ≡ input.failed

abbrev pub NothingRead : Input → Type 0
NothingRead input = (input.left_after ≡ input.left) × NoReadFailed input

-- the text was read to its end, no read failed, and it has no more bytes than may be read
pub record IsRead (input : Input) (text : List ℕ) : Type 0 where
  pub all : IfSome input.left (λ bytes. bytes ≡ text)
  pub within : length text ≤ input_limit
  pub none_failed : NoReadFailed input
  pub end : IfSome input.left (λ bytes. input.left_after ≡ Some [])

-- the arguments are accepted and give this head, and the text that was read says this script
pub record IsAccepted (input : Input) (head : Head) (script : ScriptText) : Type 0 where
  pub arguments : head_of_arguments input.arguments ≡ Some head
  pub text : List ℕ
  pub read : IsRead input text
  pub says : script_of text ≡ Ok script

-- why arguments or a text are refused; for the arguments nothing is read
abbrev pub IsCause : Input → Refusal → Type 0
IsCause input (Argument why at) =
    (head_of_arguments input.arguments ≡ None) × (why ≡ argument.NotBuilt) × (at ≡ 0) × NothingRead input
IsCause input TooLong =
    IsSome (head_of_arguments input.arguments) × NoReadFailed input × IfSome input.left (λ bytes. input_limit < length bytes)
IsCause input (Line at why) =
    IsSome (head_of_arguments input.arguments) × (why ≡ line.NotBuilt) × ((text : List ℕ) × IsRead input text × (script_of text ≡ Err at))

-- a read failed in the call, for accepted arguments
abbrev pub IsReadFault : Input → Type 0
IsReadFault input = IsSome (head_of_arguments input.arguments) × (input.failed < input.failed_after)

-- ---- what was written

-- a run of the script under the head, which met a fault or didn't
abbrev pub IsRunOf : Head → ScriptText → Bool → Content → Type 0
IsRunOf head script faulted content = IsHeadline head (script ∷ []) content × (is_faulted content ≡ faulted)

-- the text tells such a run
abbrev pub TellsRunOf : Head → ScriptText → Bool → List ℕ → Type 0
TellsRunOf head script faulted text = (content : Content) × IsRunOf head script faulted content × (text ≡ text_of content)

-- the text tells a run of what was given
abbrev pub TellsRun : Input → Bool → List ℕ → Type 0
TellsRun input faulted text = (head : Head) × (script : ScriptText) × IsAccepted input head script × TellsRunOf head script faulted text

-- the text tells why what was given is refused
abbrev pub TellsRefusal : Input → List ℕ → Type 0
TellsRefusal input text = (refusal : Refusal) × IsCause input refusal × (text ≡ refusal_line refusal)

-- a text that may be written for what was given
abbrev pub IsText : Input → List ℕ → Type 0
IsText input text = ((faulted : Bool) × TellsRun input faulted text) ⊎ TellsRefusal input text

abbrev pub NoWriteFailed : Output → Type 0
NoWriteFailed output = output.failed_after ≡ output.failed

abbrev pub WritesNothing : Output → Type 0
WritesNothing output = (output.written_after ≡ output.written) × NoWriteFailed output

-- the whole text was written
abbrev pub WritesAll : Output → List ℕ → Type 0
WritesAll output text = Appends output.written output.written_after text × NoWriteFailed output

-- a front of the text was written, perhaps all or none of it, and no write failed
abbrev pub WritesFront : Output → List ℕ → Type 0
WritesFront output text = AppendsFront output.written output.written_after text × NoWriteFailed output

-- a write failed, and a front of the text was written, perhaps none of it, but not all
abbrev pub WritesPart : Output → List ℕ → Type 0
WritesPart output text = AppendsPart output.written output.written_after text × (output.failed < output.failed_after)

-- ---- the answers

-- each answer with its cause; that of want of memory isn't told
abbrev pub IsAnswer : Input → Output → Status → Type 0
IsAnswer input output status.Finished = (text : List ℕ) × TellsRun input false text × WritesAll output text
IsAnswer input output status.Faulted = (text : List ℕ) × TellsRun input true text × WritesAll output text
IsAnswer input output (status.Refused refusal) = IsCause input refusal × WritesAll output (refusal_line refusal)
IsAnswer input output status.Memory =
    NoReadFailed input × (WritesNothing output ⊎ ((text : List ℕ) × IsText input text × WritesFront output text))
IsAnswer input output status.ReadFault = IsReadFault input × WritesNothing output
IsAnswer input output status.WriteFault = (text : List ℕ) × IsText input text × WritesPart output text

-- the answers before anything is written
abbrev pub IsStop : Input → Status → Type 0
IsStop input (status.Refused refusal) = IsCause input refusal
IsStop input status.Memory = NoReadFailed input
IsStop input status.ReadFault = IsReadFault input
IsStop input status.Finished = ⊥
IsStop input status.Faulted = ⊥
IsStop input status.WriteFault = ⊥

-- the answers once the script is there
abbrev pub IsRunAnswer : Head → ScriptText → Output → Status → Type 0
IsRunAnswer head script output status.Finished = (text : List ℕ) × TellsRunOf head script false text × WritesAll output text
IsRunAnswer head script output status.Faulted = (text : List ℕ) × TellsRunOf head script true text × WritesAll output text
IsRunAnswer head script output (status.Refused refusal) = ⊥
IsRunAnswer head script output status.Memory =
    WritesNothing output ⊎ ((faulted : Bool) × (text : List ℕ) × TellsRunOf head script faulted text × WritesFront output text)
IsRunAnswer head script output status.ReadFault = ⊥
IsRunAnswer head script output status.WriteFault =
    (faulted : Bool) × (text : List ℕ) × TellsRunOf head script faulted text × WritesPart output text

-- the answers once the input is refused
abbrev pub IsRefusalAnswer : Refusal → Output → Status → Type 0
IsRefusalAnswer refusal output status.Finished = ⊥
IsRefusalAnswer refusal output status.Faulted = ⊥
IsRefusalAnswer refusal output (status.Refused told) = (told ≡ refusal) × WritesAll output (refusal_line refusal)
IsRefusalAnswer refusal output status.Memory = WritesFront output (refusal_line refusal)
IsRefusalAnswer refusal output status.ReadFault = ⊥
IsRefusalAnswer refusal output status.WriteFault = WritesPart output (refusal_line refusal)

-- the script was run, or memory was short
abbrev pub IsRunOrMemory : Status → Type 0
IsRunOrMemory status.Finished = Unit {0}
IsRunOrMemory status.Faulted = Unit {0}
IsRunOrMemory status.Memory = Unit {0}
IsRunOrMemory (status.Refused refusal) = ⊥
IsRunOrMemory status.ReadFault = ⊥
IsRunOrMemory status.WriteFault = ⊥

-- an accepted script that the source tells is run, or memory is short, where no read or write fails
abbrev pub IsComplete : Input → Output → Status → Type 0
IsComplete input output answer =
    (text : List ℕ) (script : ScriptText) → IsSome (head_of_arguments input.arguments) → input.left ≡ Some text → length text ≤ input_limit
    → script_of text ≡ Ok script → NoReadFailed input → NoWriteFailed output → IsRunOrMemory answer

-- the answers to refused arguments
abbrev pub IsArgumentsAnswer : Status → Type 0
IsArgumentsAnswer (status.Refused refusal) = refusal ≡ Argument argument.NotBuilt 0
IsArgumentsAnswer status.Memory = Unit {0}
IsArgumentsAnswer status.WriteFault = Unit {0}
IsArgumentsAnswer status.Finished = ⊥
IsArgumentsAnswer status.Faulted = ⊥
IsArgumentsAnswer status.ReadFault = ⊥

abbrev pub code_of : Status → ℕ
code_of status.Finished = 0
code_of status.Faulted = 1
code_of (status.Refused refusal) = 2
code_of status.Memory = 3
code_of status.ReadFault = 4
code_of status.WriteFault = 5
