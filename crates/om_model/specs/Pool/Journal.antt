-- A lawful journal: folded from the opening state, each call has exactly the reply, the words and the
-- release that its step has, and the zones answered as they may. Phases are numbered 1, 2, .., and change
-- nothing.
use Rattle.std.specs.Prelude.{◌≡◌, ℕ, ◌+◌, ◌<◌, ◌≤◌, Bool, false, ◌&&◌, ◌==◌, List, [], ◌∷◌, length, map, if◌then◌else◌, Option, Some, None, IfSome, IsSomeAnd}
use Rattle.std.specs.List.{flat_map, range_with_len}
use Rattle.std.specs.Option.{is_some, option_map}
use Rattle.om_geom.specs.Addresses.{zone_of}
use Rattle.om_geom.specs.Fit.{searched_zone}
use Rattle.om_geom.specs.Numbers.{zone_pages}
use Rattle.om_model.specs.Data.CallEntry.{CallEntry}
use Rattle.om_model.specs.Pool.Rules.{Rules, words_from}
use Rattle.om_model.specs.Pool.Runs.{Run, run_of}
use Rattle.om_model.specs.Pool.State.{State, opening, is_held}
use Rattle.om_model.specs.Pool.Steps.{Wish, Nothing, Search, At, Answers, Step}
use Rattle.om_model.specs.Pool.Malloc.{malloc_wish, malloc}
use Rattle.om_model.specs.Pool.Product.{product}
use Rattle.om_model.specs.Pool.Calloc.{calloc_wish, calloc}
use Rattle.om_model.specs.Pool.Free.{free}
use Rattle.om_model.specs.Pool.Realloc.{realloc_wish, realloc, reallocarray_wish, reallocarray}
use Rattle.om_model.specs.Pool.Access.{load, store}
use Rattle.om_model.specs.declared.looks.Look.{Look}
use Rattle.om_model.specs.declared.entry.Move.{Move}
use Rattle.om_model.specs.declared.entry.Entry.{Entry}
use Rattle.om_model.specs.declared.entry.Entry.TheVariants.{Call, Phase}
use Rattle.om_model.specs.declared.operation.Op.{Op}
use Rattle.om_model.specs.declared.operation.Op.TheVariants.{Malloc, Calloc, Realloc, Reallocarray, Free, Load, Store}
use Rattle.om_model.specs.declared.operation.Who.{Who}

-- ---- the step of an operation

-- what the operation asks of the zones
abbrev pub wish_of : Rules → State → Op → Wish
wish_of rules state (Malloc size site) = malloc_wish rules state size
wish_of rules state (Calloc count size site) = calloc_wish rules state count size
wish_of rules state (Realloc address size site) = realloc_wish rules state address size
wish_of rules state (Reallocarray address count size site) = reallocarray_wish rules state address count size
wish_of rules state op = Nothing

-- A realloc of address 0, and a reallocarray of address 0 whose product doesn't overflow, are entered as a malloc: they
-- have no step, and no lawful journal has such an entry.
abbrev pub step_unless : Bool → Step → Option Step
step_unless as_malloc step = if as_malloc then None else Some step

-- what the operation does, given the zones' answers; none where it is entered as another
abbrev pub step_of : Rules → State → Op → Answers → Option Step
step_of rules state (Malloc size site) answers = Some (malloc rules state size site answers.claim)
step_of rules state (Calloc count size site) answers = Some (calloc rules state count size site answers.claim)
step_of rules state (Realloc address size site) answers = step_unless (address == 0) (realloc rules state address size site answers)
step_of rules state (Reallocarray address count size site) answers =
    step_unless ((address == 0) && is_some (product count size)) (reallocarray rules state address count size site answers)
step_of rules state (Free address) answers = Some (free rules state address)
step_of rules state (Load address) answers = Some (load rules state address)
step_of rules state (Store address byte) answers = Some (store rules state address byte)

-- ---- what the zones may answer

-- of so many zones, the looks name those that a search by the word comes to first, in their order
abbrev pub NamesSearched : ℕ → ℕ → List Look → Type 0
NamesSearched zones word looks = map (λ look. look.zone) looks ≡ map (searched_zone zones word) (range_with_len 0 (length looks))

-- the claim lies in its zone, on pages that the pool doesn't hold
pub record IsFresh (state : State) (move : Move) : Type 0 where
  pub inside : move.first + move.count ≤ zone_pages
  pub new : (page : ℕ) → (run_of move).first ≤ page → page < (run_of move).first + move.count → is_held state.held page ≡ false

-- the claim stands in the zone after those that were passed over
pub record IsFound (rules : Rules) (state : State) (count word passed : ℕ) (move : Move) : Type 0 where
  pub few : passed < rules.zones
  pub zone : move.zone ≡ searched_zone rules.zones word passed
  pub count_is : move.count ≡ count
  pub fresh : IsFresh state move

-- where the search ends: at the claim, or after every zone
abbrev pub EndsSearch : Rules → State → ℕ → ℕ → ℕ → Option Move → Type 0
EndsSearch rules state count word passed (Some move) = IsFound rules state count word passed move
EndsSearch rules state count word passed None = passed ≡ rules.zones

-- the claim stands at the given run
pub record IsGiven (state : State) (run : Run) (move : Move) : Type 0 where
  pub run_is : run_of move ≡ run
  pub fresh : IsFresh state move

-- a claim at a given run, or a look at which a page of it was held, and then what is answered otherwise
abbrev pub AnswersAt : State → Run → Answers → Option Look → Type 0 → Type 0
AnswersAt state run answers None Otherwise = (answers.looks ≡ []) × IsSomeAnd answers.claim (IsGiven state run)
AnswersAt state run answers (Some look) Otherwise = (look.zone ≡ zone_of run.first) × Otherwise

-- the zones may answer so; where nothing is asked there is no answer
abbrev pub MayAnswer : Rules → State → Wish → Answers → Type 0
MayAnswer rules state Nothing answers = (answers.claim ≡ None) × (answers.looks ≡ []) × (answers.taken ≡ None)
MayAnswer rules state (Search count word) answers =
    NamesSearched rules.zones word answers.looks × EndsSearch rules state count word (length answers.looks) answers.claim × (answers.taken ≡ None)
MayAnswer rules state (At run otherwise) answers =
    AnswersAt state run answers answers.taken (MayAnswer rules state otherwise (record answers { taken = None }))

-- ---- entries

abbrev pub answers_of : CallEntry → Answers
answers_of entry = record { claim = entry.claim; looks = entry.looks; taken = entry.taken }

-- the entry of a step
abbrev pub entry_of : Rules → State → Who → Op → Answers → Step → Option Move → CallEntry
entry_of rules state who op answers step release = record {
  who = who;
  op = op;
  reply = step.reply;
  words = words_from rules state.drawn step.words;
  looks = answers.looks;
  taken = answers.taken;
  claim = answers.claim;
  release = release;
}

-- the move gives up the run, inside its zone
pub record GivesUp (run : Option Run) (release : Option Move) : Type 0 where
  pub run_is : option_map run_of release ≡ run
  pub inside : IfSome release (λ move. move.first + move.count ≤ zone_pages)

-- the entry has the reply, the words and the release of the step
pub record Agrees (rules : Rules) (state : State) (entry : CallEntry) (step : Step) : Type 0 where
  pub reply : entry.reply ≡ step.reply
  pub words : entry.words ≡ words_from rules state.drawn step.words
  pub release : GivesUp step.release entry.release

pub record IsLawfulCall (rules : Rules) (state : State) (entry : CallEntry) : Type 0 where
  pub zones : MayAnswer rules state (wish_of rules state entry.op) (answers_of entry)
  pub step : IsSomeAnd (step_of rules state entry.op (answers_of entry)) (Agrees rules state entry)

abbrev pub IsLawfulEntry : Rules → State → Entry → Type 0
IsLawfulEntry rules state (Call entry) = IsLawfulCall rules state entry
IsLawfulEntry rules state (Phase number) = Unit {0}

-- ---- the fold

abbrev pub next_of : State → Option Step → State
next_of state None = state
next_of state (Some step) = step.next

-- the state after an entry
abbrev pub after : Rules → State → Entry → State
after rules state (Call entry) = next_of state (step_of rules state entry.op (answers_of entry))
after rules state (Phase number) = state

abbrev pub state_from : Rules → State → List Entry → State
state_from rules state [] = state
state_from rules state (entry ∷ entries) = state_from rules (after rules state entry) entries

-- the state that a pool with this journal is in
abbrev pub state_of : Rules → List Entry → State
state_of rules entries = state_from rules (opening rules) entries

abbrev pub IsLawfulFrom : Rules → State → List Entry → Type 0
IsLawfulFrom rules state [] = Unit {0}
IsLawfulFrom rules state (entry ∷ entries) = IsLawfulEntry rules state entry × IsLawfulFrom rules (after rules state entry) entries

abbrev pub phases_in : Entry → List ℕ
phases_in (Call entry) = []
phases_in (Phase number) = number ∷ []

-- the numbers of the phases that the journal enters
abbrev pub phase_numbers : List Entry → List ℕ
phase_numbers entries = flat_map phases_in entries

pub record IsLawful (rules : Rules) (entries : List Entry) : Type 0 where
  pub calls : IsLawfulFrom rules (opening rules) entries
  pub phases : phase_numbers entries ≡ range_with_len 1 (length (phase_numbers entries))
