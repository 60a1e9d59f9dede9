-- A journal followed call by call: a call is lawful where the zones may answer so and the entry agrees with the
-- step, and a journal where each entry is.
use Rattle.std.proofs.Common.{◌≡◌, ℕ, zero, suc, ◌≤◌, ◌&&◌, ◌==◌, List, [], ◌∷◌, take, length, Option, Some, None, IsSomeAnd, refl, sym, ap, subst, arith}
use Rattle.std.specs.List.{slice_get}
use Rattle.std.specs.Option.{is_some}
use Rattle.om_model.specs.Data.CallEntry.{CallEntry}
use Rattle.om_model.specs.Pool.Product.{product}
use Rattle.om_model.specs.Pool.Canaries.{broken_canary}
use Rattle.om_model.specs.Pool.Malloc.{unless_too_large}
use Rattle.om_model.specs.Pool.Realloc.{Resize, realloc_by, realloc_block, unless_broken, realloc_at, realloc, reallocarray_of}
use Rattle.om_model.specs.Pool.Resizing.{Way, Stays, Shrinks, Grows, Claims, Moves, way}
use Rattle.om_model.specs.Pool.Rules.{Rules}
use Rattle.om_model.specs.Pool.Runs.{Run}
use Rattle.om_model.specs.Pool.Standing.{Standing, NotHeld, FreePage, PageBlock, InPageBlock, OnGuard, LivePlace, DelayedPlace, FreePlace, Unaligned, standing}
use Rattle.om_model.specs.Pool.State.{State}
use Rattle.om_model.specs.Pool.Steps as steps
use Rattle.om_model.specs.Pool.Steps.{Answers, Step}
use Rattle.om_model.specs.Pool.Journal.{wish_of, step_unless, step_of, EndsSearch, IsGiven, AnswersAt, MayAnswer, answers_of, Agrees, IsLawfulCall, IsLawfulEntry, IsLawfulFrom, after, state_from}
use Rattle.om_model.specs.Slow.{run_in, searching, wish_in, IsSmallRun, IsSmallClaim}
use Rattle.om_model.specs.declared.entry.Entry.{Entry}
use Rattle.om_model.specs.declared.entry.Move.{Move}
use Rattle.om_model.specs.declared.looks.Look.{Look}
use Rattle.om_model.specs.declared.operation.Op.{Op}
use Rattle.om_model.specs.declared.operation.Op.TheVariants.{Malloc, Calloc, Realloc, Reallocarray, Free, Load, Store}
use Rattle.om_model.specs.declared.slow.steps.Search.{Search}
use Rattle.om_model.specs.declared.slow.steps.Wish.{Wish}
use Rattle.om_model.specs.declared.slow.steps.Wish.TheVariants as wish
use Rattle.om_model.proofs.PlainResizing.{AsksSmall}

small-found : (rules : Rules) (state : State) (count word passed : ℕ) (claim : Option Move) → rules.zones ≤ 64 → EndsSearch rules state count word passed claim → IsSmallClaim claim
small-found rules state count word passed None few ends = tt
small-found rules state count word passed (Some move) few ends =
    let some = ends.few in
    let zone = ends.zone in
    let inside = (ends.fresh).inside in
    omega arith

-- what a search may find lies in an arena of at most 64 zones
small-search : (rules : Rules) (state : State) (search : Option Search) (answers : Answers) → rules.zones ≤ 64 → MayAnswer rules state (searching search) answers → IsSmallClaim answers.claim
small-search rules state None answers few may = subst IsSmallClaim (sym may.0) tt
small-search rules state (Some search) answers few may = small-found rules state search.count search.word (length answers.looks) answers.claim few may.1

small-given : (state : State) (run : Run) (claim : Option Move) → IsSmallRun run → IsSomeAnd claim (IsGiven state run) → IsSmallClaim claim
small-given state run None small given = tt
small-given state run (Some move) small given = subst IsSmallRun (sym given.run_is) small

small-at : (rules : Rules) (state : State) (run : Run) (search : Option Search) (answers : Answers) (taken : Option Look) → rules.zones ≤ 64 → IsSmallRun run
    → AnswersAt state run answers taken (MayAnswer rules state (searching search) (record answers { taken = None })) → IsSmallClaim answers.claim
small-at rules state run search answers None few small may = small-given state run answers.claim small may.1
small-at rules state run search answers (Some look) few small may = small-search rules state search (record answers { taken = None }) few may.1

pub small-claim : (rules : Rules) (state : State) (asked : Wish) (answers : Answers) → rules.zones ≤ 64 → AsksSmall (wish_in asked) → MayAnswer rules state (wish_in asked) answers → IsSmallClaim answers.claim
small-claim rules state wish.Nothing answers few small may = small-search rules state None answers few may
small-claim rules state (wish.Search search) answers few small may = small-search rules state (Some search) answers few may
small-claim rules state (wish.At run otherwise) answers few small may = small-at rules state (run_in run) otherwise answers answers.taken few small may

-- ---- a step doesn't go by the looks of a search

abbrev pub told : Answers → Answers
told answers = record { claim = answers.claim; looks = []; taken = answers.taken }

by-told : (rules : Rules) (state : State) (asked : Resize) (answers : Answers) (how : Way)
    → realloc_by how rules state asked (told answers) ≡ realloc_by how rules state asked answers
by-told rules state asked answers Stays = refl
by-told rules state asked answers Shrinks = refl
by-told rules state asked answers Grows = refl
by-told rules state asked answers Claims = refl
by-told rules state asked answers Moves = refl

block-told : (rules : Rules) (state : State) (asked : Resize) (answers : Answers)
    → realloc_block rules state asked (told answers) ≡ realloc_block rules state asked answers
block-told rules state asked answers = ap (unless_too_large rules state asked.size) (by-told rules state asked answers (way rules state asked.block asked.size))

stands-told : (rules : Rules) (state : State) (address size site : ℕ) (answers : Answers) (stands : Standing)
    → realloc_at rules state address size site (told answers) stands ≡ realloc_at rules state address size site answers stands
stands-told rules state address size site answers NotHeld = refl
stands-told rules state address size site answers FreePage = refl
stands-told rules state address size site answers (PageBlock block) = block-told rules state (record { block = block; place = None; size = size; site = site }) answers
stands-told rules state address size site answers InPageBlock = refl
stands-told rules state address size site answers OnGuard = refl
stands-told rules state address size site answers (LivePlace place block) =
    ap (unless_broken (broken_canary rules state block) state) (block-told rules state (record { block = block; place = Some place; size = size; site = site }) answers)
stands-told rules state address size site answers (DelayedPlace place) = refl
stands-told rules state address size site answers FreePlace = refl
stands-told rules state address size site answers Unaligned = refl

realloc-told : (rules : Rules) (state : State) (address size site : ℕ) (answers : Answers) → realloc rules state address size site (told answers) ≡ realloc rules state address size site answers
realloc-told rules state address size site answers = stands-told rules state address size site answers (standing rules state address)

reallocarray-told : (rules : Rules) (state : State) (address : ℕ) (size : Option ℕ) (site : ℕ) (answers : Answers)
    → reallocarray_of rules state address size site (told answers) ≡ reallocarray_of rules state address size site answers
reallocarray-told rules state address (Some size) site answers = realloc-told rules state address size site answers
reallocarray-told rules state address None site answers = refl

pub step-told : (rules : Rules) (state : State) (op : Op) (answers : Answers) → step_of rules state op (told answers) ≡ step_of rules state op answers
step-told rules state (Malloc size site) answers = refl
step-told rules state (Calloc count size site) answers = refl
step-told rules state (Realloc address size site) answers = ap (step_unless (address == 0)) (realloc-told rules state address size site answers)
step-told rules state (Reallocarray address count size site) answers =
    ap (step_unless ((address == 0) && is_some (product count size))) (reallocarray-told rules state address (product count size) site answers)
step-told rules state (Free address) answers = refl
step-told rules state (Load address) answers = refl
step-told rules state (Store address byte) answers = refl

-- ---- a lawful call

pub may-of : (rules : Rules) (state : State) (entry : CallEntry) (asked : steps.Wish) → asked ≡ wish_of rules state entry.op → IsLawfulCall rules state entry → MayAnswer rules state asked (answers_of entry)
may-of rules state entry asked asks lawful = subst (λ w. MayAnswer rules state w (answers_of entry)) (sym asks) lawful.zones

pub agrees-of : (rules : Rules) (state : State) (entry : CallEntry) (step : Option Step) → step ≡ step_of rules state entry.op (told (answers_of entry)) → IsLawfulCall rules state entry → IsSomeAnd step (Agrees rules state entry)
agrees-of rules state entry step does lawful =
    subst (λ s. IsSomeAnd s (Agrees rules state entry)) (sym does) (subst (λ s. IsSomeAnd s (Agrees rules state entry)) (sym (step-told rules state entry.op (answers_of entry))) lawful.step)

pub lawful-of : (rules : Rules) (state : State) (entry : CallEntry) (asked : steps.Wish) (step : Option Step) → asked ≡ wish_of rules state entry.op → step ≡ step_of rules state entry.op (told (answers_of entry))
    → MayAnswer rules state asked (answers_of entry) → IsSomeAnd step (Agrees rules state entry) → IsLawfulCall rules state entry
lawful-of rules state entry asked step asks does may agrees = record {
  zones = subst (λ w. MayAnswer rules state w (answers_of entry)) asks may;
  step = subst (λ s. IsSomeAnd s (Agrees rules state entry)) (step-told rules state entry.op (answers_of entry)) (subst (λ s. IsSomeAnd s (Agrees rules state entry)) does agrees);
}

-- each entry of a lawful journal is lawful after those before it
pub lawful-at : (rules : Rules) (state : State) (entries : List Entry) (i : ℕ) (entry : Entry) → slice_get entries i ≡ Some entry → IsLawfulFrom rules state entries → IsLawfulEntry rules (state_from rules state (take i entries)) entry
lawful-at rules state [] i entry at is = cc
lawful-at rules state (x ∷ xs) zero entry at is = let same : x ≡ entry = cc in subst (IsLawfulEntry rules state) same is.0
lawful-at rules state (x ∷ xs) (suc i) entry at is = lawful-at rules (after rules state x) xs i entry at is.1
