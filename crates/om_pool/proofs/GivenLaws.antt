-- A claim at a given run: what the broker answers is what the zones may answer, and none of the pages was held.
use Rattle.std.proofs.Common.{◌≡◌, ℕ, ◌+◌, ◌*◌, ◌<◌, ◌≤◌, false, List, [], Option, Some, None, IsSomeAnd, refl, sym, ap, ◌∙◌, subst, arith}
use Rattle.std.specs.Prelude.{IsSome}
use Rattle.std.proofs.lemmas.Bool.{cases_Bool}
use mathlib.Core.Logic.{⊎_elim}
use Rattle.om_broker.specs.declared.broker.Broker as broker
use Rattle.om_broker.specs.declared.broker.ClaimAt.{ClaimAt}
use Rattle.om_broker.specs.declared.broker.ClaimAt.TheVariants as at
use Rattle.om_frame.specs.Frames.{PageBytes, zero_frames}
use Rattle.om_geom.specs.Numbers.{zone_pages}
use Rattle.om_model.specs.Pool.Journal.{AnswersAt, IsGiven, MayAnswer}
use Rattle.om_model.specs.Pool.Rules.{Rules}
use Rattle.om_model.specs.Pool.Runs.{Run, run_of}
use Rattle.om_model.specs.Pool.State.{State, is_held}
use Rattle.om_model.specs.Pool.Steps.{Answers, At, Wish}
use Rattle.om_model.specs.declared.entry.Move.{Move}
use Rattle.om_pool.specs.Asking.{given_in, taken_in, IsAskedAt, IsRunAsked}
use Rattle.om_pool.specs.Underway.{HasHeld}

module _ {B A : Type 0} (g : broker.Ghosts B A) (old new : B) (run : Run) where
  module _ (move : Move) (frames : List PageBytes) (asked : IsRunAsked g old new run (at.Claimed move frames)) where
    -- it is that run
    pub given-run : run_of move ≡ run
    given-run =
        let found = asked.found in
        let zone = found.zone_is in
        let first = found.first_is in
        let start : zone_pages * move.zone + move.first ≡ run.first = omega arith in
        ap (λ f. let r : Run = record { first = f; count = move.count } in r) start ∙ ap (λ k. let r : Run = record { first = run.first; count = k } in r) found.count

    pub given-frames : frames ≡ zero_frames run.first run.count
    given-frames = let found = asked.found in found.frames_are ∙ ap (λ (r : Run). zero_frames r.first run.count) given-run

    -- none of its pages was held
    pub given-fresh : (held : List ℕ) → HasHeld g held old → (page : ℕ) → run.first ≤ page → page < run.first + run.count → is_held held page ≡ false
    given-fresh held has page low high = ⊎_elim
        (λ was.
        let start : (run_of move).first ≡ run.first = ap (λ (r : Run). r.first) given-run in
        let long : (run_of move).count ≡ run.count = ap (λ (r : Run). r.count) given-run in
        absurd (((asked.made has.moves has.sight has.made).3).lacks page (omega arith) (omega arith) (has.has page was)))
        (λ was. was)
        (cases_Bool (is_held held page))

  module _ (rules : Rules) (state : State) (has : HasHeld g state.held old) where
    is-given : (move : Move) (frames : List PageBytes) → IsRunAsked g old new run (at.Claimed move frames) → IsGiven state run move
    is-given move frames asked =
        let found = asked.found in
        let first = found.first_is in
        let count = found.count in
        let same = given-run move frames asked in
        let start : (run_of move).first ≡ run.first = ap (λ (r : Run). r.first) same in
        record {
          run_is = same;
          fresh = record {
            inside = omega (arith, asked.inside);
            new = λ page low high. given-fresh move frames asked state.held has page (omega arith) (omega arith);
          };
        }

    -- the zones may answer so, where they answer otherwise as they may
    pub may-given : (otherwise : Wish) (answers : Answers) (given : Option ClaimAt) → IsAskedAt g (Some run) old new given → answers.taken ≡ taken_in given
        → (IsSome (given_in given) → (answers.looks ≡ []) × (answers.claim ≡ given_in given)) → (IsSome (taken_in given) → MayAnswer rules state otherwise (record answers { taken = None })) → MayAnswer rules state (At run otherwise) answers
    may-given otherwise answers None asked taken alone other = absurd asked
    may-given otherwise answers (Some (at.Claimed move frames)) asked taken alone other =
        let Otherwise : Type 0 = MayAnswer rules state otherwise (record answers { taken = None }) in
        let Given : Option Move → Type 0 = λ claim. IsSomeAnd claim (IsGiven state run) in
        subst (λ look. AnswersAt state run answers look Otherwise) (sym taken) ((alone refl).0, subst Given (sym (alone refl).1) (is-given move frames asked))
    may-given otherwise answers (Some (at.Taken look)) asked taken alone other =
        let Otherwise : Type 0 = MayAnswer rules state otherwise (record answers { taken = None }) in
        subst (λ look. AnswersAt state run answers look Otherwise) (sym taken) (asked.found, other refl)
