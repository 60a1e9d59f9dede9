-- Which pages a broker has after one move more. These laws are of every broker.
use Rattle.std.proofs.Common.{◌≡◌, ℕ, zero, suc, ◌+◌, ◌*◌, ◌<◌, ◌≤◌, true, List, [], ◌∷◌, ◌++◌, length, Some, None, refl, sym, subst, ◌∙◌, ap, arith, append-nil}
use Rattle.std.specs.Prelude.{Contains}
use Rattle.std.specs.List.{AllByRecursion}
use Rattle.std.proofs.lemmas.Bool.{true≢false}
use Rattle.std.proofs.lemmas.List.{get_or_append_left, get_or-append-add, length-append}
use Rattle.std.proofs.lemmas.List.Elements.{Contains-push}
use Rattle.om_frame.specs.Frames.{PageBytes, zero_frames}
use Rattle.om_frame.specs.FrameLaws.{length-zero_frames}
use Rattle.om_model.proofs.Each.{all-weaker}
use Rattle.om_model.specs.Pool.Runs.{Run, run_of}
use Rattle.om_model.specs.declared.entry.Move.{Move}
use Rattle.om_model.specs.declared.entry.ZoneMove.{ZoneMove}
use Rattle.om_broker.specs.Claims.{AreZeros, Finds, FindsAt, HasFrames, IsGivenBack, ShowsMove, Spends, SpendsAt, first_page, moves_of_claim, moves_of_claim_at, run_of_frames}
use Rattle.om_broker.specs.declared.broker.Claim.{Claim}
use Rattle.om_broker.specs.declared.broker.Claim.TheVariants as claim
use Rattle.om_broker.specs.declared.broker.ClaimAt.{ClaimAt}
use Rattle.om_broker.specs.declared.broker.ClaimAt.TheVariants as at
use Rattle.om_broker.specs.Having.{IsSeenMove, KeepsSight}
use Rattle.om_broker.specs.Sights.{Has, HasRun, IsNewer, Seen, claimed, gives_back, released, takes}
use Rattle.om_broker.proofs.Lists.{all-contained}
use Rattle.om_broker.proofs.Runs.{in-run, run-zone}
use Rattle.om_broker.proofs.ZoneMoves.{all_push}

-- ---- elements of two lists

module _ {X : Type 0} (xs ys : List X) (x : X) where
  pub contains-left : Contains xs x → Contains (xs ++ ys) x
  contains-left at = let lt = at.1 in let long = length-append xs ys in (at.0, omega arith, get_or_append_left xs ys x at.0 at.1 ∙ at.2)

  pub contains-right : Contains ys x → Contains (xs ++ ys) x
  contains-right at = let lt = at.1 in let long = length-append xs ys in (length xs + at.0, omega arith, get_or-append-add xs ys at.0 x ∙ at.2)

-- ---- one move more

module _ (moves : List ZoneMove) (m : ZoneMove) (page : ℕ) where
  abbrev GivesBackBefore : ZoneMove → ZoneMove → Type 0
  GivesBackBefore claim other = gives_back page other → other.made.version < claim.made.version

  -- a page that is claimed by a move that is newer than all that was seen
  pub has-claimed : (sight : List Seen) → AllByRecursion (IsSeenMove sight) moves → IsNewer sight m.made.zone m.made.version → m.made.first + m.made.count ≤ 32 → takes page m → Has (moves ++ m ∷ []) page
  has-claimed sight seen newer within taken = record {
    claim = m;
    made = Contains-push moves m;
    takes_it = taken;
    kept = all_push (GivesBackBefore m) moves m
        (all-weaker (IsSeenMove sight) (GivesBackBefore m) moves
        (λ other (is : IsSeenMove sight other) back.
        let here = run-zone m.made.zone m.made.first m.made.count page within taken.1 in
        let there = run-zone other.made.zone other.made.first other.made.count page is.within back.1 in
        let IsBefore : Seen → Type 0 = λ item. item.zone ≡ m.made.zone → item.version < m.made.version in
        let before = all-contained is.item IsBefore sight (is.among).0 (is.among).1 (is.among).2 newer ((is.names).zone_is ∙ sym there ∙ here) in
        let version = (is.names).version_is in omega arith)
        seen)
        (λ back. absurd (true≢false (sym taken.0 ∙ back.0)));
  }

  -- a page that the move doesn't give back
  pub has-still : (gives_back page m → ⊥) → Has moves page → Has (moves ++ m ∷ []) page
  has-still stays has = record {
    claim = has.claim;
    made = contains-left moves (m ∷ []) has.claim has.made;
    takes_it = has.takes_it;
    kept = all_push (GivesBackBefore has.claim) moves m has.kept (λ back. absurd (stays back));
  }

-- ---- what is kept

module _ (sight items : List Seen) (moves : List ZoneMove) (seen : AllByRecursion (IsSeenMove sight) moves) where
  pub seen-more : AllByRecursion (IsSeenMove (sight ++ items)) moves
  seen-more = all-weaker (IsSeenMove sight) (IsSeenMove (sight ++ items)) moves
      (λ m (is : IsSeenMove sight m). record { within = is.within; item = is.item; among = contains-left sight items is.item is.among; names = is.names })
      seen

  pub seen-push : (m : ZoneMove) → m.made.first + m.made.count ≤ 32 → ShowsMove sight items m → AllByRecursion (IsSeenMove (sight ++ items)) (moves ++ m ∷ [])
  seen-push m within shown = all_push (IsSeenMove (sight ++ items)) moves m seen-more
      (record { within = within; item = shown.item; among = contains-right sight items shown.item shown.among; names = shown.names })

first_page-zeros : (first n : ℕ) → 1 ≤ n → first_page (zero_frames first n) ≡ first
first_page-zeros first zero some = absurd (omega arith)
first_page-zeros first (suc n) some = refl

-- what a call adds to the moves and to the sight of any broker, before it and after it
module _ (Old New : List ZoneMove → List Seen → Type 0) (m : ZoneMove) (Shown : List ZoneMove → List Seen → List Seen → Type 0) (within : m.made.first + m.made.count ≤ 32) (keeps : KeepsSight Old)
    (adds : (moves : List ZoneMove) (sight : List Seen) → Old moves sight → (items : List Seen) × New (moves ++ m ∷ []) (sight ++ items) × AllByRecursion (ShowsMove sight items) (m ∷ []) × Shown moves sight items) where
  pub keeps-move : KeepsSight New
  keeps-move =
      let more = adds keeps.moves keeps.sight keeps.made in
      record {
        moves = keeps.moves ++ m ∷ [];
        sight = keeps.sight ++ more.0;
        made = more.1;
        seen = seen-push keeps.sight more.0 keeps.moves keeps.seen m within more.2.0;
      }

  -- the frames of a claim can be given back
  pub has-frames : m.claims ≡ true → 1 ≤ m.made.count → (frames : List PageBytes) → frames ≡ zero_frames (run_of m.made).first m.made.count → HasFrames New frames
  has-frames claims some frames are =
      let more = adds keeps.moves keeps.sight keeps.made in
      let HasAll : List PageBytes → Type 0 = λ fs. HasRun (keeps.moves ++ m ∷ []) (run_of_frames fs) in
      record {
        moves = keeps.moves ++ m ∷ [];
        sight = keeps.sight ++ more.0;
        made = more.1;
        has = subst HasAll (sym are) (λ page from to.
            let run : Run = run_of m.made in
            let first = first_page-zeros run.first m.made.count some in
            let long = length-zero_frames run.first m.made.count in
            has-claimed keeps.moves m page keeps.sight keeps.seen (more.2.0).new within (claims, in-run run.first m.made.count page (omega arith) (omega arith)));
      }

-- what a call that makes no move adds
pub keeps-none : (Old New : List ZoneMove → List Seen → Type 0) (Shown : List ZoneMove → List Seen → List Seen → Type 0) (keeps : KeepsSight Old)
    → ((moves : List ZoneMove) (sight : List Seen) → Old moves sight → (items : List Seen) × New (moves ++ []) (sight ++ items) × Unit {0} × Shown moves sight items) → KeepsSight New
keeps-none Old New Shown keeps adds =
    let more = adds keeps.moves keeps.sight keeps.made in
    let Made : List ZoneMove → Type 0 = λ moves. New moves (keeps.sight ++ more.0) in
    record {
      moves = keeps.moves;
      sight = keeps.sight ++ more.0;
      made = subst Made (append-nil keeps.moves) more.1;
      seen = seen-more keeps.sight more.0 keeps.moves keeps.seen;
    }

-- frames as a claim gives them can be given back
pub are-zeros : (move : Move) (n : ℕ) (frames : List PageBytes) → 1 ≤ n → move.first + n ≤ 32 → frames ≡ zero_frames (run_of move).first n → AreZeros frames
are-zeros move n frames some within are =
    let long : length frames ≡ n = ap length are ∙ length-zero_frames (run_of move).first n in
    let first : first_page frames ≡ 32 * move.zone + move.first = ap first_page are ∙ first_page-zeros (run_of move).first n some in
    record {
      some = omega arith;
      one_zone = omega arith;
      zeros_are = are ∙ ap (λ (p : ℕ). zero_frames p n) (sym first) ∙ ap (λ (k : ℕ). zero_frames (first_page frames) k) (sym long);
    }

-- what a search or a claim at a place leaves, whatever it was answered
module _ (Old New : List ZoneMove → List Seen → Type 0) (Shown : List ZoneMove → List Seen → List Seen → Type 0) (keeps : KeepsSight Old) where
  abbrev AddsMoves : List ZoneMove → Type 0
  AddsMoves more = (moves : List ZoneMove) (sight : List Seen) → Old moves sight → (items : List Seen) × New (moves ++ more) (sight ++ items) × AllByRecursion (ShowsMove sight items) more × Shown moves sight items

  pub keeps-claim : (zones n word passed : ℕ) (answer : Claim) → Finds zones n word passed answer → AddsMoves (moves_of_claim word answer) → KeepsSight New
  keeps-claim zones n word passed (claim.Claimed move frames) found adds =
      let inside = found.inside in let count = found.count in
      keeps-move Old New (claimed move (Some word)) Shown (omega arith) keeps adds
  keeps-claim zones n word passed claim.NoRun found adds = keeps-none Old New Shown keeps adds

  pub keeps-claim_at : (zone first n : ℕ) (answer : ClaimAt) → first + n ≤ 32 → FindsAt zone first n answer → AddsMoves (moves_of_claim_at answer) → KeepsSight New
  keeps-claim_at zone first n (at.Claimed move frames) inside found adds =
      let from = found.first_is in let count = found.count in
      keeps-move Old New (claimed move None) Shown (omega arith) keeps adds
  keeps-claim_at zone first n (at.Taken look) inside found adds = keeps-none Old New Shown keeps adds

  pub keeps-release : (frames : List PageBytes) (move : Move) → AreZeros frames → IsGivenBack frames move → AddsMoves (released move ∷ []) → KeepsSight New
  keeps-release frames move zeros back adds =
      let one_zone = zeros.one_zone in let first = back.first_is in let count = back.count in
      keeps-move Old New (released move) Shown (omega arith) keeps adds

-- a call spends at most one move more than the pages
pub spends-few : (old new n : ℕ) (answer : Claim) → Spends old new n answer → old ≤ new + (n + 1)
spends-few old new n (claim.Claimed move frames) spent = omega arith
spends-few old new n claim.NoRun spent = let most = spent.1 in omega arith

pub spends_at-few : (old new n : ℕ) (answer : ClaimAt) → SpendsAt old new n answer → old ≤ new + (n + 1)
spends_at-few old new n (at.Claimed move frames) spent = omega arith
spends_at-few old new n (at.Taken look) spent = let most = spent.1 in omega arith
