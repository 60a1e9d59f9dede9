-- The broker has the pages that are held: between two calls by the moves of the journal, and still in the midst of one,
-- once it was asked for more or a run was let go.
use Rattle.std.proofs.Common.{◌≡◌, ℕ, zero, suc, ◌+◌, ◌<◌, ◌≤◌, Bool, true, List, [], ◌++◌, Option, sym, subst, ap, arith}
use Rattle.om_broker.specs.Claims.{run_of_frames, HasFrames}
use Rattle.om_broker.specs.Sights.{HasRun, Seen}
use Rattle.om_broker.specs.declared.broker.Broker as broker
use Rattle.om_broker.specs.declared.broker.Claim.{Claim}
use Rattle.om_broker.specs.declared.broker.ClaimAt.{ClaimAt}
use Rattle.om_frame.specs.FrameLaws.{length-zero_frames}
use Rattle.om_frame.specs.Frames.{zero_frames}
use Rattle.om_model.specs.Pool.Rules.{Rules}
use Rattle.om_model.specs.Pool.Runs.{Run}
use Rattle.om_model.specs.Pool.State.{is_held}
use Rattle.om_model.specs.Zones.Moves.{moves_of}
use Rattle.om_model.specs.declared.entry.Entry.{Entry}
use Rattle.om_model.specs.declared.entry.Move.{Move}
use Rattle.om_model.specs.declared.entry.ZoneMove.{ZoneMove}
use Rattle.om_model.specs.declared.looks.Look.{Look}
use Rattle.om_model.specs.declared.looks.Named.{Named}
use Rattle.om_pool.specs.Asking.{held_after, held_given, IsAsked, IsAskedAt, IsLeft}
use Rattle.om_pool.specs.Backing.{IsBacked}
use Rattle.om_pool.specs.Underway.{HasHeld}
use Rattle.om_pool.proofs.PartLaws.{IsPart, ShownAsked, ShownGiven, ShownNothing, moves_asked, moves_given, moves_released, names_asked, names_given, names_released, part-asked, part-asked_at, part-left}

pub zeros-run : (first n : ℕ) → 1 ≤ n → run_of_frames (zero_frames first n) ≡ record { first = first; count = n }
zeros-run first zero some = absurd (omega arith)
zeros-run first (suc n) some = ap (λ k. let run : Run = record { first = first; count = k } in run) (length-zero_frames first (suc n))

module _ {B A : Type 0} (g : broker.Ghosts B A) where
  pub backed-held : (rules : Rules) (held : List ℕ) (entries : List Entry) (b : B) → IsBacked g rules held entries b → HasHeld g held b
  backed-held rules held entries b is = record { moves = moves_of rules 0 entries; sight = is.sight; made = is.made; seen = is.moves; has = is.has }

  module _ (old new : B) where
    part-held : (before after : List ℕ) (more : List ZoneMove) (names : List Named) (Shown : List Seen → Type 0) → IsPart g old new before after more names Shown → HasHeld g before old → HasHeld g after new
    part-held before after more names Shown part is =
        let a = part.adds is.moves is.sight is.made in
        let leads = a.leads in
        record { moves = is.moves ++ more; sight = is.sight ++ a.items; made = leads.made; seen = leads.moves_seen is.seen; has = leads.has is.seen is.has }

    pub held-asked_at : (run : Option Run) (held : List ℕ) → HasHeld g held old → (answer : Option ClaimAt) → IsAskedAt g run old new answer → HasHeld g (held_given held answer) new
    held-asked_at run held is answer asked =
        part-held held (held_given held answer) (moves_given answer) (names_given answer) (ShownGiven run answer) (part-asked_at g old new held run answer asked) is

    pub held-asked : (n word : ℕ) (looks : List Look) (held : List ℕ) → HasHeld g held old → (own : Bool) (answer : Option Claim) → IsAsked g own old new n word looks answer → HasHeld g (held_after held own answer) new
    held-asked n word looks held is own answer asked =
        part-held held (held_after held own answer) (moves_asked word answer) (names_asked looks answer) (ShownAsked n word looks) (part-asked g old new held own n word looks answer asked) is

    -- the arena stays
    pub arena-asked_at : (run : Option Run) (answer : Option ClaimAt) → IsAskedAt g run old new answer → g.arena new ≡ g.arena old
    arena-asked_at run answer asked = ((part-asked_at g old new [] run answer asked).same).arena

    pub arena-asked : (n word : ℕ) (looks : List Look) (own : Bool) (answer : Option Claim) → IsAsked g own old new n word looks answer → g.arena new ≡ g.arena old
    arena-asked n word looks own answer asked = ((part-asked g old new [] own n word looks answer asked).same).arena

  -- what a release asks for: the frames of held pages
  pub held-frames : (held : List ℕ) (b : B) (first n : ℕ) → 1 ≤ n → HasHeld g held b → ((page : ℕ) → first ≤ page → page < first + n → is_held held page ≡ true) → HasFrames (g.made b) (zero_frames first n)
  held-frames held b first n some is here =
      let HasAll : Run → Type 0 = λ run. HasRun is.moves run in
      record {
        moves = is.moves;
        sight = is.sight;
        made = is.made;
        has = subst HasAll (sym (zeros-run first n some)) (λ page low high. is.has page (here page low high));
      }

  pub held-left : (held after : List ℕ) (old new : B) (release : Option Move) → HasHeld g held old → IsLeft g old new held after release → HasHeld g after new
  held-left held after old new release is left =
      part-held old new held after (moves_released release) (names_released release) ShownNothing (part-left g old new held after release left) is

  pub arena-left : (held after : List ℕ) (old new : B) (release : Option Move) → IsLeft g old new held after release → g.arena new ≡ g.arena old
  arena-left held after old new release left = ((part-left g old new held after release left).same).arena
