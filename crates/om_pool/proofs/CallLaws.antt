-- The frames of a release, and what becomes of the broker's side of a pool by a call that lets a run go at most.
use Rattle.std.proofs.Common.{◌≡◌, ℕ, ◌+◌, ◌*◌, ◌≤◌, List, [], ◌∷◌, ◌++◌, length, Option, None, sym, ◌∙◌, ap, arith}
use Rattle.om_broker.specs.Claims.{first_page, run_of_frames, AreZeros, IsGivenBack}
use Rattle.om_broker.specs.declared.broker.Broker as broker
use Rattle.om_frame.specs.Frames.{PageBytes, zero_frames}
use Rattle.om_geom.specs.Addresses.{bit_of, zone_of}
use Rattle.om_geom.specs.Numbers.{zone_pages}
use Rattle.om_model.specs.Pool.Rules.{Rules}
use Rattle.om_model.specs.Pool.Runs.{Run, run_of}
use Rattle.om_model.specs.declared.entry.Entry.TheVariants.{Call}
use Rattle.om_model.specs.declared.entry.Move.{Move}
use Rattle.om_model.specs.declared.operation.Op.{Op}
use Rattle.om_model.specs.declared.operation.Who.{Who}
use Rattle.om_model.specs.declared.reply.Reply.{Reply}
use Rattle.om_pool.specs.Asking.{IsLeft}
use Rattle.om_pool.specs.Backing.{IsBacked}
use Rattle.om_pool.specs.CoreKept.{core_state, IsBackedCore}
use Rattle.om_pool.specs.HoldingsView.{rules_in}
use Rattle.om_pool.specs.Unasked.{unasked_entry, IsQuiet}
use Rattle.om_pool.specs.declared.pool_core.Core.{Core}
use Rattle.om_pool.proofs.HeldLaws.{zeros-run}
use Rattle.om_pool.proofs.TraceLaws.{core-backed, left-traced, left_trace, quiet-traced}

-- ---- the frames of a release

module _ (first n : ℕ) (some : 1 ≤ n) (one_zone : bit_of first + n ≤ zone_pages) (frames : List PageBytes) (are : frames ≡ zero_frames first n) where
  pub frames-run : run_of_frames frames ≡ record { first = first; count = n }
  frames-run = ap run_of_frames are ∙ zeros-run first n some

  pub lets-zeros : AreZeros frames
  lets-zeros =
      let first_is : first_page frames ≡ first = ap (λ (run : Run). run.first) frames-run in
      let count_is : length frames ≡ n = ap (λ (run : Run). run.count) frames-run in
      record {
        some = omega arith;
        one_zone = omega (arith, ap bit_of first_is);
        zeros_are = are ∙ ap (λ p. zero_frames p n) (sym first_is) ∙ ap (zero_frames (first_page frames)) (sym count_is);
      }

  -- the move is of their pages
  pub lets-move : (move : Move) → IsGivenBack frames move → (run_of move ≡ record { first = first; count = n }) × (move.first + move.count ≤ zone_pages)
  lets-move move back =
      let first_is : first_page frames ≡ first = ap (λ (run : Run). run.first) frames-run in
      let count_is : move.count ≡ n = back.count ∙ ap (λ (run : Run). run.count) frames-run in
      let zone_is : move.zone ≡ zone_of first = back.zone_is ∙ ap zone_of first_is in
      let bit_is : move.first ≡ bit_of first = back.first_is ∙ ap bit_of first_is in
      let start : zone_pages * move.zone + move.first ≡ first = omega arith in
      (ap (λ f. let run : Run = record { first = f; count = move.count } in run) start ∙ ap (λ k. let run : Run = record { first = first; count = k } in run) count_is, omega arith)

module _ {B A : Type 0} (g : broker.Ghosts B A) where
  -- ---- the start

  pub backed-none : (rules : Rules) (b : B) → g.zones (g.arena b) ≡ rules.zones → g.made b [] [] → IsBacked g rules [] [] b
  backed-none rules b zones made = record { zones = zones; sight = []; made = made; has = λ page held. cc; moves = tt; named = tt; looks = tt; taken = tt; rising = tt }

  -- ---- a call that lets a run go at most

  pub backed-quiet : (old new : Core) (b : B) (who : Who) (op : Op) (reply : Reply) → IsQuiet old new who op reply → IsBackedCore g old b → IsBackedCore g new b
  backed-quiet old new b who op reply quiet is =
      core-backed g old new b b (unasked_entry who op reply quiet.words None) (left_trace None) (quiet-traced g old new b who op reply quiet) quiet.rules is

  pub backed-let_go : (old new : Core) (before after : B) (who : Who) (op : Op) (reply : Reply) (words : List ℕ) (release : Option Move) → rules_in new.state ≡ rules_in old.state
      → IsLeft g before after (core_state old).held (core_state new).held release → new.journal.items ≡ old.journal.items ++ Call (unasked_entry who op reply words release) ∷ []
      → IsBackedCore g old before → IsBackedCore g new after
  backed-let_go old new before after who op reply words release rules left added is =
      core-backed g old new before after (unasked_entry who op reply words release) (left_trace release) (left-traced g old new before after who op reply words release added left) rules is
