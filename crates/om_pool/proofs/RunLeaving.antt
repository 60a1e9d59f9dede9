-- A run of pages that became free, in a state to which the core has come: it is kept, or let go where it is surplus.
use Rattle.std.proofs.Common.{◌≡◌, ℕ, ◌+◌, ◌<◌, ◌≤◌, Bool, true, false, not, nat_le, if◌then◌else◌, List, Option, Some, None, refl, sym, ap, ◌∙◌, subst}
use Rattle.std.proofs.lemmas.Bool.{and_parts}
use Rattle.om_broker.specs.Claims.{HasFrames}
use Rattle.om_broker.specs.declared.broker.Broker as broker
use Rattle.om_frame.specs.Frames.{zero_frames, AreHeld}
use Rattle.om_frame.specs.Memory as frames
use Rattle.om_model.specs.Pool.Free.{Freed, is_surplus, kept_or_let_go}
use Rattle.om_model.specs.Pool.InUse.{is_free_page, uses}
use Rattle.om_model.specs.Pool.Rules.{Rules}
use Rattle.om_model.specs.Pool.Runs.{Run}
use Rattle.om_model.specs.Pool.State.{State, is_held, without_pages}
use Rattle.om_model.specs.declared.entry.Move.{Move}
use Rattle.om_model.proofs.Free.{IsFreeRun, kept_or_let_go-sound}
use Rattle.om_model.proofs.Places.{untouched-free}
use Rattle.om_model.proofs.Sound.{IsSound}
use Rattle.om_pages.specs.Kinds as kinds
use Rattle.om_pages.specs.Tables.{AreAll}
use Rattle.om_pool.specs.Asking.{IsLeft, IsRunGivenBack}
use Rattle.om_pool.specs.HoldingsView.{rules_in, tables_in, IsSameBut}
use Rattle.om_pool.specs.Leaving.{LeavesTo}
use Rattle.om_pool.specs.TableSteps.{gone_run, is_surplus_by}
use Rattle.om_pool.specs.Tables.{Tables, StandFor}
use Rattle.om_pool.specs.Underway.{HasComeTo}
use Rattle.om_pool.specs.declared.holdings.Holdings.{Holdings}
use Rattle.om_pool.specs.declared.pool_core.Core.{Core}
use Rattle.om_words.specs.DrawnWords.{WordSource}
use Rattle.om_pool.proofs.CoreLaws.{same-rules}
use Rattle.om_pool.proofs.HeldLaws.{held-frames, held-left}
use Rattle.om_pool.proofs.TablePages.{free-counted, free-there, in-run, pages-go}
use Rattle.om_pool.proofs.TableTies.{shelf-holds}
use Rattle.om_pool.proofs.UnderwayLaws.{come-again, come-sound}

-- what they leave from a state between is left from the one before, where the same pages are held
pub leaves-from : {B A : Type 0} (g : broker.Ghosts B A) (old mid new : Core) (before after : B) (state between : State) (left meant : Freed) (release : Option Move) → rules_in mid.state ≡ rules_in old.state → between.held ≡ state.held → left ≡ meant
    → LeavesTo g mid new before after between left release → LeavesTo g old new before after state meant release
leaves-from g old mid new before after state between left meant release rules held same leaves =
    let P : Freed → Type 0 = λ l. LeavesTo g old new before after state l release in
    let Left : List ℕ → Type 0 = λ pages. IsLeft g before after pages (left.next).held release in
    subst P same (record { come = leaves.come; gives_up = leaves.gives_up; broker = subst Left held leaves.broker; rules = leaves.rules ∙ rules })

module _ {B A : Type 0} (g : broker.Ghosts B A) (core : Core) (b : B) (state : State) (come : HasComeTo g core b state) (first n : ℕ) (free : AreAll kinds.is_free core.state.pages first n) where
  abbrev rules : Rules
  rules = rules_in core.state

  abbrev tables : Tables
  tables = tables_in core.state

  abbrev run : Run
  run = record { first = first; count = n }

  abbrev is : IsSound rules state
  is = come-sound g core b state come

  -- each page is held, and nothing is in use there
  each-free : (page : ℕ) → first ≤ page → page < first + n → (is_held state.held page ≡ true) × (is_free_page (uses rules state) page ≡ true)
  each-free page low high = and_parts (is_held state.held page) (is_free_page (uses rules state) page) (sym (free-there rules tables state is come.tables page) ∙ (free page low high).1)

  pub run-bytes : AreHeld core.state.shelf first n
  run-bytes page low high = ap (λ m. frames.is_held m page) come.tables.memory ∙ shelf-holds state page (is.bytes page) ∙ (each-free page low high).0

  pub run-frames : 1 ≤ n → HasFrames (g.made b) (zero_frames first n)
  run-frames some = held-frames g state.held b first n some come.held (λ page low high. (each-free page low high).0)

  untouched : IsFreeRun (uses rules state) run
  untouched page within = let at = in-run run page within in untouched-free (uses rules state) page (each-free page at.0 at.1).1

  abbrev left_if : Bool → Freed
  left_if surplus = if surplus then record { release = Some run; next = without_pages run state } else record { release = None; next = state }

  left-is : (surplus : Bool) → is_surplus_by rules tables ≡ surplus → kept_or_let_go rules state run ≡ left_if surplus
  unfolding kept_or_let_go
  left-is surplus is_so =
      let counted : is_surplus rules state ≡ is_surplus_by rules tables = ap (λ k. not (nat_le k rules.options.cache)) (sym (free-counted rules tables state is come.tables)) in
      ap left_if (counted ∙ is_so)

  pub run-kept : is_surplus_by rules tables ≡ false → LeavesTo g core core b b state (kept_or_let_go rules state run) None
  run-kept few =
      let P : Freed → Type 0 = λ left. LeavesTo g core core b b state left None in
      subst P (sym (left-is false few)) (record { come = come; gives_up = record { run_is = refl; inside = tt }; broker = (refl, refl); rules = refl })

  pub run-let_go : is_surplus_by rules tables ≡ true → (own : Holdings) (after : B) (move : Move) → tables_in own ≡ gone_run tables run → IsSameBut core.state own → IsRunGivenBack g b after run move
      → LeavesTo g core (record core { state = own }) b after state (kept_or_let_go rules state run) (Some move)
  run-let_go many own after move own_is same given =
      let new : Core = record core { state = own } in
      let next : State = without_pages run state in
      let P : Freed → Type 0 = λ left. LeavesTo g core new b after state left (Some move) in
      let Sound : Freed → Type 0 = λ left. IsSound rules left.next in
      let Stands : Tables → Type 0 = λ t. StandFor rules t next in
      let left : IsLeft g b after state.held next.held (Some move) = (run, record { given = given; left = refl }) in
      subst P (sym (left-is true many)) (record {
        come = come-again g core b state come new after next (same-rules core.state own same) refl (given.same).arena
            (subst Stands (sym own_is) (pages-go rules tables state come.tables run))
            (subst Sound (left-is true many) (kept_or_let_go-sound rules state run untouched is))
            (ap (λ (w : WordSource). w.place) same.words ∙ come.drawn)
            (held-left g state.held next.held b after (Some move) come.held left);
        gives_up = record { run_is = ap Some given.run_is; inside = given.inside };
        broker = left;
        rules = same-rules core.state own same;
      })
