-- The place that the pool itself has, and what becomes of the tables by the block that goes there or on a claimed page.
use Rattle.std.proofs.Common.{◌≡◌, ℕ, ◌+◌, ◌*◌, ◌<◌, true, Option, Some, None, IfSome, IsTrue, is_some, refl, sym, ap, ◌∙◌, subst}
use Rattle.om_broker.specs.declared.broker.Claim.{Claim}
use Rattle.om_broker.specs.declared.broker.Claim.TheVariants.{Claimed, NoRun}
use Rattle.om_chunk.specs.Picks.{picked, place_on}
use Rattle.om_chunk.specs.declared.pages.Picked.{Picked}
use Rattle.om_geom.specs.ClassLaws.{class_of-is_class}
use Rattle.om_geom.specs.Classes.{is_class}
use Rattle.om_geom.specs.Numbers.{zone_pages}
use Rattle.om_model.specs.Pool.InUse.{uses}
use Rattle.om_model.specs.Pool.Malloc.{malloc}
use Rattle.om_model.specs.Pool.Picks.{own_page}
use Rattle.om_model.specs.Pool.Rules.{Rules, size_class, word_at}
use Rattle.om_model.specs.Pool.State.{State, is_held}
use Rattle.om_model.specs.declared.entry.Move.{Move}
use Rattle.om_model.proofs.Places.{serves-own}
use Rattle.om_model.proofs.Sound.{IsSound}
use Rattle.om_pages.specs.FreeRuns.{lowest_run}
use Rattle.om_pool.specs.Asking.{claim_in}
use Rattle.om_pool.specs.Malloc.{PlacesBlock}
use Rattle.om_pool.specs.TableSteps.{fresh_page, FreshPlace, OwnBy, OwnPlace}
use Rattle.om_pool.specs.Tables.{Tables, StandFor}
use Rattle.om_pool.proofs.ChunkPlacing.{own-nothing, places-claimed, places-fresh, places-nowhere, places-open, Places}
use Rattle.om_pool.proofs.PlacingLaws.{IsNewClaim}
use Rattle.om_pool.proofs.TablePages.{lowest-page}
use Rattle.om_pool.proofs.TablePicks.{own-none, own-some}

module _ (rules : Rules) (size class : ℕ) (class_is : size_class rules size ≡ Some class) (site : ℕ) (tables : Tables) (state : State) (is : IsSound rules state) (stands : StandFor rules tables state) (first second : ℕ)
    (first_is : first ≡ word_at rules state.drawn) (second_is : second ≡ word_at rules (state.drawn + 1)) where
  abbrev own : Option ℕ
  own = own_page (uses rules state) state.held class first

  abbrev PlacedAs : Tables → Option Move → Option ℕ → Type 0
  PlacedAs new claim at = Places rules size class class_is site tables state is stands first second first_is second_is new claim at

  -- what the place is, and what follows from a block on it
  pub record Owns (new : Tables) (result : Option Picked) : Type 0 where
    pub has : is_some result ≡ is_some own
    pub fits : IfSome result (λ found. ((found.page).0 < zone_pages * rules.zones) × (is_held state.held ((found.page).0) ≡ true))
    pub same : result ≡ None → new ≡ tables
    pub memory : new.memory ≡ tables.memory
    pub places : (after : Tables) (answer : Option Claim) (at : Option ℕ) → IsNewClaim rules state 1 answer → IsSound rules ((malloc rules state size site (claim_in answer)).next)
        → PlacesBlock rules new after class second size site at result answer → PlacedAs after (claim_in answer) at

  is_one : IsTrue (is_class class)
  is_one = class_of-is_class size rules.options.canary class class_is

  fits-page : (page : ℕ) → own ≡ Some page → (page < zone_pages * rules.zones) × (is_held state.held page ≡ true)
  fits-page page at =
      let sound = is.sound in
      let serves = serves-own rules state.held (uses rules state) sound.placed page class first is_one is.arena sound.together at in
      (serves.there, serves.held_is)

  owns-open : (found : Picked) → picked tables.chunks class first second ≡ Some found → Owns tables (Some found)
  owns-open found some =
      let both = own-some rules tables state is stands class is_one first second found some in
      record {
        has = ap is_some (sym both.0);
        fits = fits-page ((found.page).0) both.0;
        same = λ none. refl;
        memory = refl;
        places = λ after answer at claim sound on. places-open rules size class class_is site tables state is stands first second first_is second_is (claim_in answer) sound found after at some on;
      }

  owns-fresh : (page place : ℕ) → picked tables.chunks class first second ≡ None → lowest_run tables.pages 1 ≡ Some page → place_on (fresh_page tables page class).chunks page second ≡ Some place
      → Owns (fresh_page tables page class) (Some (record { page = record { 0 = page }; place = place }))
  owns-fresh page place none low place_is =
      let at_own : own ≡ Some page = own-none rules tables state is stands class is_one first second none ∙ sym (lowest-page rules tables state is stands) ∙ low in
      record {
        has = ap is_some (sym at_own);
        fits = fits-page page at_own;
        same = λ none. cc;
        memory = refl;
        places = λ after answer at claim sound on. places-fresh rules size class class_is site tables state is stands first second first_is second_is (claim_in answer) sound page place after at none low place_is on;
      }

  owns-none : picked tables.chunks class first second ≡ None → lowest_run tables.pages 1 ≡ None → Owns tables None
  owns-none none low =
      let nothing = own-nothing rules size class class_is site tables state is stands first second first_is second_is none low in
      record {
        has = ap is_some (sym nothing);
        fits = tt;
        same = λ none. refl;
        memory = refl;
        places = by nothing;
      }
    where
      nowhere : own ≡ None → (after : Tables) (at : Option ℕ) → (after ≡ tables) × (at ≡ None) → PlacedAs after None at
      nowhere nothing after at on =
          let P : Tables → Option ℕ → Type 0 = λ t o. PlacedAs t None o in
          subst (λ t. P t at) (sym on.0) (subst (P tables) (sym on.1) (places-nowhere rules size class class_is site tables state is stands first second first_is second_is nothing))

      by : own ≡ None → (after : Tables) (answer : Option Claim) (at : Option ℕ) → IsNewClaim rules state 1 answer → IsSound rules ((malloc rules state size site (claim_in answer)).next)
          → PlacesBlock rules tables after class second size site at None answer → PlacedAs after (claim_in answer) at
      by nothing after None at claim sound on = nowhere nothing after at on
      by nothing after (Some NoRun) at claim sound on = nowhere nothing after at on
      by nothing after (Some (Claimed move frames)) at claim sound on =
          places-claimed rules size class class_is site tables state is stands first second first_is second_is move after at nothing sound claim on

  pub owned : (new : Tables) (result : Option Picked) → OwnPlace tables new class first second result → Owns new result
  owned new result own_place = by (picked tables.chunks class first second) refl own_place
    where
      Own : Tables → Option Picked → Type 0
      Own t r = Owns t r

      low-by : picked tables.chunks class first second ≡ None → (low : Option ℕ) → lowest_run tables.pages 1 ≡ low → FreshPlace tables new class second result low → Owns new result
      low-by none None low o = subst (λ t. Own t result) (sym o.0) (subst (Own tables) (sym o.1) (owns-none none low))
      low-by none (Some page) low o =
          let place_is = ap (λ (t : Tables). place_on t.chunks page second) (sym o.new_is) ∙ o.place_is in
          subst (λ t. Own t result) (sym o.new_is) (subst (Own (fresh_page tables page class)) (sym o.result_is) (owns-fresh page o.place none low place_is))

      by : (found : Option Picked) → picked tables.chunks class first second ≡ found → OwnBy tables new class second result found → Owns new result
      by (Some found) some o = subst (λ t. Own t result) (sym o.0) (subst (Own tables) (sym o.1) (owns-open found some))
      by None none o = low-by none (lowest_run tables.pages 1) refl o
