-- What a realloc finds at an address: a live block that can have the size, or else what is answered.
use Rattle.std.proofs.Common.{◌≡◌, ℕ, true, false, if◌then◌else◌, Option, Some, None, is_some, refl, sym, subst, ap, ◌∙◌}
use Rattle.std.specs.Prelude.{Result, Ok, Err}
use Rattle.std.proofs.lemmas.Bool.{false≢true}
use Rattle.om_model.specs.Pool.Canaries.{broken_canary, broken_in}
use Rattle.om_model.specs.Pool.Malloc.{is_too_large}
use Rattle.om_model.specs.Pool.Realloc.{block_wish, realloc_at, realloc_block, realloc_by, realloc_wish_at, unless_broken, wish_by}
use Rattle.om_model.specs.Pool.Resizing.{way}
use Rattle.om_model.specs.Pool.Rules.{Rules}
use Rattle.om_model.specs.Pool.Standing.{Standing, LivePlace, PageBlock, standing}
use Rattle.om_model.specs.Pool.State.{State}
use Rattle.om_model.specs.Pool.Steps.{Answers, Nothing, null_or_fault, unchanged}
use Rattle.om_model.specs.declared.block.Block.{Block}
use Rattle.om_model.specs.declared.block.Place.{Place}
use Rattle.om_model.specs.declared.reply.Fault.TheVariants.{Canary}
use Rattle.om_model.specs.declared.reply.Reply.{Reply}
use Rattle.om_model.specs.declared.reply.Reply.TheVariants as reply
use Rattle.om_model.specs.declared.reply.Why.TheVariants.{TooLarge}
use Rattle.om_pool.specs.CoreKept.{core_state, IsCore}
use Rattle.om_pool.specs.HoldingsView.{rules_in, tables_in}
use Rattle.om_pool.specs.PoolView.{says_no_run}
use Rattle.om_pool.specs.Realloc.{FindsBlock, FindsIfFits, IsDenied, IsResizable}
use Rattle.om_pool.specs.declared.moving.Live.{Live}
use Rattle.om_pool.specs.declared.pool_core.Core.{Core}
use Rattle.om_pool.proofs.CoreLaws.{core-sound}
use Rattle.om_pool.proofs.FreeLaws.{block-stands}
use Rattle.om_pool.proofs.MallocLaws.{refused-says}
use Rattle.om_pool.proofs.PlaceLeaving.{lives}
use Rattle.om_pool.proofs.TableBlocks.{page-block}

-- what stands there can't be resized
pub denied-at : (core : Core) (address size : ℕ) (there : Standing) → standing (rules_in core.state) (core_state core) address ≡ there → (answer : Reply) → realloc_wish_at (rules_in core.state) (core_state core) size there ≡ Nothing
    → ((site : ℕ) (answers : Answers) → realloc_at (rules_in core.state) (core_state core) address size site answers there ≡ unchanged (core_state core) answer) → says_no_run answer ≡ false → IsDenied core address size answer
denied-at core address size there stands answer wish step says = record {
  wish = ap (realloc_wish_at (rules_in core.state) (core_state core) size) stands ∙ wish;
  step_is = λ site answers. ap (realloc_at (rules_in core.state) (core_state core) address size site answers) stands ∙ step site answers;
  says = says;
}

module _ (core : Core) (is : IsCore core) (address size : ℕ) where
  abbrev rules : Rules
  rules = rules_in core.state

  abbrev state : State
  state = core_state core

  abbrev too_large : Reply
  too_large = null_or_fault rules TooLarge

  -- the size is too large
  large-wish : (block : Block) (place : Option Place) → is_too_large rules size ≡ true → block_wish rules state block place size ≡ Nothing
  large-wish block place large = ap (λ b. if b then Nothing else wish_by (way rules state block size) rules state block place size) large

  large-step : (block : Block) (place : Option Place) → is_too_large rules size ≡ true → (site : ℕ) (answers : Answers)
      → realloc_block rules state (record { block = block; place = place; size = size; site = site }) answers ≡ unchanged state too_large
  large-step block place large site answers =
      ap (λ b. if b then unchanged state too_large else realloc_by (way rules state block size) rules state (record { block = block; place = place; size = size; site = site }) answers) large

  too-large-says : says_no_run too_large ≡ false
  too-large-says = refused-says rules.options.xmalloc

  pub finds-block : (block : Block) → standing rules state address ≡ PageBlock block → (found : Result Live Reply) → FindsIfFits rules (record { block = block; place = None }) size found → FindsBlock core address size found
  finds-block block stands (Ok live) fits =
      let has = page-block rules state (core-sound core is) address block stands in
      let Found : Live → Type 0 = λ l. IsResizable core address size l in
      subst Found (sym fits.0) (record { at = has.at; stands = block-stands core is address block stands; whole = λ some. absurd (false≢true some); fits = fits.1 })
  finds-block block stands (Err answer) fits =
      let Found : Reply → Type 0 = λ r. IsDenied core address size r in
      subst Found (sym fits.0) (denied-at core address size (PageBlock block) stands too_large (large-wish block None fits.1) (large-step block None fits.1) too-large-says)

  module _ (place : Place) (block : Block) (stands : standing rules state address ≡ LivePlace place block) where
    abbrev broken_is : Option ℕ → Type 0
    broken_is found = broken_in rules core.state.shelf block ≡ found

    broken-shown : (found : Option ℕ) → broken_is found → broken_canary rules state block ≡ found
    broken-shown found is_found = ap (λ memory. broken_in rules memory block) (sym is.tables.memory) ∙ is_found

    pub finds-broken : (offset : ℕ) → broken_is (Some offset) → IsDenied core address size (reply.Fault (Canary offset))
    finds-broken offset broken =
        let shown = broken-shown (Some offset) broken in
        denied-at core address size (LivePlace place block) stands (reply.Fault (Canary offset))
        (ap (λ found. if is_some found then Nothing else block_wish rules state block (Some place) size) shown)
        (λ site answers. ap (λ found. unless_broken found state (realloc_block rules state (record { block = block; place = Some place; size = size; site = site }) answers)) shown)
        refl

    pub finds-place : broken_is None → (found : Result Live Reply) → FindsIfFits rules (record { block = block; place = Some place }) size found → FindsBlock core address size found
    finds-place whole (Ok live) fits =
        let own = lives rules (tables_in core.state) state (core-sound core is) is.tables address place block stands in
        let Found : Live → Type 0 = λ l. IsResizable core address size l in
        subst Found (sym fits.0)
        (record { at = own.block_is; stands = ap (standing rules state) own.block_is ∙ stands; whole = λ some. broken-shown None whole; fits = fits.1 })
    finds-place whole (Err answer) fits =
        let shown = broken-shown None whole in
        let Found : Reply → Type 0 = λ r. IsDenied core address size r in
        subst Found (sym fits.0)
        (denied-at core address size (LivePlace place block) stands too_large
        (ap (λ found. if is_some found then Nothing else block_wish rules state block (Some place) size) shown ∙ large-wish block (Some place) fits.1)
        (λ site answers. ap (λ found. unless_broken found state (realloc_block rules state (record { block = block; place = Some place; size = size; site = site }) answers)) shown ∙ large-step block (Some place) fits.1 site answers)
        too-large-says)
