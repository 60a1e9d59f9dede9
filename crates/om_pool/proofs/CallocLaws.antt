-- An allocation of zeros: its step where it is placed, and what the zeros change.
use Rattle.std.proofs.Common.{◌≡◌, ℕ, Bool, true, false, if◌then◌else◌, Option, Some, None, refl, sym, ap, ◌∙◌, subst}
use Rattle.om_broker.specs.declared.broker.Broker as broker
use Rattle.om_model.specs.Pool.Calloc.{calloc, calloc_of, calloc_wish, calloc_wish_of, zeroed, zeroed_at}
use Rattle.om_model.specs.Pool.Malloc.{block_placed, is_too_large, placing, placing_wish, words_for}
use Rattle.om_model.specs.Pool.Product.{product}
use Rattle.om_model.specs.Pool.Rules.{Rules}
use Rattle.om_model.specs.Pool.State.{State}
use Rattle.om_model.specs.Pool.Steps.{unchanged, null_or_fault, null_or_fault_by}
use Rattle.om_model.specs.declared.entry.Move.{Move}
use Rattle.om_model.specs.declared.reply.Why.TheVariants.{Overflow, TooLarge}
use Rattle.om_model.proofs.Bytes.{zeroed-sound}
use Rattle.om_pool.specs.Calloc.{zeros_filled}
use Rattle.om_pool.specs.HoldingsView.{rules_in, tables_in, IsSameBut}
use Rattle.om_pool.specs.PoolView.{says_no_run}
use Rattle.om_pool.specs.Tables.{Tables, StandFor}
use Rattle.om_pool.specs.Underway.{HasComeTo}
use Rattle.om_pool.specs.declared.holdings.Holdings.{Holdings}
use Rattle.om_pool.specs.declared.pool_core.Core.{Core}
use Rattle.om_pool.proofs.PlacingLaws.{wish-placing}
use Rattle.om_pool.proofs.TablePages.{bytes-filled}
use Rattle.om_pool.proofs.UnderwayLaws.{come-changed, come-sound}

-- ---- what is refused at once

pub overflow-says : (xmalloc : Bool) → says_no_run (null_or_fault_by xmalloc Overflow) ≡ false
overflow-says true = refl
overflow-says false = refl

-- ---- what is placed

-- a product that isn't too large
module _ (rules : Rules) (state : State) (count size site bytes : ℕ) (some : product count size ≡ Some bytes) (fits : is_too_large rules bytes ≡ false) where
  pub zeros-wish : calloc_wish rules state count size ≡ placing_wish rules state bytes
  zeros-wish = ap (calloc_wish_of rules state) some ∙ wish-placing rules state bytes fits

  pub zeros-whole : (claim : Option Move) (address : Option ℕ) → address ≡ (placing rules state bytes site claim).address
      → calloc rules state count size site claim ≡ block_placed rules (words_for rules bytes) (record { address = address; next = zeroed_at address bytes ((placing rules state bytes site claim).next) })
  zeros-whole claim address at =
      ap (λ p. calloc_of rules state p site claim) some
      ∙ ap (λ large. if large then unchanged state (null_or_fault rules TooLarge) else block_placed rules (words_for rules bytes) (zeroed bytes (placing rules state bytes site claim))) fits
      ∙ ap (λ a. block_placed rules (words_for rules bytes) (record { address = a; next = zeroed_at a bytes ((placing rules state bytes site claim).next) })) (sym at)

-- ---- the zeros

pub zeroed-held : (address : Option ℕ) (size : ℕ) (state : State) → (zeroed_at address size state).held ≡ state.held
zeroed-held None size old = refl
zeroed-held (Some address) size old = refl

zeroed-drawn : (address : Option ℕ) (size : ℕ) (state : State) → (zeroed_at address size state).drawn ≡ state.drawn
zeroed-drawn None size state = refl
zeroed-drawn (Some address) size state = refl

zeros-stand : (rules : Rules) (tables : Tables) (state : State) → StandFor rules tables state → (address : Option ℕ) (size : ℕ) → StandFor rules (zeros_filled address size tables) (zeroed_at address size state)
zeros-stand rules tables state stands None size = stands
zeros-stand rules tables state stands (Some address) size = bytes-filled rules tables state stands 0 (record { first = address; len = size })

-- they change bytes alone
pub zeros-come : {B A : Type 0} (g : broker.Ghosts B A) (core : Core) (b : B) (state : State) → HasComeTo g core b state → (address : Option ℕ) (size : ℕ) (own : Holdings)
    → tables_in own ≡ zeros_filled address size (tables_in core.state) → IsSameBut core.state own → HasComeTo g (record core { state = own }) b (zeroed_at address size state)
zeros-come g core b state come address size own filled same =
    let rules = rules_in core.state in
    let Stands : Tables → Type 0 = λ t. StandFor rules t (zeroed_at address size state) in
    come-changed g core b state come own (zeroed_at address size state) same
    (subst Stands (sym filled) (zeros-stand rules (tables_in core.state) state come.tables address size))
    (zeroed-sound rules state (come-sound g core b state come) address size)
    (zeroed-held address size state) (zeroed-drawn address size state)
