-- What a block has in common with a new one is copied: memory has both, and they share no byte.
use Rattle.std.proofs.Common.{◌≡◌, ℕ, ◌+◌, ◌++◌, [], ◌∷◌, List, Option, Some, None, min, refl, sym, ap, ◌∙◌, subst, arith}
use Rattle.om_broker.specs.declared.broker.Broker as broker
use Rattle.om_frame.specs.Memory.{IsHeldPart, ShareNoByte, copied}
use Rattle.om_model.specs.Pool.Malloc.{placing}
use Rattle.om_model.specs.Pool.Realloc.{with_copy}
use Rattle.om_model.specs.Pool.Rules.{Rules}
use Rattle.om_model.specs.Pool.Standing.{block_at, standing}
use Rattle.om_model.specs.Pool.State.{State, drawn_more}
use Rattle.om_model.specs.declared.block.Block.{Block}
use Rattle.om_model.specs.declared.block.Place.{Place}
use Rattle.om_model.proofs.Bytes.{copy-sound}
use Rattle.om_model.proofs.Free.{IsPlaceOf}
use Rattle.om_model.proofs.LiveBlocks.{placing-found}
use Rattle.om_model.proofs.Sound.{IsSound}
use Rattle.om_pool.specs.HoldingsView.{rules_in, tables_in, with_drawn}
use Rattle.om_pool.specs.Leaving as Leaving
use Rattle.om_pool.specs.Moving.{Copies, StandsAs, copied_where}
use Rattle.om_pool.specs.Placing.{Places}
use Rattle.om_pool.specs.Tables.{Tables, StandFor}
use Rattle.om_pool.specs.Underway.{HasComeTo}
use Rattle.om_pool.specs.declared.holdings.Holdings.{Holdings}
use Rattle.om_pool.specs.declared.placing.Placing.{Placing}
use Rattle.om_pool.specs.declared.pool_core.Core.{Core}
use Rattle.om_pool.proofs.LiveBytes.{last-apart, live-held}
use Rattle.om_pool.proofs.PlacedBytes.{last-held, placing-live}
use Rattle.om_pool.proofs.LiveStands.{live-stands}
use Rattle.om_pool.proofs.UnderwayLaws.{come-changed, come-sound}

-- other bytes are written
bytes-written : (rules : Rules) (tables : Tables) (state : State) → StandFor rules tables state → (memory : List (List ℕ)) → StandFor rules (record tables { memory = memory }) (record state { memory = memory })
bytes-written rules tables state stands memory = record {
  pages_all = stands.pages_all;
  chunks_all = stands.chunks_all;
  blocks_all = stands.blocks_all;
  pages = stands.pages;
  chunks = stands.chunks;
  blocks = stands.blocks;
  slots = stands.slots;
  memory = refl;
}

module _ {B A : Type 0} (g : broker.Ghosts B A) (old mid : Core) (before after : B) (state : State) (block : Block) (size site : ℕ) (words : List ℕ) (placed : Placing)
    (places : Places g old mid before after state size site words placed) where
  abbrev rules : Rules
  rules = rules_in old.state

  abbrev next : State
  next = (placing rules state size site placed.claim).next

  module _ (live : block_at state block.address ≡ Some block) (to : ℕ) (at : placed.address ≡ Some to) (len : ℕ) (len_is : len ≡ min block.size size) where
    abbrev new_block : Block
    new_block = record { address = to; size = size; site = site }

    sound : IsSound rules next
    sound = let Sound : Rules → Type 0 = λ r. IsSound r next in subst Sound places.rules (come-sound g mid after next places.come)

    joined : next.live ≡ state.live ++ new_block ∷ []
    joined = placing-live rules size site state placed.claim to (sym places.address_is ∙ at)

    pub copy-source : IsHeldPart mid.state.shelf block.address len
    copy-source =
        let Held : List (List ℕ) → Type 0 = λ memory. IsHeldPart memory block.address len in
        let come = places.come in
        subst Held (sym come.tables.memory) (live-held rules next sound block.address block (placing-found rules state size site placed.claim block block.address live) len (omega arith))

    pub copy-target : IsHeldPart mid.state.shelf to len
    copy-target =
        let Held : List (List ℕ) → Type 0 = λ memory. IsHeldPart memory to len in
        let come = places.come in
        subst Held (sym come.tables.memory) (λ byte low high. last-held rules next sound state.live new_block joined byte low (omega arith))

    pub copy-apart : ShareNoByte block.address to len
    copy-apart = last-apart rules next sound state.live new_block joined block.address block live len (omega arith) (omega arith)

    pub copies : (memory : List (List ℕ)) → memory ≡ copied mid.state.shelf block.address to len → Copies g old (record mid { state = record mid.state { shelf = memory } }) before after state block size site words placed
    copies memory memory_is =
        let come = places.come in
        let Come : List (List ℕ) → Option ℕ → Type 0 = λ m a. HasComeTo g (record mid { state = record mid.state { shelf = m } }) after (copied_where block size a next) in
        let common : List (List ℕ) = copied next.memory block.address to (min block.size size) in
        let with : Holdings = record mid.state { shelf = common } in
        let came : Come common (Some to) =
        come-changed g mid after next come with (with_copy block size to next) (record { opts = refl; zones = refl; words = refl })
        (bytes-written (rules_in mid.state) (tables_in mid.state) next come.tables common)
        (copy-sound (rules_in mid.state) next (come-sound g mid after next come) block size to) refl refl in
        let is_common : memory ≡ common = memory_is ∙ ap (λ m. copied m block.address to len) come.tables.memory ∙ ap (copied next.memory block.address to) len_is in
        record {
          mid = mid;
          places = places;
          come = subst (λ m. Come m placed.address) (sym is_common) (subst (Come common) (sym at) came);
          rules = places.rules;
        }

  pub copies-none : placed.address ≡ None → Copies g old mid before after state block size site words placed
  copies-none at =
      let Come : Option ℕ → Type 0 = λ a. HasComeTo g mid after (copied_where block size a next) in
      record { mid = mid; places = places; come = subst Come (sym at) places.come; rules = places.rules }

-- ---- after the word of a slot was drawn

abbrev pub drawn_core : Core → Core
drawn_core old = record old { state = with_drawn 1 old.state }

pub drawn-copies : {B A : Type 0} (g : broker.Ghosts B A) (old : Core) (own : Holdings) → own ≡ with_drawn 1 old.state → (copy : Core) (before searched : B) (state : State) (block : Block) (size site : ℕ) (words : List ℕ) (placed : Placing)
    → Copies g (record old { state = own }) copy before searched (drawn_more 1 state) block size site words placed → Copies g (drawn_core old) copy before searched (drawn_more 1 state) block size site words placed
drawn-copies g old own draws copy before searched state block size site words placed =
    let Copied : Holdings → Type 0 = λ x. Copies g (record old { state = x }) copy before searched (drawn_more 1 state) block size site words placed in
    subst Copied draws

-- no word is drawn for a block of whole pages
pub none-copies : {B A : Type 0} (g : broker.Ghosts B A) (old copy : Core) (before searched : B) (state : State) (block : Block) (size site : ℕ) (words : List ℕ) (placed : Placing)
    → Copies g old copy before searched state block size site words placed → Copies g old copy before searched (drawn_more 0 state) block size site words placed
none-copies g old copy before searched state block size site words placed =
    let Copied : ℕ → Type 0 = λ d. Copies g old copy before searched (record state { drawn = d }) block size site words placed in
    subst Copied (let same : state.drawn ≡ state.drawn + 0 = omega arith in same)

-- ---- once the bytes are copied the block stands as it did

module _ {B A : Type 0} (g : broker.Ghosts B A) (old copy : Core) (before searched : B) (state : State) (block : Block) (size site : ℕ) (words : List ℕ) (placed : Placing)
    (copies : Copies g old copy before searched state block size site words placed) (to : ℕ) where
  abbrev there : State
  there = (placing (rules_in old.state) state size site placed.claim).next

  abbrev pub copy_of : State
  copy_of = with_copy block size to there

  module _ (at : placed.address ≡ Some to) where
    pub copied-come : HasComeTo g copy searched copy_of
    copied-come = let Come : Option ℕ → Type 0 = λ a. HasComeTo g copy searched (copied_where block size a there) in subst Come at copies.come

    module _ (live : block_at state block.address ≡ Some block) where
      pub copied-stands : (place : Option Place) → IsPlaceOf (rules_in old.state) block place → StandsAs (rules_in copy.state) copy_of block place
      copied-stands place has =
          let Has : Rules → Type 0 = λ r. IsPlaceOf r block place in
          live-stands (rules_in copy.state) copy_of (come-sound g copy searched copy_of copied-come) block (placing-found (rules_in old.state) state size site placed.claim block block.address live) place (subst Has (sym copies.rules) has)

      pub copied-place : (place : Place) → IsPlaceOf (rules_in old.state) block (Some place) → Leaving.IsPlaceOf (rules_in copy.state) copy_of place block
      copied-place place has = ap (standing (rules_in copy.state) copy_of) has.0 ∙ copied-stands (Some place) has
