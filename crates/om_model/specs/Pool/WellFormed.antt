-- Well-formed states: what is in use (the places of live chunks and of delayed ones, the data pages and the guards of
-- page blocks) shares no byte and lies on held pages, and no page is touched by places of two classes, or by a place
-- and a page block. Chunks are places of their pages; page blocks and guards begin where a page does, and each block
-- lies in one zone with its guard. Held pages ascend and are pages of the arena; memory has their bytes and no
-- others. There are 16 slots, delayed places are of classes, and no live block is too large.
use Rattle.std.specs.Prelude.{◌≡◌, ℕ, ◌+◌, ◌*◌, ◌<◌, ◌≤◌, true, false, List, [], ◌∷◌, length, IsTrue, if◌then◌else◌}
use Rattle.std.specs.List.{AllByRecursion}
use Rattle.om_delay.specs.Slots.{slot_count}
use Rattle.om_frame.specs.Memory.{page_bytes}
use Rattle.om_geom.specs.Addresses.{Covers, SharesByte, address_of, bit_of, page_at}
use Rattle.om_geom.specs.Classes.{is_class}
use Rattle.om_geom.specs.Numbers.{page_size, zone_pages}
use Rattle.om_model.specs.Pool.Malloc.{is_too_large, pages_for}
use Rattle.om_model.specs.Pool.Rules.{Rules}
use Rattle.om_model.specs.Pool.State.{State, delayed, holds, is_held}
use Rattle.om_model.specs.Pool.InUse.{Kind, Chunk, Use, uses, touches}
use Rattle.om_model.specs.Pool.Picks.{starts_place}
use Rattle.om_model.specs.declared.block.Block.{Block}

-- the relation holds of each element and each one after it
abbrev pub EachPair : {X : Type 0} → (X → X → Type 0) → List X → Type 0
EachPair R [] = Unit {0}
EachPair R (x ∷ xs) = AllByRecursion (R x) xs × EachPair R xs

abbrev pub AreApart : Use → Use → Type 0
AreApart a b = SharesByte a.extent b.extent → ⊥

-- places of one class, or page blocks and their guards
abbrev pub AreAlike : Kind → Kind → Type 0
AreAlike (Chunk one) (Chunk other) = one ≡ other
AreAlike (Chunk class) kind = ⊥
AreAlike kind (Chunk class) = ⊥
AreAlike kind other = Unit {0}

-- what touches one page is alike
abbrev pub AgreeOnPages : Use → Use → Type 0
AgreeOnPages a b = (page : ℕ) → touches page a ≡ true → touches page b ≡ true → AreAlike a.kind b.kind

-- a chunk begins where a place does, and what has whole pages at the first byte of a page
abbrev pub BeginsRight : ℕ → Kind → Type 0
BeginsRight address (Chunk class) = starts_place class address ≡ true
BeginsRight address kind = address ≡ address_of (page_at address)

-- every byte is on a held page
abbrev pub LiesOn : Rules → State → Use → Type 0
LiesOn rules state one = (byte : ℕ) → Covers one.extent byte → holds rules state byte ≡ true

-- it has a class or isn't too large, and its pages, with the guard's, are of one zone
pub record FitsZone (rules : Rules) (block : Block) : Type 0 where
  pub fits : is_too_large rules block.size ≡ false
  pub within : bit_of (page_at block.address) + pages_for rules block.size ≤ zone_pages

-- a page has its bytes where it is held, and else none
abbrev pub HasBytes : State → ℕ → Type 0
HasBytes state page = length (page_bytes state.memory page) ≡ (if is_held state.held page then page_size else 0)

pub record IsWellFormed (rules : Rules) (state : State) : Type 0 where
  pub ascend : EachPair ◌<◌ state.held
  pub arena : AllByRecursion (λ page. page < zone_pages * rules.zones) state.held
  pub pages : length state.memory ≡ zone_pages * rules.zones
  pub bytes : (page : ℕ) → HasBytes state page
  pub slots : length state.slots ≡ slot_count
  pub classes : AllByRecursion (λ place. IsTrue (is_class place.class)) (delayed state.slots)
  pub zoned : AllByRecursion (FitsZone rules) state.live
  pub begin : AllByRecursion (λ one. BeginsRight (one.extent).first one.kind) (uses rules state)
  pub apart : EachPair AreApart (uses rules state)
  pub on_held : AllByRecursion (LiesOn rules state) (uses rules state)
  pub alike : EachPair AgreeOnPages (uses rules state)
