-- The ways in which a block comes to a new size, and what is so in each.
use Rattle.std.proofs.Common.{◌≡◌, ℕ, ◌+◌, ◌*◌, ◌<◌, ◌≤◌, ◌⊎◌, inl, inr, Bool, true, false, nat_eq, nat_lt, if◌then◌else◌, Option, Some, None, refl, ap, ◌∙◌, arith}
use Rattle.std.proofs.lemmas.Bool.Decides.{nat_tests}
use Rattle.std.proofs.lemmas.Bool.{eqb-true, leb-true, ltb-true}
use Rattle.om_geom.specs.Addresses.{bit_of, page_at}
use Rattle.om_geom.specs.Classes.{data_pages}
use Rattle.om_geom.specs.Numbers.{zone_pages}
use Rattle.om_model.specs.Pool.InUse.{uses}
use Rattle.om_model.specs.Pool.Picks.{is_free_run}
use Rattle.om_model.specs.Pool.Resizing.{Way, Stays, Shrinks, Grows, Claims, Moves, pages_after, fits_in_zone, holds_some, way_over, way_by_pages, way_by_class, way}
use Rattle.om_model.specs.Pool.Rules.{Rules, size_class, block_pages}
use Rattle.om_model.specs.Pool.State.{State}
use Rattle.om_model.specs.declared.block.Block.{Block}

-- both sizes are of whole pages
pub record AreWhole (rules : Rules) (block : Block) (size : ℕ) : Type 0 where
  pub old : size_class rules block.size ≡ None
  pub new : size_class rules size ≡ None

-- it needs more pages, and with those behind it is still a run of one zone
pub record GoesOn (rules : Rules) (block : Block) (size : ℕ) : Type 0 where
  pub whole : AreWhole rules block size
  pub more : data_pages block.size < data_pages size
  pub zone : bit_of (page_at block.address) + block_pages rules size ≤ zone_pages

-- the class of both sizes
pub record HaveClass (rules : Rules) (block : Block) (size : ℕ) : Type 0 where
  pub class : ℕ
  pub old : size_class rules block.size ≡ Some class
  pub new : size_class rules size ≡ Some class

-- what is so where a block comes to a new size in this way
abbrev pub IsBy : Rules → State → Block → ℕ → Way → Type 0
IsBy rules state block size Stays = HaveClass rules block size ⊎ (AreWhole rules block size × (data_pages size ≡ data_pages block.size))
IsBy rules state block size Shrinks = AreWhole rules block size × (data_pages size < data_pages block.size)
IsBy rules state block size Grows = GoesOn rules block size × (is_free_run (uses rules state) state.held (pages_after rules block size).count (pages_after rules block size).first ≡ true)
IsBy rules state block size Claims = GoesOn rules block size × (holds_some state (pages_after rules block size) ≡ false)
IsBy rules state block size Moves = Unit {0}

module _ (rules : Rules) (state : State) (block : Block) (size : ℕ) where
  abbrev By : Way → Type 0
  By way = IsBy rules state block size way

  over-by : GoesOn rules block size → By (way_over rules state (pages_after rules block size))
  over-by on = by (is_free_run (uses rules state) state.held (pages_after rules block size).count (pages_after rules block size).first) (holds_some state (pages_after rules block size)) refl refl
    where
      by : (free held : Bool) → is_free_run (uses rules state) state.held (pages_after rules block size).count (pages_after rules block size).first ≡ free → holds_some state (pages_after rules block size) ≡ held
          → By (if free then Grows else if held then Moves else Claims)
      by true held free_is held_is = (on, free_is)
      by false true free_is held_is = tt
      by false false free_is held_is = (on, held_is)

  pages-by : AreWhole rules block size → By (way_by_pages rules state block size)
  pages-by both = by (nat_eq (data_pages size) (data_pages block.size)) (nat_lt (data_pages size) (data_pages block.size)) (fits_in_zone rules block size) refl refl refl
    where
      by : (same less zone : Bool) → nat_eq (data_pages size) (data_pages block.size) ≡ same → nat_lt (data_pages size) (data_pages block.size) ≡ less → fits_in_zone rules block size ≡ zone
          → By (if same then Stays else if less then Shrinks else if zone then way_over rules state (pages_after rules block size) else Moves)
      by true less zone same_is less_is zone_is = inr (both, eqb-true (data_pages size) (data_pages block.size) same_is)
      by false true zone same_is less_is zone_is = (both, ltb-true (data_pages size) (data_pages block.size) less_is)
      by false false true same_is less_is zone_is =
          over-by (record { whole = both; more = grind (arith, nat_tests); zone = leb-true (bit_of (page_at block.address) + block_pages rules size) zone_pages zone_is })
      by false false false same_is less_is zone_is = tt

  class-by : (old new : Option ℕ) → size_class rules block.size ≡ old → size_class rules size ≡ new → By (way_by_class rules state block size old new)
  class-by (Some old) (Some new) old_is new_is = by (nat_eq new old) refl
    where
      by : (same : Bool) → nat_eq new old ≡ same → By (if same then Stays else Moves)
      by true same = inl (record { class = old; old = old_is; new = new_is ∙ ap Some (eqb-true new old same) })
      by false same = tt
  class-by (Some old) None old_is new_is = tt
  class-by None (Some new) old_is new_is = tt
  class-by None None old_is new_is = pages-by (record { old = old_is; new = new_is })

  pub way-by : By (way rules state block size)
  way-by = by rules.options.always_move
    where
      by : (always : Bool) → By (if always then Moves else way_by_class rules state block size (size_class rules block.size) (size_class rules size))
      by true = tt
      by false = class-by (size_class rules block.size) (size_class rules size) refl refl

-- ---- the pages behind a block that goes on

module _ (rules : Rules) (block : Block) (size : ℕ) (on : GoesOn rules block size) where
  -- so many pages more than it has make as many as it needs
  pub after-count : block_pages rules block.size + (pages_after rules block size).count ≡ block_pages rules size
  after-count = let more = on.more in omega arith

  -- they are of its zone
  pub after-zone : bit_of (pages_after rules block size).first + (pages_after rules block size).count ≤ zone_pages
  after-zone = let more = on.more in let zone = on.zone in omega arith

  -- and so of the arena
  pub after-there : page_at block.address < zone_pages * rules.zones → (pages_after rules block size).first + (pages_after rules block size).count ≤ zone_pages * rules.zones
  after-there there = let more = on.more in let zone = on.zone in omega arith
