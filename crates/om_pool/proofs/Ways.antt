-- How a block comes to a new size is the same by the tables as in the state that they stand for.
use Rattle.std.proofs.Common.{◌≡◌, ℕ, ◌+◌, ◌*◌, ◌≤◌, Bool, true, false, ◌&&◌, ◌||◌, nat_eq, nat_lt, if◌then◌else◌, List, [], ◌∷◌, Option, Some, None, refl, sym, ap, ◌∙◌, subst, arith}
use Rattle.std.specs.List.{list_all, list_any, range_with_len}
use Rattle.std.proofs.lemmas.Bool.{cases_lt, le-leb, leb-true}
use Rattle.std.proofs.lemmas.Bool.Decides.{nat_tests}
use Rattle.std.proofs.lemmas.List.{get_or_past}
use mathlib.Core.Logic.{⊎_elim}
use Rattle.om_geom.specs.Addresses.{bit_of, page_at}
use Rattle.om_geom.specs.Classes.{data_pages}
use Rattle.om_geom.specs.Numbers.{zone_pages}
use Rattle.om_model.specs.Pool.InUse.{uses, is_free_page}
use Rattle.om_model.specs.Pool.Picks.{is_free_run}
use Rattle.om_model.specs.Pool.Resizing.{Way, Stays, Shrinks, Grows, Claims, Moves, pages_after, fits_in_zone, holds_some, way_over, way_by_pages, way_by_class, way}
use Rattle.om_model.specs.Pool.Rules.{Rules, size_class, block_pages}
use Rattle.om_model.specs.Pool.Runs.{Run}
use Rattle.om_model.specs.Pool.State.{State, is_held}
use Rattle.om_model.specs.declared.block.Block.{Block}
use Rattle.om_model.proofs.Held.{held-below}
use Rattle.om_model.proofs.Sound.{IsSound}
use Rattle.om_model.proofs.Ways.{AreWhole, GoesOn, IsBy, after-zone, way-by}
use Rattle.om_pages.specs.Kinds as kinds
use Rattle.om_pages.specs.Tables as table
use Rattle.om_pages.specs.declared.kind.PageKind.TheVariants as page_is
use Rattle.om_pool.specs.Tables.{Tables, StandFor}
use Rattle.om_pool.specs.Ways as by_table
use Rattle.om_pool.specs.Ways.{way_by, way_in}
use Rattle.om_pool.specs.declared.resizing.Way as code
use Rattle.om_pool.proofs.TableAnswers.{held-by}
use Rattle.om_pool.proofs.TablePages.{all-agree, free-there}

any-agree : (p q : ℕ → Bool) (xs : List ℕ) → ((x : ℕ) → p x ≡ q x) → list_any p xs ≡ list_any q xs
any-agree p q [] same = refl
any-agree p q (x ∷ xs) same = ap (λ b. b || list_any p xs) (same x) ∙ ap (λ b. q x || b) (any-agree p q xs same)

module _ (rules : Rules) (tables : Tables) (state : State) (is : IsSound rules state) (stands : StandFor rules tables state) where
  -- a page is held by the table where it is held
  held-there : (page : ℕ) → kinds.is_held (table.kind_of tables.pages page) ≡ is_held state.held page
  held-there page = ⊎_elim
      (λ there. held-by rules tables state stands page there)
      (λ past.
      ap kinds.is_held (get_or_past tables.pages page page_is.Absent (omega (arith, stands.pages_all)))
      ∙ sym (held-below state.held (zone_pages * rules.zones) page is.arena past))
      (cases_lt page (zone_pages * rules.zones))

  pub holds-some : (run : Run) → by_table.holds_some tables run ≡ holds_some state run
  holds-some run = any-agree (λ page. kinds.is_held (table.kind_of tables.pages page)) (is_held state.held) (range_with_len run.first run.count) held-there

  are-free : (run : Run) → bit_of run.first + run.count ≤ zone_pages → by_table.are_free tables run ≡ is_free_run (uses rules state) state.held run.count run.first
  are-free run within =
      let test : ℕ → Bool = λ page. is_held state.held page && is_free_page (uses rules state) page in
      all-agree (λ page. kinds.is_free (table.kind_of tables.pages page)) test (range_with_len run.first run.count) (free-there rules tables state is stands)
      ∙ ap (λ b. b && list_all test (range_with_len run.first run.count)) (sym (le-leb (bit_of run.first + run.count) zone_pages within))

  module _ (block : Block) (size : ℕ) where
    over-is : GoesOn rules block size → by_table.way_over tables (pages_after rules block size) ≡ way_over rules state (pages_after rules block size)
    over-is on =
        let run = pages_after rules block size in
        let Over : Bool → Bool → Way = λ free held. if free then Grows else if held then Moves else Claims in
        ap (λ b. Over b (by_table.holds_some tables run)) (are-free run (after-zone rules block size on))
        ∙ ap (Over (is_free_run (uses rules state) state.held run.count run.first)) (holds-some run)

    pages-is : AreWhole rules block size → by_table.way_by_pages rules tables block size ≡ way_by_pages rules state block size
    pages-is both = by (nat_eq (data_pages size) (data_pages block.size)) (nat_lt (data_pages size) (data_pages block.size)) (fits_in_zone rules block size) refl refl refl
      where
        by : (same less zone : Bool) → nat_eq (data_pages size) (data_pages block.size) ≡ same → nat_lt (data_pages size) (data_pages block.size) ≡ less → fits_in_zone rules block size ≡ zone
            → (if same then Stays else if less then Shrinks else if zone then by_table.way_over tables (pages_after rules block size) else Moves)
            ≡ (if same then Stays else if less then Shrinks else if zone then way_over rules state (pages_after rules block size) else Moves)
        by true less zone same_is less_is zone_is = refl
        by false true zone same_is less_is zone_is = refl
        by false false true same_is less_is zone_is =
            over-is (record { whole = both; more = grind (arith, nat_tests); zone = leb-true (bit_of (page_at block.address) + block_pages rules size) zone_pages zone_is })
        by false false false same_is less_is zone_is = refl

    class-is : (old new : Option ℕ) → size_class rules block.size ≡ old → size_class rules size ≡ new → by_table.way_by_class rules tables block size old new ≡ way_by_class rules state block size old new
    class-is (Some old) (Some new) old_is new_is = refl
    class-is (Some old) None old_is new_is = refl
    class-is None (Some new) old_is new_is = refl
    class-is None None old_is new_is = pages-is (record { old = old_is; new = new_is })

    pub way-is : way_by rules tables block size ≡ way rules state block size
    way-is = ap (λ found. if rules.options.always_move then Moves else found) (class-is (size_class rules block.size) (size_class rules size) refl refl)

    -- what is so of the way that the code finds
    pub found-way : (found : code.Way) → way_in found ≡ way_by rules tables block size → (way rules state block size ≡ way_in found) × IsBy rules state block size (way_in found)
    found-way found found_is =
        let same = sym (found_is ∙ way-is) in
        let By : Way → Type 0 = IsBy rules state block size in
        (same, subst By same (way-by rules state block size))
