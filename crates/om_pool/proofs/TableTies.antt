-- Tables that stand for a state agree with each other.
use Rattle.std.proofs.Common.{◌≡◌, ℕ, ◌*◌, ◌<◌, ◌≤◌, true, false, not, nat_lt, if◌then◌else◌, List, [], ◌∷◌, length, Option, Some, None, refl, sym, ap, ◌∙◌, subst, arith}
use Rattle.std.specs.List.{AllByRecursion}
use Rattle.std.proofs.lemmas.Bool.{cases_Bool, cases_lt, true≢false}
use Rattle.std.proofs.lemmas.List.{get_or_past}
use mathlib.Core.Logic.{⊎_elim}
use Rattle.om_chunk.specs.Pages.{page_in}
use Rattle.om_chunk.specs.Places.{ChunkPage}
use Rattle.om_frame.specs.Memory as frames
use Rattle.om_geom.specs.Numbers.{most_zones, zone_pages}
use Rattle.om_model.specs.Pool.InUse.{Kind, Chunk, Pages, Guard, Use, is_free_page, touches, page_kind, uses}
use Rattle.om_model.specs.Pool.Rules.{Rules}
use Rattle.om_model.specs.Pool.State.{State, is_held}
use Rattle.om_model.specs.Pool.WellFormed.{HasBytes}
use Rattle.om_model.specs.declared.block.Block.{Block}
use Rattle.om_model.proofs.Each.{all-weaker, any-none}
use Rattle.om_model.proofs.Sound.{IsPlaced, IsSound}
use Rattle.om_pages.specs.Kinds as kinds
use Rattle.om_pages.specs.Tables.{kind_of}
use Rattle.om_pages.specs.declared.kind.PageKind.{PageKind}
use Rattle.om_pages.specs.declared.kind.PageKind.TheVariants as page_is
use Rattle.om_pool.specs.TableSteps.{ChunkTie, IsTied}
use Rattle.om_pool.specs.Tables.{Tables, StandFor, block_on, chunk_by, data_kind, guard_kind, kind_by}
use Rattle.om_pool.proofs.TableAnswers.{held-by}

-- the shelf has the bytes of the pages that are held
pub shelf-holds : (state : State) (page : ℕ) → HasBytes state page → frames.is_held state.memory page ≡ is_held state.held page
shelf-holds state page bytes = ⊎_elim
    (λ (t : is_held state.held page ≡ true). let long = rw t at bytes in rw (t, long) refl)
    (λ (f : is_held state.held page ≡ false). let none = rw f at bytes in rw (f, none) refl)
    (cases_Bool (is_held state.held page))

-- nothing touches a page that isn't held
untouched-unheld : (rules : Rules) (state : State) → IsSound rules state → (page : ℕ) → is_held state.held page ≡ false → AllByRecursion (λ one. touches page one ≡ false) (uses rules state)
untouched-unheld rules state is page unheld =
    let sound = is.sound in
    all-weaker (IsPlaced rules state.held) (λ one. touches page one ≡ false) (uses rules state)
    (λ one placed. ⊎_elim (λ t. absurd (true≢false (sym (placed.held_is page t) ∙ unheld))) (λ f. f) (cases_Bool (touches page one)))
    sound.placed

kind-untouched : (used : List Use) (page : ℕ) → AllByRecursion (λ one. touches page one ≡ false) used → page_kind used page ≡ None
kind-untouched [] page all = refl
kind-untouched (x ∷ xs) page all = rw all.0 (kind-untouched xs page all.1)

kind-unheld : (rules : Rules) (state : State) → IsSound rules state → (page : ℕ) → is_held state.held page ≡ false → page_kind (uses rules state) page ≡ None
kind-unheld rules state is page unheld = kind-untouched (uses rules state) page (untouched-unheld rules state is page unheld)

-- so it counts as free, were it held
pub free-unheld : (rules : Rules) (state : State) → IsSound rules state → (page : ℕ) → is_held state.held page ≡ false → is_free_page (uses rules state) page ≡ true
free-unheld rules state is page unheld = ap not (any-none (touches page) (uses rules state) (untouched-unheld rules state is page unheld))

tie-data : (block : Option Block) (there : Option ChunkPage) → there ≡ None → ChunkTie (data_kind block) there
tie-data None there none = none
tie-data (Some block) there none = none

tie-guard : (block : Option Block) (there : Option ChunkPage) → there ≡ None → ChunkTie (guard_kind block) there
tie-guard None there none = none
tie-guard (Some block) there none = none

tie-by : (state : State) (page : ℕ) (block : Option Block) (kind : Option Kind) → ChunkTie (kind_by block kind) (chunk_by state page kind)
tie-by state page block None = refl
tie-by state page block (Some (Chunk class)) = refl
tie-by state page block (Some Pages) = tie-data block None refl
tie-by state page block (Some Guard) = tie-guard block None refl

module _ (rules : Rules) (tables : Tables) (state : State) (is : IsSound rules state) (stands : StandFor rules tables state) where
  tie-in : (page : ℕ) → page < zone_pages * rules.zones → ChunkTie (kind_of tables.pages page) (page_in tables.chunks page)
  tie-in page there =
      let block = block_on rules state page in
      let kind = page_kind (uses rules state) page in
      let Tie : PageKind → Option ChunkPage → Type 0 = λ k o. ChunkTie k o in
      subst (λ k. Tie k (page_in tables.chunks page)) (sym (stands.pages page there))
      (subst (Tie (if is_held state.held page then kind_by block kind else page_is.Absent)) (sym (stands.chunks page there))
      (⊎_elim
      (λ (t : is_held state.held page ≡ true). subst (λ b. Tie (if b then kind_by block kind else page_is.Absent) (chunk_by state page kind)) (sym t) (tie-by state page block kind))
      (λ (f : is_held state.held page ≡ false).
      subst (λ b. Tie (if b then kind_by block kind else page_is.Absent) (chunk_by state page kind)) (sym f)
      (ap (chunk_by state page) (kind-unheld rules state is page f)))
      (cases_Bool (is_held state.held page))))

  tie-past : (page : ℕ) → zone_pages * rules.zones ≤ page → ChunkTie (kind_of tables.pages page) (page_in tables.chunks page)
  tie-past page past =
      let absent : kind_of tables.pages page ≡ page_is.Absent = get_or_past tables.pages page page_is.Absent (omega (arith, stands.pages_all)) in
      let none : page_in tables.chunks page ≡ None = get_or_past tables.chunks page None (omega (arith, stands.chunks_all)) in
      let Tie : PageKind → Type 0 = λ k. ChunkTie k (page_in tables.chunks page) in
      subst Tie (sym absent) none

  memory-in : (page : ℕ) → page < zone_pages * rules.zones → frames.is_held tables.memory page ≡ kinds.is_held (kind_of tables.pages page)
  memory-in page there =
      ap (λ m. frames.is_held m page) stands.memory ∙ shelf-holds state page (is.bytes page) ∙ sym (held-by rules tables state stands page there)

  memory-past : (page : ℕ) → zone_pages * rules.zones ≤ page → frames.is_held tables.memory page ≡ kinds.is_held (kind_of tables.pages page)
  memory-past page past =
      let long : length tables.memory ≡ zone_pages * rules.zones = ap length stands.memory ∙ is.pages in
      let none = get_or_past tables.memory page [] (omega (arith, long)) in
      let absent : kind_of tables.pages page ≡ page_is.Absent = get_or_past tables.pages page page_is.Absent (omega (arith, stands.pages_all)) in
      ap (λ (bytes : List ℕ). nat_lt 0 (length bytes)) none ∙ sym (ap kinds.is_held absent)

  pub tied : 1 ≤ rules.zones → rules.zones ≤ most_zones → IsTied rules.zones tables
  tied some few = record {
    pages_all = stands.pages_all;
    chunks_all = stands.chunks_all;
    blocks_all = stands.blocks_all;
    memory_all = ap length stands.memory ∙ is.pages;
    chunks = λ page. ⊎_elim (tie-in page) (tie-past page) (cases_lt page (zone_pages * rules.zones));
    memory = λ page. ⊎_elim (memory-in page) (memory-past page) (cases_lt page (zone_pages * rules.zones));
    some_zone = some;
    few_zones = few;
  }
