-- What is asked of the tables is answered as of the state that they stand for: whether a page is held, whether it is
-- free, what stands at an address, and what bars a byte. Where a live place stands, the tables have its page and place.
use Rattle.std.proofs.Common.{◌≡◌, ℕ, zero, suc, ◌+◌, ◌-◌, ◌*◌, ◌/◌, ◌%◌, ◌<◌, ◌≤◌, Bool, true, false, ◌&&◌, ◌==◌, nat_eq, nat_le, nat_lt, if◌then◌else◌, List, [], ◌∷◌, map, Option, Some, None, IsSome, IsTrue, refl, sym, subst, ap, ◌∙◌, arith}
use Rattle.std.specs.List.{find, flat_map, list_any, range_with_len, slice_get, AllByRecursion}
use Rattle.std.specs.Option.{is_some, is_none, option_and_then}
use Rattle.std.proofs.lemmas.Bool.{true≢false, cases_Bool, and_from, and_left, and_right, and_parts, eq-eqb, eqb-true, le-leb, le-ltb, leb-true, lt-ltb, ltb-true}
use Rattle.std.proofs.lemmas.Bool.Decides.{nat_tests}
use Rattle.std.proofs.Math.Nat.{div-add-mod, mul_comm}
use mathlib.Core.Logic.{⊎_elim}
use Rattle.om_chunk.specs.Pages.{page_in, page_with, place_in, offset_of}
use Rattle.om_chunk.specs.Places.{ChunkPage, place_at}
use Rattle.om_chunk.specs.declared.place.Place as chunk
use Rattle.om_chunk.specs.declared.place.Place.TheVariants as has
use Rattle.om_geom.specs.Addresses.{address_of, is_in_arena, page_at}
use Rattle.om_geom.specs.Classes.{is_class, places_of, stride_of}
use Rattle.om_geom.specs.FitLaws.{find-passes}
use Rattle.om_geom.specs.Numbers.{first_address, zone_pages}
use Rattle.om_geom.specs.declared.class.Class.{Class}
use Rattle.om_model.specs.Pool.Access.{barred, bar_of, page_state, state_by_kind}
use Rattle.om_model.specs.Pool.InUse.{Kind, Chunk, Pages, Guard, Use, use_of_place, uses_of_block, uses, touches, page_kind, is_free_page}
use Rattle.om_model.specs.Pool.Picks.{place_address, starts_place}
use Rattle.om_model.specs.Pool.Rules.{Rules}
use Rattle.om_model.specs.Pool.Standing.{NotHeld, PageBlock, LivePlace, DelayedPlace, Unaligned, block_at, delayed_at, in_pages, at_place, on_page, standing}
use Rattle.om_model.specs.Pool.State.{State, delayed, holds, is_held}
use Rattle.om_model.specs.Pool.WellFormed.{AreAlike}
use Rattle.om_model.specs.declared.block.Block.{Block}
use Rattle.om_model.specs.declared.block.Place.{Place}
use Rattle.om_model.specs.declared.reply.Reply.TheVariants.{Miss}
use Rattle.om_model.proofs.Each.{all-weaker, all-both, all-append, all-second, all-find, none-any, none-found}
use Rattle.om_model.proofs.Free.{alike-on_page, has-kind}
use Rattle.om_model.proofs.PageKinds.{standing-first, standing-inside}
use Rattle.om_model.proofs.Sound.{HasWholePages, IsPlaced, IsSound, place-kind, same_class, shape-chunk, touches-first}
use Rattle.om_pages.specs.Kinds as kinds
use Rattle.om_pages.specs.Tables.{kind_of}
use Rattle.om_pages.specs.declared.kind.PageKind.TheVariants as page_is
use Rattle.om_pool.specs.ByTables.{at_block_of, at_place_of, standing_on, standing_by, barred_on, barred_by}
use Rattle.om_pool.specs.Blocks.{block_for, request_at, request_of}
use Rattle.om_pool.specs.Standing.{Means}
use Rattle.om_pool.specs.Tables.{Tables, StandFor, IsEntered, block_on, kind_by, has_by, place_has, chunk_page, chunk_by}
use Rattle.om_pool.specs.declared.standing.Standing.TheVariants as code
use Rattle.om_pool.proofs.WholeBlocks.{IsOfBlock, page-of}

-- ---- lists

flat-all : {X Y : Type 0} (P : Y → Type 0) (f : X → List Y) (xs : List X) → AllByRecursion (λ x. AllByRecursion P (f x)) xs → AllByRecursion P (flat_map f xs)
flat-all P f [] all = tt
flat-all P f (x ∷ xs) all = all-append P (f x) (flat_map f xs) all.0 (flat-all P f xs all.1)

pub map-all : {X Y : Type 0} (P : Y → Type 0) (f : X → Y) (xs : List X) → AllByRecursion P (map f xs) → AllByRecursion (λ x. P (f x)) xs
map-all P f [] all = tt
map-all P f (x ∷ xs) all = (all.0, map-all P f xs all.1)

get-made : {X : Type 0} (f : ℕ → X) (a n i j : ℕ) → a + i ≡ j → slice_get (map f (range_with_len a n)) i ≡ (if nat_lt i n then Some (f j) else None)
get-made f a zero i j is = ap (λ b. if b then Some (f j) else None) (sym (le-ltb i 0 (omega arith)))
get-made f a (suc n) zero j is = let same : a ≡ j = omega arith in ap (λ k. Some (f k)) same ∙ ap (λ b. if b then Some (f j) else None) (sym (lt-ltb 0 (suc n) (omega arith)))
get-made f a (suc n) (suc i) j is =
    let less : nat_lt i n ≡ nat_lt (suc i) (suc n) = grind (arith, nat_tests) in
    get-made f (a + 1) n i j (omega arith) ∙ ap (λ b. if b then Some (f j) else None) less

-- ---- what has a page, by its kind

kind-free : (used : List Use) (page : ℕ) → is_none (page_kind used page) ≡ is_free_page used page
kind-free [] page = refl
kind-free (x ∷ xs) page = ⊎_elim (λ t. rw t refl) (λ f. rw f (kind-free xs page)) (cases_Bool (touches page x))

-- what is on the page is a chunk
abbrev IsSplit : Use → Type 0
IsSplit one = HasWholePages one.kind → ⊥

waiting-split : (places : List Place) → AllByRecursion IsSplit (map use_of_place places)
waiting-split [] = tt
waiting-split (place ∷ places) = ((λ whole. whole), waiting-split places)

split-kind : (used : List Use) (page : ℕ) → AllByRecursion (λ one. touches page one ≡ true → IsSplit one) used → (kind : Kind) → HasWholePages kind → page_kind used page ≡ Some kind → ⊥
split-kind used page all kind whole is =
    let here = has-kind (find (touches page) used) kind is in
    all-find (λ one. touches page one ≡ true → IsSplit one) (touches page) used here.one all here.is
    (find-passes (touches page) used here.one here.is) (subst HasWholePages (sym here.same) whole)

module _ (rules : Rules) (state : State) (page : ℕ) where
  -- a page of whole pages has a live block
  pub block-there : (kind : Kind) → HasWholePages kind → page_kind (uses rules state) page ≡ Some kind → block_on rules state page ≡ None → ⊥
  block-there kind whole is none =
      let P : Use → Type 0 = λ one. touches page one ≡ true → IsSplit one in
      let f = uses_of_block rules in
      let waiting = map use_of_place (delayed state.slots) in
      split-kind (uses rules state) page
      (all-append P (flat_map f state.live) waiting
      (flat-all P f state.live
      (all-weaker (λ block. list_any (touches page) (f block) ≡ false) (λ block. AllByRecursion P (f block)) state.live
      (λ block isnt. all-weaker (λ one. touches page one ≡ false) P (f block) (λ one untouched touched. absurd (true≢false (sym touched ∙ untouched))) (none-any (touches page) (f block) isnt))
      (none-found (λ block. list_any (touches page) (f block)) state.live none)))
      (all-weaker IsSplit P waiting (λ one split touched. split) (waiting-split (delayed state.slots))))
      kind whole is

-- ---- held pages and free ones

never-absent : (block : Option Block) (kind : Option Kind) → kinds.is_held (kind_by block kind) ≡ true
never-absent block None = refl
never-absent block (Some (Chunk class)) = refl
never-absent None (Some Pages) = refl
never-absent (Some other) (Some Pages) = refl
never-absent None (Some Guard) = refl
never-absent (Some other) (Some Guard) = refl

free-kind : (block : Option Block) (kind : Option Kind) → ((k : Kind) → HasWholePages k → kind ≡ Some k → block ≡ None → ⊥) → kinds.is_free (kind_by block kind) ≡ is_none kind
free-kind block None there = refl
free-kind block (Some (Chunk class)) there = refl
free-kind None (Some Pages) there = absurd (there Pages tt refl refl)
free-kind (Some other) (Some Pages) there = refl
free-kind None (Some Guard) there = absurd (there Guard tt refl refl)
free-kind (Some other) (Some Guard) there = refl

module _ (rules : Rules) (tables : Tables) (state : State) (stands : StandFor rules tables state) where
  -- a page is held where its kind isn't absent
  pub held-by : (page : ℕ) → page < zone_pages * rules.zones → kinds.is_held (kind_of tables.pages page) ≡ is_held state.held page
  held-by page there = ap kinds.is_held (stands.pages page there) ∙ by (is_held state.held page)
    where
      by : (held : Bool) → kinds.is_held (if held then kind_by (block_on rules state page) (page_kind (uses rules state) page) else page_is.Absent) ≡ held
      by true = never-absent (block_on rules state page) (page_kind (uses rules state) page)
      by false = refl

  pub free-by : (page : ℕ) → page < zone_pages * rules.zones → kinds.is_free (kind_of tables.pages page) ≡ (is_held state.held page && is_free_page (uses rules state) page)
  free-by page there = ap kinds.is_free (stands.pages page there) ∙ by (is_held state.held page)
    where
      by : (held : Bool) → kinds.is_free (if held then kind_by (block_on rules state page) (page_kind (uses rules state) page) else page_is.Absent) ≡ (held && is_free_page (uses rules state) page)
      by true = free-kind (block_on rules state page) (page_kind (uses rules state) page) (block-there rules state page) ∙ kind-free (uses rules state) page
      by false = refl

  -- ---- what bars a byte

  -- in the arena
  arena-page : (address : ℕ) → is_in_arena address rules.zones ≡ true → (first_address ≤ address) × (page_at address < zone_pages * rules.zones)
  arena-page address inside =
      let parts = and_parts (nat_le first_address address) (nat_lt address (address_of (zone_pages * rules.zones))) inside in
      let low = leb-true first_address address parts.0 in
      let high = ltb-true address (address_of (zone_pages * rules.zones)) parts.1 in
      (low, omega arith)

  bar-kind : (block : Option Block) (kind : Option Kind) → ((k : Kind) → HasWholePages k → kind ≡ Some k → block ≡ None → ⊥) → barred_on rules (kind_by block kind) ≡ bar_of (state_by_kind rules kind)
  bar-kind block None there = refl
  bar-kind block (Some (Chunk class)) there = refl
  bar-kind None (Some Pages) there = absurd (there Pages tt refl refl)
  bar-kind (Some other) (Some Pages) there = refl
  bar-kind None (Some Guard) there = absurd (there Guard tt refl refl)
  bar-kind (Some other) (Some Guard) there = refl

  pub barred-is : (address : ℕ) → barred_by rules tables address ≡ barred rules state address
  barred-is address = by (is_in_arena address rules.zones) refl
    where
      at : ℕ
      at = page_at address

      on : (held : Bool) → barred_on rules (if held then kind_by (block_on rules state at) (page_kind (uses rules state) at) else page_is.Absent) ≡ (if held then bar_of (page_state rules state at) else Some Miss)
      on true = bar-kind (block_on rules state at) (page_kind (uses rules state) at) (block-there rules state at)
      on false = refl

      by : (inside : Bool) → is_in_arena address rules.zones ≡ inside
          → (if inside then barred_on rules (kind_of tables.pages at) else Some Miss) ≡ (if inside && is_held state.held at then bar_of (page_state rules state at) else Some Miss)
      by true inside = ap (barred_on rules) (stands.pages at (arena-page address inside).1) ∙ on (is_held state.held at)
      by false inside = refl

-- ---- what stands at an address

same-place : (place : Place) (address class : ℕ) → address ≡ place.address → class ≡ place.class → record { address = address; class = class } ≡ place
same-place place address class at of = ap (λ c. record { address = address; class = c }) of ∙ ap (λ a. record { address = a; class = place.class }) at

module _ (rules : Rules) (state : State) (is : IsSound rules state) (page class : ℕ) (kind : page_kind (uses rules state) page ≡ Some (Chunk class)) where
  -- a chunk page is one of a class
  pub page-class : IsTrue (is_class class)
  page-class =
      let sound = is.sound in
      let here = has-kind (find (touches page) (uses rules state)) (Chunk class) kind in
      let placed = all-find (IsPlaced rules state.held) (touches page) (uses rules state) here.one sound.placed here.is in
      let on = shape-chunk here.one class here.same placed.shape in
      let Is : ℕ → Type 0 = λ c. IsTrue (is_class c) in
      subst Is (same_class on.class class (sym (place-kind here.one on) ∙ here.same)) on.is

  -- a delayed place there is of the class
  pub delayed-class : (place : Place) (address : ℕ) → page_at address ≡ page → delayed_at state address ≡ Some place → record { address = address; class = class } ≡ place
  delayed-class place address at found =
      let sound = is.sound in
      let P : Use → Type 0 = λ one. IsPlaced rules state.held one × (touches page one ≡ true → AreAlike (Chunk class) one.kind) in
      let live = flat_map (uses_of_block rules) state.live in
      let waiting = map use_of_place (delayed state.slots) in
      let all = all-both (IsPlaced rules state.held) (λ one. touches page one ≡ true → AreAlike (Chunk class) one.kind) P (uses rules state)
      (λ one placed like. (placed, like)) sound.placed (alike-on_page rules state page (Chunk class) is kind) in
      let both = all-find (λ (p : Place). P (use_of_place p)) (λ p. p.address == address) (delayed state.slots) place (map-all P use_of_place (delayed state.slots) (all-second P live waiting all)) found in
      let here : place.address ≡ address = eqb-true place.address address (find-passes (λ (p : Place). p.address == address) (delayed state.slots) place found) in
      let T : ℕ → Type 0 = λ p. touches p (use_of_place place) ≡ true in
      let same : class ≡ place.class = both.1 (subst T (ap page_at here ∙ at) (touches-first (use_of_place place) (both.0).shape)) in
      same-place place address class (sym here) same

if-if : {X : Type 0} (a b : Bool) (x : Option X) → (if a then (if b then x else None) else None) ≡ (if a && b then x else None)
if-if true b x = refl
if-if false b x = refl

-- where a place begins, it is so many strides behind its page's first byte
strides : (class address : ℕ) → first_address ≤ address → starts_place class address ≡ true → place_address (page_at address) class (offset_of address / stride_of class) ≡ address
strides class address low starts =
    let stride = stride_of class in
    let offset = address - address_of (page_at address) in
    let whole = eqb-true (offset % stride) 0 (and_parts (nat_eq (offset % stride) 0) (nat_lt (offset / stride) (places_of class)) starts).0 in
    let times : offset / stride * stride ≡ offset = omega (arith, div-add-mod offset stride, mul_comm stride (offset / stride), whole) in
    omega (arith, times)

-- where a place begins on a page that the tables have, it is one of that
pub place-there : (chunks : List (Option ChunkPage)) (shown : ℕ → chunk.Place) (page class address : ℕ)
    → page_with chunks address ≡ Some (record { class = class; places = map (λ i. shown (place_address page class i)) (range_with_len 0 (places_of class)) })
    → starts_place class address ≡ true → IsSome (place_in chunks address)
place-there chunks shown page class address found starts =
    let i = offset_of address / stride_of class in
    let has =
    ap (option_and_then (λ (p : ChunkPage). place_at p (offset_of address))) found
    ∙ ap (λ o. if offset_of address % stride_of class == 0 then o else None) (get-made (λ j. shown (place_address page class j)) 0 (places_of class) i i (omega arith))
    ∙ if-if (offset_of address % stride_of class == 0) (nat_lt i (places_of class)) (Some (shown (place_address page class i)))
    ∙ ap (λ b. if b then Some (shown (place_address page class i)) else None) starts in
    ap is_some has

module _ (rules : Rules) (tables : Tables) (state : State) (stands : StandFor rules tables state) (address : ℕ) (low : first_address ≤ address) (there : page_at address < zone_pages * rules.zones)
    (class : ℕ) (kind : page_kind (uses rules state) (page_at address) ≡ Some (Chunk class)) where
  place-on : place_in tables.chunks address ≡ (if starts_place class address then Some (place_has state address) else None)
  place-on =
      let at = page_at address in
      let on : ChunkPage = chunk_page state at class in
      let i = offset_of address / stride_of class in
      let found : page_with tables.chunks address ≡ Some on = ap (λ b. if b then page_in tables.chunks at else None) (le-leb first_address address low) ∙ stands.chunks at there ∙ ap (chunk_by state at) kind in
      ap (option_and_then (λ (p : ChunkPage). place_at p (offset_of address))) found
      ∙ ap (λ o. if offset_of address % stride_of class == 0 then o else None) (get-made (λ j. place_has state (place_address at class j)) 0 (places_of class) i i (omega arith))
      ∙ if-if (offset_of address % stride_of class == 0) (nat_lt i (places_of class)) (Some (place_has state (place_address at class i)))
      ∙ by (starts_place class address) refl
    where
      by : (starts : Bool) → starts_place class address ≡ starts
          → (if starts then Some (place_has state (place_address (page_at address) class (offset_of address / stride_of class))) else None) ≡ (if starts then Some (place_has state address) else None)
      by true starts = ap (λ a. Some (place_has state a)) (strides class address low starts)
      by false starts = refl

  -- what begins there
  stand-place : (delayed : Option Place) (block : Option Block)
      → ((place : Place) → delayed ≡ Some place → record { address = address; class = class } ≡ place) → ((b : Block) → block ≡ Some b → b.address ≡ address)
      → Means (at_place_of class address (Some (has_by delayed block))) (at_place class address block delayed)
  stand-place (Some place) block waits lives = ap DelayedPlace (sym (waits place refl))
  stand-place None (Some block) waits lives = ap (λ a. LivePlace (record { address = address; class = class }) (record { address = a; size = block.size; site = block.site })) (lives block refl)
  stand-place None None waits lives = refl

  block-begins : (block : Block) → block_at state address ≡ Some block → block.address ≡ address
  block-begins block found = eqb-true block.address address (find-passes (λ (b : Block). b.address == address) state.live block found)

  stands-chunk : IsSound rules state → Means (at_place_of class address (place_in tables.chunks address)) (on_page state address (Some (Chunk class)))
  stands-chunk is = subst (λ o. Means (at_place_of class address o) (on_page state address (Some (Chunk class)))) (sym place-on) (by (starts_place class address))
    where
      by : (starts : Bool) → Means (at_place_of class address (if starts then Some (place_has state address) else None)) (if starts then at_place class address (block_at state address) (delayed_at state address) else Unaligned)
      by true = stand-place (delayed_at state address) (block_at state address) (λ place. delayed-class rules state is (page_at address) class kind place address refl) block-begins
      by false = refl

module _ (rules : Rules) (tables : Tables) (state : State) (is : IsSound rules state) (stands : StandFor rules tables state) (address : ℕ) where
  abbrev here : ℕ
  here = page_at address

  -- on a data page of a block: its first byte, or another
  on-data : (block : Block) → IsOfBlock rules state here block → first_address ≤ address → Means (at_block_of tables.blocks address (record { 0 = page_at block.address })) (standing rules state address)
  on-data block of low = by ((here == page_at block.address) && (address_of here == address)) refl
    where
      by : (at : Bool) → ((here == page_at block.address) && (address_of here == address)) ≡ at
          → Means (if at then code.PageBlock (block_for address (request_at tables.blocks (page_at block.address))) else code.InPageBlock) (standing rules state address)
      by true is_at =
          let parts = and_parts (here == page_at block.address) (address_of here == address) is_at in
          let at : block.address ≡ address = of.begins ∙ ap address_of (sym (eqb-true here (page_at block.address) parts.0)) ∙ eqb-true (address_of here) address parts.1 in
          let begins_here : Block → Bool = λ (other : Block). other.address == block.address in
          let asked = all-find (IsEntered rules tables.blocks) begins_here state.live block stands.blocks of.live of.none in
          let same : block ≡ block_for address (request_at tables.blocks (page_at block.address)) = ap (λ a. block_for a (request_of block)) at ∙ ap (block_for address) (sym asked) in
          ap (standing rules state) (sym at) ∙ standing-first rules state is block of.live of.none ∙ ap PageBlock same
      by false isnt =
          let begins = of.begins in
          let from = of.low in
          let to = of.high in
          standing-inside rules state is block of.live of.none address (omega arith, omega arith)
          (λ at. true≢false (sym (and_from _ _ (eq-eqb here (page_at block.address) (ap page_at (sym at))) (eq-eqb (address_of here) address (ap (λ a. address_of (page_at a)) (sym at) ∙ sym begins ∙ at))) ∙ isnt))

  -- the tables say what stands there
  pub means-by : Means (standing_by rules.zones tables address) (standing rules state address)
  means-by = by (is_in_arena address rules.zones) refl
    where
      kind-by : first_address ≤ address → here < zone_pages * rules.zones → (kind : Option Kind) → page_kind (uses rules state) here ≡ kind → standing rules state address ≡ on_page state address kind
          → (found : Option Block) → block_on rules state here ≡ found → Means (standing_on tables address (kind_by found kind)) (standing rules state address)
      kind-by low there None kind_is at found found_is = at
      kind-by low there (Some (Chunk class)) kind_is at found found_is =
          subst (λ o. Means (at_place_of class address (place_in tables.chunks address)) o) (sym at) (stands-chunk rules tables state stands address low there class kind_is is)
      kind-by low there (Some Pages) kind_is at None found_is = absurd (block-there rules state here Pages tt kind_is found_is)
      kind-by low there (Some Pages) kind_is at (Some block) found_is = on-data block (page-of rules state is here kind_is block found_is) low
      kind-by low there (Some Guard) kind_is at None found_is = absurd (block-there rules state here Guard tt kind_is found_is)
      kind-by low there (Some Guard) kind_is at (Some block) found_is = at

      at-holds : (held : Bool) → holds rules state address ≡ held → standing rules state address ≡ (if held then on_page state address (page_kind (uses rules state) here) else NotHeld)
      at-holds held is_held = ap (λ b. if b then on_page state address (page_kind (uses rules state) here) else NotHeld) is_held

      on : first_address ≤ address → here < zone_pages * rules.zones → is_in_arena address rules.zones ≡ true → (held : Bool) → is_held state.held here ≡ held
          → Means (standing_on tables address (if held then kind_by (block_on rules state here) (page_kind (uses rules state) here) else page_is.Absent)) (standing rules state address)
      on low there inside true held = kind-by low there (page_kind (uses rules state) here) refl (at-holds true (and_from _ _ inside held)) (block_on rules state here) refl
      on low there inside false held = at-holds false (and_right _ _ held)

      by : (inside : Bool) → is_in_arena address rules.zones ≡ inside → Means (if inside then standing_on tables address (kind_of tables.pages here) else code.NotHeld) (standing rules state address)
      by true inside =
          let at = arena-page rules tables state stands address inside in
          subst (λ k. Means (standing_on tables address k) (standing rules state address)) (sym (stands.pages here at.1)) (on at.0 at.1 inside (is_held state.held here) refl)
      by false outside = at-holds false (and_left _ _ outside)

-- ---- where a live place stands

-- the state has its block, and the tables have its page and place
pub record HasPlace (rules : Rules) (tables : Tables) (state : State) (address : ℕ) (place : Place) (block : Block) : Type 0 where
  pub found_is : block_at state address ≡ Some block
  pub waiting : delayed_at state address ≡ None
  pub on_page : page_kind (uses rules state) (page_at address) ≡ Some (Chunk place.class)
  pub place_is : place.address ≡ address
  pub block_is : block.address ≡ address
  pub class_is : IsTrue (is_class place.class)
  pub kind_is : kind_of tables.pages (page_at address) ≡ page_is.Chunk (record { 0 = place.class })
  pub has_is : place_in tables.chunks address ≡ Some (has.Live block.size block.site)

record Lives (place : Place) (block : Block) (address class : ℕ) (found : Option Block) (delayed : Option Place) : Type 0 where
  place_is : record { address = address; class = class } ≡ place
  block_is : found ≡ Some block
  none : delayed ≡ None

lives : (place : Place) (block : Block) (address class : ℕ) (found : Option Block) (delayed : Option Place) → at_place class address found delayed ≡ LivePlace place block → Lives place block address class found delayed
lives place block address class found (Some other) e = cc
lives place block address class None None e = cc
lives place block address class (Some other) None e = record { place_is = cc; block_is = cc; none = refl }

not-live : (place : Place) (block : Block) (found : Option Block) → in_pages found ≡ LivePlace place block → ⊥
not-live place block None e = cc
not-live place block (Some other) e = cc

module _ (rules : Rules) (tables : Tables) (state : State) (is : IsSound rules state) (stands : StandFor rules tables state) (address : ℕ) (place : Place) (block : Block) where
  live-on : (low : first_address ≤ address) (there : page_at address < zone_pages * rules.zones) → is_held state.held (page_at address) ≡ true → (class : ℕ) (kind : page_kind (uses rules state) (page_at address) ≡ Some (Chunk class))
      → starts_place class address ≡ true → Lives place block address class (block_at state address) (delayed_at state address) → HasPlace rules tables state address place block
  live-on low there held class kind starts both =
      let at = page_at address in
      let same : class ≡ place.class = ap (λ (p : Place). p.class) both.place_is in
      let Is : ℕ → Type 0 = λ c. IsTrue (is_class c) in
      record {
        found_is = both.block_is;
        waiting = both.none;
        on_page = kind ∙ ap (λ c. Some (Chunk c)) same;
        place_is = sym (ap (λ (p : Place). p.address) both.place_is);
        block_is = block-begins rules tables state stands address low there class kind block both.block_is;
        class_is = subst Is same (page-class rules state is at class kind);
        kind_is = stands.pages at there ∙ ap (λ b. if b then kind_by (block_on rules state at) (page_kind (uses rules state) at) else page_is.Absent) held ∙ ap (kind_by (block_on rules state at)) kind
            ∙ ap (λ c. page_is.Chunk (record { 0 = c })) same;
        has_is = place-on rules tables state stands address low there class kind ∙ ap (λ b. if b then Some (place_has state address) else None) starts
            ∙ ap (λ d. Some (has_by d (block_at state address))) both.none ∙ ap (λ b. Some (has_by None b)) both.block_is;
      }

  pub live-place : standing rules state address ≡ LivePlace place block → HasPlace rules tables state address place block
  live-place = by (is_in_arena address rules.zones) refl (is_held state.held (page_at address)) refl
    where
      at : ℕ
      at = page_at address

      starting : (low : first_address ≤ address) (there : at < zone_pages * rules.zones) → is_held state.held at ≡ true → (class : ℕ) → page_kind (uses rules state) at ≡ Some (Chunk class) → (starts : Bool) → starts_place class address ≡ starts
          → (if starts then at_place class address (block_at state address) (delayed_at state address) else Unaligned) ≡ LivePlace place block → HasPlace rules tables state address place block
      starting low there held class kind true starts e = live-on low there held class kind starts (lives place block address class (block_at state address) (delayed_at state address) e)
      starting low there held class kind false starts e = cc

      by-kind : (low : first_address ≤ address) (there : at < zone_pages * rules.zones) → is_held state.held at ≡ true → (kind : Option Kind) → page_kind (uses rules state) at ≡ kind → on_page state address kind ≡ LivePlace place block → HasPlace rules tables state address place block
      by-kind low there held None kind e = cc
      by-kind low there held (Some (Chunk class)) kind e = starting low there held class kind (starts_place class address) refl e
      by-kind low there held (Some Pages) kind e = absurd (not-live place block (block_at state address) e)
      by-kind low there held (Some Guard) kind e = cc

      by : (inside : Bool) → is_in_arena address rules.zones ≡ inside → (held : Bool) → is_held state.held at ≡ held
          → (if inside && held then on_page state address (page_kind (uses rules state) at) else NotHeld) ≡ LivePlace place block → HasPlace rules tables state address place block
      by true inside true held e = let in_arena = arena-page rules tables state stands address inside in by-kind in_arena.0 in_arena.1 held (page_kind (uses rules state) at) refl e
      by true inside false held e = cc
      by false inside held there e = cc

-- ---- chunk pages

chunk-kind : (block : Option Block) (kind : Option Kind) (class : Class) → kind_by block kind ≡ page_is.Chunk class → kind ≡ Some (Chunk class.0)
chunk-kind block None class e = cc
chunk-kind block (Some (Chunk other)) class e = let same : record { 0 = other } ≡ class = cc in ap (λ (c : Class). Some (Chunk c.0)) same
chunk-kind None (Some Pages) class e = cc
chunk-kind (Some other) (Some Pages) class e = cc
chunk-kind None (Some Guard) class e = cc
chunk-kind (Some other) (Some Guard) class e = cc

-- a page of the kind of a class is a chunk page of it
pub class-by : (rules : Rules) (tables : Tables) (state : State) → StandFor rules tables state → (page : ℕ) (class : Class) → page < zone_pages * rules.zones → kind_of tables.pages page ≡ page_is.Chunk class → page_in tables.chunks page ≡ Some (chunk_page state page class.0)
class-by rules tables state stands page class there is =
    stands.chunks page there ∙ ap (chunk_by state page) (by (is_held state.held page) (sym (stands.pages page there) ∙ is))
  where
    by : (held : Bool) → (if held then kind_by (block_on rules state page) (page_kind (uses rules state) page) else page_is.Absent) ≡ page_is.Chunk class → page_kind (uses rules state) page ≡ Some (Chunk class.0)
    by true e = chunk-kind (block_on rules state page) (page_kind (uses rules state) page) class e
    by false e = cc

-- so is that of an address on it
pub class-with : (rules : Rules) (tables : Tables) (state : State) → StandFor rules tables state → (address : ℕ) (class : Class) → first_address ≤ address → page_at address < zone_pages * rules.zones
    → kind_of tables.pages (page_at address) ≡ page_is.Chunk class → page_with tables.chunks address ≡ Some (chunk_page state (page_at address) class.0)
class-with rules tables state stands address class low there is =
    ap (λ b. if b then page_in tables.chunks (page_at address) else None) (le-leb first_address address low) ∙ class-by rules tables state stands (page_at address) class there is
