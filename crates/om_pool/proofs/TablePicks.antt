-- Picks from the tables are those from the state that they stand for.
use Rattle.std.proofs.Common.{◌≡◌, ℕ, zero, suc, ◌+◌, ◌-◌, ◌*◌, ◌%◌, ◌<◌, ◌≤◌, Bool, true, false, not, ◌&&◌, ◌||◌, ◌==◌, nat_eq, if◌then◌else◌, List, [], ◌∷◌, length, map, cond, Option, Some, None, IsTrue, refl, sym, ap, ◌∙◌, subst, arith}
use Rattle.std.specs.List.{filter, find, flat_map, list_any, range_with_len, slice_get, AllByRecursion}
use Rattle.std.specs.Option.{is_some, option_map, option_and_then}
use Rattle.std.proofs.Math.Bool.{or-false}
use Rattle.std.proofs.lemmas.Bool.{and_parts, cases_Bool, cases_eq, eqb-true, ne_eqb, not_from_false, true≢false}
use Rattle.std.proofs.lemmas.List.{get_or-set_same, get_or-replicate, length-map, length-replicate}
use Rattle.std.proofs.lemmas.List.Folds.{list_any-append}
use Rattle.std.proofs.lemmas.List.FromFn.{get_or-map-range_with_len, length-range_with_len}
use Rattle.std.proofs.lemmas.Nat.{mod_below}
use Rattle.std.proofs.lemmas.Option.{slice_get-get_or}
use mathlib.Core.Logic.{⊎_elim}
use Rattle.om_chunk.specs.Pages.{page_in, with_page}
use Rattle.om_chunk.specs.Picks as picks
use Rattle.om_chunk.specs.Places as table
use Rattle.om_chunk.specs.Places.{ChunkPage, is_free, is_there_and_free, has_free, fresh_page}
use Rattle.om_chunk.specs.declared.pages.Picked.{Picked}
use Rattle.om_chunk.specs.declared.place.Place.TheVariants.{Free}
use Rattle.om_geom.specs.Addresses.{page_at}
use Rattle.om_geom.specs.Classes.{is_class, places_of}
use Rattle.om_geom.specs.ClassLaws.{places-at_least_2}
use Rattle.om_geom.specs.Fit.{cyclic}
use Rattle.om_geom.specs.FitLaws.{find-cyclic_none}
use Rattle.om_geom.specs.Numbers.{zone_pages}
use Rattle.om_model.specs.Pool.InUse.{Kind, Chunk, Pages, Guard, Use, use_of_place, uses_by_class, uses_of_block, uses, touches, page_kind, begins_at, guard_of, is_free_page}
use Rattle.om_model.specs.Pool.Picks.{place_address, is_chunk_of, is_chunk_page, is_free_place, is_open_page, open_pages, own_page, picked_place}
use Rattle.om_model.specs.Pool.Rules.{Rules, size_class}
use Rattle.om_model.specs.Pool.State.{State, delayed, is_held}
use Rattle.om_model.specs.Pool.Standing.{block_at, delayed_at}
use Rattle.om_model.specs.Pool.WellFormed.{EachPair, AgreeOnPages, AreAlike}
use Rattle.om_model.specs.declared.block.Block.{Block}
use Rattle.om_model.specs.declared.block.Place.{Place}
use Rattle.om_model.proofs.Each.{all-weaker, all-both, all-append, all-filter, all-first, all-second, all-get, all-range, any-none, any-passing, or_some, pairs-weaker, passes-filter}
use Rattle.om_model.proofs.Held.{Ascends}
use Rattle.om_model.proofs.Places.{IsAllOf, IsUntouched, not-touched}
use Rattle.om_model.proofs.Sound.{IsPlaced, IsSound, GoTogether, first_of, place-page, touches-first, alike-chunk}
use Rattle.om_pool.specs.Tables.{Tables, StandFor, has_by, place_has, chunk_page, chunk_by}

-- ---- tests that agree on each element of a list

module _ {X : Type 0} (p q : X → Bool) where
  pub any-agree : (xs : List X) → AllByRecursion (λ x. p x ≡ q x) xs → list_any p xs ≡ list_any q xs
  any-agree [] same = refl
  any-agree (x ∷ xs) same = ap (λ b. b || list_any p xs) same.0 ∙ ap (λ b. q x || b) (any-agree xs same.1)

  pub find-agree : (xs : List X) → AllByRecursion (λ x. p x ≡ q x) xs → find p xs ≡ find q xs
  find-agree [] same = refl
  find-agree (x ∷ xs) same = ap (λ b. cond b (Some x) (find p xs)) same.0 ∙ ap (λ o. cond (q x) (Some x) o) (find-agree xs same.1)

  pub filter-agree : (xs : List X) → AllByRecursion (λ x. p x ≡ q x) xs → filter p xs ≡ filter q xs
  filter-agree [] same = refl
  filter-agree (x ∷ xs) same = ap (λ b. cond b (x ∷ filter p xs) (filter p xs)) same.0 ∙ ap (λ ys. cond (q x) (x ∷ ys) ys) (filter-agree xs same.1)

any-map : {X Y : Type 0} (p : Y → Bool) (f : X → Y) (xs : List X) → list_any p (map f xs) ≡ list_any (λ x. p (f x)) xs
any-map p f [] = refl
any-map p f (x ∷ xs) = ap (λ b. p (f x) || b) (any-map p f xs)

pub all-below : (n : ℕ) → AllByRecursion (λ i. i < n) (range_with_len 0 n)
all-below n = all-weaker (λ i. i < 0 + n) (λ i. i < n) (range_with_len 0 n) (λ i lt. omega arith) (all-range 0 n)

pub all-cyclic : (n start : ℕ) → start ≤ n → AllByRecursion (λ i. i < n) (cyclic n start)
all-cyclic n start le =
    all-append (λ i. i < n) (range_with_len start (n - start)) (range_with_len 0 start)
    (all-weaker (λ i. i < start + (n - start)) (λ i. i < n) (range_with_len start (n - start)) (λ i lt. omega arith) (all-range start (n - start)))
    (all-weaker (λ i. i < 0 + start) (λ i. i < n) (range_with_len 0 start) (λ i lt. omega arith) (all-range 0 start))

some-cond : {X : Type 0} (b : Bool) (x : X) (rest : Option X) → (b || is_some rest) ≡ is_some (cond b (Some x) rest)
some-cond true x rest = refl
some-cond false x rest = refl

-- ---- the kind of a page, and whether it is a chunk page of a class

abbrev pub is_kind_of : ℕ → Option Kind → Bool
is_kind_of class None = false
is_kind_of class (Some kind) = is_chunk_of class kind

alike-class : (class : ℕ) (a b : Kind) → AreAlike a b → is_chunk_of class b ≡ is_chunk_of class a
alike-class class (Chunk a) (Chunk b) same = ap (λ c. c == class) (sym same)
alike-class class (Chunk a) Pages isnt = absurd isnt
alike-class class (Chunk a) Guard isnt = absurd isnt
alike-class class Pages (Chunk b) isnt = absurd isnt
alike-class class Guard (Chunk b) isnt = absurd isnt
alike-class class Pages Pages both = refl
alike-class class Pages Guard both = refl
alike-class class Guard Pages both = refl
alike-class class Guard Guard both = refl

kind_or_rest : (here rest : Bool) → (here ≡ false → rest ≡ false) → (here || rest) ≡ here
kind_or_rest true rest none = refl
kind_or_rest false rest none = none refl

module _ (class page : ℕ) where
  abbrev of_class : Use → Bool
  of_class one = touches page one && is_chunk_of class one.kind

  fails : (touched : Bool) (kind : Bool) → (touched ≡ true → kind ≡ false) → (touched && kind) ≡ false
  fails true kind none = none refl
  fails false kind none = refl

  -- nothing else that touches the page is of a class either
  none-behind : (one : Use) (used : List Use) → touches page one ≡ true → AllByRecursion (AgreeOnPages one) used → is_chunk_of class one.kind ≡ false → is_chunk_page used class page ≡ false
  none-behind one used here alike isnt =
      any-none of_class used
      (all-weaker (AgreeOnPages one) (λ other. of_class other ≡ false) used
      (λ other both. fails (touches page other) (is_chunk_of class other.kind) (λ touched. alike-class class one.kind other.kind (both page here touched) ∙ isnt)) alike)

  pub chunk_page-kind : (used : List Use) → EachPair AgreeOnPages used → is_chunk_page used class page ≡ is_kind_of class (page_kind used page)
  chunk_page-kind [] alike = refl
  chunk_page-kind (one ∷ used) alike =
      let kind : Bool → Option Kind = λ b. option_map (λ (u : Use). u.kind) (cond b (Some one) (find (touches page) used)) in
      let first : Bool → Bool = λ b. (b && is_chunk_of class one.kind) || is_chunk_page used class page in
      ⊎_elim
      (λ here. ap first here ∙ kind_or_rest (is_chunk_of class one.kind) (is_chunk_page used class page) (none-behind one used here alike.0) ∙ sym (ap (λ b. is_kind_of class (kind b)) here))
      (λ isnt. ap first isnt ∙ chunk_page-kind used alike.1 ∙ sym (ap (λ b. is_kind_of class (kind b)) isnt))
      (cases_Bool (touches page one))

  -- all that touches a chunk page is of its class
  pub kind-all_of : (used : List Use) → EachPair AgreeOnPages used → page_kind used page ≡ Some (Chunk class) → IsAllOf used page class
  kind-all_of [] alike is = tt
  kind-all_of (one ∷ used) alike is =
      let kind : Bool → Option Kind = λ b. option_map (λ (u : Use). u.kind) (cond b (Some one) (find (touches page) used)) in
      ⊎_elim
      (λ here.
      let same : Some one.kind ≡ Some (Chunk class) = sym (ap kind here) ∙ is in
      let of : one.kind ≡ Chunk class = cc in (
        (λ touched. of),
        all-weaker (AgreeOnPages one) (λ other. touches page other ≡ true → other.kind ≡ Chunk class) used
            (λ other both touched. alike-chunk class other.kind (subst (λ k. AreAlike k other.kind) of (both page here touched))) alike.0,
      ))
      (λ isnt. ((λ touched. absurd (true≢false (sym touched ∙ isnt))), kind-all_of used alike.1 (sym (ap kind isnt) ∙ is)))
      (cases_Bool (touches page one))

-- ---- what begins at a place of a chunk page

module _ (rules : Rules) (address class : ℕ) where
  abbrev IsChunkThere : Use → Type 0
  IsChunkThere one = begins_at address one ≡ true → one.kind ≡ Chunk class

  isnt-guard : (begins : Bool) → (begins ≡ true → Guard ≡ Chunk class) → begins ≡ false
  isnt-guard true is = let same : Guard ≡ Chunk class = is refl in cc
  isnt-guard false is = refl

  guarded : (guard : Bool) (block : Block) → let behind : List Use = if guard then record { extent = guard_of block; kind = Guard } ∷ [] else [] in AllByRecursion IsChunkThere behind → list_any (begins_at address) behind ≡ false
  guarded true block chunks = or-false _ ∙ isnt-guard _ chunks.0
  guarded false block chunks = refl

  begins-class : (block : Block) (found : Option ℕ) → AllByRecursion IsChunkThere (uses_by_class rules block found) → list_any (begins_at address) (uses_by_class rules block found) ≡ (block.address == address)
  begins-class block (Some other) chunks = or-false _
  begins-class block None chunks = ap (λ b. (block.address == address) || b) (guarded rules.options.guard block chunks.1) ∙ or-false _

  begins-live : (live : List Block) → AllByRecursion IsChunkThere (flat_map (uses_of_block rules) live) → list_any (begins_at address) (flat_map (uses_of_block rules) live) ≡ is_some (find (λ block. block.address == address) live)
  begins-live [] chunks = refl
  begins-live (block ∷ live) chunks =
      let one = uses_of_block rules block in
      let rest = flat_map (uses_of_block rules) live in
      list_any-append (begins_at address) one rest
      ∙ ap (λ b. b || list_any (begins_at address) rest) (begins-class block (size_class rules block.size) (all-first IsChunkThere one rest chunks))
      ∙ ap (λ b. (block.address == address) || b) (begins-live live (all-second IsChunkThere one rest chunks))
      ∙ some-cond (block.address == address) block (find (λ (other : Block). other.address == address) live)

  begins-delayed : (places : List Place) → list_any (begins_at address) (map use_of_place places) ≡ is_some (find (λ place. place.address == address) places)
  begins-delayed [] = refl
  begins-delayed (place ∷ places) =
      ap (λ b. (place.address == address) || b) (begins-delayed places)
      ∙ some-cond (place.address == address) place (find (λ (other : Place). other.address == address) places)

  free_by : (waits : Option Place) (block : Option Block) → is_free (has_by waits block) ≡ not (is_some block || is_some waits)
  free_by (Some place) None = refl
  free_by (Some place) (Some block) = refl
  free_by None (Some block) = refl
  free_by None None = refl

  place-begins : (state : State) → AllByRecursion IsChunkThere (uses rules state) → is_free (place_has state address) ≡ not (list_any (begins_at address) (uses rules state))
  place-begins state chunks =
      let live = flat_map (uses_of_block rules) state.live in
      let waiting = map use_of_place (delayed state.slots) in
      free_by (delayed_at state address) (block_at state address)
      ∙ sym (ap not (list_any-append (begins_at address) live waiting
      ∙ ap (λ b. b || list_any (begins_at address) waiting) (begins-live state.live (all-first IsChunkThere live waiting chunks))
      ∙ ap (λ b. is_some (block_at state address) || b) (begins-delayed (delayed state.slots))))

-- a place of a chunk page is free in the table exactly where nothing in use begins at its address
pub place-free : (rules : Rules) (state : State) (page class index : ℕ) → IsSound rules state → IsTrue (is_class class) → IsAllOf (uses rules state) page class → index < places_of class
    → is_free (place_has state (place_address page class index)) ≡ is_free_place (uses rules state) page class index
place-free rules state page class index is given all_of lt =
    let address = place_address page class index in
    place-begins rules address class state
    (all-both (IsPlaced rules state.held) (λ one. touches page one ≡ true → one.kind ≡ Chunk class) (IsChunkThere rules address class) (uses rules state)
    (λ one here of begins. of (subst (λ p. touches p one ≡ true) (ap page_at (eqb-true (first_of one) address begins) ∙ place-page page class index given lt) (touches-first one here.shape)))
    (is.sound).placed all_of)

-- ---- picks on a page

module _ (class : ℕ) (given : IsTrue (is_class class)) where
  start-below : (word : ℕ) → word % places_of class ≤ places_of class
  start-below word = omega (arith, mod_below word (places_of class) (omega (arith, places-at_least_2 class given)))

  -- where the same places are free, the same one is picked
  pick-agree : (there : ChunkPage) (used : List Use) (page word : ℕ) → there.class ≡ class → ((i : ℕ) → i < places_of class → table.is_free_place there i ≡ is_free_place used page class i)
      → table.picked_place there word ≡ picked_place used page class word
  unfolding picked_place
  pick-agree there used page word of same =
      let cycle = cyclic (places_of class) (word % places_of class) in
      ap (λ c. find (table.is_free_place there) (cyclic (places_of c) (word % places_of c))) of
      ∙ find-agree (table.is_free_place there) (is_free_place used page class) cycle
      (all-weaker (λ i. i < places_of class) (λ i. table.is_free_place there i ≡ is_free_place used page class i) cycle same
      (all-cyclic (places_of class) (word % places_of class) (start-below word)))

  -- one is picked where one is free
  pick-some : (used : List Use) (page word : ℕ) → list_any (is_free_place used page class) (range_with_len 0 (places_of class)) ≡ true → picked_place used page class word ≡ None → ⊥
  unfolding picked_place
  pick-some used page word room none =
      let test = is_free_place used page class in
      let free = any-passing test (λ i. i < places_of class) (range_with_len 0 (places_of class)) room (all-below (places_of class)) in
      true≢false (sym free.passes ∙ find-cyclic_none test (places_of class) (word % places_of class) none free.element free.holds)

-- ---- held pages among all pages

-- a filter of all pages that lets only held ones through is one of the held pages
module _ (test : ℕ → Bool) where
  none-held : (page : ℕ) (held : List ℕ) → AllByRecursion (λ p. page < p) held → (test page ≡ true → is_held held page ≡ true) → test page ≡ false
  none-held page held above passes = ⊎_elim
      (λ t. absurd (true≢false (sym (passes t) ∙ any-none (nat_eq page) held (all-weaker (λ p. page < p) (λ p. nat_eq page p ≡ false) held (λ p lt. ne_eqb page p (λ e. omega arith)) above))))
      (λ f. f)
      (cases_Bool (test page))

  pub filter-held : (first count : ℕ) (held : List ℕ) → Ascends held → AllByRecursion (λ p. first ≤ p) held → AllByRecursion (λ p. p < first + count) held
      → ((p : ℕ) → first ≤ p → test p ≡ true → is_held held p ≡ true) → filter test (range_with_len first count) ≡ filter test held
  filter-held first zero [] ascends low high passes = refl
  filter-held first zero (x ∷ xs) ascends low high passes = absurd (omega (arith, low.0, high.0))
  filter-held first (suc count) [] ascends low high passes =
      ap (λ b. cond b (first ∷ filter test (range_with_len (first + 1) count)) (filter test (range_with_len (first + 1) count))) (none-held first [] tt (passes first (omega arith)))
      ∙ filter-held (first + 1) count [] tt tt tt (λ p from. passes p (omega arith))
  filter-held first (suc count) (x ∷ xs) ascends low high passes =
      let rest = range_with_len (first + 1) count in
      ⊎_elim
      (λ same.
      ap (λ ys. cond (test first) (first ∷ ys) ys)
      (filter-held (first + 1) count xs ascends.1
      (all-weaker (λ p. x < p) (λ p. first + 1 ≤ p) xs (λ p lt. omega arith) ascends.0)
      (all-weaker (λ p. p < first + suc count) (λ p. p < (first + 1) + count) xs (λ p lt. omega arith) high.1)
      (λ p from t. or_some (nat_eq p x) (is_held xs p) (ne_eqb p x (λ e. omega arith)) (passes p (omega arith) t)))
      ∙ ap (λ y. cond (test y) (y ∷ filter test xs) (filter test xs)) (sym same))
      (λ ne.
      let above : first < x = omega (arith, low.0, ne) in
      ap (λ b. cond b (first ∷ filter test rest) (filter test rest))
      (none-held first (x ∷ xs) (above, all-weaker (λ p. x < p) (λ p. first < p) xs (λ p lt. omega arith) ascends.0) (passes first (omega arith)))
      ∙ filter-held (first + 1) count (x ∷ xs) ascends
      (omega arith, all-weaker (λ p. x < p) (λ p. first + 1 ≤ p) xs (λ p lt. omega arith) ascends.0)
      (all-weaker (λ p. p < first + suc count) (λ p. p < (first + 1) + count) (x ∷ xs) (λ p lt. omega arith) high)
      (λ p from. passes p (omega arith)))
      (cases_eq x first)

-- ---- picks from tables

kind-is : (class : ℕ) (kind : Option Kind) → is_kind_of class kind ≡ true → kind ≡ Some (Chunk class)
kind-is class None is = cc
kind-is class (Some (Chunk other)) is = ap (λ c. Some (Chunk c)) (eqb-true other class is)
kind-is class (Some Pages) is = cc
kind-is class (Some Guard) is = cc

abbrev picked_at : ℕ → ℕ → Picked
picked_at page place = record { page = record { 0 = page }; place = place }

-- a pick of the open pages, or of the free ones where none is open
chosen-some : (pages : List ℕ) (word page : ℕ) (free : Option ℕ) → slice_get pages (word % length pages) ≡ Some page → (if length pages == 0 then free else slice_get pages (word % length pages)) ≡ Some page
chosen-some [] word page free at = cc
chosen-some (x ∷ xs) word page free at =
    ap (λ b. if b then free else slice_get (x ∷ xs) (word % length (x ∷ xs))) (ne_eqb (length (x ∷ xs)) 0 (λ e. omega arith)) ∙ at

chosen-none : (pages : List ℕ) (word : ℕ) (free : Option ℕ) → slice_get pages (word % length pages) ≡ None → (if length pages == 0 then free else slice_get pages (word % length pages)) ≡ free
chosen-none [] word free at = refl
chosen-none (x ∷ xs) word free at =
    let some = slice_get-get_or (x ∷ xs) (word % length (x ∷ xs)) x (mod_below word (length (x ∷ xs)) (omega arith)) in
    cc

module _ (rules : Rules) (tables : Tables) (state : State) (is : IsSound rules state) (stands : StandFor rules tables state) (class : ℕ) (given : IsTrue (is_class class)) where
  abbrev used : List Use
  used = uses rules state

  abbrev count : ℕ
  count = zone_pages * rules.zones

  abbrev has_room : ℕ → Bool
  has_room page = list_any (is_free_place used page class) (range_with_len 0 (places_of class))

  alike : EachPair AgreeOnPages used
  alike = pairs-weaker GoTogether AgreeOnPages used (λ a b both. both.alike) (is.sound).together

  place-same : (page : ℕ) → page_kind used page ≡ Some (Chunk class) → (i : ℕ) → i < places_of class → is_free (place_has state (place_address page class i)) ≡ is_free_place used page class i
  place-same page kind i lt = place-free rules state page class i is given (kind-all_of class page used alike kind) lt

  get-place : (page i : ℕ) → i < places_of class → slice_get (chunk_page state page class).places i ≡ Some (place_has state (place_address page class i))
  get-place page i lt =
      let has = λ (n : ℕ). place_has state (place_address page class n) in
      let numbers = range_with_len 0 (places_of class) in
      slice_get-get_or (map has numbers) i Free (omega (arith, length-map numbers has, length-range_with_len 0 (places_of class)))
      ∙ ap Some (get_or-map-range_with_len has 0 (places_of class) i i Free lt (omega arith))

  -- on a chunk page the tables pick the place that is picked of the state
  pub place-picked : (page word : ℕ) → page < count → page_kind used page ≡ Some (Chunk class) → picks.place_on tables.chunks page word ≡ picked_place used page class word
  place-picked page word there kind =
      ap (option_and_then (λ (here : ChunkPage). table.picked_place here word)) (stands.chunks page there ∙ ap (chunk_by state page) kind)
      ∙ pick-agree class given (chunk_page state page class) used page word refl (λ i lt. ap is_there_and_free (get-place page i lt) ∙ place-same page kind i lt)

  -- ---- open pages

  room-same : (page : ℕ) → page_kind used page ≡ Some (Chunk class) → has_free (chunk_page state page class) ≡ has_room page
  room-same page kind =
      let has = λ (n : ℕ). place_has state (place_address page class n) in
      let numbers = range_with_len 0 (places_of class) in
      any-map is_free has numbers
      ∙ any-agree (λ n. is_free (has n)) (is_free_place used page class) numbers
      (all-weaker (λ n. n < places_of class) (λ n. is_free (has n) ≡ is_free_place used page class n) numbers (place-same page kind) (all-below (places_of class)))

  open-by : (page : ℕ) (kind : Option Kind) → page_kind used page ≡ kind → picks.is_open class (chunk_by state page kind) ≡ (is_kind_of class kind && has_room page)
  open-by page None at = refl
  open-by page (Some Pages) at = refl
  open-by page (Some Guard) at = refl
  open-by page (Some (Chunk other)) at = ⊎_elim
      (λ same.
      let of = eqb-true other class same in
      ap (λ b. b && has_free (chunk_page state page other)) same
      ∙ ap (λ c. has_free (chunk_page state page c)) of
      ∙ room-same page (at ∙ ap (λ c. Some (Chunk c)) of)
      ∙ sym (ap (λ b. b && has_room page) same))
      (λ ne. ap (λ b. b && has_free (chunk_page state page other)) ne ∙ sym (ap (λ b. b && has_room page) ne))
      (cases_Bool (other == class))

  -- a page is open in the tables where it is so in the state
  pub open-page : (page : ℕ) → page < count → picks.is_open class (page_in tables.chunks page) ≡ is_open_page used class page
  open-page page there =
      ap (picks.is_open class) (stands.chunks page there)
      ∙ open-by page (page_kind used page) refl
      ∙ sym (ap (λ b. b && has_room page) (chunk_page-kind class page used alike))

  open-parts : (page : ℕ) → is_open_page used class page ≡ true → (is_chunk_page used class page ≡ true) × (has_room page ≡ true)
  open-parts page passes = and_parts (is_chunk_page used class page) (has_room page) passes

  pub open-kind : (page : ℕ) → is_open_page used class page ≡ true → page_kind used page ≡ Some (Chunk class)
  open-kind page passes = kind-is class (page_kind used page) (sym (chunk_page-kind class page used alike) ∙ (open-parts page passes).0)

  pub open-held : (page : ℕ) → is_open_page used class page ≡ true → is_held state.held page ≡ true
  open-held page passes =
      let one = any-passing (of_class class page) (IsPlaced rules state.held) used (open-parts page passes).0 (is.sound).placed in
      (one.holds).held_is page (and_parts (touches page one.element) (is_chunk_of class (one.element).kind) one.passes).0

  pub open-pages : picks.open_pages tables.chunks class ≡ open_pages used state.held class
  open-pages =
      let test = λ (page : ℕ). picks.is_open class (page_in tables.chunks page) in
      ap (λ n. filter test (range_with_len 0 n)) stands.chunks_all
      ∙ filter-agree test (is_open_page used class) (range_with_len 0 count)
      (all-weaker (λ page. page < count) (λ page. test page ≡ is_open_page used class page) (range_with_len 0 count) open-page (all-below count))
      ∙ filter-held (is_open_page used class) 0 count state.held is.ascends
      (all-weaker (λ page. page < count) (λ page. 0 ≤ page) state.held (λ page lt. omega arith) is.arena)
      (all-weaker (λ page. page < count) (λ page. page < 0 + count) state.held (λ page lt. omega arith) is.arena)
      (λ page from. open-held page)

  -- ---- the page and the place of a chunk

  -- the page that the tables pick
  page-picked : (word : ℕ) → picks.picked_page tables.chunks class word ≡ slice_get (open_pages used state.held class) (word % length (open_pages used state.held class))
  page-picked word = ap (λ pages. slice_get pages (word % length pages)) open-pages

  page-there : (word page : ℕ) → picks.picked_page tables.chunks class word ≡ Some page → (page < count) × (is_open_page used class page ≡ true)
  page-there word page at =
      let pages = open_pages used state.held class in
      let There : ℕ → Type 0 = λ p. (p < count) × (is_open_page used class p ≡ true) in
      all-get There pages (word % length pages) page
      (all-both (λ p. p < count) (λ p. is_open_page used class p ≡ true) There pages (λ p lt passes. (lt, passes))
      (all-filter (λ p. p < count) (is_open_page used class) state.held is.arena) (passes-filter (is_open_page used class) state.held))
      (sym (page-picked word) ∙ at)

  own-page : (word page : ℕ) → picks.picked_page tables.chunks class word ≡ Some page → own_page used state.held class word ≡ Some page
  unfolding own_page
  own-page word page at = chosen-some (open_pages used state.held class) word page (find (is_free_page used) state.held) (sym (page-picked word) ∙ at)

  own-free : (word : ℕ) → picks.picked_page tables.chunks class word ≡ None → own_page used state.held class word ≡ find (is_free_page used) state.held
  unfolding own_page
  own-free word at = chosen-none (open_pages used state.held class) word (find (is_free_page used) state.held) (sym (page-picked word) ∙ at)

  place-on : (word second page : ℕ) → picks.picked_page tables.chunks class word ≡ Some page → picks.place_on tables.chunks page second ≡ picked_place used page class second
  place-on word second page at =
      let there = page-there word page at in
      place-picked page second there.0 (open-kind page there.1)

  -- where the tables pick nothing the page is the lowest free one
  pub own-none : (first second : ℕ) → picks.picked tables.chunks class first second ≡ None → own_page used state.held class first ≡ find (is_free_page used) state.held
  own-none first second none = by_page (picks.picked_page tables.chunks class first) refl none
    where
      by_place : (page : ℕ) → picks.picked_page tables.chunks class first ≡ Some page → (place : Option ℕ) → picks.place_on tables.chunks page second ≡ place
          → option_map (λ (i : ℕ). picked_at page i) place ≡ None → own_page used state.held class first ≡ find (is_free_page used) state.held
      by_place page at None was empty = absurd (pick-some class given used page second (open-parts page (page-there first page at).1).1 (sym (place-on first second page at) ∙ was))
      by_place page at (Some place) was empty = cc

      by_page : (page : Option ℕ) → picks.picked_page tables.chunks class first ≡ page
          → option_and_then (λ (p : ℕ). option_map (λ (i : ℕ). picked_at p i) (picks.place_on tables.chunks p second)) page ≡ None → own_page used state.held class first ≡ find (is_free_page used) state.held
      by_page None at empty = own-free first at
      by_page (Some page) at empty = by_place page at (picks.place_on tables.chunks page second) refl empty

  abbrev IsOwn : ℕ → ℕ → Picked → Type 0
  IsOwn first second found = (own_page used state.held class first ≡ Some ((found.page).0)) × (picked_place used ((found.page).0) class second ≡ Some found.place) × (is_chunk_page used class ((found.page).0) ≡ true)

  -- what the tables pick is the page and the place that are picked of the state
  pub own-some : (first second : ℕ) (found : Picked) → picks.picked tables.chunks class first second ≡ Some found
      → (own_page used state.held class first ≡ Some ((found.page).0)) × (picked_place used ((found.page).0) class second ≡ Some found.place) × (is_chunk_page used class ((found.page).0) ≡ true)
  own-some first second found some = by_page (picks.picked_page tables.chunks class first) refl some
    where
      by_place : (page : ℕ) → picks.picked_page tables.chunks class first ≡ Some page → (place : Option ℕ) → picks.place_on tables.chunks page second ≡ place
          → option_map (λ (i : ℕ). picked_at page i) place ≡ Some found → IsOwn first second found
      by_place page at None was got = cc
      by_place page at (Some place) was got =
          let same : picked_at page place ≡ found = cc in
          subst (IsOwn first second) same (own-page first page at, sym (place-on first second page at) ∙ was, (open-parts page (page-there first page at).1).0)

      by_page : (page : Option ℕ) → picks.picked_page tables.chunks class first ≡ page
          → option_and_then (λ (p : ℕ). option_map (λ (i : ℕ). picked_at p i) (picks.place_on tables.chunks p second)) page ≡ Some found → IsOwn first second found
      by_page None at got = cc
      by_page (Some page) at got = by_place page at (picks.place_on tables.chunks page second) refl got

  -- ---- a page that becomes one of the class

  untouched-place : (page i : ℕ) → IsUntouched used page → i < places_of class → is_free_place used page class i ≡ true
  untouched-place page i untouched lt =
      let address = place_address page class i in
      let on = place-page page class i given lt in
      not_from_false (list_any (begins_at address) used)
      (any-none (begins_at address) used
      (all-both (IsPlaced rules state.held) (λ one. touches page one ≡ false) (λ one. begins_at address one ≡ false) used
      (λ one here isnt. ne_eqb (first_of one) address (λ e.
      not-touched page one isnt (subst (λ p. touches p one ≡ true) (ap page_at e ∙ on) (touches-first one here.shape))))
      (is.sound).placed untouched))

  fresh-place : (i : ℕ) → i < places_of class → slice_get (fresh_page class).places i ≡ Some Free
  fresh-place i lt =
      slice_get-get_or (fresh_page class).places i Free (omega (arith, length-replicate (places_of class) Free))
      ∙ ap Some (get_or-replicate (places_of class) i Free Free lt)

  pub fresh-picked : (page word : ℕ) → page < count → IsUntouched used page → picks.place_on (with_page tables.chunks page class) page word ≡ picked_place used page class word
  fresh-picked page word there untouched =
      ap (option_and_then (λ (here : ChunkPage). table.picked_place here word))
      (get_or-set_same tables.chunks page (Some (fresh_page class)) None (omega (arith, stands.chunks_all)))
      ∙ pick-agree class given (fresh_page class) used page word refl (λ i lt. ap is_there_and_free (fresh-place i lt) ∙ sym (untouched-place page i untouched lt))
