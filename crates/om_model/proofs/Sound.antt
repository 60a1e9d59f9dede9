-- What each call keeps, and by which a state is well formed: each thing in use is one of a page's places, or whole
-- pages. The pages that it touches are held, and lie in the arena. No two share a byte, and those of a page are alike.
use Rattle.std.proofs.Common.{◌≡◌, ℕ, ◌+◌, ◌-◌, ◌*◌, ◌/◌, ◌%◌, ◌<◌, ◌≤◌, ◌⊎◌, inl, inr, true, nat_eq, eq-eqb, List, [], ◌∷◌, length, map, IsTrue, refl, sym, ap, ◌∙◌, subst, arith}
use Rattle.std.specs.List.{flat_map, AllByRecursion}
use Rattle.std.proofs.lemmas.Bool.{cases_lt, cases_eq, and_from, le-leb, lt-ltb}
use Rattle.std.proofs.Math.Nat.{add-sub_cancel_left, mul-le-mul_right, mul-mod_left, mul-div_cancel}
use mathlib.Core.Logic.{⊎_elim}
use Rattle.om_delay.specs.Slots.{slot_count}
use Rattle.om_geom.specs.Addresses.{Covers, address_of, page_at, page_extent}
use Rattle.om_geom.specs.AddressLaws.{page_at-byte, apart-before, apart-after, shares_byte-page, shares_byte-from, SharesByte-swap, SharesByte-true}
use Rattle.om_geom.specs.Classes.{is_class, stride_of, places_of}
use Rattle.om_geom.specs.ClassLaws.{place-within, stride-at_least_16}
use Rattle.om_geom.specs.Numbers.{first_address, page_size, zone_pages}
use Rattle.om_model.specs.Pool.Rules.{Rules}
use Rattle.om_model.specs.Pool.State.{State, delayed, is_held}
use Rattle.om_model.specs.Pool.InUse.{Kind, Chunk, Pages, Guard, Use, use_of_place, uses_of_block, uses, touches}
use Rattle.om_model.specs.Pool.Picks.{place_address, starts_place}
use Rattle.om_model.specs.Pool.WellFormed.{EachPair, BeginsRight, AreAlike, AreApart, AgreeOnPages, FitsZone, HasBytes, LiesOn, IsWellFormed}
use Rattle.om_model.proofs.Each.{all-weaker, all-second, pairs-weaker}
use Rattle.om_model.proofs.Held.{Ascends}
use Rattle.om_model.specs.declared.block.Place.{Place}

-- where it begins
abbrev pub first_of : Use → ℕ
first_of one = (one.extent).first

abbrev pub place_of : ℕ → ℕ → ℕ → Place
place_of page class index = record { address = place_address page class index; class = class }

-- it is one of the places of a page
pub record IsPlace (one : Use) : Type 0 where
  pub page : ℕ
  pub index : ℕ
  pub class : ℕ
  pub is : IsTrue (is_class class)
  pub below : index < places_of class
  pub one_is : one ≡ use_of_place (place_of page class index)

abbrev pub HasWholePages : Kind → Type 0
HasWholePages (Chunk class) = ⊥
HasWholePages kind = Unit {0}

-- it is so many whole pages
pub record IsWhole (one : Use) : Type 0 where
  pub first : ℕ
  pub count : ℕ
  pub some : 0 < count
  pub first_is : first_of one ≡ address_of first
  pub len_is : (one.extent).len ≡ page_size * count
  pub kind_is : HasWholePages one.kind

abbrev pub HasShape : Use → Type 0
HasShape one = IsPlace one ⊎ IsWhole one

-- it is a place or whole pages, and each page that it touches is held
pub record IsPlaced (rules : Rules) (held : List ℕ) (one : Use) : Type 0 where
  pub shape : HasShape one
  pub held_is : (page : ℕ) → touches page one ≡ true → is_held held page ≡ true
  pub there : (page : ℕ) → touches page one ≡ true → page < zone_pages * rules.zones

-- they share no byte, and are alike on the pages that they share
pub record GoTogether (a b : Use) : Type 0 where
  pub apart : AreApart a b
  pub alike : AgreeOnPages a b

pub record AreSound (rules : Rules) (held : List ℕ) (used : List Use) : Type 0 where
  pub placed : AllByRecursion (IsPlaced rules held) used
  pub together : EachPair GoTogether used

pub record IsSound (rules : Rules) (state : State) : Type 0 where
  pub slots : length state.slots ≡ slot_count
  pub zoned : AllByRecursion (FitsZone rules) state.live
  pub ascends : Ascends state.held
  pub arena : AllByRecursion (λ page. page < zone_pages * rules.zones) state.held
  pub pages : length state.memory ≡ zone_pages * rules.zones
  pub bytes : (page : ℕ) → HasBytes state page
  pub sound : AreSound rules state.held (uses rules state)

-- ---- a place and its page

pub place-page : (page class index : ℕ) → IsTrue (is_class class) → index < places_of class → page_at (place_address page class index) ≡ page
place-page page class index is lt = page_at-byte page (index * stride_of class) (omega (arith, place-within class index is lt, stride-at_least_16 class is))

starts-place : (page class index : ℕ) → IsTrue (is_class class) → index < places_of class → starts_place class (place_address page class index) ≡ true
starts-place page class index is lt =
    let stride = stride_of class in
    let some = stride-at_least_16 class is in
    let offset : place_address page class index - address_of (page_at (place_address page class index)) ≡ index * stride =
    ap (λ p. place_address page class index - address_of p) (place-page page class index is lt) ∙ add-sub_cancel_left (address_of page) (index * stride) in
    rw offset (and_from _ _ (eq-eqb ((index * stride) % stride) 0 (mul-mod_left index stride)) (lt-ltb ((index * stride) / stride) (places_of class) (rw (mul-div_cancel index {n = stride} (omega arith)) lt)))

module _ (one : Use) (on : IsPlace one) where
  pub place-kind : one.kind ≡ Chunk on.class
  place-kind = ap (λ (u : Use). u.kind) on.one_is

  pub place-at : page_at (first_of one) ≡ on.page
  place-at = rw on.one_is (place-page on.page on.class on.index on.is on.below)

  -- it touches its page alone
  pub touches-place : (page : ℕ) → touches page one ≡ nat_eq on.page page
  touches-place page =
      let within = place-within on.class on.index on.is on.below in
      let some = stride-at_least_16 on.class on.is in
      rw on.one_is (shares_byte-page ((use_of_place (place_of on.page on.class on.index)).extent) on.page (omega arith) (omega arith) (omega arith) page)

  place-begins : BeginsRight (first_of one) one.kind
  place-begins = rw (on.one_is) (starts-place on.page on.class on.index on.is on.below)

  place-low : first_address ≤ first_of one
  place-low = rw on.one_is (omega arith)

  place-some : 0 < (one.extent).len
  place-some = let some = stride-at_least_16 on.class on.is in rw on.one_is (omega arith)

-- two places of one page and class
before-index : (page stride index second : ℕ) → index < second → address_of page + index * stride + stride ≤ address_of page + second * stride
before-index page stride index second lt = omega (arith, mul-le-mul_right stride lt)

pub apart-on_page : (page class i j : ℕ) → (place_address page class i ≡ place_address page class j → ⊥) → AreApart (use_of_place (place_of page class i)) (use_of_place (place_of page class j))
apart-on_page page class i j differ =
    let a = (use_of_place (place_of page class i)).extent in
    let b = (use_of_place (place_of page class j)).extent in
    ⊎_elim
    (λ low. apart-before a b (before-index page (stride_of class) i j low))
    (λ high. ⊎_elim
    (λ e. absurd (differ (ap (place_address page class) e)))
    (λ ne. apart-after a b (before-index page (stride_of class) j i (omega arith)))
    (cases_eq i j))
    (cases_lt i j)

-- ---- whole pages

whole-begins : (kind : Kind) (address : ℕ) → HasWholePages kind → address ≡ address_of (page_at address) → BeginsRight address kind
whole-begins (Chunk class) address isnt at = absurd isnt
whole-begins Pages address whole at = at
whole-begins Guard address whole at = at

pub whole-no_chunk : (kind : Kind) (class : ℕ) → HasWholePages kind → kind ≡ Chunk class → ⊥
whole-no_chunk (Chunk other) class isnt is = isnt
whole-no_chunk Pages class whole is = cc
whole-no_chunk Guard class whole is = cc

module _ (one : Use) (on : IsWhole one) where
  pub whole-at : page_at (first_of one) ≡ on.first
  whole-at = rw on.first_is (omega arith)

  pub whole-touched : (page : ℕ) → touches page one ≡ true → (on.first ≤ page) × (page < on.first + on.count)
  whole-touched page touched =
      let shared = SharesByte-true (page_extent page) one.extent touched in
      let first = on.first_is in
      let len = on.len_is in
      let in_page = shared.1 in
      let in_one = shared.2 in
      (omega arith, omega arith)

  pub touches-whole : (page : ℕ) → on.first ≤ page → page < on.first + on.count → touches page one ≡ true
  touches-whole page low high =
      let first = on.first_is in
      let len = on.len_is in
      shares_byte-from (page_extent page) one.extent (address_of page, (omega arith, omega arith), (omega arith, omega arith))

-- ---- either

module _ (one : Use) where
  pub shape-low : HasShape one → first_address ≤ first_of one
  shape-low (inl on) = place-low one on
  shape-low (inr on) = let first = on.first_is in omega arith

  shape-some : HasShape one → 0 < (one.extent).len
  shape-some (inl on) = place-some one on
  shape-some (inr on) = let len = on.len_is in let some = on.some in omega arith

  pub shape-begins : HasShape one → BeginsRight (first_of one) one.kind
  shape-begins (inl on) = place-begins one on
  shape-begins (inr on) = whole-begins one.kind (first_of one) on.kind_is (let first = on.first_is in omega arith)

  -- a chunk is a place
  pub shape-chunk : (class : ℕ) → one.kind ≡ Chunk class → HasShape one → IsPlace one
  shape-chunk class is (inl on) = on
  shape-chunk class is (inr on) = absurd (whole-no_chunk one.kind class on.kind_is is)

  pub touched-at : (byte : ℕ) → first_address ≤ byte → Covers one.extent byte → touches (page_at byte) one ≡ true
  touched-at byte low covers = shares_byte-from (page_extent (page_at byte)) one.extent (byte, (omega arith, omega arith), covers)

  -- it touches the page on which it begins
  pub touches-first : HasShape one → touches (page_at (first_of one)) one ≡ true
  touches-first shape =
      let some = shape-some shape in
      touched-at (first_of one) (shape-low shape) (omega arith, omega arith)

  placed-lies_on : (rules : Rules) (state : State) → IsPlaced rules state.held one → LiesOn rules state one
  placed-lies_on rules state on byte covers =
      let low = shape-low on.shape in
      let from = covers.0 in
      let touched = touched-at byte (omega arith) covers in
      let there = on.there (page_at byte) touched in
      and_from _ _ (and_from _ _ (le-leb first_address byte (omega arith)) (lt-ltb byte (address_of (zone_pages * rules.zones)) (omega arith))) (on.held_is (page_at byte) touched)

-- what touches no page of the other's shares no byte with it
pub apart-pages : (a b : Use) → HasShape a → ((page : ℕ) → touches page a ≡ true → touches page b ≡ true → ⊥) → GoTogether a b
apart-pages a b shape isnt = record {
  apart = λ shared.
      let byte = shared.0 in
      let low = shape-low a shape in
      let from = (shared.1).0 in
      isnt (page_at byte) (touched-at a byte (omega arith) shared.1) (touched-at b byte (omega arith) shared.2);
  alike = λ page first second. absurd (isnt page first second);
}

-- ---- both ways

pub alike-self : (kind : Kind) → AreAlike kind kind
alike-self (Chunk class) = refl
alike-self Pages = tt
alike-self Guard = tt

pub alike-swap : (a b : Kind) → AreAlike a b → AreAlike b a
alike-swap (Chunk a) (Chunk b) same = sym same
alike-swap (Chunk a) Pages isnt = isnt
alike-swap (Chunk a) Guard isnt = isnt
alike-swap Pages (Chunk b) isnt = isnt
alike-swap Guard (Chunk b) isnt = isnt
alike-swap Pages Pages both = tt
alike-swap Pages Guard both = tt
alike-swap Guard Pages both = tt
alike-swap Guard Guard both = tt

-- what is alike with a chunk is one of its class
pub alike-chunk : (class : ℕ) (kind : Kind) → AreAlike (Chunk class) kind → kind ≡ Chunk class
alike-chunk class (Chunk other) same = ap Chunk (sym same)
alike-chunk class Pages isnt = absurd isnt
alike-chunk class Guard isnt = absurd isnt

pub together-swap : (a b : Use) → GoTogether a b → GoTogether b a
together-swap a b both = record {
  apart = λ shared. both.apart (SharesByte-swap b.extent a.extent shared);
  alike = λ page first second. alike-swap a.kind b.kind (both.alike page second first);
}

-- ---- sound states are well formed

pub same_class : (a b : ℕ) → Chunk a ≡ Chunk b → a ≡ b
same_class a b same = cc

-- a place that is placed is of a class
classes-of : (rules : Rules) (held : List ℕ) (places : List Place) → AllByRecursion (IsPlaced rules held) (map use_of_place places) → AllByRecursion (λ place. IsTrue (is_class place.class)) places
classes-of rules held [] placed = tt
classes-of rules held (place ∷ places) placed =
    let one = use_of_place place in
    let on = shape-chunk one place.class refl (placed.0).shape in
    let Is : ℕ → Type 0 = λ class. IsTrue (is_class class) in
    (subst Is (same_class on.class place.class (sym (place-kind one on))) on.is, classes-of rules held places placed.1)

pub well-formed : (rules : Rules) (state : State) → IsSound rules state → IsWellFormed rules state
well-formed rules state is =
    let used = uses rules state in
    let sound = is.sound in
    record {
      ascend = is.ascends;
      arena = is.arena;
      pages = is.pages;
      bytes = is.bytes;
      slots = is.slots;
      classes = classes-of rules state.held (delayed state.slots) (all-second (IsPlaced rules state.held) (flat_map (uses_of_block rules) state.live) (map use_of_place (delayed state.slots)) sound.placed);
      zoned = is.zoned;
      begin = all-weaker (IsPlaced rules state.held) (λ one. BeginsRight (first_of one) one.kind) used (λ one on. shape-begins one on.shape) sound.placed;
      apart = pairs-weaker GoTogether AreApart used (λ a b both. both.apart) sound.together;
      on_held = all-weaker (IsPlaced rules state.held) (LiesOn rules state) used (λ one. placed-lies_on one rules state) sound.placed;
      alike = pairs-weaker GoTogether AgreeOnPages used (λ a b both. both.alike) sound.together;
    }
