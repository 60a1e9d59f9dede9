-- Addresses and pages back and forth, a page's zone and bit, and extents that share no byte.
use Rattle.std.proofs.Common.{◌≡◌, ℕ, ◌+◌, ◌*◌, ◌<◌, ◌≤◌, ◌⊎◌, inl, inr, true, Some, None, refl, sym, ◌∙◌, ap, arith, nat_eq, nat_le, nat_lt, max, min}
use Rattle.std.proofs.lemmas.Bool.{cases_Bool, cases_eq, eq-eqb, ne_eqb, le-ltb, and_parts, and_from, and_cases, leb-true, leb-false, le-leb, ltb-true, ltb-false, lt-ltb}
use Rattle.om_geom.specs.declared.address.Extent.{Extent}
use Rattle.om_geom.specs.Addresses.{address_of, is_in_arena, page_at, page_of, page_extent, zone_of, bit_of, shares_byte, SharesByte}
use mathlib.Core.Logic.{⊎_elim}

-- ---- pages and addresses

-- the address is that of one of the page's bytes
pub record IsOnPage (address page : ℕ) : Type 0 where
  pub from : address_of page ≤ address
  pub below : address < address_of page + 4096

pub page_at-byte : (page byte : ℕ) → byte < 4096 → page_at (address_of page + byte) ≡ page
page_at-byte page byte within = omega arith

pub page_at-on_page : (address page : ℕ) → IsOnPage address page → page_at address ≡ page
page_at-on_page address page on = omega arith

pub page_of-byte : (page byte zones : ℕ) → byte < 4096 → page < 32 * zones → page_of (address_of page + byte) zones ≡ Some page
page_of-byte page byte zones within there =
    let in_arena : is_in_arena (address_of page + byte) zones ≡ true = and_from _ _ (le-leb 65536 (address_of page + byte) (omega arith)) (lt-ltb (address_of page + byte) (address_of (32 * zones)) (omega arith)) in
    rw in_arena (ap Some (page_at-byte page byte within))

-- the page that was found
pub record IsPageOf (address zones page : ℕ) : Type 0 where
  pub on_page : IsOnPage address page
  pub there : page < 32 * zones

pub page_of-some : (address zones page : ℕ) → page_of address zones ≡ Some page → IsPageOf address zones page
page_of-some address zones page found = ⊎_elim
    (λ t.
    let here : Some (page_at address) ≡ Some page = rw t at found in
    let same : page_at address ≡ page = cc in
    let both = and_parts (nat_le 65536 address) (nat_lt address (address_of (32 * zones))) t in
    let low = leb-true 65536 address both.0 in
    let high = ltb-true address (address_of (32 * zones)) both.1 in
    record { on_page = record { from = omega arith; below = omega arith }; there = omega arith })
    (λ f. let here : None ≡ Some page = rw f at found in cc)
    (cases_Bool (is_in_arena address zones))

-- none is found before the arena and after it only
pub page_of-none : (address zones : ℕ) → page_of address zones ≡ None → (address < 65536) ⊎ (address_of (32 * zones) ≤ address)
page_of-none address zones none = ⊎_elim
    (λ t. let here : Some (page_at address) ≡ None = rw t at none in cc)
    (λ f. ⊎_elim
    (λ low. inl (leb-false 65536 address low))
    (λ high. inr (ltb-false address (address_of (32 * zones)) high))
    (and_cases (nat_le 65536 address) (nat_lt address (address_of (32 * zones))) f))
    (cases_Bool (is_in_arena address zones))

-- ---- zones and bits

pub page-from_zone : (page : ℕ) → 32 * zone_of page + bit_of page ≡ page
page-from_zone page = omega arith

pub bit_of-below : (page : ℕ) → bit_of page < 32
bit_of-below page = omega arith

pub zone_of-below : (page zones : ℕ) → page < 32 * zones → zone_of page < zones
zone_of-below page zones there = omega arith

pub zone_of-place : (zone bit : ℕ) → bit < 32 → zone_of (32 * zone + bit) ≡ zone
zone_of-place zone bit lt = omega arith

pub bit_of-place : (zone bit : ℕ) → bit < 32 → bit_of (32 * zone + bit) ≡ bit
bit_of-place zone bit lt = omega arith

-- ---- extents

pub apart-before : (a b : Extent) → a.first + a.len ≤ b.first → ¬ (SharesByte a b)
apart-before a b before (byte, of_a, of_b) = omega arith

pub apart-after : (a b : Extent) → b.first + b.len ≤ a.first → ¬ (SharesByte a b)
apart-after a b after (byte, of_a, of_b) = omega arith

pub SharesByte-swap : (a b : Extent) → SharesByte a b → SharesByte b a
SharesByte-swap a b (byte, of_a, of_b) = (byte, of_b, of_a)

-- extents that are neither empty nor one before the other share a byte
pub SharesByte-from : (a b : Extent) → 0 < a.len → 0 < b.len → a.first < b.first + b.len → b.first < a.first + a.len → SharesByte a b
SharesByte-from a b some_a some_b low high = (max a.first b.first, (omega arith, omega arith), (omega arith, omega arith))

pub SharesByte-true : (a b : Extent) → shares_byte a b ≡ true → SharesByte a b
SharesByte-true a b shares =
    let below = ltb-true (max a.first b.first) (min (a.first + a.len) (b.first + b.len)) shares in (max a.first b.first, (omega arith, omega arith), (omega arith, omega arith))

pub shares_byte-from : (a b : Extent) → SharesByte a b → shares_byte a b ≡ true
shares_byte-from a b (byte, of_a, of_b) = lt-ltb (max a.first b.first) (min (a.first + a.len) (b.first + b.len)) (omega arith)

-- an extent on one page shares bytes with that page alone
pub shares_byte-page : (extent : Extent) (page : ℕ) → address_of page ≤ extent.first → 0 < extent.len → extent.first + extent.len ≤ address_of page + 4096 → (other : ℕ) → shares_byte (page_extent other) extent ≡ nat_eq page other
shares_byte-page extent page from some to other = ⊎_elim
    (λ same. lt-ltb _ _ (omega arith) ∙ sym (eq-eqb page other same))
    (λ ne. le-ltb _ _ (omega arith) ∙ sym (ne_eqb page other ne))
    (cases_eq page other)
