-- Extents: where they share a byte or a page, and the bytes of one. And what a well-formed state is made of.
use Rattle.std.proofs.Common.{◌≡◌, ℕ, ◌+◌, ◌-◌, ◌<◌, ◌≤◌, ◌*◌, ◌^◌, Bool, true, false, not, ◌&&◌, ◌||◌, nat_le, nat_lt, [], ◌∷◌, length, IsTrue, ◌↔◌, refl, sym, ap, ◌∙◌, arith}
use Rattle.std.specs.List.{AllByRecursion, list_all}
use Rattle.std.proofs.lemmas.Bool.{ltb-true, cases_lt}
use Rattle.std.proofs.lemmas.List.{get_or_past}
use mathlib.Core.Logic.{⊎_elim}
use Rattle.om_delay.specs.Slots.{slot_count}
use Rattle.om_model.proofs.Held.{held-below}
use Rattle.om_geom.specs.Addresses.{Covers, SharesByte, shares_byte, address_of, page_at}
use Rattle.om_geom.specs.Classes.{is_class}
use Rattle.om_geom.specs.Numbers.{zone_pages, first_address}
use Rattle.om_geom.specs.AddressLaws.{SharesByte-true, shares_byte-from}
use Rattle.om_geom.specs.declared.address.Extent.{Extent}
use Rattle.om_model.specs.Pool.InUse.{Use, uses, touches}
use Rattle.om_model.specs.Pool.Rules.{Rules}
use Rattle.om_model.specs.Pool.State.{State, delayed, holds, is_held}
use Rattle.om_model.specs.Pool.WellFormed.{EachPair, AreAlike, AreApart, AgreeOnPages, BeginsRight, FitsZone, HasBytes, LiesOn, IsWellFormed}

pub apart-decided : (a b : Extent) (shares : Bool) → shares ≡ shares_byte a b → IsTrue (not shares) ↔ (SharesByte a b → ⊥)
apart-decided a b true is = ((λ e. cc), (λ apart. absurd (apart (SharesByte-true a b (sym is)))))
apart-decided a b false is = ((λ e shared. let test : false ≡ true = is ∙ shares_byte-from a b shared in cc), (λ apart. refl))

-- the pages that an extent touches lie between those of its ends
pub touched-from : (one : Use) (page : ℕ) → touches page one ≡ true → page_at (one.extent).first ≤ page
touched-from one page touched = let lt = ltb-true _ _ touched in omega arith

pub touched-to : (one : Use) (page : ℕ) → touches page one ≡ true → page < page_at ((one.extent).first + (one.extent).len) + 1
touched-to one page touched = let lt = ltb-true _ _ touched in omega arith

pub agree-decided : (a b : Use) (alike meet : Bool) → IsTrue alike ↔ AreAlike a.kind b.kind → IsTrue meet ↔ ((page : ℕ) × (touches page a ≡ true) × (touches page b ≡ true)) → IsTrue (alike || not meet) ↔ AgreeOnPages a b
agree-decided a b true meet are met = ((λ e page s t. are.0 refl), (λ agree. refl))
agree-decided a b false true are met = ((λ e. cc), (λ agree. let there = met.0 refl in are.1 (agree there.0 there.1 there.2)))
agree-decided a b false false are met = ((λ e page s t. let no : false ≡ true = met.1 (page, s, t) in cc), (λ agree. refl))

-- every byte of an extent is so far behind its first
pub byte-behind : (test : ℕ → Bool) (extent : Extent) (n : ℕ) → extent.len ≤ n → ((k : ℕ) → k < n → test (extent.first + k) ≡ true) → (byte : ℕ) → Covers extent byte → test byte ≡ true
byte-behind test extent n whole each byte covers =
    let low = covers.0 in
    let high = covers.1 in
    let same : extent.first + (byte - extent.first) ≡ byte = omega arith in
    ap test (sym same) ∙ each (byte - extent.first) (omega arith)

-- no byte above those that an address can name is in an arena
pub far-byte : (rules : Rules) (state : State) (byte : ℕ) → rules.zones < 2 ^ 32 → 2 ^ 64 ≤ byte → false ≡ holds rules state byte
far-byte rules state byte few far = outside (nat_lt byte (address_of (zone_pages * rules.zones))) (nat_le first_address byte) (is_held state.held (page_at byte)) (λ e. let lt = ltb-true _ _ e in absurd (omega arith))
  where
    outside : (below above held : Bool) → (below ≡ true → ⊥) → false ≡ ((above && below) && held)
    outside true above held isnt = absurd (isnt refl)
    outside false true held isnt = refl
    outside false false held isnt = refl

-- pages of the arena alone are held, so a page behind memory has no bytes
pub bytes-decided : (state : State) → AllByRecursion (λ page. page < length state.memory) state.held → ((page : ℕ) → page < length state.memory → HasBytes state page) → (page : ℕ) → HasBytes state page
bytes-decided state below each page = ⊎_elim
    (each page)
    (λ past. rw (get_or_past state.memory page [] past, held-below state.held (length state.memory) page below past) refl)
    (cases_lt page (length state.memory))

-- the parts of a well-formed state, each decided by a test
pub well-formed-decided : (rules : Rules) (state : State) (held bytes classes zoned placed lie : Bool) → length state.slots ≡ slot_count
    → IsTrue held ↔ EachPair (λ page other. page < other) state.held
    → IsTrue bytes ↔ (AllByRecursion (λ page. page < zone_pages * rules.zones) state.held × (length state.memory ≡ zone_pages * rules.zones) × ((page : ℕ) → HasBytes state page))
    → IsTrue classes ↔ AllByRecursion (λ place. IsTrue (is_class place.class)) (delayed state.slots)
    → IsTrue zoned ↔ AllByRecursion (FitsZone rules) state.live
    → IsTrue placed ↔ (AllByRecursion (λ one. BeginsRight (one.extent).first one.kind) (uses rules state) × EachPair AreApart (uses rules state) × EachPair AgreeOnPages (uses rules state))
    → IsTrue lie ↔ AllByRecursion (LiesOn rules state) (uses rules state)
    → IsTrue (list_all (λ test. test) (held ∷ bytes ∷ classes ∷ zoned ∷ placed ∷ lie ∷ [])) ↔ IsWellFormed rules state
well-formed-decided rules state true true true true true true slots a m k b c d = (
  (λ e. record {
    ascend = a.0 refl;
    arena = (m.0 refl).0;
    pages = (m.0 refl).1;
    bytes = (m.0 refl).2;
    slots = slots;
    classes = k.0 refl;
    zoned = b.0 refl;
    begin = (c.0 refl).0;
    apart = (c.0 refl).1;
    on_held = d.0 refl;
    alike = (c.0 refl).2;
  }),
  (λ is. refl),
)
well-formed-decided rules state false bytes classes zoned placed lie slots a m k b c d = ((λ e. cc), (λ is. a.1 is.ascend))
well-formed-decided rules state true false classes zoned placed lie slots a m k b c d = ((λ e. cc), (λ is. m.1 (is.arena, is.pages, is.bytes)))
well-formed-decided rules state true true false zoned placed lie slots a m k b c d = ((λ e. cc), (λ is. k.1 is.classes))
well-formed-decided rules state true true true false placed lie slots a m k b c d = ((λ e. cc), (λ is. b.1 is.zoned))
well-formed-decided rules state true true true true false lie slots a m k b c d = ((λ e. cc), (λ is. c.1 (is.begin, is.apart, is.alike)))
well-formed-decided rules state true true true true true false slots a m k b c d = ((λ e. cc), (λ is. d.1 is.on_held))
