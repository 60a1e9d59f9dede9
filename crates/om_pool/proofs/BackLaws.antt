-- What the journal names comes in order, also where more is named. What was seen stays so where more is seen. Of a
-- broker that is alone in its arena all of it is true.
use Rattle.std.proofs.Common.{◌≡◌, ℕ, zero, suc, ◌+◌, ◌-◌, ◌/◌, ◌%◌, ◌<◌, ◌≤◌, Bool, true, List, [], ◌∷◌, ◌++◌, length, map, get_or, Option, Some, None, IsSomeAnd, sym, subst, ◌∙◌, ap, arith}
use Rattle.std.specs.Prelude.{Contains}
use Rattle.std.specs.List.{AllByRecursion, list_any, range_with_len}
use Rattle.std.specs.Option.{is_some}
use Rattle.std.proofs.Math.Nat.{mod-add-div', mul-le-mul_right}
use Rattle.std.proofs.lemmas.Bool.{false≢true, cases_Bool, cases_lt}
use mathlib.Core.Logic.{⊎_elim}
use Rattle.om_broker.specs.Sights.{Seen, IsLeft}
use Rattle.om_broker.specs.declared.broker.Broker as broker
use Rattle.om_geom.specs.Addresses.{bit_of}
use Rattle.om_geom.specs.BitLaws.{fit_of-same}
use Rattle.om_geom.specs.Fit.{has_bit, searched_bit, searched_zone}
use Rattle.om_geom.specs.Numbers.{zone_pages}
use Rattle.om_model.specs.Pool.Rules.{Rules}
use Rattle.om_model.specs.Pool.Runs.{Run}
use Rattle.om_model.specs.Zones.Looks.{IsTrueLook, IsTrueTaken, HasTrueLooks, ComesAfter, Rises, AreLooks}
use Rattle.om_model.specs.Pool.Taken.{taken_of}
use Rattle.om_model.specs.Zones.Order.{owner}
use Rattle.om_model.specs.Zones.Moves.{moves_of, pages_sought, search_word}
use Rattle.om_model.specs.declared.entry.Entry.{Entry}
use Rattle.om_model.specs.declared.entry.Entry.TheVariants.{Call, Phase}
use Rattle.om_model.specs.declared.entry.ZoneMove.{ZoneMove}
use Rattle.om_model.specs.declared.looks.Look.{Look}
use Rattle.om_model.specs.declared.looks.Named.{Named}
use Rattle.om_model.proofs.Each.{all-append, all-weaker, none-range}
use Rattle.om_pool.specs.Backing.{IsSeen, IsSeenName, IsFullIn, IsHeldIn, IsHeldThere, IsNext, HasFullLooks, IsBacked}

-- what holds of each element holds of one that is there
at-index : {X : Type 0} (P : X → Type 0) (xs : List X) (x : X) (k : ℕ) → k < length xs → get_or xs k x ≡ x → AllByRecursion P xs → P x
at-index P [] x k lt is all = absurd (omega arith)
at-index P (y ∷ ys) x zero lt is all = subst P is all.0
at-index P (y ∷ ys) x (suc k) lt is all = at-index P ys x k (omega arith) is all.1

contained : {X : Type 0} (P : X → Type 0) (xs : List X) (x : X) → Contains xs x → AllByRecursion P xs → P x
contained P xs x has all = at-index P xs x has.0 has.1 has.2 all

-- ---- versions that come after others

module _ (sight : List Seen) where
  comes-after : (earlier later : Named) → IsSeenName sight earlier → IsNext sight later → ComesAfter earlier later
  comes-after earlier later seen next zone =
      let item = seen.item in
      let at : item.zone ≡ later.zone = (seen.names).zone_is ∙ zone in
      let version = (seen.names).version_is in
      let from : item.version ≤ later.version = contained (λ (i : Seen). i.zone ≡ later.zone → i.version ≤ later.version) sight item seen.among next.no_older at in
      (omega arith, λ moves. let above : item.version < later.version = contained (λ (i : Seen). i.zone ≡ later.zone → i.version < later.version) sight item seen.among (next.newer moves) at in omega arith)

  pub Rises-append : (earlier later : List Named) → Rises earlier → AllByRecursion (IsSeenName sight) earlier → Rises later → AllByRecursion (IsNext sight) later → Rises (earlier ++ later)
  Rises-append [] later first seen second next = second
  Rises-append (named ∷ earlier) later first seen second next = (
    all-append (ComesAfter named) earlier later first.0 (all-weaker (IsNext sight) (ComesAfter named) later (λ other. comes-after named other seen.0) next),
    Rises-append earlier later first.1 seen.1 second next,
  )

-- ---- a search comes to no zone twice

module _ (zones word : ℕ) where
  searched-apart : (i j : ℕ) → i < j → j < zones → searched_zone zones word i ≡ searched_zone zones word j → ⊥
  searched-apart i j lt below same =
      let x : ℕ = word / 32 + i in
      let y : ℕ = word / 32 + j in
      let of_x = mod-add-div' x zones in
      let of_y = mod-add-div' y zones in
      let rest : x % zones ≡ y % zones = same in
      ⊎_elim
      (λ less. omega (arith, mul-le-mul_right zones less))
      (λ more. omega (arith, mul-le-mul_right zones more))
      (cases_lt (x / zones) (y / zones))

  others : (first from : ℕ) (x : Named) (names : List Named) → x.zone ≡ searched_zone zones word first → first < from
      → map (λ (n : Named). n.zone) names ≡ map (searched_zone zones word) (range_with_len from (length names)) → from + length names ≤ zones → AllByRecursion (ComesAfter x) names
  others first from x [] at lt are few = tt
  others first from x (y ∷ names) at lt are few =
      let here : y.zone ≡ searched_zone zones word from = cc in
      let rest : map (λ (n : Named). n.zone) names ≡ map (searched_zone zones word) (range_with_len (from + 1) (length names)) = cc in
      (λ same. absurd (searched-apart first from lt (omega arith) (sym at ∙ same ∙ here)), others first (from + 1) x names at (omega arith) rest (omega arith))

  pub names-rise : (from : ℕ) (names : List Named) → map (λ (n : Named). n.zone) names ≡ map (searched_zone zones word) (range_with_len from (length names)) → from + length names ≤ zones → Rises names
  names-rise from [] are few = tt
  names-rise from (x ∷ names) are few =
      let here : x.zone ≡ searched_zone zones word from = cc in
      let rest : map (λ (n : Named). n.zone) names ≡ map (searched_zone zones word) (range_with_len (from + 1) (length names)) = cc in
      (others from (from + 1) x names here (omega arith) rest (omega arith), names-rise (from + 1) names rest (omega arith))

-- ---- more of the sight

some-weaker : (P Q : ℕ → Type 0) → ((word : ℕ) → P word → Q word) → (search : Option ℕ) → IsSomeAnd search P → IsSomeAnd search Q
some-weaker P Q step None holds = holds
some-weaker P Q step (Some word) holds = step word holds

-- each item of the one is an item of the other
abbrev pub Wider : List Seen → List Seen → Type 0
Wider sight whole = (item : Seen) → Contains sight item → Contains whole item

module _ (sight whole : List Seen) (wider : Wider sight whole) where
  pub seen-wider : (zone version : ℕ) → IsSeen sight zone version → IsSeen whole zone version
  seen-wider zone version seen = record { item = seen.item; among = wider seen.item seen.among; names = seen.names }

  pub full-wider : (count word : ℕ) (look : Look) → IsFullIn sight count word look → IsFullIn whole count word look
  full-wider count word look full = record { item = full.item; among = wider full.item full.among; names = full.names; full = full.full }

  pub held-wider : (run : Run) (look : Look) → IsHeldIn sight run look → IsHeldIn whole run look
  held-wider run look is = record { item = is.item; among = wider is.item is.among; names = is.names; bit = is.bit; from = is.from; to = is.to; low = is.low; held = is.held }

  pub full-looks-wider : (rules : Rules) (entry : Entry) → HasFullLooks rules sight entry → HasFullLooks rules whole entry
  full-looks-wider rules (Call entry) looks =
      all-weaker
      (λ look. IsSomeAnd (search_word rules entry) (λ word. IsFullIn sight (pages_sought rules entry.op) word look))
      (λ look. IsSomeAnd (search_word rules entry) (λ word. IsFullIn whole (pages_sought rules entry.op) word look))
      entry.looks
      (λ look. some-weaker _ _ (λ word. full-wider (pages_sought rules entry.op) word look) (search_word rules entry)) looks
  full-looks-wider rules (Phase number) looks = tt

-- ---- a broker that has its arena to itself

page-bit : (first bit : ℕ) → bit_of first ≤ bit → bit < zone_pages → bit_of (first + (bit - bit_of first)) ≡ bit
page-bit first bit from low = omega arith

some-range : (test : ℕ → Bool) (first count page : ℕ) → first ≤ page → page < first + count → test page ≡ true → list_any test (range_with_len first count) ≡ true
some-range test first count page low high passes = ⊎_elim
    (λ some. some)
    (λ none. absurd (false≢true (sym (none-range test first count none page low high) ∙ passes)))
    (cases_Bool (list_any test (range_with_len first count)))

module _ (rules : Rules) (moves : List ZoneMove) (sight : List Seen) (left : AllByRecursion (IsLeft moves) sight) where
  true-look : (count word : ℕ) (look : Look) → IsFullIn sight count word look → IsTrueLook moves count word look
  true-look count word look full =
      let item = full.item in
      let was = contained (IsLeft moves) sight item full.among left in
      let names = full.names in
      record {
        version = let had = was.had in rw (sym names.zone_is, sym names.version_is) had;
        full = rw (sym names.zone_is, sym names.version_is)
            (fit_of-same _ (has_bit item.bits) count (searched_bit word) (λ bit low. sym (was.bits bit low)) ∙ full.full);
      }

  true-looks : (entry : Entry) → HasFullLooks rules sight entry → HasTrueLooks rules moves entry
  true-looks (Call entry) looks =
      all-weaker
      (λ look. IsSomeAnd (search_word rules entry) (λ word. IsFullIn sight (pages_sought rules entry.op) word look))
      (λ look. IsSomeAnd (search_word rules entry) (λ word. IsTrueLook moves (pages_sought rules entry.op) word look))
      entry.looks
      (λ look. some-weaker _ _ (λ word. true-look (pages_sought rules entry.op) word look) (search_word rules entry)) looks
  true-looks (Phase number) looks = tt

  true-taken : (run : Run) (look : Look) → IsHeldIn sight run look → IsTrueTaken moves run look
  true-taken run look is =
      let item = is.item in
      let was = contained (IsLeft moves) sight item is.among left in
      let names = is.names in
      let page : ℕ = run.first + (is.bit - bit_of run.first) in
      let owned : is_some (owner moves look.zone look.version is.bit) ≡ true = rw (sym names.zone_is, sym names.version_is) (sym (was.bits is.bit is.low) ∙ is.held) in
      record {
        version = let had = was.had in rw (sym names.zone_is, sym names.version_is) had;
        held = some-range (λ p. is_some (owner moves look.zone look.version (bit_of p))) run.first run.count page (omega arith) (omega (arith, is.from, is.to))
            (ap (λ bit. is_some (owner moves look.zone look.version bit)) (page-bit run.first is.bit is.from is.low) ∙ owned);
      }

pub are-looks : {B A : Type 0} (g : broker.Ghosts B A) (rules : Rules) (held : List ℕ) (entries : List Entry) (b : B) (is : IsBacked g rules held entries b)
    → AllByRecursion (IsLeft (moves_of rules 0 entries)) is.sight → AreLooks rules (moves_of rules 0 entries) entries
are-looks g rules held entries b is left = record {
  true_looks = all-weaker (HasFullLooks rules is.sight) (HasTrueLooks rules (moves_of rules 0 entries)) entries (true-looks rules (moves_of rules 0 entries) is.sight left) is.looks;
  true_taken = all-weaker (IsHeldThere is.sight) (λ taken. IsTrueTaken (moves_of rules 0 entries) taken.run taken.look) (taken_of rules entries)
      (λ taken. true-taken rules (moves_of rules 0 entries) is.sight left taken.run taken.look) is.taken;
  rising = is.rising;
}
