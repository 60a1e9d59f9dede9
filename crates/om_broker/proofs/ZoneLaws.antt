-- The moves of a broker alone, made one after another, are in zone order and leave its table.
use Rattle.std.proofs.Common.{◌≡◌, ◌≢◌, ℕ, zero, suc, ◌+◌, ◌-◌, ◌/◌, ◌%◌, ◌<◌, ◌≤◌, Bool, true, false, cond, not, ◌&&◌, ◌||◌, List, [], ◌∷◌, ◌++◌, length, get_or, Option, Some, None, IfSome, refl, sym, subst, ◌∙◌, ap, arith, slice_index, replicate, sum_by}
use Rattle.std.specs.List.{AllByRecursion, find}
use Rattle.std.specs.Option.{is_some}
use Rattle.std.proofs.lemmas.Bool.{cases_eq, cases_lt, and_parts, eqb-true, true≢false, false≢true}
use Rattle.std.proofs.lemmas.List.{get_or-set_same, get_or-set_other, get_or_past, length-set, length-replicate, get_or-replicate}
use Rattle.std.proofs.lemmas.List.Sums.{sum_by-set, get_or-le-sum_by}
use Rattle.om_geom.specs.BitLaws.{fit_of-same, has_bit-zero}
use Rattle.om_geom.specs.Fit.{has_bit, is_in_run}
use Rattle.om_geom.specs.FitLaws.{find-passes}
use Rattle.om_model.proofs.Each.{all-find, all-weaker}
use Rattle.om_model.specs.Zones.Order.{IsLawfulMove, is_at, last_version, owner, owner_after}
use Rattle.om_model.specs.declared.entry.Move.{Move}
use Rattle.om_model.specs.declared.entry.ZoneMove.{ZoneMove}
use Rattle.om_broker.specs.Sights.{Has, IsLeft, IsNewer, IsNoOlder, Seen, claimed, gives_back, released}
use Rattle.om_broker.specs.Zones.{ZoneTable, AreFree, IsClaimed, IsMoved, IsReleased, count_bits, fit_in, is_bit_held, is_page_held, moves_made, pages_held, version_of}
use Rattle.om_broker.specs.ZoneStand.{IsOwnMove, Stands, seen_in}
use Rattle.om_broker.proofs.Lists.{all-contained, find-one}
use Rattle.om_broker.proofs.Runs.{run-shift, run-zone}
use Rattle.om_broker.proofs.ZoneMoves.{all_push, is_at-true, last_version-same, last_version-other, last_version-grows, owner-stable, owner-next, order-push}
use mathlib.Core.Logic.{⊎_elim}

-- ---- the table

pub version-low : (table : ZoneTable) (zone : ℕ) → version_of table zone ≤ moves_made table
version-low table zone = ⊎_elim
    (λ lt. get_or-le-sum_by (λ x. x) table.versions zone 0 lt)
    (λ past. let none = get_or_past table.versions zone 0 past in omega arith)
    (cases_lt zone (length table.versions))

module _ (old new : ZoneTable) (zone : ℕ) (moved : IsMoved old new zone) where
  -- the other zones stay
  moved-versions : (other : ℕ) → other ≢ zone → version_of new other ≡ version_of old other
  moved-versions other ne = ap (λ (l : List ℕ). get_or l other 0) moved.versions ∙ get_or-set_other old.versions zone other _ 0 ne

  pub moved-held : (other bit : ℕ) → other ≢ zone → is_bit_held new other bit ≡ is_bit_held old other bit
  moved-held other bit ne = ap (λ (l : List ℕ). has_bit (get_or l other 0) bit) moved.bits ∙ ap (λ bits. has_bit bits bit) (get_or-set_other old.bits zone other _ 0 ne)

  pub moved-version : zone < length old.versions → version_of new zone ≡ version_of old zone + 1
  moved-version lt = ap (λ (l : List ℕ). get_or l zone 0) moved.versions ∙ get_or-set_same old.versions zone _ 0 lt

  pub moved-zones : length new.bits ≡ length old.bits
  moved-zones = ap length moved.bits ∙ length-set old.bits zone _

  pub moved-lengths : length new.versions ≡ length old.versions
  moved-lengths = ap length moved.versions ∙ length-set old.versions zone _

  -- one move more was made
  pub moved-made : zone < length old.versions → moves_made new ≡ moves_made old + 1
  moved-made lt =
      let more = sum_by-set (λ (x : ℕ). x) old.versions zone (version_of old zone + 1) 0 lt in
      ap (sum_by (λ (x : ℕ). x)) moved.versions ∙ omega arith

  -- and as many pages more are held as bits of the zone are set
  pub moved-pages : zone < length old.bits → pages_held new + count_bits (slice_index old.bits zone) ≡ pages_held old + count_bits (slice_index new.bits zone)
  moved-pages lt =
      ap (λ (l : List ℕ). sum_by count_bits l + count_bits (slice_index old.bits zone)) moved.bits
      ∙ sum_by-set count_bits old.bits zone (slice_index new.bits zone) 0 lt

-- ---- one move more

-- the move is the next, and the table after it has what it leaves
pub record IsNextMove (moves : List ZoneMove) (old new : ZoneTable) (m : ZoneMove) : Type 0 where
  pub by : m.pool ≡ 0
  pub zone : m.made.zone < length old.bits
  pub within : m.made.first + m.made.count ≤ 32
  pub version : m.made.version ≡ version_of old m.made.zone + 1
  pub moved : IsMoved old new m.made.zone
  pub held : (bit : ℕ) → bit < 32 → is_bit_held new m.made.zone bit ≡ is_some (owner_after (Some m) bit (owner moves m.made.zone (last_version moves m.made.zone) bit))
  pub lawful : IsLawfulMove moves m

module _ (moves : List ZoneMove) (old new : ZoneTable) (m : ZoneMove) (stands : Stands moves old) (step : IsNextMove moves old new m) where
  abbrev longer : List ZoneMove
  longer = moves ++ m ∷ []

  long : length new.bits ≡ length old.bits
  long = moved-zones old new m.made.zone step.moved

  next : m.made.version ≡ last_version moves m.made.zone + 1
  next = step.version ∙ ap (λ n. n + 1) (stands.versions m.made.zone step.zone)

  still-own : AllByRecursion (IsOwnMove (length old.bits) longer) longer
  still-own = all_push (IsOwnMove (length old.bits) longer) moves m
      (all-weaker (IsOwnMove (length old.bits) moves) (IsOwnMove (length old.bits) longer) moves
      (λ x (mine : IsOwnMove (length old.bits) moves x). record { pool = mine.pool; zone = mine.zone; within = mine.within; some = mine.some; version = let low = mine.version in let grows = last_version-grows moves m x.made.zone in omega arith })
      stands.own)
      (record { pool = step.by; zone = step.zone; within = step.within; some = let version = step.version in omega arith; version = let more = last_version-same moves m m.made.zone refl in omega arith })

  here : (bit : ℕ) → bit < 32 → is_bit_held new m.made.zone bit ≡ is_some (owner longer m.made.zone (last_version longer m.made.zone) bit)
  here bit low = step.held bit low
      ∙ ap is_some (sym (owner-next (length old.bits) moves m stands.own next bit))
      ∙ ap (λ u. is_some (owner longer m.made.zone u bit)) (sym (last_version-same moves m m.made.zone refl))

  pub Stands-push : Stands longer new
  Stands-push = record {
    order = order-push (length old.bits) moves m stands.own next stands.order step.lawful;
    own = subst (λ n. AllByRecursion (IsOwnMove n longer) longer) (sym long) still-own;
    zones = moved-lengths old new m.made.zone step.moved ∙ stands.zones ∙ sym long;
    versions = λ zone lt. ⊎_elim
        (λ z. let P : ℕ → Type 0 = λ y. version_of new y ≡ last_version longer y in subst P z (moved-version old new m.made.zone step.moved (rw stands.zones step.zone) ∙ sym step.version ∙ next ∙ sym (last_version-same moves m m.made.zone refl)))
        (λ z. moved-versions old new m.made.zone step.moved zone (λ e. z (sym e)) ∙ stands.versions zone (let same = long in omega arith) ∙ sym (last_version-other moves m zone z))
        (cases_eq m.made.zone zone);
    bits = λ zone bit lt low. ⊎_elim
        (λ z. let P : ℕ → Type 0 = λ y. is_bit_held new y bit ≡ is_some (owner longer y (last_version longer y) bit) in subst P z (here bit low))
        (λ z. moved-held old new m.made.zone step.moved zone bit (λ e. z (sym e)) ∙ stands.bits zone bit (let same = long in omega arith) low
        ∙ ap is_some (sym (owner-stable moves m zone bit (last_version moves zone) next (omega arith)))
        ∙ ap (λ u. is_some (owner longer zone u bit)) (sym (last_version-other moves m zone z)))
        (cases_eq m.made.zone zone);
  }

  -- what was left stays so
  pub left-push : (sight : List Seen) → AllByRecursion (IsLeft moves) sight → AllByRecursion (IsLeft longer) sight
  left-push sight left = all-weaker (IsLeft moves) (IsLeft longer) sight
      (λ item (was : IsLeft moves item). record {
        had = let low = was.had in let grows = last_version-grows moves m item.zone in omega arith;
        bits = λ bit low. was.bits bit low ∙ ap is_some (sym (owner-stable moves m item.zone bit item.version next was.had));
      })
      left

-- ---- no moves

pub Stands-none : (zones : ℕ) (table : ZoneTable) → table.bits ≡ replicate zones 0 → table.versions ≡ replicate zones 0 → Stands [] table
Stands-none zones table clear unmoved = record {
  order = record { once = λ zone version low high. absurd (omega arith); lawful = tt };
  own = tt;
  zones = ap length unmoved ∙ sym (ap length clear);
  versions = λ zone lt. ap (λ (l : List ℕ). get_or l zone 0) unmoved ∙ get_or-replicate zones zone 0 0 (below zone lt);
  bits = λ zone bit lt low. ap (λ (l : List ℕ). has_bit (get_or l zone 0) bit) clear ∙ ap (λ b. has_bit b bit) (get_or-replicate zones zone 0 0 (below zone lt)) ∙ has_bit-zero bit;
}
  where
    below : (zone : ℕ) → zone < length table.bits → zone < zones
    below zone lt = let long : length table.bits ≡ zones = ap length clear ∙ length-replicate zones 0 in omega arith

-- ---- a claim, a release

none_from : (o : Option ℕ) → is_some o ≡ false → o ≡ None
none_from None e = refl
none_from (Some x) e = cc

claimed-some : (inside : Bool) (before : Option ℕ) → is_some (cond inside (Some 0) before) ≡ (is_some before || inside)
claimed-some true None = refl
claimed-some true (Some k) = refl
claimed-some false None = refl
claimed-some false (Some k) = refl

released-some : (inside : Bool) (before : Option ℕ) → is_some (cond inside None before) ≡ (is_some before && not inside)
released-some true None = refl
released-some true (Some k) = refl
released-some false None = refl
released-some false (Some k) = refl

some-weaker : (P Q : ℕ → Type 0) → ((x : ℕ) → P x → Q x) → (o : Option ℕ) → IfSome o P → IfSome o Q
some-weaker P Q step None holds = holds
some-weaker P Q step (Some x) holds = step x holds

-- an owner, where there is one, is the pool that made all moves
own-after : (inside claims : Bool) (by : ℕ) (before : Option ℕ) → by ≡ 0 → (is_some before ≡ true → before ≡ Some 0) → is_some (cond inside (cond claims (Some by) None) before) ≡ true → cond inside (cond claims (Some by) None) before ≡ Some 0
own-after true true by before same earlier held = ap Some same
own-after true false by before same earlier held = cc
own-after false claims by before same earlier held = earlier held

own-after_move : (found : Option ZoneMove) (bit : ℕ) (before : Option ℕ) → ((m : ZoneMove) → found ≡ Some m → m.pool ≡ 0) → (is_some before ≡ true → before ≡ Some 0) → is_some (owner_after found bit before) ≡ true → owner_after found bit before ≡ Some 0
own-after_move None bit before own earlier held = earlier held
own-after_move (Some m) bit before own earlier held = own-after (is_in_run m.made.first m.made.count bit) m.claims m.pool before (own m refl) earlier held

owner-own : (moves : List ZoneMove) (zone bit u : ℕ) → AllByRecursion (λ m. m.pool ≡ 0) moves → is_some (owner moves zone u bit) ≡ true → owner moves zone u bit ≡ Some 0
owner-own moves zone bit zero own held = cc
owner-own moves zone bit (suc u) own held = own-after_move (find (is_at zone (suc u)) moves) bit (owner moves zone u bit)
    (λ m found. all-find (λ x. x.pool ≡ 0) (is_at zone (suc u)) moves m own found)
    (owner-own moves zone bit u own)
    held

module _ (moves : List ZoneMove) (old new : ZoneTable) (zone first n : ℕ) (stands : Stands moves old) (there : zone < length old.bits) (within : first + n ≤ 32) where
  same : (bit : ℕ) → bit < 32 → is_some (owner moves zone (version_of old zone + 1 - 1) bit) ≡ is_bit_held old zone bit
  same bit low = ap (λ u. is_some (owner moves zone u bit)) (let last = stands.versions zone there in let e : version_of old zone + 1 - 1 ≡ last_version moves zone = omega arith in e) ∙ sym (stands.bits zone bit there low)

  pub claim-next : (move : Move) (search : Option ℕ) → AreFree old zone first n → IsClaimed old new zone first n move → IfSome search (λ word. fit_in old n word zone ≡ Some first) → IsNextMove moves old new (claimed move search)
  claim-next move search free taken found =
      let Goal : Move → Type 0 = λ made. IsNextMove moves old new (claimed made search) in
      subst Goal (sym taken.move_is) (record {
        by = refl;
        zone = there;
        within = within;
        version = refl;
        moved = taken.moved;
        held = λ bit low. taken.held bit low ∙ ap (λ b. b || is_in_run first n bit) (stands.bits zone bit there low) ∙ sym (claimed-some (is_in_run first n bit) (owner moves zone (last_version moves zone) bit));
        lawful = record {
          claim = λ t. record {
            clear = λ bit from below. none_from _ (same bit (omega arith) ∙ free.clear bit from below);
            first = some-weaker _ _ (λ word fits. fit_of-same _ (is_bit_held old zone) n (word % 32) same ∙ fits) search found;
          };
          release = λ f. absurd (true≢false f);
        };
      })

  -- of pages that are held
  pub release-next : (move : Move) → IsReleased old new zone first n move → ((bit : ℕ) → first ≤ bit → bit < first + n → is_bit_held old zone bit ≡ true) → IsNextMove moves old new (released move)
  release-next move is set =
      let Goal : Move → Type 0 = λ made. IsNextMove moves old new (released made) in
      let by_one = all-weaker (IsOwnMove (length old.bits) moves) (λ m. m.pool ≡ 0) moves (λ m (mine : IsOwnMove (length old.bits) moves m). mine.pool) stands.own in
      subst Goal (sym is.move_is) (record {
        by = refl;
        zone = there;
        within = within;
        version = refl;
        moved = is.moved;
        held = λ bit low. is.held bit low ∙ ap (λ b. b && not (is_in_run first n bit)) (stands.bits zone bit there low) ∙ sym (released-some (is_in_run first n bit) (owner moves zone (last_version moves zone) bit));
        lawful = record {
          claim = λ t. absurd (false≢true t);
          release = λ f bit from below. owner-own moves zone bit (version_of old zone + 1 - 1) by_one (same bit (omega arith) ∙ set bit from below);
        };
      })

-- ---- pages that the broker has

kept-by : (inside claims : Bool) (by : ℕ) (before : Option ℕ) → is_some before ≡ true → (claims ≡ false → inside ≡ true → ⊥) → is_some (cond inside (cond claims (Some by) None) before) ≡ true
kept-by true true by before held never = refl
kept-by true false by before held never = absurd (never refl refl)
kept-by false claims by before held never = held

kept-after : (found : Option ZoneMove) (bit : ℕ) (before : Option ℕ) → is_some before ≡ true → ((m : ZoneMove) → found ≡ Some m → m.claims ≡ false → is_in_run m.made.first m.made.count bit ≡ true → ⊥) → is_some (owner_after found bit before) ≡ true
kept-after None bit before held never = held
kept-after (Some m) bit before held never = kept-by (is_in_run m.made.first m.made.count bit) m.claims m.pool before held (never m refl)

taken-by : (inside claims : Bool) (by : ℕ) (before : Option ℕ) → inside ≡ true → claims ≡ true → is_some (cond inside (cond claims (Some by) None) before) ≡ true
taken-by inside claims by before i c = rw (i, c) refl

module _ (moves : List ZoneMove) (table : ZoneTable) (stands : Stands moves table) (page : ℕ) (has : Has moves page) where
  abbrev claim : ZoneMove
  claim = has.claim

  mine : IsOwnMove (length table.bits) moves claim
  mine = all-contained claim (IsOwnMove (length table.bits) moves) moves has.made.0 has.made.1 has.made.2 stands.own

  has-zone : page / 32 ≡ claim.made.zone
  has-zone = run-zone claim.made.zone claim.made.first claim.made.count page mine.within has.takes_it.1

  pub has-inside : page / 32 < length table.bits
  has-inside = let zone = has-zone in let there = mine.zone in omega arith

  -- no later move gave it back
  no-release : (u : ℕ) → claim.made.version ≤ u → (m : ZoneMove) → find (is_at claim.made.zone u) moves ≡ Some m → m.claims ≡ false → is_in_run m.made.first m.made.count (page % 32) ≡ true → ⊥
  no-release u late m found releases inside =
      let at = and_parts _ _ (find-passes (is_at claim.made.zone u) moves m found) in
      let zone : m.made.zone ≡ claim.made.zone = eqb-true _ _ at.0 in
      let version : m.made.version ≡ u = eqb-true _ _ at.1 in
      let Back : ZoneMove → Type 0 = λ other. gives_back page other → other.made.version < claim.made.version in
      let earlier = all-find Back (is_at claim.made.zone u) moves m has.kept found (releases, run-shift m.made.zone m.made.first m.made.count page (has-zone ∙ sym zone) ∙ inside) in
      omega arith

  kept-owner : (u : ℕ) → claim.made.version ≤ u → u ≤ last_version moves claim.made.zone → is_some (owner moves claim.made.zone u (page % 32)) ≡ true
  kept-owner zero late had = let some = mine.some in absurd (omega arith)
  kept-owner (suc u) late had = ⊎_elim
      (λ (now : claim.made.version ≡ suc u).
      ap (λ o. is_some (owner_after o (page % 32) (owner moves claim.made.zone u (page % 32))))
      (find-one claim (is_at claim.made.zone (suc u)) moves has.made.0 has.made.1 has.made.2
      (is_at-true claim.made.zone (suc u) claim refl now)
      ((stands.order).once claim.made.zone (suc u) (omega arith) had))
      ∙ taken-by _ claim.claims claim.pool _ (sym (run-shift claim.made.zone claim.made.first claim.made.count page has-zone) ∙ has.takes_it.1) has.takes_it.0)
      (λ other. kept-after (find (is_at claim.made.zone (suc u)) moves) (page % 32) (owner moves claim.made.zone u (page % 32))
      (kept-owner u (omega arith) (omega arith))
      (no-release (suc u) late))
      (cases_eq claim.made.version (suc u))

  pub has-held : is_page_held table page ≡ true
  has-held =
      stands.bits (page / 32) (page % 32) has-inside (omega arith)
      ∙ ap (λ z. is_some (owner moves z (last_version moves z) (page % 32))) has-zone
      ∙ kept-owner (last_version moves claim.made.zone) mine.version (omega arith)

-- ---- what is seen

module _ (moves : List ZoneMove) (table : ZoneTable) (stands : Stands moves table) where
  -- a zone as it is
  pub seen-left : (zone : ℕ) → zone < length table.bits → IsLeft moves (seen_in table zone)
  seen-left zone there =
      let last = stands.versions zone there in
      record {
        had = omega arith;
        bits = λ bit low. stands.bits zone bit there low ∙ ap (λ u. is_some (owner moves zone u bit)) (sym last);
      }

  pub no-older : (sight : List Seen) → AllByRecursion (IsLeft moves) sight → (zone : ℕ) → zone < length table.bits → IsNoOlder sight zone (version_of table zone)
  no-older sight left zone there = all-weaker (IsLeft moves) (λ item. item.zone ≡ zone → item.version ≤ version_of table zone) sight
      (λ item (was : IsLeft moves item) same. let low = was.had in let last = stands.versions zone there in let e = ap (last_version moves) same in omega arith)
      left

  pub newer : (sight : List Seen) → AllByRecursion (IsLeft moves) sight → (zone version : ℕ) → zone < length table.bits → version ≡ version_of table zone + 1 → IsNewer sight zone version
  newer sight left zone version there next = all-weaker (IsLeft moves) (λ item. item.zone ≡ zone → item.version < version) sight
      (λ item (was : IsLeft moves item) same. let low = was.had in let last = stands.versions zone there in let e = ap (last_version moves) same in omega arith)
      left
