-- What a call of a broker alone changes in its share and its frames, and adds to its moves and its sight.
use Rattle.std.proofs.Common.{◌≡◌, ℕ, ◌+◌, ◌-◌, ◌*◌, ◌/◌, ◌%◌, ◌<◌, ◌≤◌, true, false, not, ◌&&◌, ◌||◌, List, [], ◌∷◌, ◌++◌, length, map, get_or, replicate, sum_by, Some, None, refl, sym, subst, ◌∙◌, ap, arith, slice_index, append-nil}
use Rattle.std.specs.Prelude.{All}
use Rattle.std.specs.List.{AllByRecursion, range_with_len}
use Rattle.std.proofs.Math.Bool.{and-false, and-true, or-false, or-true}
use Rattle.std.proofs.lemmas.Bool.{cases_eq, true≢false}
use Rattle.std.proofs.lemmas.List.{get_or-map, get_or-replicate, length-replicate, get_or_append_left, length-append, length-map}
use Rattle.std.proofs.lemmas.List.Elements.{Contains-push}
use Rattle.std.proofs.lemmas.List.Folds.{sum_by-replicate}
use Rattle.std.proofs.lemmas.Simd.{map-map}
use Rattle.std.proofs.lemmas.List.FromFn.{get_or-map-range_with_len}
use Rattle.om_frame.specs.Frames.{PageBytes, empty_frame, zero_frames, with_frames, without_pages, AreHeld}
use Rattle.om_frame.specs.FrameLaws.{All-zero_frames, length-with_frames}
use Rattle.om_frame.specs.Memory.{is_held, no_pages}
use Rattle.om_geom.specs.BitLaws.{has_bit-zero}
use Rattle.om_geom.specs.Fit.{has_bit, is_in_run}
use Rattle.om_model.proofs.Each.{all-append}
use Rattle.om_model.specs.Pool.Journal.{NamesSearched}
use Rattle.om_model.specs.Pool.Runs.{run_of}
use Rattle.om_model.specs.declared.entry.Move.{Move}
use Rattle.om_model.specs.declared.entry.ZoneMove.{ZoneMove}
use Rattle.om_model.specs.declared.looks.Look.{Look}
use Rattle.om_broker.specs.Claims.{AreZeros, HasFrames, first_page, ShowsFull, ShowsHeld, ShowsMove, ShowsNothingElse, ShowsPlace, ShowsSearch}
use Rattle.om_broker.specs.declared.broker.Claim.TheVariants as claim
use Rattle.om_broker.specs.declared.broker.ClaimAt.TheVariants as at
use Rattle.om_broker.specs.Lone.{IsHome, IsLone, Lone, lone_share}
use Rattle.om_broker.specs.Sights.{HasRun, IsLeft, LacksRun, Seen, claimed, released}
use Rattle.om_broker.specs.Zones.{ZoneTable, AreFree, ArePassed, HasHeld, IsClaimed, IsFoundClaim, IsMoved, IsReleased, count_bits, is_bit_held, is_page_held, look_of, moves_made, next_move, pages_held, searched_in, version_of}
use Rattle.om_broker.specs.ZoneStand.{HasMade, seen_in}
use Rattle.om_broker.proofs.HomeLaws.{all-home, come-inside, come-outside, left-inside, left-outside}
use Rattle.om_broker.proofs.Lists.{all-range, count-both, count-run}
use Rattle.om_broker.proofs.Runs.{in-run, not-in-run, run-cases, run-other, run-shift}
use Rattle.om_broker.proofs.ZoneLaws.{IsNextMove, Stands-push, claim-next, has-held, has-inside, left-push, moved-held, moved-lengths, moved-made, moved-pages, moved-version, moved-zones, newer, no-older, release-next, seen-left}
use mathlib.Core.Logic.{⊎_elim}

-- ---- the pages of a claim or a release

module _ (old new : ZoneTable) (zone first n : ℕ) (within : first + n ≤ 32) where
  -- they are held after a claim, and the others stay
  claimed-pages : (move : Move) → IsClaimed old new zone first n move → (page : ℕ) → is_page_held new page ≡ (is_page_held old page || is_in_run (32 * zone + first) n page)
  claimed-pages move taken page = ⊎_elim
      (λ z. ap (λ y. is_bit_held new y (page % 32)) z ∙ taken.held (page % 32) (omega arith)
      ∙ ap (λ y. is_bit_held old y (page % 32) || is_in_run first n (page % 32)) (sym z)
      ∙ ap (λ b. is_page_held old page || b) (sym (run-shift zone first n page z)))
      (λ z. moved-held old new zone taken.moved (page / 32) (page % 32) z
      ∙ sym (or-false (is_page_held old page))
      ∙ ap (λ b. is_page_held old page || b) (sym (run-other zone first n page within z)))
      (cases_eq (page / 32) zone)

  -- they are free after a release, and the others stay
  released-pages : (move : Move) → IsReleased old new zone first n move → (page : ℕ) → is_page_held new page ≡ (is_page_held old page && not (is_in_run (32 * zone + first) n page))
  released-pages move is page = ⊎_elim
      (λ z. ap (λ y. is_bit_held new y (page % 32)) z ∙ is.held (page % 32) (omega arith)
      ∙ ap (λ y. is_bit_held old y (page % 32) && not (is_in_run first n (page % 32))) (sym z)
      ∙ ap (λ b. is_page_held old page && not b) (sym (run-shift zone first n page z)))
      (λ z. moved-held old new zone is.moved (page / 32) (page % 32) z
      ∙ sym (and-true (is_page_held old page))
      ∙ ap (λ b. is_page_held old page && not b) (sym (run-other zone first n page within z)))
      (cases_eq (page / 32) zone)

  -- so many bits more are set, or fewer
  claimed-count : (move : Move) → IsClaimed old new zone first n move → AreFree old zone first n → count_bits (slice_index new.bits zone) ≡ count_bits (slice_index old.bits zone) + n
  claimed-count move taken free =
      let run = count-run first n 0 32 (omega arith) (omega arith) in
      count-both (is_bit_held old zone) (is_in_run first n) (is_bit_held new zone) 0 32 (λ i from to. ⊎_elim
      (λ inside. rw (taken.held i (omega arith), free.clear i inside.0 inside.1, in-run first n i inside.0 inside.1) refl)
      (λ outside. rw (taken.held i (omega arith), not-in-run first n i outside, or-false (is_bit_held old zone i)) (omega arith))
      (run-cases first n i))
      ∙ omega arith

  released-count : (move : Move) → IsReleased old new zone first n move → ((bit : ℕ) → first ≤ bit → bit < first + n → is_bit_held old zone bit ≡ true) → count_bits (slice_index old.bits zone) ≡ count_bits (slice_index new.bits zone) + n
  released-count move is set =
      let run = count-run first n 0 32 (omega arith) (omega arith) in
      count-both (is_bit_held new zone) (is_in_run first n) (is_bit_held old zone) 0 32 (λ i from to. ⊎_elim
      (λ inside. rw (is.held i (omega arith), set i inside.0 inside.1, in-run first n i inside.0 inside.1) refl)
      (λ outside. rw (is.held i (omega arith), not-in-run first n i outside, and-true (is_bit_held old zone i)) (omega arith))
      (run-cases first n i))
      ∙ omega arith

-- ---- what stays so of the broker

-- every page of the run is held
abbrev pub AreAllHeld : ZoneTable → ℕ → ℕ → Type 0
AreAllHeld table page n = (p : ℕ) → page ≤ p → p < page + n → is_page_held table p ≡ true

-- so is every bit of it
bits-held : (table : ZoneTable) (zone first n : ℕ) → first + n ≤ 32 → AreAllHeld table (32 * zone + first) n → (bit : ℕ) → first ≤ bit → bit < first + n → is_bit_held table zone bit ≡ true
bits-held table zone first n within held bit from to =
    let here : zone ≡ (32 * zone + bit) / 32 = omega arith in
    let there : bit ≡ (32 * zone + bit) % 32 = omega arith in
    ap (λ z. is_bit_held table z bit) here ∙ ap (is_bit_held table ((32 * zone + bit) / 32)) there ∙ held (32 * zone + bit) (omega arith) (omega arith)

module _ (lone : Lone) (is : IsLone lone) (new : ZoneTable) (zone first n : ℕ) (there : zone < length (lone.table).bits) (within : first + n ≤ 32) where
  abbrev old : ZoneTable
  old = lone.table

  abbrev page : ℕ
  page = 32 * zone + first

  fits : page + n ≤ length lone.home
  fits = let pages = (is.home).pages in omega arith

  counted : IsMoved old new zone → moves_made new ≡ moves_made old + 1
  counted moved = moved-made old new zone moved (let zones = is.zones in omega arith)

  lengths : IsMoved old new zone → length new.bits ≡ length old.bits
  lengths moved = moved-zones old new zone moved

  zones-same : IsMoved old new zone → length new.versions ≡ length new.bits
  zones-same moved = moved-lengths old new zone moved ∙ is.zones ∙ sym (lengths moved)

  pub free-page : AreFree old zone first n → (p : ℕ) → page ≤ p → p < page + n → is_page_held old p ≡ false
  free-page free p from to =
      let here : p / 32 ≡ zone = omega arith in
      ap (λ z. is_bit_held old z (p % 32)) here ∙ free.clear (p % 32) (omega arith) (omega arith)

  -- the frames of free pages are at home
  pub frames-there : AreFree old zone first n → AreHeld lone.home page n
  frames-there free p from to = (is.home).others p (omega arith) ∙ ap not (free-page free p from to)

  pub claimed-lone : (move : Move) → AreFree old zone first n → IsClaimed old new zone first n move → n + 1 ≤ lone.left → (asks : ℕ)
      → IsLone (record { table = new; home = without_pages lone.home page n; left = lone.left - (n + 1); asks = asks })
  claimed-lone move free taken enough asks =
      let long = lengths taken.moved in
      let made = counted taken.moved in
      let pages = moved-pages old new zone taken.moved there in
      let bits = claimed-count old new zone first n within move taken free in
      let share = is.share in
      record {
        some = let some = is.some in omega arith;
        few = let few = is.few in omega arith;
        zones = zones-same taken.moved;
        share = omega arith;
        home = record {
          pages = length-with_frames lone.home (map empty_frame (range_with_len page n)) ∙ (is.home).pages ∙ ap (λ (k : ℕ). 32 * k) (sym long);
          others = λ p low. ⊎_elim
              (λ inside. let now : is_page_held new p ≡ true = claimed-pages old new zone first n within move taken p ∙ rw (in-run page n p inside.0 inside.1) (or-true (is_page_held old p)) in
              left-inside lone.home page n p inside.0 inside.1 fits ∙ ap not (sym now))
              (λ outside. let now : is_page_held new p ≡ is_page_held old p = claimed-pages old new zone first n within move taken p ∙ rw (not-in-run page n p outside) (or-false (is_page_held old p)) in
              left-outside lone.home page n p outside ∙ (is.home).others p (omega arith) ∙ ap not (sym now))
              (run-cases page n p);
        };
      }

  pub released-lone : (move : Move) → IsReleased old new zone first n move → AreAllHeld old page n → 1 ≤ n → (asks : ℕ)
      → IsLone (record { table = new; home = with_frames lone.home (zero_frames page n); left = lone.left + (n - 1); asks = asks })
  released-lone move freed held some_pages asks =
      let long = lengths freed.moved in
      let made = counted freed.moved in
      let pages = moved-pages old new zone freed.moved there in
      let bits = released-count old new zone first n within move freed (bits-held old zone first n within held) in
      let share = is.share in
      record {
        some = let some = is.some in omega arith;
        few = let few = is.few in omega arith;
        zones = zones-same freed.moved;
        share = omega arith;
        home = record {
          pages = length-with_frames lone.home (zero_frames page n) ∙ (is.home).pages ∙ ap (λ (k : ℕ). 32 * k) (sym long);
          others = λ p low. ⊎_elim
              (λ inside. let now : is_page_held new p ≡ false = released-pages old new zone first n within move freed p ∙ rw (in-run page n p inside.0 inside.1) (and-false (is_page_held old p)) in
              come-inside lone.home page n p inside.0 inside.1 fits ∙ ap not (sym now))
              (λ outside. let now : is_page_held new p ≡ is_page_held old p = released-pages old new zone first n within move freed p ∙ rw (not-in-run page n p outside) (and-true (is_page_held old p)) in
              come-outside lone.home page n p outside ∙ (is.home).others p (omega arith) ∙ ap not (sym now))
              (run-cases page n p);
        };
      }

-- ---- what a call adds

module _ (old : ZoneTable) (moves : List ZoneMove) (sight : List Seen) (made : HasMade old moves sight) where
  -- looks at zones as they are
  left-looks : (looks : List Look) → AllByRecursion (λ look. look.zone < length old.bits) looks → AllByRecursion (IsLeft moves) (map (λ look. seen_in old look.zone) looks)
  left-looks [] there = tt
  left-looks (look ∷ looks) there = (seen-left moves old made.stands look.zone there.0, left-looks looks there.1)

  -- the moves with the next one, and what is seen of its zone
  module _ (new : ZoneTable) (m : ZoneMove) (step : IsNextMove moves old new m) where
    abbrev seen : Seen
    seen = seen_in new m.made.zone

    long : length old.versions ≡ length old.bits
    long = (made.stands).zones

    pub adds-move : (items : List Seen) → AllByRecursion (IsLeft moves) items → HasMade new (moves ++ m ∷ []) (sight ++ (items ++ seen ∷ []))
    adds-move items left =
        let all = Stands-push moves old new m made.stands step in
        let same = moved-zones old new m.made.zone step.moved in
        let Left = IsLeft (moves ++ m ∷ []) in
        record {
          stands = all;
          left = all-append Left sight (items ++ seen ∷ [])
              (left-push moves old new m made.stands step sight made.left)
              (all-append Left items (seen ∷ []) (left-push moves old new m made.stands step items left)
              (seen-left (moves ++ m ∷ []) new all m.made.zone (let there = step.zone in omega arith), tt));
        }

    pub shows-move : (items : List Seen) → ShowsMove sight (items ++ seen ∷ []) m
    shows-move items = record {
      item = seen;
      among = Contains-push items seen;
      names = record { zone_is = refl; version_is = moved-version old new m.made.zone step.moved (let there = step.zone in let same = long in omega arith) ∙ sym step.version };
      new = newer moves old made.stands sight made.left m.made.zone m.made.version step.zone step.version;
    }

  -- a search shows each zone that it passed over
  module _ (n word : ℕ) (looks : List Look) (passed : ArePassed old n word looks) (some : 1 ≤ length old.bits) where
    abbrev pub looked : List Seen
    looked = map (λ look. seen_in old look.zone) looks

    pub looked-left : AllByRecursion (IsLeft moves) looked
    looked-left = left-looks looks (subst (AllByRecursion (λ look. look.zone < length old.bits)) (sym passed.named)
        (all-range (λ look. look.zone < length old.bits) (look_of old word) 0 (length looks) (λ i from low. omega arith)))

    shown-at : (rest : List Seen) (i : ℕ) → i < length looks → ShowsFull sight (looked ++ rest) n word (look_of old word i)
    shown-at rest i low =
        let zone : ℕ = searched_in old word i in
        let item : Seen = seen_in old zone in
        let at : get_or looks i (look_of old word i) ≡ look_of old word i = ap (λ (all : List Look). get_or all i (look_of old word i)) passed.named ∙ get_or-map-range_with_len (look_of old word) 0 (length looks) i i (look_of old word i) low (omega arith) in
        let long_items = length-append looked rest in
        let long_looked = length-map looks (λ (look : Look). seen_in old look.zone) in
        record {
          item = item;
          among = (
            i,
            omega arith,
            get_or_append_left looked rest item i (omega arith)
                ∙ get_or-map (λ (look : Look). seen_in old look.zone) looks i (look_of old word i) item low
                ∙ ap (λ (look : Look). seen_in old look.zone) at,
          );
          names = record { zone_is = refl; version_is = refl };
          full = passed.full i low;
          new = no-older moves old made.stands sight made.left zone (omega arith);
        }

    pub looks-shown : (rest : List Seen) → AllByRecursion (ShowsFull sight (looked ++ rest) n word) looks
    looks-shown rest = subst (AllByRecursion (ShowsFull sight (looked ++ rest) n word)) (sym passed.named)
        (all-range (ShowsFull sight (looked ++ rest) n word) (look_of old word) 0 (length looks) (λ i from low. shown-at rest i (omega arith)))

  -- pages that are free are none that the broker has
  pub lacks-free : (zone first n : ℕ) → AreFree old zone first n → LacksRun moves (record { first = 32 * zone + first; count = n })
  lacks-free zone first n free page from to has =
      let within = free.within in
      let here : page / 32 ≡ zone = omega arith in
      true≢false (sym (has-held moves old made.stands page has) ∙ ap (λ z. is_bit_held old z (page % 32)) here ∙ free.clear (page % 32) (omega arith) (omega arith))

  pub has-all-held : (from n : ℕ) → HasRun moves (record { first = from; count = n }) → AreAllHeld old from n
  has-all-held first n has p from to = has-held moves old made.stands p (has p from to)

-- ---- what each call adds

-- the looks of a search name the zones that come first
pub named-searched : (table : ZoneTable) (n word : ℕ) (looks : List Look) → ArePassed table n word looks → NamesSearched (length table.bits) word looks
named-searched table n word looks passed =
    ap (map (λ (look : Look). look.zone)) passed.named
    ∙ map-map (λ (look : Look). look.zone) (look_of table word) (range_with_len 0 (length looks))

module _ (old new : ZoneTable) (moves : List ZoneMove) (sight : List Seen) (made : HasMade old moves sight) where
  -- the move, and what is shown beside it
  abbrev pub MovedWith : ZoneMove → (List Seen → Type 0) → Type 0
  MovedWith m Shown = (items : List Seen) × HasMade new (moves ++ m ∷ []) (sight ++ items) × AllByRecursion (ShowsMove sight items) (m ∷ []) × Shown items

  abbrev pub UnmovedWith : (List Seen → Type 0) → Type 0
  UnmovedWith Shown = (items : List Seen) × HasMade new (moves ++ []) (sight ++ items) × Unit {0} × Shown items

  unmoved : new ≡ old → (items : List Seen) → AllByRecursion (IsLeft moves) items → HasMade new (moves ++ []) (sight ++ items)
  unmoved same items left =
      let Made : List ZoneMove → Type 0 = λ all. HasMade new all (sight ++ items) in
      let Table : ZoneTable → Type 0 = λ table. HasMade table moves (sight ++ items) in
      subst Made (sym (append-nil moves)) (subst Table (sym same) (record { stands = made.stands; left = all-append (IsLeft moves) sight items made.left left }))

  lacks-move : (zone first n : ℕ) (move : Move) → move ≡ next_move old zone first n → AreFree old zone first n → LacksRun moves (run_of move)
  lacks-move zone first n move is free =
      let Lacks : Move → Type 0 = λ m. LacksRun moves (run_of m) in
      subst Lacks (sym is) (lacks-free old moves sight made zone first n free)

  module _ (n word : ℕ) (looks : List Look) (passed : ArePassed old n word looks) where
    pub claim-adds : (move : Move) (frames : List PageBytes) → IsFoundClaim old new n word (length looks) move
        → MovedWith (claimed move (Some word)) (ShowsSearch n word looks (claim.Claimed move frames) moves sight)
    claim-adds move frames is =
        let found = is.found in
        let free = found.free in
        let some : 1 ≤ length old.bits = let few = found.few in omega arith in
        let step = claim-next moves old new move.zone move.first n made.stands free.there free.within move (Some word) free is.claimed found.first_is in
        let items = looked old moves sight made n word looks passed some in (
          items ++ seen_in new move.zone ∷ [],
          adds-move old moves sight made new (claimed move (Some word)) step items (looked-left old moves sight made n word looks passed some),
          (shows-move old moves sight made new (claimed move (Some word)) step items, tt),
          record {
            looks_are = looks-shown old moves sight made n word looks passed some (seen_in new move.zone ∷ []);
            lacks = lacks-move move.zone move.first n move (is.claimed).move_is free;
          },
        )

    pub norun-adds : 1 ≤ length old.bits → new ≡ old → UnmovedWith (ShowsSearch n word looks claim.NoRun moves sight)
    norun-adds some same =
        let items = looked old moves sight made n word looks passed some in (
          items,
          unmoved same items (looked-left old moves sight made n word looks passed some),
          tt,
          record {
            looks_are = let Shown : List Seen → Type 0 = λ all. AllByRecursion (ShowsFull sight all n word) looks in
                subst Shown (append-nil items) (looks-shown old moves sight made n word looks passed some []);
            lacks = tt;
          },
        )

  module _ (zone first n : ℕ) where
    pub given-adds : (move : Move) (frames : List PageBytes) → AreFree old zone first n → IsClaimed old new zone first n move
        → MovedWith (claimed move None) (ShowsPlace first n (at.Claimed move frames) moves sight)
    given-adds move frames free taken =
        let step = claim-next moves old new zone first n made.stands free.there free.within move None free taken tt in (
          seen_in new move.zone ∷ [],
          adds-move old moves sight made new (claimed move None) step [] tt,
          (shows-move old moves sight made new (claimed move None) step [], tt),
          record { taken = tt; lacks = lacks-move zone first n move taken.move_is free },
        )

    pub held-adds : (look : Look) → HasHeld (is_bit_held old zone) first n → look ≡ record { zone = zone; version = version_of old zone } → new ≡ old → zone < length old.bits
        → UnmovedWith (ShowsPlace first n (at.Taken look) moves sight)
    held-adds look held is same there =
        let item = seen_in old zone in
        let Shown : Look → Type 0 = λ l. ShowsHeld sight (item ∷ []) first n l in (
          item ∷ [],
          unmoved same (item ∷ []) (seen-left moves old made.stands zone there, tt),
          tt,
          record {
            taken = subst Shown (sym is) (record {
              item = item;
              among = (0, omega arith, refl);
              names = record { zone_is = refl; version_is = refl };
              bit = held.bit;
              from = held.from;
              to = held.to;
              held = held.held;
              new = no-older moves old made.stands sight made.left zone there;
            });
            lacks = tt;
          },
        )

    -- of pages that are held
    pub release-adds : (move : Move) → IsReleased old new zone first n move → zone < length old.bits → first + n ≤ 32 → AreAllHeld old (32 * zone + first) n
        → MovedWith (released move) (ShowsNothingElse moves sight)
    release-adds move is there within all =
        let step = release-next moves old new zone first n made.stands there within move is (bits-held old zone first n within all) in (
          seen_in new move.zone ∷ [],
          adds-move old moves sight made new (released move) step [] tt,
          (shows-move old moves sight made new (released move) step [], tt),
          tt,
        )

-- ---- frames that come back

module _ (lone : Lone) (is : IsLone lone) (frames : List PageBytes) (zeros : AreZeros frames) (has : HasFrames (HasMade lone.table) frames) where
  abbrev from : ℕ
  from = first_page frames

  abbrev many : ℕ
  many = length frames

  pub frames-held : AreAllHeld lone.table from many
  frames-held = has-all-held lone.table has.moves has.sight has.made from many has.has

  pub frames-zone : from / 32 < length (lone.table).bits
  frames-zone = let some = zeros.some in has-inside has.moves lone.table (has.made).stands from (has.has from (omega arith) (omega arith))

  low : (page : ℕ) → page < from + many → page < 32 * length (lone.table).bits
  low page to = let within = zeros.one_zone in let zone = frames-zone in omega arith

  pub frames-fit : All (λ frame. frame.page < length lone.home) frames
  frames-fit =
      let There : PageBytes → Type 0 = λ frame. frame.page < length lone.home in
      subst (All There) (sym zeros.zeros_are) (All-zero_frames There from many (λ page past to. let pages = (is.home).pages in let below = low page to in omega arith))

  pub frames-new : All (λ frame. is_held lone.home frame.page ≡ false) frames
  frames-new =
      let New : PageBytes → Type 0 = λ frame. is_held lone.home frame.page ≡ false in
      subst (All New) (sym zeros.zeros_are) (All-zero_frames New from many (λ page past to. (is.home).others page (low page to) ∙ ap not (frames-held page past to)))

  module _ (new : ZoneTable) (page n : ℕ) (first_is : page ≡ from) (count_is : n ≡ many) (move : Move) (is_released : IsReleased lone.table new (page / 32) (page % 32) n move) where
    start : 32 * (page / 32) + page % 32 ≡ from
    start = omega arith

    there : page / 32 < length (lone.table).bits
    there = let zone = frames-zone in omega arith

    within : page % 32 + n ≤ 32
    within = let one_zone = zeros.one_zone in omega arith

    all-held : AreAllHeld lone.table (32 * (page / 32) + page % 32) n
    all-held p past to = let same = start in frames-held p (omega arith) (omega arith)

    pub frames-released : (home : List (List ℕ)) → home ≡ with_frames lone.home frames → (asks : ℕ) → IsLone (record { table = new; home = home; left = lone.left + (n - 1); asks = asks })
    frames-released home home_is asks =
        let Kept : List (List ℕ) → Type 0 = λ h. IsLone (record { table = new; home = h; left = lone.left + (n - 1); asks = asks }) in
        let zeros_come : frames ≡ zero_frames (32 * (page / 32) + page % 32) n = zeros.zeros_are ∙ ap (λ (p : ℕ). zero_frames p many) (sym start) ∙ ap (λ (k : ℕ). zero_frames (32 * (page / 32) + page % 32) k) (sym count_is) in
        subst Kept (sym (home_is ∙ ap (with_frames lone.home) zeros_come))
        (released-lone lone is new (page / 32) (page % 32) n there within move is_released all-held (let some = zeros.some in omega arith) asks)

    pub frames-add : (moves : List ZoneMove) (sight : List Seen) (made : HasMade lone.table moves sight) → MovedWith lone.table new moves sight made (released move) (ShowsNothingElse moves sight)
    frames-add moves sight made = release-adds lone.table new moves sight made (page / 32) (page % 32) n move is_released there within all-held

-- ---- a new broker

pub new-lone : (table : ZoneTable) (home : List (List ℕ)) (zones : ℕ) → 1 ≤ zones → zones ≤ 64 → table.bits ≡ replicate zones 0 → table.versions ≡ replicate zones 0
    → home ≡ with_frames (no_pages zones) (zero_frames 0 (32 * zones)) → IsLone (record { table = table; home = home; left = lone_share; asks = 0 })
new-lone table home zones some few clear unmoved all =
    let bits : length table.bits ≡ zones = ap length clear ∙ length-replicate zones 0 in
    let versions : length table.versions ≡ zones = ap length unmoved ∙ length-replicate zones 0 in
    let none : pages_held table ≡ 0 = ap (sum_by count_bits) clear ∙ sum_by-replicate count_bits zones 0 ∙ omega arith in
    let unmade : moves_made table ≡ 0 = ap (sum_by (λ (x : ℕ). x)) unmoved ∙ sum_by-replicate (λ (x : ℕ). x) zones 0 ∙ omega arith in
    record {
      some = omega arith;
      few = omega arith;
      zones = versions ∙ sym bits;
      share = omega arith;
      home = let Home : List (List ℕ) → Type 0 = λ h. IsHome table h in
          subst Home (sym all) (all-home zones table bits (λ page low.
          ap (λ (l : List ℕ). has_bit (get_or l (page / 32) 0) (page % 32)) clear
          ∙ ap (λ b. has_bit b (page % 32)) (get_or-replicate zones (page / 32) 0 0 (omega arith)) ∙ has_bit-zero (page % 32)));
    }
