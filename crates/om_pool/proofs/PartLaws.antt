-- What each thing that a call asks of its broker adds to what the broker has made and seen: moves, names of versions,
-- and held pages. Two of them in turn are one.
use Rattle.std.proofs.Common.{◌≡◌, ℕ, ◌+◌, ◌<◌, ◌≤◌, Bool, true, false, not, ◌||◌, List, [], ◌∷◌, ◌++◌, length, map, Option, Some, None, refl, sym, subst, ◌∙◌, ap, append_assoc, append-nil, length-append, arith}
use Rattle.std.specs.List.{AllByRecursion, range_with_len}
use Rattle.std.specs.Option.{option_to_list}
use Rattle.std.proofs.lemmas.Bool.{false≢true, true≢false, and_parts, cases_Bool}
use Rattle.std.proofs.lemmas.List.{length-map, map-append}
use Rattle.std.proofs.lemmas.List.Elements.{Contains-append_left, Contains-append_right}
use Rattle.std.proofs.lemmas.List.FromFn.{map-range_with_len_more}
use mathlib.Core.Logic.{⊎_elim}
use Rattle.om_broker.specs.Claims.{ShowsFull, ShowsMove, moves_of_claim, moves_of_claim_at}
use Rattle.om_broker.specs.Having.{IsSeenMove}
use Rattle.om_broker.specs.Sights.{Seen, Has, claimed, released}
use Rattle.om_broker.specs.declared.broker.Broker as broker
use Rattle.om_broker.specs.declared.broker.Claim.{Claim}
use Rattle.om_broker.specs.declared.broker.Claim.TheVariants.{Claimed, NoRun}
use Rattle.om_broker.specs.declared.broker.ClaimAt.{ClaimAt}
use Rattle.om_broker.specs.declared.broker.ClaimAt.TheVariants as at
use Rattle.om_broker.proofs.HasLaws.{has-claimed, has-still, seen-more, seen-push}
use Rattle.om_frame.specs.Frames.{PageBytes}
use Rattle.om_geom.specs.Fit.{searched_zone}
use Rattle.om_geom.specs.Numbers.{zone_pages}
use Rattle.om_model.specs.Pool.Runs.{Run, run_of, is_page_of}
use Rattle.om_model.specs.Pool.State.{is_held, with_run, without_run}
use Rattle.om_model.specs.Zones.Looks.{named_by_look, named_by_move, Rises}
use Rattle.om_model.specs.declared.entry.Move.{Move}
use Rattle.om_model.specs.declared.entry.ZoneMove.{ZoneMove}
use Rattle.om_model.specs.declared.looks.Look.{Look}
use Rattle.om_model.specs.declared.looks.Named.{Named}
use Rattle.om_model.proofs.Each.{all-append, all-first, all-weaker}
use Rattle.om_model.proofs.Held.{held-with_run, held-without_run}
use Rattle.om_pool.specs.Asking.{claim_in, held_after, held_given, IsAsked, IsAskedAt, IsLeft, IsRunAsked, IsSameBroker, IsSearched}
use Rattle.om_pool.specs.Backing.{IsFullIn, IsHeldIn, IsNext, IsSeenName}
use Rattle.om_pool.proofs.BackLaws.{Rises-append, full-wider, held-wider, names-rise, seen-wider, Wider}

-- the pages are among those that the moves give
abbrev pub HasAll : List ZoneMove → List ℕ → Type 0
HasAll moves held = (page : ℕ) → is_held held page ≡ true → Has moves page

-- ---- what a claim and a release make of the held pages

-- the claimed pages join them
pub has-with_run : (moves : List ZoneMove) (sight items : List Seen) → AllByRecursion (IsSeenMove sight) moves → (held : List ℕ) → HasAll moves held
    → (move : Move) (search : Option ℕ) → move.first + move.count ≤ zone_pages → ShowsMove sight items (claimed move search) → HasAll (moves ++ claimed move search ∷ []) (with_run (run_of move) held)
has-with_run moves sight items seen held has move search inside shows page here = ⊎_elim
    (λ (was : is_held held page ≡ true). has-still moves (claimed move search) page (λ back. absurd (true≢false back.0)) (has page was))
    (λ (was : is_held held page ≡ false).
    let on : is_page_of (run_of move) page ≡ true = sym (ap (λ b. b || is_page_of (run_of move) page) was) ∙ sym (held-with_run (run_of move) held page) ∙ here in
    has-claimed moves (claimed move search) page sight seen shows.new inside (refl, on))
    (cases_Bool (is_held held page))

-- all stay but those that were let go
pub has-without_run : (moves : List ZoneMove) (held : List ℕ) → HasAll moves held → (run : Run) (move : Move) → run_of move ≡ run → HasAll (moves ++ released move ∷ []) (without_run run held)
has-without_run moves held has run move same page here =
    let both = and_parts (is_held held page) (not (is_page_of run page)) (sym (held-without_run run held page) ∙ here) in
    let other : not (is_page_of (run_of move) page) ≡ true = ap (λ (r : Run). not (is_page_of r page)) same ∙ both.1 in
    has-still moves (released move) page (λ back. true≢false (sym other ∙ ap not back.1)) (has page both.0)

-- ---- what one look and one move show

module _ (sight items : List Seen) where
  look-next : (count word : ℕ) (look : Look) → ShowsFull sight items count word look → IsNext sight (named_by_look look)
  look-next count word look shows = record { no_older = shows.new; newer = λ moves. absurd (false≢true moves) }

  look-seen : (count word : ℕ) (look : Look) → ShowsFull sight items count word look → IsSeenName items (named_by_look look)
  look-seen count word look shows = record { item = shows.item; among = shows.among; names = shows.names }

  look-full : (count word : ℕ) (look : Look) → ShowsFull sight items count word look → IsFullIn items count word look
  look-full count word look shows = record { item = shows.item; among = shows.among; names = shows.names; full = shows.full }

  move-next : (m : ZoneMove) → ShowsMove sight items m → IsNext sight (named_by_move m.made)
  move-next m shows = record {
    no_older = all-weaker (λ (i : Seen). i.zone ≡ m.made.zone → i.version < m.made.version) (λ (i : Seen). i.zone ≡ m.made.zone → i.version ≤ m.made.version) sight (λ item below same. let lt = below same in omega arith) shows.new;
    newer = λ moves. shows.new;
  }

  move-seen : (m : ZoneMove) → ShowsMove sight items m → IsSeenName items (named_by_move m.made)
  move-seen m shows = record { item = shows.item; among = shows.among; names = shows.names }

all-map : {X Y : Type 0} (f : X → Y) (P : X → Type 0) (Q : Y → Type 0) (xs : List X) → ((x : X) → P x → Q (f x)) → AllByRecursion P xs → AllByRecursion Q (map f xs)
all-map f P Q [] step all = tt
all-map f P Q (x ∷ xs) step all = (step x all.0, all-map f P Q xs step all.1)

zones-of : (looks : List Look) → map (λ (n : Named). n.zone) (map named_by_look looks) ≡ map (λ (look : Look). look.zone) looks
zones-of [] = refl
zones-of (look ∷ looks) = ap (λ zs. look.zone ∷ zs) (zones-of looks)

-- ---- one thing that is asked

-- to what the broker comes from moves that it had made and a sight
pub record Leads {B A : Type 0} (g : broker.Ghosts B A) (new : B) (before after : List ℕ) (moves : List ZoneMove) (sight : List Seen) (whole : List ZoneMove) (seen : List Seen) : Type 0 where
  pub made : g.made new whole seen
  pub moves_seen : AllByRecursion (IsSeenMove sight) moves → AllByRecursion (IsSeenMove seen) whole
  pub has : AllByRecursion (IsSeenMove sight) moves → HasAll moves before → HasAll whole after

pub record Shows {B A : Type 0} (g : broker.Ghosts B A) (new : B) (before after : List ℕ) (more : List ZoneMove) (names : List Named) (Shown : List Seen → Type 0) (moves : List ZoneMove) (sight : List Seen) : Type 0 where
  pub items : List Seen
  pub leads : Leads g new before after moves sight (moves ++ more) (sight ++ items)
  pub shows : AllByRecursion (ShowsMove sight items) more
  pub seen : AllByRecursion (IsSeenName items) names
  pub next : AllByRecursion (IsNext sight) names
  pub rises : Rises names
  pub shown : Shown items

-- The broker makes more moves, in whose order versions are named. What it sees then shows something, and still does
-- where more is seen.
pub record IsPart {B A : Type 0} (g : broker.Ghosts B A) (old new : B) (before after : List ℕ) (more : List ZoneMove) (names : List Named) (Shown : List Seen → Type 0) : Type 0 where
  pub same : IsSameBroker g old new
  pub wider : (items whole : List Seen) → Wider items whole → Shown items → Shown whole
  pub adds : (moves : List ZoneMove) (sight : List Seen) → g.made old moves sight → Shows g new before after more names Shown moves sight

-- ---- two in turn

module _ {B A : Type 0} (g : broker.Ghosts B A) (old mid new : B) (before between after : List ℕ) (first second : List ZoneMove) (earlier later : List Named) (First Second : List Seen → Type 0)
    (one : IsPart g old mid before between first earlier First) (two : IsPart g mid new between after second later Second) where
  abbrev Both : List Seen → Type 0
  Both items = First items × Second items

  then-adds : (moves : List ZoneMove) (sight : List Seen) → g.made old moves sight → Shows g new before after (first ++ second) (earlier ++ later) Both moves sight
  then-adds moves sight made =
      let a = one.adds moves sight made in
      let seen_so_far : List Seen = sight ++ a.items in
      let b = two.adds (moves ++ first) seen_so_far (a.leads).made in
      let whole : List Seen = a.items ++ b.items in
      let left : Wider a.items whole = Contains-append_left a.items b.items in
      let right : Wider b.items whole = Contains-append_right a.items b.items in
      let By_moves : List ZoneMove → Type 0 = λ ms. Leads g new before after moves sight ms (seen_so_far ++ b.items) in
      let By_sight : List Seen → Type 0 = λ s. Leads g new before after moves sight (moves ++ (first ++ second)) s in
      record {
        items = whole;
        leads = subst By_sight (append_assoc sight a.items b.items) (subst By_moves (append_assoc moves first second) (record {
          made = (b.leads).made;
          moves_seen = λ seen. (b.leads).moves_seen ((a.leads).moves_seen seen);
          has = λ seen all. (b.leads).has ((a.leads).moves_seen seen) ((a.leads).has seen all);
        }));
        shows = all-append (ShowsMove sight whole) first second
            (all-weaker (ShowsMove sight a.items) (ShowsMove sight whole) first (λ m shown. record { item = shown.item; among = left shown.item shown.among; names = shown.names; new = shown.new }) a.shows)
            (all-weaker (ShowsMove seen_so_far b.items) (ShowsMove sight whole) second
            (λ m shown. record { item = shown.item; among = right shown.item shown.among; names = shown.names; new = all-first (λ (i : Seen). i.zone ≡ m.made.zone → i.version < m.made.version) sight a.items shown.new }) b.shows);
        seen = all-append (IsSeenName whole) earlier later
            (all-weaker (IsSeenName a.items) (IsSeenName whole) earlier (λ named. seen-wider a.items whole left named.zone named.version) a.seen)
            (all-weaker (IsSeenName b.items) (IsSeenName whole) later (λ named. seen-wider b.items whole right named.zone named.version) b.seen);
        next = all-append (IsNext sight) earlier later a.next
            (all-weaker (IsNext seen_so_far) (IsNext sight) later (λ named is. record {
              no_older = all-first (λ (i : Seen). i.zone ≡ named.zone → i.version ≤ named.version) sight a.items is.no_older;
              newer = λ moved. all-first (λ (i : Seen). i.zone ≡ named.zone → i.version < named.version) sight a.items (is.newer moved);
            }) b.next);
        rises = Rises-append seen_so_far earlier later a.rises
            (all-weaker (IsSeenName a.items) (IsSeenName seen_so_far) earlier (λ named. seen-wider a.items seen_so_far (Contains-append_right sight a.items) named.zone named.version) a.seen)
            b.rises b.next;
        shown = (one.wider a.items whole left a.shown, two.wider b.items whole right b.shown);
      }

  pub part-then : IsPart g old new before after (first ++ second) (earlier ++ later) Both
  part-then = record {
    same = record { arena = (two.same).arena ∙ (one.same).arena; part = (two.same).part ∙ (one.same).part };
    wider = λ items whole wide shown. (one.wider items whole wide shown.0, two.wider items whole wide shown.1);
    adds = then-adds;
  }

-- ---- nothing, a claim at a given run, a search, and a release

abbrev pub moves_given : Option ClaimAt → List ZoneMove
moves_given None = []
moves_given (Some answer) = moves_of_claim_at answer

abbrev pub names_given : Option ClaimAt → List Named
names_given None = []
names_given (Some (at.Claimed move frames)) = named_by_move move ∷ []
names_given (Some (at.Taken look)) = named_by_look look ∷ []

-- the look of a claim that wasn't given is true
abbrev pub ShownGiven : Option Run → Option ClaimAt → List Seen → Type 0
ShownGiven (Some run) (Some (at.Taken look)) items = IsHeldIn items run look
ShownGiven run answer items = Unit {0}

abbrev pub moves_asked : ℕ → Option Claim → List ZoneMove
moves_asked word None = []
moves_asked word (Some answer) = moves_of_claim word answer

abbrev pub names_asked : List Look → Option Claim → List Named
names_asked looks answer = map named_by_look looks ++ map named_by_move (option_to_list (claim_in answer))

-- each zone that was passed over had no such run
abbrev pub ShownAsked : ℕ → ℕ → List Look → List Seen → Type 0
ShownAsked n word looks items = AllByRecursion (IsFullIn items n word) looks

abbrev pub moves_released : Option Move → List ZoneMove
moves_released release = map released (option_to_list release)

abbrev pub names_released : Option Move → List Named
names_released release = map named_by_move (option_to_list release)

abbrev pub ShownNothing : List Seen → Type 0
ShownNothing items = Unit {0}

module _ {B A : Type 0} (g : broker.Ghosts B A) where
  leads-none : (new : B) (held : List ℕ) (moves : List ZoneMove) (sight items : List Seen) → g.made new (moves ++ []) (sight ++ items) → Leads g new held held moves sight (moves ++ []) (sight ++ items)
  leads-none new held moves sight items made = record {
    made = made;
    moves_seen = λ seen. all-append (IsSeenMove (sight ++ items)) moves [] (seen-more sight items moves seen) tt;
    has = λ seen all. let With : List ZoneMove → Type 0 = λ ms. HasAll ms held in subst With (sym (append-nil moves)) all;
  }

  leads-claimed : (new : B) (held : List ℕ) (moves : List ZoneMove) (sight items : List Seen) (move : Move) (search : Option ℕ) → move.first + move.count ≤ zone_pages → ShowsMove sight items (claimed move search)
      → g.made new (moves ++ claimed move search ∷ []) (sight ++ items) → Leads g new held (with_run (run_of move) held) moves sight (moves ++ claimed move search ∷ []) (sight ++ items)
  leads-claimed new held moves sight items move search inside shows made = record {
    made = made;
    moves_seen = λ seen. seen-push sight items moves seen (claimed move search) inside shows;
    has = λ seen all. has-with_run moves sight items seen held all move search inside shows;
  }

  part-still : (b : B) (held : List ℕ) → IsPart g b b held held [] [] ShownNothing
  part-still b held = record {
    same = record { arena = refl; part = refl };
    wider = λ items whole wide shown. tt;
    adds = λ moves sight made.
        let By_moves : List ZoneMove → Type 0 = λ ms. g.made b ms (sight ++ []) in
        record {
          items = [];
          leads = leads-none b held moves sight [] (subst By_moves (sym (append-nil moves)) (subst (g.made b moves) (sym (append-nil sight)) made));
          shows = tt;
          seen = tt;
          next = tt;
          rises = tt;
          shown = tt;
        };
  }

  module _ (old new : B) (held : List ℕ) where
    -- ---- a claim at a given run

    part-given : (run : Run) (answer : ClaimAt) → IsRunAsked g old new run answer → IsPart g old new held (held_given held (Some answer)) (moves_given (Some answer)) (names_given (Some answer)) (ShownGiven (Some run) (Some answer))
    part-given run (at.Claimed move frames) asked = record {
      same = asked.same;
      wider = λ items whole wide shown. tt;
      adds = λ moves sight made.
          let adds = asked.made moves sight made in
          let shows : ShowsMove sight adds.0 (claimed move None) = adds.2.0 in
          let found = asked.found in
          let first = found.first_is in
          let count = found.count in
          let inside : move.first + move.count ≤ zone_pages = omega (arith, asked.inside) in
          record {
            items = adds.0;
            leads = leads-claimed new held moves sight adds.0 move None inside shows adds.1;
            shows = adds.2;
            seen = (move-seen sight adds.0 (claimed move None) shows, tt);
            next = (move-next sight adds.0 (claimed move None) shows, tt);
            rises = (tt, tt);
            shown = tt;
          };
    }
    part-given run (at.Taken look) asked = record {
      same = asked.same;
      wider = λ items whole wide shown. held-wider items whole wide run look shown;
      adds = λ moves sight made.
          let adds = asked.made moves sight made in
          let shows = (adds.3).taken in
          let to = shows.to in
          record {
            items = adds.0;
            leads = leads-none new held moves sight adds.0 adds.1;
            shows = tt;
            seen = (record { item = shows.item; among = shows.among; names = shows.names }, tt);
            next = (record { no_older = shows.new; newer = λ moved. absurd (false≢true moved) }, tt);
            rises = (tt, tt);
            shown = record {
              item = shows.item;
              among = shows.among;
              names = shows.names;
              bit = shows.bit;
              from = shows.from;
              to = to;
              low = omega (arith, asked.inside);
              held = shows.held;
            };
          };
    }

    pub part-asked_at : (run : Option Run) (answer : Option ClaimAt) → IsAskedAt g run old new answer → IsPart g old new held (held_given held answer) (moves_given answer) (names_given answer) (ShownGiven run answer)
    part-asked_at None answer asked =
        let At : B → Option ClaimAt → Type 0 = λ b a. IsPart g old b held (held_given held a) (moves_given a) (names_given a) (ShownGiven None a) in
        subst (λ b. At b answer) (sym asked.0) (subst (At old) (sym asked.1) (part-still old held))
    part-asked_at (Some run) None asked = absurd asked
    part-asked_at (Some run) (Some answer) asked = part-given run answer asked

    -- ---- a search

    module _ (n word : ℕ) (looks : List Look) where
      abbrev names : List Named
      names = map named_by_look looks

      module _ (sight items : List Seen) (shows : AllByRecursion (ShowsFull sight items n word) looks) where
        looks-full : AllByRecursion (IsFullIn items n word) looks
        looks-full = all-weaker (ShowsFull sight items n word) (λ look. IsFullIn items n word look) looks (look-full sight items n word) shows

        looks-next : AllByRecursion (IsNext sight) names
        looks-next = all-map named_by_look (ShowsFull sight items n word) (IsNext sight) looks (look-next sight items n word) shows

        looks-seen : AllByRecursion (IsSeenName items) names
        looks-seen = all-map named_by_look (ShowsFull sight items n word) (IsSeenName items) looks (look-seen sight items n word) shows

      fully : (items whole : List Seen) → Wider items whole → ShownAsked n word looks items → ShownAsked n word looks whole
      fully items whole wide = all-weaker (IsFullIn items n word) (IsFullIn whole n word) looks (λ look. full-wider items whole wide n word look)

      -- no run was found
      part-refused : IsSearched g old new n word looks NoRun → IsPart g old new held held [] (names_asked looks (Some NoRun)) (ShownAsked n word looks)
      part-refused search =
          let zones = g.zones (g.arena old) in
          let full : length looks ≡ zones = search.found in
          let long : length names ≡ length looks = length-map looks named_by_look in
          let zones_are : map (λ (named : Named). named.zone) names ≡ map (searched_zone zones word) (range_with_len 0 (length names)) =
          zones-of looks ∙ search.names ∙ ap (λ k. map (searched_zone zones word) (range_with_len 0 k)) (sym long) in
          record {
            same = search.same;
            wider = fully;
            adds = λ moves sight made.
                let adds = search.made moves sight made in
                let shows = (adds.3).looks_are in
                record {
                  items = adds.0;
                  leads = leads-none new held moves sight adds.0 adds.1;
                  shows = tt;
                  seen = all-append (IsSeenName adds.0) names [] (looks-seen sight adds.0 shows) tt;
                  next = all-append (IsNext sight) names [] (looks-next sight adds.0 shows) tt;
                  rises = subst Rises (sym (append-nil names)) (names-rise zones word 0 names zones_are (omega arith));
                  shown = looks-full sight adds.0 shows;
                };
          }

      -- pages were claimed
      part-claimed : (move : Move) (frames : List PageBytes) → IsSearched g old new n word looks (Claimed move frames)
          → IsPart g old new held (with_run (run_of move) held) (claimed move (Some word) ∷ []) (names_asked looks (Some (Claimed move frames))) (ShownAsked n word looks)
      part-claimed move frames search =
          let zones = g.zones (g.arena old) in
          let m : ZoneMove = claimed move (Some word) in
          let found = search.found in
          let few = found.few in
          let count = found.count in
          let inside : move.first + move.count ≤ zone_pages = omega (arith, found.inside) in
          let last : List Named = named_by_move move ∷ [] in
          let all : List Named = names ++ last in
          let long : length all ≡ length looks + 1 = length-append names last ∙ ap (λ k. k + 1) (length-map looks named_by_look) in
          let zones_are : map (λ (named : Named). named.zone) all ≡ map (searched_zone zones word) (range_with_len 0 (length all)) =
          map-append (λ (named : Named). named.zone) names last
          ∙ ap (λ zs. zs ++ move.zone ∷ []) (zones-of looks ∙ search.names)
          ∙ ap (λ z. map (searched_zone zones word) (range_with_len 0 (length looks)) ++ z ∷ []) found.zone
          ∙ sym (map-range_with_len_more (searched_zone zones word) 0 (length looks) (length looks) (omega arith))
          ∙ ap (λ k. map (searched_zone zones word) (range_with_len 0 k)) (sym long) in
          record {
            same = search.same;
            wider = fully;
            adds = λ moves sight made.
                let adds = search.made moves sight made in
                let shows = (adds.3).looks_are in
                let shown : ShowsMove sight adds.0 m = adds.2.0 in
                record {
                  items = adds.0;
                  leads = leads-claimed new held moves sight adds.0 move (Some word) inside shown adds.1;
                  shows = adds.2;
                  seen = all-append (IsSeenName adds.0) names last (looks-seen sight adds.0 shows) (move-seen sight adds.0 m shown, tt);
                  next = all-append (IsNext sight) names last (looks-next sight adds.0 shows) (move-next sight adds.0 m shown, tt);
                  rises = names-rise zones word 0 all zones_are (omega arith);
                  shown = looks-full sight adds.0 shows;
                };
          }

    pub part-asked : (own : Bool) (n word : ℕ) (looks : List Look) (answer : Option Claim) → IsAsked g own old new n word looks answer → IsPart g old new held (held_after held own answer) (moves_asked word answer) (names_asked looks answer) (ShownAsked n word looks)
    part-asked true n word looks answer asked =
        let At : B → List Look → Option Claim → Type 0 = λ b seen a. IsPart g old b held held (moves_asked word a) (names_asked seen a) (ShownAsked n word seen) in
        subst (λ b. At b looks answer) (sym asked.0) (subst (λ seen. At old seen answer) (sym asked.1) (subst (At old []) (sym asked.2)
        (part-still old held)))
    part-asked false n word looks None asked = absurd asked
    part-asked false n word looks (Some (Claimed move frames)) asked = part-claimed n word looks move frames asked
    part-asked false n word looks (Some NoRun) asked = part-refused n word looks asked

    -- ---- a release

    pub part-left : (after : List ℕ) (release : Option Move) → IsLeft g old new held after release → IsPart g old new held after (moves_released release) (names_released release) ShownNothing
    part-left after None left =
        let At : B → List ℕ → Type 0 = λ b pages. IsPart g old b held pages [] [] ShownNothing in
        subst (λ b. At b after) (sym left.0) (subst (At old) (sym left.1) (part-still old held))
    part-left after (Some move) left =
        let lets = left.1 in
        let given = lets.given in
        let m : ZoneMove = released move in
        let At : List ℕ → Type 0 = λ pages. IsPart g old new held pages (m ∷ []) (named_by_move move ∷ []) ShownNothing in
        subst At (sym lets.left) (record {
          same = given.same;
          wider = λ items whole wide shown. tt;
          adds = λ moves sight made.
              let adds = given.made moves sight made in
              let shows : ShowsMove sight adds.0 m = adds.2.0 in
              record {
                items = adds.0;
                leads = record {
                  made = adds.1;
                  moves_seen = λ seen. seen-push sight adds.0 moves seen m given.inside shows;
                  has = λ seen all. has-without_run moves held all left.0 move given.run_is;
                };
                shows = adds.2;
                seen = (move-seen sight adds.0 m shows, tt);
                next = (move-next sight adds.0 m shows, tt);
                rises = (tt, tt);
                shown = tt;
              };
        })
