-- What a whole call makes of the broker, by all that it asked for: what its entry shows, and the broker's side of the
-- pool after it.
use Rattle.std.proofs.Common.{◌≡◌, ℕ, Bool, true, false, List, [], ◌∷◌, ◌++◌, map, Option, Some, None, IsSomeAnd, is_some, refl, sym, subst, ◌∙◌, ap, append_assoc, append-nil}
use Rattle.std.specs.Prelude.{IsSome}
use Rattle.std.specs.List.{AllByRecursion, flat_map}
use Rattle.std.specs.Option.{option_to_list}
use Rattle.std.proofs.lemmas.Bool.{false≢true, true≢false, cases_Bool}
use Rattle.std.proofs.lemmas.List.{map-append}
use Rattle.std.proofs.lemmas.List.Concat.{flat_map-append}
use Rattle.std.proofs.lemmas.List.Elements.{Contains-append_left, Contains-append_right}
use mathlib.Core.Logic.{⊎_elim}
use Rattle.om_broker.specs.Claims.{ShowsMove}
use Rattle.om_broker.specs.Sights.{Seen, claimed, released}
use Rattle.om_broker.specs.declared.broker.Broker as broker
use Rattle.om_broker.specs.declared.broker.Claim.{Claim}
use Rattle.om_broker.specs.declared.broker.Claim.TheVariants.{Claimed, NoRun}
use Rattle.om_broker.specs.declared.broker.ClaimAt.{ClaimAt}
use Rattle.om_broker.specs.declared.broker.ClaimAt.TheVariants as at
use Rattle.om_model.specs.Data.CallEntry.{CallEntry}
use Rattle.om_model.specs.Pool.Journal.{state_of, wish_of}
use Rattle.om_model.specs.Pool.Rules.{Rules}
use Rattle.om_model.specs.Pool.Runs.{Run}
use Rattle.om_model.specs.Pool.State.{State}
use Rattle.om_model.specs.Pool.Steps.{At, Nothing, Search, Wish}
use Rattle.om_model.specs.Pool.Taken.{taken_if, taken_of, TakenLook}
use Rattle.om_model.specs.Zones.Looks.{named_by_look, named_by_move, named_in, Rises}
use Rattle.om_model.specs.Zones.Moves.{moves_of, moves_of_call, pages_sought, search_word}
use Rattle.om_model.specs.declared.entry.Entry.{Entry}
use Rattle.om_model.specs.declared.entry.Entry.TheVariants.{Call}
use Rattle.om_model.specs.declared.entry.Move.{Move}
use Rattle.om_model.specs.declared.entry.ZoneMove.{ZoneMove}
use Rattle.om_model.specs.declared.looks.Look.{Look}
use Rattle.om_model.specs.declared.looks.Named.{Named}
use Rattle.om_model.specs.declared.operation.Op.{Op}
use Rattle.om_model.specs.declared.operation.Who.{Who}
use Rattle.om_model.specs.declared.reply.Reply.{Reply}
use Rattle.om_model.proofs.Each.{all-append, all-weaker}
use Rattle.om_model.proofs.Journals.{moves_of-push, taken_of-push}
use Rattle.om_pool.specs.Asking.{claim_in, claim_of, given_in, held_after, held_given, taken_in, IsAsked, IsLeft, IsTrace, Trace}
use Rattle.om_pool.specs.Backing.{AddsEntry, IsBacked, IsFullIn, IsHeldIn, IsHeldThere, IsNext, IsSeenName, HasFullLooks}
use Rattle.om_pool.specs.CoreKept.{core_state, IsBackedCore}
use Rattle.om_pool.specs.HoldingsView.{rules_in}
use Rattle.om_pool.specs.Unasked.{unasked_entry, IsQuiet}
use Rattle.om_pool.specs.declared.pool_core.Core.{Core}
use Rattle.om_pool.proofs.BackLaws.{Rises-append, Wider, full-looks-wider, held-wider, seen-wider}
use Rattle.om_pool.proofs.PartLaws.{IsPart, Leads, ShownAsked, ShownGiven, ShownNothing, moves_asked, moves_given, moves_released, names_asked, names_given, names_released, part-asked, part-asked_at, part-left, part-then}

-- the run that a call asks for in the first place
abbrev pub wished_run : Wish → Option Run
wished_run (At run otherwise) = Some run
wished_run (Search count word) = None
wished_run Nothing = None

-- the entry of a call in that state has what was asked and answered
pub record IsEntered (rules : Rules) (state : State) (entry : CallEntry) (trace : Trace) : Type 0 where
  pub taken : entry.taken ≡ taken_in trace.given
  pub looks : entry.looks ≡ trace.looks
  pub claim : entry.claim ≡ claim_of trace.given trace.answer
  pub release : entry.release ≡ trace.release
  -- a search was by the word, for so many pages; a claim at a given run is by no word
  pub word : trace.own ≡ false → search_word rules entry ≡ Some trace.word
  pub pages : trace.own ≡ false → pages_sought rules entry.op ≡ trace.count
  pub no_word : IsSome (given_in trace.given) → search_word rules entry ≡ None
  -- a page was found held in that run
  pub run : IsSome entry.taken → wished_run (wish_of rules state entry.op) ≡ trace.run

-- ---- the names and the moves of an entry, in their order

looks-first : (looks : List Look) (claims releases : List Move) → (map named_by_look looks ++ map named_by_move claims) ++ map named_by_move releases ≡ map named_by_look looks ++ map named_by_move (claims ++ releases)
looks-first looks claims releases =
    append_assoc (map named_by_look looks) (map named_by_move claims) (map named_by_move releases)
    ∙ ap (λ all. map named_by_look looks ++ all) (sym (map-append named_by_move claims releases))

names-whole : (given : Option ClaimAt) (looks : List Look) (answer : Option Claim) (release : Option Move) → (IsSome (given_in given) → (looks ≡ []) × (answer ≡ None))
    → names_given given ++ (names_asked looks answer ++ names_released release)
    ≡ map named_by_look (option_to_list (taken_in given) ++ looks) ++ map named_by_move (option_to_list (claim_of given answer) ++ option_to_list release)
names-whole None looks answer release alone = looks-first looks (option_to_list (claim_in answer)) (option_to_list release)
names-whole (Some (at.Taken look)) looks answer release alone = ap (λ all. named_by_look look ∷ all) (looks-first looks (option_to_list (claim_in answer)) (option_to_list release))
names-whole (Some (at.Claimed move frames)) looks answer release alone =
    let no_looks : looks ≡ [] = (alone refl).0 in
    let no_answer : answer ≡ None = (alone refl).1 in
    rw (no_looks, no_answer) refl

moves-searched : (answer : Option Claim) (release : Option Move) (word : ℕ) (search : Option ℕ) → (IsSome (claim_in answer) → search ≡ Some word)
    → moves_asked word answer ++ moves_released release ≡ map (λ move. claimed move search) (option_to_list (claim_in answer)) ++ moves_released release
moves-searched None release word search by = refl
moves-searched (Some NoRun) release word search by = refl
moves-searched (Some (Claimed move frames)) release word search by = ap (λ s. claimed move s ∷ moves_released release) (sym (by refl))

moves-whole : (given : Option ClaimAt) (answer : Option Claim) (release : Option Move) (word : ℕ) (search : Option ℕ) → (IsSome (claim_in answer) → search ≡ Some word) → (IsSome (given_in given) → (answer ≡ None) × (search ≡ None))
    → moves_given given ++ (moves_asked word answer ++ moves_released release) ≡ map (λ move. claimed move search) (option_to_list (claim_of given answer)) ++ moves_released release
moves-whole None answer release word search by alone = moves-searched answer release word search by
moves-whole (Some (at.Taken look)) answer release word search by alone = moves-searched answer release word search by
moves-whole (Some (at.Claimed move frames)) answer release word search by alone =
    let no_answer : answer ≡ None = (alone refl).0 in
    let no_search : search ≡ None = (alone refl).1 in
    rw (no_answer, no_search) refl

-- ---- the look of a claim that wasn't given

taken-shown : (items : List Seen) (run : Option Run) (taken : Option Look) (wish : Wish) (given : Option ClaimAt) → taken ≡ taken_in given → (IsSome taken → wished_run wish ≡ run) → ShownGiven run given items
    → AllByRecursion (IsHeldThere items) (taken_if wish taken)
taken-shown items run None wish given is asks shown = tt
taken-shown items run (Some look) Nothing given is asks shown = tt
taken-shown items run (Some look) (Search count word) given is asks shown = tt
taken-shown items run (Some look) (At at_run otherwise) None is asks shown = cc
taken-shown items run (Some look) (At at_run otherwise) (Some (at.Claimed move frames)) is asks shown = cc
taken-shown items run (Some look) (At at_run otherwise) (Some (at.Taken other)) is asks shown =
    let same : look ≡ other = cc in
    let Shown : Option Run → Type 0 = λ r. ShownGiven r (Some (at.Taken other)) items in
    let Held : Look → Type 0 = λ l. IsHeldIn items at_run l in
    (subst Held (sym same) (subst Shown (sym (asks refl)) shown), tt)

-- ---- a whole call

module _ {B A : Type 0} (g : broker.Ghosts B A) (old new : B) (before after : List ℕ) (trace : Trace) (is : IsTrace g old new before after trace) where
  abbrev more : List ZoneMove
  more = moves_given trace.given ++ (moves_asked trace.word trace.answer ++ moves_released trace.release)

  abbrev names : List Named
  names = names_given trace.given ++ (names_asked trace.looks trace.answer ++ names_released trace.release)

  abbrev Shown : List Seen → Type 0
  Shown items = ShownGiven trace.run trace.given items × (ShownAsked trace.count trace.word trace.looks items × ShownNothing items)

  pub whole : IsPart g old new before after more names Shown
  whole =
      let between = held_given before trace.given in
      let later = held_after between trace.own trace.answer in
      part-then g old is.asked new before between after (moves_given trace.given) (moves_asked trace.word trace.answer ++ moves_released trace.release)
      (names_given trace.given) (names_asked trace.looks trace.answer ++ names_released trace.release)
      (ShownGiven trace.run trace.given) (λ items. ShownAsked trace.count trace.word trace.looks items × ShownNothing items)
      (part-asked_at g old is.asked before trace.run trace.given is.first)
      (part-then g is.asked is.searched new between later after (moves_asked trace.word trace.answer) (moves_released trace.release)
      (names_asked trace.looks trace.answer) (names_released trace.release) (ShownAsked trace.count trace.word trace.looks) ShownNothing
      (part-asked g is.asked is.searched between trace.own trace.count trace.word trace.looks trace.answer is.second)
      (part-left g is.searched new later after trace.release is.third))

  unasked : trace.own ≡ true → (trace.looks ≡ []) × (trace.answer ≡ None)
  unasked own =
      let Asked : Bool → Type 0 = λ b. IsAsked g b is.asked is.searched trace.count trace.word trace.looks trace.answer in
      let none = subst Asked own is.second in (none.1, none.2)

  module _ (rules : Rules) (state : State) (entry : CallEntry) (entered : IsEntered rules state entry trace) where
    by-word : IsSome (claim_in trace.answer) → search_word rules entry ≡ Some trace.word
    by-word some = ⊎_elim
        (λ (own : trace.own ≡ true). let none = ap (λ a. is_some (claim_in a)) (unasked own).1 in absurd (false≢true (sym none ∙ some)))
        (λ (own : trace.own ≡ false). entered.word own)
        (cases_Bool trace.own)

    pub names-are : named_in (Call entry) ≡ names
    names-are =
        let taken = entered.taken in
        let looks = entered.looks in
        let claim = entered.claim in
        let release = entered.release in
        rw (taken, looks, claim, release) (sym (names-whole trace.given trace.looks trace.answer trace.release (λ some. unasked (is.once some))))

    pub moves-are : moves_of_call rules 0 entry ≡ more
    moves-are =
        let search = search_word rules entry in
        ap (λ moves. map (λ move. claimed move search) (option_to_list moves) ++ map released (option_to_list entry.release)) entered.claim
        ∙ ap (λ moves. map (λ move. claimed move search) (option_to_list (claim_of trace.given trace.answer)) ++ map released (option_to_list moves)) entered.release
        ∙ sym (moves-whole trace.given trace.answer trace.release trace.word search by-word (λ some. ((unasked (is.once some)).1, entered.no_word some)))

    full-looks : (items : List Seen) → ShownAsked trace.count trace.word trace.looks items → HasFullLooks rules items (Call entry)
    full-looks items shown =
        let By : Option ℕ → ℕ → List Look → Type 0 = λ search n looks. AllByRecursion (λ look. IsSomeAnd search (λ word. IsFullIn items n word look)) looks in
        let search = search_word rules entry in
        let n = pages_sought rules entry.op in
        subst (λ looks. By search n looks) (sym entered.looks)
        (⊎_elim
        (λ (own : trace.own ≡ true). subst (λ looks. By search n looks) (sym (unasked own).0) tt)
        (λ (own : trace.own ≡ false). subst (λ s. By s n trace.looks) (sym (entered.word own)) (subst (λ k. By (Some trace.word) k trace.looks) (sym (entered.pages own)) shown))
        (cases_Bool trace.own))

    pub adds-traced : AddsEntry g rules entry old new
    adds-traced moves sight made =
        let a = whole.adds moves sight made in (
          a.items,
          subst (λ ms. g.made new (moves ++ ms) (sight ++ a.items)) (sym moves-are) (a.leads).made,
          subst (AllByRecursion (ShowsMove sight a.items)) (sym moves-are) a.shows,
          record {
            seen = subst (AllByRecursion (IsSeenName a.items)) (sym names-are) a.seen;
            next = subst (AllByRecursion (IsNext sight)) (sym names-are) a.next;
            full = full-looks a.items a.shown.1.0;
          },
        )

    -- the broker goes on with the pool
    pub backed-traced : (entries : List Entry) → state ≡ state_of rules entries → IsBacked g rules before entries old → IsBacked g rules after (entries ++ Call entry ∷ []) new
    backed-traced entries state_is backed =
        let moves : List ZoneMove = moves_of rules 0 entries in
        let so_far : List Named = flat_map named_in entries in
        let longer : List Entry = entries ++ Call entry ∷ [] in
        let a = whole.adds moves backed.sight backed.made in
        let seen : List Seen = backed.sight ++ a.items in
        let earlier : Wider backed.sight seen = Contains-append_left backed.sight a.items in
        let here : Wider a.items seen = Contains-append_right backed.sight a.items in
        let moved : moves_of rules 0 longer ≡ moves ++ more = moves_of-push rules 0 entries (Call entry) ∙ ap (λ ms. moves ++ ms) moves-are in
        let told : flat_map named_in longer ≡ so_far ++ names =
        flat_map-append named_in entries (Call entry ∷ []) ∙ ap (λ all. so_far ++ all) (append-nil (named_in (Call entry)) ∙ names-are) in
        let asked : List TakenLook = taken_if (wish_of rules state entry.op) entry.taken in
        let looked : taken_of rules longer ≡ taken_of rules entries ++ asked = taken_of-push rules entries (Call entry) ∙ ap (λ s. taken_of rules entries ++ taken_if (wish_of rules s entry.op) entry.taken) (sym state_is) in
        let Leads_to : List ZoneMove → Type 0 = λ ms. Leads g new before after moves backed.sight ms seen in
        let leads = subst Leads_to (sym moved) a.leads in
        record {
          zones = ap g.zones (whole.same).arena ∙ backed.zones;
          sight = seen;
          made = leads.made;
          has = leads.has backed.moves backed.has;
          moves = leads.moves_seen backed.moves;
          named = subst (AllByRecursion (IsSeenName seen)) (sym told)
              (all-append (IsSeenName seen) so_far names
              (all-weaker (IsSeenName backed.sight) (IsSeenName seen) so_far (λ named. seen-wider backed.sight seen earlier named.zone named.version) backed.named)
              (all-weaker (IsSeenName a.items) (IsSeenName seen) names (λ named. seen-wider a.items seen here named.zone named.version) a.seen));
          looks = all-append (HasFullLooks rules seen) entries (Call entry ∷ [])
              (all-weaker (HasFullLooks rules backed.sight) (HasFullLooks rules seen) entries (full-looks-wider backed.sight seen earlier rules) backed.looks)
              (full-looks-wider a.items seen here rules (Call entry) (full-looks a.items a.shown.1.0), tt);
          taken = subst (AllByRecursion (IsHeldThere seen)) (sym looked)
              (all-append (IsHeldThere seen) (taken_of rules entries) asked
              (all-weaker (IsHeldThere backed.sight) (IsHeldThere seen) (taken_of rules entries) (λ taken. held-wider backed.sight seen earlier taken.run taken.look) backed.taken)
              (all-weaker (IsHeldThere a.items) (IsHeldThere seen) asked (λ taken. held-wider a.items seen here taken.run taken.look)
              (taken-shown a.items trace.run entry.taken (wish_of rules state entry.op) trace.given entered.taken entered.run a.shown.0)));
          rising = subst Rises (sym told) (Rises-append backed.sight so_far names backed.rising backed.named a.rises a.next);
        }

-- ---- of a core

-- a call that asked for this was entered
pub record IsTraced {B A : Type 0} (g : broker.Ghosts B A) (old new : Core) (before after : B) (entry : CallEntry) (trace : Trace) : Type 0 where
  pub added : new.journal.items ≡ old.journal.items ++ Call entry ∷ []
  pub is : IsTrace g before after (core_state old).held (core_state new).held trace
  pub entered : IsEntered (rules_in old.state) (core_state old) entry trace

-- a call that let a run go at most
abbrev pub left_trace : Option Move → Trace
left_trace release = record { run = None; given = None; own = true; count = 0; word = 0; looks = []; answer = None; release = release }

-- one that searched at most
abbrev pub searched_trace : Bool → ℕ → ℕ → List Look → Option Claim → Trace
searched_trace own n word looks answer = record { run = None; given = None; own = own; count = n; word = word; looks = looks; answer = answer; release = None }

module _ {B A : Type 0} (g : broker.Ghosts B A) (old new : Core) where
  pub core-backed : (before after : B) (entry : CallEntry) (trace : Trace) → IsTraced g old new before after entry trace → rules_in new.state ≡ rules_in old.state → IsBackedCore g old before → IsBackedCore g new after
  core-backed before after entry trace traced rules backed =
      let Backed : Rules → List Entry → Type 0 = λ r es. IsBacked g r (core_state new).held es after in
      subst (λ r. Backed r new.journal.items) (sym rules)
      (subst (Backed (rules_in old.state)) (sym traced.added)
      (backed-traced g before after (core_state old).held (core_state new).held trace traced.is (rules_in old.state) (core_state old) entry traced.entered old.journal.items refl backed))

  pub left-traced : (before after : B) (who : Who) (op : Op) (reply : Reply) (words : List ℕ) (release : Option Move) → new.journal.items ≡ old.journal.items ++ Call (unasked_entry who op reply words release) ∷ []
      → IsLeft g before after (core_state old).held (core_state new).held release → IsTraced g old new before after (unasked_entry who op reply words release) (left_trace release)
  left-traced before after who op reply words release added left = record {
    added = added;
    is = record { asked = before; searched = before; first = (refl, refl); second = (refl, refl, refl); third = left; once = λ some. absurd (false≢true some) };
    entered = record {
      taken = refl;
      looks = refl;
      claim = refl;
      release = refl;
      word = λ unowned. absurd (true≢false unowned);
      pages = λ unowned. absurd (true≢false unowned);
      no_word = λ some. absurd (false≢true some);
      run = λ some. absurd (false≢true some);
    };
  }

  pub quiet-traced : (b : B) (who : Who) (op : Op) (reply : Reply) (quiet : IsQuiet old new who op reply) → IsTraced g old new b b (unasked_entry who op reply quiet.words None) (left_trace None)
  quiet-traced b who op reply quiet = left-traced b b who op reply quiet.words None quiet.added (refl, quiet.held)

  pub searched-traced : (before after : B) (entry : CallEntry) → new.journal.items ≡ old.journal.items ++ Call entry ∷ [] → entry.taken ≡ None → entry.release ≡ None
      → (own : Bool) (n word : ℕ) (answer : Option Claim) → entry.claim ≡ claim_in answer → search_word (rules_in old.state) entry ≡ Some word → pages_sought (rules_in old.state) entry.op ≡ n
      → IsAsked g own before after n word entry.looks answer → (core_state new).held ≡ held_after (core_state old).held own answer → IsTraced g old new before after entry (searched_trace own n word entry.looks answer)
  searched-traced before after entry added taken release own n word answer claim by pages asked held = record {
    added = added;
    is = record { asked = before; searched = after; first = (refl, refl); second = asked; third = (refl, held); once = λ some. absurd (false≢true some) };
    entered = record {
      taken = taken;
      looks = refl;
      claim = claim;
      release = release;
      word = λ unowned. by;
      pages = λ unowned. pages;
      no_word = λ some. absurd (false≢true some);
      run = λ some. absurd (false≢true (sym (ap is_some taken) ∙ some));
    };
  }
