-- How the rule goes over to a table in which one view has changed.
use Rattle.std.proofs.Common.{◌≡◌, ◌≢◌, ℕ, ◌+◌, ◌<◌, ◌≤◌, Bool, inl, inr, ⊎_elim, List, [], ◌∷◌, ◌++◌, length, get_or, set, Option, Some, refl, sym, ap, subst, ◌∙◌, arith, length-set, length-append}
use Rattle.std.specs.List.{slice_get, Contains}
use mathlib.Core.Logic.{dite}
use mathlib.Core.Option.{some, none, some-injective}
use mathlib.Core.Option as maybe
use native.Mathlib.Decide.{ℕ_discrete}
use lib.ListN.{get_elem?}
use lib.Seq.{set-get_or}
use Rattle.atomic_table.specs.Table.{State, Me, keeps, rest, stepped}
use Rattle.atomic_table.proofs.Lists.{at_set, set_again, set_else}
use Rattle.om_turn.specs.Entries.{once, below, times, times_at, mark}
use Rattle.om_turn.specs.Views.{out_at, IsWhole}
use Rattle.om_turn.specs.Rule.{Issued, Knows, IsHome, Kept}
use Rattle.om_turn.specs.declared.view.View.{View}
use Rattle.om_turn.specs.declared.view.Stage.{Stage}
use Rattle.om_turn.specs.declared.view.Stage.TheVariants.{Spent, Waiting, Served}
use Rattle.om_turn.proofs.Counts.{total-set, part_of_total, two_of_total, whole_total, in_range, held_at, none_held, get_within, below_in, below_most, at_front, once_same, mark_once, mark_positive}

pub each_set : {A : Type 0} (K : ℕ → A → Type 0) (xs : List A) (i : ℕ) (y : A) → K i y → ((j : ℕ) (x : A) → j ≢ i → get_elem? xs j ≡ some x → K j x) → (j : ℕ) (x : A) → get_elem? (set xs i y) j ≡ some x → K j x
each_set K xs i y here else j x e = ⊎_elim (λ (t : (j ≡ i) × (y ≡ x)). subst (λ (z : ℕ × _). K z.0 z.1) (λ k. (sym t.0 k, t.1 k)) here) (λ (t : (j ≢ i) × (get_elem? xs j ≡ some x)). else j x t.0 t.1) (at_set xs i j y x e)

pub issued_set : {E : Type 0} (vs : List (View E)) (id : ℕ) (v w : View E) → get_elem? vs id ≡ some v → v.stage ≢ Spent → (w.stage ≢ Spent → v.splits ≤ w.splits) → (m : ℕ) → Issued vs m → Issued (set vs id w) m
issued_set vs id v w at live more m (inl z) = inl z
issued_set vs id v w at live more m (inr t) = inr (
  t.0,
  t.1,
  t.2,
  (let l = t.3 in omega (arith, length-set vs id w)),
  λ u e alive. each_set (λ j x. j ≡ t.0 → x.stage ≢ Spent → t.1 < x.splits) vs id w
      (λ is a. let old = t.4 v (subst (λ (z : ℕ). get_elem? vs z ≡ some v) is at) live in let l = more a in omega arith)
      (λ j x other there is a. t.4 x (subst (λ (z : ℕ). get_elem? vs z ≡ some x) is there) a) t.0 u e refl alive,
)

pub issued_push : {E : Type 0} (vs : List (View E)) (w : View E) (m : ℕ) → Issued vs m → Issued (vs ++ w ∷ []) m
issued_push vs w m (inl z) = inl z
issued_push vs w m (inr t) = inr (
  t.0,
  t.1,
  t.2,
  (let l = t.3 in omega (arith, length-append vs (w ∷ []))),
  λ u e alive. t.4 u (sym (at_front vs (w ∷ []) t.0 t.3) ∙ e) alive,
)

-- the next mark that a pass gives was not given before
pub fresh : {E : Type 0} (vs : List (View E)) (id : ℕ) (v : View E) → get_elem? vs id ≡ some v → v.stage ≢ Spent → ¬ Issued vs (mark id v.splits)
fresh vs id v at live (inl z) = let p = mark_positive id v.splits in omega arith
fresh vs id v at live (inr t) = let same = mark_once id v.splits t.0 t.1 t.2 in let less = t.4 v (subst (λ (z : ℕ). get_elem? vs z ≡ some v) same.0 at) live in let eq = same.1 in omega arith

pub same_view : {A : Type 0} (xs : List A) (i j : ℕ) (x y : A) → get_elem? xs i ≡ some x → get_elem? xs j ≡ some y → j ≡ i → x ≡ y
same_view xs i j x y at there is = some-injective x y (sym at ∙ (ap (λ (k : ℕ). get_elem? xs k) (sym is) ∙ there))

pub stage_of : {T E : Type 0} (m : Me T (View E)) (v : View E) (cs : List (ℕ × T)) (st : Stage) → m ≡ (v, cs) → v.stage ≡ st → m.0.stage ≡ st
stage_of {T} {E} m v cs st is at = ap (λ (x : Me T (View E)). x.0.stage) is ∙ at

pub slots_of : {T E : Type 0} (m : Me T (View E)) (v : View E) (cs : List (ℕ × T)) → m ≡ (v, cs) → m.1 ≡ cs
slots_of {T} {E} m v cs is = ap (λ (x : Me T (View E)). x.1) is

pub view_of : {T E : Type 0} (m : Me T (View E)) (v : View E) (cs : List (ℕ × T)) → m ≡ (v, cs) → m.0 ≡ v
view_of {T} {E} m v cs is = ap (λ (x : Me T (View E)). x.0) is

pub takes_slot : {T : Type 0} (cs ds : List (ℕ × T)) (k : ℕ) (x : T) → cs ≡ (k, x) ∷ ds → cs ≡ (k, x) ∷ rest cs
takes_slot {T} cs ds k x is = subst (λ (es : List (ℕ × T)). es ≡ (k, x) ∷ rest es) (sym is) refl

pub same_slot : {T : Type 0} (cs ds es : List (ℕ × T)) (k : ℕ) (x y : T) → cs ≡ (k, x) ∷ ds → cs ≡ (k, y) ∷ es → x ≡ y
same_slot {T} cs ds es k x y is at = let a : (k, x) ∷ ds ≡ (k, y) ∷ es = sym is ∙ at in let b : ◌≡◌ {A = ℕ × T} (k, x) (k, y) = cc in λ i. (b i).1

pub waits : {E : Type 0} {t : ℕ} (v : View E) → v.stage ≡ Waiting → v.ticket ≡ t → 1 ≤ out_at v.stage v.ticket t
waits {E} {t} v st is = subst (λ (x : Stage × ℕ). 1 ≤ out_at x.0 x.1 t) (λ k. (sym st k, sym is k)) (let o = once_same t in omega arith)

pub serves : {E : Type 0} {t : ℕ} (v : View E) → v.stage ≡ Served → v.ticket ≡ t → 1 ≤ out_at v.stage v.ticket t
serves {E} {t} v st is = subst (λ (x : Stage × ℕ). 1 ≤ out_at x.0 x.1 t) (λ k. (sym st k, sym is k)) (let o = once_same t in omega arith)

-- the two views differ in their turns, their stage and their sight alone
pub record IsAlike {E : Type 0} (v w : View E) : Type 0 where
  pub held : w.held ≡ v.held
  pub marks : w.marks ≡ v.marks
  pub splits : w.splits ≡ v.splits
  pub chief : w.chief ≡ v.chief

module _ {S E N : Type 0} (stands_for : S → List E → Type 0) (name : S → N) (common : E → Bool) (marks_of : E → List ℕ) (first : S) (turns : ℕ) where
  abbrev pub V : Type 0
  V = View E

  abbrev pub Homes : Type 0
  Homes = List (maybe.Option (Option S))

  abbrev pub St : Type 0
  St = State (Option S) V

  abbrev pub M : Type 0
  M = Me (Option S) V

  abbrev pub Rule : St → Type 0
  Rule = Kept stands_for name common marks_of first turns

  abbrev pub Sure : ℕ → List E → Homes → V → Type 0
  Sure = Knows common marks_of turns

  -- a step that changes nothing
  pub unmoved : (s : St) (i id : ℕ) (cs : List (ℕ × Option S)) (v : V) → get_elem? s.views id ≡ some v → Rule s → Rule (stepped s i (get_or s.words i 0) id cs v keeps)
  unmoved s i id cs v at r = let same : s ≡ record { words = set s.words i (get_or s.words i 0); homes = s.homes; views = set s.views id v } = λ k. record { words = sym (set-get_or s.words i 0) k; homes = s.homes; views = sym (set_again s.views id v at) k } in subst Rule same r

  -- a step that changes one view and adds no entry
  pub changed : (s : St) (r : Rule s) (id : ℕ) (v w : V) (ws : List ℕ) (hs : Homes) (ticket : ℕ) → get_elem? s.views id ≡ some v → v.stage ≢ Spent
      → ws ≡ ticket ∷ r.serving ∷ [] → r.serving ≤ ticket → IsAlike v w → w.left + ticket ≡ v.left + r.ticket → w.taken + r.ticket ≡ v.taken + ticket
      → ((t : ℕ) → out_at w.stage w.ticket t + below r.ticket t ≡ out_at v.stage v.ticket t + below ticket t)
      → ((j : ℕ) (u : V) → j ≢ id → get_elem? s.views j ≡ some u → Sure r.serving r.journal s.homes u → Sure r.serving r.journal hs u)
      → Sure r.serving r.journal hs w → IsHome stands_for name first r.journal hs (set s.views id w)
      → Rule record { words = ws; homes = hs; views = set s.views id w }
  changed s r id v w ws hs ticket at live words queue alike left taken tickets others mine home = record {
    ticket = ticket;
    serving = r.serving;
    journal = r.journal;
    words = words;
    queue = queue;
    small = r.small;
    left = let e = total-set (λ (u : V). u.left) s.views id v w at in let o = r.left in omega arith;
    taken = let e = total-set (λ (u : V). u.taken) s.views id v w at in let o = r.taken in omega arith;
    tickets = λ t. let e = total-set (λ (u : V). out_at u.stage u.ticket t) s.views id v w at in let o = r.tickets t in let q = tickets t in omega arith;
    places = λ k. let e = total-set (λ (u : V). times_at k u.held) s.views id v w at in let o = r.places k in let same : times_at k w.held ≡ times_at k v.held = ap (λ (z : List (ℕ × E)). times_at k z) alike.held in omega arith;
    short = r.short;
    apart = λ m. let e = total-set (λ (u : V). times m u.marks) s.views id v w at in let o = r.apart m in let same : times m w.marks ≡ times m v.marks = ap (λ (z : List ℕ). times m z) alike.marks in omega arith;
    one_chief = let e = total-set (λ (u : V). once u.chief) s.views id v w at in let o = r.one_chief in let same : once w.chief ≡ once v.chief = ap once alike.chief in omega arith;
    view_marks = λ j m u e c. issued_set s.views id v w at live (λ _. let z = alike.splits in omega arith) m
        (each_set (λ i x. Contains x.marks m → Issued s.views m) s.views id w (λ d. r.view_marks id m v at (subst (λ (z : List ℕ). Contains z m) alike.marks d)) (λ i x _ d. r.view_marks i m x d) j u e c);
    entry_marks = λ k m e h c. issued_set s.views id v w at live (λ _. let z = alike.splits in omega arith) m (r.entry_marks k m e h c);
    each = each_set (λ _ x. Sure r.serving r.journal hs x) s.views id w mine (λ j u n e. others j u n e (r.each j u e));
    home = home;
  }

  module _ (s : St) (r : Rule s) (id : ℕ) (v : V) (at : get_elem? s.views id ≡ some v) where
    -- where a view changes that isn't the served one, the value stays where it is
    pub stays_home : (w : V) → v.stage ≢ Served → IsHome stands_for name first r.journal s.homes (set s.views id w)
    stays_home w idle = ⊎_elim inl
        (λ t. let other : t.1.0 ≢ id = λ is. idle (ap (λ (x : V). x.stage) (same_view s.views id t.1.0 v t.1.1 at t.1.2 is) ∙ t.1.3) in
        inr (t.0, (t.1.0, t.1.1, set_else s.views id t.1.0 w other ∙ t.1.2, t.1.3))) r.home

    -- a pass with the whole share holds each entry
    pub whole_holds : v.stage ≢ Spent → IsWhole v → (k : ℕ) (e : E) → slice_get r.journal k ≡ Some e → Contains v.held (k, e)
    whole_holds live whole k e h = let sure = r.each id v at in
        let others : (j : ℕ) (u : V) → j ≢ id → get_elem? s.views j ≡ some u → times_at k u.held ≡ 0 = λ j u n d.
        let a = two_of_total (λ (x : V). x.left) s.views id j v u (λ z. n (sym z)) at d in let b = two_of_total (λ (x : V). x.taken) s.views id j v u (λ z. n (sym z)) at d in
        let busy = (r.each j u d).busy in let share = sure.share live in let l = r.left in let t = r.taken in none_held k u.held (omega arith) in
        let all = whole_total (λ (x : V). times_at k x.held) s.views id v at others in let place = r.places k in let within = below_in (length r.journal) k (get_within r.journal k e h) in
        let there = held_at k v.held (omega arith) in let same : Some there.0 ≡ Some e = sym (sure.held k there.0 there.1) ∙ h in let is : there.0 ≡ e = cc in
        subst (λ (z : E). Contains v.held (k, z)) is there.1

    -- a pass with a ticket out: its ticket was drawn and not served before
    pub out_within : (t : ℕ) → 1 ≤ out_at v.stage v.ticket t → (r.serving ≤ t) × (t < r.ticket)
    out_within t h = let a = part_of_total (λ (x : V). out_at x.stage x.ticket t) s.views id v at in let b = r.tickets t in in_range r.serving r.ticket t (omega arith)

    -- no other pass has the same ticket
    pub alone : (t : ℕ) → 1 ≤ out_at v.stage v.ticket t → (j : ℕ) (u : V) → get_elem? s.views j ≡ some u → 1 ≤ out_at u.stage u.ticket t → j ≡ id
    alone t h j u d g = dite (ℕ_discrete j id) (λ e. e) (λ n. let a = two_of_total (λ (x : V). out_at x.stage x.ticket t) s.views id j v u (λ z. n (sym z)) at d in let b = r.tickets t in let c = below_most r.ticket t in absurd (omega arith))
