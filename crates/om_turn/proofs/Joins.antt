-- A join and the load after it keep the rule.
use Rattle.std.proofs.Common.{◌≡◌, ◌≢◌, ℕ, ◌+◌, ◌==◌, Bool, inl, inr, ⊎_elim, List, get_or, set, Option, refl, sym, ap, ◌∙◌, arith, length-append}
use Rattle.std.specs.List.{Contains}
use Rattle.std.proofs.lemmas.List.Elements.{Contains-append_left, Contains-append_right, Contains-append_cases}
use mathlib.Core.Option.{some, none}
use lib.ListN.{get_elem?}
use lib.Seq.{set-get_or}
use Rattle.atomic_table.specs.Table.{State, Me, step, keeps, Allows, Joins}
use Rattle.atomic_table.proofs.Lists.{set_else}
use Rattle.om_turn.specs.Entries.{once, total, times, times_at}
use Rattle.om_turn.specs.Views.{out_at, joined, spent_view, settled}
use Rattle.om_turn.specs.Rule.{Issued, Knows, Kept}
use Rattle.om_turn.specs.Steps.{told}
use Rattle.om_turn.specs.declared.view.View.{View}
use Rattle.om_turn.specs.declared.view.Stage.{Stage}
use Rattle.om_turn.specs.declared.view.Stage.TheVariants.{Spent, Outside, Served}
use Rattle.om_turn.proofs.Counts.{total-append, total-set, part_of_total, none_in, prefix_same, once_or, or_cases}
use Rattle.om_turn.proofs.Changes.{each_set, issued_set, same_view, changed, whole_holds, stays_home}

module _ {S E N : Type 0} (stands_for : S → List E → Type 0) (name : S → N) (common : E → Bool) (marks_of : E → List ℕ) (first : S) (turns : ℕ) where
  abbrev R : State (Option S) (View E) → Type 0
  R = Kept stands_for name common marks_of first turns

  module _ (s : State (Option S) (View E)) (r : R s) (id : ℕ) (v : View E) (at : get_elem? s.views id ≡ some v) (out : v.stage ≡ Outside) (id' : ℕ) (w : View E) (apart : ¬ (id' ≡ id)) (at' : get_elem? (set s.views id (joined v w)) id' ≡ some w) (out' : w.stage ≡ Outside) where
    abbrev both : View E
    both = joined v w

    abbrev mid : List (View E)
    mid = set s.views id both

    abbrev vs : List (View E)
    vs = set mid id' spent_view

    there : get_elem? s.views id' ≡ some w
    there = sym (set_else s.views id id' both apart) ∙ at'

    sure : Knows common marks_of turns r.serving r.journal s.homes v
    sure = r.each id v at

    sure' : Knows common marks_of turns r.serving r.journal s.homes w
    sure' = r.each id' w there

    live : v.stage ≢ Spent
    live = λ h. cc

    live' : w.stage ≢ Spent
    live' = λ h. cc

    -- a sum over the views afterwards
    summed : (f : View E → ℕ) → (total f vs + f v) + f w ≡ (total f s.views + f both) + f spent_view
    summed f = let a = total-set f s.views id v both at in let b = total-set f mid id' w spent_view at' in omega arith

    each_of : (K : View E → Type 0) → K both → K spent_view → ((j : ℕ) (u : View E) → get_elem? s.views j ≡ some u → K u) → (j : ℕ) (u : View E) → get_elem? vs j ≡ some u → K u
    each_of K mine gone old j u e = each_set (λ _ x. K x) mid id' spent_view gone (λ i x _ e'. each_set (λ _ y. K y) s.views id both mine (λ k y _ e''. old k y e'') i x e') j u e

    still : (m : ℕ) → Issued s.views m → Issued vs m
    still m i = issued_set mid id' w spent_view at' live' (λ h. absurd (h refl)) m (issued_set s.views id v both at live (λ _. omega arith) m i)

    not_out : (j : ℕ) (u : View E) → get_elem? s.views j ≡ some u → u.stage ≡ Served → get_elem? vs j ≡ some u
    not_out j u e st =
        let a : j ≢ id = λ is. let same : v ≡ u = same_view s.views id j v u at e is in let st' = ap (λ (x : View E). x.stage) same in cc in
        let b : j ≢ id' = λ is. let same : w ≡ u = same_view s.views id' j w u there e is in let st' = ap (λ (x : View E). x.stage) same in cc in
        set_else mid id' j spent_view b ∙ (set_else s.views id j both a ∙ e)

    none_out : (t : ℕ) → out_at v.stage v.ticket t + out_at w.stage w.ticket t ≡ 0
    none_out t = let a : out_at v.stage v.ticket t ≡ 0 = ap (λ (st : Stage). out_at st v.ticket t) out in let b : out_at w.stage w.ticket t ≡ 0 = ap (λ (st : Stage). out_at st w.ticket t) out' in omega arith

    joins_at : R record { words = s.words; homes = s.homes; views = vs }
    joins_at = record {
      ticket = r.ticket;
      serving = r.serving;
      journal = r.journal;
      words = r.words;
      queue = r.queue;
      small = r.small;
      left = let e = summed (λ (u : View E). u.left) in let o = r.left in omega arith;
      taken = let e = summed (λ (u : View E). u.taken) in let o = r.taken in omega arith;
      tickets = λ t. let e = summed (λ (u : View E). out_at u.stage u.ticket t) in let o = r.tickets t in let n = none_out t in omega arith;
      places = λ k. let e = summed (λ (u : View E). times_at k u.held) in let o = r.places k in
          let a : times_at k both.held ≡ times_at k v.held + times_at k w.held = total-append (λ (p : ℕ × E). once (p.0 == k)) v.held w.held in omega arith;
      short = r.short;
      apart = λ m. let e = summed (λ (u : View E). times m u.marks) in let o = r.apart m in
          let a : times m both.marks ≡ times m v.marks + times m w.marks = total-append (λ (x : ℕ). once (x == m)) v.marks w.marks in omega arith;
      one_chief = let e = summed (λ (u : View E). once u.chief) in let o = r.one_chief in let a = once_or v.chief w.chief in omega arith;
      view_marks = λ j m u e c. still m (each_of (λ x. Contains x.marks m → Issued s.views m)
          (λ d. ⊎_elim (λ a. r.view_marks id m v at a) (λ b. r.view_marks id' m w there b) (Contains-append_cases v.marks w.marks m d)) (λ d. absurd (none_in m d)) (λ i x e' d. r.view_marks i m x e' d) j u e c);
      entry_marks = λ k m e h c. still m (r.entry_marks k m e h c);
      each = each_of (λ x. Knows common marks_of turns r.serving r.journal s.homes x)
          record {
            share = λ _. sure.share live;
            seen = sure.seen;
            also = sure'.seen;
            held = λ k e c. ⊎_elim (λ a. sure.held k e a) (λ b. sure'.held k e b) (Contains-append_cases v.held w.held (k, e) c);
            busy = let a = sure.busy in let b = sure'.busy in omega (arith, length-append v.held w.held);
            served = λ h. cc;
            chief = λ c k e h other. ⊎_elim (λ a. Contains-append_left v.held w.held (k, e) (sure.chief a k e h other)) (λ b. Contains-append_right v.held w.held (k, e) (sure'.chief b k e h other)) (or_cases v.chief w.chief c);
            marks = λ m c k e h d. ⊎_elim (λ a. Contains-append_left v.held w.held (k, e) (sure.marks m a k e h d)) (λ b. Contains-append_right v.held w.held (k, e) (sure'.marks m b k e h d)) (Contains-append_cases v.marks w.marks m c);
            spent = λ h. cc;
          }
          record {
            share = λ h. absurd (h refl);
            seen = (r.journal, refl);
            also = (r.journal, refl);
            held = λ k e c. absurd (none_in (k, e) c);
            busy = omega arith;
            served = λ h. cc;
            chief = λ h. cc;
            marks = λ m c k e h d. absurd (none_in m c);
            spent = λ h. refl;
          }
          r.each;
      home = ⊎_elim inl (λ t. inr (t.0, (t.1.0, t.1.1, not_out t.1.0 t.1.1 t.1.2 t.1.3, t.1.3))) r.home;
    }

  pub joins : (id id' : ℕ) (v w : View E) → v.stage ≡ Outside → w.stage ≡ Outside → Joins R id v id' w (joined v w) spent_view
  joins id id' v w out out' s r at apart at' = joins_at s r id v at out id' w apart at' out'

  pub tells : (slots id : ℕ) (me : Me (Option S) (View E)) → me.0.stage ≡ Outside → Allows R slots id me 1 (λ n. n) (told (step slots 1 0 0 none) me)
  tells slots id me out s r len at small =
      let v : View E = me.0 in let sure = r.each id v at in let live : v.stage ≢ Spent = λ h. cc in let w : View E = settled r.journal v in (
        w,
        keeps,
        tt,
        changed stands_for name common marks_of first turns s r id v w (set s.words 1 (get_or s.words 1 0)) s.homes r.ticket at live (set-get_or s.words 1 0 ∙ r.words) r.queue
            record { held = refl; marks = refl; splits = refl; chief = refl } refl refl (λ t. refl) (λ j u _ _ k. k)
            record {
              share = sure.share;
              seen = prefix_same r.journal;
              also = (r.journal, refl);
              held = sure.held;
              busy = sure.busy;
              served = λ h. cc;
              chief = sure.chief;
              marks = sure.marks;
              spent = λ h. absurd (live h);
            }
            (stays_home stands_for name common marks_of first turns s r id v at w (λ h. cc)),
        (
          (r.journal, refl),
          sure.seen,
          sure.also,
          (let a = part_of_total (λ (x : View E). x.left) s.views id v at in let b = r.left in let z = r.small in omega arith),
          (λ k. let a = part_of_total (λ (x : View E). times k x.marks) s.views id v at in let b = r.apart k in omega arith),
          (λ is. whole_holds stands_for name common marks_of first turns s r id v at live is),
        ),
      )
