-- A split keeps the rule.
use Rattle.std.proofs.Common.{◌≡◌, ◌≢◌, ℕ, ◌+◌, ◌<◌, ◌≤◌, Bool, inl, inr, ⊎_elim, List, [], ◌∷◌, ◌++◌, length, set, Option, refl, sym, ap, subst, ◌∙◌, arith, length-append}
use Rattle.std.specs.List.{Contains}
use mathlib.Core.Logic.{dite}
use mathlib.Core.Option.{some, some-injective}
use native.Mathlib.Decide.{ℕ_discrete}
use lib.ListN.{get_elem?}
use Rattle.atomic_table.specs.Table.{State, Splits}
use Rattle.atomic_table.proofs.Lists.{at_snoc, at_longer, set_else}
use Rattle.om_turn.specs.Entries.{once, total, times, times_at, mark}
use Rattle.om_turn.specs.Views.{out_at, parted, part}
use Rattle.om_turn.specs.Rule.{Issued, Knows, Kept}
use Rattle.om_turn.specs.declared.view.View.{View}
use Rattle.om_turn.specs.declared.view.Stage.TheVariants.{Spent, Outside, Served}
use Rattle.om_turn.proofs.Counts.{set_at, within, total_push, total-set, total_zero, times_out, none_in, new_is, new_most, new_other, at_front}
use Rattle.om_turn.proofs.Changes.{each_set, issued_set, issued_push, fresh, same_view}

module _ {S E N : Type 0} (stands_for : S → List E → Type 0) (name : S → N) (common : E → Bool) (marks_of : E → List ℕ) (first : S) (turns : ℕ) where
  abbrev R : State (Option S) (View E) → Type 0
  R = Kept stands_for name common marks_of first turns

  module _ (s : State (Option S) (View E)) (r : R s) (id : ℕ) (v : View E) (at : get_elem? s.views id ≡ some v) (out : v.stage ≡ Outside) (n : ℕ) (enough : n ≤ v.left) where
    abbrev l : View E
    l = parted n v

    abbrev w : View E
    w = part id n v

    abbrev vs : List (View E)
    vs = set s.views id l ++ w ∷ []

    sure : Knows common marks_of turns r.serving r.journal s.homes v
    sure = r.each id v at

    live : v.stage ≢ Spent
    live = λ h. cc

    -- a sum over the views afterwards
    summed : (f : View E → ℕ) → total f vs + f v ≡ total f s.views + f l + f w
    summed f = let a = total-set f s.views id v l at in let b = total_push f (set s.views id l) w in omega arith

    -- what holds of each view but the two, and of the two
    each_of : (K : View E → Type 0) → K l → K w → ((j : ℕ) (u : View E) → get_elem? s.views j ≡ some u → K u) → (j : ℕ) (u : View E) → get_elem? vs j ≡ some u → K u
    each_of K mine new old j u e = ⊎_elim (λ h. each_set (λ _ x. K x) s.views id l mine (λ i x _ there. old i x there) j u h) (λ (same : w ≡ u). subst K same new) (at_snoc (set s.views id l) w u j e)

    still : (m : ℕ) → Issued s.views m → Issued vs m
    still m i = issued_push (set s.views id l) w m (issued_set s.views id v l at live (λ _. omega arith) m i)

    new_issued : (m : ℕ) → Contains w.marks m → Issued vs m
    new_issued m c = let inside : id < length (set s.views id l) = within id (set s.views id l) l (set_at s.views id v l at) in inr (
      id,
      v.splits,
      new_is id v.splits n m c,
      omega (arith, length-append (set s.views id l) (w ∷ [])),
      λ u e alive. let same : l ≡ u = some-injective l u (sym (set_at s.views id v l at) ∙ (sym (at_front (set s.views id l) (w ∷ []) id inside) ∙ e)) in let is : l.splits ≡ u.splits = ap (λ (x : View E). x.splits) same in omega arith,
    )

    not_before : ¬ Issued s.views (mark id v.splits)
    not_before = fresh s.views id v at live

    apart : (m : ℕ) → total (λ (u : View E). times m u.marks) vs ≤ 1
    apart m = let e = summed (λ (u : View E). times m u.marks) in dite (ℕ_discrete m (mark id v.splits))
        (λ is. let none_old = total_zero (λ (u : View E). times m u.marks) s.views (λ j u there. times_out m u.marks (λ c. not_before (subst (λ (k : ℕ). Issued s.views k) is (r.view_marks j m u there c)))) in
        let a = new_most id v.splits n m in omega arith)
        (λ other. let a = new_other id v.splits n m other in let b = r.apart m in omega arith)

    other : (j : ℕ) (u : View E) → get_elem? s.views j ≡ some u → u.stage ≡ Served → j ≢ id
    other j u there st is = let same : v ≡ u = same_view s.views id j v u at there is in let st' = ap (λ (x : View E). x.stage) same in cc

    splits_at : R record { words = s.words; homes = s.homes; views = vs }
    splits_at = record {
      ticket = r.ticket;
      serving = r.serving;
      journal = r.journal;
      words = r.words;
      queue = r.queue;
      small = r.small;
      left = let e = summed (λ (u : View E). u.left) in let o = r.left in omega arith;
      taken = let e = summed (λ (u : View E). u.taken) in let o = r.taken in omega arith;
      tickets = λ t. let e = summed (λ (u : View E). out_at u.stage u.ticket t) in let o = r.tickets t in omega arith;
      places = λ k. let e = summed (λ (u : View E). times_at k u.held) in let o = r.places k in omega arith;
      short = r.short;
      apart = apart;
      one_chief = let e = summed (λ (u : View E). once u.chief) in let o = r.one_chief in omega arith;
      view_marks = λ j m u e c. each_of (λ x. Contains x.marks m → Issued vs m) (λ d. still m (r.view_marks id m v at d)) (new_issued m) (λ i x there d. still m (r.view_marks i m x there d)) j u e c;
      entry_marks = λ k m e h c. still m (r.entry_marks k m e h c);
      each = each_of (λ x. Knows common marks_of turns r.serving r.journal s.homes x)
          record {
            share = sure.share;
            seen = sure.seen;
            also = sure.also;
            held = sure.held;
            busy = sure.busy;
            served = sure.served;
            chief = sure.chief;
            marks = sure.marks;
            spent = λ h. absurd (live h);
          }
          record {
            share = λ _. sure.share live;
            seen = sure.seen;
            also = (r.journal, refl);
            held = λ k e c. absurd (none_in (k, e) c);
            busy = omega arith;
            served = λ h. cc;
            chief = λ h. cc;
            marks = λ m c k e h b. absurd (not_before (subst (λ (x : ℕ). Issued s.views x) (new_is id v.splits n m c) (r.entry_marks k m e h b)));
            spent = λ h. cc;
          }
          r.each;
      home = ⊎_elim inl (λ t. inr (t.0, (t.1.0, t.1.1, at_longer (set s.views id l) (w ∷ []) t.1.0 t.1.1 (set_else s.views id t.1.0 l (other t.1.0 t.1.1 t.1.2 t.1.3) ∙ t.1.2), t.1.3))) r.home;
    }

  splits_there : (id seat n : ℕ) (v : View E) → seat ≡ id → v.stage ≡ Outside → n ≤ v.left → Splits R id v (parted n v) (part seat n v)
  splits_there id seat n v is out enough s r at = subst (λ (z : ℕ). R record { words = s.words; homes = s.homes; views = set s.views id (parted n v) ++ part z n v ∷ [] }) (sym is) (splits_at s r id v at out n enough)

  pub splits : (id seat n m : ℕ) (v : View E) → seat ≡ id → v.stage ≡ Outside → n ≤ v.left → m ≡ n → Splits R id v (parted m v) (part seat m v)
  splits id seat n m v is out enough same = subst (λ (k : ℕ). Splits R id v (parted k v) (part seat k v)) (sym same) (splits_there id seat n v is out enough)
