-- The step pass on keeps the rule.
use Rattle.std.proofs.Common.{◌≡◌, ◌≢◌, ℕ, ◌+◌, ◌%◌, ◌^◌, ◌≤◌, ◌==◌, Bool, true, false, ◌⊎◌, inl, ⊎_elim, List, [], ◌∷◌, ◌++◌, length, get_or, set, Option, Some, refl, sym, ap, subst, ◌∙◌, arith}
use Rattle.std.specs.List.{slice_get, Contains}
use Rattle.std.proofs.lemmas.List.Elements.{Contains-append_left, Contains-append_right, Contains-append_cases}
use mathlib.Core.List.{IsPrefix}
use mathlib.Core.Option.{some, none, some-injective}
use mathlib.Core.Option as maybe
use lib.ListN.{get_elem?}
use Rattle.atomic_table.specs.Table.{State, Me, step, gives, Allows}
use Rattle.om_turn.specs.Entries.{once, times, times_at, listed, placed, Became}
use Rattle.om_turn.specs.Views.{in_turn, out_at, passed, IsWhole, HoldsAll, MayAdd}
use Rattle.om_turn.specs.Rule.{Issued, Knows, Kept}
use Rattle.om_turn.specs.Steps.{passed_on, passed_some, IsLawful}
use Rattle.om_turn.specs.declared.view.View.{View}
use Rattle.om_turn.specs.declared.view.Stage.{Stage}
use Rattle.om_turn.specs.declared.view.Stage.TheVariants.{Spent, Served}
use Rattle.om_turn.proofs.Counts.{below_next, total-append, total-set, two_of_total, times_in, get_longer, prefix_same, prefix_longer, placed_counts, listed_short, placed_short, get_listed, get_added, placed_has, placed_is}
use Rattle.om_turn.proofs.Changes.{each_set, issued_set, whole_holds, out_within, alone, serves}

module _ {S E N : Type 0} (stands_for : S → List E → Type 0) (name : S → N) (common : E → Bool) (marks_of : E → List ℕ) (first : S) (turns : ℕ) where
  abbrev R : State (Option S) (View E) → Type 0
  R = Kept stands_for name common marks_of first turns

  may_if : (v : View E) (added : Option E) (e : E) → MayAdd common marks_of v added → added ≡ Some e → ((m : ℕ) → Contains (marks_of e) m → Contains v.marks m) × ((v.chief ≡ true) ⊎ (common e ≡ true))
  may_if v added e may is = subst (λ (a : Option E). MayAdd common marks_of v a) is may

  module _ (s : State (Option S) (View E)) (r : R s) (id : ℕ) (v : View E) (at : get_elem? s.views id ≡ some v) (now : v.stage ≡ Served) (added : Option E) (may : MayAdd common marks_of v added) where
    -- the history with the entry
    abbrev log : List E
    log = r.journal ++ listed added

    abbrev w : View E
    w = passed added v

    abbrev back : S → List (maybe.Option (Option S))
    back x = set s.homes 0 (some (Some x))

    sure : Knows common marks_of turns r.serving r.journal s.homes v
    sure = r.each id v at

    served : (v.ticket ≡ r.serving) × (v.seen ≡ r.journal) × (s.homes ≡ none ∷ [])
    served = sure.served now

    length_is : length v.seen ≡ length r.journal
    length_is = ap (λ (xs : List E). length xs) served.1

    -- an entry of the new history that the pass has to hold
    held_new : (k : ℕ) (e : E) → slice_get log k ≡ Some e → (slice_get r.journal k ≡ Some e → Contains v.held (k, e)) → Contains w.held (k, e)
    held_new k e h old = ⊎_elim (λ o. Contains-append_left v.held (placed (length v.seen) added) (k, e) (old o))
        (λ t. let place : length v.seen ≡ k = length_is ∙ sym t.0 in subst (λ (n : ℕ). Contains w.held (n, e)) place (Contains-append_right v.held (placed (length v.seen) added) (length v.seen, e) (placed_has (length v.seen) added e t.1)))
        (get_listed r.journal added k e h)

    mine : (hs : List (maybe.Option (Option S))) → Knows common marks_of turns (r.serving + 1) log hs w
    mine hs = record {
      share = λ _. sure.share (λ h. cc);
      seen = subst (λ (xs : List E). IsPrefix (v.seen ++ listed added) (xs ++ listed added)) served.1 (prefix_same (v.seen ++ listed added));
      also = prefix_longer v.also r.journal (listed added) sure.also;
      held = λ k e c. ⊎_elim (λ o. get_longer r.journal (listed added) k e (sure.held k e o))
          (λ o. let t = placed_is (length v.seen) added k e o in let place : length r.journal ≡ k = sym length_is ∙ sym t.0 in subst (λ (n : ℕ). slice_get log n ≡ Some e) place (get_added r.journal added e t.1))
          (Contains-append_cases v.held (placed (length v.seen) added) (k, e) c);
      busy = let b = subst (λ (st : Stage). length v.held + in_turn st ≤ v.taken) now sure.busy in let c = placed_short v.held (length v.seen) added in omega arith;
      served = λ h. cc;
      chief = λ c k e h other. held_new k e h (λ o. sure.chief c k e o other);
      marks = λ m c k e h b. held_new k e h (λ o. sure.marks m c k e o b);
      spent = λ h. cc;
    }

    theirs : (hs : List (maybe.Option (Option S))) (j : ℕ) (u : View E) → j ≢ id → get_elem? s.views j ≡ some u → Knows common marks_of turns (r.serving + 1) log hs u
    theirs hs j u n there = let k = r.each j u there in record {
      share = k.share;
      seen = prefix_longer u.seen r.journal (listed added) k.seen;
      also = prefix_longer u.also r.journal (listed added) k.also;
      held = λ p e c. get_longer r.journal (listed added) p e (k.held p e c);
      busy = k.busy;
      served = λ st. let z = k.served st in absurd (n (alone stands_for name common marks_of first turns s r id v at r.serving (serves v now served.0) j u there (serves u st z.0)));
      chief = λ c p e h other. ⊎_elim (λ o. k.chief c p e o other)
          (λ t. ⊎_elim (λ me. let two = two_of_total (λ (x : View E). once x.chief) s.views id j v u (λ z. n (sym z)) at there in let one = r.one_chief in
          let a : once v.chief ≡ 1 = ap once me in let b : once u.chief ≡ 1 = ap once c in absurd (omega arith)) (λ is. absurd (let z : true ≡ false = sym is ∙ other in cc)) (may_if v added e may t.1).1)
          (get_listed r.journal added p e h);
      marks = λ m c p e h b. ⊎_elim (λ o. k.marks m c p e o b)
          (λ t. let two = two_of_total (λ (x : View E). times m x.marks) s.views id j v u (λ z. n (sym z)) at there in let one = r.apart m in
          let a = times_in m v.marks ((may_if v added e may t.1).0 m b) in let d = times_in m u.marks c in absurd (omega arith))
          (get_listed r.journal added p e h);
      spent = k.spent;
    }

    leaves : (x : S) → Became stands_for name first (v.seen ++ listed added) x → R record { words = set s.words 1 ((get_or s.words 1 0 + 1) % 2 ^ 64); homes = back x; views = set s.views id w }
    leaves x became =
        let out = out_within stands_for name common marks_of first turns s r id v at r.serving (serves v now served.0) in let drawn = out.1 in let l = r.left in let z = r.small in
        let fits : (r.serving + 1) % 2 ^ 64 ≡ r.serving + 1 = omega arith in let live : v.stage ≢ Spent = λ h. cc in record {
          ticket = r.ticket;
          serving = r.serving + 1;
          journal = log;
          words = ap (λ (ws : List ℕ). set ws 1 ((get_or ws 1 0 + 1) % 2 ^ 64)) r.words ∙ ap (λ (k : ℕ). r.ticket ∷ k ∷ []) fits;
          queue = omega arith;
          small = r.small;
          left = let e = total-set (λ (u : View E). u.left) s.views id v w at in omega arith;
          taken = let e = total-set (λ (u : View E). u.taken) s.views id v w at in let o = r.taken in omega arith;
          tickets = λ t. let e = total-set (λ (u : View E). out_at u.stage u.ticket t) s.views id v w at in let o = r.tickets t in let n = below_next r.serving t in
              let mine : out_at v.stage v.ticket t ≡ once (r.serving == t) = λ i. out_at (now i) (served.0 i) t in omega arith;
          places = λ k. let e = total-set (λ (u : View E). times_at k u.held) s.views id v w at in let o = r.places k in let n = placed_counts r.journal added k in
              let a : times_at k w.held ≡ times_at k v.held + times_at k (placed (length v.seen) added) = total-append (λ (p : ℕ × E). once (p.0 == k)) v.held (placed (length v.seen) added) in
              let b : times_at k (placed (length v.seen) added) ≡ times_at k (placed (length r.journal) added) = ap (λ (n : ℕ). times_at k (placed n added)) length_is in omega arith;
          short = let a = listed_short r.journal added in let b = r.short in omega arith;
          apart = λ m. let e = total-set (λ (u : View E). times m u.marks) s.views id v w at in let o = r.apart m in omega arith;
          one_chief = let e = total-set (λ (u : View E). once u.chief) s.views id v w at in let o = r.one_chief in omega arith;
          view_marks = λ j m u e c. issued_set s.views id v w at live (λ _. omega arith) m (each_set (λ i y. Contains y.marks m → Issued s.views m) s.views id w (λ d. r.view_marks id m v at d) (λ i y _ d. r.view_marks i m y d) j u e c);
          entry_marks = λ k m e h c. issued_set s.views id v w at live (λ _. omega arith) m
              (⊎_elim (λ o. r.entry_marks k m e o c) (λ t. r.view_marks id m v at ((may_if v added e may t.1).0 m c)) (get_listed r.journal added k e h));
          each = each_set (λ _ y. Knows common marks_of turns (r.serving + 1) log (back x) y) s.views id w (mine (back x)) (theirs (back x));
          home = inl (x, ap (λ hs. set hs 0 (some (Some x))) served.2, subst (λ (xs : List E). Became stands_for name first (xs ++ listed added) x) served.1 became);
        }

    whole : IsWhole w → HoldsAll w
    whole is k e h = held_new k e (subst (λ (xs : List E). slice_get (xs ++ listed added) k ≡ Some e) served.1 h) (λ o. whole_holds stands_for name common marks_of first turns s r id v at (λ h. cc) is k e o)

  slot_is : (x y : S) → ◌≡◌ {A = List (ℕ × Option S)} ((0, Some x) ∷ []) ((0, Some y) ∷ []) → x ≡ y
  slot_is x y e = let a : ◌≡◌ {A = ℕ × Option S} (0, Some x) (0, Some y) = cc in let b : Some x ≡ Some y = λ i. (a i).1 in cc

  passes_at : (slots id : ℕ) (v : View E) (x : S) (added : Option E) → v.stage ≡ Served → Became stands_for name first (v.seen ++ listed added) x → MayAdd common marks_of v added
      → Allows R slots id (v, (0, Some x) ∷ []) 1 (λ n. (n + 1) % 2 ^ 64) (passed_on added (step slots 1 1 0 none) (v, (0, Some x) ∷ []))
  passes_at slots id v x added now became may s r len at small = (passed added v, gives, tt, leaves s r id v at now added may x became, (refl, whole s r id v at now added may))

  pub passes : (slots id : ℕ) (me : Me (Option S) (View E)) (x : S) (added : Option E) → me.0.stage ≡ Served → me.1 ≡ (0, Some x) ∷ [] → Became stands_for name first (me.0.seen ++ listed added) x → MayAdd common marks_of me.0 added
      → Allows R slots id me 1 (λ n. (n + 1) % 2 ^ 64) (passed_on added (step slots 1 1 0 none) me)
  passes slots id me x added now has became may =
      subst (λ (cs : List (ℕ × Option S)). Allows R slots id (me.0, cs) 1 (λ n. (n + 1) % 2 ^ 64) (passed_on added (step slots 1 1 0 none) (me.0, cs))) (sym has) (passes_at slots id me.0 x added now became may)

  pub passes_some : (slots id : ℕ) (origin : Option S) (me : Me (Option S) (View E)) (x : S) (added : Option E) → origin ≡ Some first → me.0.stage ≡ Served → me.1 ≡ (0, Some x) ∷ [] → IsLawful stands_for name common marks_of first me.0 x added
      → Allows R slots id me 1 (λ n. (n + 1) % 2 ^ 64) (passed_some stands_for name common marks_of origin (step slots 1 1 0 none) me)
  passes_some slots id origin me x added from now has lawful s r len at small = let t = passes slots id me x added now has lawful.0 lawful.1 s r len at small in (
    t.0,
    t.1,
    t.2,
    t.3,
    λ y has' f from'. let a : first ≡ f = cc in let b = slot_is x y (sym has ∙ has') in (
      added,
      subst (λ (z : S × S). IsLawful stands_for name common marks_of z.0 me.0 z.1 added) (λ i. (a i, b i)) lawful,
      t.4.0,
      t.4.1,
    ),
  )
