-- The table as it is made keeps the rule, and what is left when it is closed.
use Rattle.std.proofs.Common.{◌≡◌, ◌≢◌, ℕ, zero, suc, ◌+◌, ◌^◌, ◌<◌, Bool, inl, ⊎_elim, List, [], ◌∷◌, length, get_or, Option, Some, None, refl, sym, ap, subst, ◌∙◌, arith}
use Rattle.std.specs.List.{Contains}
use Rattle.std.proofs.lemmas.List.{append-nil}
use Rattle.std.proofs.lemmas.Bool.Decides.{nat_tests}
use mathlib.Core.List.{IsPrefix}
use mathlib.Core.Option.{some, some-injective, some-ne-none}
use lib.ListN.{get_elem?}
use Rattle.atomic_table.specs.Table.{State, opening, Final, Seen}
use Rattle.om_turn.specs.Entries.{times_at, Became, AreAll}
use Rattle.om_turn.specs.Views.{in_turn, first_view, IsWhole}
use Rattle.om_turn.specs.Rule.{Knows, Kept}
use Rattle.om_turn.specs.declared.view.View.{View}
use Rattle.om_turn.specs.declared.view.Stage.TheVariants.{Spent, Outside}
use Rattle.om_turn.proofs.Counts.{two_of_total, whole_total, none_in, none_held, below_out}
use Rattle.om_turn.proofs.Changes.{same_view, whole_holds}

module _ {S E N : Type 0} (stands_for : S → List E → Type 0) (name : S → N) (common : E → Bool) (marks_of : E → List ℕ) (first : S) (turns : ℕ) where
  abbrev R : State (Option S) (View E) → Type 0
  R = Kept stands_for name common marks_of first turns

  only_view : (v u : View E) (j : ℕ) → get_elem? (v ∷ []) j ≡ some u → v ≡ u
  only_view v u zero e = some-injective v u e
  only_view v u (suc j) e = absurd (some-ne-none u (sym e))

  only_zero : (m i : ℕ) → i < 1 → get_or (0 ∷ []) i m ≡ m → m ≡ 0
  only_zero m zero l e = sym e
  only_zero m (suc i) l e = absurd (omega arith)

  opens_sure : (hs : _) → Knows {S = S} common marks_of turns 0 [] hs (first_view turns)
  opens_sure hs = record {
    share = λ _. refl;
    seen = ([], refl);
    also = ([], refl);
    held = λ k e c. absurd (none_in (k, e) c);
    busy = omega arith;
    served = λ h. cc;
    chief = λ c k e h. cc;
    marks = λ m c k e h. cc;
    spent = λ h. cc;
  }

  pub opens : turns < 2 ^ 32 → R (opening (0 ∷ 0 ∷ []) (Some first ∷ []) (first_view turns))
  opens small = let v : View E = first_view turns in record {
    ticket = 0;
    serving = 0;
    journal = [];
    words = refl;
    queue = omega arith;
    small = small;
    left = omega arith;
    taken = refl;
    tickets = λ t. let z = below_out 0 t (omega arith) in omega arith;
    places = λ k. let z = below_out 0 k (omega arith) in omega arith;
    short = omega arith;
    apart = λ m. grind (arith, nat_tests);
    one_chief = omega arith;
    view_marks = λ j m u e c. let d = subst (λ (x : View E). Contains x.marks m) (sym (only_view v u j e)) c in inl (only_zero m d.0 d.1 d.2);
    entry_marks = λ k m e h. cc;
    each = λ j u e. subst (λ (x : View E). Knows common marks_of turns 0 [] (some (Some first) ∷ []) x) (only_view v u j e) (opens_sure (some (Some first) ∷ []));
    home = inl (first, refl, (refl, λ before h. subst (λ (xs : List E). stands_for first xs) (sym (append-nil before)) h));
  }

  -- x is what the first value became by the entries of a pass
  abbrev pub Comes : View E → S → Type 0
  Comes v x = (history : List E) × Became stands_for name first history x × IsPrefix v.seen history × AreAll v.held history

  -- what is in the slot of a closed table
  abbrev pub Left : View E → List (Option S) → Type 0
  Left v xs = (x : S) × (get_elem? xs 0 ≡ some (Some x)) × Comes v x

  pub closes : (id : ℕ) (v : View E) (ws : List ℕ) (xs : List (Option S)) → v.stage ≡ Outside → IsWhole v → Final (Seen R id v) ws xs → Left v xs
  closes id v ws xs out whole f =
      let s = f.0 in let r = f.1.0 in let at = f.1.1 in let sure = r.each id v at in let live : v.stage ≢ Spent = λ h. cc in let share = sure.share live in let l = r.left in let t = r.taken in
      let idle : (j : ℕ) (u : View E) → j ≢ id → get_elem? s.views j ≡ some u → length u.held + in_turn u.stage ≡ 0 = λ j u n d.
      let a = two_of_total (λ (x : View E). x.left) s.views id j v u (λ z. n (sym z)) at d in let b = two_of_total (λ (x : View E). x.taken) s.views id j v u (λ z. n (sym z)) at d in
      let busy = (r.each j u d).busy in omega arith in
      ⊎_elim
      (λ h. (
        h.0,
        f.4 0 (Some h.0) (ap (λ hs. get_elem? hs 0) h.1),
        (
          r.journal,
          h.2,
          sure.seen,
          record {
            once_each = λ k. let all = whole_total (λ (x : View E). times_at k x.held) s.views id v at (λ j u n d. let z = idle j u n d in none_held k u.held (omega arith)) in let p = r.places k in omega arith;
            at_place = sure.held;
            complete = whole_holds stands_for name common marks_of first turns s r id v at live whole;
          },
        ),
      ))
      (λ h. let u : View E = h.1.1 in let other : h.1.0 ≢ id = λ is. let same : v ≡ u = same_view s.views id h.1.0 v u at h.1.2 is in let st = ap (λ (x : View E). x.stage) same in let st' = h.1.3 in cc in
      let z = idle h.1.0 u other h.1.2 in let one : in_turn u.stage ≡ 1 = ap in_turn h.1.3 in absurd (omega arith))
      r.home

  pub left_some : (v : View E) (xs : List (Option S)) → Left v xs → ¬ (get_elem? xs 0 ≡ some None)
  left_some v xs l e = let a = l.1 in let b = some-injective (Some l.0) None (sym a ∙ e) in cc

  pub left_is : (v w : View E) (xs : List (Option S)) (x : S) → v ≡ w → Left v xs → get_elem? xs 0 ≡ some (Some x) → Comes w x
  left_is v w xs x is l e = let a = some-injective (Some l.0) (Some x) (sym l.1 ∙ e) in let same : l.0 ≡ x = cc in subst (λ (y : S). Comes w y) same (subst (λ (u : View E). Comes u l.0) is l.2)
