use Rattle.std.proofs.Common.{rules, ◌≡◌, ℕ, ◌-◌, List, [], ◌∷◌, ◌++◌, length, refl, sym, ap, ◌∙◌, subst, inr, append_assoc, length-append, arith, Option, Some, true}
use Rattle.std.specs.List.{slice_get}
use Rattle.om_turn.specs.Locks.{first_state, view, turn_view}
use Rattle.om_turn.specs.Entries.{listed, placed}
use Rattle.om_turn.specs.Views.{passed, MayAdd}
use Rattle.om_turn.specs.declared.view.View.{View}
use Rattle.om_turn.proofs.Counts.{get_last, none_in}
use Rattle.om_turn.proofs.tests.add.Goals as goal

last_is : (xs : List ℕ) (x : ℕ) (ys : List ℕ) → ys ≡ xs ++ x ∷ [] → slice_get ys (length ys - 1) ≡ Some x
last_is xs x ys e = let n : length (xs ++ x ∷ []) - 1 ≡ length xs = omega (arith, length-append xs (x ∷ [])) in
    ap (λ (zs : List ℕ). slice_get zs (length zs - 1)) e ∙ (ap (λ (k : ℕ). slice_get (xs ++ x ∷ []) k) n ∙ get_last xs x)

grown : (before seen : List ℕ) (x : ℕ) (old new : List ℕ) → new ≡ old ++ x ∷ [] → old ≡ before ++ seen → new ≡ before ++ (seen ++ x ∷ [])
grown before seen x old new e d = e ∙ (ap (λ (zs : List ℕ). zs ++ x ∷ []) d ∙ append_assoc before seen (x ∷ []))

may_last : (v : View ℕ) (x : ℕ) (last : Option ℕ) → last ≡ Some x → MayAdd (λ _. true) (λ _. []) v last
may_last v x last is = subst (λ (a : Option ℕ). MayAdd (λ _. true) (λ _. []) v a) (sym is) ((λ m c. absurd (none_in m c)), inr refl)

held_is : (w v u : View ℕ) (k x : ℕ) (added : Option ℕ) → w ≡ passed added v → added ≡ Some x → v.held ≡ u.held → length v.seen ≡ k → w.held ≡ u.held ++ (k, x) ∷ []
held_is w v u k x added is one held place = ap (λ (y : View ℕ). y.held) is
    ∙ (ap (λ (a : Option ℕ). v.held ++ placed (length v.seen) a) one ∙ (λ i. held i ++ (place i, x) ∷ []))

pub leave_as-requires-clause-lawful : goal.leave_as-requires-clause-lawful
leave_as-requires-clause-lawful g c =
    let e = c.enter-held.ensures in let seen = (turn_view c.enter-held.result).seen in let x = c.args.x in let new = c.in-Ok.ensures.ok in
    let old : c.state-2.result.now ≡ c.enter-held.result.state = c.state-2.ensures.value ∙ c.state.ensures.value in
    let last = last_is c.state-2.result.now x c.push.new.self new in (
      (
        refl,
        λ before is. let from : first_state c.args.lock.now ≡ before = sym (ap (λ l. first_state l) e.lock.0) ∙ is in
            grown before seen x c.state-2.result.now c.push.new.self new (old ∙ e.state.1 before from) ∙ ap (λ (a : Option ℕ). before ++ (seen ++ listed a)) (sym last),
      ),
      may_last (turn_view c.enter-held.result) x _ last,
    )

pub returns-in-Ok-clause-held : goal.returns-in-Ok-clause-held
returns-in-Ok-clause-held g c =
    let e = c.enter-held.ensures in let v = turn_view c.enter-held.result in
    let last = last_is c.state-2.result.now c.args.x c.push.new.self c.in-Ok.ensures.ok in
    let state : c.enter-held.result.state ≡ v.seen = e.state.1 [] c.requires.lock.1 in
    let place : length v.seen ≡ c.len-place.result = sym (c.len-place.ensures ∙ ap (λ (xs : List ℕ). length xs) (c.state.ensures.value ∙ state)) in
    let fact : (view c.leave_as.new.self.0).held ≡ (view c.args.pass.now).held ++ (c.len-place.result, c.args.x) ∷ [] = held_is (view c.leave_as.new.self.0) v (view c.args.pass.now) c.len-place.result c.args.x _ c.leave_as.ensures.added last (ap (λ (y : View ℕ). y.held) e.view.0) place in
    first_of (search (rules, fact), grind (arith, fact))
