-- The steps draw, look and the load before a split keep the rule.
use Rattle.std.proofs.Common.{◌≡◌, ◌≢◌, ℕ, ◌+◌, ◌%◌, ◌^◌, ◌<◌, ◌≤◌, ◌==◌, Bool, inr, ⊎_elim, List, [], ◌∷◌, length, get_or, set, Option, Some, refl, sym, ap, subst, ◌∙◌, arith}
use Rattle.std.specs.List.{Contains}
use mathlib.Core.Logic.{dite}
use mathlib.Core.Option.{some, none}
use native.Mathlib.Decide.{ℕ_discrete}
use lib.ListN.{get_elem?}
use lib.Seq.{set-get_or}
use Rattle.atomic_table.specs.Table.{State, Me, step, keeps, takes, Allows}
use Rattle.om_turn.specs.Entries.{once, below, mark, Became}
use Rattle.om_turn.specs.Views.{in_turn, out_at, drawn, served}
use Rattle.om_turn.specs.Rule.{Kept}
use Rattle.om_turn.specs.Steps.{drew, looked, minted, IsShown}
use Rattle.om_turn.specs.declared.view.View.{View}
use Rattle.om_turn.specs.declared.view.Stage.{Stage}
use Rattle.om_turn.specs.declared.view.Stage.TheVariants.{Spent, Outside, Waiting}
use Rattle.om_turn.proofs.Counts.{below_next, part_of_total, prefix_same, set_at}
use Rattle.om_turn.proofs.Changes.{unmoved, changed, fresh, whole_holds, out_within, alone, waits, serves, same_view, stays_home}

module _ {S E N : Type 0} (stands_for : S → List E → Type 0) (name : S → N) (common : E → Bool) (marks_of : E → List ℕ) (first : S) (turns : ℕ) where
  abbrev R : State (Option S) (View E) → Type 0
  R = Kept stands_for name common marks_of first turns

  pub mints : (slots id seat : ℕ) (me : Me (Option S) (View E)) → seat ≡ id → me.0.stage ≡ Outside → Allows R slots id me 1 (λ n. n) (minted seat (step slots 1 0 0 none) me)
  mints slots id seat me is out s r len at small = let v : View E = me.0 in (
    v,
    keeps,
    tt,
    unmoved stands_for name common marks_of first turns s 1 id me.1 v at r,
    (
      refl,
      λ c. fresh s.views id v at (λ h. cc) (r.view_marks id (mark id v.splits) v at (subst (λ (z : ℕ). Contains v.marks (mark z v.splits)) is c)),
    ),
  )

  -- a pass whose ticket is served takes the value
  serving : (s : State (Option S) (View E)) (r : R s) (id : ℕ) (v : View E) → get_elem? s.views id ≡ some v → v.stage ≡ Waiting → v.ticket ≡ r.serving
      → (x : S) → s.homes ≡ some (Some x) ∷ [] → R record { words = set s.words 1 (get_or s.words 1 0); homes = set s.homes 0 none; views = set s.views id (served r.journal v) }
  serving s r id v at waiting here x home =
      let w : View E = served r.journal v in let sure = r.each id v at in let live : v.stage ≢ Spent = λ h. cc in
      let gone : set s.homes 0 none ≡ none ∷ [] = ap (λ hs. set hs 0 none) home in
      changed stands_for name common marks_of first turns s r id v w (set s.words 1 (get_or s.words 1 0)) (set s.homes 0 none) r.ticket at live (set-get_or s.words 1 0 ∙ r.words) r.queue
      record { held = refl; marks = refl; splits = refl; chief = refl } refl refl
      (λ t. ap (λ (st : Stage). out_at st v.ticket t + below r.ticket t) (sym waiting))
      (λ j u other there k. record {
        share = k.share;
        seen = k.seen;
        also = k.also;
        held = k.held;
        busy = k.busy;
        served = λ st. let z = k.served st in absurd (other (alone stands_for name common marks_of first turns s r id v at r.serving (waits v waiting here) j u there (serves u st z.0)));
        chief = k.chief;
        marks = k.marks;
        spent = k.spent;
      })
      record {
        share = λ _. sure.share live;
        seen = prefix_same r.journal;
        also = sure.also;
        held = sure.held;
        busy = let b = subst (λ (st : Stage). length v.held + in_turn st ≤ v.taken) waiting sure.busy in b;
        served = λ _. (here, refl, gone);
        chief = sure.chief;
        marks = sure.marks;
        spent = λ h. cc;
      }
      (inr (gone, (id, w, set_at s.views id v w at, refl)))

  -- what it then knows
  shown : (s : State (Option S) (View E)) (r : R s) (id : ℕ) (v : View E) → get_elem? s.views id ≡ some v → v.stage ≡ Waiting → v.ticket ≡ r.serving → IsShown common marks_of (served r.journal v)
  shown s r id v at waiting here = let sure = r.each id v at in let live : v.stage ≢ Spent = λ h. cc in record {
    short = let out = out_within stands_for name common marks_of first turns s r id v at r.serving (waits v waiting here) in let a = out.1 in let b = r.short in let c = r.left in let d = sure.share live in omega arith;
    uncommon = sure.chief;
    marked = sure.marks;
    whole = λ is. whole_holds stands_for name common marks_of first turns s r id v at live is;
  }

  pub draws : (slots id : ℕ) (me : Me (Option S) (View E)) → me.0.stage ≡ Outside → 0 < me.0.left → Allows R slots id me 0 (λ n. (n + 1) % 2 ^ 64) (drew (step slots 0 1 0 none) me)
  draws slots id me out some_left s r len at small =
      let v : View E = me.0 in let n : ℕ = get_or s.words 0 0 in let w : View E = drawn n v in let e : n ≡ r.ticket = ap (λ (ws : List ℕ). get_or ws 0 0) r.words in
      let sure = r.each id v at in let room = part_of_total (λ (x : View E). x.left) s.views id v at in let l = r.left in let z = r.small in let q = r.queue in
      let fits : (r.ticket + 1) % 2 ^ 64 ≡ r.ticket + 1 = omega arith in
      let words : set s.words 0 ((n + 1) % 2 ^ 64) ≡ (r.ticket + 1) ∷ r.serving ∷ [] = ap (λ (ws : List ℕ). set ws 0 ((get_or ws 0 0 + 1) % 2 ^ 64)) r.words ∙ ap (λ (k : ℕ). k ∷ r.serving ∷ []) fits in
      let live : v.stage ≢ Spent = λ h. cc in
      let none_out : (t : ℕ) → out_at v.stage v.ticket t ≡ 0 = λ t. ap (λ (st : Stage). out_at st v.ticket t) out in (
        w,
        keeps,
        tt,
        changed stands_for name common marks_of first turns s r id v w (set s.words 0 ((n + 1) % 2 ^ 64)) s.homes (r.ticket + 1) at live words (omega arith)
            record { held = refl; marks = refl; splits = refl; chief = refl } (omega arith) (omega arith)
            (λ t. let a = none_out t in let b = below_next r.ticket t in let c : once (n == t) ≡ once (r.ticket == t) = ap (λ (k : ℕ). once (k == t)) e in omega arith)
            (λ j u _ _ k. k)
            record {
              share = λ _. sure.share live;
              seen = sure.seen;
              also = sure.also;
              held = sure.held;
              busy = let b = sure.busy in omega arith;
              served = λ h. cc;
              chief = sure.chief;
              marks = sure.marks;
              spent = λ h. cc;
            }
            (stays_home stands_for name common marks_of first turns s r id v at w (λ h. cc)),
        refl,
      )

  pub looks : (slots id : ℕ) (origin : Option S) (me : Me (Option S) (View E)) → origin ≡ Some first → me.0.stage ≡ Waiting → Allows R slots id me 1 (λ n. n) (looked stands_for name common marks_of origin (step slots 1 0 0 none) me)
  looks slots id origin me from waiting s r len at small =
      let v : View E = me.0 in let n : ℕ = get_or s.words 1 0 in let e : n ≡ r.serving = ap (λ (ws : List ℕ). get_or ws 1 0) r.words in
      let live : v.stage ≢ Spent = λ h. cc in
      dite (ℕ_discrete n v.ticket)
      (λ hit. ⊎_elim
      (λ h. let w : View E = served r.journal v in (
        w,
        takes 0 (Some h.0),
        ap (λ hs. get_elem? hs 0) h.1,
        serving s r id v at waiting (sym hit ∙ e) h.0 h.1,
        ((λ _. (r.journal, h.0, refl, (r.each id v at).seen, shown s r id v at waiting (sym hit ∙ e), λ f is. let same : first ≡ f = cc in subst (λ (z : S). Became stands_for name z r.journal h.0) same h.2)), λ miss. absurd (miss hit)),
      ))
      (λ h. let u : View E = h.1.1 in let theirs = (r.each h.1.0 u h.1.2).served h.1.3 in let here : v.ticket ≡ r.serving = sym hit ∙ e in
      let is = alone stands_for name common marks_of first turns s r id v at r.serving (waits v waiting here) h.1.0 u h.1.2 (serves u h.1.3 theirs.0) in
      let same : v ≡ u = same_view s.views id h.1.0 v u at h.1.2 is in let st = ap (λ (x : View E). x.stage) same in let st' = h.1.3 in absurd cc)
      r.home)
      (λ miss. (v, keeps, tt, unmoved stands_for name common marks_of first turns s 1 id me.1 v at r, ((λ hit. absurd (miss hit)), λ _. refl)))
