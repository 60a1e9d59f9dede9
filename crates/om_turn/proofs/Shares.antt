-- A pass that was split and joined again has the same part of the turns.
use Rattle.std.proofs.Common.{◌≡◌, ℕ, ◌≤◌, ap, ◌∙◌, arith}
use Rattle.om_turn.specs.Views.{parted, part}
use Rattle.om_turn.specs.Locks.{view, IsPassOf, IsJoined}
use Rattle.om_turn.specs.Shares.{IsSamePart}
use Rattle.om_turn.specs.declared.lock.TurnLock.{TurnLock}
use Rattle.om_turn.specs.declared.lock.Pass.{Pass}
use Rattle.om_turn.specs.declared.view.View.{View}

module _ {S E N : Type 0} where
  pub rejoined : (lock : TurnLock S E N) (p p1 o p2 o2 q : Pass E) (seat half : ℕ) → half ≤ (view p).left → view p1 ≡ parted half (view p) → view o ≡ part seat half (view p)
      → IsSamePart lock p1 p2 → IsSamePart lock o o2 → IsPassOf lock q → IsJoined (view p2) (view o2) (view q) → IsSamePart lock p q
  rejoined lock p p1 o p2 o2 q seat half enough is other a b here both =
      let l1 = ap (λ (v : View E). v.left) is in let t1 = ap (λ (v : View E). v.taken) is in let s1 = ap (λ (v : View E). v.share) is in
      let l2 = ap (λ (v : View E). v.left) other in let t2 = ap (λ (v : View E). v.taken) other in
      let l3 = ap (λ (v : View E). v.left) both.0 in let t3 = ap (λ (v : View E). v.taken) both.0 in let s3 = ap (λ (v : View E). v.share) both.0 in
      let x = a.part in let y = b.part in record { pass = here; part = omega arith; share = s3 ∙ (a.share ∙ s1) }
