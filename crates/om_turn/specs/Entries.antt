-- Counts, entries at their places, and what a value became.
use Rattle.std.specs.Prelude.{◌≡◌, ℕ, zero, suc, ◌+◌, ◌*◌, ◌==◌, ltb, Bool, cond, List, [], ◌∷◌, ◌++◌, length, Option, Some, None}
use Rattle.std.specs.List.{slice_get, Contains}

abbrev pub once : Bool → ℕ
once b = cond b 1 0

-- 1 where k is below n, and else 0
abbrev pub below : ℕ → ℕ → ℕ
below n k = once (ltb k n)

-- f of each, added up
abbrev pub total : {A : Type 0} → (A → ℕ) → List A → ℕ
total f [] = 0
total f (x ∷ xs) = f x + total f xs

-- how often m stands in the list
abbrev pub times : ℕ → List ℕ → ℕ
times m xs = total (λ x. once (x == m)) xs

-- how many of the entries stand at the place k
abbrev pub times_at : {E : Type 0} → ℕ → List (ℕ × E) → ℕ
times_at k held = total (λ p. once (p.0 == k)) held

-- The entries with their places are those of the history: each place has its entry, and each place stands there once
pub record AreAll {E : Type 0} (held : List (ℕ × E)) (history : List E) : Type 0 where
  pub once_each : (k : ℕ) → times_at k held ≡ below (length history) k
  pub at_place : (k : ℕ) (e : E) → Contains held (k, e) → slice_get history k ≡ Some e
  pub complete : (k : ℕ) (e : E) → slice_get history k ≡ Some e → Contains held (k, e)

-- what a turn may add: one entry or none
abbrev pub listed : {E : Type 0} → Option E → List E
listed None = []
listed (Some e) = e ∷ []

abbrev pub placed : {E : Type 0} → ℕ → Option E → List (ℕ × E)
placed k None = []
placed k (Some e) = (k, e) ∷ []

-- The n-th mark that the pass p gave to another: no two are equal, and none is 0
abbrev pub mark : ℕ → ℕ → ℕ
mark zero n = 2 * n + 1
mark (suc p) n = 2 * mark p n

-- y is what x became by these entries: it has the name of x, and for each list of entries that x stands for it stands for that list followed by these
abbrev pub Became : {S E N : Type 0} → (S → List E → Type 0) → (S → N) → S → List E → S → Type 0
Became stands_for name x entries y = (name y ≡ name x) × ((before : List _) → stands_for x before → stands_for y (before ++ entries))
