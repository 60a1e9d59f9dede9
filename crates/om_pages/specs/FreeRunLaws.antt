-- What a lowest run is, and that no run has more pages than are free.
use Rattle.std.proofs.Common.{◌≡◌, ℕ, zero, suc, ◌+◌, ◌<◌, ◌≤◌, true, false, List, [], ◌∷◌, length, None, Some, Option, refl, sym, ap, ◌∙◌, arith, nat_le}
use Rattle.std.specs.List.{list_all, range_with_len}
use Rattle.std.proofs.lemmas.Bool.{and_parts, leb-true, cases_lt}
use Rattle.std.proofs.lemmas.List.{get_or_past}
use Rattle.std.proofs.lemmas.List.Sums.{sum_by-cons}
use Rattle.om_geom.specs.Addresses.{bit_of}
use Rattle.om_geom.specs.FitLaws.{find-passes, list_all-range}
use Rattle.om_geom.specs.Numbers.{zone_pages}
use Rattle.om_pages.specs.FreeRuns.{is_free_run, lowest_run}
use Rattle.om_pages.specs.Kinds.{is_free}
use Rattle.om_pages.specs.Tables.{kind_of, free_count, AreAll}
use Rattle.om_pages.specs.declared.kind.PageKind.{PageKind}
use Rattle.om_pages.specs.declared.kind.PageKind.TheVariants.{Absent}
use mathlib.Core.Logic.{⊎_elim}

-- the run has its pages in one zone, and all are free
pub record IsFreeRun (table : List PageKind) (n first : ℕ) : Type 0 where
  pub free : AreAll is_free table first n
  pub one_zone : bit_of first + n ≤ zone_pages

free-there : (table : List PageKind) (page : ℕ) → is_free (kind_of table page) ≡ true → page < length table
free-there table page free = ⊎_elim
    (λ lt. lt)
    (λ past. let no : false ≡ true = ap is_free (sym (get_or_past table page Absent past)) ∙ free in cc)
    (cases_lt page (length table))

pub lowest_run-is_free : (table : List PageKind) (n first : ℕ) → lowest_run table n ≡ Some first → IsFreeRun table n first
lowest_run-is_free table n first found =
    let both = and_parts (nat_le (bit_of first + n) zone_pages) (list_all (λ page. is_free (kind_of table page)) (range_with_len first n))
    (find-passes (is_free_run table n) (range_with_len 0 (length table)) first found) in
    record {
      free = λ page low high.
          let free = list_all-range (λ page. is_free (kind_of table page)) first n both.1 page low high in (free-there table page free, free);
      one_zone = leb-true (bit_of first + n) zone_pages both.0;
    }

-- ---- no run has more pages than are free

rest_free : (kind : PageKind) (rest : List PageKind) (first n : ℕ) → AreAll is_free (kind ∷ rest) (suc first) n → AreAll is_free rest first n
rest_free kind rest first n all page low high =
    let at = all (suc page) (omega arith) (omega arith) in (omega arith, at.1)

pub free_run-counted : (table : List PageKind) (first n : ℕ) → AreAll is_free table first n → n ≤ free_count table
free_run-counted table first zero all = omega arith
free_run-counted [] first (suc n) all = absurd (omega (arith, (all first (omega arith) (omega arith)).0))
free_run-counted (kind ∷ rest) zero (suc n) all =
    let more = free_run-counted rest zero n (λ page low high. let at = all (suc page) (omega arith) (omega arith) in (omega arith, at.1)) in
    let here : is_free kind ≡ true = (all zero (omega arith) (omega arith)).1 in
    rw (sum_by-cons, here) (omega arith)
free_run-counted (kind ∷ rest) (suc first) (suc n) all =
    let more = free_run-counted rest first (suc n) (rest_free kind rest first (suc n) all) in
    rw sum_by-cons (omega arith)

pub lowest_run-too_few : (table : List PageKind) (n : ℕ) → free_count table < n → None ≡ lowest_run table n
lowest_run-too_few table n few = none (lowest_run table n) refl
  where
    none : (o : Option ℕ) → lowest_run table n ≡ o → None ≡ o
    none None is = refl
    none (Some first) is = absurd (omega (arith, free_run-counted table first n (lowest_run-is_free table n first is).free))
