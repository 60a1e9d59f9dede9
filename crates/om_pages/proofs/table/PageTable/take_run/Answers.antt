use Rattle.std.proofs.Common.{◌≡◌, ℕ, List, Option, Some, refl, arith}
use Rattle.om_pages.specs.FreeRuns.{lowest_run}
use Rattle.om_pages.specs.FreeRunLaws.{IsFreeRun, lowest_run-is_free, lowest_run-too_few}
use Rattle.om_pages.specs.declared.kind.PageKind.{PageKind}
use Rattle.om_pages.proofs.table.PageTable.take_run.Goals as goal

-- what was found among the kinds is a run of the table
found : (seen kinds table : List PageKind) (n first : ℕ) (answer : Option ℕ) → seen ≡ kinds → kinds ≡ table
    → answer ≡ lowest_run seen n → answer ≡ Some first → IsFreeRun table n first
found seen kinds table n first answer same view value some = lowest_run-is_free table n first cc

pub returns-then-n-self-clause-first : goal.returns-then-n-self-clause-first
returns-then-n-self-clause-first c =
    lowest_run-too_few c.args.self.now c.args.n (rw (← c.self.view_is, ← c.self.invariant.1) c.if-n-self.true)

pub set_run-requires-clause-there : goal.set_run-requires-clause-there
set_run-requires-clause-there c page low high =
    let run = found _ _ _ _ _ _ c.deref.ensures.value c.self.view_is c.lowest_run.ensures c.in_ok-lowest_run.was in
    ((run.free page low (omega arith)).0, refl)

pub returns-clause-free : goal.returns-clause-free
returns-clause-free c =
    (found _ _ _ _ _ _ c.deref.ensures.value c.self.view_is c.lowest_run.ensures c.in_ok-lowest_run.was).free

pub returns-clause-one_zone : goal.returns-clause-one_zone
returns-clause-one_zone c =
    (found _ _ _ _ _ _ c.deref.ensures.value c.self.view_is c.lowest_run.ensures c.in_ok-lowest_run.was).one_zone
