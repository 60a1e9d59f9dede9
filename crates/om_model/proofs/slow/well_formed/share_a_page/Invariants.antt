use Rattle.std.proofs.Common.{◌≡◌, ℕ, ◌≤◌, ◌<◌, true}
use Rattle.om_geom.specs.Addresses.{page_at}
use Rattle.om_model.specs.Pool.InUse.{touches}
use Rattle.om_model.proofs.slow.well_formed.share_a_page.Given as goal

abbrev pub invariant-loop-page : goal.invariant-loop-page
invariant-loop-page l = (page : ℕ) → page_at (l.one.extent).first ≤ page → page < l.page → touches page l.one ≡ true → touches page l.other ≡ true → ⊥
