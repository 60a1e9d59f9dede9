-- Runs of neighbouring pages.
use Rattle.std.specs.Prelude.{ℕ, ◌+◌, ◌*◌, Bool}
use Rattle.om_geom.specs.Fit.{is_in_run}
use Rattle.om_geom.specs.Numbers.{zone_pages}
use Rattle.om_model.specs.declared.entry.Move.{Move}

pub record Run : Type 0 where
  pub first : ℕ
  pub count : ℕ

-- the pages of a claim or a release
abbrev pub run_of : Move → Run
run_of move = record { first = zone_pages * move.zone + move.first; count = move.count }

abbrev pub is_page_of : Run → ℕ → Bool
is_page_of run page = is_in_run run.first run.count page
