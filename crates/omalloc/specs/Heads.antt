-- What holds of the head of every accepted run: 1 to 64 zones, one pool, and a word to draw.
use Rattle.std.specs.Prelude.{◌≡◌, ◌≤◌}
use Rattle.om_geom.specs.Numbers.{most_zones}
use Rattle.om_words.specs.PlannedWords.{HasWords}
use Rattle.om_model.specs.Output.Head.{Head}

pub record IsHead (head : Head) : Type 0 where
  pub some_zone : 1 ≤ head.zones
  pub few_zones : head.zones ≤ most_zones
  pub pools : head.options.pools ≡ 1
  pub words : HasWords head.plan
