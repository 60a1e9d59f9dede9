-- The conditions on a content: there is a journal for each pool, names are names, the plan has a word to draw, and
-- every number is one that its type holds.
use Rattle.std.specs.Prelude.{◌≡◌, true, length}
use Rattle.std.specs.List.{AllByRecursion}
use Rattle.om_words.specs.PlannedWords.{HasWords}
use Rattle.om_model.specs.Scripts.Names.{is_name}
use Rattle.om_model.specs.Output.Content.{Content}
use Rattle.om_model.specs.Output.Ranges.{IsInRange}

pub record IsContent (content : Content) : Type 0 where
  pub pools : length content.journals ≡ ((content.head).options).pools
  pub names : AllByRecursion (λ told. is_name told.name ≡ true) content.transcripts
  pub words : HasWords (content.head).plan
  pub numbers : IsInRange content
