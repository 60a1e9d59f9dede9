-- What an output begins with: options, zones, the plan of the words, and the bytes of the letters that have no
-- meaning. The rules of its pools follow from it.
use Rattle.std.specs.Prelude.{ℕ, List}
use Rattle.om_opts.specs.declared.options.Opts.{Opts}
use Rattle.om_words.specs.PlannedWords.{source_for}
use Rattle.om_words.specs.declared.plan.WordPlan.{WordPlan}
use Rattle.om_model.specs.Pool.Rules.{Rules}

pub record Head : Type 0 where
  pub options : Opts
  pub zones : ℕ
  pub plan : WordPlan
  pub warned : List ℕ

-- the rules of the pool with this number
abbrev pub rules_of : Head → ℕ → Rules
rules_of head pool = record { options = head.options; zones = head.zones; words = source_for head.plan pool }
