-- The words that a plan gives to each pool.
use Rattle.std.specs.Prelude.{ℕ, ◌<◌, length}
use Rattle.om_words.specs.DrawnWords.{Source, listed, seeded}
use Rattle.om_words.specs.declared.plan.WordPlan.{WordPlan}
use Rattle.om_words.specs.declared.plan.WordPlan.TheVariants.{Listed, Seeded}

-- each pool draws the same list, or has a key of its own
abbrev pub source_for : WordPlan → ℕ → Source
source_for (Listed list) pool = listed list
source_for (Seeded seed) pool = seeded seed pool

-- a list has at least one word
abbrev pub HasWords : WordPlan → Type 0
HasWords (Listed list) = 0 < length list
HasWords (Seeded seed) = Unit {0}
