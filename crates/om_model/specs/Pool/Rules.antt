-- The rules by which a pool answers: the options, the number of zones of the arena, and the source of the
-- words that the pool draws.
use Rattle.std.specs.Prelude.{ℕ, ◌+◌, ◌%◌, if◌then◌else◌, List, map, Option}
use Rattle.std.specs.List.{range_with_len}
use Rattle.om_geom.specs.Classes.{class_of, data_pages}
use Rattle.om_opts.specs.declared.options.Opts.{Opts}
use Rattle.om_words.specs.DrawnWords.{Source, word_of}

pub record Rules : Type 0 where
  pub options : Opts
  pub zones : ℕ
  pub words : Source

-- random word i of the pool
abbrev pub word_at : Rules → ℕ → ℕ
word_at rules i = word_of rules.words i

-- so many random words, from number i on
abbrev pub words_from : Rules → ℕ → ℕ → List ℕ
words_from rules i count = map (word_at rules) (range_with_len i count)

-- the byte that is written behind small blocks where canaries are on: word 0 is drawn for it
abbrev pub canary_byte : Rules → ℕ
canary_byte rules = word_at rules 0 % 255 + 1

-- the class of a size; none for a block of whole pages
abbrev pub size_class : Rules → ℕ → Option ℕ
size_class rules size = class_of size rules.options.canary

-- how many guard pages stand behind a page block
abbrev pub guard_pages : Rules → ℕ
guard_pages rules = if rules.options.guard then 1 else 0

-- the pages of a page block and its guard
abbrev pub block_pages : Rules → ℕ → ℕ
block_pages rules size = data_pages size + guard_pages rules
