-- What a pool's holdings say: the rules by which it answers, and its tables.
use Rattle.std.specs.Prelude.{◌≡◌, ℕ, ◌+◌}
use Rattle.om_model.specs.Pool.Rules.{Rules}
use Rattle.om_pool.specs.PoolView.{rules_by}
use Rattle.om_pool.specs.Tables.{Tables}
use Rattle.om_pool.specs.declared.holdings.Holdings.{Holdings}

abbrev pub rules_in : Holdings → Rules
rules_in own = rules_by own.opts own.zones own.words.source

abbrev pub tables_in : Holdings → Tables
tables_in own = record { pages = own.pages; chunks = own.chunks.pages; blocks = own.blocks; slots = own.slots; memory = own.shelf }

-- so many more words are drawn
abbrev pub with_drawn : ℕ → Holdings → Holdings
with_drawn count own = record own { words = record own.words { place = own.words.place + count } }

-- only the tables may be others
pub record IsSameBut (old new : Holdings) : Type 0 where
  pub opts : new.opts ≡ old.opts
  pub zones : new.zones ≡ old.zones
  pub words : new.words ≡ old.words
