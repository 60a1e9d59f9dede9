-- Ranges of the numbers that an output tells: each is one that its type holds.
use Rattle.std.specs.Prelude.{IfSome}
use Rattle.std.specs.List.{AllByRecursion}
use Rattle.om_opts.specs.declared.options.Opts.{Opts}
use Rattle.om_words.specs.declared.plan.WordPlan.{WordPlan}
use Rattle.om_words.specs.declared.plan.WordPlan.TheVariants.{Listed, Seeded}
use Rattle.om_model.specs.Data.Ranges.{IsByte, IsU32, IsU64, FitsJournal, FitsOutcome}
use Rattle.om_model.specs.Output.Content.{Told, Content}
use Rattle.om_model.specs.Output.Head.{Head}
use Rattle.om_model.specs.declared.board.BoardEntry.{BoardEntry}
use Rattle.om_model.specs.declared.board.BoardEntry.TheVariants as posted

abbrev pub FitsBoardEntry : BoardEntry → Type 0
FitsBoardEntry (posted.Post caller command cell value) = IsU32 caller × IsU32 command × IsU32 cell × IsU64 value
FitsBoardEntry (posted.Take caller command cell value) = IsU32 caller × IsU32 command × IsU32 cell × IfSome value IsU64
FitsBoardEntry (posted.Phase number) = IsU32 number

pub record FitsOptions (options : Opts) : Type 0 where
  pub junk : IsByte options.junk
  pub cache : IsU32 options.cache
  pub pools : IsU32 options.pools

abbrev pub FitsPlan : WordPlan → Type 0
FitsPlan (Listed words) = AllByRecursion IsU32 words
FitsPlan (Seeded seed) = IsU64 seed

pub record FitsHead (head : Head) : Type 0 where
  pub options : FitsOptions head.options
  pub zones : IsU32 head.zones
  pub plan : FitsPlan head.plan
  pub warned : AllByRecursion IsByte head.warned

abbrev pub FitsTold : Told → Type 0
FitsTold told = AllByRecursion FitsOutcome told.outcomes

-- every number of the content is one that its type holds
pub record IsInRange (content : Content) : Type 0 where
  pub head : FitsHead content.head
  pub journals : AllByRecursion FitsJournal content.journals
  pub board : AllByRecursion FitsBoardEntry content.board
  pub transcripts : AllByRecursion FitsTold content.transcripts
