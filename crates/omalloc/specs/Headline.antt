-- What a written run is. Each journal is a run of one pool, as if it were alone; the zones are taken in an
-- order in which no page has two pools; each script's calls stand in the journals, each once and in its
-- order, with the outcomes that its transcript tells; and nobody else's calls stand there. The head and the
-- names are the given ones, the board is empty, each look at a zone that was passed over is true, and at each
-- place of a journal what is in use lies on held pages and shares no byte.
use Rattle.std.specs.Prelude.{◌≡◌, ℕ, ◌<◌, Bool, Some, List, [], ◌++◌, length, map, slice_get, slice_index_or}
use Rattle.std.specs.List.{AllByRecursion, list_any}
use Rattle.om_model.specs.declared.entry.Entry.{Entry}
use Rattle.om_model.specs.Output.Conditions.{IsContent}
use Rattle.om_model.specs.Output.Content.{Told, Content}
use Rattle.om_model.specs.Output.Head.{Head, rules_of}
use Rattle.om_model.specs.Pool.Journal.{IsLawful, state_of}
use Rattle.om_model.specs.Pool.WellFormed.{IsWellFormed}
use Rattle.om_model.specs.Scripts.Calls.{OnlyCallers}
use Rattle.om_model.specs.Scripts.Outcomes.{is_fault}
use Rattle.om_model.specs.Zones.Looks.{AreLooks}
use Rattle.om_model.specs.Zones.Moves.{moves_from}
use Rattle.om_model.specs.Zones.Order.{IsZoneOrder}
use Rattle.om_model.specs.declared.entry.ZoneMove.{ZoneMove}
use Rattle.omalloc.specs.Script.{ScriptText}
use Rattle.omalloc.specs.ScriptRun.{IsScriptRun}

-- the moves of all journals
abbrev pub moves_in : Head → Content → List ZoneMove
moves_in head content = moves_from (rules_of head) 0 content.journals

abbrev pub journal_of : Content → ℕ → List Entry
journal_of content pool = slice_index_or content.journals pool []

pub record IsHeadline (head : Head) (scripts : List ScriptText) (content : Content) : Type 0 where
  pub head_is : content.head ≡ head
  pub form : IsContent content
  pub board : content.board ≡ []
  pub names : map (λ told. told.name) content.transcripts ≡ map (λ script. script.name) scripts
  pub lawful : (pool : ℕ) → pool < head.options.pools → IsLawful (rules_of head pool) (journal_of content pool)
  pub apart : (pool : ℕ) (before rest : List Entry) → pool < head.options.pools → journal_of content pool ≡ before ++ rest
      → IsWellFormed (rules_of head pool) (state_of (rules_of head pool) before)
  pub order : IsZoneOrder (moves_in head content)
  pub looks : (pool : ℕ) → pool < head.options.pools → AreLooks (rules_of head pool) (moves_in head content) (journal_of content pool)
  pub ran : (caller : ℕ) (script : ScriptText) (told : Told) → slice_get scripts caller ≡ Some script → slice_get content.transcripts caller ≡ Some told
      → IsScriptRun head.options.pools caller (length script.names) script.commands content.journals told.outcomes
  pub only : AllByRecursion (OnlyCallers (length scripts) 1) content.journals

-- some script met a fault
abbrev pub is_faulted : Content → Bool
is_faulted content = list_any (λ told. list_any is_fault told.outcomes) content.transcripts
