-- What the plain forms of slow hold, in the terms of the definitions.
use Rattle.std.specs.Prelude.{ℕ, ◌+◌, ◌%◌, ◌^◌, ◌<◌, ◌==◌, List, [], ◌∷◌, map, Option, Some, None, IfSome, slice_index_or, if◌then◌else◌}
use Rattle.std.specs.List.{flat_map, range_with_len}
use Rattle.om_model.specs.Pool.Access as access
use Rattle.om_model.specs.Pool.InUse as used
use Rattle.om_model.specs.Pool.Realloc as reallocs
use Rattle.om_model.specs.Pool.Resizing as resizing
use Rattle.om_model.specs.Pool.Runs as runs
use Rattle.om_model.specs.Pool.Standing as stands
use Rattle.om_model.specs.Pool.Steps as steps
use Rattle.om_model.specs.Scripts.Calls.{seen_in}
use Rattle.om_model.specs.declared.entry.Asked.{Asked}
use Rattle.om_model.specs.declared.entry.Entry.{Entry}
use Rattle.om_model.specs.declared.entry.Move.{Move}
use Rattle.om_model.specs.declared.operation.Call.{Call}
use Rattle.om_model.specs.declared.reply.Reply.{Reply}
use Rattle.om_model.specs.declared.slow.access.PageState.{PageState}
use Rattle.om_model.specs.declared.slow.access.PageState.TheVariants as page_state
use Rattle.om_model.specs.declared.slow.calls.Answered.{Answered}
use Rattle.om_model.specs.declared.slow.in_use.Kind.{Kind}
use Rattle.om_model.specs.declared.slow.in_use.Kind.TheVariants as kind
use Rattle.om_model.specs.declared.slow.moving.Resize.{Resize}
use Rattle.om_model.specs.declared.slow.resizing.Way.{Way}
use Rattle.om_model.specs.declared.slow.resizing.Way.TheVariants as way
use Rattle.om_model.specs.declared.slow.standing.Standing.{Standing}
use Rattle.om_model.specs.declared.slow.standing.Standing.TheVariants as standing
use Rattle.om_model.specs.declared.slow.steps.Answers.{Answers}
use Rattle.om_model.specs.declared.slow.steps.Run.{Run}
use Rattle.om_model.specs.declared.slow.steps.Search.{Search}
use Rattle.om_model.specs.declared.slow.steps.Wish.{Wish}
use Rattle.om_model.specs.declared.slow.steps.Wish.TheVariants as wish

abbrev pub run_in : Run → runs.Run
run_in run = record { first = run.first; count = run.count }

abbrev pub kind_in : Kind → used.Kind
kind_in (kind.Chunk class) = used.Chunk class
kind_in kind.Pages = used.Pages
kind_in kind.Guard = used.Guard

abbrev pub page_state_in : PageState → access.PageState
page_state_in page_state.Plain = access.Plain
page_state_in page_state.Shut = access.Shut
page_state_in page_state.Guarding = access.Guarding

abbrev pub standing_in : Standing → stands.Standing
standing_in standing.NotHeld = stands.NotHeld
standing_in standing.FreePage = stands.FreePage
standing_in (standing.PageBlock block) = stands.PageBlock block
standing_in standing.InPageBlock = stands.InPageBlock
standing_in standing.OnGuard = stands.OnGuard
standing_in (standing.LivePlace place block) = stands.LivePlace place block
standing_in (standing.DelayedPlace place) = stands.DelayedPlace place
standing_in standing.FreePlace = stands.FreePlace
standing_in standing.Unaligned = stands.Unaligned

abbrev pub resize_in : Resize → reallocs.Resize
resize_in asked = record { block = asked.block; place = asked.place; size = asked.size; site = asked.site }

abbrev pub way_in : Way → resizing.Way
way_in way.Stays = resizing.Stays
way_in way.Shrinks = resizing.Shrinks
way_in way.Grows = resizing.Grows
way_in way.Claims = resizing.Claims
way_in way.Moves = resizing.Moves

-- a search, or nothing
abbrev pub searching : Option Search → steps.Wish
searching None = steps.Nothing
searching (Some search) = steps.Search search.count search.word

abbrev pub wish_in : Wish → steps.Wish
wish_in wish.Nothing = steps.Nothing
wish_in (wish.Search search) = steps.Search search.count search.word
wish_in (wish.At run otherwise) = steps.At (run_in run) (searching otherwise)

-- what a step goes by: the looks of a search don't matter to it
abbrev pub told_in : Answers → steps.Answers
told_in answers = record { claim = answers.claim; looks = []; taken = answers.taken }

-- the pages have numbers of 32 bits
abbrev pub IsSmallRun : runs.Run → Type 0
IsSmallRun run = run.first + run.count < 2 ^ 32

abbrev pub IsSmallClaim : Option Move → Type 0
IsSmallClaim claim = IfSome claim (λ move. IsSmallRun (runs.run_of move))

-- ---- the calls of a script, and how they are read from the journals

abbrev pub answered_in : Answered → Call × List Reply
answered_in answered = (answered.call, answered.replies.items)

abbrev pub answers_in : List Answered → List (Call × List Reply)
answers_in answered = map answered_in answered

-- what the journal of a pool shows of the caller
abbrev pub seen_at : ℕ → List (List Entry) → ℕ → List Asked
seen_at caller journals pool = seen_in caller (slice_index_or journals pool [])

-- the call of which this is the first reply
abbrev pub begun_by : Asked → List Call
begun_by asked = if asked.hop == 0 then record { command = asked.command; phase = asked.phase; op = asked.op } ∷ [] else []

-- the reply, where it is to the command and comes after so many
abbrev pub reply_to : ℕ → ℕ → Asked → List Reply
reply_to command hop asked = if asked.hop == hop then (if asked.command == command then asked.reply ∷ [] else []) else []

abbrev pub replies_at : ℕ → ℕ → (ℕ → List Asked) → ℕ → ℕ → List Reply
replies_at pools caller seen command hop = flat_map (reply_to command hop) (seen ((caller + hop) % pools))

-- the replies to the command, pool by pool from that of the caller on
abbrev pub replies_to : ℕ → ℕ → (ℕ → List Asked) → ℕ → List Reply
replies_to pools caller seen command = flat_map (replies_at pools caller seen command) (range_with_len 0 pools)

-- the call, and the replies to its command
abbrev pub answered_from : ℕ → ℕ → (ℕ → List Asked) → Call → Call × List Reply
answered_from pools caller seen call = (call, replies_to pools caller seen call.command)

-- the caller's calls and the replies to each, as the pools' journals show them
abbrev pub calls_read : ℕ → ℕ → (ℕ → List Asked) → List (Call × List Reply)
calls_read pools caller seen = map (answered_from pools caller seen) (flat_map begun_by (seen (caller % pools)))
