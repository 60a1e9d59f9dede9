-- The pages for a block: some of the pool's own, or claimed ones that aren't held yet. What becomes of the tables by
-- a chunk on a page, and by a page block on a run.
use Rattle.std.specs.Prelude.{◌≡◌, ℕ, ◌+◌, ◌*◌, ◌<◌, ◌≤◌, Bool, List, length, Option, Some, None}
use Rattle.om_broker.specs.declared.broker.Claim.{Claim}
use Rattle.om_broker.specs.declared.broker.Claim.TheVariants.{Claimed}
use Rattle.om_frame.specs.Frames.{PageBytes, zero_frames}
use Rattle.om_chunk.specs.Picks.{place_on, IsFreeOn}
use Rattle.om_chunk.specs.declared.pages.Picked.{Picked}
use Rattle.om_geom.specs.Addresses.{address_of, bit_of}
use Rattle.om_geom.specs.Numbers.{most_zones, zone_pages}
use Rattle.om_geom.specs.declared.address.Page.{Page}
use Rattle.om_model.specs.Pool.Journal.{step_of, wish_of}
use Rattle.om_model.specs.Pool.Malloc.{malloc}
use Rattle.om_model.specs.Pool.Picks.{place_address}
use Rattle.om_model.specs.Pool.Rules.{Rules}
use Rattle.om_model.specs.Pool.Runs.{Run, run_of}
use Rattle.om_model.specs.Pool.Steps.{unchanged, null_or_fault, null_or_fault_by, Nothing, Step}
use Rattle.om_model.specs.declared.entry.Move.{Move}
use Rattle.om_model.specs.declared.operation.Op.{Op}
use Rattle.om_model.specs.declared.operation.Op.TheVariants.{Malloc}
use Rattle.om_model.specs.declared.operation.Who.{Who}
use Rattle.om_model.specs.declared.reply.Reply.{Reply}
use Rattle.om_model.specs.declared.reply.Reply.TheVariants as reply
use Rattle.om_model.specs.declared.reply.Why.{Why}
use Rattle.om_model.specs.declared.reply.Why.TheVariants as why
use Rattle.om_pages.specs.FreeRuns.{lowest_run}
use Rattle.om_pages.specs.Kinds.{is_absent, is_held}
use Rattle.om_pages.specs.Tables.{with_data, AreAll}
use Rattle.om_pool.specs.Chunks.{HoldsPage}
use Rattle.om_pool.specs.CoreKept.{core_state, core_view}
use Rattle.om_pool.specs.HoldingsView.{rules_in}
use Rattle.om_pool.specs.PoolView.{Takes}
use Rattle.om_pool.specs.TableSteps.{block_on_pages, claimed_run, fresh_page, settled}
use Rattle.om_pool.specs.Tables.{Tables}
use Rattle.om_pool.specs.Unasked.{no_answers}
use Rattle.om_pool.specs.declared.blocks.Request.{Request}
use Rattle.om_pool.specs.declared.holdings.Holdings.{Holdings}
use Rattle.om_pool.specs.declared.pool_core.Core.{Core}

-- the call took the step of an allocation, given the claim
abbrev pub Mallocs : Core → Core → Who → ℕ → ℕ → Reply → Type 0
Mallocs old new who size site answer =
    Takes (core_view old) (core_view new) who (Malloc size site) answer (λ answers. malloc (rules_in old.state) (core_state old) size site answers.claim)

-- the null, or the fault in its place, of a call that is refused at once
abbrev pub refusal : Core → Why → Step
refusal core why = unchanged (core_state core) (null_or_fault (rules_in core.state) why)

-- the call asks for nothing, and that is its step
pub record IsRefused (core : Core) (op : Op) (why : Why) : Type 0 where
  pub wish : wish_of (rules_in core.state) (core_state core) op ≡ Nothing
  pub step : step_of (rules_in core.state) (core_state core) op no_answers ≡ Some (refusal core why)

-- the block, or that no run was found
abbrev pub reply_for : Bool → Option ℕ → Reply
reply_for xmalloc (Some address) = reply.Block address
reply_for xmalloc None = null_or_fault_by xmalloc why.NoRun

-- ---- what is claimed

-- a claim of so many pages of the arena that aren't held, with their frames
pub record IsForClaim (zones : ℕ) (tables : Tables) (n : ℕ) (claim : Move) (frames : List PageBytes) : Type 0 where
  pub there : (run_of claim).first + n ≤ zone_pages * zones
  pub fresh : AreAll is_absent tables.pages (run_of claim).first n
  pub count_is : claim.count ≡ n
  pub one_zone : bit_of (run_of claim).first + n ≤ zone_pages
  pub frames_are : frames ≡ zero_frames (run_of claim).first n

abbrev pub IsFor : ℕ → Tables → ℕ → Option Claim → Type 0
IsFor zones tables n (Some (Claimed move frames)) = IsForClaim zones tables n move frames
IsFor zones tables n other = Unit {0}

-- ---- a chunk

-- a free place of a held page of the class
pub record IsOwnPlace (own : Holdings) (class : ℕ) (found : Picked) : Type 0 where
  pub there : (found.page).0 < zone_pages * most_zones
  pub held : HoldsPage own.shelf (found.page).0
  pub free : IsFreeOn own.chunks.pages class (found.page).0 found.place

pub record IsPlacedOn (rules : Rules) (before new : Tables) (class page place size site : ℕ) (result : Option ℕ) : Type 0 where
  pub result_is : result ≡ Some (place_address page class place)
  pub new_is : new ≡ settled rules before (place_address page class place) class size site

-- a claimed page comes, and becomes a chunk page
abbrev pub opened : Tables → Run → ℕ → Tables
opened old run class = fresh_page (claimed_run old run) run.first class

pub record IsPlacedFirst (rules : Rules) (old new : Tables) (run : Run) (class word size site : ℕ) (result : Option ℕ) : Type 0 where
  pub place : ℕ
  pub place_is : place_on (opened old run class).chunks run.first word ≡ Some place
  pub on : IsPlacedOn rules (opened old run class) new class run.first place size site result

abbrev pub PlacesClaimed : Rules → Tables → Tables → ℕ → ℕ → ℕ → ℕ → Option ℕ → Option Claim → Type 0
PlacesClaimed rules old new class word size site result (Some (Claimed move frames)) = IsPlacedFirst rules old new (run_of move) class word size site result
PlacesClaimed rules old new class word size site result other = (new ≡ old) × (result ≡ None)

-- on the pool's own place, or on one of the claimed page
abbrev pub PlacesBlock : Rules → Tables → Tables → ℕ → ℕ → ℕ → ℕ → Option ℕ → Option Picked → Option Claim → Type 0
PlacesBlock rules old new class word size site result (Some found) answer = IsPlacedOn rules old new class (found.page).0 found.place size site result
PlacesBlock rules old new class word size site result None answer = PlacesClaimed rules old new class word size site result answer

-- ---- a page block

-- so many held pages of one zone
pub record IsOwnRun (own : Holdings) (n first : ℕ) : Type 0 where
  pub there : first + n ≤ zone_pages * most_zones
  pub one_zone : bit_of first + n ≤ zone_pages
  pub held : AreAll is_held own.pages first n
  pub in_blocks : first < length own.blocks
  pub bytes : (page : ℕ) → first ≤ page → page < first + n → HoldsPage own.shelf page

-- the lowest run of free pages is marked as taken
abbrev pub taken_run : Tables → ℕ → ℕ → Tables
taken_run tables n first = record tables { pages = with_data tables.pages first n }

abbrev pub TakesRun : Tables → Tables → ℕ → Option Page → Type 0
TakesRun old new n (Some page) = (lowest_run old.pages n ≡ Some page.0) × (new ≡ taken_run old n page.0)
TakesRun old new n None = (lowest_run old.pages n ≡ None) × (new ≡ old)

pub record IsBlockOn (rules : Rules) (before new : Tables) (first pages : ℕ) (request : Request) (result : Option ℕ) : Type 0 where
  pub result_is : result ≡ Some (address_of first)
  pub new_is : new ≡ block_on_pages rules before first pages request

abbrev pub PutsClaimed : Rules → Tables → Tables → ℕ → Request → Option ℕ → Option Claim → Type 0
PutsClaimed rules old new pages request result (Some (Claimed move frames)) = IsBlockOn rules (claimed_run old (run_of move)) new (run_of move).first pages request result
PutsClaimed rules old new pages request result other = (new ≡ old) × (result ≡ None)

-- on the pool's own run, or on the claimed one
abbrev pub PutsBlock : Rules → Tables → Tables → ℕ → Request → Option ℕ → Option Page → Option Claim → Type 0
PutsBlock rules old new pages request result (Some first) answer = IsBlockOn rules old new first.0 pages request result
PutsBlock rules old new pages request result None answer = PutsClaimed rules old new pages request result answer
