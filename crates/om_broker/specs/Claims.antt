-- What a broker answers, and what a call adds to what it has made and seen.
use Rattle.std.specs.Prelude.{◌≡◌, ℕ, ◌+◌, ◌-◌, ◌^◌, ◌<◌, ◌≤◌, true, List, [], ◌∷◌, ◌++◌, length, min, Some, None, Contains}
use Rattle.std.specs.List.{AllByRecursion}
use Rattle.om_frame.specs.Frames.{PageBytes, zero_frames}
use Rattle.om_geom.specs.Addresses.{bit_of, zone_of}
use Rattle.om_geom.specs.Fit.{fit_of, has_bit, searched_bit, searched_zone}
use Rattle.om_geom.specs.Numbers.{zone_pages}
use Rattle.om_model.specs.Pool.Runs.{Run, run_of}
use Rattle.om_model.specs.declared.entry.Move.{Move}
use Rattle.om_model.specs.declared.entry.ZoneMove.{ZoneMove}
use Rattle.om_model.specs.declared.looks.Look.{Look}
use Rattle.om_broker.specs.Sights.{Seen, claimed, HasRun, LacksRun, Names, IsNoOlder, IsNewer}
use Rattle.om_broker.specs.declared.broker.Claim.{Claim}
use Rattle.om_broker.specs.declared.broker.Claim.TheVariants as claim
use Rattle.om_broker.specs.declared.broker.ClaimAt.{ClaimAt}
use Rattle.om_broker.specs.declared.broker.ClaimAt.TheVariants as at

-- a count that stays at the last number that it can hold
abbrev pub one_more_ask : ℕ → ℕ
one_more_ask asks = min (asks + 1) (2 ^ 64 - 1)

-- ---- a search by a word

-- the claim of so many pages is in the zone after those that were passed over, and its frames are zeros
pub record IsFound (zones n word passed : ℕ) (move : Move) (frames : List PageBytes) : Type 0 where
  pub few : passed < zones
  pub zone : move.zone ≡ searched_zone zones word passed
  pub count : move.count ≡ n
  pub inside : move.first + n ≤ zone_pages
  pub frames_are : frames ≡ zero_frames (run_of move).first n

-- where nothing was found each zone was passed over
abbrev pub Finds : ℕ → ℕ → ℕ → ℕ → Claim → Type 0
Finds zones n word passed (claim.Claimed move frames) = IsFound zones n word passed move frames
Finds zones n word passed claim.NoRun = passed ≡ zones

-- the moves that a claim spends: one, and one for each page; at most one where nothing was found
abbrev pub Spends : ℕ → ℕ → ℕ → Claim → Type 0
Spends old new n (claim.Claimed move frames) = old ≡ new + (n + 1)
Spends old new n claim.NoRun = (new ≤ old) × (old ≤ new + 1)

abbrev pub moves_of_claim : ℕ → Claim → List ZoneMove
moves_of_claim word (claim.Claimed move frames) = claimed move (Some word) ∷ []
moves_of_claim word claim.NoRun = []

-- ---- a claim at a given place

pub record IsGiven (zone first n : ℕ) (move : Move) (frames : List PageBytes) : Type 0 where
  pub zone_is : move.zone ≡ zone
  pub first_is : move.first ≡ first
  pub count : move.count ≡ n
  pub frames_are : frames ≡ zero_frames (run_of move).first n

abbrev pub FindsAt : ℕ → ℕ → ℕ → ClaimAt → Type 0
FindsAt zone first n (at.Claimed move frames) = IsGiven zone first n move frames
FindsAt zone first n (at.Taken look) = look.zone ≡ zone

abbrev pub SpendsAt : ℕ → ℕ → ℕ → ClaimAt → Type 0
SpendsAt old new n (at.Claimed move frames) = old ≡ new + (n + 1)
SpendsAt old new n (at.Taken look) = (new ≤ old) × (old ≤ new + 1)

abbrev pub moves_of_claim_at : ClaimAt → List ZoneMove
moves_of_claim_at (at.Claimed move frames) = claimed move None ∷ []
moves_of_claim_at (at.Taken look) = []

-- ---- a release

-- the page of the first frame
abbrev pub first_page : List PageBytes → ℕ
first_page [] = 0
first_page (frame ∷ frames) = frame.page

abbrev pub run_of_frames : List PageBytes → Run
run_of_frames frames = record { first = first_page frames; count = length frames }

-- frames of neighbouring pages of one zone, filled with zeros
pub record AreZeros (frames : List PageBytes) : Type 0 where
  pub some : 1 ≤ length frames
  pub one_zone : bit_of (first_page frames) + length frames ≤ zone_pages
  pub zeros_are : frames ≡ zero_frames (first_page frames) (length frames)

-- the move gives those pages back
pub record IsGivenBack (frames : List PageBytes) (move : Move) : Type 0 where
  pub zone_is : move.zone ≡ zone_of (first_page frames)
  pub first_is : move.first ≡ bit_of (first_page frames)
  pub count : move.count ≡ length frames

-- ---- what a call adds to the sight

-- a look that is made in this call shows that the zone had no such run
pub record ShowsFull (sight items : List Seen) (n word : ℕ) (look : Look) : Type 0 where
  pub item : Seen
  pub among : Contains items item
  pub names : Names look.zone look.version item
  pub full : fit_of (has_bit item.bits) n (searched_bit word) ≡ None
  pub new : IsNoOlder sight look.zone look.version

-- a look that is made in this call shows that a page of the run was held
pub record ShowsHeld (sight items : List Seen) (first n : ℕ) (look : Look) : Type 0 where
  pub item : Seen
  pub among : Contains items item
  pub names : Names look.zone look.version item
  pub bit : ℕ
  pub from : first ≤ bit
  pub to : bit < first + n
  pub held : has_bit item.bits bit ≡ true
  pub new : IsNoOlder sight look.zone look.version

-- the move is newer than what was seen of its zone, and is seen itself
pub record ShowsMove (sight items : List Seen) (m : ZoneMove) : Type 0 where
  pub item : Seen
  pub among : Contains items item
  pub names : Names m.made.zone m.made.version item
  pub new : IsNewer sight m.made.zone m.made.version

abbrev pub ShowsTaken : List Seen → List Seen → ℕ → ℕ → ClaimAt → Type 0
ShowsTaken sight items first n (at.Claimed move frames) = Unit {0}
ShowsTaken sight items first n (at.Taken look) = ShowsHeld sight items first n look

-- Whatever moves and sight a broker has, after a call it has these moves more, and items more of which this is so.
abbrev pub Adds : {B : Type 0} → (B → List ZoneMove → List Seen → Type 0) → B → B → List ZoneMove
    → (List ZoneMove → List Seen → List Seen → Type 0) → Type 0
Adds made old new more Shown =
    (moves : List ZoneMove) (sight : List Seen) → made old moves sight
    → (items : List Seen) × made new (moves ++ more) (sight ++ items) × AllByRecursion (ShowsMove sight items) more × Shown moves sight items

-- the broker had none of the claimed pages
abbrev pub LacksClaimed : List ZoneMove → Claim → Type 0
LacksClaimed moves (claim.Claimed move frames) = LacksRun moves (run_of move)
LacksClaimed moves claim.NoRun = Unit {0}

abbrev pub LacksGiven : List ZoneMove → ClaimAt → Type 0
LacksGiven moves (at.Claimed move frames) = LacksRun moves (run_of move)
LacksGiven moves (at.Taken look) = Unit {0}

-- a search shows each zone full that it passed over, and gives only pages that the broker doesn't have
pub record ShowsSearch (n word : ℕ) (looks : List Look) (answer : Claim) (moves : List ZoneMove) (sight items : List Seen) : Type 0 where
  pub looks_are : AllByRecursion (ShowsFull sight items n word) looks
  pub lacks : LacksClaimed moves answer

pub record ShowsPlace (first n : ℕ) (answer : ClaimAt) (moves : List ZoneMove) (sight items : List Seen) : Type 0 where
  pub taken : ShowsTaken sight items first n answer
  pub lacks : LacksGiven moves answer

abbrev pub ShowsNothingElse : List ZoneMove → List Seen → List Seen → Type 0
ShowsNothingElse moves sight items = Unit {0}

-- what the broker has made and seen, with the pages of the frames among those that it has
pub record HasFrames (Made : List ZoneMove → List Seen → Type 0) (frames : List PageBytes) : Type 0 where
  pub moves : List ZoneMove
  pub sight : List Seen
  pub made : Made moves sight
  pub has : HasRun moves (run_of_frames frames)
