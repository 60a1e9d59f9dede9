-- Frames at the front of a row of 32 places.
use Rattle.std.specs.Prelude.{◌≡◌, ℕ, ◌-◌, ◌≤◌, List, ◌++◌, length, map, replicate, Option, Some, None, filter_map}
use Rattle.om_geom.specs.Numbers.{zone_pages}
use Rattle.om_frame.specs.Frames.{PageBytes, AreNeighbours}

-- the frames, in the order of their places
abbrev pub packed : List (Option PageBytes) → List PageBytes
packed places = filter_map (λ place. place) places

-- so many frames, and as many empty places after them
abbrev pub row : List PageBytes → ℕ → List (Option PageBytes)
row frames empty = map Some frames ++ replicate empty None

pub record IsPacked (places : List (Option PageBytes)) (len : ℕ) : Type 0 where
  pub many : length (packed places) ≡ len
  pub few : len ≤ zone_pages
  pub front : places ≡ row (packed places) (zone_pages - len)
  pub neighbours : AreNeighbours (packed places)
