-- Frames: pages with their bytes, and how memory gets and loses them.
use Rattle.std.specs.Prelude.{◌≡◌, ℕ, ◌+◌, ◌<◌, ◌≤◌, true, List, [], ◌∷◌, length, map, replicate, slice_set}
use Rattle.std.specs.List.{range_with_len}
use Rattle.om_geom.specs.Numbers.{page_size}
use Rattle.om_frame.specs.Memory.{is_held}

pub record PageBytes : Type 0 where
  pub page : ℕ
  pub bytes : List ℕ

unfoldable pub zeros : List ℕ
zeros = replicate page_size 0

abbrev pub zero_frame : ℕ → PageBytes
zero_frame page = record { page = page; bytes = zeros }

-- so many pages from the first on, as zeros
abbrev pub zero_frames : ℕ → ℕ → List PageBytes
zero_frames first n = map zero_frame (range_with_len first n)

-- the page that follows those of the frames, the first of which is given where there are no frames
abbrev pub next_page : List PageBytes → ℕ → ℕ
next_page [] first = first
next_page (frame ∷ frames) first = frame.page + 1 + length frames

-- each page is the next after the one before it
abbrev pub AreNeighbours : List PageBytes → Type 0
AreNeighbours [] = Unit {0}
AreNeighbours (frame ∷ frames) = map (λ other. other.page) frames ≡ range_with_len (frame.page + 1) (length frames)

-- the pages of the frames come to memory with their bytes
abbrev pub with_frames : List (List ℕ) → List PageBytes → List (List ℕ)
with_frames memory [] = memory
with_frames memory (frame ∷ frames) = with_frames (slice_set memory frame.page frame.bytes) frames

-- what is left of a page that isn't held
abbrev pub empty_frame : ℕ → PageBytes
empty_frame page = record { page = page; bytes = [] }

-- so many pages from the first on leave memory
abbrev pub without_pages : List (List ℕ) → ℕ → ℕ → List (List ℕ)
without_pages memory first n = with_frames memory (map empty_frame (range_with_len first n))

-- all of so many pages are held
abbrev pub AreHeld : List (List ℕ) → ℕ → ℕ → Type 0
AreHeld memory first n = (page : ℕ) → first ≤ page → page < first + n → is_held memory page ≡ true
