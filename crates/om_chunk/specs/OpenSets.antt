-- For each of the nine classes the pages of the class that have a free place, as flags: one a page of the arena.
use Rattle.std.specs.Prelude.{◌≡◌, ℕ, Bool, true, false, nat_eq, IsTrue, List, [], ◌∷◌, length, map, filter, slice_get, slice_set, slice_index_or, Option, Some, ◌%◌}
use Rattle.std.specs.List.{range_with_len, position_or_len}
use Rattle.om_geom.specs.Classes.{chunk_classes, is_class}
use Rattle.om_chunk.specs.Picks.{is_open}
use Rattle.om_chunk.specs.Places.{ChunkPage, is_unused}

-- which of the nine classes it is, in ascending order
abbrev pub class_index : ℕ → ℕ
class_index class = position_or_len (nat_eq class) (0 ∷ chunk_classes)

-- the pages that are flagged, in ascending order
abbrev pub flagged_pages : List Bool → List ℕ
flagged_pages flags = filter (λ page. slice_index_or flags page false) (range_with_len 0 (length flags))

-- of these the one that the word chooses; none where there is none
abbrev pub chosen_page : List Bool → ℕ → Option ℕ
chosen_page flags word = slice_get (flagged_pages flags) (word % length (flagged_pages flags))

abbrev pub flags_of : List (List Bool) → ℕ → List Bool
flags_of sets class = slice_index_or sets (class_index class) []

-- once the page's flag of the class is so
abbrev pub with_flag : List (List Bool) → ℕ → ℕ → Bool → List (List Bool)
with_flag sets class page flag = slice_set sets (class_index class) (slice_set (flags_of sets class) page flag)

-- one a class, in which just the pages of the class that have a free place are flagged
pub record AreOpen (pages : List (Option ChunkPage)) (sets : List (List Bool)) : Type 0 where
  pub nine : length sets ≡ 9
  pub each : (class : ℕ) → IsTrue (is_class class) → flags_of sets class ≡ map (is_open class) pages

-- it is a chunk page of the class on which no place is live or delayed
pub record IsUnusedOf (class : ℕ) (page : Option ChunkPage) : Type 0 where
  pub there : ChunkPage
  pub is : page ≡ Some there
  pub class_is : there.class ≡ class
  pub is_one : IsTrue (is_class class)
  pub unused : is_unused there ≡ true
