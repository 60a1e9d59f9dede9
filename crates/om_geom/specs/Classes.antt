-- Size classes. Class 0 is for size 0. A greater size has the least class from 16 to 2048 that holds it,
-- with one byte more where canaries are written. What no class holds is a block of whole pages.
use Rattle.std.specs.Prelude.{ℕ, ◌+◌, ◌-◌, ◌/◌, Bool, ◌||◌, if◌then◌else◌, ◌==◌, nat_eq, nat_le, Option, Some, List, [], ◌∷◌}
use Rattle.std.specs.List.{find, list_any}
use Rattle.om_geom.specs.Numbers.{page_size, largest_class}

abbrev pub chunk_classes : List ℕ
chunk_classes = 16 ∷ 32 ∷ 64 ∷ 128 ∷ 256 ∷ 512 ∷ 1024 ∷ largest_class ∷ []

abbrev pub is_class : ℕ → Bool
is_class class = class == 0 || list_any (nat_eq class) chunk_classes

-- the least class of at least n bytes
abbrev pub least_class : ℕ → Option ℕ
least_class n = find (nat_le n) chunk_classes

-- none for a page block
abbrev pub class_of : ℕ → Bool → Option ℕ
class_of size canary = if size == 0 then Some 0 else least_class (if canary then size + 1 else size)

-- the bytes from one place of a class to the next
abbrev pub stride_of : ℕ → ℕ
stride_of class = if class == 0 then 16 else class

-- how many places a page of the class has
abbrev pub places_of : ℕ → ℕ
places_of class = page_size / stride_of class

-- how many pages hold so many bytes
abbrev pub data_pages : ℕ → ℕ
data_pages size = (size + (page_size - 1)) / page_size
