-- Lines and words. A text is cut into lines at each byte 10; the last line may end without it. Tab, carriage return and
-- space are blanks. `#` and all that follows it on the line are a comment. What is left is cut into words at blanks.
use Rattle.std.specs.Prelude.{ℕ, Bool, ◌&&◌, ◌||◌, ◌==◌, nat_le, List, [], ◌∷◌, length, filter, if◌then◌else◌}
use Rattle.std.specs.List.{slice_split, onto_first, before_first, list_all}

-- the lines of a text
abbrev pub text_lines : List ℕ → List (List ℕ)
text_lines [] = []
text_lines (b ∷ bs) = if b == 10 then [] ∷ text_lines bs else onto_first b (text_lines bs)

abbrev pub is_blank : ℕ → Bool
is_blank b = b == 9 || b == 13 || b == 32

-- a byte that may stand on a line, in a comment too
abbrev pub is_allowed : ℕ → Bool
is_allowed b = b == 9 || b == 13 || (nat_le 32 b && nat_le b 126)

abbrev pub is_ascii_line : List ℕ → Bool
is_ascii_line line = list_all is_allowed line

-- what stands before the first `#`
abbrev pub without_comment : List ℕ → List ℕ
without_comment line = before_first (λ b. b == 35) line

-- what stands between blanks, where anything does
abbrev pub words_in : List ℕ → List (List ℕ)
words_in text = filter (λ word. nat_le 1 (length word)) (slice_split is_blank text)

abbrev pub words_of : List ℕ → List (List ℕ)
words_of line = words_in (without_comment line)
