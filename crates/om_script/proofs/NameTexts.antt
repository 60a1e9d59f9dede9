-- Names are plain text, and the limits of the words that fit.
use Rattle.std.proofs.Common.{◌≡◌, refl, Bool, true, false, ◌&&◌, ◌||◌, List, [], ◌∷◌, ℕ, zero, suc, ◌<◌, ◌^◌, length, arith, Option, Some, None, leb, slice_get, IsUtf8, lit<}
use Rattle.std.proofs.lemmas.Bool.Decides.{nat_tests}
use Rattle.std.specs.List.{list_all}
use Rattle.std.specs.Str.{IsAscii}
use Rattle.std.specs.Option.{option_map_or}
use Rattle.std.proofs.lemmas.Str.{IsUtf8-from_ascii}
use Rattle.om_script.specs.declared.keyword.Kind.{Kind}
use Rattle.om_script.specs.declared.keyword.Kind.TheVariants.{Number, Byte, Cell, Site}
use Rattle.om_script.specs.Words.{is_name, is_name_byte, is_letter, value_of, site_value}
use Rattle.om_script.specs.Keywords.{any_word, is_too_large, is_no_cell, number_at, site_at, word_at}

and_front : (a b : Bool) → (a && b) ≡ true → a ≡ true
and_front true b e = refl
and_front false b e = cc

and_back : (a b : Bool) → (a && b) ≡ true → b ≡ true
and_back true b e = e
and_back false b e = cc

or_front : (a b : Bool) → (a || b) ≡ false → a ≡ false
or_front true b e = cc
or_front false b e = refl

or_back : (a b : Bool) → (a || b) ≡ false → b ≡ false
or_back true b e = cc
or_back false b e = e

name_byte_small : (b : ℕ) → is_name_byte b ≡ true → b < 128
name_byte_small b e = grind (arith, nat_tests)

name_bytes_ascii : (bs : List ℕ) → list_all is_name_byte bs ≡ true → IsAscii bs
name_bytes_ascii [] e i = omega arith
name_bytes_ascii (b ∷ bs) e zero = name_byte_small b (and_front (is_name_byte b) (list_all is_name_byte bs) e)
name_bytes_ascii (b ∷ bs) e (suc i) = name_bytes_ascii bs (and_back (is_name_byte b) (list_all is_name_byte bs) e) i

pub name_is_text : (name : List ℕ) → is_name name ≡ true → IsUtf8 name
name_is_text name e =
    IsUtf8-from_ascii name (name_bytes_ascii name (and_back (option_map_or is_letter (slice_get name 0) false && leb (length name) 16) (list_all is_name_byte name) e))

-- ---- words that are not too large

small : (n m : ℕ) → leb n m ≡ false → m < n
small n m e = grind (arith, nat_tests)

-- no word of a kind passes a test that none of the words pass
none_at : (test : Kind → List ℕ → Bool) (kinds : List Kind) (words : List (List ℕ)) (kind : Kind) (i : ℕ) (word : List ℕ) →
    any_word test kinds words ≡ false → slice_get kinds i ≡ Some kind → slice_get words i ≡ Some word → test kind word ≡ false
none_at test [] words kind i word e k w = cc
none_at test (first ∷ kinds) [] kind i word e k w = cc
none_at test (first ∷ kinds) (front ∷ words) kind zero word e k w =
    let here : test first front ≡ false = or_front (test first front) (any_word test kinds words) e in cc
none_at test (first ∷ kinds) (front ∷ words) kind (suc i) word e k w =
    none_at test kinds words kind i word (or_back (test first front) (any_word test kinds words) e) k w

at_word : (words : List (List ℕ)) (i : ℕ) (P : List ℕ → Type 0) → P [] → ((word : List ℕ) → slice_get words i ≡ Some word → P word) → P (word_at words i)
at_word [] i P none some = none
at_word (word ∷ words) zero P none some = some word refl
at_word (word ∷ words) (suc i) P none some = at_word words i P none some

pub number_small : (kinds : List Kind) (words : List (List ℕ)) (i : ℕ) → any_word is_too_large kinds words ≡ false → slice_get kinds i ≡ Some Number → number_at words i < 2 ^ 64
number_small kinds words i e k = at_word words i (λ word. value_of word < 2 ^ 64) (lit< tt) (λ word w. small _ (value_of word) (none_at is_too_large kinds words Number i word e k w))

pub byte_small : (kinds : List Kind) (words : List (List ℕ)) (i : ℕ) → any_word is_too_large kinds words ≡ false → slice_get kinds i ≡ Some Byte → number_at words i < 256
byte_small kinds words i e k = at_word words i (λ word. value_of word < 256) (lit< tt) (λ word w. small _ (value_of word) (none_at is_too_large kinds words Byte i word e k w))

pub cell_small : (kinds : List Kind) (words : List (List ℕ)) (i : ℕ) → any_word is_no_cell kinds words ≡ false → slice_get kinds i ≡ Some Cell → number_at words i < 64
cell_small kinds words i e k = at_word words i (λ word. value_of word < 64) (lit< tt) (λ word w. small _ (value_of word) (none_at is_no_cell kinds words Cell i word e k w))

pub site_small : (kinds : List Kind) (words : List (List ℕ)) (i : ℕ) → any_word is_too_large kinds words ≡ false → slice_get kinds i ≡ Some Site → site_at words i < 2 ^ 64
site_small kinds words i e k = by (slice_get words i) (λ word w. small _ (site_value word) (none_at is_too_large kinds words Site i word e k w))
  where
    by : (o : Option (List ℕ)) → ((word : List ℕ) → o ≡ Some word → site_value word < 2 ^ 64) → option_map_or site_value o 0 < 2 ^ 64
    by None h = lit< tt
    by (Some word) h = h word refl
