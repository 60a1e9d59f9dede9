-- The flags of the open pages tell what the pages do, and go on doing so.
use Rattle.std.proofs.Common.{◌≡◌, ◌≢◌, ℕ, zero, suc, ◌%◌, ◌<◌, Bool, true, false, ◌&&◌, List, [], ◌∷◌, length, get_or, set, map, replicate, Option, Some, None, IsTrue, refl, sym, subst, ap, ◌∙◌, arith, lit≤}
use Rattle.std.specs.Prelude.{IfSome}
use Rattle.std.specs.List.{filter, range_with_len, slice_get}
use Rattle.std.proofs.lemmas.Bool.{cases_eq, eq-eqb, ne_eqb}
use Rattle.std.proofs.lemmas.List.{get_or-set_same, get_or-set_other, get_or-replicate, length-set, length-map, map-set, set-get_or}
use Rattle.std.proofs.lemmas.List.Elements.{filter_agree}
use Rattle.om_geom.specs.Classes.{chunk_classes, is_class}
use Rattle.om_geom.specs.ClassLaws.{class-cases}
use Rattle.om_chunk.specs.OpenSets.{class_index, flagged_pages, chosen_page, flags_of, with_flag, AreOpen}
use Rattle.om_chunk.specs.Pages.{page_in}
use Rattle.om_chunk.specs.Picks.{is_open, open_pages, picked_page}
use Rattle.om_chunk.specs.Places.{ChunkPage, has_free, fresh_page}
use mathlib.Core.Logic.{⊎_elim}

-- ---- the index of a class

class_at-index : (class : ℕ) → IsTrue (is_class class) → get_or (0 ∷ chunk_classes) (class_index class) 1 ≡ class
class_at-index = class-cases (λ class. get_or (0 ∷ chunk_classes) (class_index class) 1 ≡ class) refl refl refl refl refl refl refl refl refl

class_index-below : (class : ℕ) → IsTrue (is_class class) → class_index class < 9
class_index-below = class-cases (λ class. class_index class < 9) (lit≤ tt) (lit≤ tt) (lit≤ tt) (lit≤ tt) (lit≤ tt) (lit≤ tt) (lit≤ tt) (lit≤ tt) (lit≤ tt)

class_index-apart : (class other : ℕ) → IsTrue (is_class class) → IsTrue (is_class other) → other ≢ class → class_index other ≢ class_index class
class_index-apart class other given given_other ne same =
    ne (sym (class_at-index other given_other) ∙ ap (λ i. get_or (0 ∷ chunk_classes) i 1) same ∙ class_at-index class given)

-- ---- what a pick finds

flag-open : (class : ℕ) (pages : List (Option ChunkPage)) (page : ℕ) → get_or (map (is_open class) pages) page false ≡ is_open class (get_or pages page None)
flag-open class [] page = refl
flag-open class (there ∷ pages) zero = refl
flag-open class (there ∷ pages) (suc page) = flag-open class pages page

flagged_pages-open : (class : ℕ) (pages : List (Option ChunkPage)) → flagged_pages (map (is_open class) pages) ≡ open_pages pages class
flagged_pages-open class pages =
    filter_agree (λ page. get_or (map (is_open class) pages) page false) (λ page. is_open class (page_in pages page)) (flag-open class pages) (range_with_len 0 (length (map (is_open class) pages)))
    ∙ ap (λ n. filter (λ page. is_open class (page_in pages page)) (range_with_len 0 n)) (length-map pages (is_open class))

pub chosen_page-open : (pages : List (Option ChunkPage)) (sets : List (List Bool)) → AreOpen pages sets → (class word : ℕ) → IsTrue (is_class class) → chosen_page (flags_of sets class) word ≡ picked_page pages class word
chosen_page-open pages sets opened class word given =
    ap (λ xs. slice_get xs (word % length xs)) (ap flagged_pages (opened.each class given) ∙ flagged_pages-open class pages)

-- ---- once one page is another one of its class

abbrev pub IsOf : ℕ → Option ChunkPage → Type 0
IsOf class page = IfSome page (λ there. there.class ≡ class)

closed-other : (class other : ℕ) (page : Option ChunkPage) → IsOf class page → other ≢ class → is_open other page ≡ false
closed-other class other None of ne = refl
closed-other class other (Some there) of ne = ap (λ b. b && has_free there) (ne_eqb there.class other (λ e. ne (sym e ∙ of)))

module _ (pages : List (Option ChunkPage)) (sets : List (List Bool)) (opened : AreOpen pages sets) (class page : ℕ) (given : IsTrue (is_class class)) (there : page < length pages) where
  -- it has a flag
  pub flag-there : page < length (flags_of sets class)
  flag-there = omega (arith, ap length (opened.each class given), length-map pages (is_open class))

  module _ (old : IsOf class (page_in pages page)) (next : Option ChunkPage) (of : IsOf class next) (free : Bool) (is : free ≡ is_open class next) where
    here : flags_of (with_flag sets class page free) class ≡ map (is_open class) (set pages page next)
    here =
        get_or-set_same sets (class_index class) (set (flags_of sets class) page free) [] (omega (arith, opened.nine, class_index-below class given))
        ∙ ap (λ flags. set flags page free) (opened.each class given)
        ∙ ap (λ flag. set (map (is_open class) pages) page flag) is
        ∙ sym (map-set (is_open class) pages page next)

    elsewhere : (other : ℕ) → IsTrue (is_class other) → other ≢ class → flags_of (with_flag sets class page free) other ≡ map (is_open other) (set pages page next)
    elsewhere other is_other ne =
        get_or-set_other sets (class_index class) (class_index other) (set (flags_of sets class) page free) [] (class_index-apart class other given is_other ne)
        ∙ opened.each other is_other
        ∙ sym (set-get_or (map (is_open other) pages) page false)
        ∙ ap (set (map (is_open other) pages) page) (flag-open other pages page ∙ closed-other class other (page_in pages page) old ne ∙ sym (closed-other class other next of ne))
        ∙ sym (map-set (is_open other) pages page next)

    pub open-replaced : AreOpen (set pages page next) (with_flag sets class page free)
    open-replaced = record {
      nine = length-set sets (class_index class) (set (flags_of sets class) page free) ∙ opened.nine;
      each = λ other is_other. ⊎_elim
          (λ same. subst (λ c. flags_of (with_flag sets class page free) c ≡ map (is_open c) (set pages page next)) (sym same) here)
          (λ ne. elsewhere other is_other ne)
          (cases_eq other class);
    }

-- ---- pages of a class, and pages that are new

pub open-of : (class : ℕ) (there : ChunkPage) → class ≡ there.class → has_free there ≡ is_open class (Some there)
open-of class there is = sym (ap (λ b. b && has_free there) (eq-eqb there.class class (sym is)))

pub open-fresh : (class : ℕ) → IsTrue (is_class class) → is_open class (Some (fresh_page class)) ≡ true
open-fresh = class-cases (λ class. is_open class (Some (fresh_page class)) ≡ true) refl refl refl refl refl refl refl refl refl

map-none : (class n : ℕ) → replicate n false ≡ map (is_open class) (replicate n None)
map-none class zero = refl
map-none class (suc n) = ap (λ flags. false ∷ flags) (map-none class n)

pub open-none : (n : ℕ) → AreOpen (replicate n None) (replicate 9 (replicate n false))
open-none n = record {
  nine = refl;
  each = λ class given. get_or-replicate 9 (class_index class) (replicate n false) [] (class_index-below class given) ∙ map-none class n;
}
