-- Places by their addresses, what is left of a page, and what a pick finds.
use Rattle.std.proofs.Common.{◌≡◌, ℕ, ◌+◌, ◌-◌, ◌*◌, ◌<◌, Bool, true, false, if◌then◌else◌, nat_le, nat_eq, List, length, set, Option, Some, None, refl, subst, ap, ◌∙◌, arith}
use Rattle.std.specs.Prelude.{IfSome, IsSome, is_some}
use Rattle.std.specs.List.{range_with_len}
use Rattle.std.specs.Option.{option_map, option_and_then}
use Rattle.std.proofs.lemmas.Bool.{cases_lt, and_parts, eqb-true, le-leb}
use Rattle.std.proofs.lemmas.List.{get_or_past, get_or-set_same, set-set}
use Rattle.std.proofs.lemmas.List.Elements.{filter_passes}
use Rattle.std.proofs.lemmas.Option.{get_or_from_slice_get, slice_get_within}
use Rattle.om_geom.specs.Addresses.{address_of, page_at}
use Rattle.om_geom.specs.AddressLaws.{page_at-byte}
use Rattle.om_geom.specs.Classes.{stride_of}
use Rattle.om_geom.specs.Numbers.{first_address}
use Rattle.om_chunk.specs.Pages.{page_in, page_with, page_kept, page_left, offset_of, place_in, unless_unused, with_freed, with_place}
use Rattle.om_chunk.specs.Picks.{is_open, open_pages, has_free_place, picked_page, IsFreeOn}
use Rattle.om_chunk.specs.Places.{ChunkPage, has_free, is_unused, place_at, with_place_at, IsFreeIn}
use Rattle.om_chunk.specs.declared.place.Place.TheVariants.{Free}
use mathlib.Core.Logic.{⊎_elim}

-- ---- addresses

neither : (b : Bool) → let none : Option ChunkPage = None in (if b then none else none) ≡ none
neither true = refl
neither false = refl

-- a place that begins somewhere is on a page of the arena
pub place_in-page : (pages : List (Option ChunkPage)) (address : ℕ) → IsSome (place_in pages address) → page_at address < length pages
place_in-page pages address some = ⊎_elim
    (λ lt. lt)
    (λ past.
    let none : page_with pages address ≡ None =
    ap (λ (o : Option ChunkPage). if nat_le first_address address then o else None) (get_or_past pages (page_at address) None past) ∙ neither (nat_le first_address address) in
    let no : is_some (place_in pages address) ≡ false = ap (λ (o : Option ChunkPage). is_some (option_and_then (λ page. place_at page (offset_of address)) o)) none in
    cc)
    (cases_lt (page_at address) (length pages))

pub page_in-there : (pages : List (Option ChunkPage)) (page : ℕ) (there : ChunkPage) → page_in pages page ≡ Some there → page < length pages
page_in-there pages page there is = ⊎_elim
    (λ lt. lt)
    (λ past. let none : page_in pages page ≡ None = get_or_past pages page None past in cc)
    (cases_lt page (length pages))

-- a free place of a page is that at its address
pub is_free_on : (pages : List (Option ChunkPage)) (page place : ℕ) (there : ChunkPage) → page_in pages page ≡ Some there → IsFreeIn there place → IsFreeOn pages there.class page place
is_free_on pages page place there is free =
    let byte : ℕ = place * stride_of there.class in
    let on_page : byte < 4096 = free.on_page in
    let same = page_at-byte page byte on_page in
    let at_page : page_with pages (address_of page + byte) ≡ Some there =
    ap (λ b. if b then page_in pages (page_at (address_of page + byte)) else None) (le-leb first_address (address_of page + byte) (omega arith))
    ∙ ap (λ n. page_in pages n) same ∙ is in
    let offset : offset_of (address_of page + byte) ≡ byte = ap (λ n. address_of page + byte - address_of n) same ∙ omega arith in
    record {
      page_there = page_in-there pages page there is;
      place_there = free.there;
      free = ap (λ (o : Option ChunkPage). option_and_then (λ here. place_at here (offset_of (address_of page + byte))) o) at_page
          ∙ ap (λ n. place_at there n) offset ∙ free.free;
    }

-- ---- what is left of a page

pub kept-all : (page : Option ChunkPage) → is_some (option_and_then unless_unused page) ≡ true → option_and_then unless_unused page ≡ page
kept-all None some = refl
kept-all (Some page) some = by (is_unused page) some
  where
    by : (b : Bool) → is_some (if b then None else Some page) ≡ true → (if b then None else Some page) ≡ Some page
    by true some = cc
    by false some = refl

pub kept-none : (page : Option ChunkPage) → is_some page ≡ false → page ≡ None
kept-none None none = refl
kept-none (Some page) none = cc

left-mapped : (offset : ℕ) (page : Option ChunkPage) → option_and_then unless_unused (option_map (λ there. with_place_at there offset Free) page) ≡ option_and_then (λ there. unless_unused (with_place_at there offset Free)) page
left-mapped offset None = refl
left-mapped offset (Some page) = refl

-- a place is freed by making it free, and keeping of its page what is left
module _ (pages : List (Option ChunkPage)) (address : ℕ) (there : page_at address < length pages) where
  pub kept-freed : page_kept (with_place pages address Free) (page_at address) ≡ page_left pages address
  kept-freed =
      ap (option_and_then unless_unused) (get_or-set_same pages (page_at address) (option_map (λ page. with_place_at page (offset_of address) Free) (page_with pages address)) None there)
      ∙ left-mapped (offset_of address) (page_with pages address)

  pub set-freed : set (with_place pages address Free) (page_at address) (page_kept (with_place pages address Free) (page_at address)) ≡ with_freed pages address
  set-freed =
      set-set pages (page_at address) (option_map (λ page. with_place_at page (offset_of address) Free) (page_with pages address)) (page_kept (with_place pages address Free) (page_at address))
      ∙ ap (set pages (page_at address)) kept-freed

pub set-freed_by : (pages next : List (Option ChunkPage)) (address page : ℕ) → next ≡ with_place pages address Free → page ≡ page_at address → IsSome (place_in pages address)
    → set next page (page_kept next page) ≡ with_freed pages address
set-freed_by pages next address page is at some = rw (is, at) (set-freed pages address (place_in-page pages address some))

-- ---- what a pick finds

pub record IsOpen (class : ℕ) (pages : List (Option ChunkPage)) (page : ℕ) : Type 0 where
  pub there : ChunkPage
  pub is : page_in pages page ≡ Some there
  pub class_is : there.class ≡ class
  pub free : has_free_place (page_in pages page) ≡ true

pub picked-open : (pages : List (Option ChunkPage)) (class word page : ℕ) → picked_page pages class word ≡ Some page → IsOpen class pages page
picked-open pages class word page found =
    let test : ℕ → Bool = λ other. is_open class (page_in pages other) in
    let pass = filter_passes test (range_with_len 0 (length pages)) in
    let here = get_or_from_slice_get (open_pages pages class) _ page page found in
    by (page_in pages page) refl (subst (λ other. test other ≡ true) here (pass _ page (slice_get_within (open_pages pages class) _ page found)))
  where
    by : (o : Option ChunkPage) → page_in pages page ≡ o → is_open class o ≡ true → IsOpen class pages page
    by None is passes = cc
    by (Some there) is passes =
        let both = and_parts (nat_eq there.class class) (has_free there) passes in
        record { there = there; is = is; class_is = eqb-true there.class class both.0; free = ap has_free_place is ∙ both.1 }

-- a page that is picked has a place to pick
pub picked-place : (pages : List (Option ChunkPage)) (class word page : ℕ) (place : Option ℕ) → picked_page pages class word ≡ Some page → is_some place ≡ has_free_place (page_in pages page) → ¬ (place ≡ None)
picked-place pages class word page place found some none =
    let free = (picked-open pages class word page found).free in
    let no : is_some place ≡ false = ap is_some none in
    cc

pub picked-free_on : (pages : List (Option ChunkPage)) (class word page place : ℕ) → picked_page pages class word ≡ Some page
    → IfSome (page_in pages page) (λ there. IsFreeOn pages there.class page place) → IsFreeOn pages class page place
picked-free_on pages class word page place found free =
    let «open» = picked-open pages class word page found in
    let P : Option ChunkPage → Type 0 = λ o. IfSome o (λ there. IsFreeOn pages there.class page place) in
    subst (λ other. IsFreeOn pages other page place) «open».class_is (subst P «open».is free)
