-- Frames one more at a time: how they come, how they leave, and what stays of the others.
use Rattle.std.proofs.Common.{◌≡◌, ℕ, zero, suc, ◌+◌, ◌*◌, ◌<◌, ◌≤◌, List, [], ◌∷◌, ◌++◌, length, map, set, true, false, nat_lt, nat_le, subst, refl, sym, ap, ◌∙◌, arith}
use Rattle.std.specs.Prelude.{◌≢◌, Some, slice_get, drop, All}
use Rattle.std.specs.List.{range_with_len, AllByRecursion}
use Rattle.std.proofs.lemmas.List.{get_or-set_same, get_or-set_other, get_or-replicate, get_or_past, length-set, length-replicate}
use Rattle.std.proofs.lemmas.Bool.{cases_eq, cases_lt, and_from, and_parts, le-leb, lt-ltb}
use Rattle.std.proofs.lemmas.List.FromFn.{length-map-range_with_len, get_or-map-range_with_len, map-range_with_len_more}
use Rattle.om_geom.specs.Addresses.{address_of, page_at}
use Rattle.om_geom.specs.Numbers.{page_size, zone_pages, first_address}
use Rattle.om_frame.specs.Memory.{no_pages, page_bytes, is_held, IsHeldPart}
use Rattle.om_frame.specs.Frames.{PageBytes, zeros, zero_frame, zero_frames, empty_frame, next_page, with_frames, without_pages}
use mathlib.Core.Logic.{⊎_elim}

pub with_frames-append : (memory : List (List ℕ)) (xs ys : List PageBytes) → with_frames memory (xs ++ ys) ≡ with_frames (with_frames memory xs) ys
with_frames-append memory [] ys = refl
with_frames-append memory (frame ∷ xs) ys = with_frames-append (set memory frame.page frame.bytes) xs ys

pub length-with_frames : (memory : List (List ℕ)) (frames : List PageBytes) → length (with_frames memory frames) ≡ length memory
length-with_frames memory [] = refl
length-with_frames memory (frame ∷ frames) = length-with_frames (set memory frame.page frame.bytes) frames ∙ length-set memory frame.page frame.bytes

-- a page that none of the frames is of stays as it is
pub page_bytes-with_frames : (memory : List (List ℕ)) (frames : List PageBytes) (page : ℕ) → AllByRecursion (λ (frame : PageBytes). page ≢ frame.page) frames → page_bytes (with_frames memory frames) page ≡ page_bytes memory page
page_bytes-with_frames memory [] page others = refl
page_bytes-with_frames memory (frame ∷ frames) page others =
    page_bytes-with_frames (set memory frame.page frame.bytes) frames page others.1
    ∙ get_or-set_other memory frame.page page frame.bytes [] others.0

-- ---- frames of zeros

pub zero_frames-more : (first n : ℕ) → zero_frames first (n + 1) ≡ zero_frames first n ++ zero_frame (first + n) ∷ []
zero_frames-more first n = map-range_with_len_more zero_frame first n (first + n) refl

pub length-zero_frames : (first n : ℕ) → length (zero_frames first n) ≡ n
length-zero_frames first n = length-map-range_with_len zero_frame first n

pub next_page-zero_frames : (first n : ℕ) → next_page (zero_frames first n) (first + n) ≡ first + n
next_page-zero_frames first zero = refl
next_page-zero_frames first (suc n) = omega (arith, length-map-range_with_len zero_frame (first + 1) n)

-- pages of zeros leave those before them
page_bytes-before : (memory : List (List ℕ)) (first n page : ℕ) → page < first → page_bytes (with_frames memory (zero_frames first n)) page ≡ page_bytes memory page
page_bytes-before memory first zero page low = refl
page_bytes-before memory first (suc n) page low =
    page_bytes-before (set memory first zeros) (first + 1) n page (omega arith)
    ∙ get_or-set_other memory first page zeros [] (λ (here : page ≡ first). omega arith)

-- the first frame and the others
pub frames-first : (frames : List PageBytes) (frame : PageBytes) → Some frame ≡ slice_get frames 0 → frames ≡ frame ∷ drop 1 frames
frames-first [] frame some = cc
frames-first (first ∷ frames) frame some = let same : frame ≡ first = cc in ap (λ (f : PageBytes). f ∷ frames) (sym same)

-- pages of zeros that come
pub page_bytes-with_zeros : (memory : List (List ℕ)) (first n page : ℕ) → first ≤ page → page < first + n → first + n ≤ length memory → page_bytes (with_frames memory (zero_frames first n)) page ≡ zeros
page_bytes-with_zeros memory first zero page low high fits = absurd (omega arith)
page_bytes-with_zeros memory first (suc n) page low high fits =
    let next : List (List ℕ) = set memory first zeros in
    ⊎_elim
    (λ (here : page ≡ first).
    page_bytes-before next (first + 1) n page (omega arith)
    ∙ ap (page_bytes next) here
    ∙ get_or-set_same memory first zeros [] (omega arith))
    (λ (other : page ≡ first → ⊥).
    let more : first + 1 ≤ page = omega arith in
    page_bytes-with_zeros next (first + 1) n page more (omega arith) (omega (arith, length-set memory first zeros)))
    (cases_eq page first)

-- what is so of each of the pages is so of the frames
pub All-zero_frames : (P : PageBytes → Type 0) (first n : ℕ) → ((page : ℕ) → first ≤ page → page < first + n → P (zero_frame page)) → All P (zero_frames first n)
All-zero_frames P first n each k d lt =
    let within : k < n = omega (arith, length-zero_frames first n) in
    subst P (sym (get_or-map-range_with_len zero_frame first n k (first + k) d within refl)) (each (first + k) (omega arith) (omega arith))

pub is_held-no_pages : (zones page : ℕ) → is_held (no_pages zones) page ≡ false
is_held-no_pages zones page =
    let none : page_bytes (no_pages zones) page ≡ [] = ⊎_elim
    (λ (there : page < zone_pages * zones). get_or-replicate (zone_pages * zones) page [] [] there)
    (λ (past : zone_pages * zones ≤ page). get_or_past (no_pages zones) page [] (omega (arith, length-replicate {A = List ℕ} (zone_pages * zones) [])))
    (cases_lt page (zone_pages * zones)) in
    ap (λ (bytes : List ℕ). nat_lt 0 (length bytes)) none

-- so they are held
pub held-with_zeros : (memory : List (List ℕ)) (first n : ℕ) → first + n ≤ length memory → IsHeldPart (with_frames memory (zero_frames first n)) (address_of first) (page_size * n)
unfolding zeros
held-with_zeros memory first n fits address low high =
    let whole : List (List ℕ) = with_frames memory (zero_frames first n) in
    let bytes = page_bytes-with_zeros memory first n (page_at address) (omega arith) (omega arith) fits in
    let long : length (page_bytes whole (page_at address)) ≡ page_size = ap length bytes ∙ length-replicate {A = ℕ} page_size 0 in
    and_from (nat_le first_address address) (is_held whole (page_at address)) (le-leb first_address address (omega arith)) (lt-ltb 0 (length (page_bytes whole (page_at address))) (omega arith))

-- a page of such a part is held
pub held-page : (memory : List (List ℕ)) (at len page : ℕ) → IsHeldPart memory at len → at ≤ address_of page → address_of page < at + len → is_held memory page ≡ true
held-page memory at len page held low high =
    let both = and_parts (nat_le first_address (address_of page)) (is_held memory (page_at (address_of page))) (held (address_of page) low high) in
    let here : page_at (address_of page) ≡ page = omega arith in
    subst (λ (p : ℕ). is_held memory p ≡ true) here both.1

-- ---- pages that leave

pub without_pages-more : (memory : List (List ℕ)) (first n : ℕ) → without_pages memory first (n + 1) ≡ set (without_pages memory first n) (first + n) []
without_pages-more memory first n =
    ap (with_frames memory) (map-range_with_len_more empty_frame first n (first + n) refl)
    ∙ with_frames-append memory (map empty_frame (range_with_len first n)) (empty_frame (first + n) ∷ [])

pub page_bytes-without_pages : (memory : List (List ℕ)) (first n page : ℕ) → first + n ≤ page → page_bytes (without_pages memory first n) page ≡ page_bytes memory page
page_bytes-without_pages memory first zero page past = refl
page_bytes-without_pages memory first (suc n) page past =
    page_bytes-without_pages (set memory first []) (first + 1) n page (omega arith)
    ∙ get_or-set_other memory first page [] [] (λ (here : page ≡ first). omega arith)

pub is_held-without_pages : (memory : List (List ℕ)) (first n page : ℕ) → first + n ≤ page → is_held (without_pages memory first n) page ≡ is_held memory page
is_held-without_pages memory first n page past = ap (λ (bytes : List ℕ). nat_lt 0 (length bytes)) (page_bytes-without_pages memory first n page past)
