-- Memory by pages: what is read and written on one page, in parts one after another, and what a write keeps.
use Rattle.std.proofs.Common.{◌≡◌, ℕ, zero, suc, ◌+◌, ◌-◌, ◌*◌, ◌<◌, ◌≤◌, List, [], ◌∷◌, ◌++◌, length, map, take, drop, get_or, set, replicate, Bool, true, false, Some, None, not, ◌&&◌, nat_lt, refl, sym, ap, ◌∙◌, arith, nat_le}
use Rattle.std.specs.Prelude.{◌==◌, option_map, filter}
use Rattle.std.specs.List.{range_with_len, position_from}
use Rattle.std.proofs.lemmas.Bool.{and_parts, ltb-true, leb-true, cases_eq, cases_lt, cases_Bool}
use Rattle.std.proofs.lemmas.List.{map-append, length-set, get_or-set_same, get_or-set_other, set-get_or, set-set, set_past, take-append-drop, drop_more, take_more_set, drop-set-lt, get_or_past, drop-drop, append_assoc, length-replicate, replicate-append-replicate}
use Rattle.std.proofs.lemmas.List.Elements.{filter_agree}
use Rattle.std.proofs.lemmas.List.FromFn.{length-map-range_with_len}
use Rattle.om_geom.specs.Addresses.{address_of, page_at, SharesByte}
use Rattle.om_geom.specs.Numbers.{page_size, zone_pages, most_zones, first_address}
use Rattle.om_geom.specs.declared.address.Extent.{Extent}
use Rattle.om_frame.specs.Memory.{page_bytes, is_held, held_pages, is_held_at, offset_at, byte_at, bytes_at, with_byte, with_bytes, filled, copied, first_other, IsHeldPart, ShareNoByte}
use mathlib.Core.Logic.{⊎_elim}

-- ---- a byte's page and its place there

pub page_at-on : (address page offset : ℕ) → address ≡ address_of page + offset → offset < page_size → page_at address ≡ page
page_at-on address page offset on within = omega arith

pub offset_at-on : (address page offset : ℕ) → address ≡ address_of page + offset → offset < page_size → offset_at address ≡ offset
offset_at-on address page offset on within = omega arith

pub address-from : (address : ℕ) → first_address ≤ address → address ≡ address_of (page_at address) + offset_at address
address-from address low = omega arith

-- ---- reads

pub range-append : (a j k : ℕ) → range_with_len a (j + k) ≡ range_with_len a j ++ range_with_len (a + j) k
range-append a zero k = let same : 0 + k ≡ k = omega arith in let here : a + 0 ≡ a = omega arith in rw (same, here) refl
range-append a (suc j) k =
    let more : suc (j + k) ≡ suc j + k = omega arith in
    let here : a + 1 + j ≡ a + suc j = omega arith in
    ap (λ (n : ℕ). range_with_len a n) (sym more)
    ∙ ap (λ (xs : List ℕ). a ∷ xs) (range-append (a + 1) j k ∙ ap (λ (x : ℕ). range_with_len (a + 1) j ++ range_with_len x k) here)

pub length-bytes_at : (memory : List (List ℕ)) (at len : ℕ) → length (bytes_at memory at len) ≡ len
length-bytes_at memory at len = length-map-range_with_len (byte_at memory) at len

pub bytes_at-append : (memory : List (List ℕ)) (at j k : ℕ) → bytes_at memory at (j + k) ≡ bytes_at memory at j ++ bytes_at memory (at + j) k
bytes_at-append memory at j k = ap (map (byte_at memory)) (range-append at j k) ∙ map-append (byte_at memory) (range_with_len at j) (range_with_len (at + j) k)

-- the bytes read on one page stand there one after another
pub bytes_at-on_page : (memory : List (List ℕ)) (at page offset len : ℕ) → at ≡ address_of page + offset → offset + len ≤ page_size
    → offset + len ≤ length (page_bytes memory page) → bytes_at memory at len ≡ take len (drop offset (page_bytes memory page))
bytes_at-on_page memory at page offset zero on within there = refl
bytes_at-on_page memory at page offset (suc len) on within there =
    let bytes : List ℕ = page_bytes memory page in
    let here : byte_at memory at ≡ get_or bytes offset 0 = rw (page_at-on at page offset on (omega arith), offset_at-on at page offset on (omega arith)) refl in
    let rest = bytes_at-on_page memory (at + 1) page (offset + 1) len (omega arith) (omega arith) (omega arith) in
    rw (drop_more bytes offset 0 (omega arith), here, rest) refl

-- ---- writes

pub with_bytes-append : (memory : List (List ℕ)) (at : ℕ) (xs ys : List ℕ) → with_bytes memory at (xs ++ ys) ≡ with_bytes (with_bytes memory at xs) (at + length xs) ys
with_bytes-append memory at [] ys = ap (λ (x : ℕ). with_bytes memory x ys) (omega arith)
with_bytes-append memory at (x ∷ xs) ys =
    let here : at + 1 + length xs ≡ at + suc (length xs) = omega arith in
    with_bytes-append (with_byte memory at x) (at + 1) xs ys
    ∙ ap (λ (a : ℕ). with_bytes (with_bytes (with_byte memory at x) (at + 1) xs) a ys) here

-- so many bytes from the offset on are replaced
abbrev pub spliced : ℕ → List ℕ → List ℕ → List ℕ
spliced offset bytes new = take offset bytes ++ (new ++ drop (length new) (drop offset bytes))

spliced_more : (offset x : ℕ) (bytes new : List ℕ) → offset < length bytes → spliced (offset + 1) (set bytes offset x) new ≡ spliced offset bytes (x ∷ new)
spliced_more offset x bytes new within =
    let front : take (offset + 1) (set bytes offset x) ≡ take offset bytes ++ x ∷ [] = take_more_set bytes offset x within in
    let back : drop (length new) (drop (offset + 1) (set bytes offset x)) ≡ drop (suc (length new)) (drop offset bytes) =
    ap (drop (length new)) (drop-set-lt (offset + 1) bytes offset x (omega arith))
    ∙ drop-drop (length new) (offset + 1) bytes
    ∙ ap (λ (n : ℕ). drop n bytes) (let same : offset + 1 + length new ≡ offset + suc (length new) = omega arith in same)
    ∙ sym (drop-drop (suc (length new)) offset bytes) in
    ap (λ (xs : List ℕ). xs ++ (new ++ drop (length new) (drop (offset + 1) (set bytes offset x)))) front
    ∙ append_assoc (take offset bytes) (x ∷ []) (new ++ drop (length new) (drop (offset + 1) (set bytes offset x)))
    ∙ ap (λ (xs : List ℕ). take offset bytes ++ (x ∷ (new ++ xs))) back

-- bytes written on one page replace those that stand there
pub with_bytes-on_page : (memory : List (List ℕ)) (at page offset : ℕ) (new : List ℕ) → at ≡ address_of page + offset → offset + length new ≤ page_size
    → offset + length new ≤ length (page_bytes memory page) → page < length memory → with_bytes memory at new ≡ set memory page (spliced offset (page_bytes memory page) new)
with_bytes-on_page memory at page offset [] on within there held =
    sym (ap (set memory page) (take-append-drop offset (page_bytes memory page)) ∙ set-get_or memory page [])
with_bytes-on_page memory at page offset (x ∷ new) on within there held =
    let bytes : List ℕ = page_bytes memory page in
    let next : List (List ℕ) = set memory page (set bytes offset x) in
    let here : with_byte memory at x ≡ next = rw (page_at-on at page offset on (omega arith), offset_at-on at page offset on (omega arith)) refl in
    let same : page_bytes next page ≡ set bytes offset x = get_or-set_same memory page (set bytes offset x) [] held in
    let rest = with_bytes-on_page next (at + 1) page (offset + 1) new (omega arith) (omega arith)
    (omega (arith, ap length same, length-set bytes offset x)) (omega (arith, length-set memory page (set bytes offset x))) in
    ap (λ (m : List (List ℕ)). with_bytes m (at + 1) new) here
    ∙ rest
    ∙ set-set memory page (set bytes offset x) (spliced (offset + 1) (page_bytes next page) new)
    ∙ ap (λ (bs : List ℕ). set memory page (spliced (offset + 1) bs new)) same
    ∙ ap (set memory page) (spliced_more offset x bytes new (omega arith))

-- ---- what a write keeps

set-shape : (memory : List (List ℕ)) (i page : ℕ) (bytes : List ℕ) → length bytes ≡ length (page_bytes memory i) → length (page_bytes (set memory i bytes) page) ≡ length (page_bytes memory page)
set-shape memory i page bytes same = ⊎_elim
    (λ (here : page ≡ i). ⊎_elim
    (λ (within : i < length memory). rw here (ap length (get_or-set_same memory i bytes [] within) ∙ same))
    (λ past. ap (λ (m : List (List ℕ)). length (page_bytes m page)) (set_past memory i bytes past))
    (cases_lt i (length memory)))
    (λ other. ap length (get_or-set_other memory i page bytes [] other))
    (cases_eq page i)

pub length-page-with_bytes : (memory : List (List ℕ)) (at : ℕ) (new : List ℕ) (page : ℕ) → length (page_bytes (with_bytes memory at new) page) ≡ length (page_bytes memory page)
length-page-with_bytes memory at [] page = refl
length-page-with_bytes memory at (x ∷ new) page =
    length-page-with_bytes (with_byte memory at x) (at + 1) new page
    ∙ set-shape memory (page_at at) page (set (page_bytes memory (page_at at)) (offset_at at) x) (length-set (page_bytes memory (page_at at)) (offset_at at) x)

pub length-with_bytes : (memory : List (List ℕ)) (at : ℕ) (new : List ℕ) → length (with_bytes memory at new) ≡ length memory
length-with_bytes memory at [] = refl
length-with_bytes memory at (x ∷ new) = length-with_bytes (with_byte memory at x) (at + 1) new ∙ length-set memory (page_at at) (set (page_bytes memory (page_at at)) (offset_at at) x)

pub is_held-with_bytes : (memory : List (List ℕ)) (at : ℕ) (new : List ℕ) (page : ℕ) → is_held (with_bytes memory at new) page ≡ is_held memory page
is_held-with_bytes memory at new page = ap (nat_lt 0) (length-page-with_bytes memory at new page)

pub is_held_at-with_bytes : (memory : List (List ℕ)) (at : ℕ) (new : List ℕ) (address : ℕ) → is_held_at (with_bytes memory at new) address ≡ is_held_at memory address
is_held_at-with_bytes memory at new address = ap (λ (held : Bool). nat_le first_address address && held) (is_held-with_bytes memory at new (page_at address))

pub is_held_at-filled : (memory : List (List ℕ)) (at len byte address : ℕ) → is_held_at (filled memory at len byte) address ≡ is_held_at memory address
is_held_at-filled memory at len byte address = is_held_at-with_bytes memory at (replicate len byte) address

pub is_held_at-copied : (memory : List (List ℕ)) (from to len address : ℕ) → is_held_at (copied memory from to len) address ≡ is_held_at memory address
is_held_at-copied memory from to len address = is_held_at-with_bytes memory to (bytes_at memory from len) address

pub held_pages-with_bytes : (memory : List (List ℕ)) (at : ℕ) (new : List ℕ) → held_pages (with_bytes memory at new) ≡ held_pages memory
held_pages-with_bytes memory at new =
    ap (λ (n : ℕ). filter (is_held (with_bytes memory at new)) (range_with_len 0 n)) (length-with_bytes memory at new)
    ∙ filter_agree (is_held (with_bytes memory at new)) (is_held memory) (is_held-with_bytes memory at new) (range_with_len 0 (length memory))

-- ---- parts

pub IsHeldPart-within : (memory : List (List ℕ)) (at len done piece : ℕ) → IsHeldPart memory at len → done + piece ≤ len → IsHeldPart memory (at + done) piece
IsHeldPart-within memory at len done piece held within address low high = held address (omega arith) (omega arith)

pub ShareNoByte-within : (a b : Extent) (from to len : ℕ) → (SharesByte a b → ⊥) → a.first ≤ from → from + len ≤ a.first + a.len → b.first ≤ to → to + len ≤ b.first + b.len → ShareNoByte from to len
ShareNoByte-within a b from to len apart low_a high_a low_b high_b (byte, of_from, of_to) = apart (byte, (omega arith, omega arith), (omega arith, omega arith))

pub held_at-low : (memory : List (List ℕ)) (address : ℕ) → is_held_at memory address ≡ true → first_address ≤ address
held_at-low memory address held = leb-true first_address address (and_parts (nat_le first_address address) (is_held memory (page_at address)) held).0

pub is_held-there : (memory : List (List ℕ)) (page : ℕ) → is_held memory page ≡ true → page < length memory
is_held-there memory page held = ⊎_elim
    (λ (within : page < length memory). within)
    (λ past. let none : page_bytes memory page ≡ [] = get_or_past memory page [] past in
    let some = ltb-true 0 (length (page_bytes memory page)) held in absurd (omega (arith, ap length none)))
    (cases_lt page (length memory))

pub held_at-high : (memory : List (List ℕ)) (address : ℕ) → length memory ≤ zone_pages * most_zones → is_held_at memory address ≡ true → address < address_of (zone_pages * most_zones)
held_at-high memory address few held =
    let both = and_parts (nat_le first_address address) (is_held memory (page_at address)) held in
    let there = is_held-there memory (page_at address) both.1 in
    omega arith

-- ---- one byte over a range

pub filled-more : (memory : List (List ℕ)) (at done piece byte : ℕ) → filled (filled memory at done byte) (at + done) piece byte ≡ filled memory at (done + piece) byte
filled-more memory at done piece byte =
    ap (λ (n : ℕ). with_bytes (filled memory at done byte) (at + n) (replicate piece byte)) (sym (length-replicate done byte))
    ∙ sym (with_bytes-append memory at (replicate done byte) (replicate piece byte))
    ∙ ap (with_bytes memory at) (replicate-append-replicate done piece byte)

-- the search in one part after another
position_from-none : {X : Type 0} (test : X → Bool) (i : ℕ) (xs ys : List X) → position_from test i xs ≡ None → position_from test i (xs ++ ys) ≡ position_from test (i + length xs) ys
position_from-none test i [] ys none = ap (λ (k : ℕ). position_from test k ys) (omega arith)
position_from-none test i (x ∷ xs) ys none = ⊎_elim
    (λ (t : test x ≡ true). let found : Some i ≡ None = rw t at none in cc)
    (λ (f : test x ≡ false). let next : i + 1 + length xs ≡ i + suc (length xs) = omega arith in
    rw f (position_from-none test (i + 1) xs ys (rw f at none) ∙ ap (λ (k : ℕ). position_from test k ys) next))
    (cases_Bool (test x))

position_from-some : {X : Type 0} (test : X → Bool) (i k : ℕ) (xs ys : List X) → position_from test i xs ≡ Some k → position_from test i (xs ++ ys) ≡ Some k
position_from-some test i k [] ys some = cc
position_from-some test i k (x ∷ xs) ys some = ⊎_elim
    (λ (t : test x ≡ true). rw t (rw t at some))
    (λ (f : test x ≡ false). rw f (position_from-some test (i + 1) k xs ys (rw f at some)))
    (cases_Bool (test x))

position_from-shift : {X : Type 0} (test : X → Bool) (n i : ℕ) (xs : List X) → position_from test (n + i) xs ≡ option_map (λ k. n + k) (position_from test i xs)
position_from-shift test n i [] = refl
position_from-shift test n i (x ∷ xs) = ⊎_elim
    (λ (t : test x ≡ true). rw t refl)
    (λ (f : test x ≡ false). let next : n + i + 1 ≡ n + (i + 1) = omega arith in
    rw f (ap (λ (k : ℕ). position_from test k xs) next ∙ position_from-shift test n (i + 1) xs))
    (cases_Bool (test x))

-- what a part is found to have counts from the first byte
pub first_other-more : (memory : List (List ℕ)) (at done piece byte : ℕ) → first_other memory at done byte ≡ None
    → first_other memory at (done + piece) byte ≡ option_map (λ k. done + k) (first_other memory (at + done) piece byte)
first_other-more memory at done piece byte none =
    let test : ℕ → Bool = λ other. not (other == byte) in
    let front : List ℕ = bytes_at memory at done in
    let back : List ℕ = bytes_at memory (at + done) piece in
    let many : length front ≡ done = length-map-range_with_len (byte_at memory) at done in
    let long : 0 + length front ≡ done + 0 = omega arith in
    ap (position_from test 0) (bytes_at-append memory at done piece)
    ∙ position_from-none test 0 front back none
    ∙ ap (λ (k : ℕ). position_from test k back) long
    ∙ position_from-shift test done 0 back

pub first_other-found : (memory : List (List ℕ)) (at done piece len byte offset : ℕ) → first_other memory at done byte ≡ None → first_other memory (at + done) piece byte ≡ Some offset → done + piece ≤ len
    → first_other memory at len byte ≡ Some (done + offset)
first_other-found memory at done piece len byte offset none some within =
    let test : ℕ → Bool = λ other. not (other == byte) in
    let cut : len ≡ done + piece + (len - (done + piece)) = omega arith in
    let here : first_other memory at (done + piece) byte ≡ Some (done + offset) = first_other-more memory at done piece byte none ∙ ap (option_map (λ (k : ℕ). done + k)) some in
    ap (λ (n : ℕ). first_other memory at n byte) cut
    ∙ ap (position_from test 0) (bytes_at-append memory at (done + piece) (len - (done + piece)))
    ∙ position_from-some test 0 (done + offset) (bytes_at memory at (done + piece)) (bytes_at memory (at + (done + piece)) (len - (done + piece))) here
