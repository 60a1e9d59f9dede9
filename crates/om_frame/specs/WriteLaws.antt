-- What is read after a write: the bytes written, and elsewhere what was there before.
use Rattle.std.proofs.Common.{◌≡◌, ℕ, zero, suc, ◌+◌, ◌-◌, ◌<◌, ◌≤◌, List, [], ◌∷◌, length, get_or, set, true, nat_eq, false, refl, sym, ap, subst, ◌∙◌, arith, nat_le}
use Rattle.std.specs.Prelude.{All, ◌⊎◌}
use Rattle.std.proofs.lemmas.Bool.{and_parts, ltb-true, ne_eqb, lt-ltb, cases_eq, cases_lt}
use Rattle.std.proofs.lemmas.List.{length-set, get_or-set_same, get_or-set_other, set_past, take_all, nil_from_length}
use Rattle.std.proofs.lemmas.List.Elements.{All-set}
use Rattle.std.proofs.lemmas.List.FromFn.{get_or-map-range_with_len}
use Rattle.om_geom.specs.Addresses.{page_at}
use Rattle.om_geom.specs.Numbers.{page_size, first_address}
use Rattle.om_frame.specs.Memory.{page_bytes, is_held, is_held_at, offset_at, byte_at, bytes_at, with_byte, with_bytes, copied, IsPage, IsHeldPart, with_part}
use Rattle.om_frame.specs.MemoryLaws.{is_held-there, is_held_at-with_bytes, held_at-low, length-bytes_at, bytes_at-append, with_bytes-append}
use mathlib.Core.Logic.{⊎_elim, inl, inr}

-- a lent part holds as many bytes as were lent, and they are all written
pub with_part-whole : (memory : List (List ℕ)) (at len : ℕ) (new : List ℕ) → length new ≡ len → offset_at at + len ≤ page_size → with_part memory at len new ≡ with_bytes memory at new
with_part-whole memory at zero new many within = ap (with_bytes memory at) (sym (nil_from_length new many))
with_part-whole memory at (suc len) new many within =
    let some : nat_eq (suc len) 0 ≡ false = ne_eqb (suc len) 0 (λ none. omega arith) in
    rw some (ap (with_bytes memory at) (take_all (page_size - offset_at at) new (omega arith)))

-- ---- one byte

byte_at-with_byte_other : (memory : List (List ℕ)) (at x address : ℕ) → first_address ≤ at → first_address ≤ address → (address ≡ at → ⊥) → byte_at (with_byte memory at x) address ≡ byte_at memory address
byte_at-with_byte_other memory at x address low_at low other =
    let bytes : List ℕ = page_bytes memory (page_at at) in
    let new : List ℕ = set bytes (offset_at at) x in
    ⊎_elim
    (λ (same_page : page_at address ≡ page_at at).
    ⊎_elim
    (λ (there : page_at at < length memory).
    rw same_page (ap (λ (bs : List ℕ). get_or bs (offset_at address) 0) (get_or-set_same memory (page_at at) new [] there)
    ∙ get_or-set_other bytes (offset_at at) (offset_at address) x 0 (λ (same : offset_at address ≡ offset_at at). other (omega arith))))
    (λ past. ap (λ (m : List (List ℕ)). byte_at m address) (set_past memory (page_at at) new past))
    (cases_lt (page_at at) (length memory)))
    (λ other_page. ap (λ (bs : List ℕ). get_or bs (offset_at address) 0) (get_or-set_other memory (page_at at) (page_at address) new [] other_page))
    (cases_eq (page_at address) (page_at at))

-- ---- what a write keeps

pub byte_at-with_bytes_outside : (memory : List (List ℕ)) (at : ℕ) (new : List ℕ) (address : ℕ) → first_address ≤ at → first_address ≤ address → (address < at) ⊎ (at + length new ≤ address) → byte_at (with_bytes memory at new) address ≡ byte_at memory address
byte_at-with_bytes_outside memory at [] address low_at low outside = refl
byte_at-with_bytes_outside memory at (x ∷ new) address low_at low outside = ⊎_elim
    (λ (before : address < at).
    byte_at-with_bytes_outside (with_byte memory at x) (at + 1) new address (omega arith) low (inl (omega arith))
    ∙ byte_at-with_byte_other memory at x address low_at low (λ same. omega arith))
    (λ (after : at + suc (length new) ≤ address).
    byte_at-with_bytes_outside (with_byte memory at x) (at + 1) new address (omega arith) low (inr (omega arith))
    ∙ byte_at-with_byte_other memory at x address low_at low (λ same. omega arith))
    outside

pub bytes_at-with_bytes_outside : (memory : List (List ℕ)) (at : ℕ) (new : List ℕ) (first len : ℕ) → first_address ≤ at → first_address ≤ first → (first + len ≤ at) ⊎ (at + length new ≤ first) → bytes_at (with_bytes memory at new) first len ≡ bytes_at memory first len
bytes_at-with_bytes_outside memory at new first zero low_at low outside = refl
bytes_at-with_bytes_outside memory at new first (suc len) low_at low outside =
    let here : byte_at (with_bytes memory at new) first ≡ byte_at memory first = byte_at-with_bytes_outside memory at new first low_at low
    (⊎_elim (λ (before : first + suc len ≤ at). inl (omega arith)) (λ (after : at + length new ≤ first). inr after) outside) in
    let rest = bytes_at-with_bytes_outside memory at new (first + 1) len low_at (omega arith)
    (⊎_elim (λ (before : first + suc len ≤ at). inl (omega arith)) (λ (after : at + length new ≤ first). inr (omega arith)) outside) in
    rw (here, rest) refl

-- ---- what was written is read

byte_at-with_byte : (memory : List (List ℕ)) (at x : ℕ) → All IsPage memory → is_held_at memory at ≡ true → byte_at (with_byte memory at x) at ≡ x
byte_at-with_byte memory at x pages held =
    let both = and_parts (nat_le first_address at) (is_held memory (page_at at)) held in
    let there = is_held-there memory (page_at at) both.1 in
    let bytes : List ℕ = page_bytes memory (page_at at) in
    let long : length bytes ≡ page_size = pages (page_at at) [] there (ltb-true 0 (length bytes) both.1) in
    ap (λ (bs : List ℕ). get_or bs (offset_at at) 0) (get_or-set_same memory (page_at at) (set bytes (offset_at at) x) [] there)
    ∙ get_or-set_same bytes (offset_at at) x 0 (omega arith)

page-at : (memory : List (List ℕ)) (page : ℕ) → All IsPage memory → IsPage (page_bytes memory page)
page-at memory page pages some = pages page [] (is_held-there memory page (lt-ltb 0 (length (page_bytes memory page)) some)) some

pages-with_byte : (memory : List (List ℕ)) (at x : ℕ) → All IsPage memory → All IsPage (with_byte memory at x)
pages-with_byte memory at x pages =
    let bytes : List ℕ = page_bytes memory (page_at at) in
    All-set IsPage memory (page_at at) (set bytes (offset_at at) x)
    (λ some. length-set bytes (offset_at at) x ∙ page-at memory (page_at at) pages (subst (λ (n : ℕ). 0 < n) (length-set bytes (offset_at at) x) some)) pages

pub bytes_at-with_bytes : (memory : List (List ℕ)) (at : ℕ) (new : List ℕ) → All IsPage memory → IsHeldPart memory at (length new) → bytes_at (with_bytes memory at new) at (length new) ≡ new
bytes_at-with_bytes memory at [] pages held = refl
bytes_at-with_bytes memory at (x ∷ new) pages held =
    let next : List (List ℕ) = with_byte memory at x in
    let begins : is_held_at memory at ≡ true = held at (omega arith) (omega arith) in
    let low : first_address ≤ at = held_at-low memory at begins in
    let here : byte_at (with_bytes next (at + 1) new) at ≡ x = byte_at-with_bytes_outside next (at + 1) new at (omega arith) low (inl (omega arith)) ∙ byte_at-with_byte memory at x pages begins in
    let rest = bytes_at-with_bytes next (at + 1) new (pages-with_byte memory at x pages)
    (λ address from below. is_held_at-with_bytes memory at (x ∷ []) address ∙ held address (omega arith) (omega arith)) in
    rw (here, rest) refl

-- ---- a copy

pub bytes_at-copied : (memory : List (List ℕ)) (from to len : ℕ) → All IsPage memory → IsHeldPart memory to len → bytes_at (copied memory from to len) to len ≡ bytes_at memory from len
bytes_at-copied memory from to len pages held =
    let many : length (bytes_at memory from len) ≡ len = length-bytes_at memory from len in
    ap (bytes_at (copied memory from to len) to) (sym many) ∙ bytes_at-with_bytes memory to (bytes_at memory from len) pages (subst (IsHeldPart memory to) (sym many) held)

pub byte_at-copied : (memory : List (List ℕ)) (from to len i : ℕ) → All IsPage memory → IsHeldPart memory to len → i < len → byte_at (copied memory from to len) (to + i) ≡ byte_at memory (from + i)
byte_at-copied memory from to len i pages held within =
    sym (get_or-map-range_with_len (byte_at (copied memory from to len)) to len i (to + i) 0 within refl)
    ∙ ap (λ (bytes : List ℕ). get_or bytes i 0) (bytes_at-copied memory from to len pages held)
    ∙ get_or-map-range_with_len (byte_at memory) from len i (from + i) 0 within refl

pub bytes_at-copied_outside : (memory : List (List ℕ)) (from to len first n : ℕ) → first_address ≤ to → first_address ≤ first → (first + n ≤ to) ⊎ (to + len ≤ first) → bytes_at (copied memory from to len) first n ≡ bytes_at memory first n
bytes_at-copied_outside memory from to len first n low_to low outside =
    bytes_at-with_bytes_outside memory to (bytes_at memory from len) first n low_to low
    (subst (λ (k : ℕ). (first + n ≤ to) ⊎ (to + k ≤ first)) (sym (length-bytes_at memory from len)) outside)

-- a copy in two parts, where the first writes no byte that the second reads
pub copied-more : (memory : List (List ℕ)) (from to done piece : ℕ) → first_address ≤ from → first_address ≤ to → (from + done + piece ≤ to) ⊎ (to + done ≤ from + done)
    → copied (copied memory from to done) (from + done) (to + done) piece ≡ copied memory from to (done + piece)
copied-more memory from to done piece low_from low_to outside =
    let front : List ℕ = bytes_at memory from done in
    let back : List ℕ = bytes_at memory (from + done) piece in
    ap (with_bytes (with_bytes memory to front) (to + done)) (bytes_at-copied_outside memory from to done (from + done) piece low_to (omega arith) outside)
    ∙ ap (λ (n : ℕ). with_bytes (with_bytes memory to front) (to + n) back) (sym (length-bytes_at memory from done))
    ∙ sym (with_bytes-append memory to front back)
    ∙ ap (with_bytes memory to) (sym (bytes_at-append memory from done piece))
