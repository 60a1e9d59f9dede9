-- What a shelf's blocks say of memory.
use Rattle.std.proofs.Common.{◌≡◌, ℕ, ◌+◌, ◌-◌, ◌*◌, ◌<◌, ◌≤◌, List, [], ◌++◌, length, take, drop, get_or, set, replicate, true, false, nat_eq, refl, sym, ap, subst, ◌∙◌, arith, nat_le, Vec, Global, append-nil, length-append, length-drop}
use Rattle.std.proofs.Math.Seq.{take-append-add}
use Rattle.std.proofs.lemmas.Bool.{and_parts, ltb-true, leb-true, ne_eqb, cases_lt}
use Rattle.std.proofs.lemmas.List.{map-set, get_or-map, length-map, length-set, length-replicate, get_or-replicate, length-take-le, take_all, take_at, drop_all, take-append-le, length-take}
use Rattle.std.proofs.lemmas.List.Elements.{All-set, All-map}
use Rattle.om_geom.specs.Addresses.{page_at}
use Rattle.om_geom.specs.Numbers.{page_size, zone_pages, most_zones, first_address}
use Rattle.std.specs.Prelude.{All}
use Rattle.std.specs.Vec.{with_items_from}
use Rattle.om_frame.specs.Memory.{page_bytes, is_held, offset_at, bytes_at, IsPage, IsHeldPart, with_bytes, filled, with_part}
use Rattle.om_frame.specs.MemoryLaws.{address-from, bytes_at-on_page, with_bytes-on_page, spliced, is_held-there, filled-more}
use Rattle.om_frame.specs.Blocks.{memory_of, AreBlocks}
use mathlib.Core.Logic.{⊎_elim}

-- the block of a page that is held
pub record IsBlockAt (memory : List (List ℕ)) (page : ℕ) (block : List ℕ) : Type 0 where
  pub there : page < length memory
  pub long : length block ≡ page_size
  pub bytes : page_bytes memory page ≡ block

block-at : (blocks : List (Vec ℕ Global)) (page : ℕ) (block : Vec ℕ Global) → AreBlocks blocks → is_held (memory_of blocks) page ≡ true → block ≡ get_or blocks page block → IsBlockAt (memory_of blocks) page block.items
block-at blocks page block are held is =
    let there = is_held-there (memory_of blocks) page held in
    let within : page < length blocks = omega (arith, length-map blocks (λ (block : Vec ℕ Global). block.items)) in
    let shown : page_bytes (memory_of blocks) page ≡ block.items = get_or-map (λ (block : Vec ℕ Global). block.items) blocks page block [] within ∙ ap (λ (block : Vec ℕ Global). block.items) (sym is) in
    let some : 0 < length block.items = subst (λ (bytes : List ℕ). 0 < length bytes) shown (ltb-true 0 (length (page_bytes (memory_of blocks) page)) held) in
    let whole = are page block within in
    record { there = there; long = subst (λ (block : Vec ℕ Global). IsPage block.items) (sym is) whole some; bytes = shown }

-- a part with some byte begins on a held page of the arena
pub part-held : (memory : List (List ℕ)) (at len : ℕ) → IsHeldPart memory at len → 0 < len → (first_address ≤ at) × (is_held memory (page_at at) ≡ true)
part-held memory at len held some =
    let both = and_parts (nat_le first_address at) (is_held memory (page_at at)) (held at (omega arith) (omega arith)) in
    (leb-true first_address at both.0, both.1)

-- the block of which such a part is lent
pub block-lent : (blocks : List (Vec ℕ Global)) (memory : List (List ℕ)) (at len page : ℕ) (block : Vec ℕ Global) → memory_of blocks ≡ memory → AreBlocks blocks → IsHeldPart memory at len → 0 < len
    → page ≡ page_at at → block ≡ get_or blocks page block → (first_address ≤ at) × IsBlockAt (memory_of blocks) (page_at at) block.items
block-lent blocks memory at len page block view are held some on is =
    let begins = part-held (memory_of blocks) at len (subst (λ (m : List (List ℕ)). IsHeldPart m at len) (sym view) held) some in
    (begins.0, block-at blocks (page_at at) block are begins.1 (subst (λ (p : ℕ). block ≡ get_or blocks p block) on is))

-- what is lent of a block are the bytes of memory
pub part-bytes : (memory : List (List ℕ)) (at len : ℕ) (block : List ℕ) → IsBlockAt memory (page_at at) block → first_address ≤ at → offset_at at + len ≤ page_size → take len (drop (offset_at at) block) ≡ bytes_at memory at len
part-bytes memory at len block is low within =
    sym (bytes_at-on_page memory at (page_at at) (offset_at at) len (address-from at low) within (omega (arith, ap length is.bytes, is.long))
    ∙ ap (λ (bytes : List ℕ). take len (drop (offset_at at) bytes)) is.bytes)

-- A list of any length, written over a list of n from the offset on and cut or filled up to n: what goes past the
-- end doesn't count.
spliced-cut : (n offset : ℕ) (bytes new : List ℕ) → length bytes ≡ n → offset ≤ n
    → take n (spliced offset bytes new ++ drop (length (spliced offset bytes new)) bytes) ≡ spliced offset bytes (take (n - offset) new)
spliced-cut n offset bytes new long within =
    let front = length-take-le offset bytes (omega arith) in
    let tail = length-drop offset bytes in
    ⊎_elim
    (λ (over : n - offset < length new).
    let z : List ℕ = new ++ drop (length new) (drop offset bytes) in
    let whole = length-append (take offset bytes) z in
    let rest = length-append new (drop (length new) (drop offset bytes)) in
    let cut = length-take-le (n - offset) new (omega arith) in
    let at : n ≡ length (take offset bytes) + (n - offset) = omega arith in
    let none : drop (length (take (n - offset) new)) (drop offset bytes) ≡ [] = drop_all (length (take (n - offset) new)) (drop offset bytes) (omega arith) in
    take-append-le n (spliced offset bytes new) _ (omega arith)
    ∙ ap (λ (k : ℕ). take k (take offset bytes ++ z)) at
    ∙ take-append-add (take offset bytes) z (n - offset)
    ∙ ap (λ (xs : List ℕ). take offset bytes ++ xs) (take-append-le (n - offset) new (drop (length new) (drop offset bytes)) (omega arith)
    ∙ sym (ap (λ (xs : List ℕ). take (n - offset) new ++ xs) none ∙ append-nil (take (n - offset) new))))
    (λ (short : length new ≤ n - offset).
    let rest = length-drop (length new) (drop offset bytes) in
    let after = length-append new (drop (length new) (drop offset bytes)) in
    let whole = length-append (take offset bytes) (new ++ drop (length new) (drop offset bytes)) in
    take_at (spliced offset bytes new) _ n (omega arith) ∙ ap (spliced offset bytes) (sym (take_all (n - offset) new short)))
    (cases_lt (n - offset) (length new))

with_part-some : (memory : List (List ℕ)) (at len : ℕ) (new : List ℕ) → 0 < len → with_part memory at len new ≡ with_bytes memory at (take (page_size - offset_at at) new)
with_part-some memory at len new some = let differs : nat_eq len 0 ≡ false = ne_eqb len 0 (λ none. omega arith) in rw differs refl

pub memory_of-lent : (blocks : List (Vec ℕ Global)) (block : Vec ℕ Global) (at len : ℕ) (new : List ℕ) → IsBlockAt (memory_of blocks) (page_at at) block.items → first_address ≤ at → 0 < len → offset_at at + len ≤ page_size
    → memory_of (set blocks (page_at at) (with_items_from block (offset_at at) new)) ≡ with_part (memory_of blocks) at len new
memory_of-lent blocks block at len new is low some within =
    let memory : List (List ℕ) = memory_of blocks in
    let offset : ℕ = offset_at at in
    let long : block.len ≡ page_size = block.ok.0 ∙ is.long in
    let kept : List ℕ = take (page_size - offset) new in
    let fits = length-take (page_size - offset) new in
    map-set (λ (block : Vec ℕ Global). block.items) blocks (page_at at) (with_items_from block offset new)
    ∙ ap (λ (n : ℕ). set memory (page_at at) (take n (spliced offset block.items new ++ drop (length (spliced offset block.items new)) block.items))) long
    ∙ ap (set memory (page_at at)) (spliced-cut page_size offset block.items new is.long (omega arith))
    ∙ ap (λ (bytes : List ℕ). set memory (page_at at) (spliced offset bytes kept)) (sym is.bytes)
    ∙ sym (with_bytes-on_page memory at (page_at at) offset kept (address-from at low) (omega arith) (omega (arith, ap length is.bytes, is.long)) is.there)
    ∙ sym (with_part-some memory at len new some)

-- the shelf keeps its invariant while a block is lent
pub are_blocks-lent : (blocks : List (Vec ℕ Global)) (block : Vec ℕ Global) (page offset : ℕ) (new : List ℕ) → length block.items ≡ page_size → (length blocks ≤ zone_pages * most_zones) × AreBlocks blocks
    → (length (set blocks page (with_items_from block offset new)) ≤ zone_pages * most_zones) × AreBlocks (set blocks page (with_items_from block offset new))
are_blocks-lent blocks block page offset new long are = (
  omega (arith, length-set blocks page (with_items_from block offset new)),
  All-set (λ (block : Vec ℕ Global). IsPage block.items) blocks page (with_items_from block offset new)
      (λ some. sym (with_items_from block offset new).ok.0 ∙ block.ok.0 ∙ long) are.1,
)

-- blocks without bytes
pub are_blocks-none : (blocks : List (Vec ℕ Global)) (n : ℕ) → memory_of blocks ≡ replicate n [] → n ≤ zone_pages * most_zones → (length blocks ≤ zone_pages * most_zones) × AreBlocks blocks
are_blocks-none blocks n none few =
    let long : length blocks ≡ n = sym (length-map blocks (λ (block : Vec ℕ Global). block.items)) ∙ ap length none ∙ length-replicate n [] in (
      omega arith,
      λ k d lt some.
          let empty : (get_or blocks k d).items ≡ [] = sym (get_or-map (λ (block : Vec ℕ Global). block.items) blocks k d [] lt) ∙ ap (λ (m : List (List ℕ)). get_or m k []) none ∙ get_or-replicate n k [] [] (omega arith) in
          absurd (omega (arith, ap length empty)),
    )

pub pages-law : (blocks : List (Vec ℕ Global)) → AreBlocks blocks → All IsPage (memory_of blocks)
pages-law blocks are = All-map IsPage (λ (block : Vec ℕ Global). block.items) blocks are

-- one more part of a range is filled
pub filled-part : (old memory : List (List ℕ)) (at done here piece byte n : ℕ) (new : List ℕ) → memory ≡ filled old at done byte → here ≡ at + done → 0 < piece → offset_at here + piece ≤ page_size
    → new ≡ replicate n byte → n ≡ piece → with_part memory here piece new ≡ filled old at (done + piece) byte
filled-part old memory at done here piece byte n new so_far on some within is many =
    let whole : new ≡ replicate piece byte = is ∙ ap (λ (k : ℕ). replicate k byte) many in
    with_part-some memory here piece new some
    ∙ ap (λ (bytes : List ℕ). with_bytes memory here (take (page_size - offset_at here) bytes)) whole
    ∙ ap (with_bytes memory here) (take_all (page_size - offset_at here) (replicate piece byte) (omega (arith, length-replicate piece byte)))
    ∙ ap (λ (a : ℕ). filled memory a piece byte) on
    ∙ ap (λ (m : List (List ℕ)). filled m (at + done) piece byte) so_far
    ∙ filled-more old at done piece byte
