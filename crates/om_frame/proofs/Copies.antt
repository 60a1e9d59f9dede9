-- Bytes of a block written over others, of the same block or of another.
use Rattle.std.proofs.Common.{◌≡◌, ℕ, ◌+◌, ◌-◌, ◌*◌, ◌<◌, ◌≤◌, List, [], ◌++◌, length, take, drop, get_or, set, refl, sym, ap, subst, ◌∙◌, arith, Vec, Global}
use Rattle.std.specs.Prelude.{◌⊎◌}
use Rattle.std.proofs.lemmas.Bool.{ltb-true, cases_lt}
use Rattle.std.proofs.lemmas.List.{map-set, get_or-map, get_or-take, get_or-drop, set-append_left, set-append_right, take_at, length-map, length-take}
use Rattle.std.specs.Vec.{with_items}
use Rattle.om_geom.specs.Addresses.{page_at}
use Rattle.om_geom.specs.AddressLaws.{SharesByte-from}
use Rattle.om_geom.specs.Numbers.{page_size, zone_pages, most_zones, first_address}
use Rattle.om_frame.specs.Memory.{page_bytes, offset_at, with_bytes, copied, part_extent, ShareNoByte, IsHeldPart}
use Rattle.om_frame.specs.MemoryLaws.{spliced, address-from, bytes_at-on_page, with_bytes-on_page, length-page-with_bytes, is_held-there, held_at-low}
use Rattle.om_frame.specs.WriteLaws.{copied-more}
use Rattle.om_frame.specs.Blocks.{memory_of, AreBlocks}
use Rattle.om_frame.proofs.Shelves.{IsBlockAt, part-held, pages-law}
use mathlib.Core.Logic.{⊎_elim, inl, inr}

pub block-bytes : (blocks : List (Vec ℕ Global)) (page : ℕ) (d : Vec ℕ Global) → page < length blocks → page_bytes (memory_of blocks) page ≡ (get_or blocks page d).items
block-bytes blocks page d there = get_or-map (λ (block : Vec ℕ Global). block.items) blocks page d [] there

-- the blocks are cut in two, and this is one of the first
pub block-low : (blocks low : List (Vec ℕ Global)) (cut page : ℕ) (d : Vec ℕ Global) → low ≡ take cut blocks → page < cut → page < length blocks → page_bytes (memory_of blocks) page ≡ (get_or low page d).items
block-low blocks low cut page d is before there =
    block-bytes blocks page d there
    ∙ ap (λ (block : Vec ℕ Global). block.items) (sym (ap (λ (bs : List (Vec ℕ Global)). get_or bs page d) is ∙ get_or-take cut blocks page d before))

-- and this the first of the others
pub block-high : (blocks high : List (Vec ℕ Global)) (cut : ℕ) (d : Vec ℕ Global) → high ≡ drop cut blocks → cut < length blocks → page_bytes (memory_of blocks) cut ≡ (get_or high 0 d).items
block-high blocks high cut d is there =
    let at : cut + 0 ≡ cut = omega arith in
    block-bytes blocks cut d there
    ∙ ap (λ (block : Vec ℕ Global). block.items) (sym (ap (λ (bs : List (Vec ℕ Global)). get_or bs 0 d) is ∙ get_or-drop cut blocks 0 d ∙ ap (λ (page : ℕ). get_or blocks page d) at))

-- one block has other bytes, as many as before
pub memory_of-written : (blocks : List (Vec ℕ Global)) (page offset : ℕ) (block : Vec ℕ Global) (new bytes : List ℕ) → page_bytes (memory_of blocks) page ≡ block.items → length new ≡ length block.items
    → new ≡ spliced offset block.items bytes → memory_of (set blocks page (with_items block new)) ≡ set (memory_of blocks) page (spliced offset (page_bytes (memory_of blocks) page) bytes)
memory_of-written blocks page offset block new bytes shown many is =
    map-set (λ (block : Vec ℕ Global). block.items) blocks page (with_items block new)
    ∙ ap (set (memory_of blocks) page) (take_at new (drop (length new) block.items) block.len (many ∙ sym block.ok.0) ∙ is ∙ ap (λ (old : List ℕ). spliced offset old bytes) (sym shown))

pub set-low : (blocks low high : List (Vec ℕ Global)) (page : ℕ) (block : Vec ℕ Global) → blocks ≡ low ++ high → page < length low → set low page block ++ high ≡ set blocks page block
set-low blocks low high page block is before = sym (ap (λ (bs : List (Vec ℕ Global)). set bs page block) is ∙ set-append_left low high page block before)

pub set-high : (blocks low high : List (Vec ℕ Global)) (cut : ℕ) (block : Vec ℕ Global) → blocks ≡ low ++ high → length low ≡ cut → low ++ set high 0 block ≡ set blocks cut block
set-high blocks low high cut block is many =
    let at : cut - cut ≡ 0 = omega arith in
    sym (ap (λ (bs : List (Vec ℕ Global)). set bs cut block) is ∙ set-append_right low high cut cut block many (omega arith) ∙ ap (λ (page : ℕ). low ++ set high page block) at)

-- ---- a part of memory that comes to another

-- the page of a part that is held
pub part-page : (blocks : List (Vec ℕ Global)) (memory : List (List ℕ)) (at len : ℕ) → memory_of blocks ≡ memory → AreBlocks blocks → IsHeldPart memory at len → 0 < len
    → (first_address ≤ at) × IsBlockAt (memory_of blocks) (page_at at) (page_bytes (memory_of blocks) (page_at at))
part-page blocks memory at len view are held some =
    let begins = part-held (memory_of blocks) at len (subst (λ (m : List (List ℕ)). IsHeldPart m at len) (sym view) held) some in
    let there = is_held-there (memory_of blocks) (page_at at) begins.1 in
    (begins.0, record { there = there; long = pages-law blocks are (page_at at) [] there (ltb-true 0 (length (page_bytes (memory_of blocks) (page_at at))) begins.1); bytes = refl })

-- which of two parts comes first
apart-cases : (from to len : ℕ) → 0 < len → ShareNoByte from to len → (from + len ≤ to) ⊎ (to + len ≤ from)
apart-cases from to len some apart = ⊎_elim
    (λ (low : from < to + len). ⊎_elim
    (λ (high : to < from + len). absurd (apart (SharesByte-from (part_extent from len) (part_extent to len) some some low high)))
    (λ (before : from + len ≤ to). inl before)
    (cases_lt to (from + len)))
    (λ (after : to + len ≤ from). inr after)
    (cases_lt from (to + len))

pub offsets-apart : (from to len : ℕ) → first_address ≤ from → first_address ≤ to → 0 < len → ShareNoByte from to len → page_at from ≡ page_at to → (offset_at from + len ≤ offset_at to) ⊎ (offset_at to + len ≤ offset_at from)
offsets-apart from to len low_from low_to some apart same = ⊎_elim
    (λ (before : from + len ≤ to). inl (omega arith))
    (λ (after : to + len ≤ from). inr (omega arith))
    (apart-cases from to len some apart)

pub copied-on_pages : (memory : List (List ℕ)) (from to len : ℕ) → first_address ≤ from → first_address ≤ to → IsBlockAt memory (page_at from) (page_bytes memory (page_at from)) → IsBlockAt memory (page_at to) (page_bytes memory (page_at to))
    → offset_at from + len ≤ page_size → offset_at to + len ≤ page_size
    → copied memory from to len ≡ set memory (page_at to) (spliced (offset_at to) (page_bytes memory (page_at to)) (take len (drop (offset_at from) (page_bytes memory (page_at from)))))
copied-on_pages memory from to len low_from low_to source target within_from within_to =
    let bytes : List ℕ = take len (drop (offset_at from) (page_bytes memory (page_at from))) in
    let few = length-take len (drop (offset_at from) (page_bytes memory (page_at from))) in
    ap (with_bytes memory to) (bytes_at-on_page memory from (page_at from) (offset_at from) len (address-from from low_from) within_from (omega (arith, source.long)))
    ∙ with_bytes-on_page memory to (page_at to) (offset_at to) bytes (address-from to low_to) (omega arith) (omega (arith, target.long)) target.there

-- the same of the blocks, as they are left by a copy between the places of two addresses
pub copied-blocks : (blocks now new : List (Vec ℕ Global)) (memory : List (List ℕ)) (from to len s i t j : ℕ) → memory_of blocks ≡ memory → AreBlocks blocks → IsHeldPart memory from len → IsHeldPart memory to len → 0 < len
    → offset_at from + len ≤ page_size → offset_at to + len ≤ page_size → now ≡ blocks → s ≡ page_at from → i ≡ offset_at from → t ≡ page_at to → j ≡ offset_at to
    → memory_of new ≡ set (memory_of now) t (spliced j (page_bytes (memory_of now) t) (take len (drop i (page_bytes (memory_of now) s)))) → memory_of new ≡ copied (memory_of blocks) from to len
copied-blocks blocks now new memory from to len s i t j view are held_from held_to some within_from within_to same on_s on_i on_t on_j is =
    let source = part-page blocks memory from len view are held_from some in
    let target = part-page blocks memory to len view are held_to some in
    is ∙ rw (same, on_s, on_i, on_t, on_j) (sym (copied-on_pages (memory_of blocks) from to len source.0 target.0 source.1 target.1 within_from within_to))

pub whole-items : (blocks : Vec (Vec ℕ Global) Global) (new : List (Vec ℕ Global)) → length new ≡ length blocks.items → (with_items blocks new).items ≡ new
whole-items blocks new many = take_at new (drop (length new) blocks.items) blocks.len (many ∙ sym blocks.ok.0)

are_blocks-written : (blocks new : List (Vec ℕ Global)) (at : ℕ) (bytes : List ℕ) → memory_of new ≡ with_bytes (memory_of blocks) at bytes → length new ≡ length blocks → AreBlocks blocks → AreBlocks new
are_blocks-written blocks new at bytes is many are k d lt some =
    let same : length (get_or new k d).items ≡ length (page_bytes (memory_of blocks) k) =
    ap length (sym (block-bytes new k d lt)) ∙ ap (λ (memory : List (List ℕ)). length (page_bytes memory k)) is ∙ length-page-with_bytes (memory_of blocks) at bytes k in
    let there : k < length (memory_of blocks) = omega (arith, length-map blocks (λ (block : Vec ℕ Global). block.items)) in
    same ∙ pages-law blocks are k [] there (subst (λ (n : ℕ). 0 < n) same some)

-- the shelf keeps its invariant
pub shelf-written : (blocks : Vec (Vec ℕ Global) Global) (new : List (Vec ℕ Global)) (at : ℕ) (bytes : List ℕ) → memory_of new ≡ with_bytes (memory_of blocks.items) at bytes → length new ≡ length blocks.items
    → (length blocks.items ≤ zone_pages * most_zones) × AreBlocks blocks.items → (length (with_items blocks new).items ≤ zone_pages * most_zones) × AreBlocks (with_items blocks new).items
shelf-written blocks new at bytes is many are =
    subst (λ (items : List (Vec ℕ Global)). (length items ≤ zone_pages * most_zones) × AreBlocks items) (sym (whole-items blocks new many)) (omega arith, are_blocks-written blocks.items new at bytes is many are.1)

-- one more part of a range is copied
pub copied-part : (old memory : List (List ℕ)) (from to len done i j piece : ℕ) → IsHeldPart old from len → IsHeldPart old to len → ShareNoByte from to len → memory ≡ copied old from to done → i ≡ done → j ≡ done → 0 < piece → done + piece ≤ len
    → copied memory (from + i) (to + j) piece ≡ copied old from to (done + piece)
copied-part old memory from to len done i j piece held_from held_to apart so_far on_i on_j some within =
    let low_from : first_address ≤ from = held_at-low old from (held_from from (omega arith) (omega arith)) in
    let low_to : first_address ≤ to = held_at-low old to (held_to to (omega arith) (omega arith)) in
    let outside : (from + done + piece ≤ to) ⊎ (to + done ≤ from + done) = ⊎_elim
    (λ (before : from + len ≤ to). inl (omega arith))
    (λ (after : to + len ≤ from). inr (omega arith))
    (apart-cases from to len (omega arith) apart) in
    rw (so_far, on_i, on_j) (copied-more old from to done piece low_from low_to outside)
