-- Memory as a list of lists of bytes.
use Rattle.std.proofs.Common.{◌≡◌, ℕ, ◌+◌, ◌<◌, List, [], ◌∷◌, set, get_or, take, length, ap, ◌∙◌, sym, Vec, Global, arith}
use Rattle.std.proofs.lemmas.List.{map-set, get_or-map, take_more, length-take-le}
use Rattle.om_frame.specs.Blocks.{memory_of}
use Rattle.om_frame.specs.Frames.{with_frames, zero_frame, zero_frames, zeros}
use Rattle.om_frame.specs.Memory.{page_bytes, with_byte, with_bytes}
use Rattle.om_frame.specs.FrameLaws.{zero_frames-more, with_frames-append}
use Rattle.om_frame.specs.MemoryLaws.{with_bytes-append}

pub set-page : (pages : List (Vec ℕ Global)) (page : ℕ) (bytes : Vec ℕ Global) → memory_of (set pages page bytes) ≡ set (memory_of pages) page bytes.items
set-page pages page bytes = map-set (λ (block : Vec ℕ Global). block.items) pages page bytes

-- a byte of a page
pub put-byte : (pages : List (Vec ℕ Global)) (page offset byte : ℕ) (old new : Vec ℕ Global) → page < length pages → old ≡ get_or pages page old → new.items ≡ set old.items offset byte
    → memory_of (set pages page new) ≡ set (memory_of pages) page (set (page_bytes (memory_of pages) page) offset byte)
put-byte pages page offset byte old new there is written =
    set-page pages page new
    ∙ ap (set (memory_of pages) page)
    (written ∙ ap (λ (bytes : List ℕ). set bytes offset byte) (ap (λ (block : Vec ℕ Global). block.items) is ∙ sym (get_or-map (λ (block : Vec ℕ Global). block.items) pages page old [] there)))

pub zeros-more : (memory : List (List ℕ)) (first n : ℕ) → set (with_frames memory (zero_frames first n)) (first + n) zeros ≡ with_frames memory (zero_frames first (n + 1))
zeros-more memory first n = sym (ap (with_frames memory) (zero_frames-more first n) ∙ with_frames-append memory (zero_frames first n) (zero_frame (first + n) ∷ []))

-- the bytes so far, and the next
pub write-next : (memory : List (List ℕ)) (address : ℕ) (bytes : List ℕ) (i : ℕ) → i < length bytes
    → with_byte (with_bytes memory address (take i bytes)) (address + i) (get_or bytes i 0) ≡ with_bytes memory address (take (i + 1) bytes)
write-next memory address bytes i there =
    let long : length (take i bytes) ≡ i = length-take-le i bytes (omega arith) in
    sym (ap (with_bytes memory address) (take_more bytes i 0 there)
    ∙ with_bytes-append memory address (take i bytes) (get_or bytes i 0 ∷ [])
    ∙ ap (λ (n : ℕ). with_byte (with_bytes memory address (take i bytes)) (address + n) (get_or bytes i 0)) long)
