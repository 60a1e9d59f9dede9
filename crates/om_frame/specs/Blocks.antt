-- Blocks of bytes, each of which stands for a page: with 4096 bytes for one that is held, and none for any other.
use Rattle.std.specs.Prelude.{ℕ, List, map, Vec, All}
use Rattle.std.specs.declared.alloc.Global.{Global}
use Rattle.om_frame.specs.Memory.{IsPage}

-- the memory of the blocks
abbrev pub memory_of : List (Vec ℕ Global) → List (List ℕ)
memory_of blocks = map (λ block. block.items) blocks

abbrev pub AreBlocks : List (Vec ℕ Global) → Type 0
AreBlocks blocks = All (λ block. IsPage block.items) blocks
