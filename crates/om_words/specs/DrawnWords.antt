-- The words that a pool draws: a list again and again, or the key stream of ChaCha8 under a key that holds
-- a seed and the pool's number.
use Rattle.std.specs.Prelude.{ℕ, ◌%◌, List, ◌++◌, length, replicate, slice_index}
use Rattle.std.specs.Int.{w32, w64, to_le_bytes}
use Rattle.rand_chacha.specs.ChaCha.{word_at, key_of}

-- where words come from
pub data Source : Type 0 where
  listed : List ℕ → Source
  -- a seed and the number of a pool
  seeded : ℕ → ℕ → Source

-- the 32 bytes of a key: the seed's 8 and the pool's 4, each with the least significant first, and zeros
unfoldable pub key_bytes : ℕ → ℕ → List ℕ
key_bytes seed pool = to_le_bytes w64 seed ++ to_le_bytes w32 pool ++ replicate 20 0

-- word i of a source; ChaCha8 has 4 double rounds, and its stream is 0
abbrev pub word_of : Source → ℕ → ℕ
word_of (listed list) i = slice_index list (i % length list)
word_of (seeded seed pool) i = word_at 4 (key_of (key_bytes seed pool)) 0 i

-- a source, and how many of its words are drawn, so that the next one is the word of that number
pub record WordSource : Type 0 where
  pub source : Source
  pub place : ℕ

-- a source of which no word is drawn
abbrev pub undrawn : Source → WordSource
undrawn source = record { source = source; place = 0 }
