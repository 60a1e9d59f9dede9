-- Frees of one address in a journal, and the blocks that were given there.
use Rattle.std.specs.Prelude.{◌≡◌, ℕ, Bool, true, false, ◌==◌, List, ◌∷◌, ◌++◌}
use Rattle.std.specs.List.{list_any}
use Rattle.om_model.specs.Data.CallEntry.{CallEntry}
use Rattle.om_model.specs.declared.entry.Entry.{Entry}
use Rattle.om_model.specs.declared.entry.Entry.TheVariants.{Call}
use Rattle.om_model.specs.declared.operation.Op.TheVariants.{Free}
use Rattle.om_model.specs.declared.reply.Reply.{Reply}
use Rattle.om_model.specs.declared.reply.Reply.TheVariants.{Block, Done}

-- the address was freed, and the free was done
abbrev pub IsFreeDone : ℕ → CallEntry → Type 0
IsFreeDone address entry = (entry.op ≡ Free address) × (entry.reply ≡ Done)

-- a block was given that begins at the address
abbrev pub is_block_at : ℕ → Reply → Bool
is_block_at address (Block given) = given == address
is_block_at address other = false

abbrev pub gives_at : ℕ → Entry → Bool
gives_at address (Call entry) = is_block_at address entry.reply
gives_at address other = false

-- no block is freed by two calls of free: between two frees of an address that were both done, a block was given there
abbrev pub AreFreedOnce : List Entry → Type 0
AreFreedOnce entries = (before : List Entry) (first : CallEntry) (between : List Entry) (second : CallEntry) (rest : List Entry) (address : ℕ)
    → entries ≡ before ++ Call first ∷ between ++ Call second ∷ rest → IsFreeDone address first → IsFreeDone address second
    → list_any (gives_at address) between ≡ true
