-- The moves of the zones: the claims and releases that stand in the journals of all pools.
use Rattle.std.specs.Prelude.{ℕ, ◌+◌, ◌-◌, true, false, List, [], ◌∷◌, ◌++◌, map, length, slice_get, Option, Some, None}
use Rattle.std.specs.List.{flat_map}
use Rattle.std.specs.Option.{option_and_then, option_map_or, option_to_list}
use Rattle.om_model.specs.Data.CallEntry.{CallEntry}
use Rattle.om_model.specs.Pool.Malloc.{pages_for, words_for}
use Rattle.om_model.specs.Pool.Product.{product}
use Rattle.om_model.specs.Pool.Rules.{Rules}
use Rattle.om_model.specs.declared.entry.ZoneMove.{ZoneMove}
use Rattle.om_model.specs.declared.entry.Entry.{Entry}
use Rattle.om_model.specs.declared.entry.Entry.TheVariants.{Call, Phase}
use Rattle.om_model.specs.declared.operation.Op.{Op}
use Rattle.om_model.specs.declared.operation.Op.TheVariants.{Malloc, Calloc, Realloc, Reallocarray}

-- the size of the block that an operation asks for; none where a product overflows
abbrev pub size_asked : Op → Option ℕ
size_asked (Malloc size site) = Some size
size_asked (Calloc count size site) = product count size
size_asked (Realloc address size site) = Some size
size_asked (Reallocarray address count size site) = product count size
size_asked op = None

-- how many pages a call searches for
abbrev pub pages_sought : Rules → Op → ℕ
pages_sought rules op = option_map_or (pages_for rules) (size_asked op) 0

-- The word by which a call searches: the first of those that the placing of its block draws, which come last.
-- A claim at a given place draws none.
abbrev pub search_word : Rules → CallEntry → Option ℕ
search_word rules entry = option_and_then (λ size. slice_get entry.words (length entry.words - words_for rules size)) (size_asked entry.op)

abbrev pub moves_of_call : Rules → ℕ → CallEntry → List ZoneMove
moves_of_call rules pool entry =
    map (λ move. record { pool = pool; claims = true; made = move; search = search_word rules entry }) (option_to_list entry.claim)
    ++ map (λ move. record { pool = pool; claims = false; made = move; search = None }) (option_to_list entry.release)

abbrev pub moves_of_entry : Rules → ℕ → Entry → List ZoneMove
moves_of_entry rules pool (Call entry) = moves_of_call rules pool entry
moves_of_entry rules pool (Phase number) = []

-- the moves of the journal of the pool with this number
abbrev pub moves_of : Rules → ℕ → List Entry → List ZoneMove
moves_of rules pool entries = flat_map (moves_of_entry rules pool) entries

-- the moves of all journals, that of the first pool first, each by the rules of its pool
abbrev pub moves_from : (ℕ → Rules) → ℕ → List (List Entry) → List ZoneMove
moves_from rules pool [] = []
moves_from rules pool (entries ∷ journals) = moves_of (rules pool) pool entries ++ moves_from rules (pool + 1) journals
