-- The state of a pool: the pages that it holds, in ascending order; its live blocks; its slots, each with a
-- delayed place or nothing; how many random words it has drawn; and memory, which has the bytes of each held page.
use Rattle.std.specs.Prelude.{ℕ, ◌+◌, Bool, ◌&&◌, not, nat_eq, nat_le, nat_lt, List, [], ◌++◌, Option, None, filter, replicate}
use Rattle.std.specs.List.{filter_map, list_any, range_with_len}
use Rattle.om_delay.specs.Slots.{slot_count}
use Rattle.om_frame.specs.Frames as frames
use Rattle.om_frame.specs.Memory.{no_pages, filled, with_byte}
use Rattle.om_geom.specs.Addresses.{is_in_arena, page_at}
use Rattle.om_geom.specs.declared.address.Extent.{Extent}
use Rattle.om_model.specs.Pool.Rules.{Rules}
use Rattle.om_model.specs.Pool.Runs.{Run, is_page_of}
use Rattle.om_model.specs.declared.block.Block.{Block}
use Rattle.om_model.specs.declared.block.Place.{Place}

pub record State : Type 0 where
  pub held : List ℕ
  pub live : List Block
  pub slots : List (Option Place)
  pub drawn : ℕ
  pub memory : List (List ℕ)

-- the word for the canary byte is drawn at the start
abbrev pub opening : Rules → State
opening rules = record { held = []; live = []; slots = replicate slot_count None; drawn = 1; memory = no_pages rules.zones }

-- so many more words are drawn
abbrev pub drawn_more : ℕ → State → State
drawn_more count state = record state { drawn = state.drawn + count }

-- the delayed places, in the order of their slots
abbrev pub delayed : List (Option Place) → List Place
delayed slots = filter_map (λ slot. slot) slots

abbrev pub is_held : List ℕ → ℕ → Bool
is_held held page = list_any (nat_eq page) held

-- whether the page of the address is held
abbrev pub holds : Rules → State → ℕ → Bool
holds rules state address = is_in_arena address rules.zones && is_held state.held (page_at address)

-- the held pages with those of a run, in ascending order again
abbrev pub with_run : Run → List ℕ → List ℕ
with_run run held =
    filter (λ page. nat_lt page run.first) held ++ range_with_len run.first run.count ++ filter (λ page. nat_le (run.first + run.count) page) held

abbrev pub without_run : Run → List ℕ → List ℕ
without_run run held = filter (λ page. not (is_page_of run page)) held

-- the pages of a run join the held ones, with zeros as their bytes
abbrev pub with_pages : Run → State → State
with_pages run state = record state {
  held = with_run run state.held;
  memory = frames.with_frames state.memory (frames.zero_frames run.first run.count);
}

-- they leave with their bytes
abbrev pub without_pages : Run → State → State
without_pages run state = record state {
  held = without_run run state.held;
  memory = frames.without_pages state.memory run.first run.count;
}

-- the same byte is written all over the extent
abbrev pub filled_with : ℕ → Extent → State → State
filled_with byte extent state = record state { memory = filled state.memory extent.first extent.len byte }

-- one byte is written
abbrev pub written : ℕ → ℕ → State → State
written address byte state = record state { memory = with_byte state.memory address byte }
