-- Memory has the bytes of the held pages, and no others: where pages come or go, and where bytes are written. What
-- is written changes memory alone.
use Rattle.std.proofs.Common.{◌≡◌, ◌≢◌, ℕ, zero, suc, ◌+◌, ◌*◌, ◌<◌, ◌≤◌, Bool, true, false, not, ◌&&◌, ◌||◌, ◌==◌, List, [], length, map, min, set, replicate, Option, Some, None, if◌then◌else◌, refl, sym, ap, ◌∙◌, arith}
use Rattle.std.specs.List.{range_with_len, AllByRecursion}
use Rattle.std.proofs.lemmas.Bool.{true≢false, cases_Bool, cases_eq, cases_lt, and_from, le-leb, lt-ltb}
use Rattle.std.proofs.lemmas.List.{get_or-replicate, get_or-set_same, get_or_past, length-set, length-replicate}
use mathlib.Core.Logic.{⊎_elim}
use Rattle.om_frame.specs.Frames as frames
use Rattle.om_frame.specs.FrameLaws.{length-with_frames, page_bytes-with_frames, page_bytes-with_zeros}
use Rattle.om_frame.specs.Frames.{PageBytes, zeros, empty_frame}
use Rattle.om_frame.specs.Memory.{page_bytes, bytes_at, no_pages, with_bytes}
use Rattle.om_frame.specs.MemoryLaws.{length-with_bytes, length-page-with_bytes}
use Rattle.om_geom.specs.declared.address.Extent.{Extent}
use Rattle.om_geom.specs.Numbers.{page_size, zone_pages}
use Rattle.om_geom.specs.Classes.{data_pages}
use Rattle.om_delay.specs.Changes.{freed_byte}
use Rattle.om_model.specs.Pool.Junk.{fresh_byte, freed_len, data_extent, extent_of_place, with_fresh_junk, new_data, with_new_data, with_freed_place, with_freed_pages}
use Rattle.om_model.specs.Pool.Calloc.{zeroed_at}
use Rattle.om_model.specs.Pool.Canaries.{canaries, with_canaries}
use Rattle.om_model.specs.Pool.Realloc.{with_copy}
use Rattle.om_model.specs.Pool.Rules.{Rules, canary_byte}
use Rattle.om_model.specs.Pool.Runs.{Run, is_page_of}
use Rattle.om_model.specs.Pool.State.{State, opening, is_held, with_run, without_run, with_pages, without_pages, filled_with, written}
use Rattle.om_model.specs.Pool.WellFormed.{HasBytes}
use Rattle.om_model.specs.declared.block.Block.{Block}
use Rattle.om_model.specs.declared.block.Place.{Place}
use Rattle.om_model.proofs.Held.{held-with_run, held-without_run, run-ends}
use Rattle.om_model.proofs.Sound.{IsSound}
use Rattle.std.proofs.Math.Bool.{and-false, and-true, or-false, or-true}

-- ---- pages that come and go

pub opening-pages : (rules : Rules) → length ((opening rules).memory) ≡ zone_pages * rules.zones
opening-pages rules = length-replicate {A = List ℕ} (zone_pages * rules.zones) []

pub opening-bytes : (rules : Rules) (page : ℕ) → HasBytes (opening rules) page
opening-bytes rules page = ap length (⊎_elim
    (λ (there : page < zone_pages * rules.zones). get_or-replicate {A = List ℕ} (zone_pages * rules.zones) page [] [] there)
    (λ past. get_or_past (no_pages rules.zones) page [] (omega (arith, opening-pages rules)))
    (cases_lt page (zone_pages * rules.zones)))

long : length zeros ≡ page_size
unfolding zeros
long = length-replicate {A = ℕ} page_size 0

-- frames of other pages
elsewhere : (make : ℕ → PageBytes) → ((p : ℕ) → (make p).page ≡ p) → (first n page : ℕ) → (first ≤ page → page < first + n → ⊥) → AllByRecursion (λ (frame : PageBytes). page ≢ frame.page) (map make (range_with_len first n))
elsewhere make is first zero page out = tt
elsewhere make is first (suc n) page out =
    ((λ same. let here = is first in out (omega arith) (omega arith)), elsewhere make is (first + 1) n page (λ low high. out (omega arith) (omega arith)))

-- a page that left has no bytes
emptied : (memory : List (List ℕ)) (first n page : ℕ) → first ≤ page → page < first + n → page_bytes (frames.without_pages memory first n) page ≡ []
emptied memory first zero page low high = absurd (omega arith)
emptied memory first (suc n) page low high =
    let next : List (List ℕ) = set memory first [] in
    ⊎_elim
    (λ (here : page ≡ first).
    page_bytes-with_frames next (map empty_frame (range_with_len (first + 1) n)) page (elsewhere empty_frame (λ p. refl) (first + 1) n page (λ low high. omega arith))
    ∙ ap (page_bytes next) here
    ∙ ⊎_elim
    (λ there. get_or-set_same memory first [] [] there)
    (λ past. get_or_past next first [] (omega (arith, length-set memory first [])))
    (cases_lt first (length memory)))
    (λ other. emptied next (first + 1) n page (omega arith) (omega arith))
    (cases_eq page first)

module _ (state : State) (run : Run) where
  outside : (page : ℕ) → is_page_of run page ≡ false → run.first ≤ page → page < run.first + run.count → ⊥
  outside page isnt low high = let yes : is_page_of run page ≡ true = and_from _ _ (le-leb run.first page low) (lt-ltb page (run.first + run.count) high) in true≢false (sym yes ∙ isnt)

  module _ (bytes : (page : ℕ) → HasBytes state page) where
    pub come-bytes : run.first + run.count ≤ length state.memory → (page : ℕ) → HasBytes (with_pages run state) page
    come-bytes fits page =
        let held : is_held (with_run run state.held) page ≡ (is_held state.held page || is_page_of run page) = held-with_run run state.held page in
        ⊎_elim
        (λ (t : is_page_of run page ≡ true).
        let inside : (is_held state.held page || is_page_of run page) ≡ true = rw t (or-true (is_held state.held page)) in
        let parts = run-ends run page t in
        rw (held, inside, page_bytes-with_zeros state.memory run.first run.count page parts.0 parts.1 fits) long)
        (λ (f : is_page_of run page ≡ false).
        let same : (is_held state.held page || is_page_of run page) ≡ is_held state.held page = rw f (or-false (is_held state.held page)) in
        rw (held, same, page_bytes-with_frames state.memory (frames.zero_frames run.first run.count) page (elsewhere frames.zero_frame (λ p. refl) run.first run.count page (outside page f))) (bytes page))
        (cases_Bool (is_page_of run page))

    pub gone-bytes : (page : ℕ) → HasBytes (without_pages run state) page
    gone-bytes page =
        let held : is_held (without_run run state.held) page ≡ (is_held state.held page && not (is_page_of run page)) = held-without_run run state.held page in
        ⊎_elim
        (λ (t : is_page_of run page ≡ true).
        let none : (is_held state.held page && not (is_page_of run page)) ≡ false = rw t (and-false (is_held state.held page)) in
        let parts = run-ends run page t in
        rw (held, none, emptied state.memory run.first run.count page parts.0 parts.1) refl)
        (λ (f : is_page_of run page ≡ false).
        let same : (is_held state.held page && not (is_page_of run page)) ≡ is_held state.held page = rw f (and-true (is_held state.held page)) in
        rw (held, same, page_bytes-with_frames state.memory (map empty_frame (range_with_len run.first run.count)) page (elsewhere empty_frame (λ p. refl) run.first run.count page (outside page f))) (bytes page))
        (cases_Bool (is_page_of run page))

  pub come-pages : length ((with_pages run state).memory) ≡ length state.memory
  come-pages = length-with_frames state.memory (frames.zero_frames run.first run.count)

  pub gone-pages : length ((without_pages run state).memory) ≡ length state.memory
  gone-pages = length-with_frames state.memory (map empty_frame (range_with_len run.first run.count))

-- ---- bytes that are written

module _ (rules : Rules) (state : State) (is : IsSound rules state) where
  pub bytes-sound : (address : ℕ) (new : List ℕ) → IsSound rules (record state { memory = with_bytes state.memory address new })
  bytes-sound address new = record {
    slots = is.slots;
    zoned = is.zoned;
    ascends = is.ascends;
    arena = is.arena;
    pages = length-with_bytes state.memory address new ∙ is.pages;
    bytes = λ page. length-page-with_bytes state.memory address new page ∙ is.bytes page;
    sound = is.sound;
  }

  pub filled-sound : (byte : ℕ) (extent : Extent) → IsSound rules (filled_with byte extent state)
  filled-sound byte extent = bytes-sound extent.first (replicate extent.len byte)

  pub written-sound : (address byte : ℕ) → IsSound rules (written address byte state)
  written-sound address byte = filled-sound byte (record { first = address; len = 1 })

  either : (test : Bool) (this other : State) → IsSound rules this → IsSound rules other → IsSound rules (if test then this else other)
  either true this other first second = first
  either false this other first second = second

  pub fresh-sound : (block : Block) → IsSound rules (with_fresh_junk rules block state)
  unfolding with_fresh_junk
  fresh-sound block = either (rules.options.junk == 2) _ state (filled-sound fresh_byte (data_extent rules block)) is

  pub canary-sound : (block : Block) → IsSound rules (with_canaries rules block state)
  unfolding with_canaries
  canary-sound block = filled-sound (canary_byte rules) (canaries rules block)

  pub freed_pages-sound : (block : Block) → IsSound rules (with_freed_pages rules block state)
  unfolding with_freed_pages
  freed_pages-sound block = filled-sound freed_byte (record { first = block.address; len = freed_len rules.options.junk (data_pages block.size) })

  pub freed-sound : (place : Place) → IsSound rules (with_freed_place rules place state)
  unfolding with_freed_place
  freed-sound place = either (rules.options.junk == 1 || rules.options.junk == 2) _ state (filled-sound freed_byte (extent_of_place place)) is

  pub zeroed-sound : (address : Option ℕ) (size : ℕ) → IsSound rules (zeroed_at address size state)
  zeroed-sound None size = is
  zeroed-sound (Some address) size = filled-sound 0 (record { first = address; len = size })

  pub new_data-sound : (block : Block) (size : ℕ) → IsSound rules (with_new_data rules block size state)
  unfolding with_new_data
  new_data-sound block size = either (rules.options.junk == 2) _ state (filled-sound fresh_byte (new_data block size)) is

  pub copy-sound : (block : Block) (size to : ℕ) → IsSound rules (with_copy block size to state)
  copy-sound block size to = bytes-sound to (bytes_at state.memory block.address (min block.size size))

-- ---- what is written draws no word

either-drawn : (test : Bool) (this other : State) → this.drawn ≡ other.drawn → (if test then this else other).drawn ≡ other.drawn
either-drawn true this other same = same
either-drawn false this other same = refl

pub fresh-drawn : (rules : Rules) (block : Block) (state : State) → (with_fresh_junk rules block state).drawn ≡ state.drawn
unfolding with_fresh_junk
fresh-drawn rules block state = either-drawn (rules.options.junk == 2) (filled_with fresh_byte (data_extent rules block) state) state refl

pub canary-drawn : (rules : Rules) (block : Block) (state : State) → (with_canaries rules block state).drawn ≡ state.drawn
unfolding with_canaries
canary-drawn rules block state = refl

pub freed-drawn : (rules : Rules) (place : Place) (state : State) → (with_freed_place rules place state).drawn ≡ state.drawn
unfolding with_freed_place
freed-drawn rules place state = either-drawn (rules.options.junk == 1 || rules.options.junk == 2) (filled_with freed_byte (extent_of_place place) state) state refl

pub freed_pages-drawn : (rules : Rules) (block : Block) (state : State) → (with_freed_pages rules block state).drawn ≡ state.drawn
unfolding with_freed_pages
freed_pages-drawn rules block state = refl

pub zeroed-drawn : (address : Option ℕ) (size : ℕ) (state : State) → (zeroed_at address size state).drawn ≡ state.drawn
zeroed-drawn None size state = refl
zeroed-drawn (Some address) size state = refl

pub new_data-drawn : (rules : Rules) (block : Block) (size : ℕ) (state : State) → (with_new_data rules block size state).drawn ≡ state.drawn
unfolding with_new_data
new_data-drawn rules block size state = either-drawn (rules.options.junk == 2) (filled_with fresh_byte (new_data block size) state) state refl
