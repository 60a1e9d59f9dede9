-- Free pages and runs of them, and runs of pages that come and go: by the tables as in the state that they stand for.
use Rattle.std.proofs.Common.{◌≡◌, ℕ, zero, suc, ◌+◌, ◌*◌, ◌<◌, ◌≤◌, ◌⊎◌, inl, inr, Bool, true, false, not, ◌&&◌, ◌||◌, nat_eq, nat_le, nat_lt, if◌then◌else◌, List, [], ◌∷◌, length, get_or, cond, Some, None, refl, sym, ap, ◌∙◌, arith}
use Rattle.std.specs.List.{filter, find, list_all, range_with_len, AllByRecursion}
use Rattle.std.specs.Option.{option_map}
use Rattle.std.proofs.lemmas.Bool.{true≢false, cases_Bool, cases_eq, cases_lt, and_from, and_parts, eq-eqb, ne_eqb, le-leb, leb-true, lt-ltb, ltb-true}
use Rattle.std.proofs.lemmas.List.{get_or_past}
use Rattle.std.proofs.lemmas.List.Sums.{length-filter}
use mathlib.Core.Logic.{⊎_elim}
use Rattle.om_frame.specs.Frames as frames
use Rattle.om_frame.specs.Memory.{filled, with_byte}
use Rattle.om_geom.specs.Addresses.{bit_of}
use Rattle.om_geom.specs.Numbers.{zone_pages}
use Rattle.om_geom.specs.declared.address.Extent.{Extent}
use Rattle.om_model.specs.Pool.InUse.{Use, uses, touches, page_kind, is_free_page, free_pages}
use Rattle.om_model.specs.Pool.Picks.{is_free_run, own_run}
use Rattle.om_model.specs.Pool.Rules.{Rules}
use Rattle.om_model.specs.Pool.Runs.{Run, is_page_of}
use Rattle.om_model.specs.Pool.State.{State, drawn_more, filled_with, written, is_held, with_pages, without_pages}
use Rattle.om_model.proofs.Each.{all-weaker, any-none, find-nothing}
use Rattle.om_model.proofs.Held.{Ascends, held-below, held-with_run, held-without_run}
use Rattle.om_model.proofs.Sound.{IsPlaced, IsSound}
use Rattle.om_pages.specs.FreeRuns as runs
use Rattle.om_pages.specs.Kinds as kinds
use Rattle.om_pages.specs.TableLaws.{length-with_run, kind_of-with_run_in, kind_of-with_run_out}
use Rattle.om_pages.specs.Tables as table
use Rattle.om_pages.specs.declared.kind.PageKind.{PageKind}
use Rattle.om_pages.specs.declared.kind.PageKind.TheVariants as page_is
use Rattle.om_pool.specs.Tables.{Tables, StandFor, block_on, kind_by, kind_in}
use Rattle.om_pool.proofs.TableAnswers.{free-by, held-by}
use Rattle.std.proofs.Math.Bool.{and-false, and-true, or-false, or-true}

-- ---- lists

filter-agree : (p q : ℕ → Bool) (xs : List ℕ) → AllByRecursion (λ x. p x ≡ q x) xs → filter p xs ≡ filter q xs
filter-agree p q [] same = refl
filter-agree p q (x ∷ xs) same = ap (λ b. cond b (x ∷ filter p xs) (filter p xs)) same.0 ∙ ap (λ ys. cond (q x) (x ∷ ys) ys) (filter-agree p q xs same.1)

filter-fails : (p : ℕ → Bool) (xs : List ℕ) → AllByRecursion (λ x. p x ≡ false) xs → filter p xs ≡ []
filter-fails p [] all = refl
filter-fails p (x ∷ xs) all = rw all.0 (filter-fails p xs all.1)

filter-twice : (p q : ℕ → Bool) (xs : List ℕ) → filter (λ x. p x && q x) xs ≡ filter q (filter p xs)
filter-twice p q [] = refl
filter-twice p q (x ∷ xs) = by (p x) (filter-twice p q xs)
  where
    by : (b : Bool) → filter (λ y. p y && q y) xs ≡ filter q (filter p xs) → cond (b && q x) (x ∷ filter (λ y. p y && q y) xs) (filter (λ y. p y && q y) xs) ≡ filter q (cond b (x ∷ filter p xs) (filter p xs))
    by true rest = ap (λ ys. cond (q x) (x ∷ ys) ys) rest
    by false rest = rest

find-filter : (p q : ℕ → Bool) (xs : List ℕ) → find (λ x. p x && q x) xs ≡ find q (filter p xs)
find-filter p q [] = refl
find-filter p q (x ∷ xs) = by (p x) (find-filter p q xs)
  where
    by : (b : Bool) → find (λ y. p y && q y) xs ≡ find q (filter p xs) → cond (b && q x) (Some x) (find (λ y. p y && q y) xs) ≡ find q (cond b (x ∷ filter p xs) (filter p xs))
    by true rest = ap (λ o. cond (q x) (Some x) o) rest
    by false rest = rest

find-agree : (p q : ℕ → Bool) (xs : List ℕ) → AllByRecursion (λ x. p x ≡ q x) xs → find p xs ≡ find q xs
find-agree p q [] same = refl
find-agree p q (x ∷ xs) same = ap (λ b. cond b (Some x) (find p xs)) same.0 ∙ ap (λ o. cond (q x) (Some x) o) (find-agree p q xs same.1)

pub all-agree : (p q : ℕ → Bool) (xs : List ℕ) → ((x : ℕ) → p x ≡ q x) → list_all p xs ≡ list_all q xs
all-agree p q [] same = refl
all-agree p q (x ∷ xs) same = ap (λ b. b && list_all p xs) (same x) ∙ ap (λ b. q x && b) (all-agree p q xs same)

all-of : {P : ℕ → Type 0} (xs : List ℕ) → ((x : ℕ) → P x) → AllByRecursion P xs
all-of [] each = tt
all-of (x ∷ xs) each = (each x, all-of xs each)

all-from : (a n : ℕ) → AllByRecursion (λ page. a ≤ page) (range_with_len a n)
all-from a zero = tt
all-from a (suc n) = (omega arith, all-weaker (λ page. a + 1 ≤ page) (λ page. a ≤ page) (range_with_len (a + 1) n) (λ page later. omega arith) (all-from (a + 1) n))

-- the elements that pass a test are as many as the places that have one
count-at : {X : Type 0} (test : X → Bool) (other : X) (at : ℕ → X) (a : ℕ) (xs : List X) → ((i : ℕ) → i < length xs → at (a + i) ≡ get_or xs i other) → length (filter test xs) ≡ length (filter (λ i. test (at i)) (range_with_len a (length xs)))
count-at test other at a [] is = refl
count-at test other at a (x ∷ xs) is =
    let rest = count-at test other at (a + 1) xs (λ i lt. let same : (a + 1) + i ≡ a + suc i = omega arith in ap at same ∙ is (suc i) (omega arith)) in
    let first : at a ≡ x = (let same : a ≡ a + 0 = omega arith in ap at same) ∙ is 0 (omega arith) in
    by (test x) (test (at a)) (ap test first) rest
  where
    by : (b c : Bool) → c ≡ b → length (filter test xs) ≡ length (filter (λ i. test (at i)) (range_with_len (a + 1) (length xs)))
        → length (cond b (x ∷ filter test xs) (filter test xs)) ≡ length (cond c (a ∷ filter (λ i. test (at i)) (range_with_len (a + 1) (length xs))) (filter (λ i. test (at i)) (range_with_len (a + 1) (length xs))))
    by true true same rest = ap suc rest
    by false false same rest = rest
    by true false same rest = cc
    by false true same rest = cc

-- ---- held pages ascend: they are the pages of the arena that are held

held-range : (a n : ℕ) (held : List ℕ) → Ascends held → AllByRecursion (λ page. a ≤ page) held → AllByRecursion (λ page. page < a + n) held → filter (is_held held) (range_with_len a n) ≡ held
held-range a zero [] ascends low high = refl
held-range a zero (x ∷ xs) ascends low high = absurd (omega (arith, low.0, high.0))
held-range a (suc n) [] ascends low high = filter-fails (is_held []) (range_with_len a (suc n)) (all-of (range_with_len a (suc n)) (λ page. refl))
held-range a (suc n) (x ∷ xs) ascends low high = ⊎_elim
    (λ (here : a ≡ x).
    let test : is_held (x ∷ xs) a ≡ true = ap (λ b. b || is_held xs a) (eq-eqb a x here) in
    let rest : filter (is_held (x ∷ xs)) (range_with_len (a + 1) n) ≡ filter (is_held xs) (range_with_len (a + 1) n) =
    filter-agree (is_held (x ∷ xs)) (is_held xs) (range_with_len (a + 1) n)
    (all-weaker (λ page. a + 1 ≤ page) (λ page. is_held (x ∷ xs) page ≡ is_held xs page) (range_with_len (a + 1) n)
    (λ page later. ap (λ b. b || is_held xs page) (ne_eqb page x (λ e. omega arith))) (all-from (a + 1) n)) in
    let others = held-range (a + 1) n xs ascends.1
    (all-weaker (λ page. x < page) (λ page. a + 1 ≤ page) xs (λ page lt. omega arith) ascends.0)
    (all-weaker (λ page. page < a + suc n) (λ page. page < (a + 1) + n) xs (λ page lt. omega arith) high.1) in
    ap (λ b. cond b (a ∷ filter (is_held (x ∷ xs)) (range_with_len (a + 1) n)) (filter (is_held (x ∷ xs)) (range_with_len (a + 1) n))) test
    ∙ ap (λ ys. a ∷ ys) (rest ∙ others) ∙ ap (λ y. y ∷ xs) here)
    (λ later.
    let from : a < x = omega (arith, low.0) in
    let above : AllByRecursion (λ page. a < page) (x ∷ xs) = (from, all-weaker (λ page. x < page) (λ page. a < page) xs (λ page lt. omega arith) ascends.0) in
    let test : is_held (x ∷ xs) a ≡ false = any-none (nat_eq a) (x ∷ xs) (all-weaker (λ page. a < page) (λ page. nat_eq a page ≡ false) (x ∷ xs) (λ page lt. ne_eqb a page (λ e. omega arith)) above) in
    ap (λ b. cond b (a ∷ filter (is_held (x ∷ xs)) (range_with_len (a + 1) n)) (filter (is_held (x ∷ xs)) (range_with_len (a + 1) n))) test
    ∙ held-range (a + 1) n (x ∷ xs) ascends
    (all-weaker (λ page. a < page) (λ page. a + 1 ≤ page) (x ∷ xs) (λ page lt. omega arith) above)
    (all-weaker (λ page. page < a + suc n) (λ page. page < (a + 1) + n) (x ∷ xs) (λ page lt. omega arith) high))
    (cases_eq a x)

module _ (rules : Rules) (tables : Tables) (state : State) (is : IsSound rules state) (stands : StandFor rules tables state) where
  abbrev arena : ℕ
  arena = zone_pages * rules.zones

  abbrev used : List Use
  used = uses rules state

  -- a page is free by the table where it is held and nothing touches it
  pub free-there : (page : ℕ) → kinds.is_free (table.kind_of tables.pages page) ≡ (is_held state.held page && is_free_page used page)
  free-there page = ⊎_elim
      (λ there. free-by rules tables state stands page there)
      (λ past.
      ap kinds.is_free (get_or_past tables.pages page page_is.Absent (omega (arith, stands.pages_all)))
      ∙ ap (λ b. b && is_free_page used page) (sym (held-below state.held arena page is.arena past)))
      (cases_lt page arena)

  held-in : filter (is_held state.held) (range_with_len 0 (length tables.pages)) ≡ state.held
  held-in =
      ap (λ n. filter (is_held state.held) (range_with_len 0 n)) stands.pages_all
      ∙ held-range 0 arena state.held is.ascends (all-of state.held (λ page. omega arith)) (all-weaker (λ page. page < arena) (λ page. page < 0 + arena) state.held (λ page lt. omega arith) is.arena)

  -- a search among all pages for what holds of held ones alone
  find-held : (p q : ℕ → Bool) → ((page : ℕ) → p page ≡ (is_held state.held page && q page)) → find p (range_with_len 0 (length tables.pages)) ≡ find q state.held
  find-held p q same =
      let pages = range_with_len 0 (length tables.pages) in
      find-agree p (λ page. is_held state.held page && q page) pages (all-of pages same) ∙ find-filter (is_held state.held) q pages ∙ ap (find q) held-in

  -- the run's first page is held
  run-held : (n first : ℕ) → 1 ≤ n → runs.is_free_run tables.pages n first ≡ (is_held state.held first && is_free_run used state.held n first)
  run-held zero first some = absurd (omega arith)
  run-held (suc n) first some =
      let fits = nat_le (bit_of first + suc n) zone_pages in
      let others = list_all (λ page. is_held state.held page && is_free_page used page) (range_with_len (first + 1) n) in
      ap (λ b. fits && b) (all-agree (λ page. kinds.is_free (table.kind_of tables.pages page)) (λ page. is_held state.held page && is_free_page used page) (range_with_len first (suc n)) free-there)
      ∙ by fits (is_held state.held first) (is_free_page used first) others
    where
      by : (fits held free others : Bool) → (fits && ((held && free) && others)) ≡ (held && (fits && ((held && free) && others)))
      by true true free others = refl
      by false true free others = refl
      by true false free others = refl
      by false false free others = refl

  pub free-run : (n : ℕ) → 1 ≤ n → runs.lowest_run tables.pages n ≡ own_run used state.held n
  unfolding own_run
  free-run n some = find-held (runs.is_free_run tables.pages n) (is_free_run used state.held n) (λ first. run-held n first some)

  pub lowest-page : runs.lowest_run tables.pages 1 ≡ find (is_free_page used) state.held
  lowest-page = find-held (runs.is_free_run tables.pages 1) (is_free_page used) (λ page.
      ap (λ b. b && (kinds.is_free (table.kind_of tables.pages page) && true)) (le-leb (bit_of page + 1) zone_pages (omega arith))
      ∙ ap (λ b. b && true) (free-there page) ∙ and-true (is_held state.held page && is_free_page used page))

  pub free-counted : table.free_count tables.pages ≡ length (free_pages used state.held)
  free-counted =
      let pages = range_with_len 0 (length tables.pages) in
      let test : ℕ → Bool = λ page. is_held state.held page && is_free_page used page in
      sym (length-filter kinds.is_free tables.pages)
      ∙ count-at kinds.is_free page_is.Absent (table.kind_of tables.pages) 0 tables.pages (λ i lt. let same : 0 + i ≡ i = omega arith in ap (table.kind_of tables.pages) same)
      ∙ ap (λ ps. length ps) (filter-agree (λ page. kinds.is_free (table.kind_of tables.pages page)) test pages (all-of pages free-there) ∙ filter-twice (is_held state.held) (is_free_page used) pages ∙ ap (filter (is_free_page used)) held-in)

-- ---- runs of pages that come and go

-- a page of a run, or one of its others
pub in-run : (run : Run) (page : ℕ) → is_page_of run page ≡ true → (run.first ≤ page) × (page < run.first + run.count)
in-run run page inside =
    let parts = and_parts (nat_le run.first page) (nat_lt page (run.first + run.count)) inside in
    (leb-true run.first page parts.0, ltb-true page (run.first + run.count) parts.1)

out-run : (run : Run) (page : ℕ) → is_page_of run page ≡ false → (page < run.first) ⊎ (run.first + run.count ≤ page)
out-run run page out = ⊎_elim
    (λ below. inl below)
    (λ low. ⊎_elim
    (λ high. let yes : is_page_of run page ≡ true = and_from _ _ (le-leb run.first page low) (lt-ltb page (run.first + run.count) high) in absurd (true≢false (sym yes ∙ out)))
    (λ past. inr past)
    (cases_lt page (run.first + run.count)))
    (cases_lt page run.first)

module _ (rules : Rules) (tables : Tables) (state : State) (stands : StandFor rules tables state) (run : Run) where
  abbrev last : ℕ
  last = zone_pages * rules.zones

  -- what the page is, where it is held and where it isn't
  abbrev kind_where : Bool → ℕ → PageKind
  kind_where held page = if held then kind_by (block_on rules state page) (page_kind (uses rules state) page) else page_is.Absent

  -- a table of which a run is of another kind, where the state's pages are so
  run-kinds : (kind : PageKind) (new : State)
      → ((page : ℕ) → is_page_of run page ≡ true → page < last → kind ≡ kind_in rules new page)
      → ((page : ℕ) → is_page_of run page ≡ false → kind_in rules state page ≡ kind_in rules new page)
      → (page : ℕ) → page < last → table.kind_of (table.with_run tables.pages run.first run.count kind) page ≡ kind_in rules new page
  run-kinds kind new inside outside page there = ⊎_elim
      (λ yes. let at = in-run run page yes in kind_of-with_run_in tables.pages run.first run.count kind page (omega (arith, stands.pages_all)) at.0 at.1 ∙ inside page yes there)
      (λ no. kind_of-with_run_out tables.pages run.first run.count kind page (out-run run page no) ∙ stands.pages page there ∙ outside page no)
      (cases_Bool (is_page_of run page))

  -- pages that are held no longer are absent
  pub pages-go : StandFor rules (record tables { pages = table.with_run tables.pages run.first run.count page_is.Absent; memory = frames.without_pages tables.memory run.first run.count }) (without_pages run state)
  pages-go = record {
    pages_all = length-with_run tables.pages run.first run.count page_is.Absent ∙ stands.pages_all;
    chunks_all = stands.chunks_all;
    blocks_all = stands.blocks_all;
    pages = run-kinds page_is.Absent (without_pages run state)
        (λ page yes there. sym (ap (λ b. kind_where b page) (held-without_run run state.held page ∙ ap (λ b. is_held state.held page && not b) yes ∙ and-false (is_held state.held page))))
        (λ page no. sym (ap (λ b. kind_where b page) (held-without_run run state.held page ∙ ap (λ b. is_held state.held page && not b) no ∙ and-true (is_held state.held page))));
    chunks = stands.chunks;
    blocks = stands.blocks;
    slots = stands.slots;
    memory = ap (λ m. frames.without_pages m run.first run.count) stands.memory;
  }

  module _ (is : IsSound rules state) (fresh : (page : ℕ) → run.first ≤ page → page < run.first + run.count → is_held state.held page ≡ false) where
    -- nothing is on a page that isn't held
    fresh-kind : (page : ℕ) → is_page_of run page ≡ true → page_kind (uses rules state) page ≡ None
    fresh-kind page inside =
        let at = in-run run page inside in
        let sound = is.sound in
        let isnt = fresh page at.0 at.1 in
        ap (option_map (λ (u : Use). u.kind))
        (find-nothing (touches page) (uses rules state)
        (all-weaker (IsPlaced rules state.held) (λ one. touches page one ≡ false) (uses rules state)
        (λ one placed. ⊎_elim (λ touched. absurd (true≢false (sym (placed.held_is page touched) ∙ isnt))) (λ untouched. untouched) (cases_Bool (touches page one)))
        sound.placed))

    -- pages that come are free
    pub pages-come : StandFor rules (record tables { pages = table.with_run tables.pages run.first run.count page_is.Free; memory = frames.with_frames tables.memory (frames.zero_frames run.first run.count) }) (with_pages run state)
    pages-come = record {
      pages_all = length-with_run tables.pages run.first run.count page_is.Free ∙ stands.pages_all;
      chunks_all = stands.chunks_all;
      blocks_all = stands.blocks_all;
      pages = run-kinds page_is.Free (with_pages run state)
          (λ page yes there. sym (
          ap (λ b. kind_where b page) (held-with_run run state.held page ∙ ap (λ b. is_held state.held page || b) yes ∙ or-true (is_held state.held page))
          ∙ ap (kind_by (block_on rules state page)) (fresh-kind page yes)))
          (λ page no. sym (ap (λ b. kind_where b page) (held-with_run run state.held page ∙ ap (λ b. is_held state.held page || b) no ∙ or-false (is_held state.held page))));
      chunks = stands.chunks;
      blocks = stands.blocks;
      slots = stands.slots;
      memory = ap (λ m. frames.with_frames m (frames.zero_frames run.first run.count)) stands.memory;
    }

-- ---- what leaves pages and places as they were

module _ (rules : Rules) (tables : Tables) (state : State) (stands : StandFor rules tables state) where
  pub words-drawn : (count : ℕ) → StandFor rules tables (drawn_more count state)
  words-drawn count = record {
    pages_all = stands.pages_all;
    chunks_all = stands.chunks_all;
    blocks_all = stands.blocks_all;
    pages = stands.pages;
    chunks = stands.chunks;
    blocks = stands.blocks;
    slots = stands.slots;
    memory = stands.memory;
  }

  pub bytes-filled : (byte : ℕ) (extent : Extent) → StandFor rules (record tables { memory = filled tables.memory extent.first extent.len byte }) (filled_with byte extent state)
  bytes-filled byte extent = record {
    pages_all = stands.pages_all;
    chunks_all = stands.chunks_all;
    blocks_all = stands.blocks_all;
    pages = stands.pages;
    chunks = stands.chunks;
    blocks = stands.blocks;
    slots = stands.slots;
    memory = ap (λ m. filled m extent.first extent.len byte) stands.memory;
  }

  pub byte-written : (address byte : ℕ) → StandFor rules (record tables { memory = with_byte tables.memory address byte }) (written address byte state)
  byte-written address byte = record {
    pages_all = stands.pages_all;
    chunks_all = stands.chunks_all;
    blocks_all = stands.blocks_all;
    pages = stands.pages;
    chunks = stands.chunks;
    blocks = stands.blocks;
    slots = stands.slots;
    memory = ap (λ m. with_byte m address byte) stands.memory;
  }

  -- ---- runs of pages that are of one kind

  not-absent : (b : Bool) → not b ≡ false → b ≡ true
  not-absent true e = refl
  not-absent false e = cc

  pub all-absent : (first n : ℕ) → first + n ≤ zone_pages * rules.zones → ((page : ℕ) → first ≤ page → page < first + n → is_held state.held page ≡ false) → table.AreAll kinds.is_absent tables.pages first n
  all-absent first n within fresh page low high =
      (omega (arith, stands.pages_all), not-absent (kinds.is_absent (table.kind_of tables.pages page)) (held-by rules tables state stands page (omega arith) ∙ fresh page low high))

  pub all-held : (first n : ℕ) → first + n ≤ zone_pages * rules.zones → ((page : ℕ) → first ≤ page → page < first + n → is_held state.held page ≡ true) → table.AreAll kinds.is_held tables.pages first n
  all-held first n within held page low high = (omega (arith, stands.pages_all), held-by rules tables state stands page (omega arith) ∙ held page low high)

  pub all-free : (first n : ℕ) → first + n ≤ zone_pages * rules.zones → ((page : ℕ) → first ≤ page → page < first + n → (is_held state.held page ≡ true) × (is_free_page (uses rules state) page ≡ true)) → table.AreAll kinds.is_free tables.pages first n
  all-free first n within free page low high =
      let both = free page low high in
      (omega (arith, stands.pages_all), free-by rules tables state stands page (omega arith) ∙ and_from _ _ both.0 both.1)
