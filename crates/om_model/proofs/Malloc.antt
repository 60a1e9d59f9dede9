-- Allocation keeps states sound: the picked place of a chunk is one that nothing in use has, on a page of its class,
-- and a page block has a run of pages that nothing in use touches.
use Rattle.std.proofs.Common.{◌≡◌, ℕ, ◌+◌, ◌*◌, ◌/◌, ◌<◌, ◌≤◌, inr, Bool, true, false, ◌&&◌, if◌then◌else◌, nat_lt, List, [], ◌∷◌, ◌++◌, append-nil, length, map, Option, Some, None, unwrap_or, refl, sym, ap, ◌∙◌, subst, arith}
use Rattle.std.specs.List.{flat_map, AllByRecursion}
use Rattle.std.specs.Option.{is_none}
use Rattle.std.proofs.lemmas.Bool.{true≢false, cases_Bool, cases_eq}
use Rattle.std.proofs.lemmas.List.Concat.{flat_map-append}
use Rattle.std.proofs.lemmas.Nat.{mod_below}
use mathlib.Core.Logic.{⊎_elim}
use Rattle.om_geom.specs.Addresses.{address_of, bit_of, page_at}
use Rattle.om_geom.specs.AddressLaws.{apart-before, bit_of-below}
use Rattle.om_geom.specs.Classes.{data_pages}
use Rattle.om_geom.specs.ClassLaws.{class_of-is_class, data_pages-hold}
use Rattle.om_geom.specs.Numbers.{zone_pages}
use Rattle.om_model.specs.Pool.Rules.{Rules, word_at, size_class, block_pages}
use Rattle.om_model.specs.Pool.Runs.{Run, run_of}
use Rattle.om_model.specs.Pool.State.{State, delayed, drawn_more, is_held, with_run, with_pages}
use Rattle.om_model.specs.Pool.InUse.{Pages, Guard, Use, use_of_place, data_of, guard_of, uses_of_pages, uses_by_class, uses_of_block, uses, touches}
use Rattle.om_model.specs.Pool.Picks.{own_page, picked_place, place_address}
use Rattle.om_model.specs.Pool.Steps.{Wish, Nothing, Answers, Step, unchanged, null_or_fault}
use Rattle.om_model.specs.Pool.Product.{product}
use Rattle.om_model.specs.Pool.Calloc.{zeroed, zeroed_block, calloc_wish_of, calloc_of, calloc_wish, calloc}
use Rattle.om_model.specs.Pool.Canaries.{with_canaries}
use Rattle.om_model.specs.Pool.Junk.{with_fresh_junk}
use Rattle.om_model.specs.Pool.Malloc.{pages_by_class, pages_for, words_by_class, words_for, is_too_large, page_by_class, page_for, search_unless, placing_wish, with_block, address_on, placed_on, placed_by_claim, placed_where, placing, malloc_wish, block_placed, unless_too_large, malloc}
use Rattle.om_model.specs.Pool.Journal.{IsFound, EndsSearch, MayAnswer}
use Rattle.om_model.specs.Pool.WellFormed.{EachPair, FitsZone}
use Rattle.om_model.specs.declared.block.Block.{Block}
use Rattle.om_model.specs.declared.entry.Move.{Move}
use Rattle.om_model.specs.declared.reply.Why.TheVariants.{TooLarge}
use Rattle.om_model.proofs.Each.{Across, all-weaker, all-each, all-append, all-between, pairs-between}
use Rattle.om_model.proofs.Held.{held-in_run, held-still, all-with_run, ascends-with_run}
use Rattle.om_model.proofs.Bytes.{canary-sound, come-pages, come-bytes, fresh-sound, zeroed-sound}
use Rattle.om_model.proofs.Sound.{IsPlaced, IsWhole, GoTogether, AreSound, IsSound, place_of, whole-touched, apart-pages, together-swap}
use Rattle.om_model.proofs.Places.{IsUntouched, HasRun, Serves, not-touched, serves-run, serves-own, run-own, picked, picked-placed, picked-together}

-- what comes into use with a block: placed, and apart from all that is in use
pub record Enters (rules : Rules) (held : List ℕ) (used new : List Use) : Type 0 where
  pub placed : AllByRecursion (IsPlaced rules held) new
  pub own : EachPair GoTogether new
  pub others : Across GoTogether new used

sound-between : (rules : Rules) (held : List ℕ) (new xs ys : List Use) → Enters rules held (xs ++ ys) new → AreSound rules held (xs ++ ys) → AreSound rules held ((xs ++ new) ++ ys)
sound-between rules held new xs ys enters sound = record {
  placed = all-between (IsPlaced rules held) new xs ys enters.placed sound.placed;
  together = pairs-between GoTogether new xs ys together-swap enters.own enters.others sound.together;
}

-- what is in use with one more block
pub with_block-uses : (rules : Rules) (block : Block) (state : State) → uses rules (with_block block state) ≡ (flat_map (uses_of_block rules) state.live ++ uses_of_block rules block) ++ map use_of_place (delayed state.slots)
with_block-uses rules block state =
    let live = flat_map (uses_of_block rules) state.live in
    ap (λ xs. xs ++ map use_of_place (delayed state.slots)) (flat_map-append (uses_of_block rules) state.live (block ∷ []) ∙ ap (λ more. live ++ more) (append-nil (uses_of_block rules block)))

pub block-sound : (rules : Rules) (block : Block) (state : State) → FitsZone rules block → Enters rules state.held (uses rules state) (uses_of_block rules block) → IsSound rules state → IsSound rules (with_block block state)
block-sound rules block state zone enters is =
    let live = flat_map (uses_of_block rules) state.live in
    let waiting = map use_of_place (delayed state.slots) in
    record {
      slots = is.slots;
      zoned = all-append (FitsZone rules) state.live (block ∷ []) is.zoned (zone, tt);
      ascends = is.ascends;
      arena = is.arena;
      pages = is.pages;
      bytes = is.bytes;
      sound = subst (AreSound rules state.held) (sym (with_block-uses rules block state)) (sound-between rules state.held (uses_of_block rules block) live waiting enters is.sound);
    }

-- its bytes and its canaries are written
placed-keeps : (rules : Rules) (block : Block) (state : State) → IsSound rules state → IsSound rules (with_canaries rules block (with_fresh_junk rules block state))
placed-keeps rules block state is = canary-sound rules (with_fresh_junk rules block state) (fresh-sound rules state is block) block

-- more words drawn change nothing that is in use
pub drawn_more-sound : (rules : Rules) (count : ℕ) (state : State) → IsSound rules state → IsSound rules (drawn_more count state)
drawn_more-sound rules count state is = record { slots = is.slots; zoned = is.zoned; ascends = is.ascends; arena = is.arena; pages = is.pages; bytes = is.bytes; sound = is.sound }

module _ (rules : Rules) (size class : ℕ) (class_is : size_class rules size ≡ Some class) where
  -- ---- a block with a class is a chunk

  pub chunk-uses : (address site : ℕ) → uses_of_block rules (record { address = address; size = size; site = site }) ≡ use_of_place (record { address = address; class = class }) ∷ []
  chunk-uses address site = ap (uses_by_class rules (record { address = address; size = size; site = site })) class_is

  pub chunk-fits : is_too_large rules size ≡ false
  chunk-fits = ap (λ found. is_none found && nat_lt zone_pages (block_pages rules size)) class_is

  pub chunk-zone : (address site : ℕ) → FitsZone rules (record { address = address; size = size; site = site })
  chunk-zone address site =
      let one : pages_for rules size ≡ 1 = ap (pages_by_class rules size) class_is in
      record { fits = chunk-fits; within = omega (arith, bit_of-below (page_at address)) }

  pub chunk-page : (state : State) → page_for rules state size ≡ own_page (uses rules state) state.held class (word_at rules state.drawn)
  chunk-page state = ap (page_by_class rules state size) class_is

  pub chunk-wish : (state : State) → malloc_wish rules state size ≡ search_unless (own_page (uses rules state) state.held class (word_at rules state.drawn)) 1 (word_at rules state.drawn)
  chunk-wish state =
      let word = word_at rules state.drawn in
      ap (λ large. if large then Nothing else placing_wish rules state size) chunk-fits
      ∙ ap (λ found. search_unless (page_by_class rules state size found) (pages_by_class rules size found) word) class_is

  pub chunk-address : (state : State) (page word : ℕ) → address_on rules state page word (size_class rules size) ≡ place_address page class (unwrap_or (picked_place (uses rules state) page class word) 0)
  unfolding address_on
  chunk-address state page word = ap (address_on rules state page word) class_is

  pub chunk-malloc : (state : State) (site : ℕ) (claim : Option Move) → malloc rules state size site claim
      ≡ block_placed rules 2 (placed_where rules (drawn_more 2 state) (own_page (uses rules state) state.held class (word_at rules state.drawn)) claim (word_at rules (state.drawn + 1)) size site)
  chunk-malloc state site claim =
      let second = word_at rules (state.drawn + 1) in
      ap (λ large. if large then unchanged state (null_or_fault rules TooLarge) else block_placed rules (words_for rules size) (placing rules state size site claim)) chunk-fits
      ∙ ap (λ found. block_placed rules (words_by_class found) (placed_where rules (drawn_more (words_by_class found) state) (page_by_class rules state size found) claim second size site)) class_is

  chunk-sound : (state : State) (page word site : ℕ) → Serves rules state.held (uses rules state) page class → IsSound rules state → IsSound rules ((placed_on rules state page word size site).next)
  chunk-sound state page word site serves is =
      let used = uses rules state in
      let sound = is.sound in
      let is_one = class_of-is_class size rules.options.canary class class_is in
      let index = unwrap_or (picked_place used page class word) 0 in
      let pick = picked used page class word is_one serves.room in
      let address = address_on rules state page word (size_class rules size) in
      let block : Block = record { address = address; size = size; site = site } in
      let new = use_of_place (place_of page class index) in
      let use_is : uses_of_block rules block ≡ new ∷ [] = chunk-uses address site ∙ ap (λ a. use_of_place (record { address = a; class = class }) ∷ []) (chunk-address state page word) in
      placed-keeps rules block (with_block block state) (block-sound rules block state (chunk-zone address site)
      (subst (Enters rules state.held used) (sym use_is) (record {
        placed = (picked-placed rules state.held used page class index is_one serves pick, tt);
        own = (tt, tt);
        others = (picked-together rules state.held used page class index is_one serves pick sound.placed, tt);
      })) is)

-- ---- whole pages in a run that nothing touches

module _ (rules : Rules) (held : List ℕ) (used : List Use) (first count : ℕ) (run : HasRun rules held used first count) (one : Use) (on : IsWhole one) (low : first ≤ on.first) (high : on.first + on.count ≤ first + count) where
  inside : (page : ℕ) → touches page one ≡ true → (first ≤ page) × (page < first + count)
  inside page touched = let parts = whole-touched one on page touched in let from = parts.0 in let below = parts.1 in (omega arith, omega arith)

  run-placed : IsPlaced rules held one
  run-placed = record {
    shape = inr on;
    held_is = λ page touched. let parts = inside page touched in run.held_is page parts.0 parts.1;
    there = λ page touched. let parts = inside page touched in let below = parts.1 in let there = run.there in omega arith;
  }

  run-together : AllByRecursion (GoTogether one) used
  run-together =
      all-weaker (λ x. (page : ℕ) → touches page one ≡ true → touches page x ≡ false) (GoTogether one) used
      (λ x none. apart-pages one x (inr on) (λ page first second. not-touched page x (none page first) second))
      (all-each (λ page. touches page one ≡ true) (λ page x. touches page x ≡ false) used (λ page touched. let parts = inside page touched in run.untouched page parts.0 parts.1))

-- the guard pages, by whether there are any
abbrev pub guard_count : Bool → ℕ
guard_count guards = if guards then 1 else 0

-- a block of whole pages has some
pub some-pages : (rules : Rules) (size : ℕ) → size_class rules size ≡ None → 0 < data_pages size
some-pages rules size none = ⊎_elim
    (λ e. let class : Some 0 ≡ None = rw e at none in cc)
    (λ ne. omega (arith, data_pages-hold size))
    (cases_eq size 0)

pub pages-uses : (rules : Rules) (size : ℕ) → size_class rules size ≡ None → (address site : ℕ)
    → uses_of_block rules (record { address = address; size = size; site = site }) ≡ uses_of_pages rules (record { address = address; size = size; site = site })
pages-uses rules size none address site = ap (uses_by_class rules (record { address = address; size = size; site = site })) none

module _ (rules : Rules) (block : Block) (none : size_class rules block.size ≡ None) (first : ℕ) (at : block.address ≡ address_of first) where
  abbrev pub data_use : Use
  data_use = record { extent = data_of block; kind = Pages }

  abbrev pub guard_use : Use
  guard_use = record { extent = guard_of block; kind = Guard }

  abbrev pub whole_data : IsWhole data_use
  whole_data = record { first = first; count = data_pages block.size; some = some-pages rules block.size none; first_is = at; len_is = refl; kind_is = tt }

  abbrev pub whole_guard : IsWhole guard_use
  whole_guard = record { first = first + data_pages block.size; count = 1; some = omega arith; first_is = omega arith; len_is = refl; kind_is = tt }

  pages-enter : (held : List ℕ) (used : List Use) (guards : Bool) → HasRun rules held used first (data_pages block.size + guard_count guards) → Enters rules held used (data_use ∷ (if guards then guard_use ∷ [] else []))
  pages-enter held used false run =
      let high : first + data_pages block.size ≤ first + (data_pages block.size + 0) = omega arith in
      record {
        placed = (run-placed rules held used first _ run data_use whole_data (omega arith) high, tt);
        own = (tt, tt);
        others = (run-together rules held used first _ run data_use whole_data (omega arith) high, tt);
      }
  pages-enter held used true run =
      let high : first + data_pages block.size ≤ first + (data_pages block.size + 1) = omega arith in
      let last : first + data_pages block.size + 1 ≤ first + (data_pages block.size + 1) = omega arith in
      let from : first ≤ first + data_pages block.size = omega arith in
      record {
        placed = (run-placed rules held used first _ run data_use whole_data (omega arith) high, (run-placed rules held used first _ run guard_use whole_guard from last, tt));
        own = ((record { apart = apart-before (data_of block) (guard_of block) (omega arith); alike = λ page one two. tt }, tt), (tt, tt));
        others = (run-together rules held used first _ run data_use whole_data (omega arith) high, (run-together rules held used first _ run guard_use whole_guard from last, tt));
      }

  -- it joins the live blocks on a run
  pub page_block-sound : (state : State) → is_too_large rules block.size ≡ false → HasRun rules state.held (uses rules state) first (block_pages rules block.size) → IsSound rules state → IsSound rules (with_block block state)
  page_block-sound state fits run is =
      let count : pages_for rules block.size ≡ block_pages rules block.size = ap (pages_by_class rules block.size) none in
      let zone = run.zone in
      let page_is : page_at block.address ≡ first = omega arith in
      block-sound rules block state
      (record { fits = fits; within = let Z : ℕ → Type 0 = λ p. bit_of p + pages_for rules block.size ≤ zone_pages in subst Z (sym page_is) (omega arith) })
      (subst (Enters rules state.held (uses rules state)) (sym (pages-uses rules block.size none block.address block.site)) (pages-enter state.held (uses rules state) rules.options.guard run)) is

pages-sound : (rules : Rules) (size : ℕ) → size_class rules size ≡ None → (state : State) (page word site : ℕ) → is_too_large rules size ≡ false → HasRun rules state.held (uses rules state) page (block_pages rules size) → IsSound rules state
    → IsSound rules ((placed_on rules state page word size site).next)
unfolding address_on
pages-sound rules size none state page word site fits run is =
    let address = address_on rules state page word (size_class rules size) in
    let block : Block = record { address = address; size = size; site = site } in
    placed-keeps rules block (with_block block state) (page_block-sound rules block none page (ap (address_on rules state page word) none) state fits run is)

-- ---- a block of any size

-- there is room for it on the page, or in the run from it on
abbrev pub HasRoom : Rules → List ℕ → List Use → ℕ → ℕ → Option ℕ → Type 0
HasRoom rules held used size page (Some class) = Serves rules held used page class
HasRoom rules held used size page None = HasRun rules held used page (block_pages rules size)

-- what is in use stays on held pages where more are held
sound-held : (rules : Rules) (held more : List ℕ) (used : List Use) → ((page : ℕ) → is_held held page ≡ true → is_held more page ≡ true) → AreSound rules held used → AreSound rules more used
sound-held rules held more used wider sound = record {
  placed = all-weaker (IsPlaced rules held) (IsPlaced rules more) used
      (λ one on. record { shape = on.shape; held_is = λ page touched. wider page (on.held_is page touched); there = on.there })
      sound.placed;
  together = sound.together;
}

-- pages that aren't held join the held ones, with zeros
pub with_pages-sound : (rules : Rules) (state : State) (run : Run) → run.first + run.count ≤ zone_pages * rules.zones → IsSound rules state → IsSound rules (with_pages run state)
with_pages-sound rules state run there is = record {
  slots = is.slots;
  zoned = is.zoned;
  ascends = ascends-with_run run state.held is.ascends;
  arena = all-with_run run state.held (λ p. p < zone_pages * rules.zones) (λ page low. omega arith) is.arena;
  pages = come-pages state run ∙ is.pages;
  bytes = come-bytes state run is.bytes (omega (arith, is.pages));
  sound = sound-held rules state.held (with_run run state.held) (uses rules state) (λ other on. held-still run state.held other on) is.sound;
}

-- a page that isn't held is touched by nothing
pub untouched-new : (rules : Rules) (held : List ℕ) (used : List Use) (page : ℕ) → is_held held page ≡ false → AllByRecursion (IsPlaced rules held) used → IsUntouched used page
untouched-new rules held used page new placed =
    all-weaker (IsPlaced rules held) (λ one. touches page one ≡ false) used
    (λ one on. ⊎_elim (λ touched. absurd (true≢false (sym (on.held_is page touched) ∙ new))) (λ isnt. isnt) (cases_Bool (touches page one)))
    placed

-- the run that was found
module _ (rules : Rules) (state : State) (count word passed : ℕ) (move : Move) (found : IsFound rules state count word passed move) where
  abbrev run : Run
  run = run_of move

  pub found-there : run.first + run.count ≤ zone_pages * rules.zones
  found-there =
      let fresh = found.fresh in
      let inside = fresh.inside in
      let few = found.few in
      let below : move.zone < rules.zones = rw found.zone (omega (arith, mod_below (word / 32 + passed) rules.zones (omega arith))) in
      omega arith

  found-run : IsSound rules state → HasRun rules (with_run run state.held) (uses rules state) run.first count
  found-run is =
      let sound = is.sound in
      let fresh = found.fresh in
      let inside = fresh.inside in
      let Run : ℕ → Type 0 = λ n. HasRun rules (with_run run state.held) (uses rules state) run.first n in
      subst Run found.count_is (record {
        held_is = held-in_run run state.held;
        there = found-there;
        untouched = λ page low high. untouched-new rules state.held (uses rules state) page (fresh.new page low high) sound.placed;
        zone = omega arith;
      })

module _ (rules : Rules) (size : ℕ) where
  room-run : (held : List ℕ) (used : List Use) (page : ℕ) (class : Option ℕ) → size_class rules size ≡ class → AllByRecursion (IsPlaced rules held) used → HasRun rules held used page (pages_by_class rules size class) → HasRoom rules held used size page class
  room-run held used page (Some class) is placed run = serves-run rules held used placed page class (class_of-is_class size rules.options.canary class is) run
  room-run held used page None is placed run = run

  room-own : (state : State) (page : ℕ) (class : Option ℕ) → size_class rules size ≡ class → page_by_class rules state size class ≡ Some page → IsSound rules state → HasRoom rules state.held (uses rules state) size page class
  room-own state page (Some class) class_is own is =
      let sound = is.sound in
      serves-own rules state.held (uses rules state) sound.placed page class (word_at rules state.drawn) (class_of-is_class size rules.options.canary class class_is) is.arena sound.together own
  room-own state page None class_is own is = let sound = is.sound in run-own rules state.held (uses rules state) sound.placed page (block_pages rules size) is.arena own

  placed-sound : (state : State) (page word site : ℕ) (class : Option ℕ) → size_class rules size ≡ class → is_too_large rules size ≡ false → HasRoom rules state.held (uses rules state) size page class → IsSound rules state
      → IsSound rules ((placed_on rules state page word size site).next)
  placed-sound state page word site (Some class) is fits room sound = chunk-sound rules size class is state page word site room sound
  placed-sound state page word site None is fits room sound = pages-sound rules size is state page word site fits room sound

  -- with the page that the pool has, or with a claim
  where-sound : (state : State) (words : ℕ) (own : Option ℕ) (first second site : ℕ) (answers : Answers) → is_too_large rules size ≡ false
      → ((page : ℕ) → own ≡ Some page → HasRoom rules state.held (uses rules state) size page (size_class rules size))
      → MayAnswer rules state (search_unless own (pages_for rules size) first) answers → IsSound rules state
      → IsSound rules ((placed_where rules (drawn_more words state) own answers.claim second size site).next)
  where-sound state words (Some page) first second site answers fits room may is =
      placed-sound (drawn_more words state) page second site (size_class rules size) refl fits (room page refl) (drawn_more-sound rules words state is)
  where-sound state words None first second site answers fits room may is = on_claim answers.claim may.1
    where
      on_claim : (claim : Option Move) → EndsSearch rules state (pages_for rules size) first (length answers.looks) claim → IsSound rules ((placed_by_claim rules (drawn_more words state) claim second size site).next)
      on_claim None ends = drawn_more-sound rules words state is
      on_claim (Some move) ends =
          let run : Run = run_of move in
          let drawn = drawn_more words state in
          let passed = length answers.looks in
          let wide = with_pages-sound rules drawn run (found-there rules state (pages_for rules size) first passed move ends) (drawn_more-sound rules words state is) in
          let sound = wide.sound in
          placed-sound (with_pages run drawn) run.first second site (size_class rules size) refl fits
          (room-run (with_run run state.held) (uses rules state) run.first (size_class rules size) refl sound.placed (found-run rules state (pages_for rules size) first passed move ends is)) wide

  -- it is placed where its search was answered
  pub placing-sound : (state : State) (site : ℕ) (answers : Answers) → is_too_large rules size ≡ false → MayAnswer rules state (placing_wish rules state size) answers → IsSound rules state
      → IsSound rules ((placing rules state size site answers.claim).next)
  placing-sound state site answers fits may is =
      where-sound state (words_for rules size) (page_for rules state size) (word_at rules state.drawn) (word_at rules (state.drawn + 1)) site answers fits
      (λ page found. room-own state page (size_class rules size) refl found is) may is

  -- ---- a size that is too large

  -- what is asked then is asked for a size that isn't
  pub may-fit : (state : State) (wish : Wish) (answers : Answers) → is_too_large rules size ≡ false → MayAnswer rules state (if is_too_large rules size then Nothing else wish) answers → MayAnswer rules state wish answers
  may-fit state wish answers fits = subst (λ large. MayAnswer rules state (if large then Nothing else wish) answers) fits

  pub unless-sound : (state : State) (step : Step) → IsSound rules state → (is_too_large rules size ≡ false → IsSound rules step.next) → IsSound rules ((unless_too_large rules state size step).next)
  unless-sound state step is next = by (is_too_large rules size) refl
    where
      by : (large : Bool) → is_too_large rules size ≡ large → IsSound rules ((if large then unchanged state (null_or_fault rules TooLarge) else step).next)
      by true large = is
      by false fits = next fits

  -- ---- malloc and calloc

  pub malloc-sound : (state : State) (site : ℕ) (answers : Answers) → MayAnswer rules state (malloc_wish rules state size) answers → IsSound rules state → IsSound rules ((malloc rules state size site answers.claim).next)
  malloc-sound state site answers may is =
      unless-sound state (block_placed rules (words_for rules size) (placing rules state size site answers.claim)) is
      (λ fits. placing-sound state site answers fits (may-fit state (placing_wish rules state size) answers fits may) is)

  zeroed_block-sound : (state : State) (site : ℕ) (answers : Answers) → MayAnswer rules state (malloc_wish rules state size) answers → IsSound rules state → IsSound rules ((zeroed_block rules state size site answers.claim).next)
  zeroed_block-sound state site answers may is =
      let placed = placing rules state size site answers.claim in
      unless-sound state (block_placed rules (words_for rules size) (zeroed size placed)) is
      (λ fits. zeroed-sound rules placed.next (placing-sound state site answers fits (may-fit state (placing_wish rules state size) answers fits may) is) placed.address size)

pub calloc-sound : (rules : Rules) (state : State) (count size site : ℕ) (answers : Answers) → MayAnswer rules state (calloc_wish rules state count size) answers → IsSound rules state → IsSound rules ((calloc rules state count size site answers.claim).next)
calloc-sound rules state count size site answers = by (product count size)
  where
    by : (asked : Option ℕ) → MayAnswer rules state (calloc_wish_of rules state asked) answers → IsSound rules state → IsSound rules ((calloc_of rules state asked site answers.claim).next)
    by None may is = is
    by (Some bytes) may is = zeroed_block-sound rules bytes state site answers may is
