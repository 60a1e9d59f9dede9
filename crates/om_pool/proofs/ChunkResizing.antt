-- Tables stand for the state when a chunk stays in its place with another size of its class.
use Rattle.std.proofs.Common.{◌≡◌, ℕ, ◌<◌, ◌&&◌, ◌==◌, Bool, true, false, not, nat_lt, [], ◌∷◌, Option, Some, None, cond, refl, sym, ap, ◌∙◌, subst, inl}
use Rattle.std.specs.List.{find, list_any, AllByRecursion}
use Rattle.std.specs.Option.{is_none, option_or}
use Rattle.std.proofs.lemmas.Bool.{cases_eq, eq-eqb, ne_eqb}
use Rattle.std.proofs.lemmas.List.Folds.{find-append}
use mathlib.Core.Logic.{⊎_elim}
use Rattle.om_chunk.specs.Pages.{with_place}
use Rattle.om_chunk.specs.declared.place.Place as chunk
use Rattle.om_chunk.specs.declared.place.Place.TheVariants as has
use Rattle.om_geom.specs.Addresses.{page_at}
use Rattle.om_geom.specs.Numbers.{zone_pages}
use Rattle.om_model.specs.Pool.Canaries.{canaries, with_canaries}
use Rattle.om_model.specs.Pool.Free.{without_block}
use Rattle.om_model.specs.Pool.InUse.{Chunk, Use, use_of_place, uses_by_class, uses_of_block, touches}
use Rattle.om_model.specs.Pool.Malloc.{is_too_large}
use Rattle.om_model.specs.Pool.Picks.{place_address}
use Rattle.om_model.specs.Pool.Realloc.{resized, stayed, with_size}
use Rattle.om_model.specs.Pool.Rules.{Rules, block_pages, canary_byte, size_class}
use Rattle.om_model.specs.Pool.Standing.{block_at, delayed_at}
use Rattle.om_model.specs.Pool.State.{State, is_held}
use Rattle.om_model.specs.declared.block.Block.{Block}
use Rattle.om_model.specs.declared.block.Place.{Place}
use Rattle.om_model.proofs.Each.{all-append, all-filter, any-none}
use Rattle.om_model.proofs.Free.{block-placed, class-of_chunk}
use Rattle.om_model.proofs.Malloc.{chunk-uses}
use Rattle.om_model.proofs.PageKinds.{kind-of_block, with_block-others, without_block-others}
use Rattle.om_model.proofs.Realloc.{stays-resized}
use Rattle.om_model.proofs.Sound.{IsPlace, IsPlaced, IsSound, place-kind, place-page, same_class, shape-chunk, touches-place}
use Rattle.om_model.proofs.Ways.{HaveClass}
use Rattle.om_pool.specs.InPlace.{resize_to}
use Rattle.om_pool.specs.Resizing.{chunk_stayed}
use Rattle.om_pool.specs.TableSteps.{live_place}
use Rattle.om_pool.specs.Tables.{Tables, StandFor, IsEntered, block_on, kind_by, kind_in, has_by, place_has}
use Rattle.om_pool.proofs.TableAnswers.{HasPlace}
use Rattle.om_pool.proofs.TableBlocks.{find-left}
use Rattle.om_pool.proofs.TablePages.{bytes-filled}
use Rattle.om_pool.proofs.TableResizing.{resized-found}
use Rattle.om_pool.proofs.TableSteps.{Shows, chunk_page_by, kind-class, kind-stays, kinds_of, or-none, pages_in, place-shown, same-table, shows}

module _ (rules : Rules) (tables : Tables) (state : State) (is : IsSound rules state) (stands : StandFor rules tables state) (block : Block) (live : block_at state block.address ≡ Some block) (waits : delayed_at state block.address ≡ None)
    (class : ℕ) (old_class : size_class rules block.size ≡ Some class) (size site : ℕ) (new_class : size_class rules size ≡ Some class) (next_is : IsSound rules (resized (resize_to block size site) state)) where
  abbrev left : State
  left = without_block state block.address

  abbrev next : State
  next = resized (resize_to block size site) state

  abbrev new_block : Block
  new_block = with_size (resize_to block size site)

  abbrev page : ℕ
  page = page_at block.address

  abbrev own : Use
  own = use_of_place (record { address = block.address; class = class })

  own-placed : IsPlaced rules state.held own
  own-placed =
      let Placed : Option ℕ → Type 0 = λ c. AllByRecursion (IsPlaced rules state.held) (uses_by_class rules block c) in
      (subst Placed old_class (block-placed rules state is block.address block live)).0

  on : IsPlace own
  on = shape-chunk own class refl own-placed.shape

  -- its place, on its page
  same-class : on.class ≡ class
  same-class = same_class on.class class (sym (place-kind own on))

  address-is : block.address ≡ place_address on.page on.class on.index
  address-is = ap (λ (u : Use). (u.extent).first) on.one_is

  page-is : page ≡ on.page
  page-is = ap page_at address-is ∙ place-page on.page on.class on.index on.is on.below

  own-touches : (p : ℕ) → touches p own ≡ (page == p)
  own-touches p = touches-place own on p ∙ ap (λ q. q == p) (sym page-is)

  kind-old : kinds_of rules state page ≡ Some (Chunk class)
  kind-old = kind-of_block rules state is block live (Some class) old_class

  kind-new : kinds_of rules next page ≡ Some (Chunk class)
  kind-new = kind-of_block rules next next_is new_block (resized-found state block size site) (Some class) new_class

  -- ---- other pages

  module _ (p : ℕ) (ne : ¬ (p ≡ page)) where
    abbrev Clear : Use → Type 0
    Clear one = touches p one ≡ false

    untouched : touches p own ≡ false
    untouched = own-touches p ∙ ne_eqb page p (λ same. ne (sym same))

    old-clear : AllByRecursion Clear (uses_of_block rules block)
    old-clear = subst (AllByRecursion Clear) (sym (chunk-uses rules block.size class old_class block.address block.site)) (untouched, tt)

    new-clear : AllByRecursion Clear (uses_of_block rules new_block)
    new-clear = subst (AllByRecursion Clear) (sym (chunk-uses rules size class new_class block.address site)) (untouched, tt)

    others-kind : kinds_of rules state p ≡ kinds_of rules next p
    others-kind = sym (with_block-others rules left new_block p new-clear ∙ without_block-others rules state is block.address block live p old-clear)

    others-block : block_on rules next p ≡ block_on rules state p
    others-block =
        let test : Block → Bool = λ other. list_any (touches p) (uses_of_block rules other) in
        find-append test left.live (new_block ∷ [])
        ∙ ap (λ b. option_or (find test left.live) (cond b (Some new_block) None)) (any-none (touches p) (uses_of_block rules new_block) new-clear)
        ∙ or-none (find test left.live) ∙ find-left rules state is block live test (any-none (touches p) (uses_of_block rules block) old-clear)

    others-stay : kind_in rules state p ≡ kind_in rules next p
    others-stay =
        kind-stays (is_held state.held p) (block_on rules state p) (block_on rules next p) (kinds_of rules state p) (kinds_of rules next p)
        (ap (λ o. kind_by o (kinds_of rules state p)) (sym others-block) ∙ ap (kind_by (block_on rules next p)) others-kind)

  each-kind : (p : ℕ) → kinds_of rules state p ≡ kinds_of rules next p
  each-kind p = ⊎_elim
      (λ same. ap (kinds_of rules state) same ∙ kind-old ∙ sym (ap (kinds_of rules next) same ∙ kind-new))
      (λ ne. others-kind p ne)
      (cases_eq p page)

  each-page : (p : ℕ) → kind_in rules state p ≡ kind_in rules next p
  each-page p = ⊎_elim
      (λ same. kind-stays (is_held state.held p) (block_on rules state p) (block_on rules next p) (kinds_of rules state p) (kinds_of rules next p)
      (ap (kind_by (block_on rules state p)) (ap (kinds_of rules state) same ∙ kind-old) ∙ sym (ap (kind_by (block_on rules next p)) (ap (kinds_of rules next) same ∙ kind-new))))
      (λ ne. others-stay p ne)
      (cases_eq p page)

  -- ---- what the addresses have

  has-here : place_has next block.address ≡ has.Live size site
  has-here = ap (λ o. has_by o (block_at next block.address)) waits ∙ ap (has_by None) (resized-found state block size site)

  has-others : (a : ℕ) → ¬ (a ≡ block.address) → place_has next a ≡ place_has state a
  has-others a ne =
      let test : Block → Bool = λ other. other.address == a in
      let other = ne_eqb block.address a (λ same. ne (sym same)) in
      ap (has_by (delayed_at state a))
      (find-append test left.live (new_block ∷ [])
      ∙ ap (λ b. option_or (find test left.live) (cond b (Some new_block) None)) other
      ∙ or-none (find test left.live) ∙ find-left rules state is block live test other)

  chunks-shown : Shows (place_has next) (kinds_of rules next) (with_place tables.chunks block.address (has.Live size site)) (pages_in rules)
  chunks-shown =
      let before = shows rules tables state stands in
      let here = own-placed.there page (own-touches page ∙ eq-self page) in
      let After : chunk.Place → Type 0 = λ shown. Shows (place_has next) (kinds_of rules next) (with_place tables.chunks block.address shown) (pages_in rules) in
      let kind : kinds_of rules next on.page ≡ Some (Chunk on.class) = ap (kinds_of rules next) (sym page-is) ∙ kind-new ∙ ap (λ c. Some (Chunk c)) (sym same-class) in
      subst After has-here
      (place-shown (place_has state) (place_has next) block.address on.page on.class on.index address-is on.is on.below has-others (kinds_of rules next) tables.chunks (pages_in rules) (kind-class rules next next_is)
      (subst (λ p. p < pages_in rules) page-is here) kind
      (record { long = before.long; each = λ p low. before.each p low ∙ ap (chunk_page_by (place_has state) p) (each-kind p) }))
    where
      eq-self : (n : ℕ) → (n == n) ≡ true
      eq-self n = eq-eqb n n refl

  resized-stands : StandFor rules (live_place tables block.address size site) next
  resized-stands = record {
    pages_all = stands.pages_all;
    chunks_all = chunks-shown.long;
    blocks_all = stands.blocks_all;
    pages = λ p low. stands.pages p low ∙ each-page p;
    chunks = λ p low. chunks-shown.each p low ∙ sym (same-table next p (kinds_of rules next p));
    blocks = all-append (IsEntered rules tables.blocks) left.live (new_block ∷ []) (all-filter (IsEntered rules tables.blocks) (λ (other : Block). not (other.address == block.address)) state.live stands.blocks) (no-pages, tt);
    slots = stands.slots;
    memory = stands.memory;
  }
    where
      no-pages : IsEntered rules tables.blocks new_block
      no-pages none = let isnt : Some class ≡ None = sym new_class ∙ none in cc

  canaries-stand : StandFor rules (chunk_stayed rules new_block tables) (with_canaries rules new_block next)
  unfolding with_canaries
  canaries-stand = bytes-filled rules (live_place tables block.address size site) next resized-stands (canary_byte rules) (canaries rules new_block)

-- where it stands in its place
module _ (rules : Rules) (tables : Tables) (state : State) (is : IsSound rules state) (stands : StandFor rules tables state) (address : ℕ) (place : Place) (block : Block) (there : HasPlace rules tables state address place block) where
  pub chunk-stays : (size site : ℕ) → size_class rules size ≡ Some place.class → StandFor rules (chunk_stayed rules (with_size (resize_to block size site)) tables) ((stayed rules state (resize_to block size site)).next)
  chunk-stays size site new_class =
      let live = ap (block_at state) there.block_is ∙ there.found_is in
      let waits = ap (delayed_at state) there.block_is ∙ there.waiting in
      let old_class = class-of_chunk rules state is address block there.found_is place.class there.on_page in
      let have : HaveClass rules block size = record { class = place.class; old = old_class; new = new_class } in
      let fits : is_too_large rules size ≡ false = ap (λ c. is_none c && nat_lt zone_pages (block_pages rules size)) new_class in
      canaries-stand rules tables state is stands block live waits place.class old_class size site new_class (stays-resized rules state is (resize_to block size site) live fits (inl have))
