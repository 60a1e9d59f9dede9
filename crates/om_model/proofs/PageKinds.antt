-- What a page is, before a step and after it. All that touches a page has the page's kind. So after a step by which
-- blocks leave or move, a page has its kind still, unless nothing touches it any more; and a new block gives its pages
-- their kind and leaves the others theirs. At the first byte of a page block, and there alone, the block stands.
use Rattle.std.proofs.Common.{◌≡◌, ℕ, ◌<◌, ◌⊎◌, inl, inr, Bool, true, false, not, ◌==◌, if◌then◌else◌, List, [], ◌∷◌, ◌++◌, map, Option, Some, None, slice_set, refl, sym, ap, ◌∙◌, subst, arith}
use Rattle.std.specs.List.{filter, find, flat_map, AllByRecursion}
use Rattle.std.specs.Option.{option_map, option_or}
use Rattle.std.proofs.lemmas.Bool.{true≢false, cases_Bool, eqb-true}
use Rattle.std.proofs.lemmas.List.Folds.{find-append}
use mathlib.Core.Logic.{⊎_elim}
use Rattle.om_geom.specs.Addresses.{Covers, address_of, page_at}
use Rattle.om_geom.specs.ClassLaws.{class_of-is_class, stride-at_least_16}
use Rattle.om_geom.specs.FitLaws.{find-passes}
use Rattle.om_model.specs.Pool.Rules.{Rules, size_class, block_pages}
use Rattle.om_model.specs.Pool.Runs.{is_page_of}
use Rattle.om_model.specs.Pool.State.{State, delayed}
use Rattle.om_model.specs.Pool.InUse.{Kind, Pages, Guard, Use, data_of, guard_of, use_of_place, uses_of_pages, uses_by_class, uses_of_block, uses, touches, page_kind, is_free_page}
use Rattle.om_model.specs.Pool.Malloc.{with_block}
use Rattle.om_model.specs.Pool.Free.{without_block, into_slot}
use Rattle.om_model.specs.Pool.Standing.{PageBlock, InPageBlock, OnGuard, NotHeld, block_at, in_pages, on_page, standing}
use Rattle.om_model.specs.Pool.WellFormed.{EachPair, LiesOn}
use Rattle.om_model.specs.declared.block.Block.{Block}
use Rattle.om_model.specs.declared.block.Place.{Place}
use Rattle.om_model.proofs.Each.{Across, all-weaker, all-both, all-each, all-append, all-first, all-second, all-find, across-swap, pairs-all, pairs-first, pairs-second, pairs-across, find-nothing, none-found}
use Rattle.om_model.proofs.Flat.{all-flat}
use Rattle.om_model.proofs.Sound.{HasShape, IsPlaced, GoTogether, AreSound, IsSound, place-kind, whole-touched, alike-chunk, alike-swap, shape-low, together-swap, touched-at, touches-first, well-formed}
use Rattle.om_model.proofs.Places.{untouched-free}
use Rattle.om_model.proofs.Malloc.{pages-uses, some-pages, with_block-uses}
use Rattle.om_model.proofs.Free.{all-slot, block-placed, class-of_pages, kind_by_class, of-block, of-left, own_run, run-free}

-- ---- all that touches a page has its kind

-- what is so of each pair, where something is so of each element
pairs-under : {X : Type 0} (P : X → Type 0) (R S : X → X → Type 0) → ((a b : X) → P a → P b → R a b → S a b) → (xs : List X) → AllByRecursion P xs → EachPair R xs → EachPair S xs
pairs-under P R S step [] all pairs = tt
pairs-under P R S step (x ∷ xs) all pairs = (all-both P (R x) (S x) xs (λ y here both. step x y all.0 here both) all.1 pairs.0, pairs-under P R S step xs all.1 pairs.1)

same-kind : (a b : Use) → HasShape a → HasShape b → GoTogether a b → (page : ℕ) → touches page a ≡ true → touches page b ≡ true → a.kind ≡ b.kind
same-kind a b (inl on) shape both page first second =
    let kind = place-kind a on in
    kind ∙ sym (alike-chunk on.class b.kind (rw kind at (both.alike page first second)))
same-kind a b (inr on) (inl other) both page first second =
    let kind = place-kind b other in
    alike-chunk other.class a.kind (rw kind at (alike-swap a.kind b.kind (both.alike page first second))) ∙ sym kind
same-kind a b (inr on) (inr other) both page first second =
    let in_a = whole-touched a on page first in
    let in_b = whole-touched b other page second in
    let low_a = in_a.0 in
    let high_a = in_a.1 in
    let low_b = in_b.0 in
    let high_b = in_b.1 in
    let first_a = on.first_is in
    let len_a = on.len_is in
    let first_b = other.first_is in
    let len_b = other.len_is in
    absurd (both.apart (address_of page, (omega arith, omega arith), (omega arith, omega arith)))

-- each thing on the page is of the kind
abbrev pub AllHave : List Use → ℕ → Option Kind → Type 0
AllHave used page kind = AllByRecursion (λ one. touches page one ≡ true → Some one.kind ≡ kind) used

all-found : (used : List Use) (page : ℕ) → EachPair (λ a b. touches page a ≡ true → touches page b ≡ true → a.kind ≡ b.kind) used
    → (found : Option Use) → find (touches page) used ≡ found → AllHave used page (option_map (λ (u : Use). u.kind) found)
all-found used page pairs None none = all-weaker (λ one. touches page one ≡ false) (λ one. touches page one ≡ true → Some one.kind ≡ None) used (λ one isnt touched. absurd (true≢false (sym touched ∙ isnt))) (none-found (touches page) used none)
all-found used page pairs (Some first) found =
    let R : Use → Use → Type 0 = λ a b. touches page a ≡ true → touches page b ≡ true → a.kind ≡ b.kind in
    all-weaker (R first) (λ one. touches page one ≡ true → Some one.kind ≡ Some first.kind) used
    (λ one same touched. ap Some (sym (same (find-passes (touches page) used first found) touched)))
    (all-find (λ u. AllByRecursion (R u) used) (touches page) used first (pairs-all R used (λ a s t. refl) (λ a b same s t. sym (same t s)) pairs) found)

pub all-have : (rules : Rules) (held : List ℕ) (used : List Use) → AreSound rules held used → (page : ℕ) → AllHave used page (page_kind used page)
all-have rules held used sound page =
    all-found used page
    (pairs-under (IsPlaced rules held) GoTogether (λ a b. touches page a ≡ true → touches page b ≡ true → a.kind ≡ b.kind) (λ a b first second both. same-kind a b first.shape second.shape both page) used sound.placed sound.together)
    (find (touches page) used) refl

-- where all on a page is of a kind, the page is of it, or is free
pub kind-from : (used : List Use) (page : ℕ) (kind : Option Kind) → AllHave used page kind → page_kind used page ≡ (if is_free_page used page then None else kind)
kind-from [] page kind all = refl
kind-from (x ∷ xs) page kind all = ⊎_elim
    (λ t. rw t (all.0 t))
    (λ f. rw f (kind-from xs page kind all.1))
    (cases_Bool (touches page x))

-- ---- a block comes

option_or-nothing : {X : Type 0} (a b : Option X) → option_or (option_or a None) b ≡ option_or a b
option_or-nothing None b = refl
option_or-nothing (Some x) b = refl

module _ (rules : Rules) (state : State) (block : Block) (page : ℕ) where
  abbrev live_uses : List Use
  live_uses = flat_map (uses_of_block rules) state.live

  abbrev delayed_uses : List Use
  delayed_uses = map use_of_place (delayed state.slots)

  -- its pages get the kinds of what it has there
  pub with_block-kinds : IsSound rules (with_block block state) → AllHave (uses_of_block rules block) page (page_kind (uses rules (with_block block state)) page)
  with_block-kinds is =
      let P : Use → Type 0 = λ one. touches page one ≡ true → Some one.kind ≡ page_kind (uses rules (with_block block state)) page in
      all-second P live_uses (uses_of_block rules block)
      (all-first P (live_uses ++ uses_of_block rules block) delayed_uses
      (subst (AllByRecursion P) (with_block-uses rules block state) (all-have rules state.held (uses rules (with_block block state)) is.sound page)))

  -- each other page is what it was
  pub with_block-others : AllByRecursion (λ one. touches page one ≡ false) (uses_of_block rules block) → page_kind (uses rules (with_block block state)) page ≡ page_kind (uses rules state) page
  with_block-others untouched =
      let test = touches page in
      let own = uses_of_block rules block in
      ap (option_map (λ (u : Use). u.kind))
      (ap (find test) (with_block-uses rules block state)
      ∙ find-append test (live_uses ++ own) delayed_uses
      ∙ ap (λ o. option_or o (find test delayed_uses)) (find-append test live_uses own ∙ ap (option_or (find test live_uses)) (find-nothing test own untouched))
      ∙ option_or-nothing (find test live_uses) (find test delayed_uses)
      ∙ sym (find-append test live_uses delayed_uses))

-- ---- a block leaves, or its place moves to a slot

module _ (rules : Rules) (state : State) (is : IsSound rules state) (address : ℕ) (block : Block) (live : block_at state address ≡ Some block) (page : ℕ) where
  abbrev OfKind : Use → Type 0
  OfKind one = touches page one ≡ true → Some one.kind ≡ page_kind (uses rules state) page

  before : AllByRecursion OfKind (uses rules state)
  before = all-have rules state.held (uses rules state) is.sound page

  abbrev in_live : List Use
  in_live = flat_map (uses_of_block rules) state.live

  abbrev in_slots : List Use
  in_slots = map use_of_place (delayed state.slots)

  pub without_block-kind : page_kind (uses rules (without_block state address)) page ≡ (if is_free_page (uses rules (without_block state address)) page then None else page_kind (uses rules state) page)
  without_block-kind =
      kind-from (uses rules (without_block state address)) page (page_kind (uses rules state) page)
      (all-append OfKind (flat_map (uses_of_block rules) ((without_block state address).live)) in_slots
      (of-left rules state is address block live OfKind (all-first OfKind in_live in_slots before)) (all-second OfKind in_live in_slots before))

  pub into_slot-kind : (place : Place) (slot : ℕ) → place.address ≡ address → uses_of_block rules block ≡ use_of_place place ∷ []
      → page_kind (uses rules (into_slot state slot place)) page ≡ (if is_free_page (uses rules (into_slot state slot place)) page then None else page_kind (uses rules state) page)
  into_slot-kind place slot at uses_is =
      let later = map use_of_place (delayed (slice_set state.slots slot (Some place))) in
      let here = (subst (AllByRecursion OfKind) uses_is (of-block rules state is address block live OfKind (all-first OfKind in_live in_slots before))).0 in
      let Left : ℕ → Type 0 = λ a. AllByRecursion OfKind (flat_map (uses_of_block rules) ((without_block state a).live)) in
      kind-from (uses rules (into_slot state slot place)) page (page_kind (uses rules state) page)
      (all-append OfKind (flat_map (uses_of_block rules) ((without_block state place.address).live)) later
      (subst Left (sym at) (of-left rules state is address block live OfKind (all-first OfKind in_live in_slots before)))
      (all-slot OfKind place state.slots slot here (all-second OfKind in_live in_slots before)))

-- ---- what stands at a byte that is in use

module _ (rules : Rules) (state : State) (is : IsSound rules state) where
  abbrev used : List Use
  used = uses rules state

  -- the kind of what has the byte decides
  abbrev pub Decides : Use → Type 0
  Decides one = (byte : ℕ) → Covers one.extent byte → standing rules state byte ≡ on_page state byte (Some one.kind)

  pub each-decides : AllByRecursion Decides used
  each-decides =
      let sound = is.sound in
      let formed = well-formed rules state is in
      let Has : Use → Type 0 = λ one. (page : ℕ) → true ≡ true → touches page one ≡ true → Some one.kind ≡ page_kind used page in
      let have : AllByRecursion Has used = all-each (λ page. true ≡ true) (λ page one. touches page one ≡ true → Some one.kind ≡ page_kind used page) used (λ page yet. all-have rules state.held used sound page) in
      let Lies : Use → Type 0 = LiesOn rules state in
      all-both (λ one. Has one × IsPlaced rules state.held one) Lies Decides used
      (λ one both lies byte covers.
      let held = lies byte covers in
      let low = shape-low one (both.1).shape in
      let from = covers.0 in
      let kind = both.0 (page_at byte) refl (touched-at one byte (omega arith) covers) in
      ap (λ b. if b then on_page state byte (page_kind used (page_at byte)) else NotHeld) held ∙ ap (on_page state byte) (sym kind))
      (all-both Has (IsPlaced rules state.held) (λ one. Has one × IsPlaced rules state.held one) used (λ one first second. (first, second)) have sound.placed) formed.on_held

-- a block begins with something in use
record Head (used : List Use) (address : ℕ) (kind_is : Kind) : Type 0 where
  one : Use
  rest : List Use
  is : used ≡ one ∷ rest
  first : (one.extent).first ≡ address
  some : 0 < (one.extent).len
  kind : one.kind ≡ kind_is

block-head : (rules : Rules) (block : Block) (class : Option ℕ) → size_class rules block.size ≡ class → Head (uses_by_class rules block class) block.address (kind_by_class class)
block-head rules block (Some class) is =
    record { one = use_of_place (record { address = block.address; class = class }); rest = []; is = refl; first = refl; some = omega (arith, stride-at_least_16 class (class_of-is_class block.size rules.options.canary class is)); kind = refl }
block-head rules block None none =
    record { one = record { extent = data_of block; kind = Pages }; rest = _; is = refl; first = refl; some = omega (arith, some-pages rules block.size none); kind = refl }

-- each two blocks
pairs-blocks : (R : Use → Use → Type 0) → ((a b : Use) → R a b → R b a) → (f : Block → List Use) (live : List Block) → EachPair R (flat_map f live) → EachPair (λ a b. Across R (f a) (f b)) live
pairs-blocks R swap f [] pairs = tt
pairs-blocks R swap f (x ∷ xs) pairs =
    let across = across-swap R (f x) (flat_map f xs) swap (pairs-across R (f x) (flat_map f xs) pairs) in (
      all-weaker (λ y. Across R (f y) (f x)) (λ y. Across R (f x) (f y)) xs (λ y back. across-swap R (f y) (f x) swap back) (all-flat f (λ v. AllByRecursion (R v) (f x)) xs across),
      pairs-blocks R swap f xs (pairs-second R (f x) (flat_map f xs) pairs),
    )

-- two that are found are one, or a pair
pairs-found : {X : Type 0} (R : X → X → Type 0) → ((a b : X) → R a b → R b a) → (p q : X → Bool) (xs : List X) (a b : X) → EachPair R xs → find p xs ≡ Some a → find q xs ≡ Some b → (a ≡ b) ⊎ R a b
pairs-found R swap p q [] a b pairs first second = cc
pairs-found R swap p q (x ∷ xs) a b pairs first second = ⊎_elim
    (λ t.
    let here : Some x ≡ Some a = rw t at first in
    let at_a : x ≡ a = cc in
    ⊎_elim
    (λ u. let there : Some x ≡ Some b = rw u at second in let at_b : x ≡ b = cc in inl (sym at_a ∙ at_b))
    (λ u. inr (subst (λ y. R y b) at_a (all-find (R x) q xs b pairs.0 (rw u at second))))
    (cases_Bool (q x)))
    (λ f. ⊎_elim
    (λ u. let there : Some x ≡ Some b = rw u at second in let at_b : x ≡ b = cc in inr (swap b a (subst (λ y. R y a) at_b (all-find (R x) p xs a pairs.0 (rw f at first)))))
    (λ u. pairs-found R swap p q xs a b pairs.1 (rw f at first) (rw u at second))
    (cases_Bool (q x)))
    (cases_Bool (p x))

module _ (rules : Rules) (state : State) (is : IsSound rules state) (block : Block) (live : block_at state block.address ≡ Some block) (none : size_class rules block.size ≡ None) where
  decides : AllByRecursion (Decides rules state is) (uses_of_pages rules block)
  decides =
      let D : Use → Type 0 = Decides rules state is in
      subst (AllByRecursion D) (pages-uses rules block.size none block.address block.site)
      (of-block rules state is block.address block live D (all-first D (flat_map (uses_of_block rules) state.live) (map use_of_place (delayed state.slots)) (each-decides rules state is)))

  -- no other block begins at a byte of its data pages
  nothing-inside : (byte : ℕ) → Covers (data_of block) byte → (block.address ≡ byte → ⊥) → (found : Option Block) → block_at state byte ≡ found → found ≡ None
  nothing-inside byte covers other None at = refl
  nothing-inside byte covers other (Some second) at =
      let sound = is.sound in
      let f = uses_of_block rules in
      let here : second.address ≡ byte = eqb-true second.address byte (find-passes (λ b. b.address == byte) state.live second at) in
      let pairs = pairs-blocks GoTogether together-swap f state.live (pairs-first GoTogether (flat_map f state.live) (map use_of_place (delayed state.slots)) sound.together) in
      let swap : (a b : Block) → Across GoTogether (f a) (f b) → Across GoTogether (f b) (f a) = λ a b. across-swap GoTogether (f a) (f b) together-swap in
      let head = block-head rules second (size_class rules second.size) refl in
      let first = head.first in
      let some = head.some in
      absurd (⊎_elim
      (λ same. other (ap (λ (b : Block). b.address) same ∙ here))
      (λ across.
      let to_head : Across GoTogether (uses_of_pages rules block) (head.one ∷ head.rest) =
      subst (λ us. Across GoTogether us (head.one ∷ head.rest)) (pages-uses rules block.size none block.address block.site) (subst (Across GoTogether (f block)) head.is across) in
      let both = (to_head.0).0 in
      both.apart (byte, covers, (omega arith, omega arith)))
      (pairs-found (λ a b. Across GoTogether (f a) (f b)) swap (λ b. b.address == block.address) (λ b. b.address == byte) state.live block second pairs live at))

  -- at the first byte of a page block it stands
  pub standing-first : standing rules state block.address ≡ PageBlock block
  standing-first =
      let some = some-pages rules block.size none in
      decides.0 block.address (omega arith, omega arith) ∙ ap in_pages live

  -- at no other byte of its data pages
  pub standing-inside : (byte : ℕ) → Covers (data_of block) byte → (block.address ≡ byte → ⊥) → standing rules state byte ≡ InPageBlock
  standing-inside byte covers other = decides.0 byte covers ∙ ap in_pages (nothing-inside byte covers other (block_at state byte) refl)

  -- nor on its guard
  pub standing-guard : (byte : ℕ) → rules.options.guard ≡ true → Covers (guard_of block) byte → standing rules state byte ≡ OnGuard
  standing-guard byte guards covers =
      let D : Use → Type 0 = Decides rules state is in
      let all = subst (λ g. AllByRecursion D (if g then record { extent = guard_of block; kind = Guard } ∷ [] else [])) guards decides.1 in
      all.0 byte covers

-- ---- a page block leaves: its pages are free, and each other page is what it was

-- two blocks of which each has its own don't begin at one address
clash : (rules : Rules) (a b : Block) → a.address ≡ b.address → Across GoTogether (uses_of_block rules a) (uses_of_block rules b) → ⊥
clash rules a b same across =
    let head_a = block-head rules a (size_class rules a.size) refl in
    let head_b = block-head rules b (size_class rules b.size) refl in
    let first_a = head_a.first in
    let first_b = head_b.first in
    let some_a = head_a.some in
    let some_b = head_b.some in
    let from_a : Across GoTogether (head_a.one ∷ head_a.rest) (uses_of_block rules b) = subst (λ us. Across GoTogether us (uses_of_block rules b)) head_a.is across in
    let both : Across GoTogether (head_a.one ∷ head_a.rest) (head_b.one ∷ head_b.rest) = subst (Across GoTogether (head_a.one ∷ head_a.rest)) head_b.is from_a in
    let two = (both.0).0 in
    two.apart (a.address, (omega arith, omega arith), (omega arith, omega arith))

-- what is so of what the found block has is so of what each block at its address has
same-only : (rules : Rules) (P : Use → Type 0) (address : ℕ) (live : List Block) (block : Block) → EachPair (λ a b. Across GoTogether (uses_of_block rules a) (uses_of_block rules b)) live
    → find (λ (b : Block). b.address == address) live ≡ Some block → AllByRecursion P (uses_of_block rules block) → AllByRecursion (λ (x : Block). (x.address == address) ≡ true → AllByRecursion P (uses_of_block rules x)) live
same-only rules P address [] block pairs found all = cc
same-only rules P address (x ∷ xs) block pairs found all = ⊎_elim
    (λ t.
    let here : Some x ≡ Some block = rw t at found in
    let same : x ≡ block = cc in
    let Has : Block → Type 0 = λ b. AllByRecursion P (uses_of_block rules b) in (
      (λ u. subst Has (sym same) all),
      all-weaker (λ y. Across GoTogether (uses_of_block rules x) (uses_of_block rules y)) (λ y. (y.address == address) ≡ true → AllByRecursion P (uses_of_block rules y)) xs
          (λ y across u. absurd (clash rules x y (eqb-true x.address address t ∙ sym (eqb-true y.address address u)) across)) pairs.0,
    ))
    (λ f. ((λ u. absurd (true≢false (sym u ∙ f))), same-only rules P address xs block pairs.1 (rw f at found) all))
    (cases_Bool (x.address == address))

all-split : {X Y : Type 0} (f : X → List Y) (P : Y → Type 0) (test : X → Bool) (xs : List X) → AllByRecursion P (flat_map f (filter (λ x. not (test x)) xs)) → AllByRecursion (λ x. test x ≡ true → AllByRecursion P (f x)) xs → AllByRecursion P (flat_map f xs)
all-split f P test [] left each = tt
all-split f P test (x ∷ xs) left each = ⊎_elim
    (λ t. all-append P (f x) (flat_map f xs) (each.0 t) (all-split f P test xs (rw t at left) each.1))
    (λ n.
    let rest = flat_map f (filter (λ y. not (test y)) xs) in
    let both : AllByRecursion P (f x ++ rest) = rw n at left in
    all-append P (f x) (flat_map f xs) (all-first P (f x) rest both) (all-split f P test xs (all-second P (f x) rest both) each.1))
    (cases_Bool (test x))

-- the pages of a page block, where it is gone
pub page_block-gone : (rules : Rules) (state : State) (is : IsSound rules state) (block : Block) → block_at state block.address ≡ Some block → size_class rules block.size ≡ None → (page : ℕ)
    → is_page_of (record { first = page_at block.address; count = block_pages rules block.size }) page ≡ true → page_kind (uses rules (without_block state block.address)) page ≡ None
page_block-gone rules state is block live none page inside =
    let after = uses rules (without_block state block.address) in
    let clear = run-free rules state.held after (page_at block.address) (block_pages rules block.size) (own_run rules state is block live none) in
    ap (option_map (λ (u : Use). u.kind)) (find-nothing (touches page) after (clear page inside))

module _ (rules : Rules) (state : State) (is : IsSound rules state) (address : ℕ) (block : Block) (live : block_at state address ≡ Some block) (page : ℕ) where
  abbrev Clear : Use → Type 0
  Clear one = touches page one ≡ false

  still-clear : AllByRecursion Clear (uses_of_block rules block) → AllByRecursion Clear (uses rules (without_block state address)) → AllByRecursion Clear (uses rules state)
  still-clear own left =
      let sound = is.sound in
      let f = uses_of_block rules in
      let old = map use_of_place (delayed state.slots) in
      let left_uses = flat_map f ((without_block state address).live) in
      let pairs = pairs-blocks GoTogether together-swap f state.live (pairs-first GoTogether (flat_map f state.live) old sound.together) in
      all-append Clear (flat_map f state.live) old
      (all-split f Clear (λ b. b.address == address) state.live (all-first Clear left_uses old left) (same-only rules Clear address state.live block pairs live own))
      (all-second Clear left_uses old left)

  -- a page that the block doesn't touch is what it was
  pub without_block-others : AllByRecursion Clear (uses_of_block rules block) → page_kind (uses rules (without_block state address)) page ≡ page_kind (uses rules state) page
  without_block-others own =
      let after = uses rules (without_block state address) in
      let kind = without_block-kind rules state is address block live page in
      ⊎_elim
      (λ free.
      let none = find-nothing (touches page) (uses rules state) (still-clear own (untouched-free after page free)) in
      kind ∙ ap (λ b. if b then None else page_kind (uses rules state) page) free ∙ ap (option_map (λ (u : Use). u.kind)) (sym none))
      (λ used. kind ∙ ap (λ b. if b then None else page_kind (uses rules state) page) used)
      (cases_Bool (is_free_page after page))

  -- the pages of a page block are free
  pub without_block-free : page_kind (uses rules state) (page_at address) ≡ Some Pages → is_page_of (record { first = page_at address; count = block_pages rules block.size }) page ≡ true → page_kind (uses rules (without_block state address)) page ≡ None
  without_block-free found within =
      let here = eqb-true block.address address (find-passes (λ (b : Block). b.address == address) state.live block live) in
      let none = class-of_pages rules state is address block live found in
      let Free : ℕ → Type 0 = λ a. block_at state a ≡ Some block → is_page_of (record { first = page_at a; count = block_pages rules block.size }) page ≡ true → page_kind (uses rules (without_block state a)) page ≡ None in
      subst Free here (λ own inside. page_block-gone rules state is block own none page inside) live within

-- ---- the page on which a block begins

-- it has the kind of the block
pub kind-of_block : (rules : Rules) (state : State) → IsSound rules state → (block : Block) → block_at state block.address ≡ Some block → (class : Option ℕ) → size_class rules block.size ≡ class
    → page_kind (uses rules state) (page_at block.address) ≡ Some (kind_by_class class)
kind-of_block rules state is block live class class_is =
    let head = block-head rules block class class_is in
    let page = page_at block.address in
    let Of : Use → Type 0 = λ one. touches page one ≡ true → Some one.kind ≡ page_kind (uses rules state) page in
    let In : List Use → Type 0 = AllByRecursion Of in
    let own : In (uses_of_block rules block) =
    of-block rules state is block.address block live Of (all-first Of (flat_map (uses_of_block rules) state.live) (map use_of_place (delayed state.slots)) (all-have rules state.held (uses rules state) is.sound page)) in
    let placed = subst (AllByRecursion (IsPlaced rules state.held)) head.is (subst (λ c. AllByRecursion (IsPlaced rules state.held) (uses_by_class rules block c)) class_is (block-placed rules state is block.address block live)) in
    let all = subst In head.is (subst (λ c. In (uses_by_class rules block c)) class_is own) in
    let touched : touches page head.one ≡ true = subst (λ a. touches (page_at a) head.one ≡ true) head.first (touches-first head.one (placed.0).shape) in
    sym (all.0 touched) ∙ ap Some head.kind
