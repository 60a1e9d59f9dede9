-- Rows of 32 places as frames join at the end and leave at the front.
use Rattle.std.proofs.Common.{◌≡◌, ℕ, zero, suc, ◌+◌, ◌-◌, ◌<◌, ◌≤◌, List, [], ◌∷◌, ◌++◌, length, map, take, drop, get_or, set, replicate, true, false, Some, None, refl, sym, ap, subst, ◌∙◌, arith, append_assoc, append-nil}
use Rattle.std.specs.Prelude.{Option, slice_get, is_some}
use Rattle.std.specs.List.{range_with_len}
use Rattle.std.specs.Array.{AllOfLen}
use Rattle.std.proofs.lemmas.List.{set_at, same_lists, get_or-replicate, replicate_more, map-append, length-map, length_push}
use Rattle.std.proofs.lemmas.List.Elements.{filter_map-append}
use Rattle.om_geom.specs.Numbers.{zone_pages}
use Rattle.om_frame.specs.Frames.{PageBytes, AreNeighbours, next_page}
use Rattle.om_frame.specs.MemoryLaws.{range-append}
use Rattle.om_frame.specs.Packed.{packed, row, IsPacked}

packed-some : (frames : List PageBytes) → packed (map Some frames) ≡ frames
packed-some [] = refl
packed-some (frame ∷ frames) = ap (λ (xs : List PageBytes). frame ∷ xs) (packed-some frames)

packed-none : (n : ℕ) → packed (replicate n None) ≡ []
packed-none zero = refl
packed-none (suc n) = packed-none n

packed-row : (frames : List PageBytes) (empty : ℕ) → packed (row frames empty) ≡ frames
packed-row frames empty =
    filter_map-append (λ (place : Option PageBytes). place) (map Some frames) (replicate empty None)
    ∙ ap (λ (xs : List PageBytes). xs ++ packed (replicate empty None)) (packed-some frames)
    ∙ ap (λ (xs : List PageBytes). frames ++ xs) (packed-none empty)
    ∙ append-nil frames

pub is_packed-row : (places : List (Option PageBytes)) (frames : List PageBytes) (len : ℕ) → places ≡ row frames (zone_pages - len) → length frames ≡ len → len ≤ zone_pages → AreNeighbours frames → IsPacked places len × (packed places ≡ frames)
is_packed-row places frames len is many few neighbours =
    let same : packed places ≡ frames = ap packed is ∙ packed-row frames (zone_pages - len) in (
      record {
        many = ap length same ∙ many;
        few = few;
        front = is ∙ ap (λ (xs : List PageBytes). row xs (zone_pages - len)) (sym same);
        neighbours = subst AreNeighbours (sym same) neighbours;
      },
      same,
    )

pub row-empty : (places : List (Option PageBytes)) → AllOfLen (λ (place : Option PageBytes). place ≡ None) places zone_pages → places ≡ row [] zone_pages
row-empty places all = same_lists places (replicate zone_pages None) all.long
    (λ k d lt. all.at k d (omega (arith, all.long)) ∙ sym (get_or-replicate zone_pages k None d (omega (arith, all.long))))

pub neighbours_push : (frames : List PageBytes) (frame : PageBytes) → AreNeighbours frames → frame.page ≡ next_page frames frame.page → AreNeighbours (frames ++ frame ∷ [])
neighbours_push [] frame are next = refl
neighbours_push (first ∷ frames) frame are next =
    map-append (λ (other : PageBytes). other.page) frames (frame ∷ [])
    ∙ ap (λ (pages : List ℕ). pages ++ frame.page ∷ []) are
    ∙ ap (λ (page : ℕ). range_with_len (first.page + 1) (length frames) ++ page ∷ []) next
    ∙ sym (range-append (first.page + 1) (length frames) 1)
    ∙ ap (range_with_len (first.page + 1)) (sym (length_push frames frame))

pub neighbours_rest : (first : PageBytes) (frames : List PageBytes) → AreNeighbours (first ∷ frames) → AreNeighbours frames
neighbours_rest first [] are = tt
neighbours_rest first (second ∷ frames) are =
    let page : second.page ≡ first.page + 1 = cc in
    let rest : map (λ (other : PageBytes). other.page) frames ≡ range_with_len (first.page + 1 + 1) (length frames) = cc in
    rest ∙ ap (λ (page : ℕ). range_with_len (page + 1) (length frames)) (sym page)

-- a frame joins at the end
pub row_push : (places : List (Option PageBytes)) (len : ℕ) (frames : List PageBytes) (frame : PageBytes) → IsPacked places len → packed places ≡ frames → length frames < zone_pages → frame.page ≡ next_page frames frame.page
    → IsPacked (set places len (Some frame)) (len + 1) × (packed (set places len (Some frame)) ≡ frames ++ frame ∷ [])
row_push places len frames frame is shown room next =
    let many : length frames ≡ len = ap length (sym shown) ∙ is.many in
    let left : zone_pages - len ≡ suc (zone_pages - (len + 1)) = omega arith in
    let front : places ≡ map Some frames ++ None ∷ replicate (zone_pages - (len + 1)) None = is.front ∙ ap (λ (xs : List PageBytes). row xs (zone_pages - len)) shown ∙ ap (row frames) left in
    let pushed : set places len (Some frame) ≡ row (frames ++ frame ∷ []) (zone_pages - (len + 1)) =
    ap (λ (xs : List (Option PageBytes)). set xs len (Some frame)) front
    ∙ set_at (map Some frames) None (replicate (zone_pages - (len + 1)) None) (Some frame) len (length-map frames Some ∙ many)
    ∙ sym (append_assoc (map Some frames) (Some frame ∷ []) (replicate (zone_pages - (len + 1)) None))
    ∙ ap (λ (xs : List (Option PageBytes)). xs ++ replicate (zone_pages - (len + 1)) None) (sym (map-append Some frames (frame ∷ []))) in
    is_packed-row (set places len (Some frame)) (frames ++ frame ∷ []) (len + 1) pushed (omega (arith, length_push frames frame, many)) (omega arith)
    (neighbours_push frames frame (subst AreNeighbours shown is.neighbours) next)

-- the first place of a row
first-row : (frames : List PageBytes) (empty : ℕ) (d : Option PageBytes) → 0 < length frames + empty → get_or (row frames empty) 0 d ≡ slice_get frames 0
first-row [] zero d some = absurd (omega arith)
first-row [] (suc empty) d some = refl
first-row (frame ∷ frames) empty d some = refl

pub row_first : (places : List (Option PageBytes)) (len : ℕ) (frames : List PageBytes) (d : Option PageBytes) → IsPacked places len → packed places ≡ frames → get_or places 0 d ≡ slice_get frames 0
row_first places len frames d is shown =
    let few = is.few in
    let many : length frames ≡ len = ap length (sym shown) ∙ is.many in
    ap (λ (xs : List (Option PageBytes)). get_or xs 0 d) (is.front ∙ ap (λ (xs : List PageBytes). row xs (zone_pages - len)) shown) ∙ first-row frames (zone_pages - len) d (omega arith)

-- the frame in the first place leaves, and the others move up
pub row_rest : (places : List (Option PageBytes)) (len : ℕ) (frames : List PageBytes) (d : Option PageBytes) → IsPacked places len → packed places ≡ frames → is_some (get_or places 0 d) ≡ true
    → IsPacked (drop 1 (set places 0 None) ++ take 1 (set places 0 None)) (len - 1) × (packed (drop 1 (set places 0 None) ++ take 1 (set places 0 None)) ≡ drop 1 frames)
row_rest places len [] d is shown some =
    let many : 0 ≡ len = ap length (sym shown) ∙ is.many in
    let front : places ≡ row [] (zone_pages - 0) = is.front ∙ ap (λ (xs : List PageBytes). row xs (zone_pages - len)) shown ∙ ap (λ (n : ℕ). row [] (zone_pages - n)) (sym many) in
    let none : is_some (get_or places 0 d) ≡ false = ap (λ (xs : List (Option PageBytes)). is_some (get_or xs 0 d)) front in
    cc
row_rest places len (frame ∷ frames) d is shown some =
    let many : suc (length frames) ≡ len = ap length (sym shown) ∙ is.many in
    let few = is.few in
    let rest : List (Option PageBytes) = map Some frames ++ replicate (zone_pages - len) None in
    let front : places ≡ Some frame ∷ rest = is.front ∙ ap (λ (xs : List PageBytes). row xs (zone_pages - len)) shown in
    let more : zone_pages - len + 1 ≡ zone_pages - (len - 1) = omega arith in
    let turned : drop 1 (set places 0 None) ++ take 1 (set places 0 None) ≡ row frames (zone_pages - (len - 1)) =
    ap (λ (xs : List (Option PageBytes)). drop 1 (set xs 0 None) ++ take 1 (set xs 0 None)) front
    ∙ append_assoc (map Some frames) (replicate (zone_pages - len) None) (None ∷ [])
    ∙ ap (λ (xs : List (Option PageBytes)). map Some frames ++ xs) (replicate_more (zone_pages - len) None ∙ ap (λ (n : ℕ). replicate n None) more) in
    is_packed-row (drop 1 (set places 0 None) ++ take 1 (set places 0 None)) frames (len - 1) turned (omega arith) (omega arith)
    (neighbours_rest frame frames (subst AreNeighbours shown is.neighbours))
