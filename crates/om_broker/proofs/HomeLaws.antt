-- Frames at home: all of them, and those of a run that leave or come back.
use Rattle.std.proofs.Common.{◌≡◌, ℕ, zero, suc, ◌+◌, ◌-◌, ◌*◌, ◌<◌, ◌≤◌, Bool, true, false, not, ◌⊎◌, inl, inr, nat_lt, List, [], ◌∷◌, ◌++◌, length, map, get_or, set, take, drop, Some, None, refl, sym, subst, ap, ◌∙◌, arith, zero-add}
use Rattle.std.specs.Prelude.{All, slice_get}
use Rattle.std.specs.List.{range_with_len}
use Rattle.std.proofs.lemmas.Bool.{cases_eq}
use Rattle.std.proofs.lemmas.List.{get_or-set_same, get_or-set_other, get_or-drop, length-set, length-drop, length-replicate, map-append}
use Rattle.std.proofs.lemmas.List.FromFn.{get_or-map-range_with_len}
use Rattle.om_frame.specs.Frames.{PageBytes, zeros, zero_frame, zero_frames, with_frames, without_pages}
use Rattle.om_frame.specs.FrameLaws.{with_frames-append, length-with_frames, is_held-no_pages}
use Rattle.om_frame.specs.Memory.{page_bytes, no_pages, is_held}
use Rattle.om_frame.specs.MemoryLaws.{range-append}
use Rattle.om_broker.specs.Claims.{AreZeros, first_page}
use Rattle.om_broker.specs.Lone.{IsHome}
use Rattle.om_broker.specs.Zones.{ZoneTable, is_page_held}
use mathlib.Core.Logic.{⊎_elim}

-- ---- pages that get the same bytes

abbrev frames_of : List ℕ → ℕ → ℕ → List PageBytes
frames_of bytes first n = map (λ page. record { page = page; bytes = bytes }) (range_with_len first n)

abbrev has_some : List ℕ → Bool
has_some bytes = nat_lt 0 (length bytes)

module _ (bytes : List ℕ) (page : ℕ) where
  outside : (memory : List (List ℕ)) (first n : ℕ) → (page < first) ⊎ (first + n ≤ page) → page_bytes (with_frames memory (frames_of bytes first n)) page ≡ page_bytes memory page
  outside memory first zero apart = refl
  outside memory first (suc n) apart =
      outside (set memory first bytes) (first + 1) n (⊎_elim (λ below. inl (omega arith)) (λ past. inr (omega arith)) apart)
      ∙ get_or-set_other memory first page bytes [] (λ (here : page ≡ first). ⊎_elim (λ below. omega arith) (λ past. omega arith) apart)

  inside : (memory : List (List ℕ)) (first n : ℕ) → first ≤ page → page < first + n → first + n ≤ length memory → page_bytes (with_frames memory (frames_of bytes first n)) page ≡ bytes
  inside memory first zero from to there = absurd (omega arith)
  inside memory first (suc n) from to there = ⊎_elim
      (λ (here : page ≡ first). outside (set memory first bytes) (first + 1) n (inl (omega arith))
      ∙ subst (λ p. page_bytes (set memory first bytes) p ≡ bytes) (sym here) (get_or-set_same memory first bytes [] (omega arith)))
      (λ other. inside (set memory first bytes) (first + 1) n (omega arith) (omega arith) (omega (arith, length-set memory first bytes)))
      (cases_eq page first)

module _ (memory : List (List ℕ)) (first n page : ℕ) where
  -- pages that leave
  pub left-outside : (page < first) ⊎ (first + n ≤ page) → is_held (without_pages memory first n) page ≡ is_held memory page
  left-outside apart = ap has_some (outside [] page memory first n apart)

  pub left-inside : first ≤ page → page < first + n → first + n ≤ length memory → is_held (without_pages memory first n) page ≡ false
  left-inside from to there = ap has_some (inside [] page memory first n from to there)

  -- pages that come
  pub come-outside : (page < first) ⊎ (first + n ≤ page) → is_held (with_frames memory (zero_frames first n)) page ≡ is_held memory page
  come-outside apart = ap has_some (outside zeros page memory first n apart)

  pub come-inside : first ≤ page → page < first + n → first + n ≤ length memory → is_held (with_frames memory (zero_frames first n)) page ≡ true
  unfolding zeros
  come-inside from to there =
      let long = ap length (inside zeros page memory first n from to there) ∙ length-replicate {A = ℕ} 4096 0 in rw long refl

-- ---- all frames

zero_frames-append : (first n m : ℕ) → zero_frames first (n + m) ≡ zero_frames first n ++ zero_frames (first + n) m
zero_frames-append first n m = ap (map zero_frame) (range-append first n m) ∙ map-append zero_frame (range_with_len first n) (range_with_len (first + n) m)

module _ (zones : ℕ) where
  -- the frames of the first pages are there
  abbrev pub first_frames : ℕ → List (List ℕ)
  first_frames n = with_frames (no_pages zones) (zero_frames 0 n)

  pub length-first_frames : (n : ℕ) → length (first_frames n) ≡ 32 * zones
  length-first_frames n = length-with_frames (no_pages zones) (zero_frames 0 n) ∙ length-replicate {A = List ℕ} (32 * zones) []

  pub first_frames-lack : (n page : ℕ) → n ≤ page → is_held (first_frames n) page ≡ false
  first_frames-lack n page past = come-outside (no_pages zones) 0 n page (inr (omega arith)) ∙ is_held-no_pages zones page

  pub first_frames-more : (n m : ℕ) → with_frames (first_frames n) (zero_frames n m) ≡ first_frames (n + m)
  first_frames-more n m =
      sym (with_frames-append (no_pages zones) (zero_frames 0 n) (zero_frames n m))
      ∙ ap (λ (k : ℕ). with_frames (no_pages zones) (zero_frames 0 n ++ zero_frames k m)) (sym (zero-add n))
      ∙ ap (with_frames (no_pages zones)) (sym (zero_frames-append 0 n m))

  -- they are at home where no page is held
  pub all-home : (table : ZoneTable) → length table.bits ≡ zones → ((page : ℕ) → page < 32 * zones → is_page_held table page ≡ false) → IsHome table (first_frames (32 * zones))
  all-home table long clear = record {
    pages = length-first_frames (32 * zones) ∙ ap (λ z. 32 * z) (sym long);
    others = λ page low.
        let there = length-replicate {A = List ℕ} (32 * zones) [] in
        come-inside (no_pages zones) 0 (32 * zones) page (omega arith) (omega arith) (omega arith) ∙ ap not (sym (clear page (omega arith)));
  }

-- ---- frames that are given back

-- the first of them
pub first-taken : (frames : List PageBytes) (frame : PageBytes) → Some frame ≡ slice_get frames 0 → (take 1 frames ≡ frame ∷ []) × (first_page frames ≡ frame.page)
first-taken [] frame got = cc
first-taken (f ∷ frames) frame got = let same : frame ≡ f = cc in (ap (λ (g : PageBytes). g ∷ []) (sym same), ap (λ (g : PageBytes). g.page) (sym same))

pub none-taken : (frames : List PageBytes) → None ≡ slice_get frames 0 → frames ≡ []
none-taken [] got = refl
none-taken (f ∷ frames) got = cc

-- the others' pages are others
other-pages : (home : List (List ℕ)) (frames : List PageBytes) → AreZeros frames → (k : ℕ) (d : PageBytes) → k < length (drop 1 frames) → (get_or (drop 1 frames) k d).page ≡ first_page frames + (1 + k)
other-pages home frames are k d lt =
    let long : length (drop 1 frames) ≡ length frames - 1 = length-drop 1 frames in
    ap (λ (frame : PageBytes). frame.page) (get_or-drop 1 frames k d
    ∙ ap (λ (fs : List PageBytes). get_or fs (1 + k) d) are.zeros_are
    ∙ get_or-map-range_with_len zero_frame (first_page frames) (length frames) (1 + k) (first_page frames + (1 + k)) d (omega arith) refl)

pub others-lack : (home : List (List ℕ)) (frames : List PageBytes) → AreZeros frames → All (λ frame. is_held home frame.page ≡ false) frames
    → (k : ℕ) (d : PageBytes) → k < length (drop 1 frames) → is_held (with_frames home (take 1 frames)) (get_or (drop 1 frames) k d).page ≡ false
others-lack home [] are new k d lt = absurd (omega arith)
others-lack home (f ∷ frames) are new k d lt =
    let next = other-pages home (f ∷ frames) are k d lt in
    ap has_some (get_or-set_other home f.page (get_or frames k d).page f.bytes [] (λ (same : (get_or frames k d).page ≡ f.page). omega arith))
    ∙ new (suc k) d (omega arith)
