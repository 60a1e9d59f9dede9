-- The lines above the pools and the titles, in the pieces in which they are written.
use Rattle.std.proofs.Common.{◌≡◌, ℕ, zero, suc, ◌+◌, ◌<◌, ◌≤◌, List, [], ◌∷◌, ◌++◌, length, map, take, refl, sym, ◌∙◌, ap, arith, append_assoc, codes}
use Rattle.std.specs.List.{flat_map, join_with_byte, slice_index}
use Rattle.std.specs.Fmt.{decimal}
use Rattle.std.proofs.lemmas.List.Folds.{flat_map-map}
use Rattle.om_opts.specs.declared.options.Opts.{Opts}
use Rattle.om_words.specs.declared.plan.WordPlan.{WordPlan}
use Rattle.om_model.specs.Output.Head.{Head}
use Rattle.om_model.specs.Data.CallEntry.{CallEntry}
use Rattle.om_model.specs.Output.Text.{head_lines, flags_text, plan_text, warning_line, ended_line, warned_line, who_text, op_text, reply_text, words_text, taken_text, looks_text, claim_text, release_text, call_text}

-- one word more, behind a comma
listed_step : (words : List ℕ) (i : ℕ) → suc i < length words →
    join_with_byte 44 (map decimal (take (suc (suc i)) words)) ≡ join_with_byte 44 (map decimal (take (suc i) words)) ++ 44 ∷ decimal (slice_index words (suc i))
listed_step [] i below = absurd (omega arith)
listed_step (first ∷ []) i below = absurd (omega arith)
listed_step (first ∷ second ∷ rest) zero below = refl
listed_step (first ∷ second ∷ rest) (suc i) below =
    ap (λ text. decimal first ++ 44 ∷ text) (listed_step (second ∷ rest) i (omega arith))
    ∙ sym (append_assoc (decimal first) (44 ∷ join_with_byte 44 (map decimal (take (suc i) (second ∷ rest)))) (44 ∷ decimal (slice_index (second ∷ rest) (suc i))))

pub listed_next : (before : List ℕ) (words : List ℕ) (i word : ℕ) → 1 ≤ i → i < length words → word ≡ slice_index words i →
    ((before ++ join_with_byte 44 (map decimal (take i words))) ++ 44 ∷ []) ++ decimal word ≡ before ++ join_with_byte 44 (map decimal (take (i + 1) words))
listed_next before words zero word some below is = absurd (omega arith)
listed_next before words (suc i) word some below is =
    let next : suc i + 1 ≡ suc (suc i) = omega arith in
    let front = join_with_byte 44 (map decimal (take (suc i) words)) in
    append_assoc (before ++ front) (44 ∷ []) (decimal word)
    ∙ append_assoc before front (44 ∷ decimal word)
    ∙ ap (λ n. before ++ (front ++ 44 ∷ decimal n)) is
    ∙ ap (λ text. before ++ text) (sym (listed_step words i below))
    ∙ ap (λ n. before ++ join_with_byte 44 (map decimal (take n words))) (sym next)

-- the lines of the head
four_parts : (before a b c d : List ℕ) → (((before ++ a) ++ b) ++ c) ++ d ≡ before ++ (a ++ (b ++ (c ++ d)))
four_parts before a b c d = simp append_assoc

abbrev options_line : Opts → ℕ → List ℕ
options_line o zones = codes "zones " ++ decimal zones ++ codes " pools " ++ decimal o.pools ++ codes " flags " ++ flags_text o ++ codes " junk " ++ decimal o.junk ++ codes " cache " ++ decimal o.cache

head_text : (head : Head) →
    codes "omalloc 1\n" ++ (ended_line (options_line head.options head.zones) ++ (ended_line (codes "words " ++ plan_text head.plan) ++ flat_map warned_line head.warned)) ≡ flat_map ended_line (head_lines head)
unfolding head_lines
head_text head =
    ap (λ text. codes "omalloc 1\n" ++ (ended_line (options_line head.options head.zones) ++ (ended_line (codes "words " ++ plan_text head.plan) ++ text))) (sym (flat_map-map ended_line warning_line head.warned))

pub head_added : (before : List ℕ) (options : Opts) (zones : ℕ) (plan : WordPlan) (warned given : List ℕ) (head : Head) →
    record { options = options; zones = zones; plan = plan; warned = warned } ≡ head → given ≡ warned →
    (((before ++ codes "omalloc 1\n") ++ ended_line (options_line options zones)) ++ ended_line (codes "words " ++ plan_text plan)) ++ flat_map warned_line given ≡ before ++ flat_map ended_line (head_lines head)
head_added before options zones plan warned given head same is =
    let inside : Head = record { options = options; zones = zones; plan = plan; warned = warned } in
    four_parts before (codes "omalloc 1\n") (ended_line (options_line options zones)) (ended_line (codes "words " ++ plan_text plan)) (flat_map warned_line given)
    ∙ ap (λ bytes. before ++ (codes "omalloc 1\n" ++ (ended_line (options_line options zones) ++ (ended_line (codes "words " ++ plan_text plan) ++ flat_map warned_line bytes)))) is
    ∙ ap (λ text. before ++ text) (head_text inside)
    ∙ ap (λ h. before ++ flat_map ended_line (head_lines h)) same

-- the parts of a call
pub call_added : (before a b c d e f g h i : List ℕ) (call : CallEntry) →
    a ≡ before ++ who_text call → b ≡ a ++ codes " " → c ≡ b ++ op_text call.op → d ≡ c ++ codes " = " → e ≡ d ++ reply_text call.reply
    → f ≡ e ++ words_text call.words → g ≡ f ++ taken_text call.taken → h ≡ g ++ looks_text call.looks → i ≡ h ++ claim_text call.claim →
    i ++ release_text call.release ≡ before ++ call_text call
unfolding call_text
call_added before a b c d e f g h i call e1 e2 e3 e4 e5 e6 e7 e8 e9 = rw (e9, e8, e7, e6, e5, e4, e3, e2, e1) (simp append_assoc)
