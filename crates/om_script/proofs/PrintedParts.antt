-- What is printed grows word by word, line by line and script by script.
use Rattle.std.proofs.Common.{◌≡◌, refl, sym, ap, ◌∙◌, List, [], ◌∷◌, ◌++◌, ℕ, ◌+◌, ◌<◌, ◌≤◌, length, take, take_all, map, append_assoc, append-nil, codes, get_or}
use Rattle.std.specs.List.{flat_map, join_with_byte}
use Rattle.std.proofs.lemmas.List.{map-append, take_more}
use Rattle.std.proofs.lemmas.Grind.{flat_map-append}
use Rattle.om_script.specs.declared.command.Command.{Command}
use Rattle.om_script.specs.Script.{ScriptText}
use Rattle.om_script.specs.Canonical.{words_for, line_text, script_text}

-- one word more, behind a space
join_more : (first : List ℕ) (words : List (List ℕ)) (word : List ℕ) → join_with_byte 32 (first ∷ (words ++ word ∷ [])) ≡ join_with_byte 32 (first ∷ words) ++ 32 ∷ word
join_more first [] word = refl
join_more first (next ∷ words) word =
    ap (λ bs. first ++ 32 ∷ bs) (join_more next words word) ∙ sym (append_assoc first (32 ∷ join_with_byte 32 (next ∷ words)) (32 ∷ word))

pub words_step : {X : Type 0} (f : X → List ℕ) (xs : List X) (i : ℕ) (d : X) (old key out spaced made : List ℕ) → spaced ≡ out ++ 32 ∷ [] → made ≡ spaced ++ f (get_or xs i d) → i < length xs →
    out ≡ old ++ join_with_byte 32 (key ∷ map f (take i xs)) → made ≡ old ++ join_with_byte 32 (key ∷ map f (take (i + 1) xs))
words_step f xs i d old key out spaced made space word l e =
    let x = get_or xs i d in
    word ∙ ap (λ bs. bs ++ f x) space
    ∙ append_assoc out (32 ∷ []) (f x)
    ∙ ap (λ bs. bs ++ 32 ∷ f x) e
    ∙ append_assoc old (join_with_byte 32 (key ∷ map f (take i xs))) (32 ∷ f x)
    ∙ ap (λ bs. old ++ bs) (sym (join_more key (map f (take i xs)) (f x)))
    ∙ ap (λ ws. old ++ join_with_byte 32 (key ∷ ws)) (sym (ap (map f) (take_more xs i d l) ∙ map-append f (take i xs) (x ∷ [])))

flat_map-map : {X Y : Type 0} (f : Y → List ℕ) (g : X → Y) (xs : List X) → flat_map f (map g xs) ≡ flat_map (λ x. f (g x)) xs
flat_map-map f g [] = refl
flat_map-map f g (x ∷ xs) = ap (λ bs. f (g x) ++ bs) (flat_map-map f g xs)

abbrev pub title_text : ScriptText → List ℕ
title_text s = line_text (codes "script" ∷ s.name ∷ [])

abbrev pub command_text : List (List ℕ) → Command → List ℕ
command_text names c = line_text (words_for names c)

-- a script's text is its first line, its commands, and its last line
pub script_split : (s : ScriptText) → (title_text s ++ flat_map (command_text s.names) s.commands) ++ line_text (codes "end" ∷ []) ≡ script_text s
script_split s =
    append_assoc (title_text s) (flat_map (command_text s.names) s.commands) (line_text (codes "end" ∷ []))
    ∙ ap (λ bs. title_text s ++ bs)
    (ap (λ bs. bs ++ line_text (codes "end" ∷ [])) (sym (flat_map-map line_text (words_for s.names) s.commands))
    ∙ ap (λ bs. flat_map line_text (map (words_for s.names) s.commands) ++ bs) (sym (append-nil (line_text (codes "end" ∷ []))))
    ∙ sym (flat_map-append line_text (map (words_for s.names) s.commands) ((codes "end" ∷ []) ∷ [])))

-- the last line behind all commands
pub script_ends : (s : ScriptText) (old out : List ℕ) (i : ℕ) → out ≡ (old ++ title_text s) ++ flat_map (command_text s.names) (take i s.commands) → length s.commands ≤ i →
    out ++ line_text (codes "end" ∷ []) ≡ old ++ script_text s
script_ends s old out i e l =
    ap (λ bs. bs ++ line_text (codes "end" ∷ [])) (e ∙ ap (λ cs. (old ++ title_text s) ++ flat_map (command_text s.names) cs) (take_all i s.commands l))
    ∙ ap (λ bs. bs ++ line_text (codes "end" ∷ [])) (append_assoc old (title_text s) (flat_map (command_text s.names) s.commands))
    ∙ append_assoc old (title_text s ++ flat_map (command_text s.names) s.commands) (line_text (codes "end" ∷ []))
    ∙ ap (λ bs. old ++ bs) (script_split s)
