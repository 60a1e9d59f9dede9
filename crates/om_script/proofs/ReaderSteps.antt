-- What becomes of a reading where a script begins.
use Rattle.std.proofs.Common.{◌≡◌, refl, ap, ◌∙◌, suc, Bool, true, false, cond, ◌||◌, List, [], ◌∷◌, ℕ, ◌<◌, length, map, arith, Option, Some, None, Ok, Err, leb, bytes_eq}
use Rattle.std.specs.List.{list_any}
use Rattle.std.specs.Option.{option_map_or}
use Rattle.std.proofs.lemmas.Bool.Decides.{nat_tests}
use Rattle.om_script.specs.declared.keyword.Keyword.TheVariants as keyword
use Rattle.om_script.specs.declared.reader.Current.{Current}
use Rattle.om_script.specs.Keywords.{word_at}
use Rattle.om_script.specs.Script.{ScriptText}
use Rattle.om_script.specs.Reading.{Reading}
use Rattle.om_script.specs.Standing.{most_scripts, too_many_scripts, double_name}
use Rattle.om_script.specs.Steps.{titles_with, begun_after, limited_step}

any-map : {X Y : Type 0} (p : Y → Bool) (f : X → Y) (xs : List X) → list_any p (map f xs) ≡ list_any (λ x. p (f x)) xs
any-map p f [] = refl
any-map p f (x ∷ xs) = ap (λ t. p (f x) || t) (any-map p f xs)

length-titles : (ss : List ScriptText) → length (map (λ s. s.name) ss) ≡ length ss
length-titles [] = refl
length-titles (s ∷ ss) = ap suc (length-titles ss)

small : (n : ℕ) → n < most_scripts → leb most_scripts n ≡ false
small n l = grind (arith, nat_tests)

-- by whether a script of that name has ended
begin_by : (r : Reading) (line : ℕ) (words : List (List ℕ)) (twice : Bool) → r.current ≡ None → length r.done < most_scripts →
    list_any (λ (s : ScriptText). bytes_eq s.name (word_at words 0)) r.done ≡ twice →
    limited_step r line keyword.Script words ≡ option_map_or Err (cond twice (Some double_name) None) (Ok (begun_after r line (word_at words 0)))
begin_by r line words twice out few e =
    let titles : List (List ℕ) = map (λ (s : ScriptText). s.name) r.done in
    let next : Reading = begun_after r line (word_at words 0) in
    let number = λ (ts : List (List ℕ)). cond (leb most_scripts (length ts)) (Some too_many_scripts) (cond (list_any (λ t. bytes_eq t (word_at words 0)) ts) (Some double_name) None) in
    let room : leb most_scripts (length titles) ≡ false = small (length titles) (omega (arith, few, length-titles r.done)) in
    ap (λ (c : Option Current). option_map_or Err (number (titles_with titles c)) (Ok next)) out
    ∙ ap (λ b. option_map_or Err (cond b (Some too_many_scripts) (cond (list_any (λ t. bytes_eq t (word_at words 0)) titles) (Some double_name) None)) (Ok next)) room
    ∙ ap (λ b. option_map_or Err (cond b (Some double_name) None) (Ok next)) (any-map (λ t. bytes_eq t (word_at words 0)) (λ (s : ScriptText). s.name) r.done ∙ e)

pub begin_double : (r : Reading) (line : ℕ) (words : List (List ℕ)) → r.current ≡ None → length r.done < most_scripts →
    list_any (λ (s : ScriptText). bytes_eq s.name (word_at words 0)) r.done ≡ true → limited_step r line keyword.Script words ≡ Err double_name
begin_double r line words out few e = begin_by r line words true out few e

pub begin_new : (r : Reading) (line : ℕ) (words : List (List ℕ)) → r.current ≡ None → length r.done < most_scripts →
    list_any (λ (s : ScriptText). bytes_eq s.name (word_at words 0)) r.done ≡ false → limited_step r line keyword.Script words ≡ Ok (begun_after r line (word_at words 0))
begin_new r line words out few e = begin_by r line words false out few e
