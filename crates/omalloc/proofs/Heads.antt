-- What holds of the head of accepted arguments, by the definition of the arguments alone.
use Rattle.std.proofs.Common.{◌≡◌, refl, subst, sym, ap, Bool, true, false, cond, ◌==◌, nat_le, List, [], ◌∷◌, ℕ, ◌<◌, ◌≤◌, length, arith, Option, Some, None, bytes_eq, codes}
use Rattle.std.specs.List.{slice_split}
use Rattle.std.specs.Option.{option_map, option_and_then}
use Rattle.std.proofs.lemmas.Bool.{leb-true}
use Rattle.std.proofs.lemmas.Option.{same_Some}
use Rattle.std.proofs.lemmas.List.Splits.{length-slice_split}
use Rattle.om_geom.specs.Numbers.{most_zones}
use Rattle.om_opts.specs.Letters.{opt_of}
use Rattle.om_words.specs.PlannedWords.{HasWords}
use Rattle.om_words.specs.declared.plan.WordPlan.{WordPlan}
use Rattle.om_words.specs.declared.plan.WordPlan.TheVariants.{Listed, Seeded}
use Rattle.om_model.specs.Output.Head.{Head}
use Rattle.omalloc.specs.AcceptedInput.{number_to}
use Rattle.omalloc.specs.Arguments.{RunArguments, most_digits, short_number_to, numbers_of, plan_from, greatest_word, greatest_seed, zones_of, with_zones, zones_from, with_letters, is_value, options_from, run_arguments_of, is_built, head_of, head_of_arguments}
use Rattle.omalloc.specs.Heads.{IsHead}
use Rattle.omalloc.proofs.AcceptedInput.{number_small}

-- as many numbers as parts
numbers_long : (parts : List (List ℕ)) (numbers : List ℕ) → numbers_of parts ≡ Some numbers → length numbers ≡ length parts
numbers_long [] numbers e = ap length (sym (same_Some _ _ e))
numbers_long (part ∷ parts) numbers e = by (short_number_to greatest_word part) (numbers_of parts) (numbers_long parts) e
  where
    by : (first : Option ℕ) (rest : Option (List ℕ)) → ((ns : List ℕ) → rest ≡ Some ns → length ns ≡ length parts) →
        option_and_then (λ number. option_map (λ ns. number ∷ ns) rest) first ≡ Some numbers → length numbers ≡ length (part ∷ parts)
    by (Some number) (Some ns) long e = let same : number ∷ ns ≡ numbers = same_Some _ _ e in omega (arith, ap length same, long ns refl)
    by (Some number) None long e = cc
    by None rest long e = cc

seeded_has : (seed : Option ℕ) (plan : WordPlan) → option_map Seeded seed ≡ Some plan → HasWords plan
seeded_has (Some seed) plan e = subst HasWords (same_Some _ _ e) tt
seeded_has None plan e = cc

listed_has : (numbers : Option (List ℕ)) (plan : WordPlan) → ((ns : List ℕ) → numbers ≡ Some ns → 0 < length ns) → option_map Listed numbers ≡ Some plan → HasWords plan
listed_has (Some ns) plan some e = subst HasWords (same_Some _ _ e) (some ns refl)
listed_has None plan some e = cc

value_has : (value ns : List ℕ) → numbers_of (slice_split (λ b. b == 44) value) ≡ Some ns → 0 < length ns
value_has value ns e = omega (arith, numbers_long (slice_split (λ b. b == 44) value) ns e, length-slice_split (λ b. b == 44) value)

option_has : (seed list : Bool) (value : List ℕ) (plan : WordPlan) →
    cond seed (option_map Seeded (short_number_to greatest_seed value)) (cond list (option_map Listed (numbers_of (slice_split (λ b. b == 44) value))) None) ≡ Some plan → HasWords plan
option_has true list value plan e = seeded_has (short_number_to greatest_seed value) plan e
option_has false true value plan e = listed_has (numbers_of (slice_split (λ b. b == 44) value)) plan (value_has value) e
option_has false false value plan e = cc

plan_has : (arguments : List (List ℕ)) (plan : WordPlan) → plan_from arguments ≡ Some plan → HasWords plan
plan_has [] plan e = subst HasWords (same_Some _ _ e) tt
plan_has (option ∷ []) plan e = cc
plan_has (option ∷ value ∷ []) plan e = option_has (bytes_eq option (codes "-s")) (bytes_eq option (codes "-w")) value plan e
plan_has (option ∷ value ∷ more ∷ arguments) plan e = cc

-- the zones and the plan are those of a head
abbrev IsArena : ℕ × WordPlan → Type 0
IsArena said = (1 ≤ said.0) × (said.0 ≤ most_zones) × HasWords said.1

zones_fit : (value : List ℕ) (zones : ℕ) → zones_of value ≡ Some zones → (1 ≤ zones) × (zones ≤ most_zones)
zones_fit value zones e = by (nat_le (length value) most_digits) (number_to most_zones value) (λ n. number_small most_zones value n) e
  where
    above : (n : ℕ) → n ≤ most_zones → (some : Bool) → some ≡ nat_le 1 n → cond some (Some n) None ≡ Some zones → (1 ≤ zones) × (zones ≤ most_zones)
    above n small true some e = subst (λ z. (1 ≤ z) × (z ≤ most_zones)) (same_Some _ _ e) (leb-true 1 n (sym some), small)
    above n small false some e = cc

    found : (number : Option ℕ) → ((n : ℕ) → number ≡ Some n → n ≤ most_zones) →
        option_and_then (λ n. cond (nat_le 1 n) (Some n) None) number ≡ Some zones → (1 ≤ zones) × (zones ≤ most_zones)
    found (Some n) small e = above n (small n refl) (nat_le 1 n) refl e
    found None small e = cc

    by : (short : Bool) (number : Option ℕ) → ((n : ℕ) → number ≡ Some n → n ≤ most_zones) →
        option_and_then (λ n. cond (nat_le 1 n) (Some n) None) (cond short number None) ≡ Some zones → (1 ≤ zones) × (zones ≤ most_zones)
    by true number small e = found number small e
    by false number small e = cc

planned : (zones : ℕ) (arguments : List (List ℕ)) (said : ℕ × WordPlan) → 1 ≤ zones → zones ≤ most_zones → with_zones zones arguments ≡ Some said → IsArena said
planned zones arguments said some few e = by (plan_from arguments) (plan_has arguments) e
  where
    by : (plan : Option WordPlan) → ((p : WordPlan) → plan ≡ Some p → HasWords p) → option_map (λ p. (zones, p)) plan ≡ Some said → IsArena said
    by (Some plan) has e = subst IsArena (same_Some _ _ e) (some, few, has plan refl)
    by None has e = cc

all_zones : (arguments : List (List ℕ)) (said : ℕ × WordPlan) → with_zones most_zones arguments ≡ Some said → IsArena said
all_zones arguments said e = planned most_zones arguments said (omega arith) (omega arith) e

zones_have : (arguments : List (List ℕ)) (said : ℕ × WordPlan) → zones_from arguments ≡ Some said → IsArena said
zones_have [] said e = all_zones [] said e
zones_have (option ∷ []) said e = all_zones (option ∷ []) said e
zones_have (option ∷ value ∷ arguments) said e = by (bytes_eq option (codes "-z")) (zones_of value) (zones_fit value) e
  where
    by : (is_zones : Bool) (zones : Option ℕ) → ((z : ℕ) → zones ≡ Some z → (1 ≤ z) × (z ≤ most_zones)) →
        cond is_zones (option_and_then (λ z. with_zones z arguments) zones) (with_zones most_zones (option ∷ value ∷ arguments)) ≡ Some said → IsArena said
    by true (Some zones) fit e = let here = fit zones refl in planned zones arguments said here.0 here.1 e
    by true None fit e = cc
    by false zones fit e = all_zones (option ∷ value ∷ arguments) said e

-- what the arguments after `run` say of the zones and the plan
abbrev IsSaid : RunArguments → Type 0
IsSaid run = IsArena (run.zones, run.plan)

letters_have : (letters : List ℕ) (arguments : List (List ℕ)) (run : RunArguments) → with_letters letters arguments ≡ Some run → IsSaid run
letters_have letters arguments run e = by (zones_from arguments) (zones_have arguments) e
  where
    by : (said : Option (ℕ × WordPlan)) → ((s : ℕ × WordPlan) → said ≡ Some s → IsArena s) →
        option_map (λ s. record { letters = letters; zones = s.0; plan = s.1 }) said ≡ Some run → IsSaid run
    by (Some said) has e = subst IsSaid (same_Some _ _ e) (has said refl)
    by None has e = cc

options_have : (is_letters value_is : Bool) (value : List ℕ) (arguments all : List (List ℕ)) (run : RunArguments) →
    cond is_letters (cond value_is (with_letters value arguments) None) (with_letters [] all) ≡ Some run → IsSaid run
options_have true true value arguments all run e = letters_have value arguments run e
options_have true false value arguments all run e = cc
options_have false value_is value arguments all run e = letters_have [] all run e

arguments_have : (arguments : List (List ℕ)) (run : RunArguments) → options_from arguments ≡ Some run → IsSaid run
arguments_have [] run e = letters_have [] [] run e
arguments_have (option ∷ []) run e = letters_have [] (option ∷ []) run e
arguments_have (option ∷ value ∷ arguments) run e = options_have (bytes_eq option (codes "-o")) (is_value value) value arguments (option ∷ value ∷ arguments) run e

run_has : (arguments : List (List ℕ)) (run : RunArguments) → run_arguments_of arguments ≡ Some run → IsSaid run
run_has [] run e = cc
run_has (command ∷ arguments) run e = by (bytes_eq command (codes "run")) e
  where
    by : (is_run : Bool) → cond is_run (options_from arguments) None ≡ Some run → IsSaid run
    by true e = arguments_have arguments run e
    by false e = cc

head_has : (run : RunArguments) (built : Bool) (head : Head) → IsSaid run → cond built (Some (head_of run)) None ≡ Some head → IsHead head
head_has run true head has e = subst IsHead (same_Some _ _ e) (record { some_zone = has.0; few_zones = has.1; pools = refl; words = has.2 })
head_has run false head has e = cc

-- the head of accepted arguments has its form
pub accepted_is_head : (arguments : List (List ℕ)) (head : Head) → head_of_arguments arguments ≡ Some head → IsHead head
accepted_is_head arguments head e = by (run_arguments_of arguments) (run_has arguments) e
  where
    by : (run : Option RunArguments) → ((r : RunArguments) → run ≡ Some r → IsSaid r) →
        option_and_then (λ r. cond (is_built (opt_of r.letters)) (Some (head_of r)) None) run ≡ Some head → IsHead head
    by (Some run) has e = head_has run (is_built (opt_of run.letters)) head (has run refl) e
    by None has e = cc
