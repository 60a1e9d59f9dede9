-- The arguments of the command line: `run`, then perhaps `-o LETTERS`, then perhaps `-z ZONES`, then perhaps
-- `-s SEED` or `-w LIST`. LETTERS is any text that doesn't begin with `-`. ZONES is a number from 1 to 64, SEED one
-- up to 2^64 - 1, and LIST is one or more numbers up to 2^32 - 1 with single commas between them; a number is 1 to 20
-- decimal digits. Without letters the options are those of the start, without ZONES there are 64, and without a seed
-- or a list the seed is 0. Letters that leave an option on which isn't built yet are refused.
use Rattle.std.specs.Prelude.{ℕ, Bool, false, not, ◌||◌, ◌==◌, nat_le, List, [], ◌∷◌, length, slice_get, codes, bytes_eq, Option, Some, None, if◌then◌else◌}
use Rattle.std.specs.List.{slice_split}
use Rattle.std.specs.Option.{option_map, option_map_or, option_and_then}
use Rattle.om_geom.specs.Numbers.{most_zones}
use Rattle.om_opts.specs.Letters.{opt_of, warned_of}
use Rattle.om_opts.specs.declared.options.Opts.{Opts}
use Rattle.om_words.specs.declared.plan.WordPlan.{WordPlan}
use Rattle.om_words.specs.declared.plan.WordPlan.TheVariants.{Listed, Seeded}
use Rattle.om_model.specs.Output.Head.{Head}
use Rattle.omalloc.specs.AcceptedInput.{number_to}

-- the greatest word and the greatest seed
abbrev pub greatest_word : ℕ
greatest_word = 4294967295

abbrev pub greatest_seed : ℕ
greatest_seed = 18446744073709551615

-- the most digits of a number
abbrev pub most_digits : ℕ
most_digits = 20

-- what the arguments of a run say
pub record RunArguments : Type 0 where
  pub letters : List ℕ
  pub zones : ℕ
  pub plan : WordPlan

-- a number up to the greatest, of 1 to 20 digits
abbrev pub short_number_to : ℕ → List ℕ → Option ℕ
short_number_to greatest text = if nat_le (length text) most_digits then number_to greatest text else None

-- the numbers of a list, where each of its parts is one
abbrev pub numbers_of : List (List ℕ) → Option (List ℕ)
numbers_of [] = Some []
numbers_of (part ∷ parts) = option_and_then (λ number. option_map (λ numbers. number ∷ numbers) (numbers_of parts)) (short_number_to greatest_word part)

-- the words of a list with commas between them
abbrev pub listed_plan : List ℕ → Option WordPlan
listed_plan list = option_map Listed (numbers_of (slice_split (λ b. b == 44) list))

abbrev pub seeded_plan : List ℕ → Option WordPlan
seeded_plan seed = option_map Seeded (short_number_to greatest_seed seed)

-- the plan that an option and its value say
abbrev pub plan_of : List ℕ → List ℕ → Option WordPlan
plan_of option value =
    if bytes_eq option (codes "-s") then seeded_plan value
    else if bytes_eq option (codes "-w") then listed_plan value
    else None

-- the plan that the last arguments say
abbrev pub plan_from : List (List ℕ) → Option WordPlan
plan_from [] = Some (Seeded 0)
plan_from (option ∷ value ∷ []) = plan_of option value
plan_from other = None

-- the zones that the value of `-z` says
abbrev pub zones_of : List ℕ → Option ℕ
zones_of value = option_and_then (λ zones. if nat_le 1 zones then Some zones else None) (short_number_to most_zones value)

abbrev pub with_zones : ℕ → List (List ℕ) → Option (ℕ × WordPlan)
with_zones zones arguments = option_map (λ plan. (zones, plan)) (plan_from arguments)

-- the zones and the plan that the arguments after the letters say
abbrev pub zones_from : List (List ℕ) → Option (ℕ × WordPlan)
zones_from (option ∷ value ∷ arguments) =
    if bytes_eq option (codes "-z") then option_and_then (λ zones. with_zones zones arguments) (zones_of value)
    else with_zones most_zones (option ∷ value ∷ arguments)
zones_from arguments = with_zones most_zones arguments

abbrev pub with_letters : List ℕ → List (List ℕ) → Option RunArguments
with_letters letters arguments =
    option_map (λ said. record { letters = letters; zones = said.0; plan = said.1 }) (zones_from arguments)

-- the value of an option doesn't begin with `-`
abbrev pub is_value : List ℕ → Bool
is_value argument = not (option_map_or (λ b. b == 45) (slice_get argument 0) false)

-- what the arguments after `run` say
abbrev pub options_from : List (List ℕ) → Option RunArguments
options_from (option ∷ value ∷ arguments) =
    if bytes_eq option (codes "-o") then (if is_value value then with_letters value arguments else None)
    else with_letters [] (option ∷ value ∷ arguments)
options_from arguments = with_letters [] arguments

abbrev pub run_arguments_of : List (List ℕ) → Option RunArguments
run_arguments_of [] = None
run_arguments_of (command ∷ arguments) = if bytes_eq command (codes "run") then options_from arguments else None

-- what these options ask for is built
abbrev pub is_built : Opts → Bool
is_built o = not (o.xmalloc || o.dump)

-- the head of a run by such arguments: one pool is kept
abbrev pub head_of : RunArguments → Head
head_of run = record {
  options = record (opt_of run.letters) { pools = 1 };
  zones = run.zones;
  plan = run.plan;
  warned = warned_of run.letters;
}

-- the head of the run that the arguments ask for; none where they are refused
abbrev pub head_of_arguments : List (List ℕ) → Option Head
head_of_arguments arguments =
    option_and_then (λ run. if is_built (opt_of run.letters) then Some (head_of run) else None) (run_arguments_of arguments)
