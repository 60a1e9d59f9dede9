-- Refusals: the number and the name of each, and the one line that is written where the arguments or the text
-- are refused.
use Rattle.std.specs.Prelude.{ℕ, List, ◌++◌, codes}
use Rattle.std.specs.Fmt.{decimal}
use Rattle.om_model.specs.Output.Text.{ended_line}
use Rattle.omalloc.specs.declared.refusal.ArgumentRefusal.{ArgumentRefusal}
use Rattle.omalloc.specs.declared.refusal.ArgumentRefusal.TheVariants as argument
use Rattle.omalloc.specs.declared.refusal.LineRefusal.{LineRefusal}
use Rattle.omalloc.specs.declared.refusal.LineRefusal.TheVariants as line
use Rattle.omalloc.specs.declared.refusal.Refusal.{Refusal}
use Rattle.omalloc.specs.declared.refusal.Refusal.TheVariants.{Argument, Line, TooLong}

abbrev pub argument_number : ArgumentRefusal → ℕ
argument_number argument.NotBuilt = 9

abbrev pub argument_name : ArgumentRefusal → List ℕ
argument_name argument.NotBuilt = codes "NotBuilt"

abbrev pub line_number : LineRefusal → ℕ
line_number line.NotBuilt = 11

abbrev pub line_name : LineRefusal → List ℕ
line_name line.NotBuilt = codes "NotBuilt"

abbrev pub refusal_text : Refusal → List ℕ
refusal_text (Argument why at) =
    codes "refused words " ++ decimal (argument_number why) ++ codes " " ++ argument_name why ++ codes " at " ++ decimal at
refusal_text (Line at why) =
    codes "refused line " ++ decimal at ++ codes " " ++ decimal (line_number why) ++ codes " " ++ line_name why
refusal_text TooLong = codes "refused toolong"

-- it is written as a line
abbrev pub refusal_line : Refusal → List ℕ
refusal_line refusal = ended_line (refusal_text refusal)
