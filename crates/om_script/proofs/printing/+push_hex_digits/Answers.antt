use Rattle.std.proofs.Common.{arith, append_assoc}
use Rattle.std.proofs.lemmas.Grind.{common_steps}
use Rattle.std.proofs.lemmas.Fmt.{hex_one_digit}
use Rattle.om_script.proofs.HexDigits.{hex_digits_step}
use Rattle.om_script.proofs.printing.+push_hex_digits.Goals as goal
use Rattle.om_script.proofs.printing.+push_hex_digits.Goals.{then-number-ge16+in_ok-push_hex_digits, else-number-ge16}

pub returns : goal.returns
returns t c = elim c.if-number-ge16.branch [
  | then-number-ge16+in_ok-push_hex_digits w ↦ grind (arith, common_steps, append_assoc, hex_digits_step)
  | else-number-ge16 w ↦ grind (arith, common_steps, hex_one_digit)
]
