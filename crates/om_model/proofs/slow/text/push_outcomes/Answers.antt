use Rattle.std.proofs.Common.{◌+◌, ◌∙◌, ◌++◌, length, refl, ap, arith}
use Rattle.std.specs.List.{flat_map, enumerate_from}
use Rattle.std.proofs.lemmas.Option.{slice_get-get_or}
use Rattle.om_model.specs.declared.reply.Outcome.TheVariants.{Block}
use Rattle.om_model.specs.Output.Text.{numbered_line}
use Rattle.om_model.proofs.Lists.{take_enumerated}
use Rattle.om_model.proofs.PlainText.{text_next, numbered_at}
use Rattle.om_model.proofs.slow.text.push_outcomes.Goals as goal

pub loop-i-preserved : goal.loop-i-preserved
loop-i-preserved c =
    let i = c.loop-i.i in
    let found = slice_get-get_or c.args.outcomes.now i (Block 0) (omega (arith, ap length c.as_slice-outcome-items.ensures.items)) in
    text_next numbered_line c.args.out.now.items c.loop-i.out.items c.push_outcome_line.new.out.items (enumerate_from 1 c.args.outcomes.now) i _
    (numbered_at 1 c.args.outcomes.now i (i + 1) _ found refl) c.loop-i.invariant (rw c.as_slice-outcome-items.ensures.items at c.in_ok-push_outcome_line.ensures)

pub returns : goal.returns
returns c =
    c.loop-i.invariant
    ∙ ap (λ numbered. c.args.out.now.items ++ flat_map numbered_line numbered) (take_enumerated 1 c.args.outcomes.now c.loop-i.i (omega (arith, ap length c.as_slice-outcome-items.ensures.items)))
