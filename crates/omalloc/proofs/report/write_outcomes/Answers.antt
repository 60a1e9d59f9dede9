use Rattle.std.proofs.Common.{◌≡◌, ◌∙◌, ◌+◌, Some, Ok, sym, ap, subst, length, get_or, arith, rules}
use Rattle.std.specs.List.{slice_get, flat_map, enumerate_from}
use Rattle.std.proofs.lemmas.Option.{slice_get-get_or}
use Rattle.om_io.specs.Buffered.{Adds}
use Rattle.om_model.proofs.Lists.{slice_get-enumerate_from, take_enumerated}
use Rattle.om_model.specs.declared.reply.Outcome.TheVariants.{Block}
use Rattle.om_model.specs.Output.Text.{numbered_line}
use Rattle.omalloc.proofs.ReportText.{Adds-next, Adds-stopped}
use Rattle.omalloc.proofs.report.write_outcomes.Goals as goal

pub returns-in_err-write_outcome : goal.returns-in_err-write_outcome
returns-in_err-write_outcome g c =
    let outcomes = c.as_slice-outcome-items.result.now in
    let i = c.loop-i.i in
    let outcome = get_or outcomes i (Block 0) in
    let here : slice_get c.args.transcript.now i ≡ Some outcome = ap (λ os. slice_get os i) (sym c.as_slice-outcome-items.ensures.items) ∙ slice_get-get_or outcomes i (Block 0) (omega arith) in
    let t = Adds-stopped g.K.Sink.written g.K.Sink.faults c.args.out.now c.loop-i.out c.write_outcome.new.out numbered_line (enumerate_from 1 c.args.transcript.now) i (i + 1, outcome) _ (slice_get-enumerate_from 1 c.args.transcript.now i outcome here) c.loop-i.invariant c.in_err-write_outcome.ensures in
    search rules

pub loop-i-preserved : goal.loop-i-preserved
loop-i-preserved g c =
    let outcomes = c.as_slice-outcome-items.result.now in
    let i = c.loop-i.i in
    let here = ap (λ os. slice_get os i) (sym c.as_slice-outcome-items.ensures.items) ∙ slice_get-get_or outcomes i _ (omega arith) in
    Adds-next g.K.Sink.written g.K.Sink.faults c.args.out.now c.loop-i.out c.write_outcome.new.out numbered_line (enumerate_from 1 c.args.transcript.now) i _ (slice_get-enumerate_from 1 c.args.transcript.now i _ here) c.loop-i.invariant c.in_ok-write_outcome.ensures

pub returns : goal.returns
returns g c =
    let many = ap length c.as_slice-outcome-items.ensures.items in
    let all = take_enumerated 1 c.args.transcript.now c.loop-i.i (omega (arith, many)) in
    subst (λ numbered. Adds g.K.Sink.written g.K.Sink.faults c.args.out.now c.loop-i.out (flat_map numbered_line numbered) (Ok tt)) all c.loop-i.invariant
