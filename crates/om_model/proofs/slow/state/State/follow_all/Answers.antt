use Rattle.std.proofs.Common.{Some, length, take, refl, sym, ap, subst, ◌∙◌, arith}
use Rattle.std.proofs.lemmas.List.{length-take-le}
use Rattle.std.proofs.lemmas.Option.{slice_get-get_or}
use Rattle.om_model.specs.Output.Head.{rules_of}
use Rattle.om_model.specs.Pool.State.{State}
use Rattle.om_model.specs.Pool.Journal.{after, state_from, IsLawfulEntry, IsLawfulFrom}
use Rattle.om_model.proofs.Journals.{state_from-push, IsLawfulFrom-push}
use Rattle.om_model.proofs.Lists.{take_next}
use Rattle.om_model.proofs.PlainJournals.{lawful-at}
use Rattle.om_model.proofs.Steps.{from-drawn}
use Rattle.om_model.proofs.slow.state.State.follow_all.Goals as goal

pub follow-requires-clause-few : goal.follow-requires-clause-few
follow-requires-clause-few c =
    let drawn = ap (λ (s : State). s.drawn) c.loop-entry.invariant.next in
    let few = from-drawn (rules_of c.args.head.now c.args.pool) c.args.self.now (take c.loop-entry.entry-index c.args.journal.now.items) in
    let many = length-take-le c.loop-entry.entry-index c.args.journal.now.items (omega (arith, ap length c.as_slice-entry-items.ensures.items)) in
    omega arith

pub returns-in-None-clause-lawful : goal.returns-in-None-clause-lawful
returns-in-None-clause-lawful c =
    let rules = rules_of c.args.head.now c.args.pool in
    let i = c.loop-entry.entry-index in
    let entry = c.entry-item.result in
    let found = slice_get-get_or c.as_slice-entry-items.result.now i entry c.loop-entry-test.true ∙ ap Some (sym c.entry-item.is) in (
      (λ e. cc),
      (λ lawful.
          let there = lawful-at rules c.args.self.now c.args.journal.now.items i entry (rw c.as_slice-entry-items.ensures.items at found) lawful in
          rw c.in-None.is at c.in_ok-next.ensures.lawful.1 (subst (λ s. IsLawfulEntry rules s entry) (sym c.loop-entry.invariant.next) there)),
    )

pub loop-entry-preserved : goal.loop-entry-preserved
loop-entry-preserved c =
    let rules = rules_of c.args.head.now c.args.pool in
    let old = c.args.self.now in
    let items = c.args.journal.now.items in
    let i = c.loop-entry.entry-index in
    let entry = c.entry-item.result in
    let found = slice_get-get_or c.as_slice-entry-items.result.now i entry c.loop-entry-test.true ∙ ap Some (sym c.entry-item.is) in
    let more = take_next items i entry (rw c.as_slice-entry-items.ensures.items at found) in
    let here = subst (λ s. IsLawfulEntry rules s entry) c.loop-entry.invariant.next (c.in_ok-next.ensures.lawful.0 (rw c.in-Some.is refl)) in
    record {
      lawful = subst (IsLawfulFrom rules old) (sym more) (IsLawfulFrom-push rules old (take i items) entry c.loop-entry.invariant.lawful here);
      next = (rw c.in-Some.is at c.in_ok-next.ensures.next) ∙ ap (λ s. after rules s entry) c.loop-entry.invariant.next ∙ sym (state_from-push rules old (take i items) entry) ∙ ap (state_from rules old) (sym more);
    }
