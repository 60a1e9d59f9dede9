use Rattle.std.proofs.Common.{◌++◌, Some, length, take, refl, sym, ap, subst, ◌∙◌, arith}
use Rattle.std.proofs.lemmas.List.{length-take-le}
use Rattle.std.proofs.lemmas.Option.{slice_get-get_or}
use Rattle.om_model.specs.Output.Head.{rules_of}
use Rattle.om_model.specs.Pool.Journal.{after, state_of, IsLawfulEntry, IsLawfulFrom}
use Rattle.om_model.specs.Pool.State.{State, opening}
use Rattle.om_model.specs.Pool.Taken.{taken_in, taken_of}
use Rattle.om_model.proofs.Journals.{state_of-push, IsLawfulFrom-push, taken_of-push}
use Rattle.om_model.proofs.Lists.{take_next}
use Rattle.om_model.proofs.PlainJournals.{lawful-at}
use Rattle.om_model.proofs.Steps.{from-drawn}
use Rattle.om_model.proofs.slow.taken.taken_of.Goals as goal

pub push_taken-requires-clause-few : goal.push_taken-requires-clause-few
push_taken-requires-clause-few c =
    let pool_rules = rules_of c.args.head.now c.args.pool in
    let drawn = ap (λ (s : State). s.drawn) c.loop-entry.invariant.next in
    let few = from-drawn pool_rules (opening pool_rules) (take c.loop-entry.entry-index c.args.journal.now.items) in
    let many = length-take-le c.loop-entry.entry-index c.args.journal.now.items (omega (arith, ap length c.as_slice-entry-items.ensures.items)) in
    omega arith

pub follow-requires-clause-few : goal.follow-requires-clause-few
follow-requires-clause-few c =
    let pool_rules = rules_of c.args.head.now c.args.pool in
    let drawn = ap (λ (s : State). s.drawn) c.loop-entry.invariant.next in
    let few = from-drawn pool_rules (opening pool_rules) (take c.loop-entry.entry-index c.args.journal.now.items) in
    let many = length-take-le c.loop-entry.entry-index c.args.journal.now.items (omega (arith, ap length c.as_slice-entry-items.ensures.items)) in
    omega arith

pub returns-in-None-clause-lawful : goal.returns-in-None-clause-lawful
returns-in-None-clause-lawful c =
    let pool_rules = rules_of c.args.head.now c.args.pool in
    let i = c.loop-entry.entry-index in
    let entry = c.entry-item.result in
    let found = slice_get-get_or c.as_slice-entry-items.result.now i entry c.loop-entry-test.true ∙ ap Some (sym c.entry-item.is) in (
      (λ e. cc),
      (λ lawful.
          let there = lawful-at pool_rules (opening pool_rules) c.args.journal.now.items i entry (rw c.as_slice-entry-items.ensures.items at found) lawful in
          rw c.in-None.is at c.in_ok-next.ensures.lawful.1 (subst (λ s. IsLawfulEntry pool_rules s entry) (sym c.loop-entry.invariant.next) there)),
    )

pub loop-entry-preserved : goal.loop-entry-preserved
loop-entry-preserved c =
    let pool_rules = rules_of c.args.head.now c.args.pool in
    let first = opening pool_rules in
    let items = c.args.journal.now.items in
    let i = c.loop-entry.entry-index in
    let entry = c.entry-item.result in
    let found = slice_get-get_or c.as_slice-entry-items.result.now i entry c.loop-entry-test.true ∙ ap Some (sym c.entry-item.is) in
    let more = take_next items i entry (rw c.as_slice-entry-items.ensures.items at found) in
    let here = subst (λ s. IsLawfulEntry pool_rules s entry) c.loop-entry.invariant.next (c.in_ok-next.ensures.lawful.0 (rw c.in-Some.is refl)) in
    record {
      lawful = subst (IsLawfulFrom pool_rules first) (sym more) (IsLawfulFrom-push pool_rules first (take i items) entry c.loop-entry.invariant.lawful here);
      taken = c.in_ok-push_taken.ensures
          ∙ ap (λ taken. taken ++ taken_in pool_rules c.loop-entry.state entry) c.loop-entry.invariant.taken
          ∙ ap (λ (s : State). taken_of pool_rules (take i items) ++ taken_in pool_rules s entry) c.loop-entry.invariant.next
          ∙ sym (taken_of-push pool_rules (take i items) entry)
          ∙ ap (taken_of pool_rules) (sym more);
      next = (rw c.in-Some.is at c.in_ok-next.ensures.next) ∙ ap (λ s. after pool_rules s entry) c.loop-entry.invariant.next ∙ sym (state_of-push pool_rules (take i items) entry) ∙ ap (state_of pool_rules) (sym more);
    }
