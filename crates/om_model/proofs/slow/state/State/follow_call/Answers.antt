use Rattle.std.proofs.Common.{◌≡◌, true, Some, ap, sym, subst, ◌∙◌, rules}
use Rattle.om_model.specs.Data.CallEntry.{CallEntry}
use Rattle.om_model.specs.Output.Head.{rules_of}
use Rattle.om_model.specs.Pool.Journal.{wish_of, step_of, answers_of, next_of}
use Rattle.om_model.specs.Pool.Steps.{Step}
use Rattle.om_model.specs.Slow.{wish_in, IsSmallClaim}
use Rattle.om_model.proofs.PlainJournals.{small-claim, told, step-told, agrees-of, lawful-of}
use Rattle.om_model.proofs.PlainResizing.{AsksSmall, wish-small}
use Rattle.om_model.proofs.slow.state.State.follow_call.Goals as goal

pub step-requires-clause-claim : goal.step-requires-clause-claim
step-requires-clause-claim c =
    let pool_rules = rules_of c.args.head.now c.args.pool in
    let state = c.args.self.now in
    let few = c.requires.few_zones in
    let may_is : c.in_ok-may.may ≡ true = search rules in
    let asks = subst AsksSmall (sym c.in_ok-wish.ensures) (wish-small pool_rules state c.entry.inside.op few) in
    subst IsSmallClaim (sym (ap (λ (e : CallEntry). e.claim) c.entry.view_is))
    (small-claim pool_rules state c.in_ok-wish.wish (answers_of c.args.entry.now) few asks (c.in_ok-may.ensures.0 may_is))

pub returns-then-is-clause-lawful : goal.returns-then-is-clause-lawful
returns-then-is-clause-lawful c =
    let pool_rules = rules_of c.args.head.now c.args.pool in
    let state = c.args.self.now in
    let may_is : c.in_ok-may.may ≡ true = search rules in
    let asks = c.in_ok-wish.ensures ∙ ap (λ (e : CallEntry). wish_of pool_rules state e.op) c.entry.view_is in
    let does = sym c.in-Some.is ∙ c.in_ok-step.ensures ∙ ap (λ (e : CallEntry). step_of pool_rules state e.op (told (answers_of e))) c.entry.view_is in (
      (λ is. lawful-of pool_rules state c.args.entry.now (wish_in c.in_ok-wish.wish) (Some c.in-Some.step) asks does (c.in_ok-may.ensures.0 may_is) (c.in_ok-is.ensures.0 c.if-is.true)),
      (λ lawful. cc),
    )

pub returns-then-is-clause-next : goal.returns-then-is-clause-next
returns-then-is-clause-next c =
    let pool_rules = rules_of c.args.head.now c.args.pool in
    let state = c.args.self.now in
    let entry = c.args.entry.now in
    let does = sym c.in-Some.is ∙ c.in_ok-step.ensures ∙ ap (λ (e : CallEntry). step_of pool_rules state e.op (told (answers_of e))) c.entry.view_is in
    ap (λ (s : Step). s.next) c.step-2.view_is ∙ ap (next_of state) (does ∙ step-told pool_rules state entry.op (answers_of entry))

pub returns-else-is-clause-lawful : goal.returns-else-is-clause-lawful
returns-else-is-clause-lawful c =
    let pool_rules = rules_of c.args.head.now c.args.pool in
    let state = c.args.self.now in
    let does = sym c.in-Some.is ∙ c.in_ok-step.ensures ∙ ap (λ (e : CallEntry). step_of pool_rules state e.op (told (answers_of e))) c.entry.view_is in (
      (λ is. cc),
      (λ lawful. sym c.if-is.false ∙ c.in_ok-is.ensures.1 (agrees-of pool_rules state c.args.entry.now (Some c.in-Some.step) does lawful)),
    )
