use Rattle.std.proofs.Common.{◌≡◌, ◌+◌, length, false, true, arith, replicate, sym, ap, ◌∙◌, inl}
use Rattle.std.specs.List.{list_any}
use Rattle.om_model.specs.Scripts.Outcomes.{is_fault}
use Rattle.omalloc.specs.declared.command.Command.{Command}
use Rattle.omalloc.specs.declared.command.Command.TheVariants.{Malloc}
use Rattle.omalloc.proofs.ScriptRun.{IsPart-at, IsPart-next, IsPart-stop, IsPart-over, IsPart-end, IsPart-pushed, IsEnded-pushed, IsPart-script, fault_more, faulted_last, length_more, rules_by_head}
use Rattle.omalloc.proofs.run.run_script.Goals as goal

pub loop-i-init : goal.loop-i-init
loop-i-init g c =
    let values : c.in_ok-values.values.items ≡ replicate (length c.args.script.now.names) 0 =
    c.in_ok-values.ensures.items_if_clones_equal (λ y h. h) ∙ ap (λ n. replicate n 0) c.variables.ensures in
    record {
      items = c.commands-command-items.ensures;
      rules = c.in_ok-pool.ensures.rules ∙ rules_by_head c.head.inside.opts c.head.inside.zones c.head.inside.plan c.head.inside.warned.items c.args.head.now c.in_ok-words.words c.head.view_is c.in_ok-words.ensures;
      variables = c.in_ok-values.ensures.len ∙ c.variables.ensures;
      outcomes = ap length c.new-transcript.ensures;
      entries = omega (arith, ap length c.in_ok-pool.ensures.entries);
      moves = c.in_ok-pool.ensures.moves;
      fine = ap (list_any is_fault) c.new-transcript.ensures;
      part = IsPart-script _ _ _ _ _ _ c.commands-command-items.ensures values c.in_ok-pool.ensures.entries c.new-transcript.ensures;
    }

pub returns-then-is_fault : goal.returns-then-is_fault
returns-then-is_fault g c =
    let d : Command = Malloc 0 0 0 in
    let i = c.loop-i.i in
    let commands = c.commands-command-items.result.now in
    let outcomes = c.loop-i.transcript in
    let o = c.in_ok-outcome.outcome in
    let fault : is_fault o ≡ true = sym c.if-is_fault.ensures in
    let at = IsPart-at _ (i + 1) i c.loop-i.values.items commands d c.loop-i.pool.journal.items outcomes c.loop-i-test.true c.loop-i.invariant.part in
    let stop = IsPart-stop _ (i + 1) _ _ c.loop-i.values.items c.run_command.new.values.items c.loop-i.pool.journal.items c.run_command.new.pool.journal.items o outcomes c.in_ok-outcome.ensures.ran fault at in
    let pushed = c.in_ok-push.ensures.ok in
    record {
      ran = record {
        rules = c.in_ok-outcome.ensures.rules ∙ c.loop-i.invariant.rules;
        script_run = IsPart-end _ _ _ _ (IsEnded-pushed c.args.script.now.commands _ _ pushed (faulted_last c.args.script.now.commands outcomes o fault)) (IsPart-pushed _ _ _ _ _ pushed stop);
        only = stop.only;
      };
      faulted = sym (ap (list_any is_fault) pushed ∙ fault_more outcomes o true c.loop-i.invariant.fine fault);
    }

pub loop-i-preserved : goal.loop-i-preserved
loop-i-preserved g c =
    let d : Command = Malloc 0 0 0 in
    let i = c.loop-i.i in
    let commands = c.commands-command-items.result.now in
    let outcomes = c.loop-i.transcript in
    let o = c.in_ok-outcome.outcome in
    let fine : is_fault o ≡ false = sym c.if-is_fault.ensures in
    let at = IsPart-at _ (i + 1) i c.loop-i.values.items commands d c.loop-i.pool.journal.items outcomes c.loop-i-test.true c.loop-i.invariant.part in
    let next = IsPart-next _ (i + 1) _ _ c.loop-i.values.items c.run_command.new.values.items c.loop-i.pool.journal.items c.run_command.new.pool.journal.items o outcomes c.in_ok-outcome.ensures.ran fine at in
    let pushed = c.in_ok-push.ensures.ok in
    record {
      items = c.loop-i.invariant.items;
      rules = c.in_ok-outcome.ensures.rules ∙ c.loop-i.invariant.rules;
      variables = c.in_ok-outcome.ensures.variables ∙ c.loop-i.invariant.variables;
      outcomes = ap length pushed ∙ length_more outcomes o ∙ ap (λ n. n + 1) c.loop-i.invariant.outcomes;
      entries = omega (arith, c.in_ok-outcome.ensures.entries, c.loop-i.invariant.entries);
      moves = c.in_ok-outcome.ensures.moves;
      fine = ap (list_any is_fault) pushed ∙ fault_more outcomes o false c.loop-i.invariant.fine fine;
      part = IsPart-pushed _ _ _ _ _ pushed next;
    }

pub returns : goal.returns
returns g c =
    let commands = c.commands-command-items.result.now in
    let over = IsPart-over _ (c.loop-i.i + 1) c.loop-i.i c.loop-i.values.items commands c.loop-i.pool.journal.items c.loop-i.transcript c.loop-i-test.false c.loop-i.invariant.part in
    record {
      ran = record {
        rules = c.loop-i.invariant.rules;
        script_run = IsPart-end _ _ _ _ (inl (omega (arith, c.loop-i.invariant.outcomes, c.loop-i-test.false, c.loop-i.auto.i-end, ap length c.commands-command-items.ensures))) over;
        only = over.only;
      };
      faulted = sym c.loop-i.invariant.fine;
    }
