use Rattle.std.proofs.Common.{None, refl, sym, subst, ap, ◌∙◌}
use Rattle.om_model.specs.Pool.State.{State}
use Rattle.om_pool.specs.CoreKept.{core_state}
use Rattle.om_pool.specs.HoldingsView.{rules_in, tables_in}
use Rattle.om_pool.specs.Malloc.{refusal}
use Rattle.om_pool.specs.Tables.{Tables, StandFor}
use Rattle.om_pool.specs.declared.pool_core.Core.{Core}
use Rattle.om_pool.proofs.CoreLaws.{kept, left_after, taken}
use Rattle.om_pool.proofs.UnaskedLaws.{unasked-does}
use Rattle.om_pool.proofs.pool_core.Core.refuse.Goals as goal

pub returns : goal.returns
returns c =
    let old = c.args.self.now in
    let new = c.enter_unasked.new.self in
    let is = c.requires.kept in
    let same = c.enter_unasked.ensures.same in
    let answer = c.null_or_fault-reply.result in
    let Stands : Tables → Type 0 = λ t. StandFor (rules_in old.state) t (core_state old) in
    let step = refusal old c.args.why in
    let does = unasked-does old new c.args.who c.args.op answer step step c.empty.result None is
    (record {
      wish = c.requires.refused.wish;
      whole_is = c.requires.refused.step;
      step_is = refl;
      gives_up = record { run_is = refl; inside = tt };
      words_are = c.empty.ensures;
      tables = subst Stands (sym (ap (λ (x : Core). tables_in x.state) same)) is.tables;
      drawn = ap (λ (x : Core). x.state.words.place) same ∙ is.drawn;
      rules = ap (λ (x : Core). rules_in x.state) same;
      canary = ap (λ (x : Core). x.canary) same;
      room = ap (λ (x : Core). x.room) same;
    })
    c.null_or_fault-reply.ensures c.enter_unasked.ensures.added in
    record {
      kept = kept old new _ _ _ _ _ _ _ is does;
      reply = c.null_or_fault-reply.ensures;
      quiet = record {
        rules = does.rules;
        held = ap (λ (s : State). s.held) (left_after old new _ _ _ _ _ _ _ is does);
        words = c.empty.result;
        added = c.enter_unasked.ensures.added;
      };
      taken = taken old new _ _ _ _ _ _ _ is does;
    }
