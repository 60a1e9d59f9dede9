use Rattle.std.proofs.Common.{None, refl, sym, subst, ap, ◌∙◌}
use Rattle.om_model.specs.Pool.State.{State}
use Rattle.om_model.specs.Pool.Steps.{Step, unchanged}
use Rattle.om_model.specs.declared.operation.Op.TheVariants.{Free}
use Rattle.om_pool.specs.CoreKept.{core_state}
use Rattle.om_pool.specs.HoldingsView.{rules_in, tables_in}
use Rattle.om_pool.specs.Tables.{Tables, StandFor}
use Rattle.om_pool.specs.declared.pool_core.Core.{Core}
use Rattle.om_pool.proofs.CoreLaws.{kept, left_after, taken}
use Rattle.om_pool.proofs.UnaskedLaws.{unasked-does}
use Rattle.om_pool.proofs.pool_core.Core.answer.Goals as goal

pub returns : goal.returns
returns c =
    let old = c.args.self.now in
    let new = c.enter_free.new.self in
    let same = c.enter_free.ensures.same in
    let state = core_state old in
    let Stands : Tables → Type 0 = λ t. StandFor (rules_in old.state) t state in
    let does = unasked-does old new c.args.who (Free c.args.address) c.args.reply _ (unchanged state c.args.reply) c.empty.result None c.requires.kept
    (record {
      wish = refl;
      whole_is = refl;
      step_is = c.requires.is;
      gives_up = record { run_is = refl; inside = tt };
      words_are = c.empty.ensures;
      tables = subst Stands (sym (ap (λ (x : Core). tables_in x.state) same)) c.requires.kept.tables;
      drawn = ap (λ (x : Core). x.state.words.place) same ∙ c.requires.kept.drawn;
      rules = ap (λ (x : Core). rules_in x.state) same;
      canary = ap (λ (x : Core). x.canary) same;
      room = ap (λ (x : Core). x.room) same;
    })
    refl c.enter_free.ensures.added in
    record {
      kept = kept old new _ _ _ _ _ _ _ c.requires.kept does;
      taken = taken old new _ _ _ _ _ _ _ c.requires.kept does;
      reply = refl;
      quiet = record {
        rules = does.rules;
        held = ap (λ (s : State). s.held) (left_after old new _ _ _ _ _ _ _ c.requires.kept does) ∙ ap (λ (s : Step). (s.next).held) c.requires.is;
        words = c.empty.result;
        added = c.enter_free.ensures.added;
      };
    }
