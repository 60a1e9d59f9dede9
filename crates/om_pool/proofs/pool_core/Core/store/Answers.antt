use Rattle.std.proofs.Common.{None, refl, sym, subst, ap, ◌∙◌}
use Rattle.om_model.specs.Pool.Access.{store}
use Rattle.om_model.specs.Pool.State.{State}
use Rattle.om_model.specs.declared.operation.Op.TheVariants.{Store}
use Rattle.om_words.specs.DrawnWords.{WordSource}
use Rattle.om_pool.specs.CoreKept.{core_state}
use Rattle.om_pool.specs.HoldingsView.{rules_in, tables_in}
use Rattle.om_pool.specs.Tables.{Tables, StandFor}
use Rattle.om_pool.specs.declared.pool_core.Core.{Core}
use Rattle.om_pool.proofs.AccessLaws.{store-light}
use Rattle.om_pool.proofs.CoreLaws.{core-tied, kept, left_after, same-rules, taken}
use Rattle.om_pool.proofs.UnaskedLaws.{unasked-does}
use Rattle.om_pool.proofs.pool_core.Core.store.Goals as goal

pub store-reply-requires : goal.store-reply-requires
store-reply-requires c = core-tied c.args.self.now c.requires.kept

pub returns : goal.returns
returns c =
    let old = c.args.self.now in
    let new = c.enter_unasked.new.self in
    let same = c.enter_unasked.ensures.same in
    let rules = rules_in old.state in
    let state = core_state old in
    let own = c.store-reply.new.self in
    let step = store rules state c.args.address c.args.byte in
    let light = store-light rules (tables_in old.state) state c.requires.kept.tables c.args.address c.args.byte c.store-reply.result (tables_in c.store-reply.new.self) c.store-reply.ensures.reply c.store-reply.ensures.tables in
    let Stands : Tables → Type 0 = λ t. StandFor rules t step.next in
    let does = unasked-does old new c.args.who (Store c.args.address c.args.byte) c.store-reply.result step step c.empty.result None c.requires.kept
    (record {
      wish = refl;
      whole_is = refl;
      step_is = refl;
      gives_up = light.gives_up;
      words_are = c.empty.ensures ∙ light.words;
      tables = subst Stands (sym (ap (λ (x : Core). tables_in x.state) same)) light.stands;
      drawn = ap (λ (x : Core). x.state.words.place) same ∙ ap (λ (w : WordSource). w.place) (c.store-reply.ensures.same).words ∙ c.requires.kept.drawn ∙ light.drawn;
      rules = ap (λ (x : Core). rules_in x.state) same ∙ same-rules old.state own c.store-reply.ensures.same;
      canary = ap (λ (x : Core). x.canary) same;
      room = ap (λ (x : Core). x.room) same;
    })
    light.reply c.enter_unasked.ensures.added in
    record {
      kept = kept old new _ _ _ _ _ _ _ c.requires.kept does;
      taken = taken old new _ _ _ _ _ _ _ c.requires.kept does;
      quiet = record {
        rules = does.rules;
        held = ap (λ (s : State). s.held) (left_after old new _ _ _ _ _ _ _ c.requires.kept does) ∙ light.held;
        words = c.empty.result;
        added = c.enter_unasked.ensures.added;
      };
    }
