use Rattle.std.proofs.Common.{sym, ap, ◌∙◌}
use Rattle.om_model.specs.Pool.Realloc.{reallocarray_of, reallocarray_wish_of}
use Rattle.om_model.specs.declared.operation.Op.TheVariants.{Reallocarray}
use Rattle.om_pool.specs.CoreKept.{core_state, core_view}
use Rattle.om_pool.specs.HoldingsView.{rules_in}
use Rattle.om_pool.specs.PoolView.{says_no_run}
use Rattle.om_pool.specs.Unasked.{no_answers}
use Rattle.om_pool.proofs.CallLaws.{backed-quiet}
use Rattle.om_pool.proofs.CallocLaws.{overflow-says}
use Rattle.om_pool.proofs.CoreLaws.{taken-as}
use Rattle.om_pool.proofs.ReallocLaws.{array-fits, array-overflows}
use Rattle.om_pool.proofs.Spending.{uses-quiet}
use Rattle.om_pool.proofs.pool_core.Core.reallocarray.Goals as goal

pub refuse-requires-clause-refused : goal.refuse-requires-clause-refused
refuse-requires-clause-refused g c =
    let old = c.args.self.now in
    let none = sym c.product.ensures ∙ c.in_default.is in
    record {
      wish = ap (reallocarray_wish_of (rules_in old.state) (core_state old) c.args.address) none;
      step = array-overflows (rules_in old.state) (core_state old) c.args.address c.args.count c.args.size c.args.site no_answers none;
    }

pub realloc-requires-clause-op : goal.realloc-requires-clause-op
realloc-requires-clause-op g c =
    let old = c.args.self.now in
    let rules = rules_in old.state in
    let state = core_state old in
    let bytes = c.in-Some.size in
    let some = sym c.product.ensures ∙ c.in-Some.is in
    record {
      asks = some;
      wish = ap (reallocarray_wish_of rules state c.args.address) some;
      step_is = λ answers. array-fits rules state c.args.address c.args.count c.args.size c.args.site answers bytes some c.requires.overflows;
    }

pub returns-in_default : goal.returns-in_default
returns-in_default g c =
    let old = c.args.self.now in
    let new = c.refuse.new.self in
    let op = Reallocarray c.args.address c.args.count c.args.size c.args.site in
    let refused = c.refuse.ensures in
    let none = sym c.product.ensures ∙ c.in_default.is in
    record {
      kept = refused.kept;
      backed = backed-quiet g.B.Broker old new c.args.broker.now c.args.who op c.refuse.result refused.quiet c.requires.backed;
      uses = uses-quiet g.B.Broker old new c.args.broker.now c.args.who op c.refuse.result refused.quiet (ap says_no_run refused.reply ∙ overflow-says old.state.opts.xmalloc);
      taken = taken-as (core_view old) (core_view new) c.args.who op c.refuse.result _ _
          (λ answers. sym (ap (λ asked. reallocarray_of (rules_in old.state) (core_state old) c.args.address asked c.args.site answers) none)) refused.taken;
    }

pub returns : goal.returns
returns g c =
    let old = c.args.self.now in
    let some = sym c.product.ensures ∙ c.in-Some.is in
    let answered = c.realloc.ensures in
    record {
      kept = answered.kept;
      backed = answered.backed;
      uses = answered.uses;
      taken = taken-as (core_view old) (core_view c.realloc.new.self) c.args.who (Reallocarray c.args.address c.args.count c.args.size c.args.site) c.realloc.result _ _
          (λ answers. sym (ap (λ asked. reallocarray_of (rules_in old.state) (core_state old) c.args.address asked c.args.site answers) some)) answered.taken;
    }
