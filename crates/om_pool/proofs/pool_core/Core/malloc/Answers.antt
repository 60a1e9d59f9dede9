use Rattle.std.proofs.Common.{ℕ, List, [], ◌∷◌, ◌++◌, refl, sym, ap, ◌∙◌, subst, arith}
use Rattle.om_model.specs.Pool.Malloc.{block_placed, malloc, placing, words_for}
use Rattle.om_model.specs.Pool.Rules.{Rules}
use Rattle.om_model.specs.declared.entry.Entry.TheVariants.{Call}
use Rattle.om_model.specs.declared.operation.Op.TheVariants.{Malloc}
use Rattle.om_pool.specs.CoreKept.{core_state}
use Rattle.om_pool.specs.HoldingsView.{rules_in}
use Rattle.om_pool.specs.Malloc.{reply_for}
use Rattle.om_pool.specs.Placing.{placing_entry, Places}
use Rattle.om_pool.specs.PoolView.{says_no_run}
use Rattle.om_pool.specs.declared.pool_core.Core.{Core}
use Rattle.om_pool.proofs.CallLaws.{backed-quiet}
use Rattle.om_pool.proofs.CoreLaws.{core_drawn}
use Rattle.om_pool.proofs.MallocLaws.{allocation-shows, refused-says}
use Rattle.om_pool.proofs.PlacingLaws.{malloc-placing, wish-placing}
use Rattle.om_pool.proofs.Spending.{uses-quiet}
use Rattle.om_pool.proofs.UnderwayLaws.{core-come}
use Rattle.om_pool.proofs.pool_core.Core.malloc.Goals as goal

pub returns-then-is_too_large-clause-backed : goal.returns-then-is_too_large-clause-backed
returns-then-is_too_large-clause-backed g c =
    backed-quiet g.B.Broker c.args.self.now c.refuse.new.self c.args.broker.now c.args.who (Malloc c.args.size c.args.site) c.refuse.result c.refuse.ensures.quiet c.requires.backed

pub returns-then-is_too_large-clause-uses : goal.returns-then-is_too_large-clause-uses
returns-then-is_too_large-clause-uses g c =
    let old = c.args.self.now in
    uses-quiet g.B.Broker old c.refuse.new.self c.args.broker.now c.args.who (Malloc c.args.size c.args.site) c.refuse.result c.refuse.ensures.quiet (ap says_no_run c.refuse.ensures.reply ∙ refused-says old.state.opts.xmalloc)

pub place_block-placing-requires-clause-come : goal.place_block-placing-requires-clause-come
place_block-placing-requires-clause-come g c = (core_state c.args.self.now, core-come g.B.Broker c.args.self.now c.args.broker.now c.requires.kept c.requires.backed)

pub place_block-placing-requires-clause-drawn : goal.place_block-placing-requires-clause-drawn
place_block-placing-requires-clause-drawn g c = let few = core_drawn c.args.self.now c.requires.kept c.requires.room.short in omega arith

pub returns : goal.returns
returns g c =
    let old = c.args.self.now in
    let mid = c.place_block-placing.new.self in
    let new = c.enter_placing.new.self in
    let before = c.args.broker.now in
    let after = c.place_block-placing.new.broker in
    let size = c.args.size in
    let site = c.args.site in
    let op = Malloc size site in
    let reply = c.block_or_null-reply.result in
    let placed = c.place_block-placing.result in
    let rules = rules_in old.state in
    let state = core_state old in
    let fits = sym c.is_too_large.ensures ∙ c.if-is_too_large.false in
    let Placed : List ℕ → Type 0 = λ given. Places g.B.Broker old mid before after state size site given placed in
    let places = subst Placed c.empty.ensures (c.place_block-placing.ensures.placed state (core-come g.B.Broker old before c.requires.kept c.requires.backed)) in
    let shows = allocation-shows g.B.Broker old mid mid new before after c.args.who op size site placed reply (λ answers. malloc rules state size site answers.claim) c.requires.kept c.requires.backed places
    (record {
      fits = fits;
      asks = refl;
      wish = wish-placing rules state size fits;
      step_is = refl;
      next = (placing rules state size site placed.claim).next;
      whole = malloc-placing rules state size site placed.claim fits ∙ ap (λ at. block_placed rules (words_for rules size) (record { address = at; next = (placing rules state size site placed.claim).next })) (sym places.address_is);
      held = refl;
      come = places.come;
      rules = places.rules;
      room = c.place_block-placing.ensures.empty;
      reply_is = c.block_or_null-reply.ensures ∙ ap (λ (r : Rules). reply_for r.options.xmalloc placed.address) places.rules;
      same = c.enter_placing.ensures.same;
      added = c.enter_placing.ensures.added ∙ ap (λ (x : Core). x.journal.items ++ Call (placing_entry c.args.who op reply placed) ∷ []) c.place_block-placing.ensures.same;
    }) in
    record { kept = shows.kept; backed = shows.backed; uses = shows.uses; taken = shows.taken }
