use Rattle.std.proofs.Common.{ℕ, List, Option, IfSome, [], ◌∷◌, ◌++◌, refl, sym, ap, ◌∙◌, subst, arith}
use Rattle.om_frame.specs.Memory.{IsHeldPart}
use Rattle.om_model.specs.Pool.Calloc.{calloc, zeroed_at}
use Rattle.om_model.specs.Pool.Malloc.{placing}
use Rattle.om_model.specs.Pool.Rules.{Rules}
use Rattle.om_model.specs.declared.entry.Entry.TheVariants.{Call}
use Rattle.om_model.specs.declared.operation.Op.TheVariants.{Calloc}
use Rattle.om_model.proofs.Sound.{IsSound}
use Rattle.om_pool.specs.CoreKept.{core_state}
use Rattle.om_pool.specs.HoldingsView.{rules_in}
use Rattle.om_pool.specs.Malloc.{reply_for}
use Rattle.om_pool.specs.Placing.{placing_entry, Places}
use Rattle.om_pool.specs.PoolView.{says_no_run}
use Rattle.om_pool.specs.declared.pool_core.Core.{Core}
use Rattle.om_pool.proofs.CallLaws.{backed-quiet}
use Rattle.om_pool.proofs.CallocLaws.{overflow-says, zeroed-held, zeros-come, zeros-whole, zeros-wish}
use Rattle.om_pool.proofs.CoreLaws.{core_drawn, same-rules}
use Rattle.om_pool.proofs.MallocLaws.{allocation-shows, refused-says}
use Rattle.om_pool.proofs.PlacedBytes.{placed-bytes, size-few}
use Rattle.om_pool.proofs.Spending.{uses-quiet}
use Rattle.om_pool.proofs.UnderwayLaws.{come-sound, core-come}
use Rattle.om_pool.proofs.pool_core.Core.calloc.Goals as goal

pub returns-in_default-clause-backed : goal.returns-in_default-clause-backed
returns-in_default-clause-backed g c =
    backed-quiet g.B.Broker c.args.self.now c.refuse.new.self c.args.broker.now c.args.who (Calloc c.args.count c.args.size c.args.site) c.refuse.result c.refuse.ensures.quiet c.requires.backed

pub returns-in_default-clause-uses : goal.returns-in_default-clause-uses
returns-in_default-clause-uses g c =
    let old = c.args.self.now in
    uses-quiet g.B.Broker old c.refuse.new.self c.args.broker.now c.args.who (Calloc c.args.count c.args.size c.args.site) c.refuse.result c.refuse.ensures.quiet (ap says_no_run c.refuse.ensures.reply ∙ overflow-says old.state.opts.xmalloc)

pub returns-then-is_too_large-clause-backed : goal.returns-then-is_too_large-clause-backed
returns-then-is_too_large-clause-backed g c =
    let refused = c.refuse-then-is_too_large in
    backed-quiet g.B.Broker c.args.self.now refused.new.self c.args.broker.now c.args.who (Calloc c.args.count c.args.size c.args.site) refused.result refused.ensures.quiet c.requires.backed

pub returns-then-is_too_large-clause-uses : goal.returns-then-is_too_large-clause-uses
returns-then-is_too_large-clause-uses g c =
    let old = c.args.self.now in
    let refused = c.refuse-then-is_too_large in
    uses-quiet g.B.Broker old refused.new.self c.args.broker.now c.args.who (Calloc c.args.count c.args.size c.args.site) refused.result refused.ensures.quiet (ap says_no_run refused.ensures.reply ∙ refused-says old.state.opts.xmalloc)

pub place_block-placing-requires-clause-come : goal.place_block-placing-requires-clause-come
place_block-placing-requires-clause-come g c = (core_state c.args.self.now, core-come g.B.Broker c.args.self.now c.args.broker.now c.requires.kept c.requires.backed)

pub place_block-placing-requires-clause-drawn : goal.place_block-placing-requires-clause-drawn
place_block-placing-requires-clause-drawn g c = let few = core_drawn c.args.self.now c.requires.kept c.requires.room.short in omega arith

pub zero-requires-clause-few : goal.zero-requires-clause-few
zero-requires-clause-few g c = size-few (rules_in c.args.self.now.state) c.in-Some.bytes (sym c.is_too_large.ensures ∙ c.if-is_too_large.false)

pub zero-requires-clause-bytes : goal.zero-requires-clause-bytes
zero-requires-clause-bytes g c =
    let old = c.args.self.now in
    let mid = c.place_block-placing.new.self in
    let before = c.args.broker.now in
    let bytes = c.in-Some.bytes in
    let rules = rules_in old.state in
    let state = core_state old in
    let placed = c.place_block-placing.result in
    let places = c.place_block-placing.ensures.placed state (core-come g.B.Broker old before c.requires.kept c.requires.backed) in
    let next = (placing rules state bytes c.args.site placed.claim).next in
    let Sound : Rules → Type 0 = λ r. IsSound r next in
    let sound = subst Sound places.rules (come-sound g.B.Broker mid c.place_block-placing.new.broker next places.come) in
    let Held : Option ℕ → List (List ℕ) → Type 0 = λ address memory. IfSome address (λ at. IsHeldPart memory at bytes) in
    subst (λ address. Held address mid.state.shelf) (sym places.address_is)
    (subst (Held (placing rules state bytes c.args.site placed.claim).address) (sym places.come.tables.memory) (placed-bytes rules state bytes c.args.site placed.claim sound))

pub returns : goal.returns
returns g c =
    let old = c.args.self.now in
    let at = c.place_block-placing.new.self in
    let own = c.zero.new.self in
    let mid = record at { state = own } in
    let new = c.enter_placing.new.self in
    let before = c.args.broker.now in
    let after = c.place_block-placing.new.broker in
    let count = c.args.count in
    let size = c.args.size in
    let site = c.args.site in
    let bytes = c.in-Some.bytes in
    let op = Calloc count size site in
    let reply = c.block_or_null-reply.result in
    let placed = c.place_block-placing.result in
    let rules = rules_in old.state in
    let state = core_state old in
    let some = sym c.product.ensures ∙ c.in-Some.is in
    let fits = sym c.is_too_large.ensures ∙ c.if-is_too_large.false in
    let Placed : List ℕ → Type 0 = λ given. Places g.B.Broker old at before after state bytes site given placed in
    let places = subst Placed c.empty.ensures (c.place_block-placing.ensures.placed state (core-come g.B.Broker old before c.requires.kept c.requires.backed)) in
    let there = (placing rules state bytes site placed.claim).next in
    let ruled = same-rules at.state own c.zero.ensures.same ∙ places.rules in
    let shows = allocation-shows g.B.Broker old at mid new before after c.args.who op bytes site placed reply (λ answers. calloc rules state count size site answers.claim) c.requires.kept c.requires.backed places
    (record {
      fits = fits;
      asks = some;
      wish = zeros-wish rules state count size site bytes some fits;
      step_is = refl;
      next = zeroed_at placed.address bytes there;
      whole = zeros-whole rules state count size site bytes some fits placed.claim placed.address places.address_is;
      held = zeroed-held placed.address bytes there;
      come = zeros-come g.B.Broker at after there places.come placed.address bytes own c.zero.ensures.tables c.zero.ensures.same;
      rules = ruled;
      room = c.place_block-placing.ensures.empty;
      reply_is = c.block_or_null-reply.ensures ∙ ap (λ (r : Rules). reply_for r.options.xmalloc placed.address) ruled;
      same = c.enter_placing.ensures.same;
      added = c.enter_placing.ensures.added ∙ ap (λ (x : Core). x.journal.items ++ Call (placing_entry c.args.who op reply placed) ∷ []) c.place_block-placing.ensures.same;
    }) in
    record { kept = shows.kept; backed = shows.backed; uses = shows.uses; taken = shows.taken }
