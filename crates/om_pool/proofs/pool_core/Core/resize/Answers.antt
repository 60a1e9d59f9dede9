use Rattle.std.proofs.Common.{None, refl, sym, subst, ap, ◌∙◌}
use Rattle.om_model.specs.Pool.Realloc.{grown, resized, shrunk, stayed, with_size}
use Rattle.om_model.specs.Pool.Resizing as model
use Rattle.om_pool.specs.CoreKept.{core_state, IsLookRoom}
use Rattle.om_pool.specs.HoldingsView.{rules_in}
use Rattle.om_pool.specs.Moving.{resize_in}
use Rattle.om_pool.specs.PoolView.{says_no_run}
use Rattle.om_pool.specs.Unasked.{no_answers}
use Rattle.om_pool.specs.Ways.{way_in}
use Rattle.om_pool.specs.declared.pool_core.Core.{Core}
use Rattle.om_pool.proofs.CoreLaws.{same-rules}
use Rattle.om_pool.proofs.InPlaceLaws.{canary-held, grows-come, new_data-held, stands-with, stayed-come}
use Rattle.om_pool.proofs.ReallocLaws.{comes-by, unasked-answered, way-found, way-step, way-wish}
use Rattle.om_pool.proofs.UnderwayLaws.{core-come}
use Rattle.om_pool.proofs.pool_core.Core.resize.Goals as goal

pub stay-requires-clause-stands : goal.stay-requires-clause-stands
stay-requires-clause-stands g c =
    let old = c.args.self.now in
    let b = c.args.broker.now in
    let live = c.args.live in
    let comes = comes-by old c.args.ask.size live c.requires.is model.Stays (way-found old c.requires.kept live.block c.args.ask.size c.way.result c.way.ensures ∙ ap way_in c.in-Stays.is) c.requires.kept in
    (core_state old, record { stands = c.requires.kept.tables; well_formed = (core-come g.B.Broker old b c.requires.kept c.requires.backed).well_formed; comes = comes })

pub grow-requires-clause-stands : goal.grow-requires-clause-stands
grow-requires-clause-stands g c =
    let old = c.args.self.now in
    let b = c.args.broker.now in
    let live = c.args.live in
    let comes = comes-by old c.args.ask.size live c.requires.is model.Grows (way-found old c.requires.kept live.block c.args.ask.size c.way.result c.way.ensures ∙ ap way_in c.in-Grows.is) c.requires.kept in
    (core_state old, record { stands = c.requires.kept.tables; well_formed = (core-come g.B.Broker old b c.requires.kept c.requires.backed).well_formed; comes = comes })

pub shrink-release-requires : goal.shrink-release-requires
shrink-release-requires g c =
    let old = c.args.self.now in
    let b = c.args.broker.now in
    let live = c.args.live in
    let comes = comes-by old c.args.ask.size live c.requires.is model.Shrinks (way-found old c.requires.kept live.block c.args.ask.size c.way.result c.way.ensures ∙ ap way_in c.in-Shrinks.is) c.requires.kept in
    record { come = (core_state old, core-come g.B.Broker old b c.requires.kept c.requires.backed, comes) }

pub claim_or_move-requires-clause-is : goal.claim_or_move-requires-clause-is
claim_or_move-requires-clause-is g c =
    record { op = c.requires.op; is = c.requires.is; way_is = way-found c.args.self.now c.requires.kept c.args.live.block c.args.ask.size c.way.result c.way.ensures ∙ ap way_in c.in-Claims.is }

pub move_block-requires-clause-is : goal.move_block-requires-clause-is
move_block-requires-clause-is g c =
    record { op = c.requires.op; is = c.requires.is; way_is = way-found c.args.self.now c.requires.kept c.args.live.block c.args.ask.size c.way.result c.way.ensures ∙ ap way_in c.in-Moves.is }

pub returns-in-Shrinks : goal.returns-in-Shrinks
returns-in-Shrinks g c =
    let old = c.args.self.now in
    let b = c.args.broker.now in
    let live = c.args.live in
    let ask = c.args.ask in
    let is = c.requires.kept in
    let rules = rules_in old.state in
    let state = core_state old in
    let way_is = way-found old is live.block ask.size c.way.result c.way.ensures ∙ ap way_in c.in-Shrinks.is in
    let comes = comes-by old ask.size live c.requires.is model.Shrinks way_is is in
    let leaves = c.shrink-release.ensures.left state (core-come g.B.Broker old b is c.requires.backed) comes in
    let enters = c.enter_kept-in-Shrinks.ensures in
    unasked-answered g.B.Broker old c.shrink-release.new.self c.enter_kept-in-Shrinks.new.self b c.shrink-release.new.broker ask live.block.address c.enter_kept-in-Shrinks.result _ c.shrink-release.result (shrunk rules state (resize_in live ask.size ask.site)) is c.requires.backed
    (record {
      op = c.requires.op;
      wish = way-wish old ask.size live c.requires.is model.Shrinks way_is;
      made_is = way-step old ask.size live c.requires.is model.Shrinks way_is ask.site no_answers;
      gives_up = leaves.gives_up;
      reply_is = enters.reply;
      words_are = refl;
      come = leaves.come;
      rules_are = leaves.rules;
      room = subst (λ (x : Core). IsLookRoom x.room) (sym c.shrink-release.ensures.same) is.room;
      journal = ap (λ (x : Core). x.journal.items) c.shrink-release.ensures.same;
      same = enters.same;
      added = enters.added;
      left = leaves.broker;
      says = ap says_no_run enters.reply;
    })

pub returns-in-Stays : goal.returns-in-Stays
returns-in-Stays g c =
    let old = c.args.self.now in
    let b = c.args.broker.now in
    let live = c.args.live in
    let ask = c.args.ask in
    let is = c.requires.kept in
    let state = core_state old in
    let own = c.stay.new.self in
    let came = core-come g.B.Broker old b is c.requires.backed in
    let way_is = way-found old is live.block ask.size c.way.result c.way.ensures ∙ ap way_in c.in-Stays.is in
    let comes = comes-by old ask.size live c.requires.is model.Stays way_is is in
    let enters = c.enter_kept.ensures in
    unasked-answered g.B.Broker old (record old { state = own }) c.enter_kept.new.self b b ask live.block.address c.enter_kept.result _ None (stayed (rules_in old.state) state (resize_in live ask.size ask.site)) is c.requires.backed
    (record {
      op = c.requires.op;
      wish = way-wish old ask.size live c.requires.is model.Stays way_is;
      made_is = way-step old ask.size live c.requires.is model.Stays way_is ask.site no_answers;
      gives_up = record { run_is = refl; inside = tt };
      reply_is = enters.reply;
      words_are = refl;
      come = stayed-come g.B.Broker old b state came live.block ask.size ask.site own c.stay.ensures.same comes (c.stay.ensures.stands state (stands-with g.B.Broker old b state came live.block ask.size ask.site own c.stay.ensures.same model.Stays comes));
      rules_are = same-rules old.state own c.stay.ensures.same;
      room = is.room;
      journal = refl;
      same = enters.same;
      added = enters.added;
      left = (refl, canary-held (rules_in old.state) (with_size (resize_in live ask.size ask.site)) (resized (resize_in live ask.size ask.site) state));
      says = ap says_no_run enters.reply;
    })

pub returns-in-Grows : goal.returns-in-Grows
returns-in-Grows g c =
    let old = c.args.self.now in
    let b = c.args.broker.now in
    let live = c.args.live in
    let ask = c.args.ask in
    let is = c.requires.kept in
    let state = core_state old in
    let own = c.grow.new.self in
    let came = core-come g.B.Broker old b is c.requires.backed in
    let way_is = way-found old is live.block ask.size c.way.result c.way.ensures ∙ ap way_in c.in-Grows.is in
    let comes = comes-by old ask.size live c.requires.is model.Grows way_is is in
    let enters = c.enter_kept-in-Grows.ensures in
    unasked-answered g.B.Broker old (record old { state = own }) c.enter_kept-in-Grows.new.self b b ask live.block.address c.enter_kept-in-Grows.result _ None (grown (rules_in old.state) state (resize_in live ask.size ask.site)) is c.requires.backed
    (record {
      op = c.requires.op;
      wish = way-wish old ask.size live c.requires.is model.Grows way_is;
      made_is = way-step old ask.size live c.requires.is model.Grows way_is ask.site no_answers;
      gives_up = record { run_is = refl; inside = tt };
      reply_is = enters.reply;
      words_are = refl;
      come = grows-come g.B.Broker old b state came live.block ask.size ask.site own c.grow.ensures.same comes (c.grow.ensures.stands state (stands-with g.B.Broker old b state came live.block ask.size ask.site own c.grow.ensures.same model.Grows comes));
      rules_are = same-rules old.state own c.grow.ensures.same;
      room = is.room;
      journal = refl;
      same = enters.same;
      added = enters.added;
      left = (refl, new_data-held (rules_in old.state) live.block ask.size (resized (resize_in live ask.size ask.site) state));
      says = ap says_no_run enters.reply;
    })
