use Rattle.std.proofs.Common.{not, None, refl, sym, subst, ap, ◌∙◌}
use Rattle.om_model.specs.Pool.Free.{Freed, without_page_block}
use Rattle.om_model.specs.Pool.Rules.{Rules}
use Rattle.om_model.specs.Pool.State.{drawn_more}
use Rattle.om_pool.specs.HoldingsView.{rules_in}
use Rattle.om_pool.specs.Leaving.{LeavesTo}
use Rattle.om_pool.specs.Moving.{MovesTo, resize_of}
use Rattle.om_pool.specs.declared.moving.Moving.{Moving}
use Rattle.om_pool.proofs.CopyLaws.{copied-come, copied-stands, copy_of, none-copies}
use Rattle.om_pool.proofs.LiveStands.{stands-live}
use Rattle.om_pool.proofs.MovingLaws.{moves-nowhere, moves-there, none-is, some-is}
use Rattle.om_pool.proofs.UnderwayLaws.{come-sound}
use Rattle.om_pool.proofs.pool_core.Core.move_pages.Goals as goal

pub place_copy-placing-requires-clause-come : goal.place_copy-placing-requires-clause-come
place_copy-placing-requires-clause-come g c =
    let old = c.args.self.now in
    let come = c.requires.come in
    let live = stands-live (rules_in old.state) come.0 (come-sound g.B.Broker old c.args.broker.now come.0 come.1) c.args.block None come.2 in
    (come.0, come.1, live.live)

pub returns-then-is_none-clause-moved : goal.returns-then-is_none-clause-moved
returns-then-is_none-clause-moved g c = λ state come stands.
    let old = c.args.self.now in
    let b = c.args.broker.now in
    let placed = c.place_copy-placing.result in
    let copy = c.place_copy-placing.new.self in
    let searched = c.place_copy-placing.new.broker in
    let none = none-is placed.address (c.is_none.ensures ∙ ap not c.if-is_none.true) in
    let live = stands-live (rules_in old.state) state (come-sound g.B.Broker old b state come) c.args.block None stands in
    let copies = none-copies g.B.Broker old copy b searched state c.args.block c.args.size c.args.site c.empty.result placed (c.place_copy-placing.ensures.copies state come live.live) in
    let Moved : Moving → Type 0 = λ moving. MovesTo g.B.Broker (rules_in old.state) copy b searched state (resize_of c.args.block None c.args.size c.args.site) moving in
    subst Moved (sym c.answer_by.ensures)
    (moves-nowhere g.B.Broker old copy b searched state c.args.block None c.args.size c.args.site c.empty.result placed refl c.empty.ensures copies none copy.state.opts.xmalloc (ap (λ (r : Rules). r.options.xmalloc) copies.rules))

pub leave_block-release-requires : goal.leave_block-release-requires
leave_block-release-requires g c =
    let old = c.args.self.now in
    let b = c.args.broker.now in
    let placed = c.place_copy-placing.result in
    let copy = c.place_copy-placing.new.self in
    let searched = c.place_copy-placing.new.broker in
    let block = c.args.block in
    let state = c.requires.come.0 in
    let come = c.requires.come.1 in
    let some = some-is placed.address (c.is_none.ensures ∙ ap not c.if-is_none.false) in
    let live = stands-live (rules_in old.state) state (come-sound g.B.Broker old b state come) block None c.requires.come.2 in
    let copies = none-copies g.B.Broker old copy b searched state c.args.block c.args.size c.args.site c.empty.result placed (c.place_copy-placing.ensures.copies state come live.live) in
    record {
      come = (
        copy_of g.B.Broker old copy b searched (drawn_more 0 state) block c.args.size c.args.site c.empty.result placed copies some.0,
        copied-come g.B.Broker old copy b searched (drawn_more 0 state) block c.args.size c.args.site c.empty.result placed copies some.0 some.1,
        copied-stands g.B.Broker old copy b searched (drawn_more 0 state) block c.args.size c.args.site c.empty.result placed copies some.0 some.1 live.live None live.has,
      );
    }

pub returns-clause-moved : goal.returns-clause-moved
returns-clause-moved g c = λ state come stands.
    let old = c.args.self.now in
    let b = c.args.broker.now in
    let placed = c.place_copy-placing.result in
    let copy = c.place_copy-placing.new.self in
    let searched = c.place_copy-placing.new.broker in
    let block = c.args.block in
    let some = some-is placed.address (c.is_none.ensures ∙ ap not c.if-is_none.false) in
    let live = stands-live (rules_in old.state) state (come-sound g.B.Broker old b state come) block None stands in
    let copies = none-copies g.B.Broker old copy b searched state c.args.block c.args.size c.args.site c.empty.result placed (c.place_copy-placing.ensures.copies state come live.live) in
    let both = copy_of g.B.Broker old copy b searched (drawn_more 0 state) block c.args.size c.args.site c.empty.result placed copies some.0 in
    let new = c.leave_block-release.new.self in
    let after = c.leave_block-release.new.broker in
    let release = c.leave_block-release.result in
    let Left : Freed → Type 0 = λ gone. LeavesTo g.B.Broker copy new searched after both gone release in
    let leaves = subst Left (ap (λ r. without_page_block r both block) copies.rules)
    (c.leave_block-release.ensures.left both
    (copied-come g.B.Broker old copy b searched (drawn_more 0 state) block c.args.size c.args.site c.empty.result placed copies some.0 some.1)
    (copied-stands g.B.Broker old copy b searched (drawn_more 0 state) block c.args.size c.args.site c.empty.result placed copies some.0 some.1 live.live None live.has)) in
    let Moved : Moving → Type 0 = λ moving. MovesTo g.B.Broker (rules_in old.state) new b after state (resize_of block None c.args.size c.args.site) moving in
    subst Moved (sym c.answer_by-2.ensures)
    (moves-there g.B.Broker old copy b searched state block None c.args.size c.args.site c.empty.result placed refl c.empty.ensures copies some.0 some.1 new after release new.state.opts.xmalloc leaves)
