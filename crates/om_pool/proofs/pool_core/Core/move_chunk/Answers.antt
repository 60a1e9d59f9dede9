use Rattle.std.proofs.Common.{◌∷◌, [], not, Some, refl, sym, subst, ap, ◌∙◌}
use Rattle.std.specs.Option.{option_map}
use Rattle.om_delay.specs.Changes.{AreHeldSlots}
use Rattle.om_delay.specs.declared.check.Changed.{Changed}
use Rattle.om_model.specs.Pool.Free.{Freed, moved_to_slot}
use Rattle.om_model.specs.Pool.Rules.{Rules, word_at}
use Rattle.om_model.specs.Pool.State.{drawn_more}
use Rattle.om_model.specs.declared.reply.Fault.TheVariants as fault
use Rattle.om_pool.specs.HoldingsView.{rules_in, tables_in}
use Rattle.om_pool.specs.Leaving.{LeavesTo}
use Rattle.om_pool.specs.Moving.{MovesTo, resize_of}
use Rattle.om_pool.specs.declared.holdings.Holdings.{Holdings}
use Rattle.om_pool.specs.declared.moving.Moving.{Moving}
use Rattle.om_pool.proofs.FreeLaws.{late-shown, slot-drawn}
use Rattle.om_pool.proofs.LiveStands.{stands-live}
use Rattle.om_pool.proofs.CopyLaws.{copied-come, copied-place, copy_of, drawn-copies, drawn_core}
use Rattle.om_pool.proofs.MovingLaws.{moves-told, moves-nowhere, moves-there, none-is, some-is}
use Rattle.om_pool.proofs.PlaceLeaving.{slots-held}
use Rattle.om_pool.proofs.UnderwayLaws.{come-drawn, come-sound}
use Rattle.om_pool.proofs.pool_core.Core.move_chunk.Goals as goal

pub written_late-requires-clause-held : goal.written_late-requires-clause-held
written_late-requires-clause-held g c =
    let old = c.args.self.now in
    let come = c.requires.come in
    let Held : Holdings → Type 0 = λ x. AreHeldSlots x.shelf x.slots in
    subst Held (sym c.draw-word.ensures.same) (slots-held (rules_in old.state) (tables_in old.state) come.0 (come-sound g.B.Broker old c.args.broker.now come.0 come.1) (come.1).tables)

pub returns-in-Some-clause-moved : goal.returns-in-Some-clause-moved
returns-in-Some-clause-moved g c = λ state come stands.
    let old = c.args.self.now in
    let rules = rules_in old.state in
    let own = c.draw-word.new.self in
    let draws = c.draw-word.ensures in
    let place = c.args.place in
    let found : Changed = c.in-Some.field-0 in
    let late = c.written_late.ensures ∙ late-shown old.state state come.tables come.drawn own draws.same c.draw-word.result c.slot_by-slot.result draws.word c.slot_by-slot.ensures.slot in
    let told = ap (option_map (λ (changed : Changed). fault.WriteAfterFree changed.addr changed.offset)) (sym late ∙ c.in-Some.is) in
    moves-told g.B.Broker rules (record old { state = own }) c.args.broker.now state c.args.block (Some place) c.args.size c.args.site (fault.WriteAfterFree found.addr found.offset) told
    _ refl (c.one.ensures ∙ ap (λ w. w ∷ []) (draws.word ∙ ap (word_at rules) come.drawn)) c.empty.ensures refl refl refl
    (come-drawn g.B.Broker old c.args.broker.now state come own draws.same) (ap rules_in draws.same)

pub place_copy-placing-requires-clause-come : goal.place_copy-placing-requires-clause-come
place_copy-placing-requires-clause-come g c =
    let old = c.args.self.now in
    let come = c.requires.come in
    let live = stands-live (rules_in old.state) come.0 (come-sound g.B.Broker old c.args.broker.now come.0 come.1) c.args.block (Some c.args.place) come.2 in
    (drawn_more 1 come.0, come-drawn g.B.Broker old c.args.broker.now come.0 come.1 c.draw-word.new.self c.draw-word.ensures.same, live.live)

pub returns-then-is_none-clause-moved : goal.returns-then-is_none-clause-moved
returns-then-is_none-clause-moved g c = λ state come stands.
    let old = c.args.self.now in
    let b = c.args.broker.now in
    let own = c.draw-word.new.self in
    let draws = c.draw-word.ensures in
    let copied = c.place_copy-placing.ensures in
    let placed = c.place_copy-placing.result in
    let none = none-is placed.address (c.is_none.ensures ∙ ap not c.if-is_none.true) in
    let late = c.written_late.ensures ∙ late-shown old.state state come.tables come.drawn own draws.same c.draw-word.result c.slot_by-slot.result draws.word c.slot_by-slot.ensures.slot in
    let no_late = ap (option_map (λ (changed : Changed). fault.WriteAfterFree changed.addr changed.offset)) (sym late ∙ c.in_default.is) in
    let live = stands-live (rules_in old.state) state (come-sound g.B.Broker old b state come) c.args.block (Some c.args.place) stands in
    let copies = drawn-copies g.B.Broker old own draws.same c.place_copy-placing.new.self b c.place_copy-placing.new.broker state c.args.block c.args.size c.args.site c.one-2.result placed
    (copied.copies (drawn_more 1 state) (come-drawn g.B.Broker old b state come own draws.same) live.live) in
    let words = c.one-2.ensures ∙ ap (λ w. w ∷ []) (draws.word ∙ ap (word_at (rules_in old.state)) come.drawn) in
    let Moved : Moving → Type 0 = λ moving. MovesTo g.B.Broker (rules_in old.state) c.place_copy-placing.new.self b c.place_copy-placing.new.broker state (resize_of c.args.block (Some c.args.place) c.args.size c.args.site) moving in
    subst Moved (sym c.answer_by.ensures)
    (moves-nowhere g.B.Broker (drawn_core old) c.place_copy-placing.new.self b c.place_copy-placing.new.broker state c.args.block (Some c.args.place) c.args.size c.args.site c.one-2.result placed no_late words copies
    none c.place_copy-placing.new.self.state.opts.xmalloc (ap (λ (r : Rules). r.options.xmalloc) copies.rules))

pub move_to_slot-release-requires-clause-come : goal.move_to_slot-release-requires-clause-come
move_to_slot-release-requires-clause-come g c =
    let state = c.requires.come.0 in
    let come = c.requires.come.1 in
    let stands = c.requires.come.2 in
    let old = c.args.self.now in
    let b = c.args.broker.now in
    let own = c.draw-word.new.self in
    let draws = c.draw-word.ensures in
    let copied = c.place_copy-placing.ensures in
    let placed = c.place_copy-placing.result in
    let some = some-is placed.address (c.is_none.ensures ∙ ap not c.if-is_none.false) in
    let live = stands-live (rules_in old.state) state (come-sound g.B.Broker old b state come) c.args.block (Some c.args.place) stands in
    let copies = drawn-copies g.B.Broker old own draws.same c.place_copy-placing.new.self b c.place_copy-placing.new.broker state c.args.block c.args.size c.args.site c.one-2.result placed
    (copied.copies (drawn_more 1 state) (come-drawn g.B.Broker old b state come own draws.same) live.live) in (
      copy_of g.B.Broker (drawn_core old) c.place_copy-placing.new.self b c.place_copy-placing.new.broker (drawn_more 1 state) c.args.block c.args.size c.args.site c.one-2.result placed copies some.0,
      copied-come g.B.Broker (drawn_core old) c.place_copy-placing.new.self b c.place_copy-placing.new.broker (drawn_more 1 state) c.args.block c.args.size c.args.site c.one-2.result placed copies some.0 some.1,
      c.args.block,
      copied-place g.B.Broker (drawn_core old) c.place_copy-placing.new.self b c.place_copy-placing.new.broker (drawn_more 1 state) c.args.block c.args.size c.args.site c.one-2.result placed copies some.0 some.1 live.live c.args.place live.has,
    )

pub returns-clause-moved : goal.returns-clause-moved
returns-clause-moved g c = λ state come stands.
    let old = c.args.self.now in
    let b = c.args.broker.now in
    let own = c.draw-word.new.self in
    let draws = c.draw-word.ensures in
    let copied = c.place_copy-placing.ensures in
    let placed = c.place_copy-placing.result in
    let block = c.args.block in
    let place = c.args.place in
    let slot = c.slot_by-slot.result in
    let copy = c.place_copy-placing.new.self in
    let searched = c.place_copy-placing.new.broker in
    let some = some-is placed.address (c.is_none.ensures ∙ ap not c.if-is_none.false) in
    let late = c.written_late.ensures ∙ late-shown old.state state come.tables come.drawn own draws.same c.draw-word.result slot draws.word c.slot_by-slot.ensures.slot in
    let no_late = ap (option_map (λ (changed : Changed). fault.WriteAfterFree changed.addr changed.offset)) (sym late ∙ c.in_default.is) in
    let at_slot = slot-drawn old.state state come.tables come.drawn own draws.same c.draw-word.result slot draws.word c.slot_by-slot.ensures.slot in
    let live = stands-live (rules_in old.state) state (come-sound g.B.Broker old b state come) block (Some place) stands in
    let copies = drawn-copies g.B.Broker old own draws.same copy b searched state block c.args.size c.args.site c.one-2.result placed
    (copied.copies (drawn_more 1 state) (come-drawn g.B.Broker old b state come own draws.same) live.live) in
    let words = c.one-2.ensures ∙ ap (λ w. w ∷ []) (draws.word ∙ ap (word_at (rules_in old.state)) come.drawn) in
    let both = copy_of g.B.Broker (drawn_core old) copy b searched (drawn_more 1 state) block c.args.size c.args.site c.one-2.result placed copies some.0 in
    let left = c.move_to_slot-release.ensures.left both
    (copied-come g.B.Broker (drawn_core old) copy b searched (drawn_more 1 state) block c.args.size c.args.site c.one-2.result placed copies some.0 some.1)
    block (copied-place g.B.Broker (drawn_core old) copy b searched (drawn_more 1 state) block c.args.size c.args.site c.one-2.result placed copies some.0 some.1 live.live place live.has) in
    let new = c.move_to_slot-release.new.self in
    let after = c.move_to_slot-release.new.broker in
    let release = c.move_to_slot-release.result in
    let Left : Freed → Type 0 = λ gone. LeavesTo g.B.Broker copy new searched after both gone release in
    let leaves = subst Left (ap (λ r. moved_to_slot r both slot place) copies.rules ∙ ap (λ s. moved_to_slot (rules_in old.state) both s place) at_slot) left in
    let Moved : Moving → Type 0 = λ moving. MovesTo g.B.Broker (rules_in old.state) new b after state (resize_of block (Some place) c.args.size c.args.site) moving in
    subst Moved (sym c.answer_by-2.ensures)
    (moves-there g.B.Broker (drawn_core old) copy b searched state block (Some place) c.args.size c.args.site c.one-2.result placed no_late words copies some.0 some.1 new after release new.state.opts.xmalloc leaves)
