use Rattle.std.proofs.Common.{◌≡◌, ◌∷◌, [], arith, refl, sym, subst, ap, ◌∙◌}
use Rattle.om_delay.specs.Changes.{AreHeldSlots}
use Rattle.om_delay.specs.declared.check.Changed.{Changed}
use Rattle.om_model.specs.Pool.Free.{Freed, free, free_at, moved_to_slot}
use Rattle.om_model.specs.Pool.Rules.{word_at}
use Rattle.om_model.specs.Pool.State.{drawn_more}
use Rattle.om_model.specs.declared.operation.Op.TheVariants.{Free}
use Rattle.om_model.specs.declared.reply.Fault.TheVariants as fault
use Rattle.om_model.specs.declared.reply.Reply.TheVariants as reply
use Rattle.om_pool.specs.CoreKept.{core_state}
use Rattle.om_pool.specs.HoldingsView.{rules_in, tables_in}
use Rattle.om_pool.specs.Leaving.{IsPlaceOf}
use Rattle.om_pool.specs.declared.holdings.Holdings.{Holdings}
use Rattle.om_pool.proofs.CallLaws.{backed-quiet}
use Rattle.om_pool.proofs.CoreLaws.{core-sound, core_drawn}
use Rattle.om_pool.proofs.FreeLaws.{delay-is, free-done, late-shown, late-told, none-late, slot-drawn, told-by}
use Rattle.om_pool.proofs.PlaceLeaving.{place-of, slots-held}
use Rattle.om_pool.proofs.RunLeaving.{leaves-from}
use Rattle.om_pool.proofs.Spending.{uses-quiet}
use Rattle.om_pool.proofs.UnderwayLaws.{come-drawn, core-come}
use Rattle.om_pool.proofs.pool_core.Core.delay.Goals as goal

pub draw-word-requires : goal.draw-word-requires
draw-word-requires g c = let few = core_drawn c.args.self.now c.requires.kept c.requires.room.short in omega arith

pub written_late-requires-clause-held : goal.written_late-requires-clause-held
written_late-requires-clause-held g c =
    let old = c.args.self.now in
    let Held : Holdings → Type 0 = λ x. AreHeldSlots x.shelf x.slots in
    subst Held (sym c.draw-word.ensures.same) (slots-held (rules_in old.state) (tables_in old.state) (core_state old) (core-sound old c.requires.kept) c.requires.kept.tables)

pub move_to_slot-release-requires-clause-come : goal.move_to_slot-release-requires-clause-come
move_to_slot-release-requires-clause-come g c =
    let old = c.args.self.now in
    let b = c.args.broker.now in
    let is = c.requires.kept in
    let start = core_state old in
    let state = drawn_more 1 start in
    let place = c.args.place in
    let block = c.requires.whole.0 in
    let draws = c.draw-word.ensures.same in
    let Here : Holdings → Type 0 = λ x. IsPlaceOf (rules_in x) state place block in (
      state,
      come-drawn g.B.Broker old b start (core-come g.B.Broker old b is c.requires.backed) c.draw-word.new.self draws,
      block,
      subst Here (sym draws) (place-of (rules_in old.state) (tables_in old.state) start (core-sound old is) is.tables c.args.address place block c.requires.whole.1),
    )

pub returns-in-Some : goal.returns-in-Some
returns-in-Some g c =
    let old = c.args.self.now in
    let is = c.requires.kept in
    let rules = rules_in old.state in
    let start = core_state old in
    let draws = c.draw-word.ensures in
    let enters = c.enter_free.ensures in
    let new = c.enter_free.new.self in
    let late = c.written_late.ensures ∙ late-shown old.state start is.tables is.drawn c.draw-word.new.self draws.same c.draw-word.result c.slot_by-slot.result draws.word c.slot_by-slot.ensures.slot in
    let found : Changed = c.in-Some.field-0 in
    let answer = reply.Fault (fault.WriteAfterFree found.addr found.offset) in
    let tells = told-by old new c.args.who (Free c.args.address) answer (free rules start c.args.address) c.draw-word.new.self c.draw-word.result c.one.result is refl refl
    (ap (free_at rules start c.args.address) c.requires.whole.1 ∙ late-told rules start c.args.place c.requires.whole.0 c.requires.whole.2 found (sym late ∙ c.in-Some.is))
    draws.word draws.same c.one.ensures enters.added enters.same in
    record {
      kept = tells.kept;
      backed = backed-quiet g.B.Broker old new c.args.broker.now c.args.who (Free c.args.address) answer tells.quiet c.requires.backed;
      uses = uses-quiet g.B.Broker old new c.args.broker.now c.args.who (Free c.args.address) answer tells.quiet refl;
      taken = tells.taken;
    }

pub returns : goal.returns
returns g c =
    let old = c.args.self.now in
    let is = c.requires.kept in
    let rules = rules_in old.state in
    let start = core_state old in
    let state = drawn_more 1 start in
    let place = c.args.place in
    let block = c.requires.whole.0 in
    let slot = c.slot_by-slot.result in
    let b = c.args.broker.now in
    let own = c.draw-word.new.self in
    let draws = c.draw-word.ensures.same in
    let word : c.draw-word.result ≡ word_at rules start.drawn = c.draw-word.ensures.word ∙ ap (word_at rules) is.drawn in
    let at = slot-drawn old.state start is.tables is.drawn own draws c.draw-word.result slot c.draw-word.ensures.word c.slot_by-slot.ensures.slot in
    let late = c.written_late.ensures ∙ late-shown old.state start is.tables is.drawn own draws c.draw-word.result slot c.draw-word.ensures.word c.slot_by-slot.ensures.slot in
    let Here : Holdings → Type 0 = λ x. IsPlaceOf (rules_in x) state place block in
    let here = subst Here (sym draws) (place-of rules (tables_in old.state) start (core-sound old is) is.tables c.args.address place block c.requires.whole.1) in
    let come = come-drawn g.B.Broker old b start (core-come g.B.Broker old b is c.requires.backed) own draws in
    let moves = c.move_to_slot-release.ensures in
    let mid = c.move_to_slot-release.new.self in
    let after = c.move_to_slot-release.new.broker in
    let release = c.move_to_slot-release.result in
    let left : Freed = moved_to_slot rules state slot place in
    let leaves = leaves-from g.B.Broker old (record old { state = own }) mid b after start state (moved_to_slot (rules_in own) state slot place) left release
    (ap rules_in draws) refl (ap (λ (x : Holdings). moved_to_slot (rules_in x) state slot place) draws) (moves.left state come block here) in
    let done = free-done g.B.Broker old mid c.enter_free-2.new.self b after c.args.who c.args.address 1 c.one-2.result left release is c.requires.backed
    (ap (free_at rules start c.args.address) c.requires.whole.1 ∙ none-late rules start place block c.requires.whole.2 (sym late ∙ c.in_default.is) ∙ delay-is rules start place slot at)
    (c.one-2.ensures ∙ ap (λ w. w ∷ []) word) leaves moves.same c.enter_free-2.ensures.same c.enter_free-2.ensures.added in
    record { kept = done.kept; backed = done.backed; uses = done.uses; taken = done.taken }
