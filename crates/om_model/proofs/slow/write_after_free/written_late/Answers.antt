use Rattle.std.proofs.Common.{◌≡◌, false, List, IfOk, Option, None, refl, sym, subst, ◌∙◌}
use Rattle.std.specs.Prelude.{slice_index_or}
use Rattle.std.specs.Option.{option_map}
use Rattle.om_delay.specs.Changes.{changed_of}
use Rattle.om_delay.specs.declared.check.Changed.{Changed}
use Rattle.om_model.specs.Output.Head.{rules_of}
use Rattle.om_model.specs.Pool.Junk.{extent_of_place}
use Rattle.om_model.specs.declared.block.Place.{Place}
use Rattle.om_model.proofs.LateWrites.{late-in-slot}
use Rattle.om_model.proofs.slow.write_after_free.written_late.Goals as goal

pub returns-else-head : goal.returns-else-head
returns-else-head c =
    let alone : c.args.head.now.options.freecheck ≡ false = rw (← c.head.view_is) c.if-head.false in
    let late = late-in-slot (rules_of c.args.head.now c.args.pool) c.args.state.now c.args.slot (sym c.fills_freed.ensures ∙ c.if-not-fills_freed.false) alone in
    let Finds : Option Changed → Type 0 = λ found. IfOk c.written_in.result (λ other. other ≡ found) in
    let At : List (Option Place) → Type 0 = λ slots. Finds (changed_of c.args.state.now.memory (option_map extent_of_place (slice_index_or slots c.args.slot None))) in
    let same : c.state.inside.slots ≡ c.args.state.now.slots = rw (← c.state.view_is) refl in
    subst Finds (sym late) (subst At same c.written_in.ensures)
