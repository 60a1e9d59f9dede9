use Rattle.std.proofs.Common.{map, arith, sym, ap, ◌∙◌}
use Rattle.std.specs.List.{flat_map}
use Rattle.std.proofs.lemmas.List.{take_all}
use Rattle.om_model.specs.Data.Room.{entries_of}
use Rattle.om_model.specs.Slow.{seen_at, begun_by, answered_from}
use Rattle.om_model.proofs.PlainCalls.{read-again}
use Rattle.om_model.proofs.slow.calls.calls_read.Goals as goal

pub returns : goal.returns
returns c =
    let pools = c.args.pools in
    let caller = c.args.caller in
    let journals = entries_of c.args.journals.now in
    let begun =
    take_all c.loop-call.call-index c.deref-call-items.result.now (omega arith) ∙ c.deref-call-items.ensures.value ∙ c.in_ok-calls.ensures
    ∙ ap (flat_map begun_by) (c.deref.ensures.value ∙ c.in_ok-seen.ensures) in
    λ answered ascend calls.
    read-again pools caller answered journals c.requires ascend calls
    ∙ sym (c.loop-call.invariant ∙ ap (map (answered_from pools caller (seen_at caller journals))) begun)
