use Rattle.std.proofs.Common.{◌≡◌, ℕ, ◌++◌, ap, sym, ◌∙◌}
use Rattle.std.specs.List.{flat_map}
use Rattle.om_model.specs.Data.Room.{entries_of}
use Rattle.om_model.specs.Slow.{replies_at, reply_to, seen_at}
use Rattle.om_model.proofs.PlainCalls.{range-flat_map}
use Rattle.om_model.proofs.slow.calls.replies_to.Goals as goal

pub loop-hop-preserved : goal.loop-hop-preserved
loop-hop-preserved c =
    let hop = c.loop-hop.hop in
    let command = c.args.command in
    let seen = seen_at c.args.caller (entries_of c.args.journals.now) in
    let found = replies_at c.args.pools c.args.caller seen command in
    let shown : flat_map (reply_to command c.from.result) c.deref.result.now ≡ found hop =
    ap (λ (at : ℕ). flat_map (reply_to command at) c.deref.result.now) c.from.ensures
    ∙ ap (flat_map (reply_to command hop)) (c.deref.ensures.value ∙ c.in_ok-seen.ensures ∙ ap seen c.pool_after-pool.ensures) in
    c.in_ok-push_replies.ensures ∙ ap (λ replies. c.loop-hop.replies.items ++ replies) shown
    ∙ ap (λ replies. replies ++ found hop) c.loop-hop.invariant ∙ sym (range-flat_map found hop)
