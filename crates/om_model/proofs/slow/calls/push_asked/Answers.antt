use Rattle.std.proofs.Common.{◌≡◌, ◌+◌, ◌%◌, ◌<◌, Vec, Global, ◌++◌, [], ◌∷◌, length, get_or, take, sym, ap, ◌∙◌, arith, append-nil}
use Rattle.std.specs.List.{flat_map, enumerate_from}
use Rattle.om_model.specs.Scripts.Calls.{asked_of}
use Rattle.om_model.specs.declared.entry.Asked.{Asked}
use Rattle.om_model.specs.declared.reply.Reply.{Reply}
use Rattle.om_model.specs.declared.reply.Reply.TheVariants.{Block}
use Rattle.om_model.proofs.PlainCalls.{shows, asked-more, asked-here, asked-elsewhere, push-follows}
use Rattle.om_model.proofs.slow.calls.push_asked.Goals as goal
use Rattle.om_model.proofs.slow.calls.push_asked.Goals.{then-from-hop+in_ok-push, else-from-hop}

pub loop-hop-preserved : goal.loop-hop-preserved
loop-hop-preserved c =
    let pools = c.args.pools in
    let caller = c.args.caller in
    let pool = c.args.pool in
    let call = c.args.answered.now.call in
    let replies = c.args.answered.now.replies.items in
    let hop = c.loop-hop.hop in
    let reply = get_or replies hop (Block 0) in
    let lt : hop < length replies = omega arith in
    let part = flat_map (asked_of pools caller pool call) (enumerate_from 0 (take hop replies)) in
    let more = asked-more pools caller pool call replies hop (Block 0) lt in
    let wide : (caller + hop) % pools ≡ (c.from.result + hop) % c.from-in-loop-hop.result = cc in
    elim c.if-from-hop.branch [
      | then-from-hop+in_ok-push w ↦
          let read : get_or c.deref-reply-items.result.now hop (Block 0) ≡ reply = ap (λ xs. get_or xs hop (Block 0)) c.deref-reply-items.ensures.value in
          push-follows c.args.asked.now.items c.loop-hop.asked.items c.if-from-hop.asked.items part _ (asked_of pools caller pool call (hop, reply)) c.loop-hop.invariant
          (ap (λ (v : Vec Asked Global). v.items) w.asked-is ∙ w.in_ok-push.ensures.items
          ∙ ap (λ (r : Reply). c.loop-hop.asked.items ++ shows call hop r ∷ []) read
          ∙ ap (λ xs. c.loop-hop.asked.items ++ xs) (sym (asked-here pools caller pool call hop reply (wide ∙ w.if-from-hop.true ∙ c.from-in-loop-hop-2.ensures)))) more
      | else-from-hop w ↦
          push-follows c.args.asked.now.items c.loop-hop.asked.items c.if-from-hop.asked.items part _ (asked_of pools caller pool call (hop, reply)) c.loop-hop.invariant
          (ap (λ (v : Vec Asked Global). v.items) w.asked-is ∙ sym (append-nil c.loop-hop.asked.items)
          ∙ ap (λ xs. c.loop-hop.asked.items ++ xs) (sym (asked-elsewhere pools caller pool call hop reply (λ here. w.if-from-hop.false (sym wide ∙ here ∙ sym c.from-in-loop-hop-2.ensures))))) more
    ]
