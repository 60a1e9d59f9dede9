use Rattle.std.proofs.Common.{◌≡◌, ℕ, ◌+◌, IfOk, ap, ◌∙◌, subst}
use Rattle.om_model.specs.Output.Head.{rules_of}
use Rattle.om_model.specs.Pool.Malloc.{Placed, words_for, placing}
use Rattle.om_model.specs.Pool.Realloc.{slot_words, moved_where}
use Rattle.om_model.specs.Pool.State.{State}
use Rattle.om_model.specs.Slow.{resize_in}
use Rattle.om_model.proofs.slow.moving.moved.Goals as goal

pub returns : goal.returns
returns c =
    let pool_rules = rules_of c.args.head.now c.args.pool in
    let asked = c.args.asked in
    let Moves : Placed → ℕ → Type 0 = λ placed words.
    IfOk c.moved_where.result (λ step. step ≡ moved_where pool_rules c.args.state.now (resize_in asked) words placed placed.address) in
    let words = slot_words asked.place + words_for pool_rules asked.size in
    let placed_is = c.in_ok-placed.ensures ∙ ap (λ (from : State). placing pool_rules from asked.size asked.site c.args.claim) c.in_ok-from.ensures in
    let words_is = ap (λ (n : ℕ). n + c.words_for.result) c.slot_words.ensures ∙ ap (λ (n : ℕ). slot_words asked.place + n) c.words_for.ensures in
    subst (λ placed. Moves placed words) placed_is (subst (λ n. Moves c.in_ok-placed.placed n) words_is c.moved_where.ensures)
