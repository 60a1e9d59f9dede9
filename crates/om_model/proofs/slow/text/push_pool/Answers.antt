use Rattle.std.proofs.Common.{◌++◌, ◌∙◌, ap, codes, length}
use Rattle.std.specs.Fmt.{decimal}
use Rattle.std.proofs.lemmas.Result.{IfOk-equal}
use Rattle.om_model.specs.Output.Text.{byte_text, pool_title, entry_text, pool_lines, ended_line}
use Rattle.om_model.proofs.PlainText.{titled_added}
use Rattle.om_model.proofs.slow.text.push_pool.Goals as goal

pub returns : goal.returns
unfolding pool_lines
returns c =
    let head = c.args.head.now in
    let before = c.args.out.now.items in
    let entries = c.args.journal.now.items in
    let canary = ap (λ byte. before ++ ended_line (codes "pool " ++ decimal c.args.pool ++ codes " canary " ++ byte_text byte ++ codes " entries " ++ decimal c.len.result)) c.canary_byte.ensures in
    let title = c.in_ok-push_pool_title.ensures ∙ canary ∙ ap (λ n. before ++ ended_line (pool_title head c.args.pool n)) c.len.ensures.len in
    IfOk-equal _ _ _ _ c.push_entries.ensures (titled_added entry_text before c.push_pool_title.new.out.items (pool_title head c.args.pool (length entries)) entries title)
