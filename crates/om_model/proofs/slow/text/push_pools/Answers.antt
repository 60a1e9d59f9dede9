use Rattle.std.proofs.Common.{◌≡◌, ℕ, List, length, ◌∙◌, ◌++◌, Some, sym, ap, arith}
use Rattle.std.specs.List.{flat_map, enumerate_from, slice_get}
use Rattle.std.specs.Option.{option_map}
use Rattle.std.proofs.lemmas.Option.{slice_get-get_or, slice_get-map}
use Rattle.std.proofs.lemmas.List.{length-map}
use Rattle.om_model.specs.Data.Room.{Entries, entries_of}
use Rattle.om_model.specs.declared.entry.Entry.{Entry}
use Rattle.om_model.specs.Output.Text.{pool_text}
use Rattle.om_model.proofs.Lists.{take_enumerated}
use Rattle.om_model.proofs.PlainText.{text_next, numbered_at}
use Rattle.om_model.proofs.slow.text.push_pools.Goals as goal

pub loop-pool-preserved : goal.loop-pool-preserved
loop-pool-preserved c =
    let journals = c.args.journals.now in
    let pool = c.loop-pool.pool in
    let journal = c.index-journals-pool.result in
    let numbered : ℕ × List Entry = (pool, journal.items) in
    let here : slice_get journals pool ≡ Some journal = slice_get-get_or journals pool journal (omega arith) ∙ ap Some (sym c.index-journals-pool.is) in
    let at : slice_get (entries_of journals) pool ≡ Some journal.items = slice_get-map (λ (j : Entries). j.items) journals pool ∙ ap (option_map (λ (j : Entries). j.items)) here in
    text_next (pool_text c.args.head.now) c.args.out.now.items c.loop-pool.out.items c.push_pool.new.out.items (enumerate_from 0 (entries_of journals)) pool numbered
    (numbered_at 0 (entries_of journals) pool pool journal.items at (omega arith)) c.loop-pool.invariant c.in_ok-push_pool.ensures

pub returns : goal.returns
returns c =
    let journals = c.args.journals.now in
    let many : length (entries_of journals) ≡ length journals = length-map journals (λ (j : Entries). j.items) in
    c.loop-pool.invariant
    ∙ ap (λ numbered. c.args.out.now.items ++ flat_map (pool_text c.args.head.now) numbered) (take_enumerated 0 (entries_of journals) c.loop-pool.pool (omega arith))
