use Rattle.std.proofs.Common.{◌≡◌, ℕ, true, subst, ap, ◌∙◌, arith}
use Rattle.std.proofs.lemmas.Bool.{and_from, le-leb}
use Rattle.om_frame.specs.Memory as frames
use Rattle.om_geom.specs.Addresses.{page_at}
use Rattle.om_geom.specs.ClassLaws.{class_of-is_class, place-within}
use Rattle.om_geom.specs.Numbers.{first_address}
use Rattle.om_pool.specs.HoldingsView.{rules_in}
use Rattle.om_pool.specs.Tables.{Tables}
use Rattle.om_pool.proofs.holdings.Holdings.settle_filled.Goals as goal

pub write_canaries-requires-clause-bytes : goal.write_canaries-requires-clause-bytes
write_canaries-requires-clause-bytes c at low high =
    let own = c.args.self.now in
    let class = c.args.class.0 in
    let page = c.args.picked.page.0 in
    let within = place-within class c.args.picked.place (class_of-is_class c.args.size (rules_in own).options.canary class c.requires.class) c.requires.free.place_there in
    let start = c.settle-address.ensures.address in
    let here : page ≡ page_at at = omega (arith, start, within) in
    let Held : ℕ → Type 0 = λ p. frames.is_held own.shelf p ≡ true in
    let held = and_from _ _ (le-leb first_address at (omega (arith, start))) (subst Held here c.requires.held) in
    c.fill_fresh.ensures.held at ∙ ap (λ (t : Tables). frames.is_held_at t.memory at) c.settle-address.ensures.tables ∙ held
