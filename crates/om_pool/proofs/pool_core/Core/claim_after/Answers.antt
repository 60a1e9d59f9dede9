use Rattle.std.proofs.Common.{ℕ, sym, subst, ap, arith}
use Rattle.om_geom.specs.Classes.{data_pages}
use Rattle.om_model.specs.Pool.Runs.{Run}
use Rattle.om_pages.specs.Tables.{block_pages}
use Rattle.om_pool.specs.Malloc.{IsOwnRun}
use Rattle.om_pool.proofs.InPlaceLaws.{claimed-next, count-most, grown-come, next-run, taken-come, underway-after}
use Rattle.om_pool.proofs.UnderwayLaws.{come-tied}
use Rattle.om_pool.proofs.pool_core.Core.claim_after.Goals as goal

pub overflow_cast-first : goal.overflow_cast-first
overflow_cast-first g c =
    let asks = underway-after g.B.Broker c.args.self.now c.args.broker.now c.args.block c.args.size c.requires.come in
    omega (arith, asks.low, c.page_at.ensures)

pub overflow_add-after : goal.overflow_add-after
overflow_add-after g c =
    let asks = underway-after g.B.Broker c.args.self.now c.args.broker.now c.args.block c.args.size c.requires.come in
    omega (arith, asks.low, asks.few, asks.more, c.page_at.ensures, c.pages_of-old.ensures, c.with_guard.ensures, count-most c.pages_of-old.result c.args.self.now.state.opts.guard)

pub claim_at-requires-clause-some : goal.claim_at-requires-clause-some
claim_at-requires-clause-some g c =
    let asks = underway-after g.B.Broker c.args.self.now c.args.broker.now c.args.block c.args.size c.requires.come in
    omega (arith, asks.more, c.pages_of-old.ensures, c.pages_of-new.ensures)

pub claim_at-requires-clause-there : goal.claim_at-requires-clause-there
claim_at-requires-clause-there g c =
    let old = c.args.self.now in
    let come = c.requires.come.1 in
    let asks = underway-after g.B.Broker old c.args.broker.now c.args.block c.args.size c.requires.come in
    let run = next-run g.B.Broker old c.args.broker.now c.requires.come.0 come c.args.block c.args.size c.args.site c.page_at.result c.pages_of-old.result c.pages_of-new.result c.page_at.ensures c.pages_of-old.ensures c.pages_of-new.ensures
    c.requires.come.2 c.with_guard.result c.with_guard.ensures in
    omega (arith, ap (λ (r : Run). r.first) run, ap (λ (r : Run). r.count) run, asks.after, asks.more, c.pages_of-old.ensures, c.pages_of-new.ensures, come.zones)

pub grow_claimed-requires-clause-more : goal.grow_claimed-requires-clause-more
grow_claimed-requires-clause-more g c =
    let asks = underway-after g.B.Broker c.args.self.now c.args.broker.now c.args.block c.args.size c.requires.come in
    omega (arith, asks.more, c.pages_of-old.ensures, c.pages_of-new.ensures)

pub grow_claimed-requires-clause-tied : goal.grow_claimed-requires-clause-tied
grow_claimed-requires-clause-tied g c = come-tied g.B.Broker c.args.self.now c.args.broker.now c.requires.come.0 c.requires.come.1

pub grow_claimed-requires-clause-run : goal.grow_claimed-requires-clause-run
grow_claimed-requires-clause-run g c =
    let own = c.args.self.now.state in
    let asks = underway-after g.B.Broker c.args.self.now c.args.broker.now c.args.block c.args.size c.requires.come in
    let Run : ℕ → ℕ → Type 0 = λ n first. IsOwnRun own (block_pages n own.opts.guard) first in
    subst (λ n. Run n c.page_at.result) (sym c.pages_of-old.ensures) (subst (Run (data_pages c.args.block.size)) (sym c.page_at.ensures) asks.run)

pub grow_claimed-requires-clause-next : goal.grow_claimed-requires-clause-next
grow_claimed-requires-clause-next g c =
    let old = c.args.self.now in
    let asks = underway-after g.B.Broker old c.args.broker.now c.args.block c.args.size c.requires.come in
    let run = next-run g.B.Broker old c.args.broker.now c.requires.come.0 c.requires.come.1 c.args.block c.args.size c.args.site c.page_at.result c.pages_of-old.result c.pages_of-new.result c.page_at.ensures c.pages_of-old.ensures c.pages_of-new.ensures
    c.requires.come.2 c.with_guard.result c.with_guard.ensures in
    claimed-next g.B.Broker old c.args.broker.now c.requires.come.0 c.requires.come.1 c.args.block c.args.size c.args.site c.page_at.result c.pages_of-old.result c.pages_of-new.result c.page_at.ensures c.pages_of-old.ensures c.pages_of-new.ensures
    c.requires.come.2 c.with_guard.result c.with_guard.ensures c.claim_at.new.self c.in-Claimed.at c.in-Claimed.frames
    (record {
      same = record { arena = c.in-Claimed.ensures.arena; part = c.in-Claimed.ensures.part };
      asked = c.in-Claimed.ensures.asks;
      inside = omega (arith, ap (λ (r : Run). r.first) run, ap (λ (r : Run). r.count) run, asks.one_zone);
      found = c.in-Claimed.ensures.found;
      spent = c.in-Claimed.ensures.spent;
      made = c.in-Claimed.ensures.made;
    })

pub returns-in-Claimed-clause-grown : goal.returns-in-Claimed-clause-grown
returns-in-Claimed-clause-grown g c state come on =
    let old = c.args.self.now in
    let asks = underway-after g.B.Broker old c.args.broker.now c.args.block c.args.size c.requires.come in
    let run = next-run g.B.Broker old c.args.broker.now state come c.args.block c.args.size c.args.site c.page_at.result c.pages_of-old.result c.pages_of-new.result c.page_at.ensures c.pages_of-old.ensures c.pages_of-new.ensures
    on c.with_guard.result c.with_guard.ensures in
    grown-come g.B.Broker old c.args.broker.now state come c.args.block c.args.size c.args.site c.page_at.result c.pages_of-old.result c.pages_of-new.result c.page_at.ensures c.pages_of-old.ensures c.pages_of-new.ensures
    on c.with_guard.result c.with_guard.ensures c.claim_at.new.self c.in-Claimed.at c.in-Claimed.frames
    (record {
      same = record { arena = c.in-Claimed.ensures.arena; part = c.in-Claimed.ensures.part };
      asked = c.in-Claimed.ensures.asks;
      inside = omega (arith, ap (λ (r : Run). r.first) run, ap (λ (r : Run). r.count) run, asks.one_zone);
      found = c.in-Claimed.ensures.found;
      spent = c.in-Claimed.ensures.spent;
      made = c.in-Claimed.ensures.made;
    })
    c.grow_claimed.new.self c.grow_claimed.ensures.same c.grow_claimed.ensures.tables

pub returns-in-Taken-clause-grown : goal.returns-in-Taken-clause-grown
returns-in-Taken-clause-grown g c state come on =
    let old = c.args.self.now in
    let asks = underway-after g.B.Broker old c.args.broker.now c.args.block c.args.size c.requires.come in
    let run = next-run g.B.Broker old c.args.broker.now state come c.args.block c.args.size c.args.site c.page_at.result c.pages_of-old.result c.pages_of-new.result c.page_at.ensures c.pages_of-old.ensures c.pages_of-new.ensures
    on c.with_guard.result c.with_guard.ensures in
    taken-come g.B.Broker old c.args.broker.now state come c.args.block c.args.size c.args.site c.page_at.result c.pages_of-old.result c.pages_of-new.result c.page_at.ensures c.pages_of-old.ensures c.pages_of-new.ensures
    on c.with_guard.result c.with_guard.ensures c.claim_at.new.self c.in-Taken.look
    (record {
      same = record { arena = c.in-Taken.ensures.arena; part = c.in-Taken.ensures.part };
      asked = c.in-Taken.ensures.asks;
      inside = omega (arith, ap (λ (r : Run). r.first) run, ap (λ (r : Run). r.count) run, asks.one_zone);
      found = c.in-Taken.ensures.found;
      spent = c.in-Taken.ensures.spent;
      made = c.in-Taken.ensures.made;
    })
