use Rattle.std.proofs.Common.{ℕ, ◌<◌, sym, subst}
use Rattle.std.specs.List.{AllByRecursion}
use Rattle.om_model.proofs.PlainExtents.{bytes-decided}
use Rattle.om_model.proofs.slow.well_formed.has_its_bytes.Goals as goal

pub returns-then-are_in_memory : goal.returns-then-are_in_memory
returns-then-are_in_memory c =
    let state = c.args.state.now in
    let fits = c.are_in_memory.ensures.0 c.if-are_in_memory.true in
    let Below : ℕ → Type 0 = λ n. AllByRecursion (λ page. page < n) state.held in (
      (λ all. (fits.0, fits.1, bytes-decided state (subst Below (sym fits.1) fits.0) (c.have_bytes.ensures.0 all))),
      (λ is. c.have_bytes.ensures.1 (λ page there. is.2 page)),
    )
