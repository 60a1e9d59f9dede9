use Rattle.std.proofs.Common.{◌≡◌, ℕ, ◌≤◌, Bool, true, false, not, List, Option, Some, None, IsTrue, ◌↔◌, refl, sym, ap, ◌∙◌, arith}
use Rattle.std.specs.Option.{is_some}
use Rattle.om_model.specs.Zones.Order.{last_version, fit_at}
use Rattle.om_model.specs.Zones.Looks.{IsTrueLook}
use Rattle.om_model.specs.declared.entry.ZoneMove.{ZoneMove}
use Rattle.om_model.specs.declared.looks.Look.{Look}
use Rattle.om_model.proofs.slow.looks.is_true_look.Goals as goal

found-none : (found : Option ℕ) (none : Bool) → is_some found ≡ not none → none ≡ true → found ≡ None
found-none None none is passes = refl
found-none (Some first) true is passes = cc
found-none (Some first) false is passes = cc

none-found : (found : Option ℕ) (none : Bool) → is_some found ≡ not none → found ≡ None → none ≡ true
none-found found true is e = refl
none-found None false is e = cc
none-found (Some first) false is e = cc

decides : (moves : List ZoneMove) (count word version last : ℕ) (look : Look) (found : Option ℕ) (none : Bool)
    → version ≡ look.version → last ≡ last_version moves look.zone → version ≤ last
    → found ≡ fit_at moves look.zone version count word → is_some found ≡ not none
    → IsTrue none ↔ IsTrueLook moves count word look
decides moves count word version last look found none version_is last_is within found_is is =
    let fit = found_is ∙ ap (λ v. fit_at moves look.zone v count word) version_is in (
      (λ passes. record { version = omega arith; full = sym fit ∙ found-none found none is passes }),
      (λ true_look. none-found found none is (fit ∙ true_look.full)),
    )

pub returns-then-version-last_version : goal.returns-then-version-last_version
returns-then-version-last_version c =
    decides c.args.moves.now c.args.count c.args.word c.from-version.result c.last_version.result c.args.look c.fit_at.result c.is_none.result
    c.from-version.ensures c.last_version.ensures c.if-version-last_version.true c.fit_at.ensures c.is_none.ensures
