use Rattle.std.proofs.lemmas.Option.{IfSome_then}
use Rattle.om_geom.specs.Fit.{has_bit}
use Rattle.om_geom.specs.FitLaws.{HasClearRun, IfSome-fit}
use Rattle.om_geom.proofs.runs.fit.Goals as goal

pub returns-clause-within : goal.returns-clause-within
returns-clause-within c = IfSome_then c.first_clear_run.result (IfSome-fit (has_bit c.args.bits) c.args.n c.args.start _ c.first_clear_run.ensures) (λ first (run : HasClearRun (has_bit c.args.bits) c.args.n first). run.within)

pub returns-clause-clear : goal.returns-clause-clear
returns-clause-clear c = IfSome_then c.first_clear_run.result (IfSome-fit (has_bit c.args.bits) c.args.n c.args.start _ c.first_clear_run.ensures) (λ first (run : HasClearRun (has_bit c.args.bits) c.args.n first). run.clear)
