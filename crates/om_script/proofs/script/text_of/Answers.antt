use Rattle.om_script.proofs.NameTexts.{name_is_text}
use Rattle.om_script.proofs.script.text_of.Goals as goal

pub unreachable-requires : goal.unreachable-requires
unreachable-requires c = c.in-Err.ensures.cases.0 (name_is_text c.args.name.now c.requires)
