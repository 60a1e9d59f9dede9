use Rattle.std.proofs.Common.{◌≡◌, ℕ, ◌∙◌, ◌++◌, Some, sym, ap, arith}
use Rattle.std.specs.List.{flat_map, enumerate_from, slice_get}
use Rattle.std.proofs.lemmas.Option.{slice_get-get_or}
use Rattle.om_model.specs.Output.Content.{Told}
use Rattle.om_model.specs.Output.Text.{script_text}
use Rattle.om_model.proofs.Lists.{take_enumerated}
use Rattle.om_model.proofs.PlainText.{text_next, numbered_at}
use Rattle.om_model.proofs.slow.text.push_scripts.Goals as goal

pub loop-number-preserved : goal.loop-number-preserved
loop-number-preserved c =
    let scripts = c.args.scripts.now in
    let number = c.loop-number.number in
    let told = c.index-scripts-number.result in
    let numbered : ℕ × Told = (number, told) in
    let here : slice_get scripts number ≡ Some told = slice_get-get_or scripts number told (omega arith) ∙ ap Some (sym c.index-scripts-number.is) in
    text_next script_text c.args.out.now.items c.loop-number.out.items c.push_script.new.out.items (enumerate_from 0 scripts) number numbered
    (numbered_at 0 scripts number number told here (omega arith)) c.loop-number.invariant c.in_ok-push_script.ensures

pub returns : goal.returns
returns c =
    let scripts = c.args.scripts.now in
    c.loop-number.invariant
    ∙ ap (λ numbered. c.args.out.now.items ++ flat_map script_text numbered) (take_enumerated 0 scripts c.loop-number.number (omega arith))
