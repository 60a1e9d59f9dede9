use Rattle.std.proofs.Common.{◌≡◌, ◌∙◌, sym, ap, subst, [], rules, Err}
use Rattle.om_script.specs.Lines.{text_lines}
use Rattle.om_script.specs.Steps.{step, go_on, Leads}
use Rattle.om_script.proofs.Whole.{refused_here, ends_here}
use Rattle.om_script.proofs.Sound.{read_sound}
use Rattle.om_script.proofs.reading.read.Goals as goal

pub returns-in-Some-2-clause-refused : goal.returns-in-Some-2-clause-refused
returns-in-Some-2-clause-refused c =
    let refused : step c.loop-line.reader c.loop-line.number c.in-Some.line.now ≡ Err c.in-Some-2.refusal =
    subst (Leads (step c.loop-line.reader c.loop-line.number c.in-Some.line.now) c.read_line.new.self) c.in-Some-2.is c.in_ok-refusal.ensures in
    refused_here c.args.text.now c.loop-line.rest.now c.in-Some.line.now c.in-Some.more.now c.loop-line.reader c.loop-line.number c.in-Some-2.refusal c.loop-line.invariant.same c.in-Some.ensures.lines refused

pub finish-requires : goal.finish-requires
finish-requires c = λ scripts e.
    let none : text_lines c.loop-line.rest.now ≡ [] = search rules in
    read_sound (text_lines c.args.text.now) 1 scripts (sym c.loop-line.invariant.same ∙ ap (go_on c.loop-line.reader c.loop-line.number) none ∙ e)

pub returns-in-Ok-clause-accepted : goal.returns-in-Ok-clause-accepted
returns-in-Ok-clause-accepted c =
    let none : text_lines c.loop-line.rest.now ≡ [] = search rules in
    ends_here c.args.text.now c.loop-line.rest.now c.loop-line.reader c.loop-line.number c.loop-line.invariant.same none ∙ c.in-Ok.ensures

pub returns-in-Err-clause-refused : goal.returns-in-Err-clause-refused
returns-in-Err-clause-refused c =
    let none : text_lines c.loop-line.rest.now ≡ [] = search rules in
    ends_here c.args.text.now c.loop-line.rest.now c.loop-line.reader c.loop-line.number c.loop-line.invariant.same none ∙ c.in-Err.ensures
