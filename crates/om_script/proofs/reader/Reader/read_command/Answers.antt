use Rattle.std.proofs.Common.{◌≡◌, ◌∙◌, sym, ap, subst, true, false, arith, IfOk, Result, ℕ}
use Rattle.std.proofs.lemmas.Grind.{common_steps}
use Rattle.om_script.specs.declared.keyword.Keyword.TheVariants as keyword
use Rattle.om_script.specs.Lines.{words_in}
use Rattle.om_script.specs.Keywords.{kinds_behind, fit, any_word, is_too_large}
use Rattle.om_script.specs.Reading.{Reading}
use Rattle.om_script.specs.Standing.{is_misplaced}
use Rattle.om_script.specs.Steps.{standing_of, limited_step, keyword_step, Leads}
use Rattle.om_script.proofs.Whole.{limited}
use Rattle.om_script.proofs.reader.Reader.read_command.Goals as goal

pub returns-in-Command : goal.returns-in-Command
returns-in-Command c =
    let words = words_in c.args.words.now in
    let placed : is_misplaced (standing_of c.args.self.now) c.args.keyword ≡ false = sym c.is_misplaced.ensures ∙ c.if-is_misplaced.false in
    let fits : fit (kinds_behind c.args.keyword) words ≡ true = grind (arith, common_steps) in
    let small : any_word is_too_large (kinds_behind c.args.keyword) words ≡ false = grind (arith, common_steps) in
    let same : limited_step c.args.self.now c.args.line (keyword.Command c.in-Command.verb) words ≡ keyword_step c.args.self.now c.args.line c.args.keyword words =
    ap (λ k. limited_step c.args.self.now c.args.line k words) (sym c.in-Command.is) ∙ limited c.args.self.now c.args.line c.args.keyword words placed fits small in
    subst (λ (taken : Result Reading ℕ). IfOk c.add.result (Leads taken c.add.new.self)) same (c.add.ensures c.args.line)
