use Rattle.std.proofs.Common.{◌≡◌, false, arith}
use Rattle.std.proofs.lemmas.Bool.Decides.{when_false}
use Rattle.om_script.specs.Lines.{words_in}
use Rattle.om_script.proofs.WordSteps.{too_many}
use Rattle.om_script.proofs.script.Script.+add_names.Goals as goal

pub returns-then-not-branch : goal.returns-then-not-branch
returns-then-not-branch t c =
    let no : c.in_ok-add_word-in-Some.field-0 ≡ false = grind arith in
    too_many c.args.self.now.names c.args.kinds.now _ (words_in c.args.words.now) c.in-Some.word.now (words_in c.in-Some.more.now) (omega arith) c.in-Some.ensures.words
    (when_false _ _ no c.in_ok-add_word-in-Some.ensures)
