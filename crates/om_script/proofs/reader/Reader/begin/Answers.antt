use Rattle.std.proofs.Common.{◌≡◌, ◌<◌, ◌∙◌, sym, ap, subst, length, arith, true, false, Some, Ok}
use Rattle.std.specs.List.{list_any}
use Rattle.std.specs.Str.{bytes_eq}
use Rattle.om_script.specs.Lines.{words_in}
use Rattle.om_script.specs.Keywords.{word_at}
use Rattle.om_script.specs.Script.{ScriptText}
use Rattle.om_script.specs.Reading.{Reading}
use Rattle.om_script.specs.Standing.{most_scripts}
use Rattle.om_script.specs.Steps.{titled}
use Rattle.om_script.proofs.ReaderSteps.{begin_double, begin_new}
use Rattle.om_script.proofs.reader.Reader.begin.Goals as goal

pub returns-then-has_name : goal.returns-then-has_name
returns-then-has_name c =
    let done : c.self.inside.done.items ≡ c.args.self.now.done = ap (λ r. r.done) c.self.view_is in
    let few : length c.args.self.now.done < most_scripts = omega (arith, ap length done, ap length c.deref.ensures.value, c.deref.ensures.len, c.len.ensures, c.if-len-ge-MOST_SCRIPTS.false) in
    let found : list_any (λ (s : ScriptText). bytes_eq s.name c.word_at-name.result.now) c.deref.result.now ≡ true = sym c.has_name.ensures ∙ c.if-has_name.true in
    let there : list_any (λ (s : ScriptText). bytes_eq s.name (word_at (words_in c.args.words.now) 0)) c.args.self.now.done ≡ true =
    subst (λ w. list_any (λ (s : ScriptText). bytes_eq s.name w) c.args.self.now.done ≡ true) c.word_at-name.ensures
    (subst (λ ss. list_any (λ (s : ScriptText). bytes_eq s.name c.word_at-name.result.now) ss ≡ true) (c.deref.ensures.value ∙ done) found) in
    begin_double c.args.self.now c.args.line (words_in c.args.words.now) c.requires.outside few there

pub returns : goal.returns
returns c =
    let done : c.self.inside.done.items ≡ c.args.self.now.done = ap (λ r. r.done) c.self.view_is in
    let few : length c.args.self.now.done < most_scripts = omega (arith, ap length done, ap length c.deref.ensures.value, c.deref.ensures.len, c.len.ensures, c.if-len-ge-MOST_SCRIPTS.false) in
    let found : list_any (λ (s : ScriptText). bytes_eq s.name c.word_at-name.result.now) c.deref.result.now ≡ false = sym c.has_name.ensures ∙ c.if-has_name.false in
    let there : list_any (λ (s : ScriptText). bytes_eq s.name (word_at (words_in c.args.words.now) 0)) c.args.self.now.done ≡ false =
    subst (λ w. list_any (λ (s : ScriptText). bytes_eq s.name w) c.args.self.now.done ≡ false) c.word_at-name.ensures
    (subst (λ ss. list_any (λ (s : ScriptText). bytes_eq s.name c.word_at-name.result.now) ss ≡ false) (c.deref.ensures.value ∙ done) found) in
    let begun : Reading → ScriptText → Reading = λ r script. record r { current = Some (record { line = c.args.line; script = script }) } in
    begin_new c.args.self.now c.args.line (words_in c.args.words.now) c.requires.outside few there
    ∙ ap (λ name. Ok (begun c.args.self.now (titled name))) (sym c.word_at-name.ensures)
    ∙ ap (λ script. Ok (begun c.args.self.now script)) (sym c.in_ok-script.ensures)
    ∙ ap (λ r. Ok (begun r c.in_ok-script.script)) (sym c.self.view_is)
