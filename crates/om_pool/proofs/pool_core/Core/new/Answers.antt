use Rattle.std.proofs.Common.{◌≡◌, ◌+◌, ◌%◌, ◌≤◌, List, refl, sym, subst, ap, ◌∙◌}
use Rattle.om_geom.specs.Numbers.{most_zones}
use Rattle.om_model.specs.Pool.Journal.{IsLawful, state_of}
use Rattle.om_model.specs.Pool.Rules.{Rules}
use Rattle.om_model.specs.Pool.State.{State, opening}
use Rattle.om_model.specs.declared.entry.Entry.{Entry}
use Rattle.om_words.specs.DrawnWords.{WordSource, word_of}
use Rattle.om_pool.specs.HoldingsView.{rules_in, tables_in}
use Rattle.om_pool.specs.PoolView.{rules_by}
use Rattle.om_pool.specs.Tables.{StandFor}
use Rattle.om_pool.proofs.Begun.{tables-begin}
use Rattle.om_pool.proofs.pool_core.Core.new.Goals as goal

pub returns : goal.returns
returns c =
    let own = c.in_ok-new.field-0 in
    let made = c.in_ok-new.ensures in
    let given = rules_by c.args.opts c.args.zones c.args.words.source in
    let one = made.drawn ∙ ap (λ (words : WordSource). words.place) c.draw-word.ensures.next ∙ ap (λ n. n + 1) c.requires.first in
    let rules : rules_in own ≡ given = made.rules ∙ ap (λ (words : WordSource). rules_by c.args.opts c.args.zones words.source) c.draw-word.ensures.next in
    let source = ap (λ (r : Rules). r.words) rules in
    let entries = c.new-2.ensures in
    let state : state_of (rules_in own) c.new-2.result.items ≡ opening (rules_in own) = ap (state_of (rules_in own)) entries in
    let Lawful : List Entry → Type 0 = λ es. IsLawful (rules_in own) es in
    let begun = tables-begin given (tables_in own) made.pages made.chunks made.blocks made.slots made.memory in
    record {
      kept = record {
        lawful = subst Lawful (sym entries) (record { calls = tt; phases = refl });
        tables = subst (StandFor (rules_in own) (tables_in own)) (sym state) (let Stands : Rules → Type 0 = λ r. StandFor r (tables_in own) (opening r) in subst Stands (sym rules) begun);
        drawn = one ∙ ap (λ (s : State). s.drawn) (sym state);
        room = tt;
        canary = ap (λ w. w % 255 + 1) (c.draw-word.ensures.word ∙ ap (word_of c.args.words.source) c.requires.first ∙ ap (λ s. word_of s 0) (sym source));
        some_zone = subst (λ n. 1 ≤ n) (sym made.zones) c.requires.some_zone;
        few_zones = subst (λ n. n ≤ most_zones) (sym made.zones) c.requires.few_zones;
      };
      rules = rules;
      state = state ∙ ap opening rules;
      entries = entries;
    }
