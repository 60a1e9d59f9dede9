use Rattle.std.proofs.Common.{◌≡◌, ℕ, ◌+◌, [], ◌∷◌, ◌++◌, List, length, map, None, ◌/◌, ◌%◌, get_or, refl, sym, ◌∙◌, ap, subst, arith}
use Rattle.std.specs.List.{range_with_len}
use Rattle.std.proofs.lemmas.List.{length_push}
use Rattle.std.proofs.lemmas.List.FromFn.{map-range_with_len_more}
use Rattle.std.proofs.lemmas.Bool.{cases_eq}
use Rattle.std.proofs.lemmas.Grind.{common_steps, get_or_default_zero}
use Rattle.om_model.specs.declared.looks.Look.{Look}
use Rattle.om_broker.specs.Zones.{ZoneTable, ArePassed, fit_in, look_of, searched_in}
use Rattle.om_broker.proofs.zones.Zones.search.Goals as goal
use mathlib.Core.Logic.{⊎_elim}

-- one more zone is passed over
ArePassed-push : (table : ZoneTable) (n word : ℕ) (looks : List Look) (look : Look) → ArePassed table n word looks → look ≡ look_of table word (length looks) → fit_in table n word (searched_in table word (length looks)) ≡ None → ArePassed table n word (looks ++ look ∷ [])
ArePassed-push table n word looks look passed same none = record {
  named =
      ap (λ (l : Look). looks ++ l ∷ []) same
      ∙ ap (λ (ls : List Look). ls ++ look_of table word (length looks) ∷ []) passed.named
      ∙ sym (map-range_with_len_more (look_of table word) 0 (length looks) (length looks) (omega arith))
      ∙ ap (λ k. map (look_of table word) (range_with_len 0 k)) (sym (length_push looks look));
  full = λ i lt. ⊎_elim
      (λ e. subst (λ k. fit_in table n word (searched_in table word k) ≡ None) (sym e) none)
      (λ ne. let short = length_push looks look in passed.full i (omega arith))
      (cases_eq i (length looks));
}

pub loop-i-preserved : goal.loop-i-preserved
loop-i-preserved c =
    let same : length c.self.inside.bits.items ≡ c.len-zones.result = omega arith in
    let version : c.index-version.result.now ≡ get_or c.self.inside.versions.items ((c.args.word / 32 + c.loop-i.i) % c.len-zones.result) 0 = c.index-version.ensures ∙ get_or_default_zero c.self.inside.versions.items ((c.args.word / 32 + c.loop-i.i) % c.len-zones.result) _ (omega arith) in
    let bits : c.index.result.now ≡ get_or c.self.inside.bits.items ((c.args.word / 32 + c.loop-i.i) % c.len-zones.result) 0 = c.index.ensures ∙ get_or_default_zero c.self.inside.bits.items ((c.args.word / 32 + c.loop-i.i) % c.len-zones.result) _ (omega arith) in
    record {
      many = grind (arith, common_steps);
      passed = let P : List Look → Type 0 = ArePassed c.args.self.now c.args.n c.args.word in
          subst P (sym c.push.ensures.items) (ArePassed-push _ _ _ c.loop-i.looks.items _ c.loop-i.invariant.passed
          (rw (← c.self.view_is, c.loop-i.invariant.many, same, ← version) refl)
          (rw (← c.self.view_is, c.loop-i.invariant.many, same, ← bits) (sym c.fit.ensures.value ∙ c.in_default.is)));
      spare = omega arith;
    }
