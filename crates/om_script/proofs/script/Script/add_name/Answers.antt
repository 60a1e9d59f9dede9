use Rattle.std.proofs.Common.{◌≡◌, ◌<◌, ◌≤◌, ◌∙◌, sym, ap, subst, map, length, arith, string_bytes, Global, false, List, ℕ}
use Rattle.std.specs.List.{list_any}
use Rattle.std.specs.Str.{bytes_eq}
use Rattle.om_script.specs.Script.{ScriptText}
use Rattle.om_script.specs.Standing.{most_names}
use Rattle.om_script.specs.Keywords.{with_name}
use Rattle.om_script.proofs.Places.{kept_name, inserted, length-new_name, same_length}
use Rattle.om_script.proofs.script.Script.add_name.Goals as goal

pub returns-then-contains : goal.returns-then-contains
returns-then-contains c =
    let keys = c.self.inside.names.keys in
    let texts = map (string_bytes {Z = Global}) keys in
    let names : texts ≡ c.args.self.now.names = ap (λ s. s.names) c.self.view_is in
    let kept : with_name texts c.text_of-name.result.now ≡ texts = kept_name (string_bytes {Z = Global}) keys c.text_of-name.result.now (sym c.contains.ensures ∙ c.if-contains.true) in
    let named : with_name texts c.args.name.now ≡ texts = subst (λ n. with_name texts n ≡ texts) c.text_of-name.ensures kept in
    let same : with_name c.args.self.now.names c.args.name.now ≡ c.args.self.now.names = subst (λ ns. with_name ns c.args.name.now ≡ ns) names named in (
      ap (λ ns. record c.args.self.now { names = ns }) (sym same),
      omega (arith, ap length names, same_length (string_bytes {Z = Global}) keys, c.self.invariant),
    )

pub returns-then-len-ge-MOST_NAMES : goal.returns-then-len-ge-MOST_NAMES
returns-then-len-ge-MOST_NAMES c =
    let keys = c.self.inside.names.keys in
    let texts = map (string_bytes {Z = Global}) keys in
    let names : texts ≡ c.args.self.now.names = ap (λ s. s.names) c.self.view_is in
    let long : most_names < length (with_name texts c.text_of-name.result.now) =
    omega (arith, length-new_name (string_bytes {Z = Global}) keys c.text_of-name.result.now (sym c.contains.ensures ∙ c.if-contains.false), c.len.ensures.len, c.if-len-ge-MOST_NAMES.true) in
    subst (λ ns. most_names < length (with_name ns c.args.name.now)) names (subst (λ n. most_names < length (with_name texts n)) c.text_of-name.ensures long)

pub returns : goal.returns
returns c =
    let keys = c.self.inside.names.keys in
    let texts = map (string_bytes {Z = Global}) keys in
    let names : texts ≡ c.args.self.now.names = ap (λ s. s.names) c.self.view_is in
    let none : list_any (λ k. bytes_eq c.text_of-name.result.now (string_bytes {Z = Global} k)) keys ≡ false = sym c.contains.ensures ∙ c.if-contains.false in
    let added : map (string_bytes {Z = Global}) c.insert.new.self.keys ≡ with_name texts c.text_of-name.result.now =
    inserted (string_bytes {Z = Global}) keys c.insert.new.self.keys c.in_ok-name.name c.text_of-name.result.now none c.in_ok-name.ensures.ok c.in_ok-insert.ensures.keys in
    let made : map (string_bytes {Z = Global}) c.insert.new.self.keys ≡ with_name c.args.self.now.names c.args.name.now =
    added ∙ ap (with_name texts) c.text_of-name.ensures ∙ ap (λ ns. with_name ns c.args.name.now) names in
    let short : length (map (string_bytes {Z = Global}) c.insert.new.self.keys) ≤ most_names =
    omega (arith, ap length added, length-new_name (string_bytes {Z = Global}) keys c.text_of-name.result.now none, c.len.ensures.len, c.if-len-ge-MOST_NAMES.false) in
    let whole : ScriptText → List (List ℕ) → ScriptText = λ s ns. record s { names = ns } in
    (ap (λ s. whole s (map (string_bytes {Z = Global}) c.insert.new.self.keys)) c.self.view_is ∙ ap (whole c.args.self.now) made, short)
