-- What the comparisons of values tell: whether they are equal.
use Rattle.std.proofs.Common.{◌≡◌, Bool, true, false, ◌&&◌, Decides, nat_eq, rules, refl, ap, ◌∙◌}
use Rattle.std.proofs.lemmas.Bool.Decides.{Decides-eqb}
use Rattle.om_model.specs.contracts.entry.AskedPartialEq.TheImpl as asked
use Rattle.om_model.specs.contracts.operation.OpPartialEq.TheImpl as op
use Rattle.om_model.specs.contracts.reply.ReplyPartialEq.TheImpl as reply
use Rattle.om_model.specs.declared.entry.Asked.{Asked}
use Rattle.om_model.specs.declared.operation.Op.{Op}
use Rattle.om_model.specs.declared.reply.Reply.{Reply}

op-decides : (a b : Op) → Decides (op.eq-value.it a b) (a ≡ b)
op-decides a b = search rules

reply-decides : (a b : Reply) → Decides (reply.eq-value.it a b) (a ≡ b)
reply-decides a b = search rules

-- five tests together tell whether five facts hold together
five-decide : {P Q R S T : Type 0} (p q r s t : Bool) → Decides p P → Decides q Q → Decides r R → Decides s S → Decides t T → Decides (p && (q && (r && (s && t)))) (P × Q × R × S × T)
five-decide true true true true true a b c d e = ((λ is. (a.0 refl, b.0 refl, c.0 refl, d.0 refl, e.0 refl)), (λ all. refl))
five-decide true true true true false a b c d e = ((λ is. cc), (λ all. e.1 all.4))
five-decide true true true false t a b c d e = ((λ is. cc), (λ all. d.1 all.3))
five-decide true true false s t a b c d e = ((λ is. cc), (λ all. c.1 all.2))
five-decide true false r s t a b c d e = ((λ is. cc), (λ all. b.1 all.1))
five-decide false q r s t a b c d e = ((λ is. cc), (λ all. a.1 all.0))

same-asked : (a b : Asked) → (a.command ≡ b.command) × (a.phase ≡ b.phase) × (a.hop ≡ b.hop) × (a.op ≡ b.op) × (a.reply ≡ b.reply) → a ≡ b
same-asked a b same =
    let p = same.0 in
    let q = same.1 in
    let r = same.2 in
    let s = same.3 in
    let t = same.4 in
    ap (λ n. record { command = n; phase = a.phase; hop = a.hop; op = a.op; reply = a.reply }) p
    ∙ ap (λ n. record { command = b.command; phase = n; hop = a.hop; op = a.op; reply = a.reply }) q
    ∙ ap (λ n. record { command = b.command; phase = b.phase; hop = n; op = a.op; reply = a.reply }) r
    ∙ ap (λ o. record { command = b.command; phase = b.phase; hop = b.hop; op = o; reply = a.reply }) s
    ∙ ap (λ o. record { command = b.command; phase = b.phase; hop = b.hop; op = b.op; reply = o }) t

pub asked-decides : (a b : Asked) → Decides (asked.eq-value.it a b) (a ≡ b)
asked-decides a b =
    let all = five-decide (nat_eq a.command b.command) (nat_eq a.phase b.phase) (nat_eq a.hop b.hop) (op.eq-value.it a.op b.op) (reply.eq-value.it a.reply b.reply)
    (Decides-eqb a.command b.command) (Decides-eqb a.phase b.phase) (Decides-eqb a.hop b.hop) (op-decides a.op b.op) (reply-decides a.reply b.reply) in (
      (λ is. same-asked a b (all.0 is)),
      (λ same. all.1 (ap (λ (x : Asked). x.command) same, ap (λ (x : Asked). x.phase) same, ap (λ (x : Asked). x.hop) same, ap (λ (x : Asked). x.op) same, ap (λ (x : Asked). x.reply) same)),
    )
