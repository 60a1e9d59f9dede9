-- What a call shows of the core that asked the broker for nothing.
use Rattle.std.proofs.Common.{◌≡◌, ℕ, List, [], ◌∷◌, ◌++◌, Option, Some, refl, sym, ap, ◌∙◌, subst}
use Rattle.om_model.specs.Pool.Journal.{GivesUp, step_of, wish_of}
use Rattle.om_model.specs.Pool.Rules.{words_from}
use Rattle.om_model.specs.Pool.Steps.{Nothing, Step}
use Rattle.om_model.specs.declared.entry.Entry.TheVariants.{Call}
use Rattle.om_model.specs.declared.entry.Move.{Move}
use Rattle.om_model.specs.declared.operation.Op.{Op}
use Rattle.om_model.specs.declared.operation.Who.{Who}
use Rattle.om_model.specs.declared.reply.Reply.{Reply}
use Rattle.om_pool.specs.CoreKept.{core_state, IsCore}
use Rattle.om_pool.specs.HoldingsView.{rules_in, tables_in}
use Rattle.om_pool.specs.Tables.{StandFor}
use Rattle.om_pool.specs.Unasked.{no_answers}
use Rattle.om_pool.specs.declared.pool_core.Core.{Core}
use Rattle.om_pool.proofs.CoreLaws.{entry_with, Does}

-- what the calls of a body say, the old core being kept
pub record IsUnasked (old new : Core) (op : Op) (whole step : Step) (words : List ℕ) (release : Option Move) : Type 0 where
  pub wish : wish_of (rules_in old.state) (core_state old) op ≡ Nothing
  pub whole_is : step_of (rules_in old.state) (core_state old) op no_answers ≡ Some whole
  pub step_is : whole ≡ step
  pub gives_up : GivesUp step.release release
  pub words_are : words ≡ words_from (rules_in old.state) (core_state old).drawn step.words
  pub tables : StandFor (rules_in old.state) (tables_in new.state) step.next
  pub drawn : new.state.words.place ≡ (step.next).drawn
  pub rules : rules_in new.state ≡ rules_in old.state
  pub canary : new.canary ≡ old.canary
  pub room : new.room ≡ old.room

module _ (old new : Core) (who : Who) (op : Op) (answer : Reply) (whole step : Step) (words : List ℕ) (release : Option Move) (core : IsCore old) (is : IsUnasked old new op whole step words release)
    (answer_is : answer ≡ step.reply) (added : new.journal.items ≡ old.journal.items ++ Call (entry_with who op answer words no_answers release) ∷ []) where
  pub unasked-does : Does old new who op answer words no_answers (λ given. whole) release
  unasked-does =
      let step_is = is.step_is in
      record {
        may = rw is.wish (refl, refl, refl);
        step_is = is.whole_is;
        gives_up = let P : Step → Type 0 = λ s. GivesUp s.release release in subst P (sym step_is) is.gives_up;
        reply_is = answer_is ∙ ap (λ (s : Step). s.reply) (sym step_is);
        words_are = is.words_are ∙ ap (λ (s : Step). words_from (rules_in old.state) (core_state old).drawn s.words) (sym step_is);
        tables = let P : Step → Type 0 = λ s. StandFor (rules_in old.state) (tables_in new.state) s.next in subst P (sym step_is) is.tables;
        drawn = is.drawn ∙ ap (λ (s : Step). (s.next).drawn) (sym step_is);
        rules = is.rules;
        canary = is.canary;
        room = rw is.room core.room;
        added = added;
      }
