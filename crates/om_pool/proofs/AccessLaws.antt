-- A load and a store, by the tables.
use Rattle.std.proofs.Common.{◌≡◌, ℕ, [], Option, Some, None, refl, sym, ap, ◌∙◌, subst}
use Rattle.om_frame.specs.Memory.{byte_at}
use Rattle.om_model.specs.Pool.Access.{barred, load, load_unless, store, store_unless}
use Rattle.om_model.specs.Pool.Journal.{GivesUp}
use Rattle.om_model.specs.Pool.Rules.{Rules, words_from}
use Rattle.om_model.specs.Pool.State.{State}
use Rattle.om_model.specs.Pool.Steps.{Step}
use Rattle.om_model.specs.declared.reply.Reply.{Reply}
use Rattle.om_model.specs.declared.reply.Reply.TheVariants.{Byte}
use Rattle.om_pool.specs.Access.{load_reply, store_reply, stored}
use Rattle.om_pool.specs.ByTables.{barred_by}
use Rattle.om_pool.specs.Tables.{Tables, StandFor}
use Rattle.om_pool.proofs.TableAnswers.{barred-is}
use Rattle.om_pool.proofs.TablePages.{byte-written}

-- a step that draws no word and lets nothing go, and holds the same pages
pub record IsLight (rules : Rules) (state : State) (step : Step) (answer : Reply) (tables : Tables) : Type 0 where
  pub reply : answer ≡ step.reply
  pub gives_up : GivesUp step.release None
  pub words : [] ≡ words_from rules state.drawn step.words
  pub stands : StandFor rules tables step.next
  pub drawn : state.drawn ≡ (step.next).drawn
  pub held : (step.next).held ≡ state.held

module _ (rules : Rules) (tables : Tables) (state : State) (stands : StandFor rules tables state) (address byte : ℕ) where
  load-by : (bar : Option Reply) → IsLight rules state (load_unless state address bar) (load_reply tables address bar) tables
  load-by (Some bar) = record { reply = refl; gives_up = record { run_is = refl; inside = tt }; words = refl; stands = stands; drawn = refl; held = refl }
  load-by None = record {
    reply = ap (λ m. Byte (byte_at m address)) stands.memory;
    gives_up = record { run_is = refl; inside = tt };
    words = refl;
    stands = stands;
    drawn = refl;
    held = refl;
  }

  store-by : (bar : Option Reply) → IsLight rules state (store_unless state address byte bar) (store_reply bar) (stored tables address byte bar)
  store-by (Some bar) = record { reply = refl; gives_up = record { run_is = refl; inside = tt }; words = refl; stands = stands; drawn = refl; held = refl }
  store-by None = record {
    reply = refl;
    gives_up = record { run_is = refl; inside = tt };
    words = refl;
    stands = byte-written rules tables state stands address byte;
    drawn = refl;
    held = refl;
  }

  pub load-light : (reply : Reply) → reply ≡ load_reply tables address (barred_by rules tables address) → IsLight rules state (load rules state address) reply tables
  load-light reply is =
      let bar = barred-is rules tables state stands address in
      let Light : Reply → Type 0 = λ r. IsLight rules state (load rules state address) r tables in
      subst Light (sym (is ∙ ap (load_reply tables address) bar)) (load-by (barred rules state address))

  pub store-light : (reply : Reply) (after : Tables) → reply ≡ store_reply (barred_by rules tables address) → after ≡ stored tables address byte (barred_by rules tables address)
      → IsLight rules state (store rules state address byte) reply after
  store-light reply after is stored_is =
      let bar = barred-is rules tables state stands address in
      let Light : Reply → Tables → Type 0 = λ r t. IsLight rules state (store rules state address byte) r t in
      subst (λ r. Light r after) (sym (is ∙ ap store_reply bar))
      (subst (Light (store_reply (barred rules state address))) (sym (stored_is ∙ ap (stored tables address byte) bar)) (store-by (barred rules state address)))
