use Rattle.std.proofs.Common.{◌++◌, ◌∷◌, [], List, ℕ, ap, sym, ◌∙◌, take, arith, Vec, Global}
use Rattle.std.proofs.lemmas.List.{map-append, map_more, take_all}
use Rattle.om_frame.specs.Blocks.{memory_of}
use Rattle.om_model.proofs.slow.memory.Memory.copy.Goals as goal

pub loop-page-preserved : goal.loop-page-preserved
loop-page-preserved c =
    let bytes : Vec ℕ Global → List ℕ = λ page. page.items in
    let items = c.deref-page-items.result.now in
    let i = c.loop-page.page-index in
    let copied = c.in_ok-from_slice.field-0 in
    ap memory_of c.in_ok-push.ensures.items
    ∙ map-append bytes c.loop-page.pages.items (copied ∷ [])
    ∙ ap (λ pages. pages ++ copied.items ∷ []) c.loop-page.invariant
    ∙ ap (λ page. memory_of (take i items) ++ page ∷ []) (c.in_ok-from_slice.ensures.items ∙ c.deref.ensures.value ∙ ap bytes c.page-item.is)
    ∙ sym (map_more bytes items i c.page-item.result (omega arith))

pub returns : goal.returns
returns c =
    c.loop-page.invariant
    ∙ ap memory_of (take_all c.loop-page.page-index c.deref-page-items.result.now c.loop-page-test.false ∙ c.deref-page-items.ensures.value)
    ∙ c.self.view_is
