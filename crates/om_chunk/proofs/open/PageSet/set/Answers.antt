use Rattle.std.proofs.Common.{◌≡◌, ◌∙◌, ◌<◌, if◌then◌else◌, length, ap, sym, arith}
use Rattle.std.specs.List.{insert, remove}
use Rattle.std.specs.Vec.{vec_capacity, vec_len}
use Rattle.std.proofs.lemmas.List.{length-set}
use Rattle.om_chunk.specs.OpenSets.{flagged_pages}
use Rattle.om_chunk.proofs.Flags.{remove-searched, insert-searched, room-searched}
use Rattle.om_chunk.proofs.open.PageSet.set.Goals as goal

pub invariant_of-self : goal.invariant_of-self
invariant_of-self c =
    let there : c.args.page < length c.self.inside.flags.items = omega (arith, ap length c.self.view_is, c.requires) in (
      c.remove.ensures.items
          ∙ ap (λ ys. remove ys c.in-Ok.i) (sym c.deref.ensures.value)
          ∙ remove-searched c.self.inside.flags.items c.args.page c.index.result.now c.args.flag there c.index.ensures c.if-index-flag.false c.deref.result.now (c.deref.ensures.value ∙ c.self.invariant.0) c.in-Ok.i c.in-Ok.ensures.position,
      omega (arith, length-set c.self.inside.flags.items c.args.page c.args.flag, c.remove.ensures.capacity, c.self.invariant.1),
    )

pub invariant_of-self-in-Err : goal.invariant_of-self-in-Err
invariant_of-self-in-Err c =
    let there : c.args.page < length c.self.inside.flags.items = omega (arith, ap length c.self.view_is, c.requires) in
    let same : c.deref.result.now ≡ flagged_pages c.self.inside.flags.items = c.deref.ensures.value ∙ c.self.invariant.0 in
    let few : length c.deref.result.now < length c.self.inside.flags.items =
    room-searched c.self.inside.flags.items c.args.page c.index.result.now c.args.flag there c.index.ensures c.if-index-flag.false c.deref.result.now same c.in-Err.i c.in-Err.ensures.bound c.in-Err.ensures.position in
    let room : vec_len c.self.inside.pages < vec_capacity c.self.inside.pages = omega (arith, c.deref.ensures.len, few, c.self.invariant.1) in (
      c.insert-room.ensures.items
          ∙ ap (λ put. if put then insert c.self.inside.pages.items c.in-Err.i c.args.page else c.self.inside.pages.items) (c.insert-room.ensures.succeeds room)
          ∙ ap (λ ys. insert ys c.in-Err.i c.args.page) (sym c.deref.ensures.value)
          ∙ insert-searched c.self.inside.flags.items c.args.page c.index.result.now c.args.flag there c.index.ensures c.if-index-flag.false c.deref.result.now same c.in-Err.i c.in-Err.ensures.position,
      omega (arith, length-set c.self.inside.flags.items c.args.page c.args.flag, c.insert-room.ensures.capacity, c.self.invariant.1),
    )
