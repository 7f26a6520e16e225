use Rattle.std.proofs.Common.{◌≡◌, ◌-◌, List, ap, sym, ◌∙◌, Some, slice_get}
use Rattle.walrus_base.specs.declared.id.Id.{Id}
use Rattle.walrus_base.proofs.Fronts.{looked_up, got_behind, in_front}
use Rattle.walrus_code.proofs.indices.IndexSpace.get.Goals as goal

pub returns-then-index-self : goal.returns-then-index-self
returns-then-index-self g c = ap Some c.at.ensures ∙ sym (in_front c.args.self.now.front c.args.index _ c.if-index-self.true)

pub returns : goal.returns
returns g c =
    let is : c.copied.result ≡ slice_get c.args.self.now.behind.items (c.args.index - c.args.self.now.front) =
    c.copied.ensures ∙ looked_up _ _ c.get.result c.get.ensures.lookup.0 c.get.ensures.lookup.1
    ∙ ap (λ (ids : List (Id g.row.K.Denot)). slice_get ids (c.args.index - c.args.self.now.front)) c.deref.ensures.value in
    got_behind c.args.self.now.front c.args.index c.args.self.now.behind.items c.copied.result is c.if-index-self.false
