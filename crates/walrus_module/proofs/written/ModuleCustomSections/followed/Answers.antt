use Rattle.std.proofs.Common.{inl, inr, refl}
use Rattle.std.proofs.lemmas.Result.{err_from_is_err_and}
use Rattle.walrus_code.specs.Indices.{index_of}
use Rattle.walrus_items.specs.Transform.{transform_of}
use Rattle.walrus_module.specs.Flags.{config_of, flags_of}
use Rattle.walrus_module.proofs.OwnSections.{asked_refused}
use Rattle.walrus_module.proofs.WrittenForms.{follow_refused}
use Rattle.walrus_module.proofs.WrittenSections.{told_so}
use Rattle.walrus_module.proofs.written.ModuleCustomSections.followed.Goals as goal

pub returns-in_err-transform : goal.returns-in_err-transform
returns-in_err-transform g c =
    let G = λ (i : g.dyn-1.0.I). (g.dyn-1.0.entry i).1 in
    let p = err_from_is_err_and c.from_residual.result c.from_residual.ensures.1 in
    rw (p.1, p.2) (follow_refused G (flags_of c.args.switches) c.args.parts (index_of c.args.prepared.now.indices) c.args.self.now c.args.self.now c.in_err-transform.field-0.0
    (inl refl) c.in_err-transform.ensures.refused (λ are. refl))

pub returns-in_err-follow : goal.returns-in_err-follow
returns-in_err-follow g c =
    let G = λ (i : g.dyn-1.0.I). (g.dyn-1.0.entry i).1 in
    let flags = flags_of c.args.switches in
    let transform = c.in_ok-transform.transform in
    let p = err_from_is_err_and c.from_residual-in_err-follow.result c.from_residual-in_err-follow.ensures.1 in
    rw (p.1, p.2) (follow_refused G flags c.args.parts (index_of c.args.prepared.now.indices) c.args.self.now c.follow.new.self c.in_err-follow.field-0.0
    (inr (transform_of transform, (told_so c.args.parts (config_of flags) c.args.prepared.now _ transform c.requires.planned c.in_ok-transform.ensures.told, c.in_err-follow.ensures.refused)))
    (asked_refused (Unit {0}) _ (config_of flags) _ c.in_err-follow.field-0.0 c.in_err-follow.ensures.fails) c.follow.ensures.raw)
