use Rattle.std.proofs.lemmas.Result.{err_from_is_err_and}
use Rattle.walrus_theorem.proofs.SameItems.{dead_on}
use Rattle.walrus_module.specs.View.{held_view, view}
use Rattle.walrus_module.proofs.EmissionForms.{bytes_answered, bytes_refused}
use Rattle.walrus_module.proofs.emit.Module.emit_whole.Goals as goal

pub returns-in_err-bytes : goal.returns-in_err-bytes
returns-in_err-bytes g c = let p = err_from_is_err_and c.from_residual.result c.from_residual.ensures.1 in rw (p.1, p.2) (bytes_refused _ _ _ _ _ c.in_err-bytes.ensures)

pub returns : goal.returns
returns g c = bytes_answered _ _ _ _ _ _ c.in_ok-bytes.ensures

pub emit_live-requires : goal.emit_live-requires
emit_live-requires g c =
    let old = view (λ (i : g.dyn-1.0.I). (g.dyn-1.0.entry i).1) c.args.self.now in
    λ dead. c.requires (dead_on (held_view c.args.self.now) old.customs old.section_roots dead)
