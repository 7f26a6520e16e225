use Rattle.std.proofs.Common.{option_map, refl}
use Rattle.std.proofs.lemmas.List.{map-set}
use Rattle.std.proofs.lemmas.Result.{err_from_is_err_and}
use Rattle.walrus_base.specs.Id.{place}
use Rattle.walrus_items.specs.Functions.{function_value}
use Rattle.walrus_module.specs.View.{contents_of}
use Rattle.walrus_edit_list.proofs.FunctionEdits.{brings_so}
use Rattle.walrus_edit_list.proofs.bring.bring_function.Goals as goal

pub returns-in_err-import : goal.returns-in_err-import
returns-in_err-import g c =
    let p = err_from_is_err_and c.from_residual.result c.from_residual.ensures.1 in
    rw (p.1, p.2, c.in_err-import.ensures.0) tt

pub returns : goal.returns
returns g c =
    brings_so c.args.number (place c.at-id.result) c.at-id.ensures (contents_of c.args.module.now) _ c.args.from.now c.args.name.now (function_value c.get-function.result.now) (function_value c.get_mut.result.now)
    (λ is. let there = c.is_imported.ensures.1 is in let not = c.if-is_imported.false in absurd cc)
    c.get-function.ensures c.get_mut.ensures.value c.at-id.result refl c.in_ok-import.import c.in_ok-import.ensures.0 c.in_ok-import.ensures.1 c.ty-ty.result c.ty-ty.ensures
    (map-set (option_map function_value) c.args.module.now.funcs.arena.places.items (place c.at-id.result) _) refl
