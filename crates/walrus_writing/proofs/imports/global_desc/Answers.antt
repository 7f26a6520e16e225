use Rattle.std.proofs.Common.{refl}
use Rattle.std.proofs.lemmas.Result.{err_from_is_err_and}
use Rattle.walrus_code.specs.FromRaw.{val_of}
use Rattle.walrus_code.specs.Indices.{index_of}
use Rattle.walrus_contents.specs.View.{global_of}
use Rattle.walrus_items.specs.Globals.{global_value}
use Rattle.walrus_writing.proofs.ImportedThings.{global_described, global_refused}
use Rattle.walrus_writing.proofs.imports.global_desc.Goals as goal

pub returns-in_err-value : goal.returns-in_err-value
returns-in_err-value c =
    let p = err_from_is_err_and c.from_residual.result c.from_residual.ensures.1 in
    rw (p.1, p.2) (global_refused (index_of c.args.indices.now) val_of (global_of (global_value c.args.global.now)) _ c.in_err-value.ensures.indexed c.in_err-value.ensures.memory)

pub returns : goal.returns
returns c = global_described (index_of c.args.indices.now) (global_of (global_value c.args.global.now)) _ refl refl c.in_ok-value.ensures.indexed c.in_ok-value.ensures.spelled
