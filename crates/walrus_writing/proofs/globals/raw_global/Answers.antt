use Rattle.std.proofs.Common.{ap, option_map, refl}
use Rattle.std.proofs.lemmas.Result.{err_from_is_err_and}
use Rattle.walrus_code.specs.Indices.{index_of}
use Rattle.walrus_contents.specs.View.{global_of, origin_of}
use Rattle.walrus_base.specs.ConstOps.{const_ops}
use Rattle.walrus_items.specs.Globals.{global_init, global_value}
use Rattle.walrus_writing.proofs.GlobalRecords.{global_written, initialiser_refused}
use Rattle.walrus_writing.proofs.globals.raw_global.Goals as goal

pub returns-in_err-initial : goal.returns-in_err-initial
returns-in_err-initial c =
    let p = err_from_is_err_and c.from_residual-in_err-initial.result c.from_residual-in_err-initial.ensures.1 in
    rw (p.1, p.2) (initialiser_refused (index_of c.args.indices.now) (global_of (global_value c.args.global.now)) (option_map const_ops (global_init c.args.global.now.kind)) _ refl c.in_err-initial.ensures.indexed)

pub returns : goal.returns
returns c =
    global_written (index_of c.args.indices.now) (global_of (global_value c.args.global.now)) _ (option_map const_ops (global_init c.args.global.now.kind)) refl (ap origin_of c.requires.own) refl refl
    c.in_ok-value.ensures.indexed c.in_ok-value.ensures.spelled c.in_ok-initial.ensures.indexed c.in_ok-initial.ensures.spelled
