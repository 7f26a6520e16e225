use Rattle.std.proofs.Common.{List, subst, sym}
use Rattle.walrus_base.specs.Operators.{Op, locals_of}
use Rattle.walrus_contents.specs.Named.{NamesNoTypes}
use Rattle.walrus_contents.proofs.PlainBodies.{each_plain, locals_within, no_types}
use Rattle.walrus_model.specs.Text.{first_local_of, local_count_of, ops_in}
use Rattle.walrus_contents.proofs.names.text_names_no_types.Goals as goal

pub returns : goal.returns
returns c is =
    let text = c.in-Some.text.now in
    let first = first_local_of text in
    let count = local_count_of text in
    let each = rw (c.first_local.ensures, c.local_count.ensures) at c.locals_name_nothing.ensures is in
    subst (λ (ops : List Op). NamesNoTypes c.args.locals.now (locals_of ops)) (sym c.in-Some.ensures.body)
    (no_types c.args.locals.now (locals_of (ops_in text)) (λ x among. let p = locals_within first count (ops_in text) (each_plain first count (ops_in text) c.is_plain.ensures) x among in each x p.0 p.1))
