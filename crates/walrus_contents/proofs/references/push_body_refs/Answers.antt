use Rattle.std.proofs.Common.{List, ◌++◌, ℕ, ap, sym, ◌∙◌, map}
use Rattle.std.specs.Prelude.{filter_map}
use Rattle.std.proofs.lemmas.List.{append-nil}
use Rattle.walrus_base.specs.Id.{place}
use Rattle.walrus_model.specs.Text.{first_local_of, local_count_of, ops_in}
use Rattle.walrus_contents.specs.References.{op_ref}
use Rattle.walrus_contents.proofs.PlainBodies.{each_plain, no_refs}
use Rattle.walrus_contents.proofs.references.push_body_refs.Goals as goal

pub returns-in-Some-clause-puts : goal.returns-in-Some-clause-puts
returns-in-Some-clause-puts c =
    let text = c.in-Some.text.now in
    let first = first_local_of text in
    let count = local_count_of text in
    let none = ap (filter_map op_ref) c.in-Some.ensures.body ∙ no_refs first count (ops_in text) (each_plain first count (ops_in text) c.is_plain.ensures) in
    let old = map place c.args.to.now.items in
    sym (append-nil old) ∙ ap (λ (xs : List ℕ). old ++ xs) (sym none)
