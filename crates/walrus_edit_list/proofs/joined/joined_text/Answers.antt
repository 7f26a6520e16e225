use Rattle.std.proofs.Common.{ℕ, List, ◌++◌, sym, ap, ◌∙◌, subst}
use Rattle.walrus_bodies.specs.Emitting.{OperatorsWritten}
use Rattle.walrus_bodies.specs.Text.{first_local_of, ops_in}
use Rattle.walrus_bodies.specs.declared.features.Features.{Features}
use Rattle.walrus_code.specs.Indices.{index_of}
use Rattle.walrus_edit_list.specs.Joined.{index_from}
use Rattle.walrus_edit_list.proofs.Joining.{joined_found}
use Rattle.walrus_edit_list.proofs.joined.joined_text.Goals as goal

pub returns : goal.returns
returns c =
    let text = c.args.text.now in
    let bytes = c.args.bytes.now in
    let begun = c.in_ok-extend_from_slice.ensures.items ∙ ap (λ (l : List ℕ). l ++ bytes) c.in_ok-joined.ensures.items in
    let written = subst (λ (l : List ℕ). (f : Features) → (starts : List ℕ) × OperatorsWritten (index_of c.args.places.now) (index_from (first_local_of text)) f (ops_in text) l c.append_placed.new.to.items starts) begun
    (c.in_ok-append_placed.ensures c.if-not-branch.false) in
    joined_found bytes c.as_slice.result.now text (index_of c.args.places.now) c.requires
    (subst (λ (l : List ℕ). (f : Features) → (starts : List ℕ) × OperatorsWritten (index_of c.args.places.now) (index_from (first_local_of text)) f (ops_in text) bytes l starts) (sym c.as_slice.ensures.value) written)
    _ c.text_of.ensures
