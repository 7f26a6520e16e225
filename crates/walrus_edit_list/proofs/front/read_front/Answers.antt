use Rattle.std.proofs.Common.{List, [], ◌∷◌, ◌++◌, ℕ, ap, map, ◌∙◌}
use Rattle.std.proofs.lemmas.Result.{err_from_is_err_and}
use Rattle.std.specs.Global.{Vec}
use Rattle.walrus_base.specs.Id.{place}
use Rattle.walrus_code.specs.Code.{ops_of}
use Rattle.walrus_code.specs.Indices.{ids_at}
use Rattle.walrus_code.specs.declared.operator.Operator.{Operator}
use Rattle.walrus_edit_list.specs.declared.front.TheConstants.{END}
use Rattle.walrus_edit_list.proofs.RefusingBodies.{no_front}
use Rattle.walrus_edit_list.proofs.front.read_front.Goals as goal

pub returns-in_err-read_operators : goal.returns-in_err-read_operators
returns-in_err-read_operators c =
    let p = err_from_is_err_and c.from_residual-in_err-read_operators.result c.from_residual-in_err-read_operators.ensures.1 in
    let closed = c.as_slice.ensures.value ∙ c.in_ok-push.ensures.items ∙ ap (λ (l : List ℕ). l ++ END ∷ []) (c.in_ok-extend_from_slice.ensures.items ∙ ap (λ (l : List ℕ). l ++ c.args.bytes.now) c.new-closed.ensures.items) in
    rw (p.1, p.2) (no_front {X = Vec Operator} (λ operators. ops_of operators.items) (ids_at c.args.ids.now) c.args.types.now c.args.features.now c.args.bytes.now (map place c.args.parameters.now) _ c.in_err-read_operators.field-0.0 closed c.in_err-read_operators.ensures.read)
