use Rattle.std.proofs.Common.{List, [], ◌++◌, ℕ, ap, ◌∙◌}
use Rattle.std.proofs.lemmas.Result.{err_from_is_err_and}
use Rattle.walrus_code.specs.Indices.{index_of}
use Rattle.walrus_bodies.specs.Declarations.{declarations_of}
use Rattle.walrus_bodies.specs.Text.{ops_in}
use Rattle.walrus_functions.proofs.AppendLemmas.{behind, front_refused}
use Rattle.walrus_functions.proofs.SpellingLemmas.{spelled_same}
use Rattle.walrus_functions.proofs.append.write_kept.Goals as goal

pub returns-in_err-write_vector : goal.returns-in_err-write_vector
returns-in_err-write_vector c numbers features are =
    let p = err_from_is_err_and c.from_residual.result c.from_residual.ensures.1 in
    ([], [], (front_refused (index_of c.args.indices.now) numbers features (ops_in c.args.text.now) (declarations_of c.args.declarations.now) (λ _. []) c.args.declarations.now c.from_residual.result c.in_err-write_vector.field-0.0 _ _ _ c.requires c.in_err-write_vector.ensures.adds c.from_residual.ensures.1, rw p.1 tt))

pub returns : goal.returns
returns c numbers features are =
    let old = c.args.to.now.items in
    behind (index_of c.args.indices.now) numbers features (ops_in c.args.text.now) old c.write_vector.new.to.items c.append_kept.new.to.items (declarations_of c.args.declarations.now) c.append_kept.result
    (c.in_ok-write_vector.ensures.adds.0 ∙ ap (λ (bytes : List ℕ). old ++ bytes) (spelled_same c.args.declarations.now))
    (c.append_kept.ensures numbers features are)
