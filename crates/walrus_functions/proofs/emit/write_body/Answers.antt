use Rattle.std.proofs.Common.{◌≡◌, ℕ, List, [], ◌++◌, length, ap, ◌∙◌, subst, refl}
use Rattle.wasm_forms.specs.Spelling.{row_bytes}
use Rattle.wasm_operators.specs.Spelling.{op_bytes}
use Rattle.walrus_code.specs.Indices.{index_of, local_index}
use Rattle.walrus_bodies.specs.Declarations.{declarations_of}
use Rattle.walrus_bodies.specs.Emitting.{OperatorsWritten, places_from}
use Rattle.std.specs.Prelude.{Vec}
use Rattle.std.specs.Global.{Global}
use Rattle.walrus_code.specs.declared.location.InstrLocId.{InstrLocId}
use Rattle.walrus_functions.specs.declared.emit.KnownBody.{KnownBody}
use Rattle.walrus_functions.specs.Code.{ops_of_code}
use Rattle.walrus_functions.specs.EmittedBody.{declarations_bytes}
use Rattle.walrus_functions.proofs.AppendLemmas.{front_refused, moved, refused_operators, told}
use Rattle.walrus_functions.proofs.SpellingLemmas.{spelled_same}
use Rattle.std.proofs.lemmas.List.{append_assoc}
use Rattle.std.proofs.lemmas.Result.{err_from_is_err_and}
use Rattle.walrus_functions.proofs.emit.write_body.Goals as goal

pub returns-clause-written : goal.returns-clause-written
returns-clause-written c =
    let names = index_of c.args.scope.now.indices.now in
    let numbers = local_index c.args.locals in
    let features = c.args.scope.now.features.now in
    let ops = ops_of_code c.args.code.now in
    let ds = c.args.declarations.now in
    let front = declarations_bytes (declarations_of ds) in
    let old = c.args.to.now.items in
    let here : c.write_vector.new.to.items ≡ old ++ front = c.in_ok-write_vector.ensures.adds.0 ∙ ap (λ (bytes : List ℕ). old ++ bytes) (spelled_same ds) in
    let all = c.in_ok-places.ensures.written in
    let w : OperatorsWritten names numbers features ops (old ++ front) c.append_code.new.to.items all.0 = subst (λ (bytes : List ℕ). OperatorsWritten names numbers features ops bytes c.append_code.new.to.items all.0) here all.1.0 in
    (front ++ row_bytes op_bytes w.texts, places_from (length front) w.texts, (moved names numbers features ops old front c.append_code.new.to.items all.0 w, (w.spelled ∙ append_assoc old front (row_bytes op_bytes w.texts), told c.args.scope.now.asks_places old front w.texts _ all.0 c.requires.alone all.1.1 w.placed)))

pub returns-in_err-places-clause-written : goal.returns-in_err-places-clause-written
returns-in_err-places-clause-written c =
    let p = err_from_is_err_and c.from_residual-in_err-places.result c.from_residual-in_err-places.ensures.1 in
    let all = c.in_err-places.ensures.written in
    ([], [], (refused_operators {Y = KnownBody} {Z = Vec (InstrLocId × ℕ) Global} (index_of c.args.scope.now.indices.now) (local_index c.args.locals) c.args.scope.now.features.now (ops_of_code c.args.code.now) c.write_vector.new.to.items c.append_code.new.to.items (declarations_of c.args.declarations.now) (λ _. all.0) (λ _. []) (λ _. []) c.from_residual-in_err-places.result c.in_err-places.field-0.0 c.from_residual-in_err-places.ensures.1 all.1.0, rw p.1 tt))

pub returns-in_err-write_vector-clause-located : goal.returns-in_err-write_vector-clause-located
returns-in_err-write_vector-clause-located c = let p = err_from_is_err_and c.from_residual.result c.from_residual.ensures.1 in rw p.1 tt

pub returns-in_err-write_vector-clause-numbered : goal.returns-in_err-write_vector-clause-numbered
returns-in_err-write_vector-clause-numbered c = let p = err_from_is_err_and c.from_residual.result c.from_residual.ensures.1 in rw p.1 tt

pub returns-in_err-places-clause-located : goal.returns-in_err-places-clause-located
returns-in_err-places-clause-located c = let p = err_from_is_err_and c.from_residual-in_err-places.result c.from_residual-in_err-places.ensures.1 in rw p.1 tt

pub returns-in_err-places-clause-numbered : goal.returns-in_err-places-clause-numbered
returns-in_err-places-clause-numbered c = let p = err_from_is_err_and c.from_residual-in_err-places.result c.from_residual-in_err-places.ensures.1 in rw p.1 tt

pub returns-clause-located : goal.returns-clause-located
returns-clause-located c = c.in_ok-places.ensures.located

pub returns-clause-numbered : goal.returns-clause-numbered
returns-clause-numbered c = refl

pub returns-in_err-write_vector-clause-ordered : goal.returns-in_err-write_vector-clause-ordered
returns-in_err-write_vector-clause-ordered c = let p = err_from_is_err_and c.from_residual.result c.from_residual.ensures.1 in rw p.1 tt

pub returns-in_err-places-clause-ordered : goal.returns-in_err-places-clause-ordered
returns-in_err-places-clause-ordered c = let p = err_from_is_err_and c.from_residual-in_err-places.result c.from_residual-in_err-places.ensures.1 in rw p.1 tt

pub returns-clause-ordered : goal.returns-clause-ordered
returns-clause-ordered c = refl

pub returns-in_err-write_vector-clause-marked : goal.returns-in_err-write_vector-clause-marked
returns-in_err-write_vector-clause-marked c = let p = err_from_is_err_and c.from_residual.result c.from_residual.ensures.1 in rw p.1 tt

pub returns-in_err-places-clause-marked : goal.returns-in_err-places-clause-marked
returns-in_err-places-clause-marked c = let p = err_from_is_err_and c.from_residual-in_err-places.result c.from_residual-in_err-places.ensures.1 in rw p.1 tt

pub returns-clause-marked : goal.returns-clause-marked
returns-clause-marked c = refl

pub returns-in_err-write_vector-clause-written : goal.returns-in_err-write_vector-clause-written
returns-in_err-write_vector-clause-written c =
    let p = err_from_is_err_and c.from_residual.result c.from_residual.ensures.1 in (
      [],
      [],
      (
        front_refused (index_of c.args.scope.now.indices.now) (local_index c.args.locals) c.args.scope.now.features.now (ops_of_code c.args.code.now) (declarations_of c.args.declarations.now) (λ _. []) c.args.declarations.now c.from_residual.result c.in_err-write_vector.field-0.0 _ _ _ c.requires.few c.in_err-write_vector.ensures.adds c.from_residual.ensures.1,
        rw p.1 tt,
      ),
    )
