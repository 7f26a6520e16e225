use Rattle.std.proofs.Common.{◌≡◌, ℕ, suc, ◌+◌, ◌-◌, ◌^◌, [], ◌∷◌, ◌++◌, List, length, min, ap, ◌∙◌, arith}
use Rattle.std.proofs.lemmas.List.{map-append}
use Rattle.wasm_text.specs.Operators as wire
use Rattle.walrus_code.specs.Code.{op_of, ops_of}
use Rattle.walrus_code.specs.declared.operator.Operator.{Operator}
use Rattle.walrus_bodies.specs.Results.{locations}
use Rattle.walrus_bodies.specs.Text.{at_place}
use Rattle.walrus_bodies.proofs.TextLemmas.{first_stands, shorter}
use Rattle.walrus_bodies.proofs.LocationLemmas.{loc_is}
use Rattle.walrus_bodies.proofs.AgainLemmas.{whole_next, body_next, located_next, body_done, located_done}
use Rattle.walrus_bodies.proofs.operators.list_operators.Goals as goal

pub read_next-requires : goal.read_next-requires
read_next-requires c =
    let turn = c.operators-test.true in
    let more : c.args.count - c.operators._turn ≡ suc (c.args.count - (c.operators._turn + 1)) = omega (arith, turn) in
    first_stands (c.args.count - c.operators._turn) (c.args.count - (c.operators._turn + 1)) c.operators.rest.now more c.operators.invariant.whole

pub operators-preserved : goal.operators-preserved
operators-preserved c =
    let bytes = c.args.bytes.now in
    let start = c.args.start in
    let count = c.args.count in
    let kept = c.operators.invariant in
    let rest = c.operators.rest.now in
    let done = c.operators.list.items in
    let new = c.push.new.self.items in
    let left : ℕ = count - c.operators._turn in
    let n : ℕ = count - (c.operators._turn + 1) in
    let end : ℕ = start + length bytes in
    let turn = c.operators-test.true in
    let more : left ≡ suc n = omega (arith, turn) in
    let x : wire.Op × List ℕ = (wire.op_of c.in_ok-raw.raw, c.in_ok-raw.after.now) in
    let read = c.in_ok-raw.ensures in
    let pushed : new ≡ done ++ c.in_ok-operator.operator ∷ [] = c.in_ok-push.ensures.items in
    let ops : ops_of new ≡ ops_of done ++ op_of c.in_ok-operator.operator ∷ [] = ap ops_of pushed ∙ map-append op_of done (c.in_ok-operator.operator ∷ []) in
    let locs : locations new ≡ locations done ++ c.in_ok-operator.operator.loc ∷ [] = ap locations pushed ∙ map-append (λ (o : Operator). o.loc) done (c.in_ok-operator.operator ∷ []) in
    let offset : c.saturating_sub-offset.result ≡ length bytes - length rest = c.saturating_sub-offset.ensures in
    let place : c.saturating_add.result ≡ min (start + (length bytes - length rest)) (2 ^ 64 - 1) = c.saturating_add.ensures ∙ ap (λ (k : ℕ). min (start + k) (2 ^ 64 - 1)) offset in
    let loc : c.in_ok-operator.operator.loc ≡ at_place (end - length rest) = c.in_ok-operator.ensures.located ∙ loc_is c.of_place-loc.result start (length bytes) (length rest) c.saturating_add.result kept.within place c.of_place-loc.ensures in
    record {
      whole = whole_next left n rest x more read kept.whole;
      body = body_next left n rest x more read c.args.first_local (ops_of done) (ops_of new) _ (op_of c.in_ok-operator.operator) kept.whole ops c.in_ok-operator.ensures.placed kept.body;
      located = located_next left n rest x more read end (locations done) (locations new) _ c.in_ok-operator.operator.loc locs loc kept.located;
      within = let short = shorter rest x read in let so_far = kept.within in omega (arith, short, so_far);
    }

pub returns-clause-body : goal.returns-clause-body
returns-clause-body c = let past = c.operators-test.false in body_done c.args.first_local (c.args.count - c.operators._turn) c.operators.rest.now (ops_of c.operators.list.items) _ (omega (arith, past)) c.operators.invariant.body

pub returns-clause-locations : goal.returns-clause-locations
returns-clause-locations c =
    let past = c.operators-test.false in
    located_done (c.args.start + length c.args.bytes.now) (c.args.count - c.operators._turn) c.operators.rest.now (locations c.operators.list.items) _ (omega (arith, past)) c.operators.invariant.located
