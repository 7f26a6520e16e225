use Rattle.std.proofs.Common.{◌≡◌, ◌<◌, ◌≤◌, ℕ, List, [], ◌∷◌, ◌++◌, ◌+◌, suc, length, take, drop, get_or, ap, ◌∙◌, subst, sym, refl, rules, arith}
use Rattle.std.proofs.lemmas.List.{append-nil, map-append, take_all}
use Rattle.walrus_base.specs.Operators.{Op}
use Rattle.walrus_code.specs.Code.{op_of, ops_of}
use Rattle.walrus_code.specs.Indices.{index_of, local_index}
use Rattle.walrus_code.specs.declared.location.InstrLocId.{InstrLocId}
use Rattle.walrus_code.specs.declared.operator.Operator.{Operator}
use Rattle.walrus_bodies.specs.Results.{kept_if, locations}
use Rattle.walrus_bodies.specs.Writer.{AppendsAll}
use Rattle.walrus_bodies.proofs.EmitLemmas.{appends-more, none-noted, noted-more, passed-all, ops_of-at, take-next}
use Rattle.std.proofs.lemmas.Result.{err_from_is_err_and}
use Rattle.walrus_bodies.proofs.emit.write_all.Goals as goal

pub loop-operator-init : goal.loop-operator-init
loop-operator-init c = record {
  appended = ([], (record { texts = []; named = refl; spelled = sym (append-nil c.args.to.now.items); placed = refl; stand = tt }, none-noted (λ p. p.1) c.args.asks_places _ c.in_ok-placed.ensures.items));
  located = none-noted (λ p. p.0) c.args.asks_places _ c.in_ok-placed.ensures.items;
}

pub returns-in_err-write_one-clause-written : goal.returns-in_err-write_one-clause-written
returns-in_err-write_one-clause-written c =
    let xs = c.args.operators.now in
    let i = c.loop-operator.operator-index in
    let below : i < length xs = omega arith in
    let item : get_or xs i c.operator-item.result ≡ c.operator-item.result = search rules in
    let p = err_from_is_err_and c.from_residual-in_err-write_one.result c.from_residual-in_err-write_one.ensures.1 in (
      [],
      (
        passed-all (index_of c.args.indices.now) (local_index c.args.locals.now) (ops_of (take i xs)) (op_of c.operator-item.result) (ops_of (drop (suc i) xs)) (ops_of xs) c.loop-operator.to.items c.write_one.new.to.items c.args.to.now.items c.write_one.new.to.items _ c.from_residual-in_err-write_one.result c.in_err-write_one.field-0.0 (ops_of-at xs i c.operator-item.result below item) c.from_residual-in_err-write_one.ensures.1 c.in_err-write_one.ensures,
        rw p.1 tt,
      ),
    )

pub loop-operator-preserved : goal.loop-operator-preserved
loop-operator-preserved c =
    let names = index_of c.args.indices.now in
    let locals = local_index c.args.locals.now in
    let asked = c.args.asks_places in
    let xs = c.args.operators.now in
    let i = c.loop-operator.operator-index in
    let x = c.operator-item.result in
    let below : i < length xs = omega arith in
    let item : get_or xs i x ≡ x = search rules in
    let next : take (i + 1) xs ≡ take i xs ++ x ∷ [] = take-next xs i x below item in
    let ops_next : ops_of (take i xs) ++ op_of x ∷ [] ≡ ops_of (take (i + 1) xs) = sym (ap ops_of next ∙ map-append op_of (take i xs) (x ∷ [])) in
    let had = c.loop-operator.placed.items in
    let places = c.loop-operator.invariant.appended.0 in
    let noted : InstrLocId × ℕ = (x.loc, c.len.result) in
    let len_is : c.len.result ≡ length c.loop-operator.to.items = search rules in
    let more = appends-more names locals (ops_of (take i xs)) (op_of x) c.args.to.now.items c.loop-operator.to.items c.write_one.new.to.items places c.loop-operator.invariant.appended.1.0 c.in_ok-write_one.ensures in
    record {
      appended = (
        places ++ length c.loop-operator.to.items ∷ [],
        (
          subst (λ (os : List Op). AppendsAll names locals os c.args.to.now.items c.write_one.new.to.items (places ++ length c.loop-operator.to.items ∷ [])) ops_next more,
          noted-more (λ (p : InstrLocId × ℕ). p.1) asked had c.note_place.new.placed.items noted places c.in_ok-note_place.ensures c.loop-operator.invariant.appended.1.1
              ∙ ap (λ (n : ℕ). kept_if asked (places ++ n ∷ [])) len_is,
        ),
      );
      located = noted-more (λ (p : InstrLocId × ℕ). p.0) asked had c.note_place.new.placed.items noted (locations (take i xs)) c.in_ok-note_place.ensures c.loop-operator.invariant.located
          ∙ ap (kept_if asked) (sym (ap locations next ∙ map-append (λ (o : Operator). o.loc) (take i xs) (x ∷ [])));
    }

pub returns-in_err-note_place-clause-written : goal.returns-in_err-note_place-clause-written
returns-in_err-note_place-clause-written c = let p = err_from_is_err_and c.from_residual-in_err-note_place.result c.from_residual-in_err-note_place.ensures.1 in rw (p.1, p.2) ([], (tt, tt))

pub returns-in_err-note_place-clause-located : goal.returns-in_err-note_place-clause-located
returns-in_err-note_place-clause-located c = let p = err_from_is_err_and c.from_residual-in_err-note_place.result c.from_residual-in_err-note_place.ensures.1 in rw p.1 tt

pub returns-in_err-write_one-clause-located : goal.returns-in_err-write_one-clause-located
returns-in_err-write_one-clause-located c = let p = err_from_is_err_and c.from_residual-in_err-write_one.result c.from_residual-in_err-write_one.ensures.1 in rw p.1 tt

pub returns-clause-written : goal.returns-clause-written
returns-clause-written c =
    let xs = c.args.operators.now in
    let past : length xs ≤ c.loop-operator.operator-index = omega arith in
    let so_far = c.loop-operator.invariant.appended in (
      so_far.0,
      (
        subst (λ (os : List Operator). AppendsAll (index_of c.args.indices.now) (local_index c.args.locals.now) (ops_of os) c.args.to.now.items c.loop-operator.to.items so_far.0) (take_all c.loop-operator.operator-index xs past) so_far.1.0,
        so_far.1.1,
      ),
    )

pub returns-clause-located : goal.returns-clause-located
returns-clause-located c =
    let xs = c.args.operators.now in
    let past : length xs ≤ c.loop-operator.operator-index = omega arith in
    c.loop-operator.invariant.located ∙ ap (λ os. kept_if c.args.asks_places (locations os)) (take_all c.loop-operator.operator-index xs past)
