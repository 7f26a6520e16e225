use Rattle.std.proofs.Common.{◌≡◌, length, map, sym, ◌∙◌, subst, eq-eqb, eqb-true, arith}
use Rattle.std.specs.Prelude.{vec_len}
use Rattle.std.proofs.lemmas.Bool.{false≢true}
use Rattle.walrus_base.specs.Id.{place}
use Rattle.walrus_items.specs.Elements.{elements}
use Rattle.walrus_model.specs.Abstract.{Abstract}
use Rattle.walrus_model.specs.Declared.{AreUndeclared}
use Rattle.walrus_model.specs.Live.{IsLive}
use Rattle.walrus_module.specs.View.{contents_of, held_view}
use Rattle.walrus_module.proofs.Declaring.{none_leaves, one_declared, refused_same, segment_leaves, settled_none}
use Rattle.walrus_module.proofs.emit.Module.declare_references.Goals as goal

pub returns-then-is_empty-clause-left : goal.returns-then-is_empty-clause-left
returns-then-is_empty-clause-left g c =
    let ids = c.in_ok-functions.functions in
    let v = held_view c.args.self.now in
    let are : AreUndeclared (IsLive v) v (map place ids.items) = subst (λ (x : Abstract). AreUndeclared (IsLive x) x (map place ids.items)) c.parts.ensures c.in_ok-functions.ensures.undeclared in
    let none : vec_len ids ≡ 0 = eqb-true (vec_len ids) 0 (sym c.is_empty.ensures ∙ c.if-is_empty.true) in
    none_leaves place v ids.items are (omega (arith, none, ids.ok.0))

pub returns-in_err-add-clause-settled : goal.returns-in_err-add-clause-settled
returns-in_err-add-clause-settled g c = λ nothing.
    let ids = c.in_ok-functions.functions in
    let v = held_view c.args.self.now in
    let are : AreUndeclared (IsLive v) v (map place ids.items) = subst (λ (x : Abstract). AreUndeclared (IsLive x) x (map place ids.items)) c.parts.ensures c.in_ok-functions.ensures.undeclared in
    let none : length ids.items ≡ 0 = settled_none place v ids.items are nothing in
    absurd (false≢true (sym c.if-is_empty.false ∙ c.is_empty.ensures ∙ eq-eqb (vec_len ids) 0 (omega (arith, none, ids.ok.0))))

pub returns-in_err-add-clause-unchanged : goal.returns-in_err-add-clause-unchanged
returns-in_err-add-clause-unchanged g c = refused_same (contents_of c.args.self.now) c.add.new.self c.from_residual-in_err-add.result c.in_err-add.ensures.1

pub returns-clause-left : goal.returns-clause-left
returns-clause-left g c =
    let ids = c.in_ok-functions.functions in
    let v = held_view c.args.self.now in
    let are : AreUndeclared (IsLive v) v (map place ids.items) = subst (λ (x : Abstract). AreUndeclared (IsLive x) x (map place ids.items)) c.parts.ensures c.in_ok-functions.ensures.undeclared in
    segment_leaves (contents_of c.args.self.now) c.add.new.self ids (place c.in_ok-add.field-0) c.in_ok-add.ensures.0 c.in_ok-add.ensures.1 are
    (λ (none : length ids.items ≡ 0). false≢true (sym c.if-is_empty.false ∙ c.is_empty.ensures ∙ eq-eqb (vec_len ids) 0 (omega (arith, none, ids.ok.0))))

pub returns-clause-segments : goal.returns-clause-segments
returns-clause-segments g c = one_declared (elements c.args.self.now.elements) (elements c.add.new.self) c.in_ok-functions.functions (place c.in_ok-add.field-0) c.in_ok-add.ensures.0 c.in_ok-add.ensures.1

pub returns-clause-settled : goal.returns-clause-settled
returns-clause-settled g c = λ nothing.
    let ids = c.in_ok-functions.functions in
    let v = held_view c.args.self.now in
    let are : AreUndeclared (IsLive v) v (map place ids.items) = subst (λ (x : Abstract). AreUndeclared (IsLive x) x (map place ids.items)) c.parts.ensures c.in_ok-functions.ensures.undeclared in
    let none : length ids.items ≡ 0 = settled_none place v ids.items are nothing in
    absurd (false≢true (sym c.if-is_empty.false ∙ c.is_empty.ensures ∙ eq-eqb (vec_len ids) 0 (omega (arith, none, ids.ok.0))))
