use Rattle.std.proofs.Common.{ap, map, subst, sym, ◌∙◌, List, ℕ, arith}
use Rattle.std.specs.Prelude.{nat_eq}
use Rattle.std.specs.List.{IsDistinct}
use Rattle.std.proofs.lemmas.Result.{err_from_is_err_and}
use Rattle.walrus.specs.Base.Id.{place}
use Rattle.walrus.specs.Base.ModuleTypes.{type_slots}
use Rattle.walrus_base.specs.Shape.{place_in}
use Rattle.walrus.specs.Code.Indices.{index_of}
use Rattle.walrus_model.proofs.Orders.{ordered_entries}
use Rattle.walrus_edits.proofs.TypeSteps.{ungrouped}
use Rattle.walrus_edits.proofs.type_records.type_groups.Goals as goal

pub along-requires : goal.along-requires
along-requires c = record {
  distinct = subst (λ (ps : List ℕ). IsDistinct nat_eq ps) (sym (ap (map place) c.deref.ensures.value ∙ c.in_ok-ids.ensures.value)) (ordered_entries (type_slots c.args.types.now)).differ;
  room = omega (arith, c.if-len.false, c.len.ensures, c.deref.ensures.len);
}

pub returns-in_err-index_types : goal.returns-in_err-index_types
returns-in_err-index_types c =
    let p = err_from_is_err_and c.from_residual-in_err-index_types.result c.from_residual-in_err-index_types.ensures.1 in
    rw (p.1, p.2)
    (ungrouped c.args.types.now (index_of (record c.new-indices.result { types = c.in_ok-indices.field-0 })) c.in_err-index_types.field-0.0 (λ t. c.in_ok-indices.ensures.numbered t ∙ ap (λ ps. place_in ps t) (ap (map place) c.deref.ensures.value ∙ c.in_ok-ids.ensures.value)) c.in_err-index_types.ensures.indexed)
