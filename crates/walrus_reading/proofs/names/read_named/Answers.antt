use Rattle.std.proofs.Common.{List, refl, subst, map, ap, ◌∙◌}
use Rattle.std.specs.Global.{Vec}
use Rattle.std.specs.Fn.{FnReturnsAt}
use Rattle.walrus_functions.specs.ReadFunction.{GivenIf}
use Rattle.std.proofs.lemmas.Result.{err_from_is_err_and}
use Rattle.wasm_frames.specs.declared.record.RawCustom.{RawCustom}
use Rattle.wasm_frames.specs.Record.{custom_record, sections}
use Rattle.walrus_reading.specs.Shown.{shown}
use Rattle.walrus_reading.specs.Synthetic.{AreNamed}
use Rattle.walrus_reading.specs.TakenNames.{Bounds}
use Rattle.walrus_reading.proofs.NamesTaken.{named_lacks, named_refused, renamed_by_names}
use Rattle.walrus_reading.proofs.Placed.{own_ids}
use Rattle.walrus_reading.proofs.StillThere.{ids_still, located_still, produced_still}
use Rattle.walrus_reading.proofs.names.read_named.Goals as goal

pub returns-in_err-contents-clause-taken : goal.returns-in_err-contents-clause-taken
returns-in_err-contents-clause-taken g c =
    let p = err_from_is_err_and c.from_residual.result c.from_residual.ensures.1 in
    rw (p.1, p.2) (named_refused c.args.features.now c.args.synthetic (sections c.args.raw.now) _ c.in_err-contents.ensures.taken)

pub returns-in_err-named-clause-taken : goal.returns-in_err-named-clause-taken
returns-in_err-named-clause-taken g c =
    let p = err_from_is_err_and c.from_residual-in_err-named.result c.from_residual-in_err-named.ensures.1 in
    rw (p.1, p.2) (named_lacks c.args.features.now c.args.synthetic (sections c.args.raw.now) _ c.in_err-named.ensures.fails)

pub returns-clause-taken : goal.returns-clause-taken
returns-clause-taken g c =
    let contents = c.in_ok-contents.contents in
    let b : Bounds = record { types = c.in_ok-contents.types; starts = c.in_ok-contents.starts.items; synthetic = c.args.synthetic } in
    let named : AreNamed b (sections c.args.raw.now).customs (shown contents) (shown c.in_ok-named.named) =
    subst (λ (l : List RawCustom). AreNamed b (map custom_record l) (shown contents) (shown c.in_ok-named.named)) (c.deref.ensures.value ∙ ap (λ (v : Vec RawCustom). v.items) c.in_ok-contents.ensures.customs) c.in_ok-named.ensures.named in
    record {
      before = contents;
      starts = c.in_ok-contents.starts.items;
      taken = c.in_ok-contents.ensures.taken;
      bounds = b;
      are_bounds = record { types = c.in_ok-contents.ensures.counted; starts_are = refl };
      asked = refl;
      named = named;
    }

pub returns-clause-own_ids : goal.returns-clause-own_ids
returns-clause-own_ids g c =
    let contents = c.in_ok-contents.contents in
    let b : Bounds = record { types = c.in_ok-contents.types; starts = c.in_ok-contents.starts.items; synthetic = c.args.synthetic } in
    let named : AreNamed b (sections c.args.raw.now).customs (shown contents) (shown c.in_ok-named.named) =
    subst (λ (l : List RawCustom). AreNamed b (map custom_record l) (shown contents) (shown c.in_ok-named.named)) (c.deref.ensures.value ∙ ap (λ (v : Vec RawCustom). v.items) c.in_ok-contents.ensures.customs) c.in_ok-named.ensures.named in
    ids_still contents c.in_ok-named.named (renamed_by_names b (sections c.args.raw.now).customs contents c.in_ok-named.named named) (own_ids c.args.features.now (sections c.args.raw.now) contents c.in_ok-contents.ensures.taken.taken)

pub returns-clause-located : goal.returns-clause-located
returns-clause-located g c =
    let contents = c.in_ok-contents.contents in
    let b : Bounds = record { types = c.in_ok-contents.types; starts = c.in_ok-contents.starts.items; synthetic = c.args.synthetic } in
    let named : AreNamed b (sections c.args.raw.now).customs (shown contents) (shown c.in_ok-named.named) =
    subst (λ (l : List RawCustom). AreNamed b (map custom_record l) (shown contents) (shown c.in_ok-named.named)) (c.deref.ensures.value ∙ ap (λ (v : Vec RawCustom). v.items) c.in_ok-contents.ensures.customs) c.in_ok-named.ensures.named in
    located_still (GivenIf c.args.as_texts (FnReturnsAt g.L.Fn c.args.locate.now)) (sections c.args.raw.now) contents c.in_ok-named.named (renamed_by_names b (sections c.args.raw.now).customs contents c.in_ok-named.named named) c.in_ok-contents.ensures.located

pub returns-clause-produced : goal.returns-clause-produced
returns-clause-produced g c =
    let contents = c.in_ok-contents.contents in
    let b : Bounds = record { types = c.in_ok-contents.types; starts = c.in_ok-contents.starts.items; synthetic = c.args.synthetic } in
    let named : AreNamed b (sections c.args.raw.now).customs (shown contents) (shown c.in_ok-named.named) =
    subst (λ (l : List RawCustom). AreNamed b (map custom_record l) (shown contents) (shown c.in_ok-named.named)) (c.deref.ensures.value ∙ ap (λ (v : Vec RawCustom). v.items) c.in_ok-contents.ensures.customs) c.in_ok-named.ensures.named in
    produced_still (sections c.args.raw.now) contents c.in_ok-named.named (renamed_by_names b (sections c.args.raw.now).customs contents c.in_ok-named.named named) c.in_ok-contents.ensures.produced
