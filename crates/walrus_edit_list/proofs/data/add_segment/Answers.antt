use Rattle.std.proofs.Common.{ap, refl, sym, true, ◌∙◌}
use Rattle.std.specs.Prelude.{◌≡◌, None}
use Rattle.std.proofs.lemmas.Result.{err_from_is_err_and}
use Rattle.wasm_entries.specs.Record.{data_entry}
use Rattle.walrus_contents.specs.View.{data_kind_of}
use Rattle.walrus_items.specs.Memories.{memories}
use Rattle.walrus_contents.specs.declared.parts.Contents.{Contents}
use Rattle.walrus_module.specs.View.{contents_of}
use Rattle.walrus_edit_list.specs.Data.{data_in, in_memory}
use Rattle.walrus_edit_list.specs.Ids.{HasTooMany}
use Rattle.walrus_edit_list.proofs.Found.{data_found, data_lost}
use Rattle.walrus_edit_list.proofs.Refusing.{large_stays, refuses_so}
use Rattle.walrus_edit_list.proofs.data.add_segment.Goals as goal

pub returns-in_err-ids : goal.returns-in_err-ids
returns-in_err-ids g c =
    let p = err_from_is_err_and c.from_residual.result c.from_residual.ensures.1 in
    let m : Contents = contents_of c.args.module.now in
    rw (p.1, p.2) (large_stays (data_in m (data_entry c.args.raw.now) ≡ None) (HasTooMany m) c.in_err-ids.field-0.0 c.in_err-ids.ensures)

pub returns-in_err-kind : goal.returns-in_err-kind
returns-in_err-kind g c =
    let p = err_from_is_err_and c.from_residual-in_err-kind.result c.from_residual-in_err-kind.ensures.1 in
    rw (p.1, p.2)
    (refuses_so _ (λ none. data_lost _ _ c.in_ok-ids.ensures (memories c.args.module.now.memories) (data_entry c.args.raw.now) none) (λ large. absurd large) c.in_err-kind.ensures)

pub returns : goal.returns
returns g c = record {
  value = _;
  says = data_found _ _ c.in_ok-ids.ensures (memories c.args.module.now.memories) (data_entry c.args.raw.now) _ _ c.in_ok-kind.ensures
      (c.in_ok-value.ensures.items_if_clones_equal (λ x y same. same));
  own_id = c.in_ok-add.ensures.0;
  unnamed = refl;
  comes = c.in_ok-add.ensures.1;
  kept = c.in_ok-keep.ensures.kept ∙ ap (λ n. in_memory true (data_kind_of c.in_ok-kind.kind) n (memories c.args.module.now.memories)) (c.next_id.ensures ∙ sym c.in_ok-add.ensures.0);
  only = refl;
}
