use Rattle.std.proofs.Common.{ap, false, inr, refl, subst, true, ◌∙◌}
use Rattle.std.specs.Prelude.{None, Some, ◌≡◌, ◌⊎◌}
use Rattle.std.proofs.lemmas.Result.{err_from_is_err_and}
use Rattle.wasm_entries.specs.Record.{data_entry}
use Rattle.walrus_base.specs.Arena.{item_at}
use Rattle.walrus_base.specs.Id.{place}
use Rattle.walrus_contents.specs.View.{data_kind_of}
use Rattle.walrus_items.specs.Data.{data_segments, data_value}
use Rattle.walrus_items.specs.Memories.{memories}
use Rattle.walrus_contents.specs.declared.parts.Contents.{Contents}
use Rattle.walrus_module.specs.View.{contents_of}
use Rattle.walrus_edit_list.specs.Data.{data_in, in_memory, with_data}
use Rattle.walrus_edit_list.specs.Ids.{HasTooMany}
use Rattle.walrus_edit_list.specs.Places.{IsGone}
use Rattle.walrus_edit_list.proofs.Found.{data_found, data_lost}
use Rattle.walrus_edit_list.proofs.Refusing.{large_stays, refuses_so}
use Rattle.walrus_edit_list.proofs.SegmentSets.{set_so}
use Rattle.walrus_edit_list.proofs.data.set_data.Goals as goal

pub returns-in_err-ids : goal.returns-in_err-ids
returns-in_err-ids g c =
    let p = err_from_is_err_and c.from_residual.result c.from_residual.ensures.1 in
    let m : Contents = contents_of c.args.module.now in
    rw (p.1, p.2) (large_stays (IsGone (data_segments m.data_) c.args.number ⊎ (data_in m (data_entry c.args.raw.now) ≡ None)) (HasTooMany m) c.in_err-ids.field-0.0 c.in_err-ids.ensures)

pub returns-in_err-kind : goal.returns-in_err-kind
returns-in_err-kind g c =
    let p = err_from_is_err_and c.from_residual-in_err-kind.result c.from_residual-in_err-kind.ensures.1 in
    rw (p.1, p.2)
    (refuses_so _ (λ none. inr (data_lost _ _ c.in_ok-ids.ensures (memories c.args.module.now.memories) (data_entry c.args.raw.now) none)) (λ large. absurd large) c.in_err-kind.ensures)

pub returns : goal.returns
returns g c =
    let old = data_segments c.args.module.now.data_ in
    let was = data_value c.get.result.now in
    let stands : item_at old c.args.number ≡ Some was = subst (λ n. item_at old n ≡ Some was) c.at-id.ensures c.get.ensures in
    let change = with_data c.in_ok-kind.kind c.in_ok-value.value.items in
    record {
      was = was;
      stood = stands;
      value = change was;
      says = data_found _ _ c.in_ok-ids.ensures (memories c.args.module.now.memories) (data_entry c.args.raw.now) _ _ c.in_ok-kind.ensures
          (c.in_ok-value.ensures.items_if_clones_equal (λ x y same. same));
      stays = (refl, refl);
      set = set_so change old (data_segments c.write.new.all) (place c.at-id.result) c.args.number was c.at-id.ensures stands c.write.ensures;
      kept = c.in_ok-keep.ensures.kept
          ∙ ap (λ l. in_memory true (data_kind_of c.in_ok-kind.kind) (place c.at-id.result) l) c.free.ensures
          ∙ ap (λ n. in_memory true (data_kind_of c.in_ok-kind.kind) n (in_memory false (data_kind_of was.kind) n (memories c.args.module.now.memories))) c.at-id.ensures;
      only = refl;
    }
