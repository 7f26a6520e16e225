use Rattle.std.proofs.Common.{inr, refl, subst}
use Rattle.std.specs.Prelude.{None, Some, ◌≡◌, ◌⊎◌}
use Rattle.std.proofs.lemmas.Result.{err_from_is_err_and}
use Rattle.wasm_entries.specs.Record.{global_entry}
use Rattle.walrus_base.specs.Arena.{item_at}
use Rattle.walrus_base.specs.Id.{place}
use Rattle.walrus_base.specs.Value.{val_type}
use Rattle.walrus_items.specs.Globals.{global_value, globals}
use Rattle.walrus_contents.specs.declared.parts.Contents.{Contents}
use Rattle.walrus_module.specs.View.{contents_of}
use Rattle.walrus_edit_list.specs.Globals.{defines, global_in}
use Rattle.walrus_edit_list.specs.Ids.{HasTooMany}
use Rattle.walrus_edit_list.specs.Places.{IsGone}
use Rattle.walrus_edit_list.proofs.Found.{global_found, global_unbegun, global_untyped}
use Rattle.walrus_edit_list.proofs.Refusing.{large_stays, refuses_so}
use Rattle.walrus_edit_list.proofs.SegmentSets.{set_so}
use Rattle.walrus_edit_list.proofs.globals.set_global.Goals as goal

pub returns-in_err-ids : goal.returns-in_err-ids
returns-in_err-ids g c =
    let p = err_from_is_err_and c.from_residual.result c.from_residual.ensures.1 in
    let m : Contents = contents_of c.args.module.now in
    rw (p.1, p.2) (large_stays (IsGone (globals m.globals) c.args.number ⊎ (global_in m (global_entry c.args.raw.now) ≡ None)) (HasTooMany m) c.in_err-ids.field-0.0 c.in_err-ids.ensures)

pub returns-in_err-ty : goal.returns-in_err-ty
returns-in_err-ty g c =
    let p = err_from_is_err_and c.from_residual-in_err-ty.result c.from_residual-in_err-ty.ensures.1 in
    rw (p.1, p.2) (refuses_so _ (λ none. inr (global_untyped _ _ c.in_ok-ids.ensures (global_entry c.args.raw.now) none)) (λ large. absurd large) c.in_err-ty.ensures)

pub returns-in_err-initial : goal.returns-in_err-initial
returns-in_err-initial g c =
    let p = err_from_is_err_and c.from_residual-in_err-initial.result c.from_residual-in_err-initial.ensures.1 in
    rw (p.1, p.2)
    (refuses_so _ (λ none. inr (global_unbegun _ _ c.in_ok-ids.ensures (global_entry c.args.raw.now) _ c.in_ok-ty.ensures none)) (λ large. absurd large) c.in_err-initial.ensures)

pub returns : goal.returns
returns g c =
    let old = globals c.args.module.now.globals in
    let was = global_value c.get.result.now in
    let stands : item_at old c.args.number ≡ Some was = subst (λ n. item_at old n ≡ Some was) c.at-id.ensures c.get.ensures in
    record {
      was = was;
      there = stands;
      value = defines (val_type c.in_ok-ty.ty) c.args.raw.now.ty c.in_ok-initial.initial was;
      says = global_found _ _ c.in_ok-ids.ensures (global_entry c.args.raw.now) _ _ c.in_ok-ty.ensures c.in_ok-initial.ensures;
      stays = (refl, refl);
      set = set_so (defines (val_type c.in_ok-ty.ty) c.args.raw.now.ty c.in_ok-initial.initial) old (globals c.define.new.all) (place c.at-id.result) c.args.number was c.at-id.ensures stands
          c.define.ensures;
      freed = c.free_import.ensures;
      only = refl;
    }
