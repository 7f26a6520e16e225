use Rattle.std.proofs.Common.{List, ap, map, refl, subst, sym}
use Rattle.std.proofs.lemmas.Result.{err_from_is_err_and}
use Rattle.wasm_entries.specs.Record.{group}
use Rattle.walrus.specs.Frames.Record.{custom_record, sections}
use Rattle.wasm_frames.specs.declared.record.RawCustom.{RawCustom}
use Rattle.walrus.specs.Contents.View.{lent}
use Rattle.walrus_edits.specs.ItemRecords.{Told}
use Rattle.walrus_edits.specs.LocalNames.{AreLocalNames, are_known, local_told}
use Rattle.walrus_edits.proofs.ListSteps.{are_told, functions_known, lists, lists_not}
use Rattle.walrus_edits.proofs.item_list.listed.Goals as goal

pub returns-in_err-tell_module : goal.returns-in_err-tell_module
returns-in_err-tell_module c =
    let s = sections c.args.raw.now in
    let groups = map group c.args.groups.now in
    let held = lent c.args.parts in
    let known = functions_known s c.functions_of.result c.args.raw.now.imports.items refl c.functions_of.ensures.imported c.functions_of.ensures.defined in
    let named = subst (λ (cs : List RawCustom). AreLocalNames (are_known c.functions_of.result) (map custom_record cs) (map local_told c.in_ok-locals.locals.items)) c.deref.ensures.value c.in_ok-locals.ensures.value in
    let same = subst (λ (ts : List Told). AreLocalNames (are_known c.functions_of.result) s.customs ts) (sym (ap (map local_told) c.deref-2.ensures.value)) named in
    let p = err_from_is_err_and c.from_residual-in_err-tell_module.result c.from_residual-in_err-tell_module.ensures.1 in
    rw (p.1, p.2)
    (lists_not s groups held (Unit {0}) c.in_err-tell_module.field-0.0 c.new-list.result.items c.tell_module.new.to.items (map local_told c.deref-2.result.now) (are_told s groups held (are_known c.functions_of.result) _ known same) c.in_err-tell_module.ensures)

pub returns : goal.returns
returns c =
    let s = sections c.args.raw.now in
    let groups = map group c.args.groups.now in
    let held = lent c.args.parts in
    let known = functions_known s c.functions_of.result c.args.raw.now.imports.items refl c.functions_of.ensures.imported c.functions_of.ensures.defined in
    let named = subst (λ (cs : List RawCustom). AreLocalNames (are_known c.functions_of.result) (map custom_record cs) (map local_told c.in_ok-locals.locals.items)) c.deref.ensures.value c.in_ok-locals.ensures.value in
    let same = subst (λ (ts : List Told). AreLocalNames (are_known c.functions_of.result) s.customs ts) (sym (ap (map local_told) c.deref-2.ensures.value)) named in
    lists s groups held (map local_told c.deref-2.result.now) c.new-list.result.items c.tell_module.new.to c.new-list.ensures.items (are_told s groups held (are_known c.functions_of.result) _ known same) c.in_ok-tell_module.ensures
