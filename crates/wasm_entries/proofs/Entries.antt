-- What is written for imports, tables, globals and exports stands in the grammar.
use Rattle.std.proofs.Common.{◌≡◌, ℕ, Bool, true, false, List, [], ◌∷◌, ◌++◌, refl, subst, append_assoc, eqb-true}
use Rattle.std.specs.Prelude.{Option, Some, None, nat_eq}
use Rattle.wasm_forms.specs.Grammar.{Is}
use Rattle.wasm_forms.specs.Spelling.{number_bytes, block_bytes}
use Rattle.wasm_forms.specs.Types.{reference_from}
use Rattle.wasm_forms.proofs.Spelled.{number_stands, name_stands}
use Rattle.wasm_entries.specs.declared.record.RawTableType.{RawTableType}
use Rattle.wasm_entries.specs.declared.record.RawDesc.{RawDesc}
use Rattle.wasm_entries.specs.declared.record.RawDesc.TheVariants as descs
use Rattle.wasm_entries.specs.declared.record.RawExportKind.{RawExportKind}
use Rattle.wasm_entries.specs.declared.record.RawExportKind.TheVariants as kinds
use Rattle.wasm_entries.specs.Record.{Expression, Import, Table, Global, Export}
use Rattle.wasm_entries.specs.TypeForms.{table_type_from, table_type}
use Rattle.wasm_entries.specs.TypeSpelling.{table_type_bytes, limits_bytes, global_type_bytes, LimitsFit, TableTypeStands}
use Rattle.wasm_entries.specs.Forms.{desc_from, desc, import_form, table_from, table_form, global_form, kind_from, kind_form, export_form}
use Rattle.wasm_entries.specs.Spelling.{desc_bytes, import_bytes, expression_bytes, table_bytes, table_spelled, global_bytes, kind_byte, export_bytes, DescFits, ImportFits, TableFits, ExportFits, DescStands, ImportStands, InitialStands, TableStands, GlobalStands, ExportStands}
use Rattle.wasm_entries.proofs.LimitsStand as types
use Rattle.wasm_entries.proofs.Constants.{expression_stands}

desc_stands : (d : RawDesc) → DescFits d → DescStands d → Is desc (desc_bytes d) d
unfolding desc desc_from
desc_stands (descs.Function ty) f h = (0, (0 ∷ [], (number_bytes ty, (refl, refl, (ty, (refl, number_stands ty h))))))
desc_stands (descs.Table t) f h = (1, (1 ∷ [], (table_type_bytes t, (refl, refl, (t, (refl, types.table_stands t f h))))))
desc_stands (descs.Memory l) f h = (2, (2 ∷ [], (limits_bytes l, (refl, refl, (l, (refl, types.memory_stands l f h))))))
desc_stands (descs.Global g) f h = (3, (3 ∷ [], (global_type_bytes g, (refl, refl, (g, (refl, types.global_stands g h))))))
desc_stands (descs.Tag ty) f h = (4, (4 ∷ [], (0 ∷ number_bytes ty, (refl, refl, (ty, (refl, types.tag_stands ty h))))))

pub import_stands : (i : Import) → ImportFits i → ImportStands i → Is import_form (import_bytes i) i
unfolding import_form
import_stands i f h =
    let back = block_bytes i.name ++ desc_bytes i.desc in (
      (i.from, (i.name, i.desc)),
      (
        refl,
        (
          block_bytes i.from,
          (
            back,
            (
              append_assoc (block_bytes i.from) (block_bytes i.name) (desc_bytes i.desc),
              name_stands i.from h.from f.0,
              (block_bytes i.name, (desc_bytes i.desc, (refl, name_stands i.name h.name f.1, desc_stands i.desc f.2 h.desc))),
            ),
          ),
        ),
      ),
    )

-- no table type begins with 40
not_bare : (front : List ℕ) (t : RawTableType) → Is (table_type_from 0x40) front t → ⊥
unfolding table_type_from reference_from
not_bare front t h = h.1.1.1.1.1

bare_led : (b : ℕ) (front : List ℕ) (t : RawTableType) → Is (table_type_from b) front t → (same : Bool) → nat_eq b 0x40 ≡ same → Is (table_from b) front (record { ty = t; initial = None })
unfolding table_from
bare_led b front t h true e = absurd (not_bare front t (subst (λ k. Is (table_type_from k) front t) (eqb-true b 0x40 e) h))
bare_led b front t h false e = rw e (t, (refl, h))

bare_stands : (bytes : List ℕ) (t : RawTableType) → Is table_type bytes t → Is table_form bytes (record { ty = t; initial = None })
unfolding table_type table_form
bare_stands bytes t h = (h.0, (h.1.0, (h.1.1.0, (h.1.1.1.0, h.1.1.1.1, bare_led h.0 h.1.1.0 t h.1.1.1.2 (nat_eq h.0 0x40) refl))))

table_spelled_stands : (t : RawTableType) (initial : Option Expression) → LimitsFit t.limits → TableTypeStands t → InitialStands initial → Is table_form (table_spelled initial (table_type_bytes t)) (record { ty = t; initial = initial })
unfolding table_form table_from
table_spelled_stands t None f h k = bare_stands (table_type_bytes t) t (types.table_stands t f h)
table_spelled_stands t (Some e) f h k =
    let back = table_type_bytes t ++ expression_bytes e in
    (0x40, (0x40 ∷ [], (0 ∷ back, (refl, refl, (0, (0 ∷ [], (back, (refl, (refl, refl), ((t, e), (refl, (table_type_bytes t, (expression_bytes e, (refl, types.table_stands t f h, expression_stands e k)))))))))))))

pub table_stands : (t : Table) → TableFits t → TableStands t → Is table_form (table_bytes t) t
table_stands t f h = table_spelled_stands t.ty t.initial f h.ty h.initial

pub global_stands : (g : Global) → GlobalStands g → Is global_form (global_bytes g) g
unfolding global_form
global_stands g h = ((g.ty, g.initial), (refl, (global_type_bytes g.ty, (expression_bytes g.initial, (refl, types.global_stands g.ty h.ty, expression_stands g.initial h.initial)))))

kind_stands : (k : RawExportKind) → Is kind_form (kind_byte k ∷ []) k
unfolding kind_form kind_from
kind_stands kinds.Function = (0, (0 ∷ [], ([], (refl, refl, (refl, refl)))))
kind_stands kinds.Table = (1, (1 ∷ [], ([], (refl, refl, (refl, refl)))))
kind_stands kinds.Memory = (2, (2 ∷ [], ([], (refl, refl, (refl, refl)))))
kind_stands kinds.Global = (3, (3 ∷ [], ([], (refl, refl, (refl, refl)))))
kind_stands kinds.Tag = (4, (4 ∷ [], ([], (refl, refl, (refl, refl)))))

pub export_stands : (e : Export) → ExportFits e → ExportStands e → Is export_form (export_bytes e) e
unfolding export_form
export_stands e f h =
    let number = number_bytes e.index in
    ((e.name, (e.kind, e.index)), (refl, (block_bytes e.name, (kind_byte e.kind ∷ number, (refl, name_stands e.name h.name f, (kind_byte e.kind ∷ [], (number, (refl, kind_stands e.kind, number_stands e.index h.index))))))))
