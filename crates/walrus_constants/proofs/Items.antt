-- Globals and tables meet their records.
use Rattle.std.proofs.Common.{◌≡◌, ◌∙◌, ℕ, List, Option, Some, refl, sym, ap}
use Rattle.std.specs.Prelude.{option_map}
use Rattle.wasm_forms.specs.Reading.{◌>>=◌}
use Rattle.wasm_entries.specs.Record as entries
use Rattle.walrus_base.specs.Types.{RefType, ValType, map_ref, map_val}
use Rattle.walrus_base.specs.Operators.{Types, Op}
use Rattle.walrus_code.specs.Names.{Lookup, named_val}
use Rattle.walrus_model.specs.Abstract.{Origin, Defined, Table, Global}
use Rattle.walrus_model.specs.Renaming.{Renaming, unchanged, renamed_const, renamed_origin, renamed_global, renamed_table}
use Rattle.walrus_model.specs.Sections.{global_of, table_of}
use Rattle.walrus_model.proofs.PipelineSame.{global_stays, table_stays}
use Rattle.walrus_constants.specs.Named.{named_ref, named_initialiser, named_global, named_table}
use Rattle.walrus_constants.specs.Laws.{AgreesWith, IsInPlace}
use Rattle.walrus_constants.proofs.Renamed.{Agrees, agreed, agrees_last, agrees_then, ref_agrees, val_agrees, initialiser_agrees, in_place}

abbrev global_with : Global → ValType ℕ → Option (List Op) → Global
global_with g value initialiser = record { origin = g.origin; ty = record { value = value; mutable = g.ty.mutable; shared = g.ty.shared }; initialiser = initialiser }

abbrev table_with : Table → RefType ℕ → Option (List Op) → Table
table_with t element initialiser = record { origin = t.origin; ty = record { limits = t.ty.limits; element = element }; initialiser = initialiser }

origin_stays : (r : Renaming) (o : Origin) → o ≡ Defined → renamed_origin r o ≡ o
origin_stays r o e = ap (renamed_origin r) e ∙ sym e

module _ (r : Renaming) (names : Lookup) (agrees : AgreesWith r names) where
  global_agrees : (g : Global) → Agrees (global_with g (map_val (r.numbers Types) g.ty.value) (option_map (renamed_const r) g.initialiser)) (named_global names g)
  global_agrees g =
      let value = map_val (r.numbers Types) g.ty.value in
      agrees_then value (named_val names g.ty.value) (λ v. named_initialiser names g.initialiser >>= λ i. Some (global_with g v i)) _ (val_agrees r names agrees g.ty.value)
      (agrees_last (option_map (renamed_const r) g.initialiser) (named_initialiser names g.initialiser) (global_with g value) (initialiser_agrees r names agrees g.initialiser))

  -- what is found of a global of the module itself is the global renamed
  pub global_renamed : (g found : Global) → g.origin ≡ Defined → named_global names g ≡ Some found → renamed_global r g ≡ found
  global_renamed g found own e =
      ap (λ (o : Origin). let made : Global = record { origin = o; ty = record { value = map_val (r.numbers Types) g.ty.value; mutable = g.ty.mutable; shared = g.ty.shared }; initialiser = option_map (renamed_const r) g.initialiser } in made) (origin_stays r g.origin own)
      ∙ agreed _ found (named_global names g) (global_agrees g) e

  table_agrees : (t : Table) → Agrees (table_with t (map_ref (r.numbers Types) t.ty.element) (option_map (renamed_const r) t.initialiser)) (named_table names t)
  table_agrees t =
      let element = map_ref (r.numbers Types) t.ty.element in
      agrees_then element (named_ref names t.ty.element) (λ x. named_initialiser names t.initialiser >>= λ i. Some (table_with t x i)) _ (ref_agrees r names agrees t.ty.element)
      (agrees_last (option_map (renamed_const r) t.initialiser) (named_initialiser names t.initialiser) (table_with t element) (initialiser_agrees r names agrees t.initialiser))

  pub table_renamed : (t found : Table) → t.origin ≡ Defined → named_table names t ≡ Some found → renamed_table r t ≡ found
  table_renamed t found own e =
      ap (λ (o : Origin). let made : Table = record { origin = o; ty = record { limits = t.ty.limits; element = map_ref (r.numbers Types) t.ty.element }; initialiser = option_map (renamed_const r) t.initialiser } in made) (origin_stays r t.origin own)
      ∙ agreed _ found (named_table names t) (table_agrees t) e

-- what is read of a record is what the record says

pub global_read : (names : Lookup) → IsInPlace names → (g : entries.Global) (x : Global) → named_global names (global_of g) ≡ Some x → x ≡ global_of g
global_read names h g x e = sym (global_renamed unchanged names (in_place names h) (global_of g) x refl e) ∙ global_stays unchanged (λ space n. refl) (λ n. refl) (global_of g)

pub table_read : (names : Lookup) → IsInPlace names → (t : entries.Table) (x : Table) → named_table names (table_of t) ≡ Some x → x ≡ table_of t
table_read names h t x e = sym (table_renamed unchanged names (in_place names h) (table_of t) x refl e) ∙ table_stays unchanged (λ space n. refl) (λ n. refl) (table_of t)
