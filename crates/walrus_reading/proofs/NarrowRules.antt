-- What reading needs of the rules on sections.
use Rattle.std.proofs.Common.{◌≡◌, ℕ, true, List, get_or, refl, sym, ap, ◌∙◌}
use Rattle.std.specs.Prelude.{Option, Some, None, slice_get, flat_map, option_map}
use Rattle.wasm_entries.specs.Record as entries
use Rattle.wasm_frames.specs.Record as wire
use Rattle.wasm_wire.specs.Context.{desc_function, imported}
use Rattle.wasm_wire.specs.Rules as wire_rules
use Rattle.walrus_base.specs.Types.{SubType}
use Rattle.walrus_base.specs.TypeDef.{TypeDef}
use Rattle.walrus_groups.specs.Groups.{comp_of, sub_of, types_from}
use Rattle.walrus_bodies.specs.FunctionTypes.{is_function_comp, is_function_def}
use Rattle.walrus_model.specs.Sections.{types_of}
use Rattle.walrus_base.proofs.Lookups.{got_map}
use Rattle.walrus_groups.proofs.TypeLists.{types_subs}
use Rattle.walrus_base.proofs.Standing.{some_inj}
use Rattle.walrus_reading.specs.Sections.{Rules}
use Rattle.walrus_groups.proofs.Kept.{All-back as behind}

-- ---- types by index

abbrev flat : wire.Module → List entries.Sub
flat m = flat_map (λ g. g) m.types

-- the type of an index is the same in both lists
same_at : (m : wire.Module) (t : ℕ) → option_map (λ (x : TypeDef). x.sub) (types_of m t) ≡ option_map sub_of (slice_get (flat m) t)
same_at m t =
    sym (got_map (λ (x : TypeDef). x.sub) (types_from 0 m.types) t)
    ∙ ap (λ l. slice_get l t) (types_subs 0 m.types)
    ∙ got_map sub_of (flat m) t

comp_function : (c : entries.Comp) → wire_rules.IsFunctionComp c → is_function_comp (comp_of c) ≡ true
comp_function (entries.Function t) h = refl
comp_function (entries.Struct fields) h = absurd h
comp_function (entries.Array field) h = absurd h

function_by : (o : Option TypeDef) (s : Option entries.Sub) → option_map (λ (x : TypeDef). x.sub) o ≡ option_map sub_of s → wire_rules.IsFunction s → is_function_def o ≡ true
function_by None None e h = absurd h
function_by (Some x) None e h = absurd h
function_by None (Some s) e h = absurd (cc)
function_by (Some x) (Some s) e h =
    let same : x.sub ≡ sub_of s = some_inj x.sub (sub_of s) e in
    ap (λ (y : SubType ℕ). is_function_comp y.comp) same ∙ comp_function s.comp h

-- ---- what reading needs

pub narrow_rules : (m : wire.Module) → wire_rules.Rules m → Rules m
narrow_rules m h =
    let own : wire_rules.AreFunctionTypes (flat m) m.functions = behind (λ t. wire_rules.IsFunction (slice_get (flat m) t)) (imported desc_function m.imports) m.functions h.function_types in
    record {
      types_refer = h.types;
      function_types = λ i d lt. function_by (types_of m (get_or m.functions i d)) (slice_get (flat m) (get_or m.functions i d)) (same_at m (get_or m.functions i d)) (own i d lt);
      indices = h.indices;
      as_many_bodies = h.as_many_bodies;
    }
