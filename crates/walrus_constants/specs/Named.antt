-- Constant expressions, and the items that they initialise, put through a look-up of what they name: from indices to places, or back.
use Rattle.std.specs.Prelude.{ℕ, List, Option, Some, None}
use Rattle.wasm_forms.specs.Reading.{◌>>=◌}
use Rattle.walrus_base.specs.Types.{RefType}
use Rattle.walrus_base.specs.Operators.{Op}
use Rattle.walrus_code.specs.Names.{Lookup, named_heap, named_val, named_op}
use Rattle.walrus_groups.specs.Named.{each}
use Rattle.walrus_model.specs.Abstract.{Table, Global}

module _ (names : Lookup) where
  -- an operator of a constant expression, in which no locals stand
  abbrev pub named_const_op : Op → Option Op
  named_const_op o = named_op names (λ x. Some x) o

  abbrev pub named_const : List Op → Option (List Op)
  named_const ops = each named_const_op ops

  abbrev pub named_initialiser : Option (List Op) → Option (Option (List Op))
  named_initialiser None = Some None
  named_initialiser (Some ops) = named_const ops >>= λ found. Some (Some found)

  abbrev pub named_ref : RefType ℕ → Option (RefType ℕ)
  named_ref r = named_heap names r.heap >>= λ heap. Some (record { nullable = r.nullable; heap = heap })

  -- what brings an item stays

  abbrev pub named_global : Global → Option Global
  named_global g = named_val names g.ty.value >>= λ value. named_initialiser g.initialiser >>= λ initialiser.
      Some (record { origin = g.origin; ty = record { value = value; mutable = g.ty.mutable; shared = g.ty.shared }; initialiser = initialiser })

  abbrev pub named_table : Table → Option Table
  named_table t = named_ref t.ty.element >>= λ element. named_initialiser t.initialiser >>= λ initialiser.
      Some (record { origin = t.origin; ty = record { limits = t.ty.limits; element = element }; initialiser = initialiser })
