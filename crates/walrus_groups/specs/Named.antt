-- Types with each number of a type looked up: places for indices, or back.
use Rattle.std.specs.Prelude.{ℕ, List, [], ◌∷◌, Option, Some}
use Rattle.wasm_forms.specs.Reading.{◌>>=◌}
use Rattle.walrus_base.specs.Types.{ValType, StorageType, Unpacked, I8, I16, FieldType, CompType, Func, Struct, Array, SubType}
use Rattle.walrus_base.specs.Operators.{Types}
use Rattle.walrus_base.specs.TypeDef.{TypeDef}
use Rattle.walrus_code.specs.Names.{Lookup, named_val}

-- what is found for each of these; none where nothing is for one
abbrev pub each : {X Y : Type 0} → (X → Option Y) → List X → Option (List Y)
each find [] = Some []
each find (x ∷ xs) = find x >>= λ found. each find xs >>= λ others. Some (found ∷ others)

module _ (names : Lookup) where
  abbrev pub named_vals : List (ValType ℕ) → Option (List (ValType ℕ))
  named_vals vs = each (named_val names) vs

  abbrev pub named_storage : StorageType ℕ → Option (StorageType ℕ)
  named_storage (Unpacked v) = named_val names v >>= λ found. Some (Unpacked found)
  named_storage I8 = Some I8
  named_storage I16 = Some I16

  abbrev pub named_field : FieldType ℕ → Option (FieldType ℕ)
  named_field f = named_storage f.storage >>= λ storage. Some (record { storage = storage; mutable = f.mutable })

  abbrev pub named_fields : List (FieldType ℕ) → Option (List (FieldType ℕ))
  named_fields fs = each named_field fs

  abbrev pub named_function : List (ValType ℕ) → List (ValType ℕ) → Option (CompType ℕ)
  named_function params results = named_vals params >>= λ takes. named_vals results >>= λ gives. Some (Func takes gives)

  abbrev pub named_comp : CompType ℕ → Option (CompType ℕ)
  named_comp (Func params results) = named_function params results
  named_comp (Struct fields) = named_fields fields >>= λ found. Some (Struct found)
  named_comp (Array element) = named_field element >>= λ found. Some (Array found)

  abbrev pub named_types : List ℕ → Option (List ℕ)
  named_types ts = each (names Types) ts

  abbrev pub named_sub : SubType ℕ → Option (SubType ℕ)
  named_sub s = named_types s.supertypes >>= λ supertypes. named_comp s.comp >>= λ comp. Some (record { is_final = s.is_final; supertypes = supertypes; comp = comp })

  -- a type with its group
  abbrev pub named_def : TypeDef → Option TypeDef
  named_def x = named_types x.group >>= λ group. named_sub x.sub >>= λ sub. Some (record { group = group; sub = sub })
