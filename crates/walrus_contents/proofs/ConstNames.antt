-- What constant expressions name, and what ref.func names in them.
use Rattle.std.proofs.Common.{◌≡◌, ℕ, List, [], ◌∷◌, ◌++◌, map, refl, ap, sym, subst, ◌∙◌}
use Rattle.std.specs.Prelude.{flat_map}
use Rattle.std.proofs.lemmas.List.{append-nil}
use Rattle.walrus_base.specs.Types.{heap_names}
use Rattle.walrus_base.specs.ConstOps.{const_op, const_ops, value_op}
use Rattle.walrus_base.specs.Operators.{Byte, Item, arg_names, names_of, op_names, type_item}
use Rattle.walrus_base.specs.Value.{heap_type}
use Rattle.walrus_base.specs.declared.value.HeapType.{HeapType as DeclaredHeap}
use Rattle.walrus_base.specs.declared.const_expr.Value.{Value}
use Rattle.walrus_base.specs.declared.const_expr.Value.TheVariants as constant
use Rattle.walrus_base.specs.declared.const_expr.ConstOp.{ConstOp}
use Rattle.walrus_base.specs.declared.const_expr.ConstOp.TheVariants.{RefNull, V128Const}
use Rattle.walrus_base.specs.declared.const_expr.ConstExpr.{ConstExpr}
use Rattle.walrus_base.specs.declared.const_expr.ConstExpr.TheVariants as expression
use Rattle.std.specs.Global.{Vec}
use Rattle.walrus_code.specs.declared.items.ItemId.{ItemId}
use Rattle.walrus_contents.specs.Named.{Puts, items_in}

bytes_named : (bytes : List ℕ) → flat_map arg_names (map Byte bytes) ≡ []
bytes_named [] = refl
bytes_named (b ∷ bytes) = bytes_named bytes

-- a constant names nothing
pub value_named : (v : Value) → names_of (value_op v ∷ []) ≡ []
value_named (constant.I32 n) = refl
value_named (constant.I64 n) = refl
value_named (constant.F32 bits) = refl
value_named (constant.F64 bits) = refl
value_named (constant.V128 bytes) = append-nil (flat_map arg_names (map Byte bytes)) ∙ bytes_named bytes

-- so that nothing is put
pub value_put : (ids : Vec ItemId) (e : ConstExpr) (v : Value) → e ≡ expression.Value v → Puts ids ids (names_of (const_ops e))
value_put ids e v is = subst (λ (x : ConstExpr). Puts ids ids (names_of (const_ops x))) (sym is) (sym (append-nil (items_in ids)) ∙ ap (λ (named : List Item). items_in ids ++ named) (sym (value_named v)))

-- nor does v128.const
pub vector_named : (o : ConstOp) (bytes : List ℕ) → o ≡ V128Const bytes → [] ≡ op_names (const_op o)
vector_named o bytes is = subst (λ (x : ConstOp). [] ≡ op_names (const_op x)) (sym is) (sym (bytes_named bytes))

-- ref.null names the type of its heap
pub null_named : (h : DeclaredHeap) → op_names (const_op (RefNull h)) ≡ map type_item (heap_names (heap_type h))
null_named h = append-nil (map type_item (heap_names (heap_type h)))

pub null_alone : (h : DeclaredHeap) → names_of (const_op (RefNull h) ∷ []) ≡ map type_item (heap_names (heap_type h))
null_alone h = append-nil (op_names (const_op (RefNull h))) ∙ null_named h
