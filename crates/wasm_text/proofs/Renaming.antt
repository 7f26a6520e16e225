-- Operators whose arguments name by new numbers.
use Rattle.std.proofs.Common.{◌≡◌, ℕ, Bool, true, false, List, [], ◌∷◌, map, Some, None, refl, sym, ap, subst, ◌∙◌, inl, inr}
use Rattle.std.specs.Prelude.{if◌then◌else◌, option_map}
use Rattle.wasm_forms.specs.Writing.{EachFits}
use Rattle.wasm_forms.specs.Spelling.{row_bytes}
use Rattle.wasm_forms.specs.declared.types.RawHeap.{RawHeap}
use Rattle.wasm_forms.specs.declared.types.RawHeap.TheVariants.{Abstract, Index}
use Rattle.wasm_forms.specs.declared.types.RawVal.{RawVal}
use Rattle.wasm_forms.specs.declared.types.RawVal.TheVariants.{I32, I64, F32, F64, V128, Ref}
use Rattle.wasm_forms.proofs.Bind.{some_not_none}
use Rattle.wasm_operators.specs.declared.operator.RawArg.{RawArg}
use Rattle.wasm_operators.specs.declared.operator.RawArg.TheVariants as args
use Rattle.wasm_operators.specs.declared.operator.RawBlock.{RawBlock}
use Rattle.wasm_operators.specs.declared.operator.RawBlock.TheVariants.{NoResult, OneResult, OfType}
use Rattle.wasm_operators.specs.Operators.{Op}
use Rattle.wasm_operators.specs.Spelling.{op_bytes}
use Rattle.wasm_text.specs.Marks.{heap_names, value_names, block_names, arg_names, naming, args_at, fill, Leaves, Holds, all_args, with}
use Rattle.wasm_text.specs.Filling.{Numbering, renamed, renamed_heap, renamed_value, renamed_block, or_same, anew, HasNumber, SomeLacks}

-- ---- what names nothing stays

heap_stays : (number : Numbering) (h : RawHeap) → heap_names h ≡ false → renamed_heap number h ≡ Some h
heap_stays number (Abstract b) e = refl
heap_stays number (Index n) e = absurd cc

value_stays : (number : Numbering) (v : RawVal) → value_names v ≡ false → renamed_value number v ≡ Some v
value_stays number (Ref r) e = ap (λ o. option_map (λ heap. Ref (record { nullable = r.nullable; heap = heap })) o) (heap_stays number r.heap e)
value_stays number I32 e = refl
value_stays number I64 e = refl
value_stays number F32 e = refl
value_stays number F64 e = refl
value_stays number V128 e = refl

block_stays : (number : Numbering) (b : RawBlock) → block_names b ≡ false → renamed_block number b ≡ Some b
block_stays number NoResult e = refl
block_stays number (OneResult v) e = ap (option_map OneResult) (value_stays number v e)
block_stays number (OfType t) e = absurd cc

pub stays : (number : Numbering) (arg : RawArg) → arg_names arg ≡ false → renamed number arg ≡ Some arg
stays number (args.Function n) e = absurd cc
stays number (args.«Type» n) e = absurd cc
stays number (args.Table n) e = absurd cc
stays number (args.Memory n) e = absurd cc
stays number (args.Global n) e = absurd cc
stays number (args.Tag n) e = absurd cc
stays number (args.Element n) e = absurd cc
stays number (args.Data n) e = absurd cc
stays number (args.Local n) e = absurd cc
stays number (args.Label n) e = refl
stays number (args.Count n) e = refl
stays number (args.Number n) e = refl
stays number (args.Byte b) e = refl
stays number (args.S32 z) e = refl
stays number (args.S64 z) e = refl
stays number (args.F32 bits) e = refl
stays number (args.F64 bits) e = refl
stays number (args.Value v) e = ap (option_map args.Value) (value_stays number v e)
stays number (args.Heap h) e = ap (option_map args.Heap) (heap_stays number h e)
stays number (args.Block b) e = ap (option_map args.Block) (block_stays number b e)
stays number (args.Access flags memory offset) e = absurd cc

pub leaves : (number : Numbering) → Leaves (anew number)
leaves number arg e = ap (or_same arg) (stays number arg e)

-- ---- by those that name something

-- what names nothing has no need of a number
each_front : (number : Numbering) (arg : RawArg) (more : List RawArg) (t : Bool) → arg_names arg ≡ t → (EachFits (HasNumber number) (naming more) → EachFits (HasNumber number) more)
    → EachFits (HasNumber number) (if t then arg ∷ naming more else naming more) → EachFits (HasNumber number) (arg ∷ more)
each_front number arg more true e rec h = (h.0, rec h.1)
each_front number arg more false e rec h = ((arg, (stays number arg e, λ held. held)), rec h)

each_all : (number : Numbering) (xs : List RawArg) → EachFits (HasNumber number) (naming xs) → EachFits (HasNumber number) xs
each_all number [] h = tt
each_all number (arg ∷ more) h = each_front number arg more (arg_names arg) refl (each_all number more) h

each_kept : (P : RawArg → Type 0) (arg : RawArg) (more : List RawArg) (t : Bool) → P arg → EachFits P (naming more) → EachFits P (if t then arg ∷ naming more else naming more)
each_kept P arg more true p h = (p, h)
each_kept P arg more false p h = h

each_named : (P : RawArg → Type 0) (xs : List RawArg) → EachFits P xs → EachFits P (naming xs)
each_named P [] h = tt
each_named P (arg ∷ more) h = each_kept P arg more (arg_names arg) h.0 (each_named P more h.1)

some_front : (number : Numbering) (arg : RawArg) (more : List RawArg) (t : Bool) → (SomeLacks number (naming more) → SomeLacks number more)
    → SomeLacks number (if t then arg ∷ naming more else naming more) → SomeLacks number (arg ∷ more)
some_front number arg more true rec (inl l) = inl l
some_front number arg more true rec (inr h) = inr (rec h)
some_front number arg more false rec h = inr (rec h)

some_all : (number : Numbering) (xs : List RawArg) → SomeLacks number (naming xs) → SomeLacks number xs
some_all number [] h = h
some_all number (arg ∷ more) h = some_front number arg more (arg_names arg) (some_all number more) h

lacks_front : (number : Numbering) (arg : RawArg) (more : List RawArg) (t : Bool) → arg_names arg ≡ t → renamed number arg ≡ None → SomeLacks number (if t then arg ∷ naming more else naming more)
lacks_front number arg more true e l = inl l
lacks_front number arg more false e l = absurd (some_not_none arg (sym (stays number arg e) ∙ l))

lacks_behind : (number : Numbering) (arg : RawArg) (more : List RawArg) (t : Bool) → SomeLacks number (naming more) → SomeLacks number (if t then arg ∷ naming more else naming more)
lacks_behind number arg more true h = inr h
lacks_behind number arg more false h = h

some_named : (number : Numbering) (xs : List RawArg) → SomeLacks number xs → SomeLacks number (naming xs)
some_named number [] h = h
some_named number (arg ∷ more) (inl l) = lacks_front number arg more (arg_names arg) refl l
some_named number (arg ∷ more) (inr h) = lacks_behind number arg more (arg_names arg) (some_named number more h)

-- ---- the laws

pub filled_renamed : (number : Numbering) (bytes marks : List ℕ) (texts : List Op) → Holds bytes marks texts → EachFits (HasNumber number) (args_at bytes marks)
    → EachFits (HasNumber number) (all_args texts) × (fill (anew number) bytes 0 marks ≡ row_bytes op_bytes (map (with (anew number)) texts))
filled_renamed number bytes marks texts h each =
    (each_all number (all_args texts) (subst (EachFits (HasNumber number)) (sym h.shown.named) (each_named (HasNumber number) (args_at bytes marks) each)), sym (h.shown.becomes (anew number) (leaves number)))

pub lacking_lacks : (number : Numbering) (bytes marks : List ℕ) (texts : List Op) → Holds bytes marks texts → SomeLacks number (args_at bytes marks) → SomeLacks number (all_args texts)
lacking_lacks number bytes marks texts h some = some_all number (all_args texts) (subst (SomeLacks number) (sym h.shown.named) (some_named number (args_at bytes marks) some))
