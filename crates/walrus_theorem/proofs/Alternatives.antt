-- Texts that differ and say one module.
use Rattle.std.proofs.Common.{◌≡◌, ℕ, ◌<◌, Bool, true, false, List, [], ◌∷◌, length, refl, ap, subst, arith, inl, inr}
use Rattle.std.specs.Prelude.{Option, Some, None, ◌≢◌, codes, ◌==◌, ◌&&◌, ◌++◌, if◌then◌else◌}
use Rattle.std.proofs.lemmas.Bool.Decides.{eqb_tells}
use Rattle.std.proofs.lemmas.Bool.{eqb-true}
use mathlib.Core.Path.{fun_ext}
use Rattle.wasm_forms.specs.declared.types.RawHeap.{RawHeap}
use Rattle.wasm_forms.specs.declared.types.RawHeap.TheVariants as raw_heap
use Rattle.wasm_forms.specs.declared.types.RawVal.{RawVal}
use Rattle.wasm_forms.specs.declared.types.RawVal.TheVariants as vals
use Rattle.wasm_entries.specs.Record as entries
use Rattle.wasm_operators.specs.Operators as wire
use Rattle.wasm_operators.specs.declared.operator.RawArg.{RawArg}
use Rattle.wasm_operators.specs.declared.operator.RawArg.TheVariants as args
use Rattle.wasm_payloads.specs.declared.naming.NameSpace.TheVariants as spaces
use Rattle.walrus_base.specs.Operators.{Types, Functions, Tables, Memories, Tags, Globals, Elements, DataSegments}
use Rattle.walrus_model.specs.Abstract.{Name, Subject, TheModule, AnItem, ALocal}
use Rattle.walrus_theorem.specs.Alternatives.{local_of, null_of, joined, two_bodies, two_functions, with_mode, with_count, in_front, behind, with_names, with_flag, no_local, two_maps, one_map, beyond, rising, falling, HasAlternatives}
use Rattle.walrus_theorem.specs.Examples.{one_text, empty_body, none_declared, split, with_empty_group}
use Rattle.walrus_theorem.specs.Namings.{is_in_range}
use Rattle.walrus_theorem.specs.Text.{BodyText, NameMap, Text, said_by}

-- ---- what is said is the same

nothing_at : (f x : ℕ) → (said_by beyond).named (ALocal f x) ≡ (said_by one_text).named (ALocal f x)
nothing_at f x = elim (eqb_tells 5 f) [
  | inl h ↦ subst (λ (g : ℕ). (said_by beyond).named (ALocal g x) ≡ (said_by one_text).named (ALocal g x)) h.1 refl
  | inr h ↦ ap (λ (b : Bool). if is_in_range (said_by one_text) (ALocal f x) then (if b && 0 == x then codes "a" ∷ [] else []) ++ [] else []) h.0
]

nothing_beyond : (x : Subject) → (said_by beyond).named x ≡ (said_by one_text).named x
nothing_beyond TheModule = refl
nothing_beyond (AnItem (Types, i)) = refl
nothing_beyond (AnItem (Functions, i)) = refl
nothing_beyond (AnItem (Tables, i)) = refl
nothing_beyond (AnItem (Memories, i)) = refl
nothing_beyond (AnItem (Tags, i)) = refl
nothing_beyond (AnItem (Globals, i)) = refl
nothing_beyond (AnItem (Elements, i)) = refl
nothing_beyond (AnItem (DataSegments, i)) = refl
nothing_beyond (ALocal f x) = nothing_at f x

no_function_named : said_by beyond ≡ said_by one_text
no_function_named = ap (λ (f : Subject → List Name). record (said_by one_text) { named = f }) (fun_ext nothing_beyond)

abbrev one_if : Bool → Name → List Name
one_if b name = if b then name ∷ [] else []

turned : (p q : Bool) (a b : Name) → (p ≡ true → q ≡ true → ⊥) → one_if p a ++ (one_if q b ++ []) ≡ one_if q b ++ (one_if p a ++ [])
turned true true a b apart = absurd (apart refl refl)
turned true false a b apart = refl
turned false true a b apart = refl
turned false false a b apart = refl

never_both : (i : ℕ) → (0 == i) ≡ true → (1 == i) ≡ true → ⊥
never_both i h g = let zero : 0 ≡ i = eqb-true 0 i h in let one : 1 ≡ i = eqb-true 1 i g in omega (arith, zero, one)

either_order : (x : Subject) → (said_by rising).named x ≡ (said_by falling).named x
either_order TheModule = refl
either_order (AnItem (Types, i)) = refl
either_order (AnItem (Functions, i)) = ap (λ (l : List Name). if is_in_range (said_by rising) (AnItem (Functions, i)) then l else []) (turned (0 == i) (1 == i) (codes "a") (codes "b") (never_both i))
either_order (AnItem (Tables, i)) = refl
either_order (AnItem (Memories, i)) = refl
either_order (AnItem (Tags, i)) = refl
either_order (AnItem (Globals, i)) = refl
either_order (AnItem (Elements, i)) = refl
either_order (AnItem (DataSegments, i)) = refl
either_order (ALocal f x) = refl

orders : said_by rising ≡ said_by falling
orders = ap (λ (f : Subject → List Name). record (said_by rising) { named = f }) (fun_ext either_order)

-- ---- the texts differ

module _ {X : Type 0} (count : X → ℕ) where
  -- the first has more of what is counted, or the second
  more : (x y : X) → count y < count x → x ≢ y
  more x y lt e = let same : count x ≡ count y = ap count e in omega (arith, same, lt)

  less : (x y : X) → count x < count y → x ≢ y
  less x y lt e = let same : count x ≡ count y = ap count e in omega (arith, same, lt)

zero_one : 0 < 1
zero_one = omega arith

low_high : 0x00 < 0x74
low_high = omega arith

abbrev heap_byte : RawHeap → ℕ
heap_byte (raw_heap.Abstract b) = b
heap_byte h = 0

abbrev type_byte : List (ℕ × RawVal) → ℕ
type_byte ((n, vals.Ref r) ∷ ds) = heap_byte r.heap
type_byte ds = 0

abbrev arg_byte : List RawArg → ℕ
arg_byte (args.Heap h ∷ xs) = heap_byte h
arg_byte xs = 0

abbrev op_byte : List wire.Op → ℕ
op_byte [] = 0
op_byte (o ∷ os) = arg_byte o.args

abbrev names_table : entries.ElementMode → ℕ
names_table (entries.ActiveElements (Some t) offset) = 1
names_table mode = 0

abbrev mode_named : List entries.Element → ℕ
mode_named [] = 0
mode_named (e ∷ es) = names_table e.mode

abbrev flag : List entries.Table → ℕ
flag [] = 0
flag (t ∷ ts) = if t.ty.limits.shared then 1 else 0

abbrev first_index : NameMap → ℕ
first_index [] = 0
first_index (x ∷ xs) = x.0

abbrev counted : Option ℕ → ℕ
counted None = 0
counted (Some n) = 1

-- ---- all of them

pub has_alternatives : HasAlternatives
has_alternatives = record {
  no_local_declared = (refl, more (λ (t : BodyText). length t.declarations) none_declared empty_body (omega arith));
  type_twice = (refl, more (λ (t : BodyText). length t.declarations) split joined (omega arith));
  local_types = (refl, less (λ (t : BodyText). type_byte t.declarations) (local_of 0x00) (local_of 0x74) low_high);
  operators = (refl, less (λ (t : BodyText). op_byte t.operators) (null_of 0x00) (null_of 0x74) low_high);
  empty_group = (refl, more (λ (t : Text). length t.types) with_empty_group one_text (omega arith));
  more_bodies = (refl, more (λ (t : Text). length t.bodies) two_bodies one_text (omega arith));
  more_functions = (refl, more (λ (t : Text). length t.functions) two_functions one_text (omega arith));
  modes = (refl, less (λ (t : Text). mode_named t.elements) (with_mode (entries.ActiveElements None [])) (with_mode (entries.ActiveElements (Some 0) [])) zero_one);
  data_count = (refl, more (λ (t : Text). counted t.data_count) with_count one_text zero_one);
  places = (refl, more (λ (t : Text). length t.dylinks) in_front behind (omega arith));
  name_section = (refl, more (λ (t : Text). length t.others) with_names one_text (omega arith));
  flags = (refl, more (λ (t : Text). flag t.tables) (with_flag true) (with_flag false) zero_one);
  no_local_named = (refl, more (λ (t : Text). length t.names.locals) no_local one_text (omega arith));
  maps = (refl, more (λ (t : Text). length t.names.locals) two_maps one_map (omega arith));
  no_function = (no_function_named, more (λ (t : Text). length t.names.locals) beyond one_text (omega arith));
  order = (orders, less (λ (t : Text). first_index (t.names.items spaces.Functions)) rising falling zero_one);
}
