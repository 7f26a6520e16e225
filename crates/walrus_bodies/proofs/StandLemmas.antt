-- Operators that were read stand where they are spelled with new numbers.
-- A kind of mark is written as its number: local 0, function 1, global 2, type 3, table 4, memory 5.
use Rattle.std.proofs.Common.{◌≡◌, ℕ, zero, suc, Bool, true, false, List, [], ◌∷◌, ◌++◌, map, Option, Some, None, refl, sym, ap, subst, ◌∙◌}
use Rattle.std.specs.Prelude.{IfSome, option_map, if◌then◌else◌, nat_lt}
use Rattle.wasm_forms.specs.Number.{AreBytes}
use Rattle.wasm_forms.specs.Reading.{◌>>=◌}
use Rattle.wasm_forms.specs.Grammar.{Is, IsRow}
use Rattle.wasm_forms.specs.Writing.{EachFits}
use Rattle.wasm_forms.specs.declared.types.RawHeap.{RawHeap}
use Rattle.wasm_forms.specs.declared.types.RawHeap.TheVariants.{Abstract, Index}
use Rattle.wasm_forms.specs.declared.types.RawVal.{RawVal}
use Rattle.wasm_forms.specs.declared.types.RawVal.TheVariants.{I32, I64, F32, F64, V128, Ref}
use Rattle.wasm_text.specs.Kind.{Kind}
use Rattle.wasm_text.specs.Kind.TheVariants as kinds
use Rattle.wasm_text.specs.RawArg.{RawArg}
use Rattle.wasm_text.specs.RawArg.TheVariants as args
use Rattle.wasm_text.specs.RawBlock.{RawBlock}
use Rattle.wasm_text.specs.RawBlock.TheVariants.{NoResult, OneResult, OfType}
use Rattle.wasm_text.specs.Operators.{Op}
use Rattle.wasm_text.specs.Forms.{operator}
use Rattle.wasm_text.specs.Spelling.{op_bytes}
use Rattle.wasm_text.specs.Standing.{heap_spells, value_spells, block_spells, is_of, behind_one, behind_value, behind_catch, behind_entries, behind_counted, behind_kind, behind_kinds, is_done, spelled_by, spells, ArgHeld}
use Rattle.wasm_text.specs.Table.{kinds_of}
use Rattle.wasm_text.proofs.Stands.{operator_stands}
use Rattle.wasm_text.proofs.Taken.{operator_good}
use Rattle.wasm_text.specs.Marks.{with, all_args}
use Rattle.wasm_text.specs.Filling.{Numbering, renamed, renamed_heap, renamed_value, renamed_block, or_same, anew, HasNumber}
use Rattle.walrus_bodies.specs.Emitting.{AllStand}
use Rattle.walrus_bodies.proofs.RenamedLemmas.{each_split}

-- ---- what holds of a renamed argument

any : {A : Type 0} (P : A → Type 0) (o : Option A) → ((a : A) → P a) → IfSome o P
any P None h = tt
any P (Some a) h = h a

if_mapped : {A B : Type 0} (f : A → B) (P : B → Type 0) (o : Option A) → IfSome o (λ a. P (f a)) → IfSome (option_map f o) P
if_mapped f P None h = tt
if_mapped f P (Some a) h = h

or_kept : (P : RawArg → Type 0) (a : RawArg) (o : Option RawArg) → P a → IfSome o P → P (or_same a o)
or_kept P a None p h = p
or_kept P a (Some b) p h = h

-- ---- tests that don't look at the numbers

heap_kept : (number : Numbering) (h : RawHeap) → IfSome (renamed_heap number h) (λ g. heap_spells g ≡ heap_spells h)
heap_kept number (Abstract b) = refl
heap_kept number (Index n) = if_mapped Index (λ g. heap_spells g ≡ true) (number 3 n) (any (λ _. true ≡ true) (number 3 n) (λ _. refl))

value_kept : (number : Numbering) (v : RawVal) → IfSome (renamed_value number v) (λ w. value_spells w ≡ value_spells v)
value_kept number (Ref r) = if_mapped (λ heap. Ref (record { nullable = r.nullable; heap = heap })) (λ w. value_spells w ≡ heap_spells r.heap) (renamed_heap number r.heap) (heap_kept number r.heap)
value_kept number I32 = refl
value_kept number I64 = refl
value_kept number F32 = refl
value_kept number F64 = refl
value_kept number V128 = refl

block_kept : (number : Numbering) (b : RawBlock) → IfSome (renamed_block number b) (λ c. block_spells c ≡ block_spells b)
block_kept number NoResult = refl
block_kept number (OneResult v) = if_mapped OneResult (λ c. block_spells c ≡ value_spells v) (renamed_value number v) (value_kept number v)
block_kept number (OfType t) = if_mapped OfType (λ c. block_spells c ≡ true) (number 3 t) (any (λ _. true ≡ true) (number 3 t) (λ _. refl))

record Blind {X : Type 0} (P : RawArg → X) : Type 0 where
  function : (n m : ℕ) → P (args.Function m) ≡ P (args.Function n)
  «type» : (n m : ℕ) → P (args.«Type» m) ≡ P (args.«Type» n)
  table : (n m : ℕ) → P (args.Table m) ≡ P (args.Table n)
  memory : (n m : ℕ) → P (args.Memory m) ≡ P (args.Memory n)
  global : (n m : ℕ) → P (args.Global m) ≡ P (args.Global n)
  local : (n m : ℕ) → P (args.Local m) ≡ P (args.Local n)
  value : (v w : RawVal) → value_spells w ≡ value_spells v → P (args.Value w) ≡ P (args.Value v)
  heap : (h g : RawHeap) → heap_spells g ≡ heap_spells h → P (args.Heap g) ≡ P (args.Heap h)
  block : (b c : RawBlock) → block_spells c ≡ block_spells b → P (args.Block c) ≡ P (args.Block b)
  access : (flags offset n m : ℕ) → P (args.Access flags m offset) ≡ P (args.Access flags n offset)

then_kept : {A : Type 0} (o : Option A) (P Q : A → Type 0) → ((a : A) → P a → Q a) → IfSome o P → IfSome o Q
then_kept None P Q f h = tt
then_kept (Some a) P Q f h = f a h

unseen : {X : Type 0} (P : RawArg → X) (make : ℕ → RawArg) (n : ℕ) (o : Option ℕ) → ((m : ℕ) → P (make m) ≡ P (make n)) → IfSome (option_map make o) (λ b. P b ≡ P (make n))
unseen P make n o h = if_mapped make (λ b. P b ≡ P (make n)) o (any (λ m. P (make m) ≡ P (make n)) o h)

module _ {X : Type 0} (P : RawArg → X) (blind : Blind P) (number : Numbering) where
  renamed_blind : (a : RawArg) → IfSome (renamed number a) (λ b. P b ≡ P a)
  renamed_blind (args.Function n) = unseen P args.Function n (number 1 n) (blind.function n)
  renamed_blind (args.«Type» n) = unseen P args.«Type» n (number 3 n) (blind.«type» n)
  renamed_blind (args.Table n) = unseen P args.Table n (number 4 n) (blind.table n)
  renamed_blind (args.Memory n) = unseen P args.Memory n (number 5 n) (blind.memory n)
  renamed_blind (args.Global n) = unseen P args.Global n (number 2 n) (blind.global n)
  renamed_blind (args.Tag n) = tt
  renamed_blind (args.Element n) = tt
  renamed_blind (args.Data n) = tt
  renamed_blind (args.Local n) = unseen P args.Local n (number 0 n) (blind.local n)
  renamed_blind (args.Label n) = refl
  renamed_blind (args.Count n) = refl
  renamed_blind (args.Number n) = refl
  renamed_blind (args.Byte b) = refl
  renamed_blind (args.S32 z) = refl
  renamed_blind (args.S64 z) = refl
  renamed_blind (args.F32 bits) = refl
  renamed_blind (args.F64 bits) = refl
  renamed_blind (args.Value v) = if_mapped args.Value (λ b. P b ≡ P (args.Value v)) (renamed_value number v) (then_kept (renamed_value number v) (λ w. value_spells w ≡ value_spells v) (λ w. P (args.Value w) ≡ P (args.Value v)) (blind.value v) (value_kept number v))
  renamed_blind (args.Heap h) = if_mapped args.Heap (λ b. P b ≡ P (args.Heap h)) (renamed_heap number h) (then_kept (renamed_heap number h) (λ g. heap_spells g ≡ heap_spells h) (λ g. P (args.Heap g) ≡ P (args.Heap h)) (blind.heap h) (heap_kept number h))
  renamed_blind (args.Block b) = if_mapped args.Block (λ c. P c ≡ P (args.Block b)) (renamed_block number b) (then_kept (renamed_block number b) (λ c. block_spells c ≡ block_spells b) (λ c. P (args.Block c) ≡ P (args.Block b)) (blind.block b) (block_kept number b))
  renamed_blind (args.Access flags memory offset) = unseen P (λ n. args.Access flags n offset) memory (number 5 memory) (blind.access flags offset memory)

  anew_blind : (a : RawArg) → P (anew number a) ≡ P a
  anew_blind a = or_kept (λ b. P b ≡ P a) a (renamed number a) refl (renamed_blind a)

-- whether it is of a kind
function_blind : (kind : Kind) (n m : ℕ) → is_of kind (args.Function m) ≡ is_of kind (args.Function n)
function_blind kinds.Function n m = refl
function_blind kind n m = refl

type_blind : (kind : Kind) (n m : ℕ) → is_of kind (args.«Type» m) ≡ is_of kind (args.«Type» n)
type_blind kinds.«Type» n m = refl
type_blind kind n m = refl

table_blind : (kind : Kind) (n m : ℕ) → is_of kind (args.Table m) ≡ is_of kind (args.Table n)
table_blind kinds.Table n m = refl
table_blind kind n m = refl

memory_blind : (kind : Kind) (n m : ℕ) → is_of kind (args.Memory m) ≡ is_of kind (args.Memory n)
memory_blind kinds.Memory n m = refl
memory_blind kind n m = refl

global_blind : (kind : Kind) (n m : ℕ) → is_of kind (args.Global m) ≡ is_of kind (args.Global n)
global_blind kinds.Global n m = refl
global_blind kind n m = refl

local_blind : (kind : Kind) (n m : ℕ) → is_of kind (args.Local m) ≡ is_of kind (args.Local n)
local_blind kinds.Local n m = refl
local_blind kind n m = refl

value_blind : (kind : Kind) (v w : RawVal) → value_spells w ≡ value_spells v → is_of kind (args.Value w) ≡ is_of kind (args.Value v)
value_blind kinds.Values v w e = refl
value_blind kind v w e = refl

heap_blind : (kind : Kind) (h g : RawHeap) → heap_spells g ≡ heap_spells h → is_of kind (args.Heap g) ≡ is_of kind (args.Heap h)
heap_blind kinds.Heap h g e = e
heap_blind kind h g e = refl

block_blind : (kind : Kind) (b c : RawBlock) → block_spells c ≡ block_spells b → is_of kind (args.Block c) ≡ is_of kind (args.Block b)
block_blind kinds.Block b c e = e
block_blind kind b c e = refl

access_blind : (kind : Kind) (flags offset n m : ℕ) → is_of kind (args.Access flags m offset) ≡ is_of kind (args.Access flags n offset)
access_blind kinds.Access flags offset n m = refl
access_blind kind flags offset n m = refl

is_blind : (kind : Kind) → Blind (is_of kind)
is_blind kind = record { function = function_blind kind; «type» = type_blind kind; table = table_blind kind; memory = memory_blind kind; global = global_blind kind; local = local_blind kind; value = value_blind kind; heap = heap_blind kind; block = block_blind kind; access = access_blind kind }

-- what lists ask of an argument
abbrev value_in : RawArg → Bool
value_in (args.Value v) = value_spells v
value_in arg = false

abbrev count_in : RawArg → Option ℕ
count_in (args.Count n) = Some n
count_in arg = None

abbrev byte_in : RawArg → Option ℕ
byte_in (args.Byte b) = Some b
byte_in arg = None

value_in_blind : Blind value_in
value_in_blind = record { function = λ n m. refl; «type» = λ n m. refl; table = λ n m. refl; memory = λ n m. refl; global = λ n m. refl; local = λ n m. refl; value = λ v w e. e; heap = λ h g e. refl; block = λ b c e. refl; access = λ flags offset n m. refl }

count_in_blind : Blind count_in
count_in_blind = record { function = λ n m. refl; «type» = λ n m. refl; table = λ n m. refl; memory = λ n m. refl; global = λ n m. refl; local = λ n m. refl; value = λ v w e. refl; heap = λ h g e. refl; block = λ b c e. refl; access = λ flags offset n m. refl }

byte_in_blind : Blind byte_in
byte_in_blind = record { function = λ n m. refl; «type» = λ n m. refl; table = λ n m. refl; memory = λ n m. refl; global = λ n m. refl; local = λ n m. refl; value = λ v w e. refl; heap = λ h g e. refl; block = λ b c e. refl; access = λ flags offset n m. refl }

abbrev Skip : Type 0
Skip = List RawArg → Option (List RawArg)

abbrev after_byte : ℕ → Skip
after_byte b rest = if nat_lt b 2 then (behind_one kinds.Tag rest >>= behind_one kinds.Label) else if nat_lt b 4 then behind_one kinds.Label rest else None

value_front : (a : RawArg) (rest : List RawArg) → behind_value (a ∷ rest) ≡ (if value_in a then Some rest else None)
value_front (args.Value v) rest = refl
value_front a rest = refl

catch_front : (a : RawArg) (rest : List RawArg) → behind_catch (a ∷ rest) ≡ (byte_in a >>= λ b. after_byte b rest)
catch_front (args.Byte b) rest = refl
catch_front a rest = refl

counted_front : (entry : Skip) (a : RawArg) (rest : List RawArg) → behind_counted entry (a ∷ rest) ≡ (count_in a >>= λ n. behind_entries entry n rest)
counted_front entry (args.Count n) rest = refl
counted_front entry a rest = refl

-- ---- the arguments behind those of a kind

record Keeps (f : RawArg → RawArg) : Type 0 where
  one : (kind : Kind) (a : RawArg) → is_of kind (f a) ≡ is_of kind a
  value : (a : RawArg) → value_in (f a) ≡ value_in a
  count : (a : RawArg) → count_in (f a) ≡ count_in a
  byte : (a : RawArg) → byte_in (f a) ≡ byte_in a

anew_keeps : (number : Numbering) → Keeps (anew number)
anew_keeps number = record {
  one = λ kind. anew_blind (is_of kind) (is_blind kind) number;
  value = anew_blind value_in value_in_blind number;
  count = anew_blind count_in count_in_blind number;
  byte = anew_blind byte_in byte_in_blind number;
}

module _ (f : RawArg → RawArg) (keeps : Keeps f) where
  abbrev Follows : Skip → Type 0
  Follows entry = (rest : List RawArg) → entry (map f rest) ≡ option_map (map f) (entry rest)

  passed : (t : Bool) (rest : List RawArg) → (if t then Some (map f rest) else None) ≡ option_map (map f) (if t then Some rest else None)
  passed true rest = refl
  passed false rest = refl

  follow_on : (next : Skip) → Follows next → (o : Option (List RawArg)) → (option_map (map f) o >>= next) ≡ option_map (map f) (o >>= next)
  follow_on next h None = refl
  follow_on next h (Some rest) = h rest

  one_follows : (kind : Kind) → Follows (behind_one kind)
  one_follows kind [] = refl
  one_follows kind (a ∷ rest) = ap (λ (t : Bool). if t then Some (map f rest) else None) (keeps.one kind a) ∙ passed (is_of kind a) rest

  value_follows : Follows behind_value
  value_follows [] = refl
  value_follows (a ∷ rest) =
      value_front (f a) (map f rest) ∙ ap (λ (t : Bool). if t then Some (map f rest) else None) (keeps.value a)
      ∙ passed (value_in a) rest ∙ ap (option_map (map f)) (sym (value_front a rest))

  either : (s t : Bool) (x y : Option (List RawArg)) → (if s then option_map (map f) x else if t then option_map (map f) y else None) ≡ option_map (map f) (if s then x else if t then y else None)
  either true t x y = refl
  either false true x y = refl
  either false false x y = refl

  label_after_tag : Follows (λ rest. behind_one kinds.Tag rest >>= behind_one kinds.Label)
  label_after_tag rest = ap (λ o. o >>= behind_one kinds.Label) (one_follows kinds.Tag rest) ∙ follow_on (behind_one kinds.Label) (one_follows kinds.Label) (behind_one kinds.Tag rest)

  after_follows : (b : ℕ) → Follows (after_byte b)
  after_follows b rest =
      ap (λ o. if nat_lt b 2 then o else if nat_lt b 4 then behind_one kinds.Label (map f rest) else None) (label_after_tag rest)
      ∙ ap (λ o. if nat_lt b 2 then option_map (map f) (behind_one kinds.Tag rest >>= behind_one kinds.Label) else if nat_lt b 4 then o else None) (one_follows kinds.Label rest)
      ∙ either (nat_lt b 2) (nat_lt b 4) (behind_one kinds.Tag rest >>= behind_one kinds.Label) (behind_one kinds.Label rest)

  by_number : (next : ℕ → Skip) → ((n : ℕ) → Follows (next n)) → (o : Option ℕ) (rest : List RawArg) → (o >>= λ n. next n (map f rest)) ≡ option_map (map f) (o >>= λ n. next n rest)
  by_number next h None rest = refl
  by_number next h (Some n) rest = h n rest

  catch_follows : Follows behind_catch
  catch_follows [] = refl
  catch_follows (a ∷ rest) =
      catch_front (f a) (map f rest) ∙ ap (λ (o : Option ℕ). o >>= λ b. after_byte b (map f rest)) (keeps.byte a)
      ∙ by_number after_byte after_follows (byte_in a) rest ∙ ap (option_map (map f)) (sym (catch_front a rest))

  entries_follow : (entry : Skip) → Follows entry → (n : ℕ) → Follows (behind_entries entry n)
  unfolding behind_entries
  entries_follow entry h zero rest = refl
  entries_follow entry h (suc n) rest = ap (λ o. o >>= behind_entries entry n) (h rest) ∙ follow_on (behind_entries entry n) (entries_follow entry h n) (entry rest)

  counted_follows : (entry : Skip) → Follows entry → Follows (behind_counted entry)
  counted_follows entry h [] = refl
  counted_follows entry h (a ∷ rest) =
      counted_front entry (f a) (map f rest) ∙ ap (λ (o : Option ℕ). o >>= λ n. behind_entries entry n (map f rest)) (keeps.count a)
      ∙ by_number (behind_entries entry) (entries_follow entry h) (count_in a) rest ∙ ap (option_map (map f)) (sym (counted_front entry a rest))

  kind_follows : (kind : Kind) → Follows (behind_kind kind)
  kind_follows kinds.Nothing rest = refl
  kind_follows kinds.Catches rest = counted_follows behind_catch catch_follows rest
  kind_follows kinds.Labels rest = counted_follows (behind_one kinds.Label) (one_follows kinds.Label) rest
  kind_follows kinds.Values rest = counted_follows behind_value value_follows rest
  kind_follows kinds.SixteenBytes rest = entries_follow (behind_one kinds.Byte) (one_follows kinds.Byte) 16 rest
  kind_follows kind rest = one_follows kind rest

  kinds_follow : (listed : List Kind) → Follows (behind_kinds listed)
  kinds_follow [] rest = refl
  kinds_follow (kind ∷ listed) rest = ap (λ o. o >>= behind_kinds listed) (kind_follows kind rest) ∙ follow_on (behind_kinds listed) (kinds_follow listed) (behind_kind kind rest)

  done_same : (o : Option (List RawArg)) → is_done (option_map (map f) o) ≡ is_done o
  done_same None = refl
  done_same (Some []) = refl
  done_same (Some (a ∷ rest)) = refl

  spelled_same : (o : Option (List Kind)) (rest : List RawArg) → spelled_by o (map f rest) ≡ spelled_by o rest
  spelled_same None rest = refl
  spelled_same (Some listed) rest = ap is_done (kinds_follow listed rest) ∙ done_same (behind_kinds listed rest)

  spells_same : (o : Op) → spells (with f o) ≡ spells o
  unfolding spells
  spells_same o = spelled_same (kinds_of o.op) o.args

-- ---- ranges

module _ (number : Numbering) where
  each_held : (xs : List RawArg) → EachFits (HasNumber number) xs → EachFits ArgHeld xs → EachFits ArgHeld (map (anew number) xs)
  each_held [] has h = tt
  each_held (a ∷ xs) has h = (subst (λ (o : Option RawArg). ArgHeld (or_same a o)) (sym has.0.1.0) (has.0.1.1 h.0), each_held xs has.1 h.1)

  -- ---- operators

  one_stands : (bytes : List ℕ) (o : Op) → EachFits (HasNumber number) o.args → AreBytes bytes → Is operator bytes o → Is operator (op_bytes (with (anew number) o)) (with (anew number) o)
  one_stands bytes o has a is =
      let good = operator_good bytes o a is in
      operator_stands (with (anew number) o) (each_held o.args has good.1) (spells_same (anew number) (anew_keeps number) o ∙ good.0)

  bytes_split : (xs ys : List ℕ) → AreBytes (xs ++ ys) → AreBytes xs × AreBytes ys
  bytes_split [] ys h = (tt, h)
  bytes_split (x ∷ xs) ys h = let p = bytes_split xs ys h.1 in ((h.0, p.0), p.1)

  pub all_stand : (texts : List Op) (bytes : List ℕ) → EachFits (HasNumber number) (all_args texts) → AreBytes bytes → IsRow (Is operator) bytes texts → AllStand (map (with (anew number)) texts)
  all_stand [] bytes has a row = tt
  all_stand (o ∷ texts) bytes has a (front, (back, (e, is, row))) =
      let p = bytes_split front back (subst AreBytes e a) in
      let h = each_split (HasNumber number) o.args (all_args texts) has in
      (one_stands front o h.0 p.0 is, all_stand texts back h.1 p.1 row)
