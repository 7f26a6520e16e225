-- What stands at a mark, by its kind.
use Rattle.std.proofs.Common.{◌≡◌, ℕ, ◌+◌, ◌-◌, ◌<◌, ◌≤◌, Bool, true, false, List, [], ◌∷◌, ◌++◌, length, take, drop, map, Some, refl, sym, ap, subst, ◌∙◌, arith, append_assoc, append-nil}
use Rattle.std.specs.Prelude.{◌≢◌, flat_map}
use Rattle.std.proofs.lemmas.List.{take_at, length-drop, length-append, map-append}
use Rattle.wasm_forms.specs.Number.{IsUnsigned}
use Rattle.wasm_forms.specs.Grammar.{Form, Is, U32, U64, Made, ◌then◌, at}
use Rattle.wasm_forms.proofs.Bind.{some_same}
use Rattle.wasm_text.specs.RawArg.{RawArg}
use Rattle.wasm_text.specs.RawArg.TheVariants as args
use Rattle.wasm_text.specs.Forms.{access, access_from, has_memory}
use Rattle.wasm_text.specs.Places.{between, Stands, IsNumberAt}
use Rattle.wasm_text.specs.Marks.{place_of, kind_of, form_of, found}
use Rattle.wasm_text.proofs.Between.{cut}
use Rattle.wasm_text.proofs.Filling.{found_is}
use Rattle.wasm_text.proofs.Marked.{by_kind, choose_gives, made_gives}
use Rattle.wasm_text.proofs.Read.{number_read}
use Rattle.walrus_base.specs.Operators.{Space, Types, Functions, Tables, Memories, Globals, Arg, Index, Label, Local, Number, Count, Byte, S32, S64, Bits32, Bits64, Value, Heap, Block, Access, arg_names}
use Rattle.walrus_code.specs.FromRaw.{arg_of}
use Rattle.walrus_bodies.specs.Blocks.{block_holds}
use Rattle.walrus_code.specs.Code.{item_of, arg_of as declared_arg}
use Rattle.walrus_code.specs.declared.operator.Arg.{Arg as DeclaredArg}
use Rattle.walrus_code.specs.declared.operator.Arg.TheVariants as declared
use Rattle.walrus_code.specs.declared.items.ItemId.{ItemId}
use Rattle.walrus_bodies.specs.Names.{OfArgument, PutsAt, items_named}
use Rattle.walrus_bodies.specs.Placed.{moved_arg}
use Rattle.wasm_text.proofs.Scans.{no_memory as low_flags}

-- ---- an index

index_is : (make : ℕ → RawArg) (bytes : List ℕ) (at behind value : ℕ) (arg : RawArg) → Stands (Made make U32) bytes at behind arg → IsNumberAt bytes at value → arg ≡ make value
index_is make bytes at behind value arg s is =
    let n = s.text.0 in
    s.text.1.0 ∙ ap make (sym (number_read bytes at behind n value (record { forward = s.forward; within = s.within; text = s.text.1.1 }) is))

index_at : (kind : ℕ) (make : ℕ → RawArg) → form_of kind ≡ Made make U32 → (bytes : List ℕ) (mark value : ℕ) → kind_of mark ≡ kind → IsNumberAt bytes (place_of mark) value → OfArgument bytes mark (λ arg. arg ≡ make value)
index_at kind make form bytes mark value k is arg behind s =
    index_is make bytes (place_of mark) behind value arg (subst (λ (f : Form RawArg). Stands f bytes (place_of mark) behind arg) (ap form_of k ∙ form) s) is

abbrev pub NamesAt : ℕ → Space → Type 0
NamesAt kind space = (bytes : List ℕ) (mark value place : ℕ) → kind_of mark ≡ kind → IsNumberAt bytes (place_of mark) value → place ≡ value → OfArgument bytes mark (λ arg. (space, place) ∷ [] ≡ items_named arg)

names_at : (kind : ℕ) (make : ℕ → RawArg) (space : Space) → form_of kind ≡ Made make U32 → ((n : ℕ) → items_named (make n) ≡ (space, n) ∷ []) → NamesAt kind space
names_at kind make space form named bytes mark value place k is at arg behind s =
    ap (λ (n : ℕ). (space, n) ∷ []) at ∙ sym (ap items_named (index_at kind make form bytes mark value k is arg behind s) ∙ named value)

pub function_at : NamesAt 1 Functions
unfolding form_of
function_at = names_at 1 args.Function Functions refl (λ n. refl)

pub global_at : NamesAt 2 Globals
unfolding form_of
global_at = names_at 2 args.Global Globals refl (λ n. refl)

pub type_at : NamesAt 3 Types
unfolding form_of
type_at = names_at 3 args.«Type» Types refl (λ n. refl)

pub table_at : NamesAt 4 Tables
unfolding form_of
table_at = names_at 4 args.Table Tables refl (λ n. refl)

pub memory_at : NamesAt 5 Memories
unfolding form_of
memory_at = names_at 5 args.Memory Memories refl (λ n. refl)

pub local_at : (bytes : List ℕ) (mark value : ℕ) → kind_of mark ≡ 0 → IsNumberAt bytes (place_of mark) value → OfArgument bytes mark (λ arg. arg ≡ args.Local value)
unfolding form_of
local_at = index_at 0 args.Local refl

pub none_at : (bytes : List ℕ) (mark : ℕ) → kind_of mark ≢ 1 → kind_of mark ≢ 2 → kind_of mark ≢ 3 → kind_of mark ≢ 4 → kind_of mark ≢ 5 → kind_of mark ≢ 6 → kind_of mark ≢ 10 → OfArgument bytes mark (λ arg. [] ≡ items_named arg)
none_at bytes mark n1 n2 n3 n4 n5 n6 n10 arg behind s =
    by_kind (λ a. [] ≡ items_named a) (kind_of mark) (between (place_of mark) behind bytes) arg (λ _ n. refl) (λ e. absurd (n1 e)) (λ e. absurd (n2 e)) (λ e. absurd (n3 e)) (λ e. absurd (n4 e)) (λ e. absurd (n5 e)) (λ e. absurd (n6 e)) (λ n. refl) (λ z. refl) (λ z. refl) (λ e. absurd (n10 e)) s.text

-- ---- an access to memory 0

-- in front of what stands there stands its first part
front_stands : {A : Type 0} (f : Form A) (bytes front back : List ℕ) (at behind : ℕ) (value : A) → at < behind → behind ≤ length bytes → 0 < length front → between at behind bytes ≡ front ++ back → Is f front value → Stands f bytes at (at + length front) value
front_stands f bytes front back at behind value forward within some e is =
    let n : at + length front - at ≡ length front = omega arith in
    let all : drop at bytes ≡ front ++ (back ++ drop behind bytes) = cut bytes at behind (omega (arith, forward)) ∙ ap (λ k. k ++ drop behind bytes) e ∙ append_assoc front back (drop behind bytes) in
    let here : between at (at + length front) bytes ≡ front = ap (λ k. take k (drop at bytes)) n ∙ ap (take (length front)) all ∙ take_at front (back ++ drop behind bytes) (length front) refl in
    record {
      forward = omega (arith, some);
      within = omega (arith, length-drop at bytes, ap length all, length-append front (back ++ drop behind bytes), forward, within);
      text = subst (λ (m : List ℕ). Is f m value) (sym here) is;
    }

not_empty : (bytes : List ℕ) (n : ℕ) → IsUnsigned bytes n → 0 < length bytes
not_empty [] n h = absurd h
not_empty (b ∷ bytes) n h = omega arith

access_low : (P : RawArg → Type 0) (flags : ℕ) (bytes : List ℕ) (arg : RawArg) → flags < 64 → ((offset : ℕ) → P (args.Access flags 0 offset)) → Is (access_from flags) bytes arg → P arg
unfolding access_from
access_low P flags bytes arg low all is =
    choose_gives P (has_memory flags) (Made (λ x. args.Access (flags - 64) x.0 x.1) (U32 then U64)) (Made (λ offset. args.Access flags 0 offset) U64) bytes arg
    (λ e. let no : true ≡ false = sym e ∙ low_flags flags low in λ h. absurd cc) (made_gives P (λ offset. args.Access flags 0 offset) U64 bytes arg all) is

low_access : (bytes : List ℕ) (at behind value : ℕ) (arg : RawArg) → Stands access bytes at behind arg → IsNumberAt bytes at value → value < 64 → (Memories, 0) ∷ [] ≡ items_named arg
unfolding access
low_access bytes at behind value arg s is low =
    let flags = s.text.0 in
    let front = s.text.1.0 in
    let back = s.text.1.1.0 in
    let e : value ≡ flags = number_read bytes at (at + length front) flags value (front_stands U32 bytes front back at behind flags s.forward s.within (not_empty front flags s.text.1.1.1.1.spelled) s.text.1.1.1.0 s.text.1.1.1.1) is in
    access_low (λ a. (Memories, 0) ∷ [] ≡ items_named a) flags back arg (omega (arith, e, low)) (λ offset. refl) s.text.1.1.1.2

pub access_at : (bytes : List ℕ) (mark value : ℕ) → kind_of mark ≡ 6 → IsNumberAt bytes (place_of mark) value → value < 64 → OfArgument bytes mark (λ arg. (Memories, 0) ∷ [] ≡ items_named arg)
unfolding form_of
access_at bytes mark value k is low arg behind s = low_access bytes (place_of mark) behind value arg (subst (λ (n : ℕ). Stands (form_of n) bytes (place_of mark) behind arg) k s) is low

-- ---- what is read

pub read_at_mark : (bytes rest : List ℕ) (mark : ℕ) (arg : RawArg) → found bytes mark ≡ Some (arg, rest) → OfArgument bytes mark (λ a. arg ≡ a)
read_at_mark bytes rest mark arg here other behind s =
    let p : Some (arg, rest) ≡ Some (other, drop behind bytes) = sym here ∙ found_is bytes mark behind other s in
    ap (λ (x : RawArg × List ℕ). x.0) (some_same (arg, rest) (other, drop behind bytes) p)

-- ---- what is put

pub puts : (bytes : List ℕ) (mark : ℕ) (old new : List ItemId) (item : ItemId) → new ≡ old ++ item ∷ [] → OfArgument bytes mark (λ arg. item_of item ∷ [] ≡ items_named arg) → PutsAt bytes mark old new
puts bytes mark old new item e names arg behind s = ap (map item_of) e ∙ map-append item_of old (item ∷ []) ∙ ap (λ x. map item_of old ++ x) (names arg behind s)

pub moved_names : (by : ℕ) (a : Arg) → arg_names (moved_arg by a) ≡ arg_names a
moved_names by (Index x) = refl
moved_names by (Local n) = refl
moved_names by (Label n) = refl
moved_names by (Number n) = refl
moved_names by (Count n) = refl
moved_names by (Byte n) = refl
moved_names by (S32 z) = refl
moved_names by (S64 z) = refl
moved_names by (Bits32 n) = refl
moved_names by (Bits64 n) = refl
moved_names by (Value v) = refl
moved_names by (Heap h) = refl
moved_names by (Block b) = refl
moved_names by (Access flags memory offset) = refl

pub puts_read : (bytes rest : List ℕ) (mark : ℕ) (arg : RawArg) (args : List Arg) (old new : List ItemId) → found bytes mark ≡ Some (arg, rest) → args ≡ moved_arg 0 (arg_of arg) ∷ []
    → map item_of new ≡ map item_of old ++ flat_map arg_names args → PutsAt bytes mark old new
puts_read bytes rest mark arg args old new here one put other behind s =
    put ∙ ap (λ x. map item_of old ++ x) (ap (flat_map arg_names) one ∙ append-nil (arg_names (moved_arg 0 (arg_of arg))) ∙ moved_names 0 (arg_of arg) ∙ ap items_named (read_at_mark bytes rest mark arg here other behind s))

-- ---- whether a block holds

pub moved_holds : (holds : ℕ → Bool) (by : ℕ) (a : Arg) → block_holds holds (moved_arg by a) ≡ block_holds holds a
moved_holds holds by (Index x) = refl
moved_holds holds by (Local n) = refl
moved_holds holds by (Label n) = refl
moved_holds holds by (Number n) = refl
moved_holds holds by (Count n) = refl
moved_holds holds by (Byte n) = refl
moved_holds holds by (S32 z) = refl
moved_holds holds by (S64 z) = refl
moved_holds holds by (Bits32 n) = refl
moved_holds holds by (Bits64 n) = refl
moved_holds holds by (Value v) = refl
moved_holds holds by (Heap h) = refl
moved_holds holds by (Block b) = refl
moved_holds holds by (Access flags memory offset) = refl

pub holds_read : (holds : ℕ → Bool) (bytes rest : List ℕ) (mark : ℕ) (arg : RawArg) (placed : DeclaredArg) (answer : Bool) → found bytes mark ≡ Some (arg, rest) → declared_arg placed ≡ moved_arg 0 (arg_of arg)
    → answer ≡ block_holds holds (declared_arg placed) → OfArgument bytes mark (λ a. answer ≡ block_holds holds (arg_of a))
holds_read holds bytes rest mark arg placed answer here one is other behind s =
    is ∙ ap (block_holds holds) one ∙ moved_holds holds 0 (arg_of arg) ∙ ap (λ a. block_holds holds (arg_of a)) (read_at_mark bytes rest mark arg here other behind s)

pub no_block : (holds : ℕ → Bool) (arg : DeclaredArg) → ((b : _) → arg ≡ declared.Block b → ⊥) → true ≡ block_holds holds (declared_arg arg)
no_block holds (declared.Function id) h = refl
no_block holds (declared.«Type» id) h = refl
no_block holds (declared.Table id) h = refl
no_block holds (declared.Memory id) h = refl
no_block holds (declared.Tag id) h = refl
no_block holds (declared.Global id) h = refl
no_block holds (declared.Element id) h = refl
no_block holds (declared.Data id) h = refl
no_block holds (declared.Local id) h = refl
no_block holds (declared.Label n) h = refl
no_block holds (declared.Count n) h = refl
no_block holds (declared.Number n) h = refl
no_block holds (declared.Byte n) h = refl
no_block holds (declared.S32 z) h = refl
no_block holds (declared.S64 z) h = refl
no_block holds (declared.F32 n) h = refl
no_block holds (declared.F64 n) h = refl
no_block holds (declared.Value v) h = refl
no_block holds (declared.Heap k) h = refl
no_block holds (declared.Block b) h = absurd (h b refl)
no_block holds (declared.Access flags memory offset) h = refl

pub holds_at : (holds : ℕ → Bool) (bytes : List ℕ) (mark : ℕ) → kind_of mark ≢ 10 → OfArgument bytes mark (λ a. true ≡ block_holds holds (arg_of a))
holds_at holds bytes mark n10 arg behind s =
    by_kind (λ a. true ≡ block_holds holds (arg_of a)) (kind_of mark) (between (place_of mark) behind bytes) arg (λ _ n. refl) (λ _ n. refl) (λ _ n. refl) (λ _ n. refl) (λ _ n. refl) (λ _ n. refl) (λ _ flags memory offset. refl) (λ n. refl) (λ z. refl) (λ z. refl) (λ e. absurd (n10 e)) s.text
