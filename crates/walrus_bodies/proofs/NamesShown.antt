-- What the arguments at marks name, one behind another, is what the operators name that they show.
use Rattle.std.proofs.Common.{◌≡◌, ℕ, zero, suc, ◌+◌, ◌<◌, ◌≤◌, Bool, true, false, List, [], ◌∷◌, ◌++◌, length, drop, get_or, map, drop-cons, refl, sym, ap, ap₂, subst, ◌∙◌, arith, append_assoc, append-nil, inl, inr}
use Rattle.std.specs.Prelude.{◌⊎◌, Contains, filter, flat_map, if◌then◌else◌, ◌&&◌, ◌≢◌, ℤ}
use Rattle.std.specs.List.{All, list_all}
use Rattle.std.proofs.lemmas.Grind.{flat_map-append}
use Rattle.std.proofs.lemmas.List.Folds.{list_all-append}
use Rattle.std.proofs.lemmas.List.{drop_all}
use Rattle.wasm_text.specs.RawArg.{RawArg}
use Rattle.wasm_text.specs.RawArg.TheVariants as args
use Rattle.wasm_text.specs.Operators as wire
use Rattle.wasm_text.specs.Places.{Stands}
use Rattle.wasm_text.specs.Marks.{place_of, kind_of, form_of, AreInOrder, HasArgument, argument, args_at, heap_names as heap_names_any, value_names, block_names as block_names_any, arg_names as names_any, all_args}
use Rattle.wasm_text.proofs.Filling.{found_is}
use Rattle.wasm_forms.specs.declared.types.RawHeap.{RawHeap}
use Rattle.wasm_forms.specs.declared.types.RawHeap.TheVariants as raw_heap
use Rattle.wasm_forms.specs.declared.types.RawVal.{RawVal}
use Rattle.wasm_forms.specs.declared.types.RawVal.TheVariants as raw_val
use Rattle.wasm_text.specs.RawBlock.{RawBlock}
use Rattle.wasm_text.specs.RawBlock.TheVariants as raw_block
use Rattle.walrus_base.specs.Types.{heap_names, val_names}
use Rattle.walrus_base.specs.Operators.{Arg, Block, Item, arg_names, block_names, names_of, type_item}
use Rattle.walrus_bodies.specs.Blocks.{block_holds, blocks_hold}
use Rattle.walrus_code.specs.FromRaw.{arg_of, heap_of, val_of, block_of}
use Rattle.walrus_code.specs.declared.items.ItemId.{ItemId}
use Rattle.walrus_code.specs.Code.{item_of}
use Rattle.walrus_bodies.specs.Names.{OfArgument, PutsAt, PutsThese, items_named, memory_if}
use Rattle.walrus_bodies.specs.Shown.{needs_mark}
use Rattle.walrus_bodies.specs.declared.plain_code.LeftOut.{LeftOut}
use Rattle.wasm_text.specs.Unmarked.{is_access}
use Rattle.walrus_base.proofs.Lists.{Contains-none}
use Rattle.std.proofs.lemmas.List.Elements.{Contains-append_cases, Contains-append_left, Contains-append_right}
use Rattle.walrus_bodies.proofs.LeftNames.{FromLeft, Unmarked, access_is, asked_gives, from_marks, passed_over, to_marks}
use Rattle.walrus_bodies.specs.Locals.{indices_named}
use Rattle.walrus_bodies.specs.Placed.{moved_arg, placed_ops}
use Rattle.walrus_bodies.specs.Texts.{texts_at}
use Rattle.walrus_bodies.specs.Text.{bytes_of, entry_of, left_out_of, marks_of, texts_of, first_local_of, ops_in}
use Rattle.walrus_bodies.specs.declared.text.Text.{Text}
use Rattle.walrus_bodies.proofs.AtMarks.{holds_at, moved_names, moved_holds}
use Rattle.walrus_bodies.proofs.OrderLemmas.{left_out_named, shown_of}

-- ---- one mark behind another

-- the argument at the next mark, and those behind it
pub record IsNext (bytes : List ℕ) (mark : ℕ) (more : List ℕ) : Type 0 where
  pub arg : RawArg
  pub behind : ℕ
  pub stands : Stands (form_of (kind_of mark)) bytes (place_of mark) behind arg
  pub ordered : AreInOrder bytes behind more
  pub args : args_at bytes (mark ∷ more) ≡ arg ∷ args_at bytes more

next_of : (bytes : List ℕ) (from mark : ℕ) (more : List ℕ) → AreInOrder bytes from (mark ∷ more) → IsNext bytes mark more
next_of bytes from mark more (start, (arg, (behind, (s, rest)))) = record { arg = arg; behind = behind; stands = s; ordered = rest; args = ap (λ o. argument o ++ args_at bytes more) (found_is bytes mark behind arg s) }

-- the marks that are left at a place of the list
pub left_at : (marks : List ℕ) (i d : ℕ) → i < length marks → drop i marks ≡ get_or marks i d ∷ drop (i + 1) marks
left_at marks i d h = let s : suc i ≡ i + 1 = omega arith in drop-cons marks i d h ∙ ap (λ k. get_or marks i d ∷ drop k marks) s

-- some place from which on the marks stand in order
abbrev pub AreLeft : List ℕ → List ℕ → Type 0
AreLeft bytes left = (from : ℕ) × AreInOrder bytes from left

pub next_at : (bytes marks : List ℕ) (i d : ℕ) → i < length marks → AreLeft bytes (drop i marks) → IsNext bytes (get_or marks i d) (drop (i + 1) marks)
next_at bytes marks i d h o = next_of bytes o.0 (get_or marks i d) (drop (i + 1) marks) (subst (AreInOrder bytes o.0) (left_at marks i d h) o.1)

pub argument_at : (bytes marks : List ℕ) (i d : ℕ) → i < length marks → AreLeft bytes (drop i marks) → HasArgument bytes (get_or marks i d)
argument_at bytes marks i d h o = let n = next_at bytes marks i d h o in (n.arg, (n.behind, n.stands))

-- ---- what they name is put

-- so far done: what was put and what is left make the whole
pub record Putting (bytes marks left : List ℕ) (old to : List ItemId) : Type 0 where
  pub ordered : AreLeft bytes left
  pub same : map item_of to ++ flat_map items_named (args_at bytes left) ≡ map item_of old ++ flat_map items_named (args_at bytes marks)

pub put_first : (bytes marks : List ℕ) (old : List ItemId) → AreInOrder bytes 0 marks → Putting bytes marks marks old old
put_first bytes marks old h = record { ordered = (0, h); same = refl }

pub put_more : (bytes marks : List ℕ) (i d : ℕ) (old to to' : List ItemId) → i < length marks → Putting bytes marks (drop i marks) old to → PutsAt bytes (get_or marks i d) to to' → Putting bytes marks (drop (i + 1) marks) old to'
put_more bytes marks i d old to to' h p put =
    let n = next_at bytes marks i d h p.ordered in
    let more = flat_map items_named (args_at bytes (drop (i + 1) marks)) in
    let here : flat_map items_named (args_at bytes (drop i marks)) ≡ items_named n.arg ++ more = ap (λ l. flat_map items_named (args_at bytes l)) (left_at marks i d h) ∙ ap (flat_map items_named) n.args in
    record {
      ordered = (n.behind, n.ordered);
      same = ap (λ x. x ++ more) (put n.arg n.behind n.stands) ∙ append_assoc (map item_of to) (items_named n.arg) more ∙ ap (λ x. map item_of to ++ x) (sym here) ∙ p.same;
    }

pub put_all : (bytes marks : List ℕ) (i : ℕ) (old to : List ItemId) → length marks ≤ i → Putting bytes marks (drop i marks) old to → map item_of to ≡ map item_of old ++ flat_map items_named (args_at bytes marks)
put_all bytes marks i old to h p = sym (ap (λ l. map item_of to ++ flat_map items_named (args_at bytes l)) (drop_all i marks h) ∙ append-nil (map item_of to)) ∙ p.same

-- ---- whether all blocks hold

-- so far all do
pub record Holding (p : RawArg → Bool) (bytes marks left : List ℕ) : Type 0 where
  pub ordered : AreLeft bytes left
  pub same : list_all p (args_at bytes left) ≡ list_all p (args_at bytes marks)

pub hold_first : (p : RawArg → Bool) (bytes marks : List ℕ) → AreInOrder bytes 0 marks → Holding p bytes marks marks
hold_first p bytes marks h = record { ordered = (0, h); same = refl }

-- the first one left, and those behind it
hold_next : (p : RawArg → Bool) (bytes marks : List ℕ) (i d : ℕ) (t : Bool) → i < length marks → Holding p bytes marks (drop i marks) → OfArgument bytes (get_or marks i d) (λ arg. t ≡ p arg)
    → AreLeft bytes (drop (i + 1) marks) × ((t && list_all p (args_at bytes (drop (i + 1) marks))) ≡ list_all p (args_at bytes marks))
hold_next p bytes marks i d t h g is =
    let n = next_at bytes marks i d h g.ordered in
    let more = list_all p (args_at bytes (drop (i + 1) marks)) in
    let here : list_all p (args_at bytes (drop i marks)) ≡ (p n.arg && more) = ap (λ l. list_all p (args_at bytes l)) (left_at marks i d h) ∙ ap (list_all p) n.args in
    ((n.behind, n.ordered), ap (λ x. x && more) (is n.arg n.behind n.stands) ∙ sym here ∙ g.same)

pub hold_more : (p : RawArg → Bool) (bytes marks : List ℕ) (i d : ℕ) (t : Bool) → t ≡ true → i < length marks → Holding p bytes marks (drop i marks) → OfArgument bytes (get_or marks i d) (λ arg. t ≡ p arg) → Holding p bytes marks (drop (i + 1) marks)
hold_more p bytes marks i d t e h g is = let n = hold_next p bytes marks i d t h g is in record { ordered = n.0; same = ap (λ x. x && list_all p (args_at bytes (drop (i + 1) marks))) (sym e) ∙ n.1 }

pub hold_not : (p : RawArg → Bool) (bytes marks : List ℕ) (i d : ℕ) (t : Bool) → t ≡ false → i < length marks → Holding p bytes marks (drop i marks) → OfArgument bytes (get_or marks i d) (λ arg. t ≡ p arg) → false ≡ list_all p (args_at bytes marks)
hold_not p bytes marks i d t e h g is = ap (λ x. x && list_all p (args_at bytes (drop (i + 1) marks))) (sym e) ∙ (hold_next p bytes marks i d t h g is).1

pub hold_all : (p : RawArg → Bool) (bytes marks : List ℕ) (i : ℕ) → length marks ≤ i → Holding p bytes marks (drop i marks) → true ≡ list_all p (args_at bytes marks)
hold_all p bytes marks i h g = sym (ap (λ l. list_all p (args_at bytes l)) (drop_all i marks h)) ∙ g.same

-- where no mark is that of a type of a block, all hold
pub none_hold : (holds : ℕ → Bool) (bytes marks : List ℕ) → AreInOrder bytes 0 marks → All (λ mark. kind_of mark ≢ 10) marks → true ≡ list_all (λ arg. block_holds holds (arg_of arg)) (args_at bytes marks)
none_hold holds bytes marks order none = go (length marks) 0 (omega arith) (hold_first (λ arg. block_holds holds (arg_of arg)) bytes marks order)
  where
    go : (n i : ℕ) → i + n ≡ length marks → Holding (λ arg. block_holds holds (arg_of arg)) bytes marks (drop i marks) → true ≡ list_all (λ arg. block_holds holds (arg_of arg)) (args_at bytes marks)
    go zero i e h = hold_all (λ arg. block_holds holds (arg_of arg)) bytes marks i (omega (arith, e)) h
    go (suc n) i e h = go n (i + 1) (omega (arith, e)) (hold_more (λ arg. block_holds holds (arg_of arg)) bytes marks i 0 true refl (omega (arith, e)) h (holds_at holds bytes (get_or marks i 0) (none i 0 (omega (arith, e)))))

-- ---- what names nothing

yes : true ≡ false → ⊥
yes e = cc

quiet : (P : RawArg → Type 0) → ((n : ℕ) → P (args.Label n)) → ((n : ℕ) → P (args.Count n)) → ((n : ℕ) → P (args.Number n)) → ((n : ℕ) → P (args.Byte n)) → ((z : ℤ) → P (args.S32 z)) → ((z : ℤ) → P (args.S64 z)) → ((n : ℕ) → P (args.F32 n)) → ((n : ℕ) → P (args.F64 n))
    → ((v : RawVal) → value_names v ≡ false → P (args.Value v)) → ((h : RawHeap) → heap_names_any h ≡ false → P (args.Heap h)) → ((b : RawBlock) → block_names_any b ≡ false → P (args.Block b)) → (arg : RawArg) → names_any arg ≡ false → P arg
quiet P label count number byte s32 s64 f32 f64 value heap block (args.Function n) e = absurd (yes e)
quiet P label count number byte s32 s64 f32 f64 value heap block (args.«Type» n) e = absurd (yes e)
quiet P label count number byte s32 s64 f32 f64 value heap block (args.Table n) e = absurd (yes e)
quiet P label count number byte s32 s64 f32 f64 value heap block (args.Memory n) e = absurd (yes e)
quiet P label count number byte s32 s64 f32 f64 value heap block (args.Global n) e = absurd (yes e)
quiet P label count number byte s32 s64 f32 f64 value heap block (args.Tag n) e = absurd (yes e)
quiet P label count number byte s32 s64 f32 f64 value heap block (args.Element n) e = absurd (yes e)
quiet P label count number byte s32 s64 f32 f64 value heap block (args.Data n) e = absurd (yes e)
quiet P label count number byte s32 s64 f32 f64 value heap block (args.Local n) e = absurd (yes e)
quiet P label count number byte s32 s64 f32 f64 value heap block (args.Label n) e = label n
quiet P label count number byte s32 s64 f32 f64 value heap block (args.Count n) e = count n
quiet P label count number byte s32 s64 f32 f64 value heap block (args.Number n) e = number n
quiet P label count number byte s32 s64 f32 f64 value heap block (args.Byte n) e = byte n
quiet P label count number byte s32 s64 f32 f64 value heap block (args.S32 z) e = s32 z
quiet P label count number byte s32 s64 f32 f64 value heap block (args.S64 z) e = s64 z
quiet P label count number byte s32 s64 f32 f64 value heap block (args.F32 n) e = f32 n
quiet P label count number byte s32 s64 f32 f64 value heap block (args.F64 n) e = f64 n
quiet P label count number byte s32 s64 f32 f64 value heap block (args.Value v) e = value v e
quiet P label count number byte s32 s64 f32 f64 value heap block (args.Heap h) e = heap h e
quiet P label count number byte s32 s64 f32 f64 value heap block (args.Block b) e = block b e
quiet P label count number byte s32 s64 f32 f64 value heap block (args.Access flags memory offset) e = absurd (yes e)

heap_quiet : (h : RawHeap) → heap_names_any h ≡ false → heap_names (heap_of h) ≡ []
heap_quiet (raw_heap.Abstract b) e = refl
heap_quiet (raw_heap.Index t) e = absurd (yes e)

value_quiet : (v : RawVal) → value_names v ≡ false → val_names (val_of v) ≡ []
value_quiet (raw_val.Ref r) e = ap (λ x. x ++ []) (heap_quiet r.heap e)
value_quiet raw_val.I32 e = refl
value_quiet raw_val.I64 e = refl
value_quiet raw_val.F32 e = refl
value_quiet raw_val.F64 e = refl
value_quiet raw_val.V128 e = refl

block_quiet : (b : RawBlock) → block_names_any b ≡ false → block_names (block_of b) ≡ []
block_quiet raw_block.NoResult e = refl
block_quiet (raw_block.OneResult v) e = value_quiet v e
block_quiet (raw_block.OfType t) e = absurd (yes e)

items_quiet : (arg : RawArg) → names_any arg ≡ false → items_named arg ≡ []
items_quiet = quiet (λ a. items_named a ≡ []) (λ n. refl) (λ n. refl) (λ n. refl) (λ n. refl) (λ z. refl) (λ z. refl) (λ n. refl) (λ n. refl) (λ v e. ap (map type_item) (value_quiet v e)) (λ h e. ap (map type_item) (heap_quiet h e)) (λ b e. ap (map type_item) (block_quiet b e))

pub indices_quiet : (arg : RawArg) → names_any arg ≡ false → indices_named arg ≡ []
indices_quiet = quiet (λ a. indices_named a ≡ []) (λ n. refl) (λ n. refl) (λ n. refl) (λ n. refl) (λ z. refl) (λ z. refl) (λ n. refl) (λ n. refl) (λ v e. refl) (λ h e. refl) (λ b e. refl)

block_quiet_holds : (holds : ℕ → Bool) (b : RawBlock) → block_names_any b ≡ false → block_holds holds (Block (block_of b)) ≡ true
block_quiet_holds holds raw_block.NoResult e = refl
block_quiet_holds holds (raw_block.OneResult v) e = refl
block_quiet_holds holds (raw_block.OfType t) e = absurd (yes e)

holds_quiet : (holds : ℕ → Bool) (arg : RawArg) → names_any arg ≡ false → block_holds holds (arg_of arg) ≡ true
holds_quiet holds = quiet (λ a. block_holds holds (arg_of a) ≡ true) (λ n. refl) (λ n. refl) (λ n. refl) (λ n. refl) (λ z. refl) (λ z. refl) (λ n. refl) (λ n. refl) (λ v e. refl) (λ h e. refl) (block_quiet_holds holds)

-- ---- arguments without marks

unmarked_holds : (holds : ℕ → Bool) (out : LeftOut) (arg : RawArg) → (names_any arg ≡ false) ⊎ Unmarked out arg → block_holds holds (arg_of arg) ≡ true
unmarked_holds holds out arg (inl e) = holds_quiet holds arg e
unmarked_holds holds out arg (inr (inl l)) = ap (λ a. block_holds holds (arg_of a)) l.1.0
unmarked_holds holds out arg (inr (inr m)) = ap (λ a. block_holds holds (arg_of a)) m.0.is

holds_front : (p q : RawArg → Bool) (x : RawArg) (xs : List RawArg) (t : Bool) → (t ≡ false → p x ≡ true) → list_all p xs ≡ list_all p (filter q xs) → (p x && list_all p xs) ≡ list_all p (if t then x ∷ filter q xs else filter q xs)
holds_front p q x xs true none e = ap (λ r. p x && r) e
holds_front p q x xs false none e = ap (λ r. r && list_all p xs) (none refl) ∙ e

holds_passed : (p q : RawArg → Bool) → ((x : RawArg) → q x ≡ false → p x ≡ true) → (xs : List RawArg) → list_all p xs ≡ list_all p (filter q xs)
holds_passed p q none [] = refl
holds_passed p q none (x ∷ xs) = holds_front p q x xs (q x) (none x) (holds_passed p q none xs)

-- ---- operators and their arguments

flat_args : {X : Type 0} (g : Arg → List X) (f : RawArg → List X) (first : ℕ) → ((a : RawArg) → g (moved_arg first (arg_of a)) ≡ f a) → (xs : List RawArg) → flat_map g (map (moved_arg first) (map arg_of xs)) ≡ flat_map f xs
flat_args g f first same [] = refl
flat_args g f first same (x ∷ xs) = ap₂ (λ a b. a ++ b) (same x) (flat_args g f first same xs)

pub flat_texts : {X : Type 0} (g : Arg → List X) (f : RawArg → List X) (first : ℕ) → ((a : RawArg) → g (moved_arg first (arg_of a)) ≡ f a) → (texts : List wire.Op) → flat_map (λ o. flat_map g o.args) (placed_ops first texts) ≡ flat_map f (all_args texts)
flat_texts g f first same [] = refl
flat_texts g f first same (o ∷ texts) = ap₂ (λ a b. a ++ b) (flat_args g f first same o.args) (flat_texts g f first same texts) ∙ sym (flat_map-append f o.args (all_args texts))

holds_args : (g : Arg → Bool) (f : RawArg → Bool) (first : ℕ) → ((a : RawArg) → g (moved_arg first (arg_of a)) ≡ f a) → (xs : List RawArg) → list_all g (map (moved_arg first) (map arg_of xs)) ≡ list_all f xs
holds_args g f first same [] = refl
holds_args g f first same (x ∷ xs) = ap₂ (λ a b. a && b) (same x) (holds_args g f first same xs)

holds_texts : (g : Arg → Bool) (f : RawArg → Bool) (first : ℕ) → ((a : RawArg) → g (moved_arg first (arg_of a)) ≡ f a) → (texts : List wire.Op) → list_all (λ o. list_all g o.args) (placed_ops first texts) ≡ list_all f (all_args texts)
holds_texts g f first same [] = refl
holds_texts g f first same (o ∷ texts) = ap₂ (λ a b. a && b) (holds_args g f first same o.args) (holds_texts g f first same texts) ∙ sym (list_all-append f o.args (all_args texts))

-- ---- a body

-- what was put is what the operators name: memory 0, where its accesses have no marks, and what stands at marks
pub names_shown : (t : Text) (old now new : List ItemId) → map item_of now ≡ map item_of old ++ memory_if (left_out_of t).accessed → map item_of new ≡ map item_of now ++ flat_map items_named (args_at (bytes_of t) (marks_of t))
    → PutsThese old new (names_of (ops_in t))
unfolding texts_of first_local_of
names_shown t old now new first second = record {
  added = memory_if (left_out_of t).accessed ++ marked;
  behind = second ∙ ap (λ l. l ++ marked) first ∙ append_assoc (map item_of old) (memory_if (left_out_of t).accessed) marked;
  are = λ x. (to x, from x);
}
  where
    texts : List wire.Op
    texts = texts_at (entry_of t).count (bytes_of t)

    marked : List Item
    marked = flat_map items_named (args_at (bytes_of t) (marks_of t))

    alike : (flags offset flags' offset' : ℕ) → items_named (args.Access flags 0 offset) ≡ items_named (args.Access flags' 0 offset')
    alike flags offset flags' offset' = refl

    same : names_of (placed_ops t.first_local texts) ≡ flat_map items_named (all_args texts)
    same = flat_texts arg_names items_named t.first_local (λ a. moved_names t.first_local (arg_of a)) texts

    memory : (x : Item) → (accessed : Bool) → (left_out_of t).accessed ≡ accessed → Contains (memory_if accessed) x → Contains (flat_map items_named (all_args texts)) x
    memory x false e c = absurd (Contains-none x c)
    memory x true e c = asked_gives items_named x is_access (λ b h. let a = access_is b h in subst (λ (l : List Item). Contains l x) (sym (ap items_named a.is)) c) (all_args texts) ((left_out_named t).memory e)

    to : (x : Item) → Contains (memory_if (left_out_of t).accessed ++ marked) x → Contains (names_of (placed_ops t.first_local texts)) x
    to x c = subst (λ (l : List Item). Contains l x) (sym same) (elim (Contains-append_cases (memory_if (left_out_of t).accessed) marked x c) as (λ _. Contains (flat_map items_named (all_args texts)) x) [
      | inl k ↦ memory x (left_out_of t).accessed refl k
      | inr k ↦ from_marks (left_out_of t) (bytes_of t) (marks_of t) texts (shown_of t) items_named items_quiet alike x k
    ])

    left : (x : Item) → FromLeft (left_out_of t) (bytes_of t) (marks_of t) texts (shown_of t) items_named items_quiet alike x → Contains (memory_if (left_out_of t).accessed ++ marked) x
    left x (inl c) = Contains-append_right (memory_if (left_out_of t).accessed) marked x c
    left x (inr (inl l)) = absurd (Contains-none x l.1.1)
    left x (inr (inr m)) = Contains-append_left (memory_if (left_out_of t).accessed) marked x (subst (λ (b : Bool). Contains (memory_if b) x) (sym m.0) m.1.2)

    from : (x : Item) → Contains (names_of (placed_ops t.first_local texts)) x → Contains (memory_if (left_out_of t).accessed ++ marked) x
    from x c = left x (to_marks (left_out_of t) (bytes_of t) (marks_of t) texts (shown_of t) items_named items_quiet alike x (subst (λ (l : List Item). Contains l x) same c))

pub blocks_shown : (holds : ℕ → Bool) (t : Text) → list_all (λ arg. block_holds holds (arg_of arg)) (args_at (bytes_of t) (marks_of t)) ≡ blocks_hold holds (ops_in t)
unfolding texts_of first_local_of
blocks_shown holds t =
    let texts = texts_at (entry_of t).count (bytes_of t) in
    let p = λ (a : RawArg). block_holds holds (arg_of a) in
    let q = needs_mark (left_out_of t) in
    let none : (a : RawArg) → q a ≡ false → p a ≡ true = λ a e. unmarked_holds holds (left_out_of t) a (passed_over (left_out_of t) a e) in
    holds_passed p q none (args_at (bytes_of t) (marks_of t)) ∙ ap (list_all p) (sym (shown_of t).needed) ∙ sym (holds_passed p q none (all_args texts))
    ∙ sym (holds_texts (block_holds holds) p t.first_local (λ a. moved_holds holds t.first_local (arg_of a)) texts)
