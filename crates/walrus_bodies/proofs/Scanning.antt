-- A body that was scanned is a plain one: its operators nest as a function's do.
use Rattle.std.proofs.Common.{◌≡◌, ℕ, ◌<◌, ◌≤◌, Bool, true, false, List, [], ◌∷◌, length, map, Option, Some, None, refl, sym, ap, ap₂, subst, ◌∙◌}
use Rattle.std.specs.Prelude.{nat_eq, ◌&&◌, ◌||◌, Result, Ok, Err, IfOk, IfSome, slice_index_or, option_map, if◌then◌else◌}
use Rattle.std.specs.List.{list_all}
use Rattle.std.proofs.lemmas.Bool.{eqb-true, lt-ltb}
use Rattle.std.proofs.lemmas.List.{length-map}
use Rattle.wasm_forms.specs.Writing.{EachFits}
use Rattle.wasm_forms.proofs.Items.{each_append}
use Rattle.wasm_opcodes.specs.declared.one_byte.TheConstants.{BLOCK, LOOP, IF, ELSE, TRY, CATCH, END, DELEGATE, CATCH_ALL, TRY_TABLE}
use Rattle.wasm_text.specs.Bodies as text
use Rattle.wasm_text.specs.Operators as wire
use Rattle.wasm_text.specs.RawArg.{RawArg}
use Rattle.wasm_text.specs.RawArg.TheVariants as raw
use Rattle.wasm_text.specs.declared.limits.Limits.{Limits}
use Rattle.wasm_text.specs.Classes.{is_plain}
use Rattle.wasm_text.specs.Marks.{all_args}
use Rattle.wasm_text.specs.Scans.{IsWithin}
use Rattle.walrus_base.specs.Operators.{Arg}
use Rattle.walrus_code.specs.FromRaw.{arg_of, ops_of}
use Rattle.walrus_bodies.specs.declared.blocks.Opened.{Opened}
use Rattle.walrus_bodies.specs.declared.blocks.Opened.TheVariants.{Plain, If}
use Rattle.walrus_bodies.specs.Blocks.{opens_plain, behind_else, behind_end, blocks_behind, blocks_meant, blocks_after, label_below, labels_below, nests}
use Rattle.walrus_bodies.specs.PlainBody.{IsNamed, IsScannedBody}
use Rattle.walrus_bodies.specs.declared.scan.ScanRoom.{ScanRoom}
use Rattle.walrus_bodies.proofs.LeftLemmas.{left_shown}
use Rattle.walrus_bodies.proofs.BlockLemmas.{after_near}

-- ---- arguments

named_each : (limits : Limits) (labels : ℕ) (args : List RawArg) → EachFits (IsWithin (record limits { labels = labels })) args → EachFits (IsNamed limits) args
named_each limits labels [] h = tt
named_each limits labels (arg ∷ args) h = ((labels, h.0), named_each limits labels args h.1)

label_means : (limits : Limits) (arg : RawArg) → IsWithin limits arg → label_below limits.labels (arg_of arg) ≡ true
label_means limits (raw.Label n) h = lt-ltb n limits.labels h
label_means limits (raw.Function n) h = refl
label_means limits (raw.«Type» n) h = refl
label_means limits (raw.Table n) h = refl
label_means limits (raw.Memory n) h = refl
label_means limits (raw.Global n) h = refl
label_means limits (raw.Tag n) h = refl
label_means limits (raw.Element n) h = refl
label_means limits (raw.Data n) h = refl
label_means limits (raw.Local n) h = refl
label_means limits (raw.Count n) h = refl
label_means limits (raw.Number n) h = refl
label_means limits (raw.Byte b) h = refl
label_means limits (raw.S32 z) h = refl
label_means limits (raw.S64 z) h = refl
label_means limits (raw.F32 bits) h = refl
label_means limits (raw.F64 bits) h = refl
label_means limits (raw.Value v) h = refl
label_means limits (raw.Heap t) h = refl
label_means limits (raw.Block b) h = refl
label_means limits (raw.Access flags memory offset) h = refl

labels_mean : (limits : Limits) (args : List RawArg) → EachFits (IsWithin limits) args → labels_below limits.labels (map arg_of args) ≡ true
labels_mean limits [] h = refl
labels_mean limits (arg ∷ args) h = ap₂ (λ x y. x && y) (label_means limits arg h.0) (labels_mean limits args h.1)

-- ---- blocks

-- the block of a flag, which says whether it is an if without its else
abbrev block_of : Bool → Opened
block_of true = If
block_of false = Plain

-- no plain operator has this number
never : (op k : ℕ) → is_plain k ≡ false → (t : Bool) → nat_eq op k ≡ t → is_plain op ≡ true → nat_eq op k ≡ false
never op k never_plain false e plain = e
never op k never_plain true e plain =
    let wrong : false ≡ true = sym never_plain ∙ sym (ap is_plain (eqb-true op k e)) ∙ plain in
    absurd cc

is_alone : (op : ℕ) (t : Bool) → nat_eq op IF ≡ t → t ≡ true → opens_plain op ≡ false
is_alone op true e is = ap opens_plain (eqb-true op IF e)
is_alone op false e is = absurd cc

all_meant : (op : ℕ) (blocks : List Opened) → is_plain op ≡ true → blocks_meant op blocks ≡ length blocks
all_meant op blocks plain = rw (never op DELEGATE refl (nat_eq op DELEGATE) refl plain) refl

else_same : (flags : List Bool) → behind_else (map block_of flags) ≡ option_map (map block_of) (text.behind_else flags)
else_same [] = refl
else_same (true ∷ around) = refl
else_same (false ∷ around) = refl

end_same : (flags : List Bool) → behind_end (map block_of flags) ≡ option_map (map block_of) (text.behind_end flags)
end_same [] = refl
end_same (flag ∷ around) = refl

-- by whether the operator is block, loop, if, try_table, else or end
turned_same : (block loop is_if table other last : Bool) (flags : List Bool) → (is_if ≡ true → (block || loop || table) ≡ false)
    → (if (block || loop || table) then Some (Plain ∷ map block_of flags) else if is_if then Some (If ∷ map block_of flags) else if other then behind_else (map block_of flags) else if last then behind_end (map block_of flags) else Some (map block_of flags))
    ≡ option_map (map block_of) (if (block || loop || is_if || table) then Some (is_if ∷ flags) else if other then text.behind_else flags else if last then text.behind_end flags else Some flags)
turned_same true loop true table other last flags alone = let no : true ≡ false = alone refl in absurd cc
turned_same true loop false table other last flags alone = refl
turned_same false true true table other last flags alone = let no : true ≡ false = alone refl in absurd cc
turned_same false true false table other last flags alone = refl
turned_same false false true true other last flags alone = let no : true ≡ false = alone refl in absurd cc
turned_same false false true false other last flags alone = refl
turned_same false false false true other last flags alone = refl
turned_same false false false false true last flags alone = else_same flags
turned_same false false false false false true flags alone = end_same flags
turned_same false false false false false false flags alone = refl

-- a plain operator does to the blocks of flags what it does to these
turns_same : (op : ℕ) (flags : List Bool) → is_plain op ≡ true → blocks_behind op (map block_of flags) ≡ option_map (map block_of) (text.blocks_behind op flags)
turns_same op flags plain =
    rw (
      never op TRY refl (nat_eq op TRY) refl plain,
      never op CATCH refl (nat_eq op CATCH) refl plain,
      never op CATCH_ALL refl (nat_eq op CATCH_ALL) refl plain,
      never op DELEGATE refl (nat_eq op DELEGATE) refl plain,
    ) (turned_same (nat_eq op BLOCK) (nat_eq op LOOP) (nat_eq op IF) (nat_eq op TRY_TABLE) (nat_eq op ELSE) (nat_eq op END) flags (is_alone op (nat_eq op IF) refl))

-- ---- operators

first_plain : (x y : Bool) → (x && y) ≡ true → x ≡ true
first_plain true y h = refl
first_plain false y h = h

others_plain : (x y : Bool) → (x && y) ≡ true → y ≡ true
others_plain true y h = h
others_plain false y h = absurd cc

named_of : (limits : Limits) (flags : List Bool) (texts : List wire.Op) → text.Nest limits flags texts → EachFits (IsNamed limits) (all_args texts)
named_of limits flags [] h = tt
named_of limits [] (o ∷ texts) h = absurd h
named_of limits (flag ∷ around) (o ∷ texts) h =
    each_append (IsNamed limits) o.args (all_args texts) (named_each limits (length (flag ∷ around)) o.args h.0) (named_of limits h.1.0 texts h.1.1.1)

nests_of : (limits : Limits) (flags : List Bool) (texts : List wire.Op) → list_all (λ o. is_plain o.op) texts ≡ true → text.Nest limits flags texts → nests (Some (map block_of flags)) (ops_of texts) ≡ true
nests_of limits [] [] plain h = refl
nests_of limits (flag ∷ around) [] plain h = let no : (flag ∷ around) ≡ [] = h in absurd cc
nests_of limits [] (o ∷ texts) plain h = absurd h
nests_of limits (flag ∷ around) (o ∷ texts) plain h =
    let blocks : List Opened = map block_of (flag ∷ around) in
    let args : List Arg = map arg_of o.args in
    let is : is_plain o.op ≡ true = first_plain (is_plain o.op) (list_all (λ (o : wire.Op). is_plain o.op) texts) plain in
    let depth : blocks_meant o.op blocks ≡ length (flag ∷ around) = all_meant o.op blocks is ∙ length-map (flag ∷ around) block_of in
    let near : labels_below (blocks_meant o.op blocks) args ≡ true = subst (λ (n : ℕ). labels_below n args ≡ true) (sym depth) (labels_mean (record limits { labels = length (flag ∷ around) }) o.args h.0) in
    let steps : blocks_after o.op args blocks ≡ Some (map block_of h.1.0) =
    after_near o.op args blocks refl near ∙ turns_same o.op (flag ∷ around) is ∙ ap (option_map (map block_of)) h.1.1.0 in
    ap (λ (bs : Option (List Opened)). nests bs (ops_of texts)) steps
    ∙ nests_of limits h.1.0 texts (others_plain (is_plain o.op) (list_all (λ (o : wire.Op). is_plain o.op) texts) plain) h.1.1.1

-- ---- the body

-- the locals that are left out are named where each of them is flagged
pub plain_body : (limits : Limits) (room : ScanRoom) (bytes : List ℕ) (count : ℕ) → text.IsBody limits room.unmarked bytes room.marks.items count
    → ((n : ℕ) → room.unmarked.first ≤ n → n < limits.locals → slice_index_or room.unmarked.named.items n false ≡ true) → IsScannedBody limits room bytes count
plain_body limits room bytes count body flagged = record {
  texts = body.texts;
  counted = body.counted;
  row = body.holds.row;
  shown = left_shown room.unmarked.first room.unmarked.accessed bytes body.marks room.marks.items body.texts body.holds.shown body.are_left;
  named = record { each_local = λ n low high. body.named.locals n (flagged n low high); memory = body.named.memory };
  fit = named_of limits (false ∷ []) body.texts body.nested;
  plain = body.plain;
  nested = nests_of limits (false ∷ []) body.texts body.plain body.nested;
}

-- the same of what the scan answers
pub plain_answer : {E : Type 0} (limits : Limits) (room : ScanRoom) (bytes : List ℕ) (answer : Result (Option ℕ) E) → IfOk answer (λ found. IfSome found (text.IsBody limits room.unmarked bytes room.marks.items))
    → ((n : ℕ) → room.unmarked.first ≤ n → n < limits.locals → slice_index_or room.unmarked.named.items n false ≡ true) → IfOk answer (λ found. IfSome found (IsScannedBody limits room bytes))
plain_answer limits room bytes (Err e) h flagged = tt
plain_answer limits room bytes (Ok None) h flagged = tt
plain_answer limits room bytes (Ok (Some count)) h flagged = plain_body limits room bytes count h flagged
