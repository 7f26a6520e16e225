-- Reading functions and data segments one after another.
use Rattle.std.proofs.Common.{◌≡◌, ℕ, zero, suc, ◌+◌, ◌-◌, ◌<◌, ◌≤◌, Bool, true, false, List, [], ◌∷◌, ◌++◌, length, map, refl, ap, ◌∙◌, arith, length-append}
use Rattle.std.proofs.lemmas.List.{map-append}
use Rattle.std.specs.Prelude.{Option, Some, None}
use Rattle.wasm_forms.specs.Number.{IsU32}
use Rattle.wasm_forms.specs.Reading.{◌>>=◌}
use Rattle.wasm_forms.specs.Grammar.{Is, Block, at}
use Rattle.wasm_forms.proofs.Bind.{some_same, bind_some, bind_at}
use Rattle.wasm_forms.proofs.Exact.{exact}
use Rattle.wasm_entries.specs.Record.{Segment}
use Rattle.wasm_entries.specs.Forms.{data_form}
use Rattle.walrus_sections.specs.declared.parts.Part.{Part as RawPart}
use Rattle.walrus_sections.specs.Parts.{Part, FunctionPart, SegmentPart, item, part_record}
use Rattle.walrus_sections.specs.PartSteps.{item_at, items_from}

-- what is read takes a byte at least

pub count_long : (bytes : List ℕ) (n : ℕ) → IsU32 bytes n → 1 ≤ length bytes
count_long [] n h = absurd h.spelled
count_long (b ∷ bs) n h = omega arith

pub data_long : (bytes : List ℕ) (d : Segment) → Is data_form bytes d → 1 ≤ length bytes
unfolding data_form
data_long bytes d i = omega (arith, ap length i.1.1.1.0, length-append i.1.0 i.1.1.0, count_long i.1.0 i.0 i.1.1.1.1)

pub block_shorter : (bytes content rest : List ℕ) → at Block bytes ≡ Some (content, rest) → length content + length rest < length bytes
block_shorter bytes content rest e =
    let u = (exact Block).takes bytes (content, rest) e in
    let count : List ℕ = u.1.1.0 in
    omega (arith, ap length u.1.0, length-append u.0 rest, ap length u.1.1.1.0, length-append count content, count_long count (length content) u.1.1.1.1)

pub data_shorter : (bytes rest : List ℕ) (d : Segment) → at data_form bytes ≡ Some (d, rest) → length rest < length bytes
data_shorter bytes rest d e =
    let u = (exact data_form).takes bytes (d, rest) e in
    omega (arith, ap length u.1.0, length-append u.0 rest, data_long u.0 d u.1.1)

abbrev pub code_item : (index end : ℕ) → List ℕ → List ℕ × List ℕ → Option (Part × List ℕ)
code_item index end bytes c = Some (FunctionPart (item index ((end - length bytes) + (length bytes - length c.1 - length c.0)) (length c.0)), c.1)

abbrev pub data_item : (index end : ℕ) → List ℕ → Segment × List ℕ → Option (Part × List ℕ)
data_item index end bytes d = Some (SegmentPart (item index (end - length bytes) (length bytes - length d.1)), d.1)

same_rest : (x y : Part × List ℕ) → Some x ≡ Some y → x.1 ≡ y.1
same_rest x y e = ap (λ (z : Part × List ℕ). z.1) (some_same x y e)

pub item_shorter : (is_code : Bool) (index end : ℕ) (bytes rest : List ℕ) (x : Part) → item_at is_code index end bytes ≡ Some (x, rest) → length rest < length bytes
unfolding item_at
item_shorter true index end bytes rest x e =
    let p = bind_some (at Block bytes) (code_item index end bytes) (x, rest) e in
    omega (arith, ap length (same_rest _ _ p.2), block_shorter bytes p.0.0 p.0.1 p.1)
item_shorter false index end bytes rest x e =
    let p = bind_some (at data_form bytes) (data_item index end bytes) (x, rest) e in
    omega (arith, ap length (same_rest _ _ p.2), data_shorter bytes p.0.1 p.0.0 p.1)

-- ---- the loop

module _ (is_code : Bool) (end : ℕ) where
  abbrev pub then_items : (n index : ℕ) → List Part → Part × List ℕ → Option (List Part × ℕ)
  then_items n index before x = items_from is_code n (suc index) end (before ++ x.0 ∷ []) x.1

  -- a turn puts the first of those that are left behind the parts
  pub items_turn : (left index : ℕ) (before : List Part) (bytes rest : List ℕ) (x : Part) → 0 < left → item_at is_code index end bytes ≡ Some (x, rest)
      → items_from is_code left index end before bytes ≡ items_from is_code (left - 1) (index + 1) end (before ++ x ∷ []) rest
  unfolding items_from
  items_turn zero index before bytes rest x some e = absurd (omega (arith, some))
  items_turn (suc n) index before bytes rest x some e =
      let m : n ≡ suc n - 1 = omega arith in
      let i : suc index ≡ index + 1 = omega arith in
      bind_at (item_at is_code index end bytes) (then_items n index before) (x, rest) e
      ∙ ap (λ (k : ℕ). items_from is_code k (suc index) end (before ++ x ∷ []) rest) m
      ∙ ap (λ (k : ℕ). items_from is_code (suc n - 1) k end (before ++ x ∷ []) rest) i

  -- where none stands, and one is left
  pub items_stuck : (left index : ℕ) (before : List Part) (bytes : List ℕ) → 0 < left → item_at is_code index end bytes ≡ None → items_from is_code left index end before bytes ≡ None
  unfolding items_from
  items_stuck zero index before bytes some e = absurd (omega (arith, some))
  items_stuck (suc n) index before bytes some e = ap (λ (o : Option (Part × List ℕ)). o >>= then_items n index before) e

  pub items_over : (left index : ℕ) (before : List Part) (bytes : List ℕ) → left ≡ 0 → items_from is_code left index end before bytes ≡ Some (before, index)
  unfolding items_from
  items_over zero index before bytes none = refl
  items_over (suc n) index before bytes none = absurd (omega (arith, none))

pub parts_pushed : (old now : List RawPart) (part : RawPart) → now ≡ old ++ part ∷ [] → map part_record now ≡ map part_record old ++ part_record part ∷ []
parts_pushed old now part e = ap (map part_record) e ∙ map-append part_record old (part ∷ [])
