-- Reading the parts of a section, step by step.
use Rattle.std.specs.Prelude.{ℕ, zero, suc, ◌+◌, ◌-◌, Bool, true, false, List, [], ◌∷◌, ◌++◌, length, Option, Some, nat_eq, if◌then◌else◌}
use Rattle.wasm_forms.specs.Reading.{◌>>=◌, byte_at}
use Rattle.wasm_forms.specs.Grammar.{Block, U32, at}
use Rattle.wasm_entries.specs.Forms.{data_form}
use Rattle.walrus_sections.specs.Parts.{Part, SectionPart, FunctionPart, SegmentPart, Piece, item}

-- the function, or the data segment, of this index in front of bytes that reach to this end, and the bytes behind it
unfoldable pub item_at : (is_code : Bool) → (index end : ℕ) → List ℕ → Option (Part × List ℕ)
item_at true index end bytes = at Block bytes >>= λ c.
    Some (FunctionPart (item index ((end - length bytes) + (length bytes - length c.1 - length c.0)) (length c.0)), c.1)
item_at false index end bytes = at data_form bytes >>= λ d. Some (SegmentPart (item index (end - length bytes) (length bytes - length d.1)), d.1)

-- that many of them behind others, and the index behind the last
unfoldable pub items_from : (is_code : Bool) → (count index end : ℕ) → (before : List Part) → List ℕ → Option (List Part × ℕ)
items_from is_code zero index end before bytes = Some (before, index)
items_from is_code (suc n) index end before bytes = item_at is_code index end bytes >>= λ x. items_from is_code n (suc index) end (before ++ x.0 ∷ []) x.1

-- those of the section that these bytes are, the first at this place, and the index behind the last
unfoldable pub items_in : (is_code : Bool) → (index place : ℕ) → (before : List Part) → List ℕ → Option (List Part × ℕ)
items_in is_code index place before bytes = byte_at bytes >>= λ i. at Block i.1 >>= λ c. at U32 c.0 >>= λ n.
    items_from is_code n.0 index (place + length bytes) before n.1

-- a section and what stands in it behind other parts, and the indices behind them
unfoldable pub part_from : (functions segments : ℕ) → (before : List Part) → Piece → Option (List Part × (ℕ × ℕ))
part_from functions segments before p =
    if nat_eq p.id 10 then (items_in true functions p.start (before ++ SectionPart p ∷ []) p.bytes >>= λ x. Some (x.0, (x.1, segments)))
    else (if nat_eq p.id 11 then (items_in false segments p.start (before ++ SectionPart p ∷ []) p.bytes >>= λ x. Some (x.0, (functions, x.1)))
    else Some (before ++ SectionPart p ∷ [], (functions, segments)))
