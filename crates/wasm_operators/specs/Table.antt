-- The operators and the kinds of their arguments ("Binary Format > Instructions", with the proposals of legacy exceptions,
-- threads, and wide arithmetic). An operator is its byte, or its prefix byte times 65,536 and the number behind it.
use Rattle.std.specs.Prelude.{ℕ, ◌*◌, ◌+◌, List, [], ◌∷◌, ◌++◌, Option, Some, None, nat_lt, ◌&&◌, not, if◌then◌else◌, Bool, true, false}
use Rattle.wasm_operators.specs.declared.kind.Kind.{Kind}
use Rattle.wasm_operators.specs.declared.kind.Kind.TheVariants.{Nothing, Block, Catches, Labels, Label, Values, Function, «Type», Table, Memory, Global, Tag, Element, Data, Local, Access, Heap, Number, Byte, SixteenBytes, S32, S64, F32, F64}

-- the operators from one number to another, both of them among these, and the kinds of their arguments
pub record Row : Type 0 where
  pub first : ℕ
  pub last : ℕ
  pub kinds : List Kind

-- the operators of bytes from the first to the last, which have these kinds of arguments
abbrev pub bytes : ℕ → ℕ → List Kind → Row
bytes first last kinds = record { first = first; last = last; kinds = kinds }

-- the operators of a prefix byte and a number behind it
abbrev pub prefixed : ℕ → ℕ → ℕ → List Kind → Row
prefixed lead first last kinds = record { first = lead * 65536 + first; last = lead * 65536 + last; kinds = kinds }

-- ---- "Control Instructions", with those of legacy exceptions: try 0x06, catch 0x07, rethrow 0x09, delegate 0x18, catch_all 0x19

-- the operators of blocks, branches, calls, returns and exceptions, with unreachable and nop, but without br_on_cast and br_on_cast_fail
abbrev pub control : List Row
control =
    bytes 0x00 0x01 [] ∷
    bytes 0x02 0x04 (Block ∷ []) ∷
    bytes 0x05 0x05 [] ∷
    bytes 0x06 0x06 (Block ∷ []) ∷
    bytes 0x07 0x08 (Tag ∷ []) ∷
    bytes 0x09 0x09 (Label ∷ []) ∷
    bytes 0x0A 0x0B [] ∷
    bytes 0x0C 0x0D (Label ∷ []) ∷
    bytes 0x0E 0x0E (Labels ∷ Label ∷ []) ∷
    bytes 0x0F 0x0F [] ∷
    bytes 0x10 0x10 (Function ∷ []) ∷
    bytes 0x11 0x11 («Type» ∷ Table ∷ []) ∷
    bytes 0x12 0x12 (Function ∷ []) ∷
    bytes 0x13 0x13 («Type» ∷ Table ∷ []) ∷
    bytes 0x14 0x15 («Type» ∷ []) ∷
    bytes 0x18 0x18 (Label ∷ []) ∷
    bytes 0x19 0x19 [] ∷
    bytes 0x1F 0x1F (Block ∷ Catches ∷ []) ∷
    bytes 0xD5 0xD6 (Label ∷ []) ∷ []

-- ---- "Parametric Instructions", "Variable Instructions", "Table Instructions"

-- the operators drop and select, those of locals and globals, and those of tables and element segments
abbrev pub values : List Row
values =
    bytes 0x1A 0x1B [] ∷
    bytes 0x1C 0x1C (Values ∷ []) ∷
    bytes 0x20 0x22 (Local ∷ []) ∷
    bytes 0x23 0x24 (Global ∷ []) ∷
    bytes 0x25 0x26 (Table ∷ []) ∷
    prefixed 0xFC 0x0C 0x0C (Element ∷ Table ∷ []) ∷
    prefixed 0xFC 0x0D 0x0D (Element ∷ []) ∷
    prefixed 0xFC 0x0E 0x0E (Table ∷ Table ∷ []) ∷
    prefixed 0xFC 0x0F 0x11 (Table ∷ []) ∷ []

-- ---- "Memory Instructions", with those of threads (0xFE)

-- the operators that load and store numbers, those of whole memories and data segments, and atomic ones; vectors aside
abbrev pub memories : List Row
memories =
    bytes 0x28 0x3E (Access ∷ []) ∷
    bytes 0x3F 0x40 (Memory ∷ []) ∷
    prefixed 0xFC 0x08 0x08 (Data ∷ Memory ∷ []) ∷
    prefixed 0xFC 0x09 0x09 (Data ∷ []) ∷
    prefixed 0xFC 0x0A 0x0A (Memory ∷ Memory ∷ []) ∷
    prefixed 0xFC 0x0B 0x0B (Memory ∷ []) ∷
    prefixed 0xFE 0x00 0x02 (Access ∷ []) ∷
    prefixed 0xFE 0x03 0x03 (Byte ∷ []) ∷
    prefixed 0xFE 0x10 0x4E (Access ∷ []) ∷ []

-- ---- "Numeric Instructions", with those of wide arithmetic (0xFC 0x13 to 0x16)

-- the operators that give, compare, compute and convert numbers, the constants among them
abbrev pub numerics : List Row
numerics =
    bytes 0x41 0x41 (S32 ∷ []) ∷
    bytes 0x42 0x42 (S64 ∷ []) ∷
    bytes 0x43 0x43 (F32 ∷ []) ∷
    bytes 0x44 0x44 (F64 ∷ []) ∷
    bytes 0x45 0xC4 [] ∷
    prefixed 0xFC 0x00 0x07 [] ∷
    prefixed 0xFC 0x13 0x16 [] ∷ []

-- ---- "Reference Instructions", "Aggregate Instructions"

-- the operators of references, structures, arrays and i31, casts and conversions among them, with br_on_cast and br_on_cast_fail
abbrev pub references : List Row
references =
    bytes 0xD0 0xD0 (Heap ∷ []) ∷
    bytes 0xD1 0xD1 [] ∷
    bytes 0xD2 0xD2 (Function ∷ []) ∷
    bytes 0xD3 0xD4 [] ∷
    prefixed 0xFB 0x00 0x01 («Type» ∷ []) ∷
    prefixed 0xFB 0x02 0x05 («Type» ∷ Number ∷ []) ∷
    prefixed 0xFB 0x06 0x07 («Type» ∷ []) ∷
    prefixed 0xFB 0x08 0x08 («Type» ∷ Number ∷ []) ∷
    prefixed 0xFB 0x09 0x09 («Type» ∷ Data ∷ []) ∷
    prefixed 0xFB 0x0A 0x0A («Type» ∷ Element ∷ []) ∷
    prefixed 0xFB 0x0B 0x0E («Type» ∷ []) ∷
    prefixed 0xFB 0x0F 0x0F [] ∷
    prefixed 0xFB 0x10 0x10 («Type» ∷ []) ∷
    prefixed 0xFB 0x11 0x11 («Type» ∷ «Type» ∷ []) ∷
    prefixed 0xFB 0x12 0x12 («Type» ∷ Data ∷ []) ∷
    prefixed 0xFB 0x13 0x13 («Type» ∷ Element ∷ []) ∷
    prefixed 0xFB 0x14 0x17 (Heap ∷ []) ∷
    prefixed 0xFB 0x18 0x19 (Byte ∷ Label ∷ Heap ∷ Heap ∷ []) ∷
    prefixed 0xFB 0x1A 0x1E [] ∷ []

-- ---- "Vector Instructions"; numbers between them that the standard leaves free are taken too

-- the operators of vectors, their loads and stores and the relaxed ones among them
abbrev pub vectors : List Row
vectors =
    prefixed 0xFD 0x00 0x0B (Access ∷ []) ∷
    prefixed 0xFD 0x0C 0x0D (SixteenBytes ∷ []) ∷
    prefixed 0xFD 0x0E 0x14 [] ∷
    prefixed 0xFD 0x15 0x22 (Byte ∷ []) ∷
    prefixed 0xFD 0x23 0x53 [] ∷
    prefixed 0xFD 0x54 0x5B (Access ∷ Byte ∷ []) ∷
    prefixed 0xFD 0x5C 0x5D (Access ∷ []) ∷
    prefixed 0xFD 0x5E 0x113 [] ∷ []

-- ---- the table

-- all operators that are taken, with the kinds of their arguments
abbrev pub table : List Row
table = control ++ values ++ memories ++ numerics ++ references ++ vectors

-- whether the operator is among those of the row
abbrev pub is_in : Row → ℕ → Bool
is_in row op = not (nat_lt op row.first) && not (nat_lt row.last op)

-- the kinds of an operator's arguments by the first of these rows that has it; none where no row has it
abbrev pub kinds_in : List Row → ℕ → Option (List Kind)
kinds_in [] op = None
kinds_in (row ∷ rows) op = if is_in row op then Some row.kinds else kinds_in rows op

-- the kinds of an operator's arguments; none where there is no such operator
unfoldable pub kinds_of : ℕ → Option (List Kind)
kinds_of op = kinds_in table op

-- ---- the table as the code answers it: kinds, and then Nothing

abbrev pub is_argument : Kind → Bool
is_argument Nothing = false
is_argument kind = true

-- the kinds in front of the first Nothing
abbrev pub listed : List Kind → List Kind
listed [] = []
listed (kind ∷ kinds) = if is_argument kind then kind ∷ listed kinds else []
