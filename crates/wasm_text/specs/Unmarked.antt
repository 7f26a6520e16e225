-- Marks that are left out: a body is written as it stands, and what it names is known, without them.
use Rattle.std.specs.Prelude.{◌≡◌, ◌⊎◌, ◌<◌, ◌+◌, ℕ, Bool, true, false, ◌&&◌, List, [], ◌∷◌, ◌++◌, drop, nat_eq, nat_le, slice_index_or}
use Rattle.std.specs.List.{list_any}
use Rattle.wasm_operators.specs.declared.kind.Kind.{Kind}
use Rattle.wasm_operators.specs.declared.operator.RawArg.{RawArg}
use Rattle.wasm_operators.specs.declared.operator.RawArg.TheVariants as args
use Rattle.wasm_operators.specs.Forms.{args_form}
use Rattle.wasm_operators.specs.Spelling.{arg_bytes}
use Rattle.wasm_forms.specs.Grammar.{U64}
use Rattle.wasm_text.specs.Places.{between, Stands, IsShortest, IfPlace}
use Rattle.wasm_text.specs.Marks.{place_of, kind_of, form_of}
use Rattle.wasm_text.specs.Scans.{HasArgs}
use Rattle.wasm_text.specs.declared.limits.Limits.{Limits}
use Rattle.wasm_text.specs.declared.unmarked.Unmarked.{Unmarked}

-- ---- what is left out

-- an argument needs no mark: the index of a local from one on, or an access to memory 0 where a flag tells that there is one
abbrev pub needs_none : (first : ℕ) → (accessed : Bool) → RawArg → Bool
needs_none first accessed (args.Local n) = nat_le first n
needs_none first accessed (args.Access flags memory offset) = accessed && nat_eq memory 0
needs_none first accessed arg = false

-- what stands at a mark is the one spelling of such an argument
pub record IsUnneeded (first : ℕ) (accessed : Bool) (bytes : List ℕ) (mark : ℕ) : Type 0 where
  pub arg : RawArg
  pub behind : ℕ
  pub stands : Stands (form_of (kind_of mark)) bytes (place_of mark) behind arg
  pub needless : needs_none first accessed arg ≡ true
  pub spelled : arg_bytes arg ≡ between (place_of mark) behind bytes

-- these marks are left of all, in order: but for unneeded ones
abbrev pub AreLeft : (first : ℕ) → (accessed : Bool) → List ℕ → (all left : List ℕ) → Type 0
AreLeft first accessed bytes [] left = left ≡ []
AreLeft first accessed bytes (mark ∷ all) left =
    (IsUnneeded first accessed bytes mark × AreLeft first accessed bytes all left)
    ⊎ ((rest : List ℕ) × ((left ≡ mark ∷ rest) × AreLeft first accessed bytes all rest))

-- ---- what flags tell

abbrev pub is_local : ℕ → RawArg → Bool
is_local n (args.Local m) = nat_eq m n
is_local n arg = false

abbrev pub is_access : RawArg → Bool
is_access (args.Access flags memory offset) = nat_eq memory 0
is_access arg = false

-- these arguments name each local that is flagged, and access memory 0 if that is flagged
pub record AreNamed (unmarked : Unmarked) (named : List RawArg) : Type 0 where
  pub locals : (n : ℕ) → slice_index_or unmarked.named.items n false ≡ true → list_any (is_local n) named ≡ true
  pub memory : unmarked.accessed ≡ true → list_any is_access named ≡ true

-- what is flagged anew is named by these arguments
pub record Flags (old new : Unmarked) (named : List RawArg) : Type 0 where
  pub same : new.first ≡ old.first
  pub locals : (n : ℕ) → slice_index_or new.named.items n false ≡ true → (slice_index_or old.named.items n false ≡ true) ⊎ (list_any (is_local n) named ≡ true)
  pub memory : new.accessed ≡ true → (old.accessed ≡ true) ⊎ (list_any is_access named ≡ true)
  pub stays : old.accessed ≡ true → new.accessed ≡ true

-- arguments of these kinds, with those of their marks that are needed
pub record HasLeft (kinds : List Kind) (limits : Limits) (before after : Unmarked) (bytes : List ℕ) (at behind : ℕ) (old new : List ℕ) : Type 0 where
  pub all : List ℕ
  pub found : HasArgs (args_form kinds) limits bytes at behind [] all
  pub left : List ℕ
  pub are_left : AreLeft after.first after.accessed bytes all left
  pub put : new ≡ old ++ left
  pub flags : Flags before after found.args

abbrev pub ScansLeft : List Kind → Limits → (before after : Unmarked) → List ℕ → (at : ℕ) → (old new : List ℕ) → ℕ → Type 0
ScansLeft kinds limits before after bytes at old new behind = IfPlace behind (HasLeft kinds limits before after bytes at behind old new)

-- an access to memory 0, in its one spelling: flags of one byte, and the offset
pub record IsShortAccess (bytes : List ℕ) (at behind : ℕ) : Type 0 where
  pub flags : ℕ
  pub offset : ℕ
  pub small : flags < 64
  pub first : drop at bytes ≡ flags ∷ drop (at + 1) bytes
  pub stands : Stands U64 bytes (at + 1) behind offset
  pub shortest : IsShortest (between (at + 1) behind bytes)
