-- Which function of a module is the first whose body isn't read.
use Rattle.std.specs.Prelude.{◌≡◌, ℕ, ◌+◌, List, length, take, zip, slice_get, Option, Some, None}
use Rattle.std.specs.List.{AllZip}
use Rattle.wasm_frames.specs.Record as wire
use Rattle.walrus_code.specs.declared.error.IrError.{IrError}
use Rattle.walrus_code.specs.declared.error.IrError.TheVariants.{Malformed}
use Rattle.walrus_bodies.specs.declared.features.Features.{Features}
use Rattle.walrus_items.specs.Errors.{error_of_ir, invalid_wasm}
use Rattle.walrus_items.specs.declared.error.Error.{Error}
use Rattle.walrus_model.specs.Reads.{ReadsBodyWith}
use Rattle.walrus_model.specs.Sections.{Said, imported, imported_function}
use Rattle.walrus_reading.specs.declared.unread.Unread.{Unread}
use Rattle.walrus_reading.specs.declared.unread.Unread.TheVariants.{Body, Fails}

-- Of functions of these types and with these bodies, which have the indices from `first` on, this index is that of the one whose body isn't read,
-- where all bodies in front of it are.
pub record IsFirstOf (Reads : ℕ × wire.Body → Said → Type 0) (first : ℕ) (fs : List (ℕ × wire.Body)) (index : ℕ) : Type 0 where
  pub place : ℕ
  pub counted : index ≡ first + place
  pub function : ℕ × wire.Body
  pub there : slice_get fs place ≡ Some function
  pub unread : (said : Said) → Reads function said → ⊥
  pub bodies : List Said
  pub before : AllZip Reads (take place fs) bodies

-- how many functions imports bring, which have the first indices
abbrev pub brought_functions : wire.Module → ℕ
brought_functions r = length (imported imported_function 0 r.imports)

-- the index of the first function of these sections whose body isn't read; none where all bodies are
abbrev pub IsFirstUnread : Features → wire.Module → Option ℕ → Type 0
IsFirstUnread features r None = (bodies : List Said) × AllZip (ReadsBodyWith features r) (zip r.functions r.bodies) bodies
IsFirstUnread features r (Some index) = IsFirstOf (ReadsBodyWith features r) (brought_functions r) (zip r.functions r.bodies) index

-- there is one answer
abbrev pub OneUnread : Type 0
OneUnread = (features : Features) (r : wire.Module) (a b : Option ℕ) → IsFirstUnread features r a → IsFirstUnread features r b → a ≡ b

-- ---- for the functions inside

-- why a function of this index isn't read, whose body is refused by this
abbrev pub unread_of : ℕ → IrError → Unread
unread_of index Malformed = Body index
unread_of index e = Fails (error_of_ir e)

-- the refusal of the whole
abbrev pub error_of_unread : Unread → Error
error_of_unread (Body index) = invalid_wasm
error_of_unread (Fails e) = e
