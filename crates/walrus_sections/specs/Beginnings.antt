-- What bytes begin as that don't begin as a WebAssembly module, and how that is told.
use Rattle.std.specs.Prelude.{ℕ, ◌<◌, Bool, true, ◌||◌, ◌==◌, List, [], ◌∷◌, ◌++◌, take, Option, Some, None, All, codes, ◌≡◌, ◌⊎◌}
pub use Rattle.wasm_frames.specs.Frames.{header}
use Rattle.wasm_frames.specs.Until.{LacksHeader}
use Rattle.walrus_sections.specs.declared.beginnings.Beginning.{Beginning}
use Rattle.walrus_sections.specs.declared.beginnings.Beginning.TheVariants.{Bitcode, Component, Cut, Elf, Empty, Gzip, Other, OtherVersion, Text}
use Rattle.walrus_sections.specs.declared.beginnings.Beginning.TheVariants.{Zip, Zstd}

-- these bytes stand in front
abbrev pub Begins : (bytes front : List ℕ) → Type 0
Begins bytes front = (rest : List ℕ) × (bytes ≡ front ++ rest)

-- how each component begins: the magic, version 13 and layer 1
abbrev pub component : List ℕ
component = 0x00 ∷ 0x61 ∷ 0x73 ∷ 0x6D ∷ 0x0D ∷ 0x00 ∷ 0x01 ∷ 0x00 ∷ []

-- what zstd makes begins so; its first byte is `(`
abbrev pub zstd : List ℕ
zstd = 0x28 ∷ 0xB5 ∷ 0x2F ∷ 0xFD ∷ []

-- white space of the text form: a space, a tab, a line feed or a carriage return
abbrev pub is_space : ℕ → Bool
is_space byte = byte == 0x20 || byte == 0x09 || byte == 0x0A || byte == 0x0D

-- `(` or `;;` stands in front, as in the text form
abbrev pub OpensText : List ℕ → Type 0
OpensText bytes = Begins bytes (0x28 ∷ []) ⊎ Begins bytes (0x3B ∷ 0x3B ∷ [])

-- behind white space, or at once, stands `(` or `;;`
abbrev pub IsText : List ℕ → Type 0
IsText bytes = (space text : List ℕ) × (bytes ≡ space ++ text) × All (λ byte. is_space byte ≡ true) space × OpensText text

-- the magic and any four bytes
abbrev pub HasVersion : List ℕ → Type 0
HasVersion bytes = (a b c d : ℕ) × Begins bytes (0x00 ∷ 0x61 ∷ 0x73 ∷ 0x6D ∷ a ∷ b ∷ c ∷ d ∷ [])

-- the bytes begin as this, which isn't `Other`
abbrev pub Stands : List ℕ → Beginning → Type 0
Stands bytes Empty = bytes ≡ []
Stands bytes Cut = (n : ℕ) × (0 < n) × (n < 8) × (bytes ≡ take n header)
Stands bytes Gzip = Begins bytes (0x1F ∷ 0x8B ∷ [])
Stands bytes Zip = Begins bytes (0x50 ∷ 0x4B ∷ 0x03 ∷ 0x04 ∷ []) ⊎ Begins bytes (0x50 ∷ 0x4B ∷ 0x05 ∷ 0x06 ∷ [])
Stands bytes Zstd = Begins bytes zstd
Stands bytes Elf = Begins bytes (0x7F ∷ 0x45 ∷ 0x4C ∷ 0x46 ∷ [])
Stands bytes Bitcode = Begins bytes (0x42 ∷ 0x43 ∷ 0xC0 ∷ 0xDE ∷ []) ⊎ Begins bytes (0xDE ∷ 0xC0 ∷ 0x17 ∷ 0x0B ∷ [])
Stands bytes Text = IsText bytes × ¬ Begins bytes zstd
Stands bytes Component = Begins bytes component
Stands bytes OtherVersion = HasVersion bytes × ¬ Begins bytes header × ¬ Begins bytes component
Stands bytes Other = ⊥

-- the bytes begin as this, where `Other` says that they begin as none of the others and not as a module
abbrev pub IsBeginning : List ℕ → Beginning → Type 0
IsBeginning bytes Other = ((kind : Beginning) → ¬ Stands bytes kind) × ¬ Begins bytes header
IsBeginning bytes kind = Stands bytes kind

-- none exactly where they begin as a module
abbrev pub AnswersBeginning : List ℕ → Option Beginning → Type 0
AnswersBeginning bytes None = Begins bytes header
AnswersBeginning bytes (Some kind) = IsBeginning bytes kind

-- the bytes begin as this where they don't begin as a module
abbrev pub BeginsAs : List ℕ → Beginning → Type 0
BeginsAs bytes kind = LacksHeader bytes → IsBeginning bytes kind

-- to any bytes there is one answer
abbrev pub HasOneBeginning : Type 0
HasOneBeginning = (bytes : List ℕ) (one another : Option Beginning) → AnswersBeginning bytes one → AnswersBeginning bytes another → one ≡ another

-- ---- how it is told

abbrev pub beginning_text : Beginning → List ℕ
beginning_text Empty = codes "the bytes don't begin as a WebAssembly module: there are none"
beginning_text Cut = codes "the bytes don't begin as a WebAssembly module: they end within the header"
beginning_text Gzip = codes "the bytes don't begin as a WebAssembly module: they are compressed by gzip"
beginning_text Zip = codes "the bytes don't begin as a WebAssembly module: they are a zip archive"
beginning_text Zstd = codes "the bytes don't begin as a WebAssembly module: they are compressed by zstd"
beginning_text Elf = codes "the bytes don't begin as a WebAssembly module: they are an ELF file"
beginning_text Bitcode = codes "the bytes don't begin as a WebAssembly module: they are LLVM bitcode"
beginning_text Text = codes "the bytes don't begin as a WebAssembly module: they are WebAssembly text, not binary"
beginning_text Component = codes "the bytes don't begin as a WebAssembly module: they are a component, not a module"
beginning_text OtherVersion = codes "the bytes don't begin as a WebAssembly module: they have another version"
beginning_text Other = codes "the bytes don't begin as a WebAssembly module"

-- the number of each, in their order, and 0 where nothing more is known
abbrev pub beginning_number : Beginning → ℕ
beginning_number Other = 0
beginning_number Empty = 1
beginning_number Cut = 2
beginning_number Gzip = 3
beginning_number Zip = 4
beginning_number Zstd = 5
beginning_number Elf = 6
beginning_number Bitcode = 7
beginning_number Text = 8
beginning_number Component = 9
beginning_number OtherVersion = 10
