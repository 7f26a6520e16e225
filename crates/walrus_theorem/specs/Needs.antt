-- Each premise of `WrittenOnce` is needed: a module that breaks it alone is written as two. And all of them hold of a module that is written.
use Rattle.std.specs.Prelude.{ℕ, ◌∷◌, [], Some, false, codes, ◌≡◌}
use Rattle.wasm_opcodes.specs.declared.one_byte.TheConstants.{LOCAL_GET}
use Rattle.wasm_entries.specs.declared.record.RawExportKind.TheVariants as kinds
use Rattle.wasm_operators.specs.declared.operator.RawArg.TheVariants as args
use Rattle.walrus_model.specs.Abstract.{Abstract}
use Rattle.walrus_model.specs.Config.{Config}
use Rattle.walrus_theorem.specs.Examples.{no_values, the_end, empty_text, one_function, one_function_bytes}
use Rattle.walrus_theorem.specs.Once.{NamesLive, TypesLocals, ExportsLive, StartsLive, Premises}
use Rattle.walrus_theorem.specs.Pinned.{IsWrittenAs}
use Rattle.walrus_theorem.specs.Spelling.{IsSpelling, IsSpelledAs}
use Rattle.walrus_theorem.specs.Text.{Text, said_by}

abbrev pub plain_config : Config
plain_config = record { writes_names = false; synthetic_names = false; writes_producers = false; legacy_exceptions = false; only_stable_features = false }

-- v is written as what both texts say, and these aren't one
pub record IsWrittenTwice (v : Abstract) (s t : Text) : Type 0 where
  pub first_spells : IsSpelling (said_by s) s
  pub second_spells : IsSpelling (said_by t) t
  pub first : IsWrittenAs plain_config v (said_by s)
  pub second : IsWrittenAs plain_config v (said_by t)
  pub differ : said_by s ≡ said_by t → ⊥

-- a function that isn't there is where it starts; the number that it gets is open
abbrev pub start_text : ℕ → Text
start_text k = record empty_text { start = Some k }

-- a function that isn't there is exported
abbrev pub export_text : ℕ → Text
export_text k = record empty_text { exports = record { name = codes "f"; kind = kinds.Function; index = k } ∷ [] }

-- a tag of a type that isn't there
abbrev pub tag_text : ℕ → Text
tag_text k = record empty_text { tags = k ∷ [] }

-- a body that uses a local that isn't there
abbrev pub local_text : ℕ → Text
local_text k = record empty_text {
  types = no_values ∷ [];
  functions = 0 ∷ [];
  bodies = record { declarations = []; operators = record { op = LOCAL_GET; args = args.Local k ∷ [] } ∷ the_end ∷ [] } ∷ [];
}

-- what each of them says where the number is 0 keeps the other premises
pub record AreNeeded : Type 0 where
  pub start : NamesLive (said_by (start_text 0)) × TypesLocals (said_by (start_text 0)) × ExportsLive (said_by (start_text 0)) × IsWrittenTwice (said_by (start_text 0)) (start_text 0) (start_text 1)
  pub exports : NamesLive (said_by (export_text 0)) × TypesLocals (said_by (export_text 0)) × StartsLive (said_by (export_text 0)) × IsWrittenTwice (said_by (export_text 0)) (export_text 0) (export_text 1)
  pub names : TypesLocals (said_by (tag_text 0)) × ExportsLive (said_by (tag_text 0)) × StartsLive (said_by (tag_text 0)) × IsWrittenTwice (said_by (tag_text 0)) (tag_text 0) (tag_text 1)
  pub locals : NamesLive (said_by (local_text 0)) × ExportsLive (said_by (local_text 0)) × StartsLive (said_by (local_text 0)) × IsWrittenTwice (said_by (local_text 0)) (local_text 0) (local_text 1)

-- the worked row keeps them, and is written as itself
pub record IsWrittenOnce : Type 0 where
  pub premises : Premises one_function
  pub spells : IsSpelledAs one_function one_function_bytes
  pub written : IsWrittenAs plain_config one_function one_function
