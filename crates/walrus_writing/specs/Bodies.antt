-- The bodies of functions as they are written, one behind another.
use Rattle.std.specs.Prelude.{ℕ, Bool, true, List, [], ◌∷◌, ◌++◌, drop, length, map, take, ◌≡◌}
use Rattle.std.specs.List.{AllZip}
use Rattle.wasm_forms.specs.Spelling.{block_bytes, number_bytes, row_bytes}
use Rattle.wasm_payloads.specs.Spelling.{NameMap}
use Rattle.walrus_base.specs.Id.{place}
use Rattle.walrus_base.specs.declared.id.Id.{Id}
use Rattle.walrus_base.specs.declared.keys.FunctionKey.{FunctionKey}
use Rattle.walrus_base.specs.Locals.{locals}
use Rattle.walrus_code.specs.Names.{Lookup}
use Rattle.walrus_bodies.specs.declared.features.Features.{Features}
use Rattle.walrus_functions.specs.declared.append.AppendedBody.{AppendedBody}
use Rattle.walrus_contents.specs.declared.parts.Parts.{Parts}
use Rattle.walrus_writing.specs.Names.{all_local_names, used_listed}
use Rattle.walrus_writing.specs.Parts.{BodySeen, IsWrittenBody}
use Rattle.walrus_writing.specs.declared.joined.WrittenBodies.{WrittenBodies}

-- the texts of these lengths that bytes begin with, each behind its size
abbrev pub texts_in : List ℕ → List ℕ → List (List ℕ)
texts_in [] bytes = []
texts_in (n ∷ ns) bytes = take n (drop (length (number_bytes n)) bytes) ∷ texts_in ns (drop n (drop (length (number_bytes n)) bytes))

-- the bytes of each body
abbrev pub texts_of : WrittenBodies → List (List ℕ)
texts_of b = texts_in b.lengths.items b.bytes.items

-- this is the body of the function, and was appended; and where it is told which of its locals are used, these are
pub record IsAppended (p : Parts) (names : Lookup) (features : Features) (number : ℕ) (tells : Bool) (old new : List ℕ) (seen : BodySeen) (body : AppendedBody) : Type 0 where
  pub written : IsWrittenBody p names features number seen
  pub added : new ≡ old ++ seen.bytes
  pub told : tells ≡ true → seen.used ≡ used_listed (map place body.order.items) body.used.items

-- each of these is the body of the function at its place
abbrev pub AreBodies : Parts → Lookup → Features → List (Id FunctionKey) → List BodySeen → Type 0
AreBodies p names features order bodies = AllZip (λ id b. IsWrittenBody p names features (place id) b) order bodies

-- The bodies of these functions, the first of which has this index, are written as these texts; and these are the names of their used
-- locals, where they are chosen.
pub record AreWritten (p : Parts) (names : Lookup) (features : Features) (order : List (Id FunctionKey)) (first : ℕ) (chosen : Bool) (texts : List (List ℕ)) (named : List (ℕ × NameMap)) : Type 0 where
  pub bodies : List BodySeen
  pub are : AreBodies p names features order bodies
  pub texts_are : texts ≡ map (λ b. b.bytes) bodies
  pub names_are : chosen ≡ true → named ≡ all_local_names (locals p.locals.now) first (map (λ b. b.used) bodies)

-- so they are, and stand behind what was there, each behind its size; and these are their lengths, where these are asked for
pub record AppendsBodies (p : Parts) (names : Lookup) (features : Features) (order : List (Id FunctionKey)) (first : ℕ) (chosen asked : Bool) (named : List (ℕ × NameMap)) (lengths old new : List ℕ) : Type 0 where
  pub texts : List (List ℕ)
  pub written : AreWritten p names features order first chosen texts named
  pub lengths_are : asked ≡ true → lengths ≡ map length texts
  pub stand : new ≡ old ++ row_bytes block_bytes texts
