-- The text that records make, the module of indices that it says, and the renaming.
use Rattle.wasm_frames.specs.Record as wire
use Rattle.std.proofs.Common.{◌≡◌, ℕ, List, [], ◌∷◌, ◌++◌, sym, ap, Some}
use Rattle.std.specs.Prelude.{Option, unwrap_or, ◌==◌, if◌then◌else◌}
use Rattle.std.specs.List.{AllZip}
use Rattle.walrus_base.specs.Operators.{Space, Functions}
use Rattle.walrus_base.specs.Shape.{place_in}
use Rattle.walrus_code.specs.Names.{Lookup}
use Rattle.walrus_items.specs.Function.{args_of}
use Rattle.walrus_bodies.specs.declared.features.Features.{Features}
use Rattle.walrus_contents.specs.declared.parts.Parts.{Parts}
use Rattle.walrus_model.specs.Abstract.{Abstract}
use Rattle.walrus_model.specs.Renaming.{Renaming}
use Rattle.walrus_theorem.specs.Text.{BodyText}
use Rattle.walrus_theorem.proofs.OneSections.{laid}
use Rattle.walrus_theorem.proofs.OneSpelling.{told}
use Rattle.walrus_plan.specs.Brought.{import_numbers}
use Rattle.walrus_writing.specs.Parts.{HasBytes}
use Rattle.walrus_writing.specs.Records.{Records, text_of, texts_in}

-- the index of a local in the function at a place: its parameters, then the locals that it declares
abbrev pub local_in_order : (p : Parts) (names : Lookup) (features : Features) (order : List ℕ) (bodies : List (List ℕ)) → AllZip (HasBytes p names features) order bodies → ℕ → ℕ → ℕ
local_in_order p names features [] [] a f x = x
local_in_order p names features (i ∷ is) (b ∷ bs) a f x = if i == f then unwrap_or (place_in (args_of a.0.local ++ a.0.written.order) x) 0 else local_in_order p names features is bs a.1 f x
local_in_order p names features [] (b ∷ bs) a f x = elim a [ ]
local_in_order p names features (i ∷ is) [] a f x = elim a [ ]

module _ {p : Parts} {features : Features} (r : Records p features) where
  abbrev pub texts_of : List BodyText
  texts_of = texts_in p r.names features (r.own Functions) r.bodies r.bodies_are

  -- the entries of the sections
  abbrev pub laid_of : wire.Module
  laid_of = laid (text_of r)

  -- the module that they say
  abbrev pub module_said : Abstract
  module_said = told (text_of r)

  -- each item gets its index, each import its number in their order, each local of a function its own there
  abbrev pub renaming_of : Renaming
  renaming_of = record {
    numbers = λ space i. unwrap_or (r.names space i) 0;
    imports = λ i. unwrap_or (place_in (import_numbers p) i) 0;
    locals = local_in_order p r.names features (r.own Functions) r.bodies r.bodies_are;
  }

  pub number_is : (space : Space) (i j : ℕ) → r.names space i ≡ Some j → j ≡ unwrap_or (r.names space i) 0
  number_is space i j e = sym (ap (λ (o : Option ℕ). unwrap_or o 0) e)
