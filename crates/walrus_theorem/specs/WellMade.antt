-- A module in memory that can be written, legacy exceptions included where the configuration has them.
use Rattle.std.specs.Prelude.{ℕ, List, ◌++◌, map, length, Some, Contains, AllPairs, slice_get, codes, ◌≡◌, ◌≢◌, ◌↔◌}
use Rattle.walrus_base.specs.Types.{ValType}
use Rattle.walrus_code.specs.Names.{Lookup}
use Rattle.walrus_bodies.specs.Body.{context, BodyReads}
use Rattle.walrus_bodies.specs.FunctionTypes.{is_function_def}
use Rattle.walrus_model.specs.BlockHandlers.{params_of}
use Rattle.walrus_model.specs.Abstract.{Abstract, Body, LocalFunction, Function, Custom}
use Rattle.walrus_model.specs.Config.{Config}
use Rattle.walrus_model.specs.Names.{body_of}
use Rattle.walrus_model.specs.Order.{ByImport}
use Rattle.walrus_model.specs.Rules.{IsFunctionType, RulesHold}
use Rattle.walrus_model.specs.WellMade.{ImportsMatch, IsWritable}
use Rattle.walrus_theorem.specs.Features.{features_of}
use Rattle.walrus_theorem.specs.Pinned.{DeclaresLocal}

-- ---- bodies

-- Some bytes read as the body, under some look-up of what it names, where the parameters and then some further locals, whose types the bytes
-- declare, are its locals. The parameters are distinct locals, one for each parameter of the function type and of its value type.
pub record IsWellFormed (c : Config) (m : Abstract) (ty : ℕ) (b : Body) : Type 0 where
  pub function_type : IsFunctionType m ty
  pub distinct : AllPairs (λ (x : ℕ) (y : ℕ). x ≢ y) b.parameters
  pub typed : map b.local_type b.parameters ≡ map Some (params_of (m.types ty))
  pub names : Lookup
  pub further : List ℕ
  pub types : List (ValType ℕ)
  pub further_typed : map Some types ≡ map b.local_type further
  pub text : List ℕ
  pub read : BodyReads (context names (λ t. is_function_def (m.types t)) (features_of c)) (slice_get (b.parameters ++ further)) text types b.operators

-- in memory a body declares the locals that it uses and that are no parameters
pub record IsCounted (b : Body) : Type 0 where
  pub locals : List ℕ
  pub distinct : AllPairs (λ (x : ℕ) (y : ℕ). x ≢ y) locals
  pub are : (x : ℕ) → Contains locals x ↔ DeclaresLocal b x
  pub count : b.declared ≡ length locals

-- ---- all of it; that an item in memory sits at its own id isn't said by it

pub record IsWellMade (c : Config) (m : Abstract) : Type 0 where
  pub imports : ImportsMatch m
  pub writable : IsWritable m
  pub bodies : (i : ℕ) (f : Function) (b : Body) → m.functions i ≡ Some f → f.kind ≡ LocalFunction b → IsWellFormed c m f.ty b
  pub rules : RulesHold (ByImport m) m
  pub customs : (s : Custom) → Contains m.customs s → (s.name ≢ codes "name") × (s.name ≢ codes "producers")
  pub counted : (f : ℕ) (b : Body) → body_of m f ≡ Some b → IsCounted b
