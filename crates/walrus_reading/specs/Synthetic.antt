-- Names for functions and locals that have none.
use Rattle.std.specs.Prelude.{ℕ, suc, ◌+◌, ◌-◌, Bool, true, false, ◌&&◌, ◌==◌, nat_le, nat_lt, List, [], ◌∷◌, ◌++◌, length, Option, Some, None, is_none, slice_get, codes, decimal, if◌then◌else◌, flat_map, ◌≡◌}
use Rattle.std.specs.List.{AllZip, range_with_len}
use Rattle.wasm_frames.specs.Record as wire
use Rattle.wasm_payloads.specs.Names.{Named, Names}
use Rattle.walrus_base.specs.Arena.{item_at}
use Rattle.walrus_items.specs.Function.{args_of}
use Rattle.walrus_items.specs.Functions.{FunctionValue}
use Rattle.walrus_items.specs.declared.function_kind.FunctionKind.TheVariants as kind
use Rattle.walrus_items.specs.declared.function_kind.FunctionKind.{FunctionKind}
use Rattle.walrus_model.specs.Abstract.{Name}
use Rattle.walrus_model.specs.Names.{or_else}
use Rattle.walrus_reading.specs.Renamed.{renamed_from}
use Rattle.walrus_reading.specs.Shown.{Shown, mend_function, mend_local}
use Rattle.walrus_reading.specs.TakenNames.{Bounds, all_named, is_known, name_payloads}

-- how many parameters a local function has
abbrev pub parameters_by : FunctionKind → Option ℕ
parameters_by (kind.Import i) = None
parameters_by (kind.Local f) = Some (length (args_of f))
parameters_by (kind.Uninitialized ty) = None

abbrev pub parameters_at : Option FunctionValue → Option ℕ
parameters_at None = None
parameters_at (Some f) = parameters_by f.kind

-- something stands there, without a name
abbrev pub lacks_name : {X : Type 0} → (X → Option Name) → Option X → Bool
lacks_name name None = false
lacks_name name (Some x) = is_none (name x)

-- local function i is f{i}
abbrev pub text_of_function : ℕ → Name
text_of_function i = codes "f" ++ decimal i

-- a parameter is arg{x}, another local l{x}
abbrev pub text_of_local : (parameters x : ℕ) → Name
text_of_local parameters x = if nat_lt x parameters then codes "arg" ++ decimal x else codes "l" ++ decimal x

-- this name where there was none, if it is meant
abbrev pub filled_if : Bool → Name → Option Name → Option Name
filled_if true name old = or_else old (Some name)
filled_if false name old = old

-- so many locals of a function, from the first place on
abbrev pub filled_row : (first count parameters : ℕ) → ℕ → Option Name → Option Name
filled_row first count parameters place = filled_if (nat_le first place && nat_lt place (first + count)) (text_of_local parameters (place - first))

-- the first place of the locals of function f, and the one behind the last
abbrev pub span_by : Option ℕ → Option ℕ → Option (ℕ × ℕ)
span_by None end = None
span_by (Some first) None = None
span_by (Some first) (Some end) = Some (first, end)

abbrev pub span : List ℕ → ℕ → Option (ℕ × ℕ)
span starts f = span_by (slice_get starts f) (slice_get starts (suc f))

-- the locals from this place on, up to that end, if there are such
abbrev pub filled_in : ℕ → Option (ℕ × ℕ) → ℕ → Option Name → Option Name
filled_in parameters None place old = old
filled_in parameters (Some ends) place old = filled_row ends.0 (ends.1 - ends.0) parameters place old

-- what is shown once a function with so many parameters, and each of its locals, has a name
abbrev pub once_by : List ℕ → ℕ → Option ℕ → Shown → Shown
once_by starts f None s = s
once_by starts f (Some parameters) s = record s {
  functions = renamed_from mend_function (λ i. filled_if (f == i) (text_of_function f)) 0 s.functions;
  locals = renamed_from mend_local (filled_in parameters (span starts f)) 0 s.locals;
}

abbrev pub once_filled : List ℕ → Shown → ℕ → Shown
once_filled starts s f = once_by starts f (parameters_at (item_at s.functions f)) s

-- and once these have, one after another
abbrev pub all_filled : List ℕ → Shown → List ℕ → Shown
all_filled starts s [] = s
all_filled starts s (f ∷ fs) = all_filled starts (once_filled starts s f) fs

-- where names are to be given, each function has one
abbrev pub finished : Bounds → Shown → Shown
finished b s = if b.synthetic then all_filled b.starts s (range_with_len 0 (length s.functions)) else s

-- ---- all names of a module

-- what is shown once these namings are taken, and names are given where they are to be
abbrev pub named_by : Bounds → List Named → Shown → Shown
named_by b namings s = finished b (all_named b s namings)

-- the module shows what it showed, but for the names that its sections give, and those that are given to what has none
pub record AreNamed (b : Bounds) (customs : List wire.Custom) (old new : Shown) : Type 0 where
  pub namings : List (List Named)
  pub read : AllZip (Names (is_known b.starts)) (name_payloads customs) namings
  pub are : new ≡ named_by b (flat_map (λ xs. xs) namings) old
