-- Arguments that are read behind others.
use Rattle.std.specs.Prelude.{ℕ, Bool, true, false, List, Option}
use Rattle.wasm_forms.specs.Reading.{◌>>=◌}
use Rattle.wasm_forms.specs.Grammar.{Form, at, behind}
use Rattle.wasm_operators.specs.declared.kind.Kind.{Kind}
use Rattle.wasm_operators.specs.declared.kind.Kind.TheVariants.{Nothing, Catches, Labels, Label, Values, Function, «Type», Table, Memory, Global, Tag, Element, Data, Local, Number, SixteenBytes}

-- these, and behind them what the form reads
abbrev pub push_at : {A : Type 0} → List A → Form (List A) → List ℕ → Option (List A × List ℕ)
push_at done f bytes = at f bytes >>= behind done

-- whether an argument of this kind is always one in the list of arguments
abbrev pub is_one : Kind → Bool
is_one Nothing = false
is_one Catches = false
is_one Labels = false
is_one Values = false
is_one SixteenBytes = false
is_one kind = true

abbrev pub is_number : Kind → Bool
is_number Function = true
is_number «Type» = true
is_number Table = true
is_number Memory = true
is_number Global = true
is_number Tag = true
is_number Element = true
is_number Data = true
is_number Local = true
is_number Label = true
is_number Number = true
is_number kind = false
