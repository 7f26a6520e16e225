-- Arguments that are skipped, one entry after another and one kind after another.
use Rattle.std.proofs.Common.{◌≡◌, ℕ, zero, suc, ◌+◌, ◌<◌, ◌≤◌, true, false, List, [], ◌∷◌, length, get_or, drop, refl, sym, ap, ◌∙◌, arith}
use Rattle.std.specs.Prelude.{Option, Some, None, nat_eq}
use Rattle.std.proofs.lemmas.Bool.{ne_eqb}
use Rattle.wasm_forms.specs.Reading.{◌>>=◌}
use Rattle.wasm_operators.specs.declared.kind.Kind.{Kind}
use Rattle.wasm_operators.specs.declared.kind.Kind.TheVariants.{Nothing}
use Rattle.wasm_operators.specs.declared.operator.RawArg.{RawArg}
use Rattle.wasm_operators.specs.Operators.{Op}
use Rattle.wasm_operators.specs.Table.{is_argument, listed, kinds_of}
use Rattle.wasm_operators.specs.Standing.{behind_entries, behind_kind, behind_kinds, is_done, spelled_by, spells}
use Rattle.wasm_operators.proofs.Arguments.{kinds_next, kinds_stop, kinds_over}

abbrev Skip : Type 0
Skip = List RawArg → Option (List RawArg)

entries_step : (entry : Skip) (n : ℕ) (args : List RawArg) (o : Option (List RawArg)) → o ≡ entry args → behind_entries entry (suc n) args ≡ (o >>= behind_entries entry n)
unfolding behind_entries
entries_step entry n args o e = ap (λ o. o >>= behind_entries entry n) (sym e)

pub entries_next : (entry : Skip) (n : ℕ) (args rest : List RawArg) → Some rest ≡ entry args → behind_entries entry (suc n) args ≡ behind_entries entry n rest
entries_next entry n args rest e = entries_step entry n args (Some rest) e

pub entries_none : (entry : Skip) (n : ℕ) (args : List RawArg) → None ≡ entry args → behind_entries entry (suc n) args ≡ None
entries_none entry n args e = entries_step entry n args None e

pub entries_over : (entry : Skip) (args : List RawArg) → behind_entries entry zero args ≡ Some args
unfolding behind_entries
entries_over entry args = refl

kinds_step : (kinds : List Kind) (i : ℕ) (args : List RawArg) (o : Option (List RawArg)) → i < length kinds → is_argument (get_or kinds i Nothing) ≡ true → o ≡ behind_kind (get_or kinds i Nothing) args
    → behind_kinds (listed (drop i kinds)) args ≡ (o >>= behind_kinds (listed (drop (i + 1) kinds)))
kinds_step kinds i args o l h e = ap (λ ks. behind_kinds ks args) (kinds_next kinds i l h) ∙ ap (λ o. o >>= behind_kinds (listed (drop (i + 1) kinds))) (sym e)

pub kinds_pass : (kinds : List Kind) (i : ℕ) (args rest : List RawArg) → i < length kinds → is_argument (get_or kinds i Nothing) ≡ true → Some rest ≡ behind_kind (get_or kinds i Nothing) args
    → behind_kinds (listed (drop i kinds)) args ≡ behind_kinds (listed (drop (i + 1) kinds)) rest
kinds_pass kinds i args rest l h e = kinds_step kinds i args (Some rest) l h e

pub kinds_none : (kinds : List Kind) (i : ℕ) (args : List RawArg) → i < length kinds → is_argument (get_or kinds i Nothing) ≡ true → None ≡ behind_kind (get_or kinds i Nothing) args → behind_kinds (listed (drop i kinds)) args ≡ None
kinds_none kinds i args l h e = kinds_step kinds i args None l h e

pub kinds_done : (kinds : List Kind) (i : ℕ) (args : List RawArg) → i < length kinds → is_argument (get_or kinds i Nothing) ≡ false → behind_kinds (listed (drop i kinds)) args ≡ Some args
kinds_done kinds i args l h = ap (λ ks. behind_kinds ks args) (kinds_stop kinds i l h)

pub kinds_all : (kinds : List Kind) (i : ℕ) (args : List RawArg) → length kinds ≤ i → behind_kinds (listed (drop i kinds)) args ≡ Some args
kinds_all kinds i args l = ap (λ ks. behind_kinds ks args) (kinds_over kinds i l)

-- ---- operators

pub spells_none : (o : Op) → None ≡ kinds_of o.op → false ≡ spells o
unfolding spells
spells_none o e = ap (λ k. spelled_by k o.args) e

spells_by : (o : Op) (kinds : List Kind) (left : Option (List RawArg)) → Some kinds ≡ kinds_of o.op → left ≡ behind_kinds kinds o.args → is_done left ≡ spells o
unfolding spells
spells_by o kinds left e h = ap is_done h ∙ ap (λ k. spelled_by k o.args) e

pub spells_not : (o : Op) (kinds : List Kind) → Some kinds ≡ kinds_of o.op → None ≡ behind_kinds kinds o.args → false ≡ spells o
spells_not o kinds e h = spells_by o kinds None e h

nothing_left : (rest : List RawArg) → nat_eq (length rest) 0 ≡ is_done (Some rest)
nothing_left [] = refl
nothing_left (arg ∷ rest) = ne_eqb (suc (length rest)) 0 (λ e. omega (arith, e))

pub spells_some : (o : Op) (kinds : List Kind) (rest : List RawArg) → Some kinds ≡ kinds_of o.op → Some rest ≡ behind_kinds kinds o.args → nat_eq (length rest) 0 ≡ spells o
spells_some o kinds rest e h = nothing_left rest ∙ spells_by o kinds (Some rest) e h
