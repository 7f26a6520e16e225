-- Declarations and groups: how many locals they have, their texts, and what they read as.
use Rattle.std.proofs.Common.{◌≡◌, ℕ, zero, suc, ◌+◌, ◌<◌, ◌^◌, List, [], ◌∷◌, length, map, replicate, Option, Some, refl, sym, ap, ◌∙◌, arith, length-append}
use Rattle.std.specs.Prelude.{All}
use Rattle.std.proofs.lemmas.List.{length-map}
use Rattle.wasm_forms.specs.Grammar.{Is, ◌then◌, U32}
use Rattle.wasm_forms.specs.Spelling.{number_bytes}
use Rattle.wasm_forms.specs.Types.{value_type, value_bytes, ValueStands}
use Rattle.wasm_forms.specs.Writing.{EachFits}
use Rattle.wasm_forms.specs.declared.types.RawVal.{RawVal}
use Rattle.wasm_forms.proofs.Spelled.{number_stands}
use Rattle.wasm_forms.proofs.Stands.{list_stands, value_stands}
use Rattle.walrus_base.specs.Types.{ValType}
use Rattle.walrus_code.specs.FromRaw.{val_of}
use Rattle.walrus_code.specs.Names.{Lookup, LeadsBack, named_val}
use Rattle.walrus_code.proofs.BackLemmas.{val_back}
use Rattle.walrus_bodies.specs.Body.{declarations, declared_types}
use Rattle.walrus_functions.specs.Declaring.{AreDeclarations, spread}
use Rattle.walrus_functions.specs.EmittedBody.{declaration_bytes, declarations_bytes}
use Rattle.walrus_base.proofs.FunctionSame.{cons_head as head_same, cons_tail as tail_same}

abbrev Seen : Type 0
Seen = ℕ × Option (ValType ℕ)

abbrev seen : ℕ × RawVal → Seen
seen d = (d.0, Some (val_of d.1))

abbrev indexed : Lookup → ℕ × ValType ℕ → Seen
indexed names g = (g.0, named_val names g.1)

length-replicate : (n : ℕ) (v : ValType ℕ) → length (replicate n v) ≡ n
length-replicate zero v = refl
length-replicate (suc n) v = let k = length-replicate n v in omega (arith, k)

abbrev pub how_many : List (ℕ × RawVal) → ℕ
how_many [] = 0
how_many (d ∷ ds) = d.0 + how_many ds

count_same : (names : Lookup) (ds : List (ℕ × RawVal)) (gs : List (ℕ × ValType ℕ)) → map seen ds ≡ map (indexed names) gs → how_many ds ≡ length (spread gs)
count_same names [] [] h = refl
count_same names [] (g ∷ gs) h = absurd cc
count_same names (d ∷ ds) [] h = absurd cc
count_same names (d ∷ ds) (g ∷ gs) h =
    let first : d.0 ≡ g.0 = ap (λ (s : Seen). s.0) (head_same _ _ _ _ h) in
    let rest = count_same names ds gs (tail_same _ _ _ _ h) in
    let size : length (spread (g ∷ gs)) ≡ length (replicate g.0 g.1) + length (spread gs) = length-append (replicate g.0 g.1) (spread gs) in
    let count = length-replicate g.0 g.1 in
    omega (arith, first, rest, size, count)

-- they declare as many locals as the groups have
pub how_many_are : (names : Lookup) (gs : List (ℕ × ValType ℕ)) (ds : List (ℕ × RawVal)) → AreDeclarations names gs ds → how_many ds ≡ length (spread gs)
how_many_are names gs ds h = count_same names ds gs h.are

pub as_many : (names : Lookup) (gs : List (ℕ × ValType ℕ)) (ds : List (ℕ × RawVal)) → AreDeclarations names gs ds → length ds ≡ length gs
as_many names gs ds h = sym (length-map ds seen) ∙ ap length h.are ∙ length-map gs (indexed names)

-- ---- their text

abbrev Small : ℕ × RawVal → Type 0
Small d = d.0 < 2 ^ 32

abbrev Stands : ℕ × RawVal → Type 0
Stands d = ValueStands d.1

each_small : (ds : List (ℕ × RawVal)) → how_many ds < 2 ^ 32 → EachFits Small ds
each_small [] h = tt
each_small (d ∷ ds) h = (omega (arith, h), each_small ds (omega (arith, h)))

declaration_stands : (d : ℕ × RawVal) → Small d → Stands d → Is (U32 then value_type) (declaration_bytes d) d
declaration_stands d small stands = (number_bytes d.0, (value_bytes d.1, (refl, number_stands d.0 small, value_stands d.1 stands)))

pub declarations_stand : (ds : List (ℕ × RawVal)) → length ds < 2 ^ 32 → how_many ds < 2 ^ 32 → All Stands ds → Is declarations (declarations_bytes ds) ds
unfolding declarations
declarations_stand ds few small stand = list_stands (U32 then value_type) declaration_bytes Small Stands declaration_stands ds (few, each_small ds small) stand

-- ---- what they read as where indices lead back

types_back : (names back : Lookup) → LeadsBack names back → (ds : List (ℕ × RawVal)) (gs : List (ℕ × ValType ℕ)) → map seen ds ≡ map (indexed names) gs → declared_types back ds ≡ Some (spread gs)
types_back names back leads [] [] h = refl
types_back names back leads [] (g ∷ gs) h = absurd cc
types_back names back leads (d ∷ ds) [] h = absurd cc
types_back names back leads (d ∷ ds) (g ∷ gs) h =
    let count : d.0 ≡ g.0 = ap (λ (s : Seen). s.0) (head_same _ _ _ _ h) in
    let value : named_val names g.1 ≡ Some (val_of d.1) = sym (ap (λ (s : Seen). s.1) (head_same _ _ _ _ h)) in
    let first = val_back names back leads g.1 (val_of d.1) value in
    let rest = types_back names back leads ds gs (tail_same _ _ _ _ h) in
    rw (first, rest, count) refl

pub read_back : (names back : Lookup) (gs : List (ℕ × ValType ℕ)) (ds : List (ℕ × RawVal)) → LeadsBack names back → AreDeclarations names gs ds → declared_types back ds ≡ Some (spread gs)
read_back names back gs ds leads h = types_back names back leads ds gs h.are
