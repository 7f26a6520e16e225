-- How many locals bodies declare: what they read as is what the rule on modules counts.
use Rattle.std.proofs.Common.{◌≡◌, ℕ, ◌+◌, ◌≤◌, List, [], ◌∷◌, ◌++◌, length, map, sym, ap, subst, ◌∙◌, arith}
use Rattle.std.specs.Prelude.{Option, Some, All, replicate, sum, zip}
use Rattle.std.specs.List.{AllByRecursion, AllZip}
use Rattle.std.proofs.lemmas.List.{length-append, length-replicate}
use Rattle.std.proofs.lemmas.List.Elements.{All-nil, All-cons, recursion_from_All}
use Rattle.std.proofs.lemmas.List.Sums.{sum_by_from}
use Rattle.wasm_forms.specs.Reading.{◌>>=◌}
use Rattle.wasm_forms.specs.declared.types.RawVal.{RawVal}
use Rattle.wasm_forms.proofs.Exact.{one_reading}
use Rattle.wasm_frames.specs.Record as wire
use Rattle.wasm_wire.specs.Rules.{LocalsHold}
use Rattle.walrus_base.specs.Types.{ValType}
use Rattle.walrus_base.specs.Operators.{Op}
use Rattle.walrus_code.specs.FromRaw.{val_of}
use Rattle.walrus_code.specs.Names.{Lookup, named_val}
use Rattle.walrus_bodies.specs.Body.{Context, BodyReads, declarations, declared_types}
use Rattle.walrus_bodies.specs.declared.features.Features.{Features}
use Rattle.walrus_model.specs.Reads.{ReadsBodyWith}
use Rattle.walrus_model.specs.Sections.{Said}
use Rattle.walrus_base.proofs.Standing.{some_inj}
use Rattle.wasm_forms.proofs.Bind.{bind_some as through}

abbrev pub counts : List (ℕ × RawVal) → List ℕ
counts ds = map (λ (d : ℕ × RawVal). d.0) ds

-- one type for each local that is counted
declared_sum : (names : Lookup) (ds : List (ℕ × RawVal)) (types : List (ValType ℕ)) → declared_types names ds ≡ Some types → length types ≡ sum (counts ds)
declared_sum names [] types e = ap length (sym (some_inj [] types e))
declared_sum names (d ∷ ds) types e =
    let q : (w : ValType ℕ) × (named_val names (val_of d.1) ≡ Some w) × ((declared_types names ds >>= λ others. Some (replicate d.0 w ++ others)) ≡ Some types) =
    through (named_val names (val_of d.1)) (λ w. declared_types names ds >>= λ others. Some (replicate d.0 w ++ others)) types e in
    let s : (others : List (ValType ℕ)) × (declared_types names ds ≡ Some others) × (Some (replicate d.0 q.0 ++ others) ≡ Some types) =
    through (declared_types names ds) (λ others. Some (replicate d.0 q.0 ++ others)) types q.2 in
    let long : length types ≡ length (replicate d.0 q.0) + length s.0 = ap length (sym (some_inj (replicate d.0 q.0 ++ s.0) types s.2)) ∙ length-append (replicate d.0 q.0) s.0 in
    let times : length (replicate d.0 q.0) ≡ d.0 = length-replicate d.0 q.0 in
    let later : length s.0 ≡ sum (counts ds) = declared_sum names ds s.0 s.1 in
    let more : sum (counts (d ∷ ds)) ≡ 0 + d.0 + sum (counts ds) = sum_by_from (λ (n : ℕ). n) (0 + d.0) (counts ds) in
    omega (arith, long, times, later, more)

-- a body for which the rule holds declares so few types
pub counted_few : (c : Context) (locals : ℕ → Option ℕ) (b : wire.Body) (types : List (ValType ℕ)) (ops : List Op) → BodyReads c locals b.bytes types ops → LocalsHold b → length types ≤ 50_000
unfolding declarations
counted_few c locals b types ops r holds =
    let few : sum (counts r.declared) ≤ 50_000 = holds r.front r.back r.declared r.parts r.declares in
    subst (λ (n : ℕ). n ≤ 50_000) (sym (declared_sum c.names r.declared types r.typed)) few

-- and the other way round
pub few_counted : (c : Context) (locals : ℕ → Option ℕ) (b : wire.Body) (types : List (ValType ℕ)) (ops : List Op) → BodyReads c locals b.bytes types ops → length types ≤ 50_000 → LocalsHold b
unfolding declarations
few_counted c locals b types ops r few front back ds parts is =
    let one = one_reading declarations r.front r.back front back r.declared ds (sym r.parts ∙ parts) r.declares is in
    subst (λ (xs : List (ℕ × RawVal)). sum (counts xs) ≤ 50_000) one.0 (subst (λ (n : ℕ). n ≤ 50_000) (declared_sum c.names r.declared types r.typed) few)

-- what a body says declares at most 50,000 locals
abbrev pub DeclaresFew : Said → Type 0
DeclaresFew said = length said.0 ≤ 50_000

each_counted : (c : Features) (m : wire.Module) (fs : List ℕ) (bs : List wire.Body) (bodies : List Said) → length bs ≡ length fs → AllZip (ReadsBodyWith c m) (zip fs bs) bodies → AllByRecursion DeclaresFew bodies → All LocalsHold bs
each_counted c m [] [] bodies same read few = All-nil LocalsHold
each_counted c m [] (b ∷ bs) bodies same read few = absurd (omega arith)
each_counted c m (f ∷ fs) [] bodies same read few = All-nil LocalsHold
each_counted c m (f ∷ fs) (b ∷ bs) [] same read few = absurd read
each_counted c m (f ∷ fs) (b ∷ bs) (said ∷ bodies) same read few =
    All-cons LocalsHold b bs (few_counted _ _ b said.0 said.1 read.0 few.0) (each_counted c m fs bs bodies (omega arith) read.1 few.1)

-- bodies that say so keep the rule
pub all_counted : (c : Features) (m : wire.Module) (bodies : List Said) → length m.bodies ≡ length m.functions → AllZip (ReadsBodyWith c m) (zip m.functions m.bodies) bodies → All DeclaresFew bodies → All LocalsHold m.bodies
all_counted c m bodies same read few = each_counted c m m.functions m.bodies bodies same read (recursion_from_All DeclaresFew bodies few)
