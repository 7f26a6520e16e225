-- The body of a function as it is written.
use Rattle.std.proofs.Common.{◌≡◌, ℕ, ◌<◌, ◌^◌, inl, inr, Bool, true, false, List, [], ◌∷◌, ◌++◌, length, map, Option, Some, None, Result, Ok, Err, IsErrAnd, IfOk, refl, sym, ap, ◌∙◌, subst, arith}
use Rattle.std.specs.Prelude.{All, Contains, IsSome, nat_eq}
use Rattle.std.specs.List.{IsDistinct, AllByRecursion}
use Rattle.std.proofs.lemmas.Bool.Decides.{Decides-eqb}
use Rattle.std.proofs.lemmas.Bool.{ne_eqb}
use Rattle.std.proofs.lemmas.List.{length-map}
use Rattle.std.proofs.lemmas.List.Elements.{All-cons, Contains-append_right}
use Rattle.std.proofs.lemmas.Map.Made.{AllPairs-from_IsDistinct, IsDistinct-from_AllPairs}
use mathlib.Core.Path.{fun_ext}
use Rattle.wasm_forms.specs.Spelling.{row_bytes}
use Rattle.wasm_forms.specs.declared.types.RawVal.{RawVal}
use Rattle.wasm_operators.specs.Spelling.{op_bytes}
use Rattle.walrus_base.specs.Arena.{item_at}
use Rattle.walrus_base.specs.Types.{ValType}
use Rattle.walrus_base.specs.Operators.{locals_of}
use Rattle.walrus_code.specs.FromRaw.{ops_of}
use Rattle.walrus_code.specs.Names.{LocalsLeadBack, named_ops}
use Rattle.walrus_code.specs.declared.error.IrError.{IrError}
use Rattle.walrus_code.specs.declared.error.IrError.TheVariants.{Malformed, Memory, NoIndex, NotWritable, TooLarge}
use Rattle.walrus_bodies.specs.declared.features.Features.{Features}
use Rattle.walrus_bodies.specs.Blocks.{blocks_hold}
use Rattle.walrus_bodies.specs.Features.{are_allowed}
use Rattle.walrus_bodies.specs.Emitting.{OperatorsWritten, IsNotWritable}
use Rattle.walrus_bodies.proofs.EmitLemmas.{row_stands}
use Rattle.walrus_functions.specs.Declaring.{spread}
use Rattle.walrus_functions.specs.EmittedBody.{FitsType, Source, Declares, index_in, is_used, BodyWritten, EmitsBody, declarations_bytes}
use Rattle.walrus_functions.specs.Writing.{HasSignature, FindsDeclared, LocalsDeclared, DeclaresLocals, WritesBehind}
use Rattle.walrus_functions.proofs.ApartLemmas.{grouped, locals_differ}
use Rattle.walrus_functions.proofs.CountLemmas.{how_many, how_many_are, as_many, declarations_stand, read_back}
use Rattle.walrus_functions.proofs.FitLemmas.{all_same}
use Rattle.walrus_bodies.proofs.NestLemmas.{nested_same, allowed_same}
use Rattle.walrus_functions.proofs.RunLemmas.{as_few}

-- ---- places that differ

none_equal : (x : ℕ) (ys : List ℕ) → (Contains ys x → ⊥) → AllByRecursion (λ y. nat_eq x y ≡ false) ys
none_equal x [] h = tt
none_equal x (y ∷ ys) h = (ne_eqb x y (λ same. h (0, omega arith, sym same)), none_equal x ys (λ c. h (Contains-append_right (y ∷ []) ys x c)))

both : (P : ℕ → Type 0) (xs ys : List ℕ) → AllByRecursion P xs → AllByRecursion P ys → AllByRecursion P (xs ++ ys)
both P [] ys h k = k
both P (x ∷ xs) ys h k = (h.0, both P xs ys h.1 k)

pub distinct-append : (xs ys : List ℕ) → IsDistinct nat_eq xs → IsDistinct nat_eq ys → ((x : ℕ) → Contains xs x → Contains ys x → ⊥) → IsDistinct nat_eq (xs ++ ys)
unfolding IsDistinct
distinct-append [] ys h k apart = k
distinct-append (x ∷ xs) ys h k apart =
    (both (λ y. nat_eq x y ≡ false) xs ys h.0 (none_equal x ys (apart x (0, omega arith, refl))), distinct-append xs ys h.1 k (λ z c d. apart z (Contains-append_right (x ∷ []) xs z c) d))

module _ (s : Source) where
  pub fits_type : HasSignature s.def s.slots s.parameters → IsDistinct nat_eq s.parameters → FitsType s.def s.slots s.parameters
  fits_type h distinct = record { types = h.0; taken = h.1.0; typed = h.1.1; distinct = AllPairs-from_IsDistinct Decides-eqb s.parameters distinct }

  module _ (order : List ℕ) (declared : Declares s order) where
    -- all locals have different places
    pub all_differ : IsDistinct nat_eq s.parameters → IsDistinct nat_eq (s.parameters ++ order)
    all_differ distinct = distinct-append s.parameters order distinct (IsDistinct-from_AllPairs Decides-eqb order (locals_differ s.slots (locals_of s.ops) s.parameters order declared.sorted))
        (λ x among there. let d = (declared.which x).0 there in d.no_parameter among)

    some_there : (x : ℕ) → Contains order x → IsSome (item_at s.slots x)
    some_there x among = let d = (declared.which x).0 among in subst (λ (o : Option (ValType ℕ)). IsSome o) (sym d.typed) refl

    each_there : {A : Type 0} (f : A → ℕ) (ids : List A) → ((x : ℕ) → Contains (map f ids) x → IsSome (item_at s.slots x)) → All (λ id. IsSome (item_at s.slots (f id))) ids
    each_there f [] h = λ k d low. absurd (omega arith)
    each_there {A} f (id ∷ ids) h = All-cons (λ (id : A). IsSome (item_at s.slots (f id))) id ids (h (f id) (0, omega arith, refl)) (each_there f ids (λ x c. h x (Contains-append_right (f id ∷ []) (map f ids) x c)))

    -- the declared locals are there
    pub all_there : {A : Type 0} (f : A → ℕ) (ids : List A) → map f ids ≡ order → All (λ id. IsSome (item_at s.slots (f id))) ids
    all_there f ids are = each_there f ids (λ x c. some_there x (subst (λ (xs : List ℕ). Contains xs x) are c))

    module _ (ds : List (ℕ × RawVal)) (written : LocalsDeclared s.names s.slots order ds) where
      as_long : length written.types ≡ length order
      as_long = sym (length-map written.types (λ t. Some t)) ∙ ap length (sym written.typed) ∙ length-map order (item_at s.slots)

      many : length (spread written.groups) ≡ length order
      many = ap length written.runs.all ∙ as_long

      pub few_declarations : length order < 2 ^ 32 → length ds < 2 ^ 32
      few_declarations few =
          let groups = as_few written.groups written.runs.filled in
          let count = as_many s.names written.groups ds written.indexed in
          omega (arith, groups, count, many, few)

      module _ (fits : FitsType s.def s.slots s.parameters) (blocks : blocks_hold s.is_function_type s.ops ≡ true) (few : length order < 2 ^ 32) (locals : ℕ → Option ℕ) (numbered : (x : ℕ) → locals x ≡ index_in s order x) (all : List ℕ) (listed : all ≡ s.parameters ++ order) (marks : List Bool) (uses : marks ≡ map (is_used s) all) where
        same_locals : locals ≡ index_in s order
        same_locals = fun_ext numbered

        -- what is known of the locals is these
        abbrev pub Knows : (ℕ → Option ℕ) → List ℕ → List Bool → Type 0
        Knows numbers ids used = (numbers ≡ locals) × (ids ≡ all) × (used ≡ marks)

        body_written : (bytes places : List ℕ) (numbers : ℕ → Option ℕ) (ids : List ℕ) (used : List Bool) → Knows numbers ids used → OperatorsWritten s.names locals s.features s.ops (declarations_bytes ds) bytes places → BodyWritten s bytes places numbers ids used
        body_written bytes places numbers ids used same w =
            let count = how_many_are s.names written.groups ds written.indexed in
            let few_counted : how_many ds < 2 ^ 32 = omega (arith, count, many, few) in
            let stands = declarations_stand ds (few_declarations few) few_counted written.indexed.stand in
            let named : named_ops s.names (index_in s order) s.ops ≡ Some (ops_of w.texts) = subst (λ (l : ℕ → Option ℕ). named_ops s.names l s.ops ≡ Some (ops_of w.texts)) same_locals w.named in
            record {
              fits = fits;
              blocks = blocks;
              order = order;
              declared = declared;
              numbered = λ x. ap (λ (l : ℕ → Option ℕ). l x) same.0 ∙ numbered x;
              listed = same.1 ∙ listed;
              uses = same.2 ∙ uses ∙ ap (map (is_used s)) (sym same.1);
              groups = written.groups;
              grouped = grouped s.slots (locals_of s.ops) s.parameters order written.types written.groups declared.sorted written.typed written.runs;
              declarations = ds;
              typed = written.indexed.are;
              declares = stands;
              texts = w.texts;
              named = named;
              stand = w.stand;
              spelled = w.spelled;
              placed = w.placed;
              reads = λ c ls found types features typed found_named holds. record {
                front = declarations_bytes ds;
                back = row_bytes op_bytes w.texts;
                parts = w.spelled;
                declared = ds;
                declares = stands;
                typed = typed;
                operators = record {
                  texts = w.texts;
                  spelled = row_stands w.texts w.stand;
                  named = found_named;
                  nested = sym (nested_same s.names (index_in s order) s.ops (ops_of w.texts) named ∙ nested_same c.names ls (ops_of w.texts) found found_named) ∙ w.nested;
                  allowed = ap (λ (f : Features). are_allowed f found) features ∙ sym (allowed_same s.names (index_in s order) s.features s.ops (ops_of w.texts) named ∙ allowed_same c.names ls s.features (ops_of w.texts) found found_named) ∙ w.allowed;
                  blocks = holds;
                };
              };
              back = λ c ls types features leads locals_lead holds typed. record {
                front = declarations_bytes ds;
                back = row_bytes op_bytes w.texts;
                parts = w.spelled;
                declared = ds;
                declares = stands;
                typed = read_back s.names c.names written.groups ds leads written.indexed ∙ ap (λ (ts : List (ValType ℕ)). Some ts) (written.runs.all ∙ all_same written.types types (sym written.typed ∙ sym typed));
                operators = w.back c ls leads (subst (λ (l : ℕ → Option ℕ). LocalsLeadBack l ls) (sym same_locals) locals_lead) features holds;
              };
            }

        -- the whole
        pub emitted : {X : Type 0} (bytes places : X → List ℕ) (numbers : X → ℕ → Option ℕ) (ids : X → List ℕ) (used : X → List Bool) (result : Result X IrError) → IfOk result (λ x. Knows (numbers x) (ids x) (used x)) → WritesBehind s.names locals s.features s.ops ds bytes places result → EmitsBody s bytes places numbers ids used result
        emitted bytes places numbers ids used (Ok x) same w = body_written (bytes x) (places x) (numbers x) (ids x) (used x) same w
        emitted bytes places numbers ids used (Err NoIndex) same w = inl (order, (declared, subst (λ (l : ℕ → Option ℕ). named_ops s.names l s.ops ≡ None) same_locals w))
        emitted bytes places numbers ids used (Err NotWritable) same w = inl (order, (declared, subst (λ (l : ℕ → Option ℕ). IsNotWritable s.names l s.features s.ops) same_locals w))
        emitted bytes places numbers ids used (Err (Memory e)) same w = tt
        emitted bytes places numbers ids used (Err Malformed) same w = w
        emitted bytes places numbers ids used (Err TooLarge) same w = absurd w

    not_declared : {X Y : Type 0} (bytes places : X → List ℕ) (numbers : X → ℕ → Option ℕ) (ids : X → List ℕ) (used : X → List Bool) (view : Y → List (ℕ × RawVal)) (e : IrError) → DeclaresLocals s.names s.slots order view (Err e) → EmitsBody s bytes places numbers ids used (Err e)
    not_declared bytes places numbers ids used view NoIndex h = inr (h.0, (h.1.0, ((declared.which h.0).0 h.1.1.0, h.1.1.1, h.1.1.2)))
    not_declared bytes places numbers ids used view NotWritable h = inr (inr (inr (h.0, (h.1.0, ((declared.which h.0).0 h.1.1.0, h.1.1.1, h.1.1.2)))))
    not_declared bytes places numbers ids used view (Memory m) h = tt
    not_declared bytes places numbers ids used view Malformed h = h
    not_declared bytes places numbers ids used view TooLarge h = absurd h

    -- a local can't be declared
    pub refused_declared : {X Y : Type 0} (bytes places : X → List ℕ) (numbers : X → ℕ → Option ℕ) (ids : X → List ℕ) (used : X → List Bool) (view : Y → List (ℕ × RawVal)) (result : Result X IrError) (e : IrError) → IsErrAnd result (λ x. x ≡ e) → DeclaresLocals s.names s.slots order view (Err e) → EmitsBody s bytes places numbers ids used result
    refused_declared bytes places numbers ids used view (Ok x) e failed h = absurd failed
    refused_declared bytes places numbers ids used view (Err x) e failed h = subst (λ (d : IrError). EmitsBody s bytes places numbers ids used (Err d)) (sym failed) (not_declared bytes places numbers ids used view e h)

  not_found : {X Y : Type 0} (bytes places : X → List ℕ) (numbers : X → ℕ → Option ℕ) (ids : X → List ℕ) (used : X → List Bool) (view : Y → List ℕ) (e : IrError) → FindsDeclared s.slots (locals_of s.ops) s.parameters view (Err e) → EmitsBody s bytes places numbers ids used (Err e)
  not_found bytes places numbers ids used view NoIndex h = absurd h
  not_found bytes places numbers ids used view NotWritable h = inr (inr (inl (λ fits. h (IsDistinct-from_AllPairs Decides-eqb s.parameters fits.distinct))))
  not_found bytes places numbers ids used view (Memory m) h = tt
  not_found bytes places numbers ids used view Malformed h = h
  not_found bytes places numbers ids used view TooLarge h = absurd h

  -- a parameter stands there twice
  pub refused_found : {X Y : Type 0} (bytes places : X → List ℕ) (numbers : X → ℕ → Option ℕ) (ids : X → List ℕ) (used : X → List Bool) (view : Y → List ℕ) (result : Result X IrError) (e : IrError) → IsErrAnd result (λ x. x ≡ e) → FindsDeclared s.slots (locals_of s.ops) s.parameters view (Err e) → EmitsBody s bytes places numbers ids used result
  refused_found bytes places numbers ids used view (Ok x) e failed h = absurd failed
  refused_found bytes places numbers ids used view (Err x) e failed h = subst (λ (d : IrError). EmitsBody s bytes places numbers ids used (Err d)) (sym failed) (not_found bytes places numbers ids used view e h)

  -- all places are told
  pub all_told : {X : Type 0} (bytes places : X → List ℕ) (numbers : X → ℕ → Option ℕ) (ids : X → List ℕ) (used : X → List Bool) (all : List ℕ) (result : Result X IrError) → EmitsBody s bytes (λ _. all) numbers ids used result → IfOk result (λ x. places x ≡ all) → EmitsBody s bytes places numbers ids used result
  all_told bytes places numbers ids used all (Ok x) w same = subst (λ (ns : List ℕ). BodyWritten s (bytes x) ns (numbers x) (ids x) (used x)) (sym same) w
  all_told bytes places numbers ids used all (Err NoIndex) w same = w
  all_told bytes places numbers ids used all (Err NotWritable) w same = w
  all_told bytes places numbers ids used all (Err TooLarge) w same = w
  all_told bytes places numbers ids used all (Err (Memory e)) w same = tt
  all_told bytes places numbers ids used all (Err Malformed) w same = w
