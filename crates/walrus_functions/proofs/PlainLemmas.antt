-- Bodies that are kept as they stand in the input: what is found of them, and the functions that are made of them.
use Rattle.std.proofs.Common.{◌≡◌, ℕ, ◌+◌, ◌-◌, ◌<◌, ◌^◌, Bool, true, false, List, [], ◌∷◌, ◌++◌, length, min, replicate, Option, Some, None, Result, Ok, Err, IsErrAnd, IfOk, refl, ap, ◌∙◌, sym, subst, arith, length-append}
use Rattle.std.specs.Prelude.{not, nat_eq, ◌&&◌, ◌||◌}
use Rattle.std.specs.List.{range_with_len, list_all}
use Rattle.std.proofs.lemmas.List.{length-replicate}
use Rattle.std.proofs.lemmas.List.FromFn.{length-range_with_len, get_or-range_with_len}
use Rattle.std.proofs.lemmas.Option.{slice_get-get_or}
use Rattle.wasm_opcodes.specs.declared.one_byte.TheConstants.{TRY, CATCH, RETHROW, DELEGATE, CATCH_ALL, REF_FUNC}
use Rattle.wasm_forms.specs.declared.types.RawVal.{RawVal}
use Rattle.wasm_forms.specs.Grammar.{Is}
use Rattle.wasm_forms.proofs.Bind.{bind_some, some_same}
use Rattle.wasm_forms.proofs.Exact.{one_reading}
use Rattle.walrus_bodies.specs.Classes.{is_plain}
use Rattle.walrus_bodies.specs.Limits.{Limits}
use Rattle.walrus_base.specs.Types.{ValType}
use Rattle.walrus_base.specs.declared.id.Id.{Id}
use Rattle.walrus_base.specs.declared.keys.LocalKey.{LocalKey}
use Rattle.walrus_base.specs.Operators.{Space, Types, Functions, Tables, Memories, Tags, Globals, Elements, DataSegments, Op}
use Rattle.walrus_base.specs.TypeDef.{TypeDef}
use Rattle.walrus_base.specs.declared.locals.Local.{Local}
use Rattle.walrus_code.specs.FromRaw.{val_of}
use Rattle.walrus_code.specs.Names.{Lookup, named_val}
use Rattle.walrus_code.specs.declared.error.IrError.{IrError}
use Rattle.walrus_code.specs.declared.error.IrError.TheVariants.{Malformed, Memory, NoIndex, NotWritable, TooLarge}
use Rattle.walrus_bodies.specs.declared.function.LocalFunction.{LocalFunction}
use Rattle.walrus_bodies.specs.Blocks.{are_nested, blocks_hold}
use Rattle.walrus_bodies.specs.Body.{Context, BodyReads, declarations, declared_types}
use Rattle.walrus_bodies.specs.BodyRead.{BodyLocated, Declares}
use Rattle.walrus_bodies.specs.Declarations.{declarations_of}
use Rattle.walrus_bodies.specs.Plain.{are_plain, is_plain_arg, is_plain_op}
use Rattle.walrus_bodies.specs.Scanned.{AreInPlace, IsPlace, IsScanned, LieFrom, count_in}
use Rattle.walrus_bodies.specs.Text.{locations_in, ops_in}
use Rattle.walrus_functions.specs.Handlers.{OpenBlock, Try, OtherBlock, blocks_after, handler_at, handlers_from, handlers_of}
use Rattle.walrus_functions.specs.Plain.{IsPlainRead, total}
use Rattle.walrus_functions.specs.ReadFunction.{ReadsFunction, Slots, locals_from}
use Rattle.walrus_functions.specs.declared.plain.PlainBody.{PlainBody}
use Rattle.std.proofs.lemmas.Bool.{false≢true as untrue}
use Rattle.walrus_bodies.proofs.BodyLemmas.{same_places}
use Rattle.walrus_bodies.proofs.LocatedLemmas.{and_left as first_true, and_right as second_true}

-- ---- what is found

abbrev pub Found : (bytes : List ℕ) → List (ℕ × RawVal) → List ℕ → Type 0
Found bytes ds rest = (front : List ℕ) × ((bytes ≡ front ++ rest) × Is declarations front ds)

pub plain_read : (limits within : Limits) (holds : ℕ → Bool) (first params start begin first_local : ℕ) (bytes rest : List ℕ) (plain : PlainBody)
    → plain.params ≡ params
    → Found bytes (declarations_of plain.declarations.items) rest
    → within ≡ record limits { locals = plain.params + total (declarations_of plain.declarations.items) }
    → first_local ≡ first
    → begin ≡ min (start + (length bytes - length rest)) (2 ^ 64 - 1)
    → IsScanned within first_local begin rest plain.text
    → blocks_hold holds (ops_in plain.text) ≡ true
    → IsPlainRead limits holds first params start bytes plain
plain_read limits within holds first params start begin first_local bytes rest plain count found limited from is scanned blocks =
    let front = found.0 in
    let ds = declarations_of plain.declarations.items in
    let long : length bytes ≡ length front + length rest = ap length found.1.0 ∙ length-append front rest in
    let offset : length bytes - length rest ≡ length front = omega arith in
    let place : begin ≡ min (start + length front) (2 ^ 64 - 1) = is ∙ ap (λ (n : ℕ). min (start + n) (2 ^ 64 - 1)) offset in
    let bound : within ≡ record limits { locals = params + total ds } = limited ∙ ap (λ (n : ℕ). record limits { locals = n + total ds }) count in
    record {
      count = count;
      front = front;
      rest = rest;
      parts = found.1.0;
      declares = found.1.1;
      scanned = subst (λ (l : Limits). IsScanned l first (min (start + length front) (2 ^ 64 - 1)) rest plain.text) bound
          (subst (λ (n : ℕ). IsScanned within first n rest plain.text) place (subst (λ (n : ℕ). IsScanned within n begin rest plain.text) from scanned));
      blocks = blocks;
    }

-- the same of equal counts
pub read_of : (limits : Limits) (holds : ℕ → Bool) (first second few many start : ℕ) (bytes : List ℕ) (plain : PlainBody) → first ≡ second → few ≡ many → IsPlainRead limits holds first few start bytes plain → IsPlainRead limits holds second many start bytes plain
read_of limits holds first second few many start bytes plain from count known =
    subst (λ (n : ℕ). IsPlainRead limits holds second n start bytes plain) count (subst (λ (n : ℕ). IsPlainRead limits holds n few start bytes plain) from known)

-- ---- its locals

pub lie_from : (first count : ℕ) → LieFrom first count (locals_from first count)
lie_from first count index below =
    let long : index < length (range_with_len first count) = rw length-range_with_len below in
    slice_get-get_or (range_with_len first count) index 0 long ∙ ap Some (get_or-range_with_len first count index 0 below)

pub types_counted : (names : Lookup) (ds : List (ℕ × RawVal)) (types : List (ValType ℕ)) → declared_types names ds ≡ Some types → length types ≡ total ds
types_counted names [] types typed = ap length (sym (some_same _ _ typed))
types_counted names (d ∷ ds) types typed =
    let one = bind_some (named_val names (val_of d.1)) _ types typed in
    let others = bind_some (declared_types names ds) (λ (vs : List (ValType ℕ)). Some (replicate d.0 one.0 ++ vs)) types one.2 in
    let same : replicate d.0 one.0 ++ others.0 ≡ types = some_same _ _ others.2 in
    let rest = types_counted names ds others.0 others.1 in
    let long = length-append (replicate d.0 one.0) others.0 in
    let first = length-replicate d.0 one.0 in
    let whole = ap length same in
    omega arith

-- ---- its operators

same_counts : (limits : Limits) (n : ℕ) (space : Space) → count_in (record limits { locals = n }) space ≡ count_in limits space
same_counts limits n Types = refl
same_counts limits n Functions = refl
same_counts limits n Tables = refl
same_counts limits n Memories = refl
same_counts limits n Tags = refl
same_counts limits n Globals = refl
same_counts limits n Elements = refl
same_counts limits n DataSegments = refl

pub plain_reads : (c : Context) (limits : Limits) (first params start : ℕ) (bytes : List ℕ) (plain : PlainBody) (types : List (ValType ℕ)) → AreInPlace limits c.names → IsPlainRead limits c.is_function_type first params start bytes plain → declared_types c.names (declarations_of plain.declarations.items) ≡ Some types → BodyReads c (locals_from first (params + length types)) bytes types (ops_in plain.text)
plain_reads c limits first params start bytes plain types placed known typed =
    let ds = declarations_of plain.declarations.items in
    let within : Limits = record limits { locals = params + total ds } in
    let in_place : AreInPlace within c.names = λ space index below. placed space index (subst (λ (n : ℕ). index < n) (same_counts limits (params + total ds) space) below) in
    let count : length types ≡ total ds = types_counted c.names ds types typed in
    record {
      front = known.front;
      back = known.rest;
      parts = known.parts;
      declared = ds;
      declares = known.declares;
      typed = typed;
      operators = known.scanned.reads c (locals_from first (params + length types)) in_place
          (subst (λ (n : ℕ). LieFrom first (params + n) (locals_from first (params + length types))) count (lie_from first (params + length types))) known.blocks;
    }

pub plain_located : (limits : Limits) (holds : ℕ → Bool) (first params start : ℕ) (bytes : List ℕ) (plain : PlainBody) → IsPlainRead limits holds first params start bytes plain → BodyLocated IsPlace start bytes (locations_in plain.text)
plain_located limits holds first params start bytes plain known =
    let begin = start + length known.front in
    let most : min (min begin (2 ^ 64 - 1)) (2 ^ 64 - 1) ≡ min begin (2 ^ 64 - 1) = omega arith in
    (known.front, (known.rest, (declarations_of plain.declarations.items, (known.parts, known.declares, same_places IsPlace (min begin (2 ^ 64 - 1)) begin known.rest (locations_in plain.text) most known.scanned.located))))

-- ---- it has no handlers

no_catch : (op : ℕ) → is_plain op ≡ true → (nat_eq op CATCH ≡ false) × (nat_eq op CATCH_ALL ≡ false)
no_catch op plain = by_tests (nat_eq op TRY) (nat_eq op CATCH) (nat_eq op RETHROW) (nat_eq op DELEGATE) (nat_eq op CATCH_ALL) (nat_eq op REF_FUNC) _ plain
  where
    by_tests : (is_try is_catch is_rethrow is_delegate is_catch_all is_ref others : Bool) → (not (is_try || is_catch || is_rethrow || is_delegate || is_catch_all || is_ref) && others) ≡ true → (is_catch ≡ false) × (is_catch_all ≡ false)
    by_tests true is_catch is_rethrow is_delegate is_catch_all is_ref others plain = absurd (untrue plain)
    by_tests false true is_rethrow is_delegate is_catch_all is_ref others plain = absurd (untrue plain)
    by_tests false false true is_delegate is_catch_all is_ref others plain = absurd (untrue plain)
    by_tests false false false true is_catch_all is_ref others plain = absurd (untrue plain)
    by_tests false false false false true is_ref others plain = absurd (untrue plain)
    by_tests false false false false false is_ref others plain = (refl, refl)

module _ (types : ℕ → Option TypeDef) (tags : ℕ → Option ℕ) where
  none_at : (blocks : List OpenBlock) (o : Op) → is_plain o.op ≡ true → handler_at types tags blocks o ≡ []
  none_at [] o plain = refl
  none_at (OtherBlock ∷ around) o plain = refl
  none_at (Try r ∷ around) o plain =
      let none = no_catch o.op plain in
      rw (none.0, none.1) refl

  none_from : (first count : ℕ) (blocks : List OpenBlock) (ops : List Op) → list_all (is_plain_op first count) ops ≡ true → handlers_from types tags blocks ops ≡ []
  none_from first count blocks [] plain = refl
  none_from first count blocks (o ∷ ops) plain =
      let here : is_plain_op first count o ≡ true = first_true (is_plain_op first count o) (list_all (is_plain_op first count) ops) plain in
      let op_plain : is_plain o.op ≡ true = first_true (is_plain o.op) (list_all (is_plain_arg first count) o.args) here in
      let none = none_at blocks o op_plain in
      let later = none_from first count (blocks_after types tags blocks o) ops (second_true (is_plain_op first count o) (list_all (is_plain_op first count) ops) plain) in
      rw (none, later) refl

  pub no_handlers : (first count : ℕ) (ops : List Op) → are_plain first count ops ≡ true → handlers_of types tags ops ≡ []
  no_handlers first count ops plain = none_from first count (OtherBlock ∷ []) ops (first_true (list_all (is_plain_op first count) ops) (are_nested ops) plain)

-- ---- a type isn't declared: no bytes read

pub none_read : (c : Context) (tags : ℕ → Option ℕ) (ty : ℕ) (old_types new_types : Slots) (old middle new : List (Option Local)) (limits : Limits) (first params start : ℕ) (bytes : List ℕ) (plain : PlainBody) {X : Type 0} (ids : X → List (Id LocalKey)) (P : LocalFunction → Type 0) (result : Result LocalFunction IrError) (e : IrError)
    → IsPlainRead limits c.is_function_type first params start bytes plain
    → IsErrAnd result (λ x. x ≡ e)
    → Declares c.names (declarations_of plain.declarations.items) middle new ids (Err e)
    → ReadsFunction c tags ty old_types new_types old new bytes result × IfOk result P
none_read c tags ty old_types new_types old middle new limits first params start bytes plain ids P (Ok f) e known is declares = absurd is
none_read c tags ty old_types new_types old middle new limits first params start bytes plain ids P (Err Malformed) e known is declares =
    let none = rw (← is) at declares in
    (λ types ops body. absurd (not_typed types ops body none), tt)
  where
    not_typed : (types : List (ValType ℕ)) (ops : List Op) {locals : ℕ → Option ℕ} → BodyReads c locals bytes types ops → declared_types c.names (declarations_of plain.declarations.items) ≡ None → ⊥
    not_typed types ops body none =
        let ds = declarations_of plain.declarations.items in
        let one = one_reading declarations body.front body.back known.front known.rest body.declared ds (sym body.parts ∙ known.parts) body.declares known.declares in
        let wrong : Some types ≡ None = sym body.typed ∙ ap (declared_types c.names) one.0 ∙ none in
        cc
none_read c tags ty old_types new_types old middle new limits first params start bytes plain ids P (Err (Memory m)) e known is declares = (tt, tt)
none_read c tags ty old_types new_types old middle new limits first params start bytes plain ids P (Err NoIndex) e known is declares = absurd (rw (← is) at declares)
none_read c tags ty old_types new_types old middle new limits first params start bytes plain ids P (Err NotWritable) e known is declares = absurd (rw (← is) at declares)
none_read c tags ty old_types new_types old middle new limits first params start bytes plain ids P (Err TooLarge) e known is declares = absurd (rw (← is) at declares)
