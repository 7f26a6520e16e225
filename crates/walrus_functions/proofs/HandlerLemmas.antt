-- The types of legacy exception handlers.
use Rattle.std.proofs.Common.{◌≡◌, ℕ, Bool, true, false, List, [], ◌∷◌, ◌++◌, length, map, take, Option, Some, None, option_and_then, refl, ap, ◌∙◌, sym, append_assoc, subst, suc, ◌+◌, ◌<◌, drop, get_or, add-one}
use Rattle.std.specs.List.{list_any}
use Rattle.std.specs.Prelude.{◌==◌, ◌||◌, if◌then◌else◌}
use Rattle.std.proofs.lemmas.List.{append-nil, take_at}
use Rattle.std.proofs.Math.Seq.{drop-cons}
use Rattle.wasm_opcodes.specs.declared.one_byte.TheConstants.{CATCH, CATCH_ALL}
use Rattle.walrus_base.specs.Arena.{item_at}
use Rattle.walrus_base.specs.Types.{ValType}
use Rattle.walrus_base.specs.Alone.{FoundOrAdded}
use Rattle.walrus_base.specs.Composite.{FunctionType}
use Rattle.walrus_base.specs.Operators.{BlockType, Arg, Index, Label, Local, Number, Count, Byte, S32, S64, Bits32, Bits64, Value, Heap, Block, Access, Op}
use Rattle.walrus_base.specs.TypeDef.{TypeDef}
use Rattle.walrus_code.specs.Code.{op_of, ops_of}
use Rattle.walrus_code.specs.declared.operator.Operator.{Operator}
use Rattle.walrus_functions.specs.Handlers.{OpenBlock, Try, OtherBlock, begins_handler, catch_type, catch_all_type, opens_other, closes, block_results, opened_results, blocks_after, caught_params, handler_at, handlers_from, handlers_of, tag_params, without_innermost}
use Rattle.walrus_functions.specs.ReadFunction.{Slots, AddsTypes, Nothing, AndOne, StaysInFront}
use Rattle.walrus_functions.specs.Signatures.{first_place, first_opened, handler_in, opened_after, opened_type, types_below, with_results, without_first}
use Rattle.wasm_operators.proofs.OneStands.{true_not_false as untrue}

pub caught_is : (types : ℕ → Option TypeDef) (tags : ℕ → Option ℕ) (args : List Arg) → caught_params types tags args ≡ tag_params types tags (option_and_then tags (first_place args))
caught_is types tags [] = refl
caught_is types tags (Index x ∷ args) = refl
caught_is types tags (Label n ∷ args) = refl
caught_is types tags (Local n ∷ args) = refl
caught_is types tags (Number n ∷ args) = refl
caught_is types tags (Count n ∷ args) = refl
caught_is types tags (Byte n ∷ args) = refl
caught_is types tags (S32 z ∷ args) = refl
caught_is types tags (S64 z ∷ args) = refl
caught_is types tags (Bits32 n ∷ args) = refl
caught_is types tags (Bits64 n ∷ args) = refl
caught_is types tags (Value v ∷ args) = refl
caught_is types tags (Heap h ∷ args) = refl
caught_is types tags (Block b ∷ args) = refl
caught_is types tags (Access flags memory offset ∷ args) = refl

-- ---- types that are found or added

pub adds_both : (fs gs : List FunctionType) (old middle new : Slots) (ps qs : List ℕ) → AddsTypes fs old middle ps → AddsTypes gs middle new qs → AddsTypes (fs ++ gs) old new (ps ++ qs)
adds_both fs gs old middle new ps qs (Nothing s) more = more
adds_both fs gs old middle new ps qs (AndOne f others first next last p others_at one rest) more = AndOne f (others ++ gs) first next new p (others_at ++ qs) one (adds_both others gs next last new others_at qs rest more)

pub adds_one : (f : FunctionType) (old new : Slots) (p : ℕ) → FoundOrAdded f old.types new.types old.names new.names p → AddsTypes (f ∷ []) old new (p ∷ [])
adds_one f old new p one = AndOne f [] old new new p [] one (Nothing new)

pub adds_none : (fs : List FunctionType) (s : Slots) → fs ≡ [] → AddsTypes fs s s []
adds_none fs s none = subst (λ (gs : List FunctionType). AddsTypes gs s s []) (sym none) (Nothing s)

pub stays_same : {T : Type 0} (old new : List T) → new ≡ old → StaysInFront old new
stays_same old new same = ([], same ∙ sym (append-nil old))

pub stays_trans : {T : Type 0} (old middle new : List T) → StaysInFront old middle → StaysInFront middle new → StaysInFront old new
stays_trans {T = T} old middle new first next = (first.0 ++ next.0, next.1 ∙ ap (λ (xs : List T). xs ++ next.0) first.1 ∙ append_assoc old first.0 next.0)

-- the types at the first places
below_all : (old new : List (Option TypeDef)) → StaysInFront old new → types_below (length old) new ≡ item_at old
below_all old new stays = ap item_at (ap (take (length old)) stays.1 ∙ take_at old stays.0 (length old) refl)

-- and those below a bound that is how many there were
pub types_are : (bound : ℕ) (old new : List (Option TypeDef)) → bound ≡ length old → StaysInFront old new → types_below bound new ≡ item_at old
types_are bound old new is stays = ap (λ (n : ℕ). types_below n new) is ∙ below_all old new stays

-- ---- operators of which none begins a handler

none_at : (types : ℕ → Option TypeDef) (tags : ℕ → Option ℕ) (blocks : List OpenBlock) (o : Op) → begins_handler o.op ≡ false → handler_at types tags blocks o ≡ []
none_at types tags [] o none = refl
none_at types tags (OtherBlock ∷ around) o none = refl
none_at types tags (Try r ∷ around) o none = by_tests (o.op == CATCH) (o.op == CATCH_ALL) none
  where
    by_tests : (is_catch is_catch_all : Bool) → (is_catch || is_catch_all) ≡ false → (if is_catch then catch_type (caught_params types tags o.args) r else (if is_catch_all then catch_all_type r else [])) ≡ []
    by_tests true is_catch_all none = absurd (untrue none)
    by_tests false true none = absurd (untrue none)
    by_tests false false none = refl

none_from : (types : ℕ → Option TypeDef) (tags : ℕ → Option ℕ) (blocks : List OpenBlock) (all : List Operator) → list_any (λ o. begins_handler o.op) all ≡ false → handlers_from types tags blocks (ops_of all) ≡ []
none_from types tags blocks [] none = refl
none_from types tags blocks (o ∷ all) none = by_test (begins_handler o.op) refl none (none_from types tags (blocks_after types tags blocks (op_of o)) all)
  where
    left : List FunctionType
    left = handlers_from types tags (blocks_after types tags blocks (op_of o)) (ops_of all)

    by_test : (t : Bool) → begins_handler o.op ≡ t → (t || list_any (λ o. begins_handler o.op) all) ≡ false → (list_any (λ o. begins_handler o.op) all ≡ false → left ≡ []) → handlers_from types tags blocks (ops_of (o ∷ all)) ≡ []
    by_test true is none later = absurd (untrue none)
    by_test false is none later = ap (λ (fs : List FunctionType). fs ++ left) (none_at types tags blocks (op_of o) is) ∙ later none

-- they need no type
pub none_needed : (types : ℕ → Option TypeDef) (tags : ℕ → Option ℕ) (s : Slots) (all : List Operator) (places : List ℕ) → list_any (λ o. begins_handler o.op) all ≡ false → places ≡ [] → AddsTypes (handlers_of types tags (ops_of all)) s s places
none_needed types tags s all places none is = subst (λ (ps : List ℕ). AddsTypes (handlers_of types tags (ops_of all)) s s ps) (sym is) (adds_none _ s (none_from types tags (OtherBlock ∷ []) all none))

-- ---- open blocks

pub innermost_decides : (types : ℕ → Option TypeDef) (tags : ℕ → Option ℕ) (blocks : List (Option BlockType)) (o : Op) → handler_at types tags (map (with_results types tags) blocks) o ≡ handler_in types tags (first_opened blocks) o
innermost_decides types tags [] o = refl
innermost_decides types tags (Some b ∷ around) o = refl
innermost_decides types tags (None ∷ around) o = refl

pub same_after : (types : ℕ → Option TypeDef) (tags : ℕ → Option ℕ) (blocks : List (Option BlockType)) (o : Op) → map (with_results types tags) (opened_after blocks o) ≡ blocks_after types tags (map (with_results types tags) blocks) o
same_after types tags blocks o = by_tests (o.op == 0x06) (opens_other o.op) (closes o.op)
  where
    results_same : (args : List Arg) → block_results types tags (opened_type args) ≡ opened_results types tags args
    results_same [] = refl
    results_same (Block b ∷ args) = refl
    results_same (Index x ∷ args) = refl
    results_same (Label n ∷ args) = refl
    results_same (Local n ∷ args) = refl
    results_same (Number n ∷ args) = refl
    results_same (Count n ∷ args) = refl
    results_same (Byte n ∷ args) = refl
    results_same (S32 z ∷ args) = refl
    results_same (S64 z ∷ args) = refl
    results_same (Bits32 n ∷ args) = refl
    results_same (Bits64 n ∷ args) = refl
    results_same (Value v ∷ args) = refl
    results_same (Heap h ∷ args) = refl
    results_same (Access flags memory offset ∷ args) = refl

    without_same : (bs : List (Option BlockType)) → map (with_results types tags) (without_first bs) ≡ without_innermost (map (with_results types tags) bs)
    without_same [] = refl
    without_same (b ∷ bs) = refl

    by_tests : (is_try is_other is_end : Bool) → map (with_results types tags) (if is_try then Some (opened_type o.args) ∷ blocks else (if is_other then None ∷ blocks else (if is_end then without_first blocks else blocks))) ≡ (if is_try then Try (opened_results types tags o.args) ∷ map (with_results types tags) blocks else (if is_other then OtherBlock ∷ map (with_results types tags) blocks else (if is_end then without_innermost (map (with_results types tags) blocks) else map (with_results types tags) blocks)))
    by_tests true is_other is_end = ap (λ (r : List (ValType ℕ)). Try r ∷ map (with_results types tags) blocks) (results_same o.args)
    by_tests false true is_end = refl
    by_tests false false true = without_same blocks
    by_tests false false false = refl

-- ---- the walk over the operators

-- Some of the types are found or added, and those that are left to come are the others.
pub record SoFar (types : ℕ → Option TypeDef) (tags : ℕ → Option ℕ) (old now : Slots) (blocks : List (Option BlockType)) (left all : List Op) (places : List ℕ) : Type 0 where
  pub stays : StaysInFront old.types now.types
  pub done : List FunctionType
  pub added : AddsTypes done old now places
  pub whole : done ++ handlers_from types tags (map (with_results types tags) blocks) left ≡ handlers_of types tags all

pub so_far_none : (types : ℕ → Option TypeDef) (tags : ℕ → Option ℕ) (old : Slots) (blocks : List (Option BlockType)) (all : List Op) → blocks ≡ None ∷ [] → SoFar types tags old old blocks all all []
so_far_none types tags old blocks all is = record {
  stays = stays_same old.types old.types refl;
  done = [];
  added = Nothing old;
  whole = ap (λ (bs : List (Option BlockType)). handlers_from types tags (map (with_results types tags) bs) all) is;
}

pub so_far_more : (types : ℕ → Option TypeDef) (tags : ℕ → Option ℕ) (old now next : Slots) (blocks after : List (Option BlockType)) (o : Op) (left all : List Op) (places more places_after : List ℕ) → SoFar types tags old now blocks (o ∷ left) all places → AddsTypes (handler_in types tags (first_opened blocks) o) now next more → StaysInFront now.types next.types → after ≡ opened_after blocks o → places_after ≡ places ++ more → SoFar types tags old next after left all places_after
so_far_more types tags old now next blocks after o left all places more places_after so_far adds stays after_is places_are =
    let here = handler_in types tags (first_opened blocks) o in
    let around = map (with_results types tags) blocks in
    let same : handlers_from types tags around (o ∷ left) ≡ here ++ handlers_from types tags (map (with_results types tags) after) left =
    ap (λ (fs : List FunctionType). fs ++ handlers_from types tags (blocks_after types tags around o) left) (innermost_decides types tags blocks o)
    ∙ ap (λ (bs : List OpenBlock). here ++ handlers_from types tags bs left) (sym (same_after types tags blocks o) ∙ ap (map (with_results types tags)) (sym after_is)) in
    record {
      stays = stays_trans old.types now.types next.types so_far.stays stays;
      done = so_far.done ++ here;
      added = subst (λ (ps : List ℕ). AddsTypes (so_far.done ++ here) old next ps) (sym places_are) (adds_both so_far.done here old now next places more so_far.added adds);
      whole = append_assoc so_far.done here _ ∙ ap (λ (fs : List FunctionType). so_far.done ++ fs) (sym same) ∙ so_far.whole;
    }

pub so_far_all : (types : ℕ → Option TypeDef) (tags : ℕ → Option ℕ) (old now : Slots) (blocks : List (Option BlockType)) (left all : List Op) (places : List ℕ) → left ≡ [] → SoFar types tags old now blocks left all places → AddsTypes (handlers_of types tags all) old now places
so_far_all types tags old now blocks left all places none so_far =
    let whole : so_far.done ≡ handlers_of types tags all = sym (append-nil so_far.done) ∙ ap (λ (os : List Op). so_far.done ++ handlers_from types tags (map (with_results types tags) blocks) os) (sym none) ∙ so_far.whole in
    subst (λ (fs : List FunctionType). AddsTypes fs old now places) whole so_far.added

pub next_op : (xs : List Operator) (i : ℕ) (x : Operator) → i < length xs → get_or xs i x ≡ x → ops_of (drop i xs) ≡ op_of x ∷ ops_of (drop (i + 1) xs)
next_op xs i x below item = ap ops_of (drop-cons xs i x below ∙ ap (λ (o : Operator). o ∷ drop (suc i) xs) item ∙ ap (λ (n : ℕ). x ∷ drop n xs) (sym (add-one i)))
