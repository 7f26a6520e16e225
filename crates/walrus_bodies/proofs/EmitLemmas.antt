-- What writing operators appends.
use Rattle.std.proofs.Common.{◌≡◌, inr, suc, ℕ, ◌+◌, ◌<◌, Bool, true, false, List, [], ◌∷◌, ◌++◌, length, map, Option, Some, Result, Ok, Err, IfOk, IsErrAnd, refl, ap, ◌∙◌, sym, subst, arith, append_assoc, length-append, take, drop, get_or, add-one}
use Rattle.std.proofs.lemmas.List.{append-nil, map-append, take-append-drop}
use Rattle.std.proofs.lemmas.List.Elements.{Contains-append_right}
use Rattle.std.proofs.Math.Seq.{take-suc, drop-cons}
use Rattle.wasm_forms.specs.Grammar.{Is, IsRow}
use Rattle.wasm_forms.specs.Spelling.{row_bytes}
use Rattle.wasm_operators.specs.Operators as wire
use Rattle.wasm_operators.specs.Forms.{operator}
use Rattle.wasm_operators.specs.Spelling.{op_bytes}
use Rattle.walrus_base.specs.Operators.{Op}
use Rattle.walrus_code.specs.Code as code
use Rattle.walrus_code.specs.FromRaw.{op_of, ops_of}
use Rattle.walrus_code.specs.Names.{Lookup}
use Rattle.walrus_code.specs.declared.operator.Operator.{Operator}
use Rattle.walrus_code.specs.declared.error.IrError.{IrError}
use Rattle.walrus_code.specs.declared.error.IrError.TheVariants.{Malformed, Memory, NoIndex, NotWritable, TooLarge}
use Rattle.walrus_code.proofs.BackLemmas.{ops_back}
use Rattle.walrus_bodies.specs.declared.features.Features.{Features}
use Rattle.walrus_bodies.specs.Blocks.{are_nested}
use Rattle.walrus_bodies.specs.Features.{are_allowed}
use Rattle.walrus_bodies.specs.Emitting.{places_from, AllStand, EmitsOperators, OperatorsWritten}
use Rattle.walrus_bodies.specs.Results.{kept_if}
use Rattle.walrus_bodies.specs.Writer.{Appends, Writes, AppendsAll, WritesAll}
use Rattle.walrus_bodies.proofs.NamedLemmas.{named-more, named-none}

-- ---- operators one after another

stand-more : (texts : List wire.Op) (text : wire.Op) → AllStand texts → Is operator (op_bytes text) text → AllStand (texts ++ text ∷ [])
stand-more [] text all one = (one, tt)
stand-more (t ∷ texts) text all one = (all.0, stand-more texts text all.1 one)

row-more : (texts : List wire.Op) (text : wire.Op) → row_bytes op_bytes (texts ++ text ∷ []) ≡ row_bytes op_bytes texts ++ op_bytes text
row-more [] text = append-nil (op_bytes text)
row-more (t ∷ texts) text = ap (λ bytes. op_bytes t ++ bytes) (row-more texts text) ∙ sym (append_assoc (op_bytes t) (row_bytes op_bytes texts) (op_bytes text))

places-more : (texts : List wire.Op) (text : wire.Op) (start : ℕ) → places_from start (texts ++ text ∷ []) ≡ places_from start texts ++ (start + length (row_bytes op_bytes texts)) ∷ []
places-more [] text start = let same : start ≡ start + 0 = omega arith in ap (λ (n : ℕ). n ∷ []) same
places-more (t ∷ texts) text start =
    let long : length (op_bytes t ++ row_bytes op_bytes texts) ≡ length (op_bytes t) + length (row_bytes op_bytes texts) = length-append (op_bytes t) (row_bytes op_bytes texts) in
    let same : start + length (op_bytes t) + length (row_bytes op_bytes texts) ≡ start + length (op_bytes t ++ row_bytes op_bytes texts) = omega arith in
    ap (λ (ns : List ℕ). start ∷ ns) (places-more texts text (start + length (op_bytes t)) ∙ ap (λ (n : ℕ). places_from (start + length (op_bytes t)) texts ++ n ∷ []) same)

pub appends-more : (names : Lookup) (locals : ℕ → Option ℕ) (ops : List Op) (o : Op) (old middle new : List ℕ) (places : List ℕ) → AppendsAll names locals ops old middle places → Appends names locals o middle new → AppendsAll names locals (ops ++ o ∷ []) old new (places ++ length middle ∷ [])
appends-more names locals ops o old middle new places all one =
    let here : length middle ≡ length old + length (row_bytes op_bytes all.texts) = ap length all.spelled ∙ length-append old (row_bytes op_bytes all.texts) in
    record {
      texts = all.texts ++ one.text ∷ [];
      named = named-more names locals ops (ops_of all.texts) o (op_of one.text) all.named one.named ∙ ap Some (sym (map-append op_of all.texts (one.text ∷ [])));
      spelled = one.spelled ∙ ap (λ bytes. bytes ++ op_bytes one.text) all.spelled ∙ append_assoc old (row_bytes op_bytes all.texts) (op_bytes one.text) ∙ ap (λ bytes. old ++ bytes) (sym (row-more all.texts one.text));
      placed = ap (λ (ns : List ℕ). ns ++ length middle ∷ []) all.placed ∙ ap (λ (n : ℕ). places_from (length old) all.texts ++ n ∷ []) here ∙ sym (places-more all.texts one.text (length old));
      stand = stand-more all.texts one.text all.stand one.stands;
    }

-- a refusal of one operator refuses them all
refused-all : {X : Type 0} (names : Lookup) (locals : ℕ → Option ℕ) (before : List Op) (o : Op) (later : List Op) (e : IrError) (old new old' new' : List ℕ) (places : X → List ℕ) → Writes {X = Unit {0}} names locals o old new (Err e) → WritesAll names locals (before ++ o ∷ later) old' new' places (Err e)
refused-all names locals before o later Malformed old new old' new' places is = is
refused-all names locals before o later (Memory m) old new old' new' places is = tt
refused-all names locals before o later NoIndex old new old' new' places is = named-none names locals before o later is
refused-all names locals before o later NotWritable old new old' new' places is =
    let first : 0 < length (o ∷ later) = omega arith in
    (o, (Contains-append_right before (o ∷ later) o (0, first, refl), is))
refused-all names locals before o later TooLarge old new old' new' places is = is

pub passed-all : {X : Type 0} (names : Lookup) (locals : ℕ → Option ℕ) (before : List Op) (o : Op) (later ops : List Op) (old new old' new' : List ℕ) (places : X → List ℕ) (result : Result X IrError) (e : IrError) → ops ≡ before ++ o ∷ later → IsErrAnd result (λ x. x ≡ e) → Writes {X = Unit {0}} names locals o old new (Err e) → WritesAll names locals ops old' new' places result
passed-all names locals before o later ops old new old' new' places (Ok x) e parts is writes = absurd is
passed-all names locals before o later ops old new old' new' places (Err x) e parts is writes =
    let all = refused-all names locals before o later e old new old' new' places writes in
    subst (λ (d : IrError). WritesAll names locals ops old' new' places (Err d)) (sym is)
    (subst (λ (os : List Op). WritesAll names locals os old' new' places (Err e)) (sym parts) all)

-- ---- the operators of a list, up to a place, there and behind it

pub ops_of-at : (xs : List Operator) (i : ℕ) (x : Operator) → i < length xs → get_or xs i x ≡ x → code.ops_of xs ≡ code.ops_of (take i xs) ++ code.op_of x ∷ code.ops_of (drop (suc i) xs)
ops_of-at xs i x below is =
    ap code.ops_of (sym (take-append-drop i xs))
    ∙ map-append code.op_of (take i xs) (drop i xs)
    ∙ ap (λ ys. code.ops_of (take i xs) ++ code.ops_of ys) (drop-cons xs i x below)
    ∙ ap (λ (y : Operator). code.ops_of (take i xs) ++ code.op_of y ∷ code.ops_of (drop (suc i) xs)) is

pub take-next : (xs : List Operator) (i : ℕ) (x : Operator) → i < length xs → get_or xs i x ≡ x → take (i + 1) xs ≡ take i xs ++ x ∷ []
take-next xs i x below is =
    ap (λ (n : ℕ). take n xs) (add-one i)
    ∙ take-suc xs i x below
    ∙ ap (λ (y : Operator). take i xs ++ y ∷ []) is

-- ---- what is noted, where it is asked for

pub none-noted : {X Y : Type 0} (f : X → Y) (asked : Bool) (had : List X) → had ≡ [] → map f had ≡ kept_if asked []
none-noted f true had none = ap (map f) none
none-noted f false had none = ap (map f) none

pub noted-more : {X Y : Type 0} (f : X → Y) (asked : Bool) (had new : List X) (x : X) (all : List Y) → new ≡ had ++ kept_if asked (x ∷ []) → map f had ≡ kept_if asked all → map f new ≡ kept_if asked (all ++ f x ∷ [])
noted-more f true had new x all is so_far = ap (map f) is ∙ map-append f had (x ∷ []) ∙ ap (λ ys. ys ++ f x ∷ []) so_far
noted-more f false had new x all is so_far = ap (map f) (is ∙ append-nil had) ∙ so_far

-- ---- the whole

pub row_stands : (texts : List wire.Op) → AllStand texts → IsRow (Is operator) (row_bytes op_bytes texts) texts
row_stands [] stand = refl
row_stands (text ∷ texts) stand = (op_bytes text, (row_bytes op_bytes texts, (refl, stand.0, row_stands texts stand.1)))

pub emits : {X : Type 0} (names : Lookup) (locals : ℕ → Option ℕ) (features : Features) (ops : List Op) (old new : List ℕ) (places : X → List ℕ) (result : Result X IrError) → are_nested ops ≡ true → are_allowed features ops ≡ true → WritesAll names locals ops old new places result → EmitsOperators names locals features ops old new places result
emits names locals features ops old new places (Ok x) nested allowed all = record {
  nested = nested;
  allowed = allowed;
  texts = all.texts;
  named = all.named;
  stand = all.stand;
  spelled = all.spelled;
  placed = all.placed;
  back = λ c locals_back leads locals_lead same holds. record {
    texts = all.texts;
    spelled = row_stands all.texts all.stand;
    named = ops_back names c.names leads locals locals_back locals_lead ops (ops_of all.texts) all.named;
    nested = nested;
    allowed = ap (λ (f : Features). are_allowed f ops) same ∙ allowed;
    blocks = holds;
  };
}
emits names locals features ops old new places (Err Malformed) nested allowed all = all
emits names locals features ops old new places (Err (Memory e)) nested allowed all = tt
emits names locals features ops old new places (Err NoIndex) nested allowed all = all
emits names locals features ops old new places (Err NotWritable) nested allowed all = inr (inr all)
emits names locals features ops old new places (Err TooLarge) nested allowed all = all

-- all places are told
pub told : {X : Type 0} (names : Lookup) (locals : ℕ → Option ℕ) (features : Features) (ops : List Op) (old new all : List ℕ) (places : X → List ℕ) (result : Result X IrError) → EmitsOperators names locals features ops old new (λ _. all) result → IfOk result (λ x. places x ≡ all) → EmitsOperators names locals features ops old new places result
told names locals features ops old new all places (Ok x) w same = subst (λ (ns : List ℕ). OperatorsWritten names locals features ops old new ns) (sym same) w
told names locals features ops old new all places (Err Malformed) w same = w
told names locals features ops old new all places (Err (Memory e)) w same = tt
told names locals features ops old new all places (Err NoIndex) w same = w
told names locals features ops old new all places (Err NotWritable) w same = w
told names locals features ops old new all places (Err TooLarge) w same = w
