-- Bytes that read as operators, with those of a body behind them, read as both.
use Rattle.std.proofs.Common.{◌≡◌, ℕ, zero, suc, ◌+◌, ◌-◌, ◌≤◌, ◌<◌, Bool, true, false, List, [], ◌∷◌, ◌++◌, length, map, Option, Some, None, Result, Ok, Err, cond, refl, sym, ap, ap₂, ◌∙◌, subst, arith, length-append}
use Rattle.std.proofs.lemmas.Bool.{leb-false, leb-true}
use Rattle.std.proofs.lemmas.List.{map-append}
use Rattle.std.specs.Cmp.Derive.{both_true}
use Rattle.std.specs.List.{range_with_len}
use Rattle.std.specs.Prelude.{IfOk, IfSome, nat_le, slice_get}
use Rattle.wasm_forms.specs.Grammar.{Is, IsRow}
use Rattle.wasm_forms.specs.Spelling.{row_bytes}
use Rattle.wasm_forms.proofs.Bind.{some_same}
use Rattle.wasm_forms.proofs.Exact.{one_reading}
use Rattle.wasm_operators.specs.Operators as wire
use Rattle.wasm_operators.specs.Forms.{operator}
use Rattle.wasm_operators.specs.Spelling.{op_bytes}
use Rattle.walrus_base.specs.Operators.{Op, NoResult, OneResult, OfType, Arg, Index, Label, Local, Number, Count, Byte, S32, S64, Bits32, Bits64, Value, Heap, Block, Access}
use Rattle.walrus_bodies.specs.Blocks.{args_hold, block_holds, blocks_hold}
use Rattle.walrus_bodies.specs.Body.{Context, OperatorsRead, context}
use Rattle.walrus_bodies.specs.Emitting.{OperatorsWritten}
use Rattle.walrus_bodies.specs.Features.{is_allowed}
use Rattle.walrus_bodies.specs.Function.{args_of, as_text, body_of, function_type, handlers_in, name_of, named_in, text_in, types_in}
use Rattle.walrus_bodies.specs.Limits.{Limits}
use Rattle.walrus_bodies.specs.Scanned.{IsScanned}
use Rattle.walrus_bodies.specs.Text.{first_local_of, ops_in}
use Rattle.walrus_bodies.specs.declared.features.Features.{Features}
use Rattle.walrus_bodies.specs.declared.function.Body.{Body}
use Rattle.walrus_bodies.specs.declared.function.Body.TheVariants as bodies
use Rattle.walrus_bodies.specs.declared.function.LocalFunction.{LocalFunction}
use Rattle.walrus_bodies.specs.declared.text.Text.{Text}
use Rattle.walrus_code.specs.FromRaw.{op_of, ops_of}
use Rattle.walrus_code.specs.Names.{Lookup, named_ops}
use Rattle.walrus_edit_list.specs.Fronts.{but_last}
use Rattle.walrus_edit_list.specs.Joined.{AreInFront, Fronts, IsTextOf, LeadsToItself, index_from, itself, local_from}
use Rattle.walrus_edit_list.specs.declared.front.TheConstants.{END}
use Rattle.walrus_edit_list.proofs.ClosingEnd.{last_is_end, last_same, row_closed}
use Rattle.walrus_edit_list.proofs.FrontFormed.{all_allowed, all_both, all_front, row_append, split_last}
use Rattle.walrus_edit_list.proofs.FrontNamed.{ops_append, ops_but_last, ops_grow}
use Rattle.walrus_edit_list.proofs.FrontNests.{front_nests}

-- ---- where any type is a function type, blocks hold

arg_holds : (a : Arg) → block_holds (λ t. true) a ≡ true
arg_holds (Block (OfType t)) = refl
arg_holds (Block NoResult) = refl
arg_holds (Block (OneResult v)) = refl
arg_holds (Label l) = refl
arg_holds (Index x) = refl
arg_holds (Local n) = refl
arg_holds (Number n) = refl
arg_holds (Count n) = refl
arg_holds (Byte n) = refl
arg_holds (S32 z) = refl
arg_holds (S64 z) = refl
arg_holds (Bits32 n) = refl
arg_holds (Bits64 n) = refl
arg_holds (Value v) = refl
arg_holds (Heap h) = refl
arg_holds (Access flags memory offset) = refl

args_are : (args : List Arg) → args_hold (λ t. true) args ≡ true
args_are [] = refl
args_are (a ∷ args) = both_true (arg_holds a) (args_are args)

pub all_hold : (ops : List Op) → blocks_hold (λ t. true) ops ≡ true
all_hold [] = refl
all_hold (o ∷ ops) = both_true (args_are o.args) (all_hold ops)

-- ---- locals that lie from a place on

pub lies_from : (first count n found : ℕ) → slice_get (range_with_len first count) n ≡ Some found → local_from first n ≡ Some found
lies_from first zero n found is = absurd (cc)
lies_from first (suc count) zero found is = let here : first + 0 ≡ first = omega arith in ap (λ (k : ℕ). Some k) here ∙ is
lies_from first (suc count) (suc n) found is =
    let on : first + suc n ≡ (first + 1) + n = omega arith in
    ap (λ (k : ℕ). Some k) on ∙ lies_from (first + 1) count n found is

leads_by : (first place found : ℕ) (t : Bool) → nat_le first place ≡ t → cond t (Some (place - first)) None ≡ Some found → local_from first found ≡ Some place
leads_by first place found true at is =
    let low : first ≤ place = leb-true first place at in
    let there : place - first ≡ found = some_same _ _ is in
    let whole : first + found ≡ place = omega arith in
    ap (λ (k : ℕ). Some k) whole
leads_by first place found false at is = absurd (cc)

pub leads_from : (first place found : ℕ) → index_from first place ≡ Some found → local_from first found ≡ Some place
leads_from first place found is = leads_by first place found (nat_le first place) refl is

found_by : (first i : ℕ) (t : Bool) → nat_le first (first + i) ≡ t → cond t (Some ((first + i) - first)) None ≡ Some i
found_by first i true at = let same : (first + i) - first ≡ i = omega arith in ap (λ (k : ℕ). Some k) same
found_by first i false at = let high : first + i < first = leb-false first (first + i) at in absurd (omega (arith, high))

-- the index of each of them is found
pub found_from : (first i : ℕ) → index_from first (first + i) ≡ Some i
found_from first i = found_by first i (nat_le first (first + i)) refl

-- ---- no bytes are two lists of operators

led : (front : List ℕ) (text : wire.Op) → Is operator front text → 1 ≤ length front
unfolding operator
led front text (b, (first, (back, (parts, one, rest)))) =
    let long : length front ≡ length first + length back = ap length parts ∙ length-append first back in
    let single : length first ≡ 1 = ap length one in
    omega arith

none_is_one : (bytes front back : List ℕ) (text : wire.Op) → bytes ≡ [] → bytes ≡ front ++ back → Is operator front text → ⊥
none_is_one bytes front back text none parts is =
    let long : length bytes ≡ length front + length back = ap length parts ∙ length-append front back in
    let short : length bytes ≡ 0 = ap length none in
    let first = led front text is in
    omega (arith, first)

one_row : (xs ys : List wire.Op) (bytes : List ℕ) → IsRow (Is operator) bytes xs → IsRow (Is operator) bytes ys → ys ≡ xs
one_row [] [] bytes row other = refl
one_row [] (y ∷ ys) bytes none (front, (back, (parts, is, rest))) = absurd (none_is_one bytes front back y none parts is)
one_row (x ∷ xs) [] bytes (front, (back, (parts, is, rest))) none = absurd (none_is_one bytes front back x none parts is)
one_row (x ∷ xs) (y ∷ ys) bytes (front, (back, (parts, is, rest))) (front', (back', (parts', is', rest'))) =
    let one = one_reading operator front back front' back' x y (sym parts ∙ parts') is is' in
    ap₂ ◌∷◌ (sym one.0) (one_row xs ys back rest (subst (λ (bs : List ℕ). IsRow (Is operator) bs ys) (sym one.1) rest'))

one_list : (c : Context) (locals : ℕ → Option ℕ) (bytes : List ℕ) (ops found : List Op) → OperatorsRead c locals bytes ops → OperatorsRead c locals bytes found → found ≡ ops
one_list c locals bytes ops found a b =
    some_same found ops (sym b.named ∙ ap (λ (ts : List wire.Op). named_ops c.names locals (ops_of ts)) (one_row a.texts b.texts bytes a.spelled b.spelled) ∙ a.named)

-- ---- both

module _ (first : ℕ) (bytes joined : List ℕ) (own made : List Op) (there : Lookup) (to_itself : LeadsToItself there) where
  abbrev whole : Features → Context
  whole f = context itself (λ t. true) f

  pub in_front : ((f : Features) → (starts : List ℕ) × OperatorsWritten there (index_from first) f own bytes joined starts) → ((f : Features) → OperatorsRead (whole f) (local_from first) joined made) → AreInFront bytes first own made
  in_front written reads names p f count read in_place r =
      let w = (written f).1 in
      let split = split_last read r.nested in
      let closed = subst (λ (ops : List Op). OperatorsRead (context names p (record f { legacy_exceptions = false })) (slice_get (range_with_len first count)) (bytes ++ END ∷ []) ops) split.1 r in
      let t = ops_but_last names (slice_get (range_with_len first count)) op_of closed.texts (but_last read) split.0 closed.named in
      let closing = last_same names (slice_get (range_with_len first count)) t.0 t.1.0 (but_last read) split.0 (subst (λ (ts : List wire.Op). named_ops names (slice_get (range_with_len first count)) (map op_of ts) ≡ Some (but_last read ++ split.0 ∷ [])) t.1.1 closed.named)
      ∙ last_is_end (but_last read) split.0 closed.nested in
      let row = row_closed bytes t.0 t.1.0 (subst (λ (ts : List wire.Op). IsRow (Is operator) (bytes ++ END ∷ []) ts) t.1.1 closed.spelled) closing in
      let back = w.back (whole f) (local_from first) (λ space n found is. ap (λ (k : ℕ). Some k) (to_itself space n found is)) (leads_from first) refl (all_hold own) in
      let both : OperatorsRead (whole f) (local_from first) (bytes ++ row_bytes op_bytes w.texts) (but_last read ++ own) = record {
        texts = t.0 ++ back.texts;
        spelled = row_append (Is operator) bytes (row_bytes op_bytes w.texts) t.0 back.texts row back.spelled;
        named = ap (named_ops itself (local_from first)) (map-append op_of t.0 back.texts)
            ∙ ops_append itself (local_from first) (map op_of t.0) (map op_of back.texts) (but_last read) own
            (ops_grow names in_place (slice_get (range_with_len first count)) (local_from first) (lies_from first count) (map op_of t.0) (but_last read) t.1.2)
            back.named;
        nested = front_nests (but_last read) split.0 own closed.nested back.nested;
        allowed = all_both (λ (x : Op). is_allowed f x.op) (but_last read) own (all_allowed f (but_last read) (all_front (λ (x : Op). is_allowed (record f { legacy_exceptions = false }) x.op) (but_last read) (split.0 ∷ []) closed.allowed)) back.allowed;
        blocks = all_hold (but_last read ++ own);
      } in
      one_list (whole f) (local_from first) joined (but_last read ++ own) made (subst (λ (bs : List ℕ). OperatorsRead (whole f) (local_from first) bs (but_last read ++ own)) (sym w.spelled) both) (reads f)

-- ---- as texts

text_is : (limits : Limits) (first start : ℕ) (bytes : List ℕ) (text : Text) → IsScanned limits first start bytes text → IsTextOf bytes first text
text_is limits first start bytes text s = record {
  begins = s.begins;
  reads = λ f. s.reads (context itself (λ t. true) f) (local_from first) (λ space index low. refl) (λ index low. refl) (all_hold (ops_in text));
}

found_there : {E : Type 0} (limits : Limits) (first start : ℕ) (bytes : List ℕ) (r : Result (Option Text) E) → IfOk r (λ found. IfSome found (IsScanned limits first start bytes)) → IfOk r (λ found. IfSome found (IsTextOf bytes first))
found_there limits first start bytes (Ok (Some text)) h = text_is limits first start bytes text h
found_there limits first start bytes (Ok None) h = h
found_there limits first start bytes (Err e) h = h

pub text_found : {E : Type 0} (limits : Limits) (there first start : ℕ) → there ≡ first → (bytes : List ℕ) (r : Result (Option Text) E) → IfOk r (λ found. IfSome found (IsScanned limits there start bytes)) → IfOk r (λ found. IfSome found (IsTextOf bytes first))
text_found limits there first start same bytes r h = subst (λ (n : ℕ). IfOk r (λ found. IfSome found (IsTextOf bytes n))) same (found_there limits there start bytes r h)

-- as a text that was found of both
abbrev pub IsJoined : (bytes : List ℕ) (text made : Text) → Type 0
IsJoined bytes text made = (first_local_of made ≡ first_local_of text) × AreInFront bytes (first_local_of text) (ops_in text) (ops_in made)

pub joined_found : {E : Type 0} (bytes joined : List ℕ) (text : Text) (there : Lookup) → LeadsToItself there → ((f : Features) → (starts : List ℕ) × OperatorsWritten there (index_from (first_local_of text)) f (ops_in text) bytes joined starts)
    → (r : Result (Option Text) E) → IfOk r (λ found. IfSome found (IsTextOf joined (first_local_of text))) → IfOk r (λ found. IfSome found (IsJoined bytes text))
joined_found bytes joined text there to_itself written (Ok (Some made)) h = (h.begins, in_front (first_local_of text) bytes joined (ops_in text) (ops_in made) there to_itself written h.reads)
joined_found bytes joined text there to_itself written (Ok None) h = h
joined_found bytes joined text there to_itself written (Err e) h = h

-- ---- as functions

by_body : (b : Body) (text : Text) → text_in b ≡ Some text → (named_in b ≡ None) × (types_in b ≡ [])
by_body (bodies.Text params t) text is = (refl, refl)
by_body (bodies.List listed) text is = absurd (cc)

-- one that is kept as a text has no name of its own, and no handlers
is_plain : (own : LocalFunction) (text : Text) → as_text own ≡ Some text → (name_of own ≡ None) × (handlers_in own ≡ [])
unfolding as_text name_of handlers_in
is_plain own text is = by_body own.body text is

pub fronts_so : (bytes : List ℕ) (own new : LocalFunction) (text made : Text) (params : ℕ) → as_text own ≡ Some text → body_of own ≡ ops_in text → args_of own ≡ range_with_len (first_local_of text) params → IsJoined bytes text made
    → function_type new ≡ function_type own → args_of new ≡ range_with_len (first_local_of made) params → body_of new ≡ ops_in made → name_of new ≡ None → handlers_in new ≡ []
    → Fronts bytes own new
fronts_so bytes own new text made params is body args (begins, joined) typed new_args new_body new_name new_handlers =
    let plain = is_plain own text is in record {
      operators = λ names p f read in_place r.
          new_body
          ∙ joined names p f params read in_place (subst (λ (ps : List ℕ). OperatorsRead (context names p (record f { legacy_exceptions = false })) (slice_get ps) (bytes ++ END ∷ []) read) args r)
          ∙ ap (λ (ops : List Op). but_last read ++ ops) (sym body);
      others = record {
        head = record {
          name = new_name ∙ sym plain.0;
          typed = typed;
          args = new_args ∙ ap (λ (n : ℕ). range_with_len n params) begins ∙ sym args;
        };
        handlers = new_handlers ∙ sym plain.1;
      };
    }
