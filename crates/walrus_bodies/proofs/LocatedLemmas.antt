-- Where operators stand.
use Rattle.std.proofs.Common.{◌≡◌, ℕ, ◌+◌, ◌-◌, ◌^◌, ◌≤◌, Bool, true, false, ◌&&◌, List, [], ◌∷◌, ◌++◌, length, min, Option, Some, Result, Ok, Err, IfOk, refl, ap, ◌∙◌, sym, subst, arith, append_assoc, length-append, Vec, Global}
use Rattle.std.proofs.lemmas.List.{append-nil}
use Rattle.wasm_forms.specs.Reading.{◌>>=◌}
use Rattle.wasm_forms.specs.Grammar.{Is, at}
use Rattle.wasm_forms.proofs.Bind.{bind_some, if_some, some_same}
use Rattle.wasm_forms.proofs.Exact.{exact}
use Rattle.wasm_operators.specs.Operators as wire
use Rattle.wasm_operators.specs.Forms.{operator}
use Rattle.walrus_base.specs.Operators.{Op}
use Rattle.walrus_code.specs.Names.{named_op}
use Rattle.walrus_code.specs.FromRaw.{op_of}
use Rattle.walrus_code.specs.declared.location.InstrLocId.{InstrLocId}
use Rattle.walrus_code.specs.declared.operator.Operator.{Operator}
use Rattle.walrus_bodies.specs.declared.blocks.Opened.{Opened}
use Rattle.walrus_bodies.specs.Blocks.{blocks_after, args_hold}
use Rattle.walrus_bodies.specs.Features.{is_allowed}
use Rattle.walrus_bodies.specs.Body.{Context, Located}
use Rattle.walrus_bodies.specs.Reader.{op_at, next_at, taken}
use Rattle.walrus_bodies.specs.Results.{locations}

-- an operator that was read: the text in front, and what the checks found
pub record Front (c : Context) (locals : ℕ → Option ℕ) (blocks : List Opened) (bytes : List ℕ) (x : Op × List Opened × List ℕ) : Type 0 where
  pub text : wire.Op
  pub front : List ℕ
  pub parts : bytes ≡ front ++ x.2
  pub spelled : Is operator front text
  pub named : named_op c.names locals (op_of text) ≡ Some x.0
  pub allowed : is_allowed c.features x.0.op ≡ true
  pub holds : args_hold c.is_function_type x.0.args ≡ true
  pub stands : blocks_after x.0.op x.0.args blocks ≡ Some x.1

pub and_left : (a b : Bool) → (a && b) ≡ true → a ≡ true
and_left true b is = refl
and_left false b is = is

pub and_right : (a b : Bool) → (a && b) ≡ true → b ≡ true
and_right true b is = is
and_right false b is = absurd cc

pub front_of : (c : Context) (locals : ℕ → Option ℕ) (blocks : List Opened) (bytes : List ℕ) (x : Op × List Opened × List ℕ) → next_at c locals blocks bytes ≡ Some x → Front c locals blocks bytes x
front_of c locals blocks bytes x is =
    let next = bind_some (op_at c locals bytes) (λ y. blocks_after y.0.op y.0.args blocks >>= λ behind. Some (y.0, behind, y.1)) x is in
    let read = bind_some (at operator bytes) (λ y. named_op c.names locals (op_of y.0) >>= taken c y.1) next.0 next.1 in
    let stands = bind_some (blocks_after next.0.0.op next.0.0.args blocks) (λ behind. Some (next.0.0, behind, next.0.1)) x next.2 in
    let found = bind_some (named_op c.names locals (op_of read.0.0)) (taken c read.0.1) next.0 read.2 in
    let tests = if_some (is_allowed c.features found.0.op && args_hold c.is_function_type found.0.args) (found.0, read.0.1) next.0 found.2 in
    let same : (next.0.0, stands.0, next.0.1) ≡ x = some_same _ _ stands.2 in
    let takes = (exact operator).takes bytes read.0 read.1 in
    let op_is : found.0 ≡ x.0 = ap (λ (y : Op × List ℕ). y.0) tests.1 ∙ ap (λ (y : Op × List Opened × List ℕ). y.0) same in
    let rest_is : read.0.1 ≡ x.2 = ap (λ (y : Op × List ℕ). y.1) tests.1 ∙ ap (λ (y : Op × List Opened × List ℕ). y.2) same in
    let both : (is_allowed c.features x.0.op && args_hold c.is_function_type x.0.args) ≡ true = ap (λ (o : Op). is_allowed c.features o.op && args_hold c.is_function_type o.args) (sym op_is) ∙ tests.0 in
    record {
      text = read.0.0;
      front = takes.0;
      parts = takes.1.0 ∙ ap (λ ys. takes.0 ++ ys) rest_is;
      spelled = takes.1.1;
      named = found.1 ∙ ap Some op_is;
      allowed = and_left _ _ both;
      holds = and_right (is_allowed c.features x.0.op) _ both;
      stands = ap (λ (o : Op). blocks_after o.op o.args blocks) (sym (ap (λ (y : Op × List Opened × List ℕ). y.0) same)) ∙ stands.1 ∙ ap Some (ap (λ (y : Op × List Opened × List ℕ). y.1) same);
    }

-- ---- locations

-- one more operator
pub one_more : (IsGiven : ℕ → InstrLocId → Type 0) (c : Context) (locals : ℕ → Option ℕ) (blocks : List Opened) (place : ℕ) (all bytes : List ℕ) (x : Op × List Opened × List ℕ) (loc : InstrLocId) (locs : List InstrLocId) → length bytes ≤ length all → Front c locals blocks bytes x → IsGiven (min (place + (length all - length bytes)) (2 ^ 64 - 1)) loc → Located IsGiven (place + (length all - length x.2)) x.2 locs → Located IsGiven (place + (length all - length bytes)) bytes (loc ∷ locs)
one_more IsGiven c locals blocks place all bytes x loc locs within here given later =
    let long : length bytes ≡ length here.front + length x.2 = ap length here.parts ∙ length-append here.front x.2 in
    let same : place + (length all - length x.2) ≡ place + (length all - length bytes) + length here.front = omega arith in
    (here.text, (here.front, (x.2, (here.parts, here.spelled, given, subst (λ (p : ℕ). Located IsGiven p x.2 locs) same later))))

pub shorter : (c : Context) (locals : ℕ → Option ℕ) (blocks : List Opened) (bytes : List ℕ) (x : Op × List Opened × List ℕ) → Front c locals blocks bytes x → length x.2 ≤ length bytes
shorter c locals blocks bytes x here =
    let long : length bytes ≡ length here.front + length x.2 = ap length here.parts ∙ length-append here.front x.2 in
    omega arith

-- what holds of the locations so far holds of one more
pub grown : (IsGiven : ℕ → InstrLocId → Type 0) (c : Context) (locals : ℕ → Option ℕ) (blocks : List Opened) (place : ℕ) (all bytes : List ℕ) (x : Op × List Opened × List ℕ) (done new : List InstrLocId) (loc : InstrLocId) → length bytes ≤ length all → Front c locals blocks bytes x → IsGiven (min (place + (length all - length bytes)) (2 ^ 64 - 1)) loc → new ≡ done ++ loc ∷ [] → ((locs : List InstrLocId) → Located IsGiven (place + (length all - length bytes)) bytes locs → Located IsGiven place all (done ++ locs)) → (locs : List InstrLocId) → Located IsGiven (place + (length all - length x.2)) x.2 locs → Located IsGiven place all (new ++ locs)
grown IsGiven c locals blocks place all bytes x done new loc within here given is so_far locs later =
    let same : done ++ loc ∷ locs ≡ new ++ locs = sym (append_assoc done (loc ∷ []) locs) ∙ ap (λ (xs : List InstrLocId). xs ++ locs) (sym is) in
    subst (λ (xs : List InstrLocId). Located IsGiven place all xs) same
    (so_far (loc ∷ locs) (one_more IsGiven c locals blocks place all bytes x loc locs within here given later))

-- where no byte is left these are all
pub when_ended : {E : Type 0} (IsGiven : ℕ → InstrLocId → Type 0) (place behind : ℕ) (all rest : List ℕ) (result : Result (Vec Operator Global) E) (operators : Vec Operator Global) → IfOk result (λ given. (given ≡ operators) × (rest ≡ [])) → ((locs : List InstrLocId) → Located IsGiven behind rest locs → Located IsGiven place all (locations operators.items ++ locs)) → IfOk result (λ given. Located IsGiven place all (locations given.items))
when_ended IsGiven place behind all rest (Ok given) operators h so_far =
    let whole : Located IsGiven place all (locations operators.items) = subst (λ (xs : List InstrLocId). Located IsGiven place all xs) (append-nil (locations operators.items)) (so_far [] h.1) in
    subst (λ (v : Vec Operator Global). Located IsGiven place all (locations v.items)) (sym h.0) whole
when_ended IsGiven place behind all rest (Err e) operators h so_far = tt
