use Rattle.std.proofs.Common.{◌≡◌, ◌∙◌, ℕ, Bool, true, false, List, [], map, Option, Result, Ok, Err, IsErrAnd, IfOk, ap, refl, subst, sym}
use Rattle.walrus_base.specs.Operators.{Op}
use Rattle.walrus_code.specs.Names.{Lookup}
use Rattle.walrus_code.specs.declared.error.IrError.{IrError}
use Rattle.walrus_code.specs.declared.error.IrError.TheVariants.{Malformed, Memory, NoIndex, NotWritable, TooLarge}
use Rattle.walrus_bodies.specs.Emitting.{EmitsOperators}
use Rattle.walrus_bodies.specs.Results.{kept_if}
use Rattle.walrus_bodies.specs.declared.features.Features.{Features}
use Rattle.walrus_functions.specs.Code.{is_listed, ops_of_code}
use Rattle.walrus_functions.proofs.code.append_code.Goals as goal

-- what isn't asked for is empty
unasked : {X : Type 0} (asks : Bool) (xs : List X) → (asks ≡ true → false ≡ true) → kept_if asks xs ≡ []
unasked true xs h = let wrong : false ≡ true = h refl in absurd cc
unasked false xs h = refl

-- a refusal is handed on
passed : (Y : Type 0) (names : Lookup) (locals : ℕ → Option ℕ) (features : Features) (ops : List Op) (old new places : List ℕ) (e : IrError) → EmitsOperators {X = Unit {0}} names locals features ops old new (λ _. places) (Err e) → EmitsOperators {X = Y} names locals features ops old new (λ _. places) (Err e)
passed Y names locals features ops old new places NoIndex h = h
passed Y names locals features ops old new places NotWritable h = h
passed Y names locals features ops old new places (Memory m) h = tt
passed Y names locals features ops old new places Malformed h = absurd h
passed Y names locals features ops old new places TooLarge h = absurd h

refused : {Y : Type 0} (names : Lookup) (locals : ℕ → Option ℕ) (features : Features) (ops : List Op) (old new places : List ℕ) (told : Y → List ℕ) (asks : Bool) (r : Result Y IrError) (e : IrError) → IsErrAnd r (λ x. x ≡ e) → EmitsOperators {X = Unit {0}} names locals features ops old new (λ _. places) (Err e)
    → EmitsOperators names locals features ops old new (λ _. places) r × IfOk r (λ x. told x ≡ kept_if asks places)
refused names locals features ops old new places told asks (Ok x) e failed h = absurd failed
refused {Y} names locals features ops old new places told asks (Err x) e failed h =
    (passed Y names locals features ops old new places x (subst (λ (d : IrError). EmitsOperators {X = Unit {0}} names locals features ops old new (λ _. places) (Err d)) (sym failed) h), tt)

pub returns-in_err-append-in-Text-clause-written : goal.returns-in_err-append-in-Text-clause-written
returns-in_err-append-in-Text-clause-written c =
    let said = c.in_err-append-in-Text.ensures c.args.features.now in
    rw (c.in-Text.is, ops_of_code) (said.0, refused _ _ _ _ _ _ said.0 (λ placed. map (λ p. p.1) placed.items) c.args.asks_places c.from_residual.result c.in_err-append-in-Text.field-0.0 c.from_residual.ensures.1 said.1)

pub returns-in_ok-append-in-Text-clause-written : goal.returns-in_ok-append-in-Text-clause-written
returns-in_ok-append-in-Text-clause-written c =
    let said = c.in_ok-append-in-Text.ensures c.args.features.now in
    let no_list : is_listed c.args.code.now ≡ false = ap is_listed c.in-Text.is in
    let none = unasked c.args.asks_places said.0 (λ asks. sym no_list ∙ c.requires asks) in
    rw (c.in-Text.is, ops_of_code) (said.0, (said.1, ap (map (λ p. p.1)) c.new.ensures.items ∙ sym none))

pub returns-in-List-clause-written : goal.returns-in-List-clause-written
returns-in-List-clause-written c = rw (c.in-List.is, ops_of_code, sym c.as_slice.ensures.body) c.append_operators.ensures.written
