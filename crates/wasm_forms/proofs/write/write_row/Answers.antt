use Rattle.std.proofs.Common.{◌≡◌, ◌<◌, ◌≤◌, ℕ, List, ◌++◌, length, get_or, take, refl, sym, ap, ◌∙◌, subst, append_assoc, append-nil, arith}
use Rattle.std.specs.Prelude.{Err}
use Rattle.std.proofs.lemmas.List.{take_all, take_at}
use Rattle.std.proofs.lemmas.Result.{err_from_is_err_and}
use Rattle.wasm_forms.specs.declared.error.WireError.{WireError}
use Rattle.wasm_forms.specs.declared.error.WireError.TheVariants.{Malformed, Memory, TooLarge}
use Rattle.wasm_forms.specs.Writing.{Adds, EachFits}
use Rattle.wasm_forms.specs.Spelling.{row_bytes}
use Rattle.wasm_forms.proofs.Items.{row_push, each_push, each_at}
use Rattle.wasm_forms.proofs.Keeping.{keeps_behind}
use Rattle.wasm_forms.proofs.Room.{row_refused}
use Rattle.wasm_forms.proofs.write.write_row.Goals as goal

pub items-preserved : goal.items-preserved
items-preserved g c =
    let spell = g.E.Written.spelled in
    let xs = c.args.items.now in
    let i = c.items.item-index in
    let x = c.item-item.result in
    record {
      written = c.in_ok-write.ensures.adds.0 ∙ ap (λ l. l ++ spell x) c.items.invariant.written ∙ append_assoc c.args.to.now.items (row_bytes spell (take i xs)) (spell x)
          ∙ ap (λ l. c.args.to.now.items ++ l) (row_push spell xs i x c.items-test.true c.item-item.is);
      fit = each_push g.E.Written.Fits xs i x c.items-test.true c.item-item.is c.items.invariant.fit c.in_ok-write.ensures.adds.1;
      room = omega (arith, c.in_ok-write.ensures.room);
    }

pub returns-in_err-write-clause-room : goal.returns-in_err-write-clause-room
returns-in_err-write-clause-room g c =
    let p = err_from_is_err_and c.from_residual.result c.from_residual.ensures.1 in
    rw (p.1, p.2)
    (row_refused g.E.Written.spelled c.args.items.now c.items.item-index c.item-item.result c.in_err-write.field-0.0 c.args.to.now c.items.to c.write.new.to c.items-test.true c.item-item.is c.items.invariant.written c.items.invariant.room
    c.in_err-write.ensures.room)

pub returns-in_err-write-clause-keeps : goal.returns-in_err-write-clause-keeps
returns-in_err-write-clause-keeps g c = keeps_behind c.args.to.now.items c.items.to.items c.write.new.to.items _ c.items.invariant.written c.write.ensures.keeps

row_adds : {X : Type 0} (F : X → Type 0) (spell : X → List ℕ) (xs : List X) (i : ℕ) (x : X) (e : WireError) (old between new : List ℕ) → i < length xs → x ≡ get_or xs i x → Adds {X = Unit {0}} (Err e) between new (spell x) (F x) → Adds {X = Unit {0}} (Err e) old new (row_bytes spell xs) (EachFits F xs)
row_adds F spell xs i x Malformed old between new below at w = w
row_adds F spell xs i x (Memory m) old between new below at w = tt
row_adds F spell xs i x TooLarge old between new below at w = λ each. w (each_at F xs i x below at each)

pub items-init : goal.items-init
items-init g c = record { written = sym (append-nil c.args.to.now.items); fit = tt; room = omega arith }

pub returns-in_err-write-clause-adds : goal.returns-in_err-write-clause-adds
returns-in_err-write-clause-adds g c =
    let p = err_from_is_err_and c.from_residual.result c.from_residual.ensures.1 in
    rw (p.1, p.2)
    (row_adds g.E.Written.Fits g.E.Written.spelled c.args.items.now c.items.item-index c.item-item.result c.in_err-write.field-0.0 c.args.to.now.items c.items.to.items c.write.new.to.items c.items-test.true c.item-item.is c.in_err-write.ensures.adds)

pub returns-clause-adds : goal.returns-clause-adds
returns-clause-adds g c =
    let xs = c.args.items.now in
    let i = c.items.item-index in
    let past : length xs ≤ i = omega arith in
    let all : take i xs ≡ xs = take_all i xs past in
    (c.items.invariant.written ∙ ap (λ l. c.args.to.now.items ++ row_bytes g.E.Written.spelled l) all, subst (EachFits g.E.Written.Fits) all c.items.invariant.fit)

pub returns-clause-room : goal.returns-clause-room
returns-clause-room g c = c.items.invariant.room

pub returns-clause-keeps : goal.returns-clause-keeps
returns-clause-keeps g c =
    let old = c.args.to.now.items in
    ap (take (length old)) c.items.invariant.written ∙ take_at old (row_bytes g.E.Written.spelled (take c.items.item-index c.args.items.now)) (length old) refl
