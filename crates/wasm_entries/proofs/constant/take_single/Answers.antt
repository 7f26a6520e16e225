use Rattle.std.proofs.Common.{◌≡◌, ◌-◌, ℕ, suc, List, length, nat_eq, false, refl, sym, ap, ◌∙◌, arith, eqb-true, eq-eqb}
use Rattle.std.specs.Prelude.{None}
use Rattle.wasm_forms.specs.Grammar.{at, until_at}
use Rattle.wasm_forms.proofs.Bind.{some_not_none}
use Rattle.wasm_entries.specs.Forms.{const_from}
use Rattle.wasm_forms.proofs.RowTurns.{until_single}
use Rattle.wasm_entries.proofs.constant.take_single.Goals as goal
use Rattle.std.proofs.lemmas.Bool.{false_from_ne_true as false_unless}

-- the byte that ends an expression begins no operator
no_operator : (bytes : List ℕ) → at (const_from 11) bytes ≡ None
unfolding const_from
no_operator bytes = refl

pub returns : goal.returns
returns c =
    let bytes = c.args.bytes.now in
    let more : length bytes ≡ suc (suc (length bytes - 2)) = omega arith in
    let other : nat_eq c.in-Ok.first 11 ≡ false = false_unless (nat_eq c.in-Ok.first 11) (λ t. some_not_none (c.in-Ok-read_const_from.operator, c.in-Ok-read_const_from.behind.now) (sym c.in-Ok-read_const_from.ensures ∙ ap (λ b. at (const_from b) c.in-Ok.after.now) (eqb-true c.in-Ok.first 11 t) ∙ no_operator c.in-Ok.after.now)) in
    ap (λ n. until_at (λ b. at (const_from b)) 11 n bytes) more
    ∙ until_single (λ b. at (const_from b)) 11 (length bytes - 2) c.in-Ok.first c.in-Ok-read_byte.end bytes c.in-Ok.after.now c.in-Ok-read_const_from.behind.now c.in-Ok-read_byte.rest.now c.in-Ok-read_const_from.operator
    c.in-Ok.ensures.gives other c.in-Ok-read_const_from.ensures c.in-Ok-read_byte.ensures.gives (eq-eqb c.in-Ok-read_byte.end 11 (sym c.from.ensures ∙ c.if-from-ne-END.false))
