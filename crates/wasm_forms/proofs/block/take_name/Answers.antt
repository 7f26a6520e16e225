use Rattle.std.proofs.Common.{ℕ, List, ap, sym, ◌∙◌}
use Rattle.std.specs.Prelude.{Option, Some, None, if◌then◌else◌}
use Rattle.std.specs.Str.{is_utf8}
use Rattle.std.proofs.lemmas.Str.{IsUtf8-from_is_utf8, is_utf8-from_IsUtf8}
use Rattle.wasm_forms.specs.Reading.{◌>>=◌}
use Rattle.wasm_forms.proofs.block.take_name.Goals as goal
use Rattle.std.proofs.lemmas.Bool.{false_from_ne_true as false_unless}

abbrev text_only : List ℕ × List ℕ → Option (List ℕ × List ℕ)
text_only x = if is_utf8 x.0 then Some x else None

pub returns-in-Ok : goal.returns-in-Ok
returns-in-Ok c =
    ap (λ o. o >>= text_only) c.in_ok-block.ensures ∙ ap (λ t. if t then Some (c.in_ok-block.block.now, c.in_ok-block.rest.now) else None) (is_utf8-from_IsUtf8 c.in_ok-block.block.now c.in-Ok.ensures.cases.1)
    ∙ ap (λ t. Some (t, c.in_ok-block.rest.now)) (sym c.in-Ok.ensures.cases.0)

pub returns-in-Err : goal.returns-in-Err
returns-in-Err c =
    ap (λ o. o >>= text_only) c.in_ok-block.ensures
    ∙ ap (λ t. if t then Some (c.in_ok-block.block.now, c.in_ok-block.rest.now) else None) (false_unless (is_utf8 c.in_ok-block.block.now) (λ h. c.in-Err.ensures.cases.0 (IsUtf8-from_is_utf8 c.in_ok-block.block.now h)))
