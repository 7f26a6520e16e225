use Rattle.std.proofs.Common.{◌≡◌, ◌+◌, ◌-◌, ◌^◌, ℕ, List, length, min, ap, ◌∙◌, sym}
use Rattle.walrus_bodies.specs.Declarations.{declarations_of}
use Rattle.walrus_bodies.specs.FunctionTypes.{is_function_at}
use Rattle.walrus_bodies.specs.declared.declarations.Declaration.{Declaration}
use Rattle.walrus_bodies.specs.PlainBody.{with_locals}
use Rattle.walrus_bodies.specs.PlainCode.{limits_in}
use Rattle.walrus_bodies.specs.Scanned.{IsScanned}
use Rattle.walrus_functions.specs.Plain.{total}
use Rattle.walrus_functions.specs.declared.plain.PlainBody.{PlainBody}
use Rattle.walrus_functions.proofs.PlainLemmas.{Found, plain_read}
use Rattle.walrus_functions.proofs.plain.find_plain.Goals as goal

pub returns : goal.returns
returns c =
    let limits = limits_in c.in-Some.code.value in
    let bytes = c.args.bytes.now in
    let rest = c.in-Ok-read_declarations.rest.now in
    let ds = c.in-Ok-read_declarations.declarations.items in
    let plain : PlainBody = record { params = c.in-Ok.params; declarations = c.in-Ok-read_declarations.declarations; text = c.in-Some-2.text } in
    let found : Found bytes (declarations_of ds) rest = c.in-Ok-read_declarations.ensures.found in
    let count : c.in-Some-count_locals.locals ≡ c.in-Ok.params + total (declarations_of ds) = c.in-Some-count_locals.ensures ∙ ap (λ (xs : List Declaration). c.in-Ok.params + total (declarations_of xs)) c.as_slice.ensures.value in
    let within = with_locals limits c.in-Some-count_locals.locals in
    let limited : within ≡ record limits { locals = c.in-Ok.params + total (declarations_of ds) } = ap (λ (n : ℕ). record limits { locals = n }) count in
    let begin_is : c.saturating_add-begin.result ≡ min (c.args.start + (length bytes - length rest)) (2 ^ 64 - 1) = c.saturating_add-begin.ensures ∙ ap (λ (n : ℕ). min (c.args.start + n) (2 ^ 64 - 1)) c.saturating_sub.ensures in
    let scanned : IsScanned within c.in-Ok-try_from.first_local c.saturating_add-begin.result rest c.in-Some-2.text = rw c.in-Some-2.is at c.in_ok-text.ensures in
    (c.in-Some.code, (c.in-Some.is, plain_read limits within (is_function_at c.args.types.now) c.args.first c.args.params c.args.start c.saturating_add-begin.result c.in-Ok-try_from.first_local bytes rest plain c.in-Ok.ensures.1 found limited c.in-Ok-try_from.ensures.1 begin_is scanned (sym c.in_ok-blocks_hold.ensures ∙ c.if-not-branch.false)))
