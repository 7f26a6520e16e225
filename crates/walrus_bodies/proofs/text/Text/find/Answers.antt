use Rattle.std.proofs.Common.{◌≡◌, ℕ, List, refl, ap, ap₂, sym, ◌∙◌, subst}
use Rattle.walrus_bodies.specs.PlainBody.{IsPlainBody, with_locals}
use Rattle.walrus_bodies.specs.PlainCode.{bytes_at, bytes_in, entry_at, limits_at, limits_in, marks_at, start_in}
use Rattle.walrus_bodies.specs.LeftOut.{unpacked}
use Rattle.walrus_bodies.specs.declared.plain_code.Entry.{Entry}
use Rattle.walrus_bodies.specs.declared.plain_code.PlainCode.{PlainCode}
use Rattle.walrus_bodies.proofs.PushedLemmas.{found}
use Rattle.walrus_bodies.proofs.ScannedLemmas.{is_scanned}
use Rattle.walrus_bodies.proofs.text.Text.find.Goals as goal

pub invariant_of-result : goal.invariant_of-result
invariant_of-result c =
    let n = c.args.number in
    let told : c.entry-entry.result ≡ entry_at c.args.code.now.value n = c.entry-entry.ensures ∙ ap (λ (k : PlainCode). entry_at k n) c.as_ref-shared.ensures in
    let is = found c.args.code.now.value n (λ none. c.if-entry-eq0.false (ap (λ (e : Entry). e.count) told ∙ none)) in
    record { body = subst (λ (k : PlainCode). ∥ IsPlainBody (limits_at k n) (unpacked (entry_at k n).left_out) (bytes_at k n) (marks_at k n) (entry_at k n).count ∥₁) (sym c.in_ok-clone.ensures.cases) is }

pub returns : goal.returns
unfolding limits_in
returns c =
    let code = c.args.code.now.value in
    let n = c.args.number in
    let bytes = c.args.operators.now in
    let limits = with_locals code.limits c.args.locals in
    let told : c.entry-entry.result ≡ entry_at code n = c.entry-entry.ensures ∙ ap (λ (k : PlainCode). entry_at k n) c.as_ref-shared.ensures in
    let is = found code n (λ none. c.if-entry-eq0.false (ap (λ (e : Entry). e.count) told ∙ none)) in
    let locals : (entry_at code n).locals ≡ c.args.locals = ap (λ (e : Entry). e.locals) (sym told) ∙ c.if-entry-locals.false in
    let starts : start_in code (entry_at code n) ≡ c.args.start = sym (c.start.ensures ∙ ap₂ start_in c.as_ref-shared.ensures told) ∙ c.if-start.false in
    let same : bytes_at code n ≡ bytes = sym (c.bytes_of.ensures ∙ ap₂ bytes_in c.as_ref-shared.ensures told) ∙ c.are_same.ensures c.if-not-are_same.false in
    let body : ∥ IsPlainBody limits (unpacked (entry_at code n).left_out) bytes (marks_at code n) (entry_at code n).count ∥₁ =
    subst (λ (l : ℕ). ∥ IsPlainBody (with_locals code.limits l) (unpacked (entry_at code n).left_out) bytes (marks_at code n) (entry_at code n).count ∥₁) locals
    (subst (λ (bs : List ℕ). ∥ IsPlainBody (limits_at code n) (unpacked (entry_at code n).left_out) bs (marks_at code n) (entry_at code n).count ∥₁) same is) in
    let one = c.in_ok-clone.ensures.cases in
    is_scanned limits (unpacked (entry_at code n).left_out) c.args.first_local c.args.start bytes (marks_at code n) _
    (ap (λ (k : PlainCode). bytes_at k n) one ∙ same)
    refl
    (ap (λ (k : PlainCode). (entry_at k n).locals) one ∙ locals)
    (ap (λ (k : PlainCode). start_in k (entry_at k n)) one ∙ starts)
    (subst (λ (k : PlainCode). ∥ IsPlainBody limits (unpacked (entry_at code n).left_out) bytes (marks_at code n) (entry_at k n).count ∥₁) (sym one) body)
