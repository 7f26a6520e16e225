-- What is known of a plain body, as its bytes and marks alone tell it.
use Rattle.std.proofs.Common.{◌≡◌, ℕ, true, List, ap, ◌∙◌, sym, subst}
use Rattle.std.specs.Prelude.{Option, Some}
use Rattle.std.specs.List.{list_all}
use Rattle.std.proofs.Math.Logic.{∥∥₁_elim}
use Rattle.std.proofs.Props.{props}
use Rattle.wasm_text.specs.Classes.{is_plain}
use Rattle.wasm_text.specs.Operators as wire
use Rattle.wasm_text.specs.declared.limits.Limits.{Limits}
use Rattle.walrus_bodies.specs.Blocks.{are_nested}
use Rattle.walrus_code.specs.FromRaw.{ops_of}
use Rattle.walrus_code.specs.Names.{Lookup, named_ops}
use Rattle.walrus_bodies.specs.Shown.{AreShown, NameLeftOut}
use Rattle.walrus_bodies.specs.Texts.{texts_at, are_operators}
use Rattle.walrus_bodies.specs.Placed.{placed_ops}
use Rattle.walrus_bodies.specs.Plain.{are_plain}
use Rattle.walrus_bodies.specs.PlainBody.{IsPlainBody}
use Rattle.walrus_bodies.specs.PlainCode.{limits_at}
use Rattle.walrus_bodies.specs.Scanned.{AreInPlace, LieFrom}
use Rattle.walrus_bodies.specs.Text.{bytes_of, entry_of, left_out_of, marks_of}
use Rattle.walrus_bodies.specs.declared.plain_code.LeftOut.{LeftOut}
use Rattle.walrus_bodies.specs.declared.text.Text.{Text}
use Rattle.walrus_bodies.proofs.TextLemmas.{whole_row, texts_row}
use Rattle.walrus_bodies.proofs.PlacedLemmas.{ops_found}
use Rattle.walrus_bodies.proofs.PlainLemmas.{texts_plain}

module _ (limits : Limits) (out : LeftOut) (bytes marks : List ℕ) (count : ℕ) (body : IsPlainBody limits out bytes marks count) where
  texts_are : texts_at count bytes ≡ body.texts
  texts_are = ap (λ (n : ℕ). texts_at n bytes) body.counted ∙ texts_row bytes body.texts body.row

  pub whole_so : are_operators count bytes ≡ true
  whole_so = ap (λ (n : ℕ). are_operators n bytes) body.counted ∙ whole_row bytes body.texts body.row

  pub plain_so : (first : ℕ) → are_plain first limits.locals (placed_ops first (texts_at count bytes)) ≡ true
  plain_so first = ap (λ (ts : List wire.Op). are_plain first limits.locals (placed_ops first ts)) texts_are ∙ texts_plain limits first body.texts body.fit body.plain body.nested

  pub shown_so : AreShown out bytes marks (texts_at count bytes)
  shown_so = subst (λ (ts : List wire.Op). AreShown out bytes marks ts) (sym texts_are) body.shown

  pub left_out_so : NameLeftOut out limits.locals (texts_at count bytes)
  left_out_so = subst (λ (ts : List wire.Op). NameLeftOut out limits.locals ts) (sym texts_are) body.named

  pub nested_so : are_nested (ops_of (texts_at count bytes)) ≡ true
  nested_so = ap (λ (ts : List wire.Op). are_nested (ops_of ts)) texts_are ∙ body.nested

  pub simple_so : list_all (λ o. is_plain o.op) (texts_at count bytes) ≡ true
  simple_so = ap (list_all (λ (o : wire.Op). is_plain o.op)) texts_are ∙ body.plain

  pub named_so : (first : ℕ) (names : Lookup) (locals : ℕ → Option ℕ) → AreInPlace limits names → LieFrom first limits.locals locals → named_ops names locals (ops_of (texts_at count bytes)) ≡ Some (placed_ops first (texts_at count bytes))
  named_so first names locals same from =
      subst (λ (ts : List wire.Op). named_ops names locals (ops_of ts) ≡ Some (placed_ops first ts)) (sym texts_are) (ops_found limits first names locals same from body.texts body.fit)

-- ---- of a text

module _ (t : Text) where
  pub whole : are_operators (entry_of t).count (bytes_of t) ≡ true
  whole = ∥∥₁_elim t.body (hlevel props) (λ b. whole_so (limits_at t.code.value t.number) (left_out_of t) (bytes_of t) (marks_of t) (entry_of t).count b)

  pub plain : are_plain t.first_local (entry_of t).locals (placed_ops t.first_local (texts_at (entry_of t).count (bytes_of t))) ≡ true
  plain = ∥∥₁_elim t.body (hlevel props) (λ b. plain_so (limits_at t.code.value t.number) (left_out_of t) (bytes_of t) (marks_of t) (entry_of t).count b t.first_local)

  -- what its marks show
  pub shown_in : IsPlainBody (limits_at t.code.value t.number) (left_out_of t) (bytes_of t) (marks_of t) (entry_of t).count → AreShown (left_out_of t) (bytes_of t) (marks_of t) (texts_at (entry_of t).count (bytes_of t))
  shown_in b = shown_so (limits_at t.code.value t.number) (left_out_of t) (bytes_of t) (marks_of t) (entry_of t).count b

  -- what it names whose marks are left out
  pub left_out_in_text : IsPlainBody (limits_at t.code.value t.number) (left_out_of t) (bytes_of t) (marks_of t) (entry_of t).count → NameLeftOut (left_out_of t) (entry_of t).locals (texts_at (entry_of t).count (bytes_of t))
  left_out_in_text b = left_out_so (limits_at t.code.value t.number) (left_out_of t) (bytes_of t) (marks_of t) (entry_of t).count b
