-- The bodies of a code stay what they are when one comes behind them.
use Rattle.std.proofs.Common.{◌≡◌, Bool, cond, ℕ, zero, suc, ◌+◌, ◌-◌, ◌≤◌, List, [], ◌∷◌, ◌++◌, length, take, drop, refl, sym, ap, ap₂, subst, ◌∙◌, arith, length-append, inl, inr}
use Rattle.std.specs.Prelude.{◌⊎◌, slice_index_or}
use Rattle.std.specs.List.{All}
use Rattle.std.proofs.Math.Logic.{∥∥₁_elim}
use Rattle.std.proofs.Math.Seq.{drop-append_seam, take-length}
use Rattle.std.proofs.Props.{props}
use Rattle.std.proofs.lemmas.List.{drop-append-le, take-append-le, length-drop}
use Rattle.std.proofs.lemmas.List.Elements.{All-append}
use Rattle.walrus_base.proofs.Indexed.{either}
use Rattle.wasm_text.specs.Places.{between}
use Rattle.wasm_text.specs.declared.limits.Limits.{Limits}
use Rattle.walrus_bodies.specs.LeftOut.{unpacked}
use Rattle.walrus_bodies.specs.PlainBody.{IsHeld, IsPlainBody, with_locals}
use Rattle.walrus_bodies.specs.PlainCode.{IsBehind, entry_at, limits_at, bytes_at, marks_at, nowhere}
use Rattle.walrus_bodies.specs.declared.plain_code.Entry.{Entry}
use Rattle.walrus_bodies.specs.declared.plain_code.LeftOut.{LeftOut}
use Rattle.walrus_bodies.specs.declared.plain_code.PlainCode.{PlainCode}

none_held : (limits : Limits) (bytes marks : List ℕ) → IsHeld limits bytes marks nowhere
none_held limits bytes marks = record {
  marks_forward = omega arith;
  marks_within = omega arith;
  body = inl refl;
}

one : {X : Type 0} (P : X → Type 0) (x : X) → P x → All P (x ∷ [])
one P x is zero d low = is
one P x is (suc k) d low = absurd (omega (arith, low))

held_or : {X : Type 0} (P : X → Type 0) (xs : List X) (n : ℕ) (d : X) → All P xs → P d → P (slice_index_or xs n d)
held_or P [] n d all is = is
held_or P (x ∷ xs) zero d all is = all zero d (omega arith)
held_or P (x ∷ xs) (suc n) d all is = held_or P xs n d (λ k e low. all (suc k) e (omega (arith, low))) is

-- ---- what stands in front stays

between_kept : (begin end : ℕ) (xs ys : List ℕ) → begin ≤ end → end ≤ length xs → between begin end (xs ++ ys) ≡ between begin end xs
between_kept begin end xs ys forward within =
    let low : begin ≤ length xs = omega (arith, forward, within) in
    let long = length-drop begin xs in
    let enough : end - begin ≤ length (drop begin xs) = omega (arith, long, forward, within) in
    ap (take (end - begin)) (drop-append-le begin xs ys low) ∙ take-append-le (end - begin) (drop begin xs) ys enough

between_behind : (begin end : ℕ) (xs ys : List ℕ) → begin ≡ length xs → end ≡ length xs + length ys → between begin end (xs ++ ys) ≡ ys
between_behind begin end xs ys b e =
    let many : end - begin ≡ length ys = omega (arith, b, e) in
    ap₂ take many (ap (λ (n : ℕ). drop n (xs ++ ys)) b ∙ drop-append_seam xs ys) ∙ take-length ys

body_kept : (limits : Limits) (bytes marks others : List ℕ) (e : Entry) → IsHeld limits bytes marks e → IsHeld limits bytes (marks ++ others) e
body_kept limits bytes marks others e h =
    let many = length-append marks others in
    record {
      marks_forward = h.marks_forward;
      marks_within = let w = h.marks_within in omega (arith, many, w);
      body = moved h.body;
    }
  where
    here : List ℕ
    here = between e.begin e.end bytes

    marks_same : between e.first_mark e.last_mark marks ≡ between e.first_mark e.last_mark (marks ++ others)
    marks_same = sym (between_kept e.first_mark e.last_mark marks others h.marks_forward h.marks_within)

    moved : (e.count ≡ 0) ⊎ IsPlainBody (with_locals limits e.locals) (unpacked e.left_out) here (between e.first_mark e.last_mark marks) e.count
        → (e.count ≡ 0) ⊎ IsPlainBody (with_locals limits e.locals) (unpacked e.left_out) here (between e.first_mark e.last_mark (marks ++ others)) e.count
    moved (inl none) = inl none
    moved (inr b) = inr (subst (λ (ms : List ℕ). IsPlainBody (with_locals limits e.locals) (unpacked e.left_out) here ms e.count) marks_same b)

all_kept : (limits : Limits) (bytes marks others : List ℕ) (es : List Entry) → All (IsHeld limits bytes marks) es → All (IsHeld limits bytes (marks ++ others)) es
all_kept limits bytes marks others es all k d low = body_kept limits bytes marks others (slice_index_or es k d) (all k d low)

-- ---- one body more

pub none_more : (limits : Limits) (bytes marks : List ℕ) (old new : List Entry) → new ≡ old ++ nowhere ∷ [] → ∥ All (IsHeld limits bytes marks) old ∥₁ → ∥ All (IsHeld limits bytes marks) new ∥₁
none_more limits bytes marks old new same held =
    ∥∥₁_elim held (hlevel props) (λ all. ∣ subst (All (IsHeld limits bytes marks)) (sym same) (All-append (IsHeld limits bytes marks) old (nowhere ∷ []) all (one (IsHeld limits bytes marks) nowhere (none_held limits bytes marks))) ∣₁)

-- or none, where no memory is left
pub none_or_one : (limits : Limits) (bytes marks : List ℕ) (ok : Bool) (old new : List Entry) → new ≡ cond ok (old ++ nowhere ∷ []) old → ∥ All (IsHeld limits bytes marks) old ∥₁ → ∥ All (IsHeld limits bytes marks) new ∥₁
none_or_one limits bytes marks ok old new is held =
    either (λ (es : List Entry). ∥ All (IsHeld limits bytes marks) es ∥₁) ok new (old ++ nowhere ∷ []) old is (none_more limits bytes marks old (old ++ nowhere ∷ []) refl held) held

-- marks alone
pub marks_more : (limits : Limits) (bytes marks others new : List ℕ) (es : List Entry) → new ≡ marks ++ others → ∥ All (IsHeld limits bytes marks) es ∥₁ → ∥ All (IsHeld limits bytes new) es ∥₁
marks_more limits bytes marks others new es same held =
    ∥∥₁_elim held (hlevel props) (λ all. ∣ subst (λ (ms : List ℕ). All (IsHeld limits bytes ms) es) (sym same) (all_kept limits bytes marks others es all) ∣₁)

module _ (code : PlainCode) (bytes marks : List ℕ) (count start locals : ℕ) (out : LeftOut) (entry : Entry) (behind : IsBehind code bytes marks count start locals out entry) (plain : IsPlainBody (with_locals code.limits locals) out bytes marks count) where
  abbrev pub kept : List ℕ
  kept = code.bytes.value.items

  abbrev pub all_marks : List ℕ
  all_marks = code.marks.items ++ marks

  abbrev shown : List ℕ
  shown = between entry.first_mark entry.last_mark all_marks

  new_held : IsHeld code.limits kept all_marks entry
  new_held = record {
    marks_forward = let b = behind.first in let e = behind.last in omega (arith, b, e);
    marks_within = let long : length all_marks ≡ length code.marks.items + length marks = length-append code.marks.items marks in let e = behind.last in omega (arith, long, e);
    body = inr (subst (λ (n : ℕ). IsPlainBody (with_locals code.limits n) (unpacked entry.left_out) (between entry.begin entry.end kept) shown entry.count) (sym behind.locals_are)
        (subst (λ (o : LeftOut). IsPlainBody (with_locals code.limits locals) o (between entry.begin entry.end kept) shown entry.count) (sym behind.left_out_is)
        (subst (λ (n : ℕ). IsPlainBody (with_locals code.limits locals) out (between entry.begin entry.end kept) shown n) (sym behind.counted)
        (subst (λ (bs : List ℕ). IsPlainBody (with_locals code.limits locals) out bs shown count) (sym behind.stands)
        (subst (λ (ms : List ℕ). IsPlainBody (with_locals code.limits locals) out bytes ms count) (sym (between_behind entry.first_mark entry.last_mark code.marks.items marks behind.first behind.last)) plain)))));
  }

  pub one_more : (new_marks : List ℕ) (new : List Entry) → new_marks ≡ all_marks → new ≡ code.entries.items ++ entry ∷ [] → ∥ All (IsHeld code.limits kept new_marks) new ∥₁
  one_more new_marks new m e =
      ∥∥₁_elim code.held (hlevel props) (λ all. ∣ rw (m, e) (All-append (IsHeld code.limits kept all_marks) code.entries.items (entry ∷ []) (all_kept code.limits kept code.marks.items marks code.entries.items all) (one (IsHeld code.limits kept all_marks) entry new_held)) ∣₁)

-- ---- one of them

module _ (code : PlainCode) (number : ℕ) (some : (entry_at code number).count ≡ 0 → ⊥) where
  there : (h : IsHeld code.limits code.bytes.value.items code.marks.items (entry_at code number)) → IsPlainBody (limits_at code number) (unpacked (entry_at code number).left_out) (bytes_at code number) (marks_at code number) (entry_at code number).count
  there h = of_body h.body
    where
      of_body : ((entry_at code number).count ≡ 0) ⊎ IsPlainBody (limits_at code number) (unpacked (entry_at code number).left_out) (bytes_at code number) (marks_at code number) (entry_at code number).count
          → IsPlainBody (limits_at code number) (unpacked (entry_at code number).left_out) (bytes_at code number) (marks_at code number) (entry_at code number).count
      of_body (inl none) = absurd (some none)
      of_body (inr b) = b

  pub found : ∥ IsPlainBody (limits_at code number) (unpacked (entry_at code number).left_out) (bytes_at code number) (marks_at code number) (entry_at code number).count ∥₁
  found = ∥∥₁_elim code.held (hlevel props) (λ all. ∣ there (held_or (IsHeld code.limits code.bytes.value.items code.marks.items) code.entries.items number nowhere all (none_held code.limits code.bytes.value.items code.marks.items)) ∣₁)
