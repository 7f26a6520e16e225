-- Bodies, each of which knows its place: what is read of them in front is what is spelled, and every such front is read.
use Rattle.std.proofs.Common.{map, ◌≡◌, ℕ, zero, suc, ◌+◌, ◌-◌, ◌<◌, ◌≤◌, List, [], ◌∷◌, ◌++◌, length, refl, sym, ap, subst, ◌∙◌, arith, append_assoc, length-append}
use Rattle.std.proofs.lemmas.List.{append-nil, map-append}
use Rattle.std.specs.Prelude.{Option, Some, None}
use Rattle.wasm_forms.specs.Reading.{◌>>=◌}
use Rattle.wasm_forms.specs.Number.{IsU32}
use Rattle.wasm_forms.specs.Grammar.{Block, U32, at, IsExact}
use Rattle.wasm_forms.proofs.Bind.{some_same, bind_some, bind_at}
use Rattle.wasm_forms.proofs.Exact.{exact}
use Rattle.wasm_frames.specs.declared.record.RawBody.{RawBody}
use Rattle.wasm_frames.specs.Record.{Body, body_record}
use Rattle.wasm_frames.specs.Frames.{IsBody, AreBodies, IsCode}
use Rattle.wasm_frames.specs.Steps.{body_at, bodies_at, code_at}

-- how far a front reaches
pub front_length : (bytes front rest : List ℕ) → bytes ≡ front ++ rest → length bytes - length rest ≡ length front
front_length bytes front rest e = omega (arith, ap length e, length-append front rest)

-- how many bytes stand before the content
pub size_length : (bytes front size content rest : List ℕ) → bytes ≡ front ++ rest → front ≡ size ++ content → length bytes - length rest - length content ≡ length size
size_length bytes front size content rest e f = omega (arith, ap length e, length-append front rest, ap length f, length-append size content)

abbrev body_of : ℕ → List ℕ → List ℕ × List ℕ → Body × List ℕ
body_of place bytes c = (record { start = place + (length bytes - length c.1 - length c.0); bytes = c.0 }, c.1)

pub body_exact : (place : ℕ) → IsExact (IsBody place) (body_at place)
unfolding body_at
body_exact place = record {
  takes = λ bytes x e.
      let p = bind_some (at Block bytes) (λ (c : List ℕ × List ℕ). Some (body_of place bytes c)) x e in
      let u = (exact Block).takes bytes p.0 p.1 in
      let H : Body × List ℕ → Type 0 = λ y. (bytes ≡ u.0 ++ y.1) × IsBody place u.0 y.0 in (
        u.0,
        subst H (some_same (body_of place bytes p.0) x p.2) (
          u.1.0,
          record {
            size = u.1.1.0;
            spelled = u.1.1.1.0;
            sized = u.1.1.1.1;
            starts = ap (λ n. place + n) (size_length bytes u.0 u.1.1.0 p.0.0 p.0.1 u.1.0 u.1.1.1.0);
          },
        ),
      );
  again = λ front rest b h.
      bind_at (at Block (front ++ rest)) (λ c. Some (body_of place (front ++ rest) c)) (b.bytes, rest) ((exact Block).again front rest b.bytes (h.size, (h.spelled, h.sized)))
      ∙ ap (λ n. Some (record { start = n; bytes = b.bytes }, rest)) (ap (λ n. place + n) (size_length (front ++ rest) front h.size b.bytes rest refl h.spelled) ∙ sym h.starts);
}

abbrev more : Body → List Body × List ℕ → Option (List Body × List ℕ)
more b bs = Some (b ∷ bs.0, bs.1)

abbrev onward : ℕ → ℕ → List ℕ → Body × List ℕ → Option (List Body × List ℕ)
onward n place bytes b = bodies_at n (place + (length bytes - length b.1)) b.1 >>= more b.0

bodies_takes : (n place : ℕ) (bytes : List ℕ) (x : List Body × List ℕ) → bodies_at n place bytes ≡ Some x
    → (front : List ℕ) × ((bytes ≡ front ++ x.1) × (AreBodies place front x.0 × (length x.0 ≡ n)))
unfolding bodies_at
bodies_takes zero place bytes x e =
    let H : List Body × List ℕ → Type 0 = λ y. (bytes ≡ [] ++ y.1) × (AreBodies place [] y.0 × (length y.0 ≡ 0)) in
    ([], subst H (some_same ([], bytes) x e) (refl, (refl, refl)))
bodies_takes (suc n) place bytes x e =
    let p = bind_some (body_at place bytes) (onward n place bytes) x e in
    let r = bind_some (bodies_at n (place + (length bytes - length p.0.1)) p.0.1) (more p.0.0) x p.2 in
    let u = (body_exact place).takes bytes p.0 p.1 in
    let w = bodies_takes n (place + (length bytes - length p.0.1)) p.0.1 r.0 r.1 in
    let there : AreBodies (place + length u.0) w.0 r.0.0 = subst (λ (q : ℕ). AreBodies (place + q) w.0 r.0.0) (front_length bytes u.0 p.0.1 u.1.0) w.1.1.0 in
    let H : List Body × List ℕ → Type 0 = λ y. (bytes ≡ (u.0 ++ w.0) ++ y.1) × (AreBodies place (u.0 ++ w.0) y.0 × (length y.0 ≡ suc n)) in
    (u.0 ++ w.0, subst H (some_same (p.0.0 ∷ r.0.0, r.0.1) x r.2) (u.1.0 ∙ ap (λ l. u.0 ++ l) w.1.0 ∙ sym (append_assoc u.0 w.0 r.0.1), ((u.0, (w.0, (refl, u.1.1, there))), ap suc w.1.1.1)))

bodies_again : (n place : ℕ) (front rest : List ℕ) (bs : List Body) → AreBodies place front bs → length bs ≡ n → bodies_at n place (front ++ rest) ≡ Some (bs, rest)
unfolding bodies_at
bodies_again zero place front rest [] h e = rw h refl
bodies_again zero place front rest (b ∷ bs) h e = absurd (omega arith)
bodies_again (suc n) place front rest [] h e = absurd (omega arith)
bodies_again (suc n) place front rest (b ∷ bs) h e =
    let fr = h.0 in
    let bk = h.1.0 in
    let m : length bs ≡ n = omega arith in
    let far : fr ++ (bk ++ rest) ≡ front ++ rest = sym (append_assoc fr bk rest) ∙ ap (λ l. l ++ rest) (sym h.1.1.0) in
    let here : body_at place (front ++ rest) ≡ Some (b, bk ++ rest) = ap (body_at place) (sym far) ∙ (body_exact place).again fr (bk ++ rest) b h.1.1.1 in
    bind_at (body_at place (front ++ rest)) (onward n place (front ++ rest)) (b, bk ++ rest) here
    ∙ ap (λ q. bodies_at n (place + q) (bk ++ rest) >>= more b) (front_length (front ++ rest) fr (bk ++ rest) (sym far))
    ∙ bind_at (bodies_at n (place + length fr) (bk ++ rest)) (more b) (bs, rest) (bodies_again n (place + length fr) bk rest bs h.1.1.2 m)

abbrev at_count : List ℕ → ℕ → Type 0
at_count count n = IsU32 count n

abbrev counted : ℕ → List ℕ → ℕ × List ℕ → Option (List Body × List ℕ)
counted place bytes n = bodies_at n.0 (place + (length bytes - length n.1)) n.1

pub code_exact : (place : ℕ) → IsExact (IsCode place) (code_at place)
unfolding code_at
code_exact place = record {
  takes = λ bytes x e.
      let p = bind_some (at U32 bytes) (counted place bytes) x e in
      let u = (exact U32).takes bytes p.0 p.1 in
      let w = bodies_takes p.0.0 (place + (length bytes - length p.0.1)) p.0.1 x p.2 in (
        u.0 ++ w.0,
        (
          u.1.0 ∙ ap (λ l. u.0 ++ l) w.1.0 ∙ sym (append_assoc u.0 w.0 x.1),
          record {
            count = u.0;
            row = w.0;
            spelled = refl;
            counted = subst (at_count u.0) (sym w.1.1.1) u.1.1;
            bodies = subst (λ (q : ℕ). AreBodies (place + q) w.0 x.0) (front_length bytes u.0 p.0.1 u.1.0) w.1.1.0;
          },
        ),
      );
  again = λ front rest bs h.
      let far : h.count ++ (h.row ++ rest) ≡ front ++ rest = sym (append_assoc h.count h.row rest) ∙ ap (λ l. l ++ rest) (sym h.spelled) in
      let here : at U32 (front ++ rest) ≡ Some (length bs, h.row ++ rest) = ap (at U32) (sym far) ∙ (exact U32).again h.count (h.row ++ rest) (length bs) h.counted in
      bind_at (at U32 (front ++ rest)) (counted place (front ++ rest)) (length bs, h.row ++ rest) here
      ∙ ap (λ q. bodies_at (length bs) (place + q) (h.row ++ rest)) (front_length (front ++ rest) h.count (h.row ++ rest) (sym far))
      ∙ bodies_again (length bs) (place + length h.count) h.row rest bs h.bodies refl;
}

-- the loop that reads them: bodies so far, and behind them those that are left

abbrev behind : List Body → List Body × List ℕ → Option (List Body × List ℕ)
behind done x = Some (done ++ x.0, x.1)

done_more : (done : List Body) (b : Body) (o : Option (List Body × List ℕ)) → (o >>= behind (done ++ b ∷ [])) ≡ ((o >>= more b) >>= behind done)
done_more done b None = refl
done_more done b (Some x) = ap (λ l. Some (l, x.1)) (append_assoc done (b ∷ []) x.0)

-- what stands behind a body is no longer than what began with it
pub body_shorter : (place : ℕ) (bytes rest : List ℕ) (b : Body) → body_at place bytes ≡ Some (b, rest) → length rest ≤ length bytes
body_shorter place bytes rest b e =
    let u = (body_exact place).takes bytes (b, rest) e in
    omega (arith, ap length u.1.0, length-append u.0 rest)

-- a turn of the loop takes the first of the bodies that are left
pub bodies_more : (left place : ℕ) (bytes rest : List ℕ) (done : List Body) (b : Body) → 0 < left → body_at place bytes ≡ Some (b, rest)
    → (bodies_at (left - 1) (place + (length bytes - length rest)) rest >>= behind (done ++ b ∷ [])) ≡ (bodies_at left place bytes >>= behind done)
unfolding bodies_at
bodies_more zero place bytes rest done b h e = absurd (omega arith)
bodies_more (suc n) place bytes rest done b h e =
    let m : suc n - 1 ≡ n = omega arith in
    let here : (body_at place bytes >>= onward n place bytes) ≡ onward n place bytes (b, rest) = bind_at (body_at place bytes) (onward n place bytes) (b, rest) e in
    ap (λ q. bodies_at q (place + (length bytes - length rest)) rest >>= behind (done ++ b ∷ [])) m
    ∙ done_more done b (bodies_at n (place + (length bytes - length rest)) rest)
    ∙ ap (λ o. o >>= behind done) (sym here)

-- where no body stands, and one is left, the bodies don't stand there
pub bodies_stop : (left place : ℕ) (bytes : List ℕ) (done : List Body) → 0 < left → body_at place bytes ≡ None → (bodies_at left place bytes >>= behind done) ≡ None
unfolding bodies_at
bodies_stop zero place bytes done h e = absurd (omega arith)
bodies_stop (suc n) place bytes done h e = ap (λ o. (o >>= onward n place bytes) >>= behind done) e

pub bodies_end : (place : ℕ) (bytes : List ℕ) (done : List Body) → (bodies_at 0 place bytes >>= behind done) ≡ Some (done, bytes)
unfolding bodies_at
bodies_end place bytes done = ap (λ l. Some (l, bytes)) (append-nil done)

-- a turn of the loop, in the numbers that it counts with
pub bodies_turn : (count index place total : ℕ) (rest after : List ℕ) (items new : List RawBody) (body : RawBody) (all : Option (List Body × List ℕ))
    → index < count → length rest ≤ total → body_at (place + (total - length rest)) rest ≡ Some (body_record body, after) → new ≡ items ++ body ∷ []
    → (bodies_at (count - index) (place + (total - length rest)) rest >>= behind (map body_record items)) ≡ all
    → (bodies_at (count - (index + 1)) (place + (total - length after)) after >>= behind (map body_record new)) ≡ all
bodies_turn count index place total rest after items new body all more_left within e grown left =
    let shorter = body_shorter (place + (total - length rest)) rest after (body_record body) e in
    let fewer : count - (index + 1) ≡ (count - index) - 1 = omega arith in
    let further : place + (total - length after) ≡ (place + (total - length rest)) + (length rest - length after) = omega arith in
    let seen : map body_record new ≡ map body_record items ++ body_record body ∷ [] = ap (map body_record) grown ∙ map-append body_record items (body ∷ []) in
    rw (fewer, further, seen) (bodies_more (count - index) (place + (total - length rest)) rest after (map body_record items) (body_record body) (omega arith) e ∙ left)

pub bodies_over : (left place : ℕ) (bytes : List ℕ) (done : List Body) (all : Option (List Body × List ℕ)) → left ≡ 0
    → (bodies_at left place bytes >>= behind done) ≡ all → all ≡ Some (done, bytes)
bodies_over left place bytes done all none e = sym e ∙ ap (λ q. bodies_at q place bytes >>= behind done) none ∙ bodies_end place bytes done
