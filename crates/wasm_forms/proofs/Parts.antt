-- Forms put together from exact ones are exact.
use Rattle.std.proofs.Common.{◌≡◌, ℕ, zero, suc, ◌≤◌, Bool, true, false, List, [], ◌∷◌, ◌++◌, length, take, drop, ltb, eqb, refl, sym, ap, ap₂, subst, ◌∙◌, arith, append_assoc, ltb-false, le-ltb, eqb-true, eq-eqb, length-append, length-take-le, take-append-drop}
use Rattle.std.proofs.Math.Seq.{take-append_seam, drop-append_seam}
use Rattle.std.specs.Prelude.{Option, Some, None, if◌then◌else◌, nat_lt}
use Rattle.wasm_forms.specs.Reading.{◌>>=◌, byte_at}
use Rattle.wasm_forms.specs.Number.{IsU32, number_at}
use Rattle.wasm_forms.specs.Grammar.{IsExact, IsRow, row_at, bytes_at, IsBlock, block_at, IsUntil, until_at}
use Rattle.wasm_forms.proofs.Bind.{some_same, bind_some, bind_at, if_some, byte_takes}
use Rattle.wasm_forms.proofs.Leb.{number_exact}

abbrev Reader : Type 0 → Type 0
Reader A = List ℕ → Option (A × List ℕ)

pub fails_exact : {A : Type 0} → IsExact {A = A} (λ bytes a. ⊥) (λ bytes. None)
fails_exact = record { takes = λ bytes x e. cc; again = λ front rest a h. absurd h }

pub gives_exact : {A : Type 0} (v : A) → IsExact (λ bytes a. (bytes ≡ []) × (a ≡ v)) (λ bytes. Some (v, bytes))
gives_exact v = record {
  takes = λ bytes x e. let p : (v, bytes) ≡ x = some_same _ _ e in ([], (ap (λ y. y.1) p, (refl, sym (ap (λ y. y.0) p))));
  again = λ front rest a h. rw (h.0, h.1) refl;
}

pub byte_exact : IsExact (λ bytes a. bytes ≡ a ∷ []) byte_at
byte_exact = record {
  takes = λ bytes x e. (x.0 ∷ [], (byte_takes bytes x e, refl));
  again = λ front rest a h. rw h refl;
}

pub led_exact : {A B : Type 0} (F : List ℕ → B → Type 0) (f : Reader B) (G : B → List ℕ → A → Type 0) (g : B → Reader A) → IsExact F f → ((b : B) → IsExact (G b) (g b))
    → IsExact (λ bytes a. (b : B) × ((front : List ℕ) × ((back : List ℕ) × ((bytes ≡ front ++ back) × F front b × G b back a)))) (λ bytes. f bytes >>= λ x. g x.0 x.1)
led_exact F f G g ef eg = record {
  takes = λ bytes x e.
      let p = bind_some (f bytes) (λ y. g y.0 y.1) x e in
      let q = ef.takes bytes p.0 p.1 in
      let r = (eg p.0.0).takes p.0.1 x p.2 in
      (q.0 ++ r.0, (q.1.0 ∙ ap (λ l. q.0 ++ l) r.1.0 ∙ sym (append_assoc q.0 r.0 x.1), (p.0.0, (q.0, (r.0, (refl, q.1.1, r.1.1))))));
  again = λ front rest a h.
      let b = h.0 in
      let fr = h.1.0 in
      let bk = h.1.1.0 in
      ap (λ l. f (l ++ rest) >>= λ x. g x.0 x.1) h.1.1.1.0 ∙ ap (λ l. f l >>= λ x. g x.0 x.1) (append_assoc fr bk rest) ∙ bind_at (f (fr ++ (bk ++ rest))) (λ x. g x.0 x.1) (b, bk ++ rest) (ef.again fr (bk ++ rest) b h.1.1.1.1) ∙ (eg b).again bk rest a h.1.1.1.2;
}

pub then_exact : {A B : Type 0} (F : List ℕ → A → Type 0) (f : Reader A) (G : List ℕ → B → Type 0) (g : Reader B) → IsExact F f → IsExact G g
    → IsExact {A = A × B} (λ bytes a. (front : List ℕ) × ((back : List ℕ) × ((bytes ≡ front ++ back) × F front a.0 × G back a.1))) (λ bytes. f bytes >>= λ x. g x.1 >>= λ y. Some ((x.0, y.0), y.1))
then_exact {A} {B} F f G g ef eg = record {
  takes = λ bytes x e.
      let p = bind_some (f bytes) (λ (y : A × List ℕ). g y.1 >>= λ z. Some ((y.0, z.0), z.1)) x e in
      let r = bind_some (g p.0.1) (λ (z : B × List ℕ). Some ((p.0.0, z.0), z.1)) x p.2 in
      let s = some_same ((p.0.0, r.0.0), r.0.1) x r.2 in
      let u = ef.takes bytes p.0 p.1 in
      let w = eg.takes p.0.1 r.0 r.1 in
      let H : (A × B) × List ℕ → Type 0 = λ y. (bytes ≡ (u.0 ++ w.0) ++ y.1) × ((front : List ℕ) × ((back : List ℕ) × ((u.0 ++ w.0 ≡ front ++ back) × F front y.0.0 × G back y.0.1))) in
      (u.0 ++ w.0, subst H s (u.1.0 ∙ ap (λ l. u.0 ++ l) w.1.0 ∙ sym (append_assoc u.0 w.0 r.0.1), (u.0, (w.0, (refl, u.1.1, w.1.1)))));
  again = λ front rest a h.
      let fr = h.0 in
      let bk = h.1.0 in
      let k : A × List ℕ → Option ((A × B) × List ℕ) = λ x. g x.1 >>= λ y. Some ((x.0, y.0), y.1) in
      ap (λ l. f (l ++ rest) >>= k) h.1.1.0 ∙ ap (λ l. f l >>= k) (append_assoc fr bk rest) ∙ bind_at (f (fr ++ (bk ++ rest))) k (a.0, bk ++ rest) (ef.again fr (bk ++ rest) a.0 h.1.1.1)
      ∙ bind_at (g (bk ++ rest)) (λ y. Some ((a.0, y.0), y.1)) (a.1, rest) (eg.again bk rest a.1 h.1.1.2);
}

pub made_exact : {A B : Type 0} (make : B → A) (F : List ℕ → B → Type 0) (f : Reader B) → IsExact F f → IsExact (λ bytes a. (b : B) × ((a ≡ make b) × F bytes b)) (λ bytes. f bytes >>= λ x. Some (make x.0, x.1))
made_exact {A} {B} make F f ef = record {
  takes = λ bytes x e.
      let p = bind_some (f bytes) (λ (y : B × List ℕ). Some (make y.0, y.1)) x e in
      let s = some_same (make p.0.0, p.0.1) x p.2 in
      let u = ef.takes bytes p.0 p.1 in
      let H : A × List ℕ → Type 0 = λ y. (bytes ≡ u.0 ++ y.1) × ((b : B) × ((y.0 ≡ make b) × F u.0 b)) in
      (u.0, subst H s (u.1.0, (p.0.0, (refl, u.1.1))));
  again = λ front rest a h. bind_at (f (front ++ rest)) (λ x. Some (make x.0, x.1)) (h.0, rest) (ef.again front rest h.0 h.1.1) ∙ ap (λ y. Some (y, rest)) (sym h.1.0);
}

pub where_exact : {A : Type 0} (test : A → Bool) (F : List ℕ → A → Type 0) (f : Reader A) → IsExact F f → IsExact (λ bytes a. F bytes a × (test a ≡ true)) (λ bytes. f bytes >>= λ x. if test x.0 then Some x else None)
where_exact {A} test F f ef = record {
  takes = λ bytes x e.
      let p = bind_some (f bytes) (λ (y : A × List ℕ). if test y.0 then Some y else None) x e in
      let q = if_some (test p.0.0) p.0 x p.2 in
      let u = ef.takes bytes p.0 p.1 in
      let H : A × List ℕ → Type 0 = λ y. (bytes ≡ u.0 ++ y.1) × (F u.0 y.0 × (test y.0 ≡ true)) in
      (u.0, subst H q.1 (u.1.0, (u.1.1, q.0)));
  again = λ front rest a h. bind_at (f (front ++ rest)) (λ x. if test x.0 then Some x else None) (a, rest) (ef.again front rest a h.0) ∙ ap (λ t. if t then Some (a, rest) else None) h.1;
}

pub row_takes : {A : Type 0} (F : List ℕ → A → Type 0) (f : Reader A) → IsExact F f → (n : ℕ) (bytes : List ℕ) (x : List A × List ℕ) → row_at f n bytes ≡ Some x
    → (front : List ℕ) × ((bytes ≡ front ++ x.1) × (IsRow F front x.0 × (length x.0 ≡ n)))
unfolding row_at
row_takes {A} F f ef zero bytes x e =
    let s = some_same ([], bytes) x e in
    let H : List A × List ℕ → Type 0 = λ y. (bytes ≡ [] ++ y.1) × (IsRow F [] y.0 × (length y.0 ≡ 0)) in
    ([], subst H s (refl, (refl, refl)))
row_takes {A} F f ef (suc n) bytes x e =
    let p = bind_some (f bytes) (λ (y : A × List ℕ). row_at f n y.1 >>= λ ys. Some (y.0 ∷ ys.0, ys.1)) x e in
    let r = bind_some (row_at f n p.0.1) (λ (ys : List A × List ℕ). Some (p.0.0 ∷ ys.0, ys.1)) x p.2 in
    let s = some_same (p.0.0 ∷ r.0.0, r.0.1) x r.2 in
    let u = ef.takes bytes p.0 p.1 in
    let w = row_takes F f ef n p.0.1 r.0 r.1 in
    let H : List A × List ℕ → Type 0 = λ y. (bytes ≡ (u.0 ++ w.0) ++ y.1) × (IsRow F (u.0 ++ w.0) y.0 × (length y.0 ≡ suc n)) in
    (u.0 ++ w.0, subst H s (u.1.0 ∙ ap (λ l. u.0 ++ l) w.1.0 ∙ sym (append_assoc u.0 w.0 r.0.1), ((u.0, (w.0, (refl, u.1.1, w.1.1.0))), ap suc w.1.1.1)))

pub row_again : {A : Type 0} (F : List ℕ → A → Type 0) (f : Reader A) → IsExact F f → (n : ℕ) (front rest : List ℕ) (xs : List A) → IsRow F front xs → length xs ≡ n → row_at f n (front ++ rest) ≡ Some (xs, rest)
unfolding row_at
row_again F f ef zero front rest [] h e = rw h refl
row_again F f ef zero front rest (x ∷ xs) h e = absurd (omega arith)
row_again F f ef (suc n) front rest [] h e = absurd (omega arith)
row_again {A} F f ef (suc n) front rest (x ∷ xs) h e =
    let fr = h.0 in
    let bk = h.1.0 in
    let m : length xs ≡ n = omega arith in
    let k : A × List ℕ → Option (List A × List ℕ) = λ y. row_at f n y.1 >>= λ ys. Some (y.0 ∷ ys.0, ys.1) in
    ap (λ l. f (l ++ rest) >>= k) h.1.1.0 ∙ ap (λ l. f l >>= k) (append_assoc fr bk rest) ∙ bind_at (f (fr ++ (bk ++ rest))) k (x, bk ++ rest) (ef.again fr (bk ++ rest) x h.1.1.1)
    ∙ bind_at (row_at f n (bk ++ rest)) (λ ys. Some (x ∷ ys.0, ys.1)) (xs, rest) (row_again F f ef n bk rest xs h.1.1.2 m)

pub row_exact : {A : Type 0} (F : List ℕ → A → Type 0) (f : Reader A) → IsExact F f → (n : ℕ) → IsExact (λ bytes xs. IsRow F bytes xs × (length xs ≡ n)) (row_at f n)
row_exact F f ef n = record { takes = row_takes F f ef n; again = λ front rest xs h. row_again F f ef n front rest xs h.0 h.1 }

bytes_takes_at : (n : ℕ) (bytes : List ℕ) (x : List ℕ × List ℕ) → (t : Bool) → ltb (length bytes) n ≡ t → (if t then None else Some (take n bytes, drop n bytes)) ≡ Some x
    → (front : List ℕ) × ((bytes ≡ front ++ x.1) × ((x.0 ≡ front) × (length front ≡ n)))
bytes_takes_at n bytes x true h e = cc
bytes_takes_at n bytes x false h e =
    let s = some_same (take n bytes, drop n bytes) x e in
    let l : n ≤ length bytes = ltb-false (length bytes) n h in
    let H : List ℕ × List ℕ → Type 0 = λ y. (bytes ≡ take n bytes ++ y.1) × ((y.0 ≡ take n bytes) × (length (take n bytes) ≡ n)) in
    (take n bytes, subst H s (sym (take-append-drop n bytes), (refl, length-take-le n bytes l)))

pub bytes_exact : (n : ℕ) → IsExact (λ bytes a. (a ≡ bytes) × (length bytes ≡ n)) (bytes_at n)
unfolding bytes_at
bytes_exact n = record {
  takes = λ bytes x e. bytes_takes_at n bytes x (ltb (length bytes) n) refl e;
  again = λ front rest a h.
      let no : ltb (length (front ++ rest)) (length front) ≡ false = le-ltb (length (front ++ rest)) (length front) (omega (arith, length-append front rest)) in
      ap (λ k. if nat_lt (length (front ++ rest)) k then None else Some (take k (front ++ rest), drop k (front ++ rest))) (sym h.1)
      ∙ ap (λ t. if t then None else Some (take (length front) (front ++ rest), drop (length front) (front ++ rest))) no
      ∙ ap₂ (λ b c. Some (b, c)) (take-append_seam front rest) (drop-append_seam front rest) ∙ ap (λ b. Some (b, rest)) (sym h.0);
}

block_takes_at : (bytes : List ℕ) (n : ℕ × List ℕ) (x : List ℕ × List ℕ) → (count : List ℕ) × ((bytes ≡ count ++ n.1) × IsU32 count n.0) → (t : Bool) → ltb (length n.1) n.0 ≡ t
    → (if t then None else Some (take n.0 n.1, drop n.0 n.1)) ≡ Some x → (front : List ℕ) × ((bytes ≡ front ++ x.1) × IsBlock front x.0)
block_takes_at bytes n x p true h e = cc
block_takes_at bytes n x p false h e =
    let s = some_same (take n.0 n.1, drop n.0 n.1) x e in
    let l : n.0 ≤ length n.1 = ltb-false (length n.1) n.0 h in
    let len : length (take n.0 n.1) ≡ n.0 = length-take-le n.0 n.1 l in
    let H : List ℕ × List ℕ → Type 0 = λ y. (bytes ≡ (p.0 ++ take n.0 n.1) ++ y.1) × IsBlock (p.0 ++ take n.0 n.1) y.0 in
    (p.0 ++ take n.0 n.1, subst H s (p.1.0 ∙ ap (λ l. p.0 ++ l) (sym (take-append-drop n.0 n.1)) ∙ sym (append_assoc p.0 (take n.0 n.1) (drop n.0 n.1)), (p.0, (refl, subst (λ k. IsU32 p.0 k) (sym len) p.1.1))))

pub block_exact : IsExact IsBlock block_at
unfolding block_at
block_exact = record {
  takes = λ bytes x e.
      let p = bind_some (number_at 5 4294967296 bytes) (λ n. if nat_lt (length n.1) n.0 then None else Some (take n.0 n.1, drop n.0 n.1)) x e in
      block_takes_at bytes p.0 x ((number_exact 5 4294967296).takes bytes p.0 p.1) (ltb (length p.0.1) p.0.0) refl p.2;
  again = λ front rest content h.
      let k : ℕ × List ℕ → Option (List ℕ × List ℕ) = λ n. if nat_lt (length n.1) n.0 then None else Some (take n.0 n.1, drop n.0 n.1) in
      let no : ltb (length (content ++ rest)) (length content) ≡ false = le-ltb (length (content ++ rest)) (length content) (omega (arith, length-append content rest)) in
      ap (λ l. number_at 5 4294967296 (l ++ rest) >>= k) h.1.0 ∙ ap (λ l. number_at 5 4294967296 l >>= k) (append_assoc h.0 content rest)
      ∙ bind_at (number_at 5 4294967296 (h.0 ++ (content ++ rest))) k (length content, content ++ rest) ((number_exact 5 4294967296).again h.0 (content ++ rest) (length content) h.1.1)
      ∙ ap (λ t. if t then None else Some (take (length content) (content ++ rest), drop (length content) (content ++ rest))) no
      ∙ ap₂ (λ a b. Some (a, b)) (take-append_seam content rest) (drop-append_seam content rest);
}

abbrev UntilFound : {A : Type 0} → (ℕ → List ℕ → A → Type 0) → ℕ → List ℕ → List A × List ℕ → Type 0
UntilFound R stop bytes x = (front : List ℕ) × ((bytes ≡ front ++ x.1) × IsUntil R stop front x.0)

until_step : {A : Type 0} (R : ℕ → List ℕ → A → Type 0) (p : ℕ → Reader A) → ((b : ℕ) → IsExact (R b) (p b)) → (stop most b : ℕ) (rest : List ℕ) (x : List A × List ℕ)
    → ((bytes : List ℕ) (y : List A × List ℕ) → until_at p stop most bytes ≡ Some y → UntilFound R stop bytes y) → (t : Bool) → eqb b stop ≡ t
    → (if t then Some ([], rest) else (p b rest >>= λ y. until_at p stop most y.1 >>= λ ys. Some (y.0 ∷ ys.0, ys.1))) ≡ Some x → UntilFound R stop (b ∷ rest) x
until_step {A} R p ep stop most b rest x more true h e =
    let s = some_same ([], rest) x e in
    let same : b ≡ stop = eqb-true b stop h in
    let H : List A × List ℕ → Type 0 = λ y. (b ∷ rest ≡ (stop ∷ []) ++ y.1) × IsUntil R stop (stop ∷ []) y.0 in
    (stop ∷ [], subst H s (ap (λ k. k ∷ rest) same, refl))
until_step {A} R p ep stop most b rest x more false h e =
    let v = bind_some (p b rest) (λ (y : A × List ℕ). until_at p stop most y.1 >>= λ ys. Some (y.0 ∷ ys.0, ys.1)) x e in
    let r = bind_some (until_at p stop most v.0.1) (λ (ys : List A × List ℕ). Some (v.0.0 ∷ ys.0, ys.1)) x v.2 in
    let s = some_same (v.0.0 ∷ r.0.0, r.0.1) x r.2 in
    let u = (ep b).takes rest v.0 v.1 in
    let w = more v.0.1 r.0 r.1 in
    let H : List A × List ℕ → Type 0 = λ y. (b ∷ rest ≡ (b ∷ (u.0 ++ w.0)) ++ y.1) × IsUntil R stop (b ∷ (u.0 ++ w.0)) y.0 in
    (b ∷ (u.0 ++ w.0), subst H s (ap (λ l. b ∷ l) (u.1.0 ∙ ap (λ l. u.0 ++ l) w.1.0 ∙ sym (append_assoc u.0 w.0 r.0.1)), (b, (u.0, (w.0, (refl, h, u.1.1, w.1.1))))))

pub until_takes : {A : Type 0} (R : ℕ → List ℕ → A → Type 0) (p : ℕ → Reader A) → ((b : ℕ) → IsExact (R b) (p b)) → (stop most : ℕ) (bytes : List ℕ) (x : List A × List ℕ) → until_at p stop most bytes ≡ Some x → UntilFound R stop bytes x
unfolding until_at
until_takes R p ep stop zero bytes x e = cc
until_takes R p ep stop (suc most) [] x e = cc
until_takes R p ep stop (suc most) (b ∷ rest) x e = until_step R p ep stop most b rest x (until_takes R p ep stop most) (eqb b stop) refl e

pub until_again : {A : Type 0} (R : ℕ → List ℕ → A → Type 0) (p : ℕ → Reader A) → ((b : ℕ) → IsExact (R b) (p b)) → (stop most : ℕ) (front rest : List ℕ) (xs : List A) → IsUntil R stop front xs → length front ≤ most
    → until_at p stop most (front ++ rest) ≡ Some (xs, rest)
unfolding until_at
until_again R p ep stop zero front rest [] h l = absurd (omega (arith, ap length h))
until_again R p ep stop zero front rest (x ∷ xs) h l = absurd (omega (arith, ap length h.1.1.1.0))
until_again R p ep stop (suc most) front rest [] h l = rw (h, eq-eqb stop stop refl) refl
until_again {A} R p ep stop (suc most) front rest (x ∷ xs) h l =
    let b = h.0 in
    let fr = h.1.0 in
    let bk = h.1.1.0 in
    let parts = h.1.1.1 in
    let short : length bk ≤ most = omega (arith, ap length parts.0, length-append fr bk) in
    let k : A × List ℕ → Option (List A × List ℕ) = λ y. until_at p stop most y.1 >>= λ ys. Some (y.0 ∷ ys.0, ys.1) in
    ap (λ l. until_at p stop (suc most) (l ++ rest)) parts.0
    ∙ ap (λ t. if t then Some ([], (fr ++ bk) ++ rest) else (p b ((fr ++ bk) ++ rest) >>= k)) parts.1
    ∙ ap (λ l. p b l >>= k) (append_assoc fr bk rest)
    ∙ bind_at (p b (fr ++ (bk ++ rest))) k (x, bk ++ rest) ((ep b).again fr (bk ++ rest) x parts.2)
    ∙ bind_at (until_at p stop most (bk ++ rest)) (λ ys. Some (x ∷ ys.0, ys.1)) (xs, rest) (until_again R p ep stop most bk rest xs parts.3 short)

pub until_exact : {A : Type 0} (R : ℕ → List ℕ → A → Type 0) (p : ℕ → Reader A) → ((b : ℕ) → IsExact (R b) (p b)) → (stop : ℕ) → IsExact (IsUntil R stop) (λ bytes. until_at p stop (length bytes) bytes)
until_exact R p ep stop = record {
  takes = λ bytes x e. until_takes R p ep stop (length bytes) bytes x e;
  again = λ front rest xs h. until_again R p ep stop (length (front ++ rest)) front rest xs h (omega (arith, length-append front rest));
}
