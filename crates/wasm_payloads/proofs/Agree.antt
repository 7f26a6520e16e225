-- What is told by the steps is what is said by the relations: part by part.
use Rattle.std.proofs.Common.{◌≡◌, ℕ, zero, suc, ◌+◌, ◌≤◌, ◌<◌, List, [], ◌∷◌, ◌++◌, length, refl, sym, ap, ap₂, subst, ◌∙◌, arith, ◌⊎◌, inl, inr}
use Rattle.std.specs.Prelude.{Option, Some, None}
use Rattle.wasm_forms.specs.Grammar.{Form, U32, at}
use Rattle.wasm_forms.proofs.Bind.{some_not_none}
use Rattle.wasm_forms.proofs.Exact.{exact}
use Rattle.wasm_payloads.specs.Fault.{Lacks, Tells, Behind, Times, Counted, Through, Inside, Alone, closed}
use Rattle.wasm_payloads.specs.Steps.{Told, led, behind_at, onward, times_at, counted_at, inside_at, one, alone}

pub record Agrees {A : Type 0} (T : List ℕ → List A → Option (List ℕ) → Type 0) (t : List ℕ → Told A) : Type 0 where
  pub holds : (bytes : List ℕ) → T bytes (t bytes).0 (t bytes).1
  pub only : (bytes : List ℕ) (told : List A) (end : Option (List ℕ)) → T bytes told end → ((t bytes).0 ≡ told) × ((t bytes).1 ≡ end)

pub one_agrees : {A : Type 0} (x : A) → Agrees (Tells (x ∷ [])) (one x)
one_agrees x = record { holds = λ bytes. (refl, refl); only = λ bytes told end h. (sym h.0, sym h.1) }

alone_holds : {A : Type 0} (x : A) (bytes : List ℕ) → Alone (x ∷ []) bytes (alone x bytes).0 (alone x bytes).1
alone_holds x [] = (refl, refl)
alone_holds x (b ∷ bytes) = (refl, refl)

alone_only : {A : Type 0} (x : A) (bytes : List ℕ) (told : List A) (end : Option (List ℕ)) → Alone (x ∷ []) bytes told end → ((alone x bytes).0 ≡ told) × ((alone x bytes).1 ≡ end)
alone_only x [] told end h = (sym h.0, sym h.1)
alone_only x (b ∷ bytes) told end h = (sym h.0, sym h.1)

pub alone_agrees : {A : Type 0} (x : A) → Agrees (Alone (x ∷ [])) (alone x)
alone_agrees x = record { holds = alone_holds x; only = alone_only x }

-- ---- a text of a form, and behind it what its value leads to

lacking : {A : Type 0} (f : Form A) (bytes : List ℕ) → at f bytes ≡ None → Lacks f bytes
lacking f bytes e = λ front rest a h i. some_not_none (a, rest) (sym ((exact f).again front rest a i) ∙ ap (at f) (sym h) ∙ e)

lacked : {A : Type 0} (f : Form A) (bytes : List ℕ) → Lacks f bytes → (o : Option (A × List ℕ)) → at f bytes ≡ o → at f bytes ≡ None
lacked f bytes l None e = e
lacked f bytes l (Some x) e = let q = (exact f).takes bytes x e in absurd (l q.0 x.1 x.0 q.1.0 q.1.1)

behind_holds : {A B : Type 0} (f : Form A) (T : A → List ℕ → List B → Option (List ℕ) → Type 0) (t : A → List ℕ → Told B) → ((a : A) → Agrees (T a) (t a)) → (bytes : List ℕ) (o : Option (A × List ℕ)) → at f bytes ≡ o
    → Behind f T bytes (led t o).0 (led t o).1
behind_holds f T t h bytes None e = inr (lacking f bytes e, refl, refl)
behind_holds f T t h bytes (Some x) e = let q = (exact f).takes bytes x e in inl (x.0, (q.0, (x.1, (q.1.0, q.1.1, (h x.0).holds x.1))))

behind_only : {A B : Type 0} (f : Form A) (T : A → List ℕ → List B → Option (List ℕ) → Type 0) (t : A → List ℕ → Told B) → ((a : A) → Agrees (T a) (t a)) → (bytes : List ℕ) (told : List B) (end : Option (List ℕ)) → Behind f T bytes told end
    → ((led t (at f bytes)).0 ≡ told) × ((led t (at f bytes)).1 ≡ end)
behind_only f T t h bytes told end (inl w) =
    let a = w.0 in
    let rest = w.1.1.0 in
    let e = ap (at f) w.1.1.1.0 ∙ (exact f).again w.1.0 rest a w.1.1.1.1 in
    let p = (h a).only rest told end w.1.1.1.2 in
    (ap (λ o. (led t o).0) e ∙ p.0, ap (λ o. (led t o).1) e ∙ p.1)
behind_only f T t h bytes told end (inr w) =
    let e = lacked f bytes w.0 (at f bytes) refl in
    (ap (λ o. (led t o).0) e ∙ sym w.1, ap (λ o. (led t o).1) e ∙ sym w.2)

pub behind_agrees : {A B : Type 0} (f : Form A) (T : A → List ℕ → List B → Option (List ℕ) → Type 0) (t : A → List ℕ → Told B) → ((a : A) → Agrees (T a) (t a)) → Agrees (Behind f T) (behind_at (at f) t)
unfolding behind_at
behind_agrees f T t h = record { holds = λ bytes. behind_holds f T t h bytes (at f bytes) refl; only = behind_only f T t h }

-- ---- so many

times_more : {A : Type 0} (T : List ℕ → List A → Option (List ℕ) → Type 0) (t : List ℕ → Told A) (n : ℕ) → ((bytes : List ℕ) → Times T n bytes (times_at t n bytes).0 (times_at t n bytes).1)
    → (bytes : List ℕ) (xs : List A) (end : Option (List ℕ)) → T bytes xs end → Times T (suc n) bytes (onward xs end (times_at t n)).0 (onward xs end (times_at t n)).1
times_more T t n h bytes xs None w = inr (w, refl)
times_more T t n h bytes xs (Some rest) w = inl (xs, ((times_at t n rest).0, (rest, (refl, w, h rest))))

times_holds : {A : Type 0} (T : List ℕ → List A → Option (List ℕ) → Type 0) (t : List ℕ → Told A) → Agrees T t → (n : ℕ) (bytes : List ℕ) → Times T n bytes (times_at t n bytes).0 (times_at t n bytes).1
unfolding times_at
times_holds T t h zero bytes = (refl, refl)
times_holds T t h (suc n) bytes = times_more T t n (times_holds T t h n) bytes (t bytes).0 (t bytes).1 (h.holds bytes)

times_only : {A : Type 0} (T : List ℕ → List A → Option (List ℕ) → Type 0) (t : List ℕ → Told A) → Agrees T t → (n : ℕ) (bytes : List ℕ) (told : List A) (end : Option (List ℕ)) → Times T n bytes told end
    → ((times_at t n bytes).0 ≡ told) × ((times_at t n bytes).1 ≡ end)
unfolding times_at
times_only T t h zero bytes told end w = (sym w.0, sym w.1)
times_only T t h (suc n) bytes told end (inl w) =
    let first = w.0 in
    let later = w.1.0 in
    let rest = w.1.1.0 in
    let p = h.only bytes first (Some rest) w.1.1.1.1 in
    let q = times_only T t h n rest later end w.1.1.1.2 in
    (ap₂ (λ xs e. (onward xs e (times_at t n)).0) p.0 p.1 ∙ ap (λ l. first ++ l) q.0 ∙ sym w.1.1.1.0, ap₂ (λ xs e. (onward xs e (times_at t n)).1) p.0 p.1 ∙ q.1)
times_only T t h (suc n) bytes told end (inr w) =
    let p = h.only bytes told None w.0 in
    (ap₂ (λ xs e. (onward xs e (times_at t n)).0) p.0 p.1, ap₂ (λ xs e. (onward xs e (times_at t n)).1) p.0 p.1 ∙ sym w.1)

pub times_agrees : {A : Type 0} (T : List ℕ → List A → Option (List ℕ) → Type 0) (t : List ℕ → Told A) → Agrees T t → (n : ℕ) → Agrees (Times T n) (times_at t n)
times_agrees T t h n = record { holds = times_holds T t h n; only = times_only T t h n }

pub counted_agrees : {A : Type 0} (T : List ℕ → List A → Option (List ℕ) → Type 0) (t : List ℕ → Told A) → Agrees T t → Agrees (Counted T) (counted_at t)
unfolding counted_at
counted_agrees T t h = behind_agrees U32 (λ n. Times T n) (times_at t) (times_agrees T t h)

-- ---- a content

pub inside_agrees : {A : Type 0} (T : List ℕ → List A → Option (List ℕ) → Type 0) (t : List ℕ → Told A) → Agrees T t → (content : List ℕ) → Agrees (Inside T content) (inside_at t content)
unfolding inside_at
inside_agrees T t h content = record {
  holds = λ bytes. ((t content).1, (h.holds content, refl));
  only = λ bytes told end w. let p = h.only content told w.0 w.1.0 in (p.0, ap (λ l. closed l bytes) p.1 ∙ sym w.1.1);
}

-- ---- up to the end

-- the end of the bytes, or a fault
abbrev pub IsOver : Option (List ℕ) → Type 0
IsOver None = Unit {0}
IsOver (Some rest) = rest ≡ []

-- nothing is told by no bytes, and each rest is shorter
pub record Ends {A : Type 0} (t : List ℕ → Told A) : Type 0 where
  pub empty : ((t []).0 ≡ []) × ((t []).1 ≡ None)
  pub shorter : (bytes rest : List ℕ) → (t bytes).1 ≡ Some rest → length rest < length bytes

pub none_more : {A : Type 0} (t : List ℕ → Told A) → Ends t → (n : ℕ) (bytes : List ℕ) → bytes ≡ [] → (times_at t n bytes).0 ≡ []
unfolding times_at
none_more t s zero bytes e = refl
none_more t s (suc n) bytes e = ap (λ b. (onward (t b).0 (t b).1 (times_at t n)).0) e ∙ ap₂ (λ xs o. (onward xs o (times_at t n)).0) s.empty.0 s.empty.1

same_onward : {A : Type 0} (xs : List A) (end : Option (List ℕ)) (k l : List ℕ → Told A) → ((rest : List ℕ) → end ≡ Some rest → (k rest).0 ≡ (l rest).0) → (onward xs end k).0 ≡ (onward xs end l).0
same_onward xs None k l h = refl
same_onward xs (Some rest) k l h = ap (λ ys. xs ++ ys) (h rest refl)

over_onward : {A : Type 0} (xs : List A) (end : Option (List ℕ)) (k : List ℕ → Told A) → ((rest : List ℕ) → end ≡ Some rest → IsOver (k rest).1) → IsOver (onward xs end k).1
over_onward xs None k h = tt
over_onward xs (Some rest) k h = h rest refl

over_behind : {A : Type 0} (xs : List A) (end : Option (List ℕ)) (k : List ℕ → Told A) (rest : List ℕ) → end ≡ Some rest → IsOver (onward xs end k).1 → IsOver (k rest).1
over_behind xs None k rest e h = absurd (some_not_none rest (sym e))
over_behind xs (Some r) k rest e h = subst (λ o. IsOver (onward xs o k).1) e h

-- once it is over, more of them tell no more
steady : {A : Type 0} (t : List ℕ → Told A) → Ends t → (n m : ℕ) → n ≤ m → (bytes : List ℕ) → IsOver (times_at t n bytes).1 → (times_at t m bytes).0 ≡ (times_at t n bytes).0
unfolding times_at
steady t s zero m l bytes h = none_more t s m bytes h
steady t s (suc n) zero l bytes h = absurd (omega arith)
steady t s (suc n) (suc m) l bytes h =
    let k : n ≤ m = omega arith in
    same_onward (t bytes).0 (t bytes).1 (times_at t m) (times_at t n) (λ rest e. steady t s n m k rest (over_behind (t bytes).0 (t bytes).1 (times_at t n) rest e h))

pub complete : {A : Type 0} (t : List ℕ → Told A) → Ends t → (n : ℕ) (bytes : List ℕ) → length bytes ≤ n → IsOver (times_at t n bytes).1
unfolding times_at
complete t s zero [] l = refl
complete t s zero (b ∷ bytes) l = absurd (omega arith)
complete t s (suc n) bytes l = over_onward (t bytes).0 (t bytes).1 (times_at t n) (λ rest e. let p = s.shorter bytes rest e in let q : length rest ≤ n = omega arith in complete t s n rest q)

-- what is told up to the end, and that it is over
through_times : {A : Type 0} (T : List ℕ → List A → Option (List ℕ) → Type 0) (t : List ℕ → Told A) → Agrees T t → (bytes : List ℕ) (told : List A) (n : ℕ) → Times T n bytes told (Some []) ⊎ Times T n bytes told None
    → ((times_at t n bytes).0 ≡ told) × IsOver (times_at t n bytes).1
through_times T t h bytes told n (inl w) = let p = times_only T t h n bytes told (Some []) w in (p.0, subst IsOver (sym p.1) refl)
through_times T t h bytes told n (inr w) = let p = times_only T t h n bytes told None w in (p.0, subst IsOver (sym p.1) tt)

either_end : {A : Type 0} (T : List ℕ → List A → Option (List ℕ) → Type 0) (n : ℕ) (bytes : List ℕ) (told : List A) (end : Option (List ℕ)) → IsOver end → Times T n bytes told end → Times T n bytes told (Some []) ⊎ Times T n bytes told None
either_end T n bytes told None h w = inr w
either_end T n bytes told (Some rest) h w = inl (subst (λ r. Times T n bytes told (Some r)) h w)

-- so many are enough
pub through_holds : {A : Type 0} (T : List ℕ → List A → Option (List ℕ) → Type 0) (t : List ℕ → Told A) → Agrees T t → (n : ℕ) (bytes : List ℕ) → IsOver (times_at t n bytes).1 → Through T bytes (times_at t n bytes).0
through_holds T t h n bytes o = (n, either_end T n bytes (times_at t n bytes).0 (times_at t n bytes).1 o (times_holds T t h n bytes))

pub through_once : {A : Type 0} (T : List ℕ → List A → Option (List ℕ) → Type 0) (t : List ℕ → Told A) → Agrees T t → Ends t → (bytes : List ℕ) (told other : List A) → Through T bytes told → Through T bytes other → told ≡ other
through_once T t h s bytes told other v w =
    let p = through_times T t h bytes told v.0 v.1 in
    let q = through_times T t h bytes other w.0 w.1 in
    let most = v.0 + w.0 in
    let a : v.0 ≤ most = omega arith in
    let b : w.0 ≤ most = omega arith in
    sym p.0 ∙ sym (steady t s v.0 most a bytes p.1) ∙ steady t s w.0 most b bytes q.1 ∙ q.0
