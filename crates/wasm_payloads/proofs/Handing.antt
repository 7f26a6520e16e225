-- Namings that a sink took one after the other, and loops that hand them over.
use Rattle.std.proofs.Common.{◌≡◌, ℕ, suc, List, [], ◌∷◌, ◌++◌, refl, sym, ap, subst, ◌∙◌, append_assoc, append-nil}
use Rattle.std.specs.Prelude.{Option, Some, None, Result, Ok, Err}
use Rattle.wasm_forms.specs.declared.error.WireError.{WireError}
use Rattle.wasm_payloads.specs.Names.{Named}
use Rattle.wasm_payloads.specs.Sink.{after_all, IsRefused}
use Rattle.wasm_payloads.specs.Steps.{Told, one, onward, times_at, Hands}

pub after_append : {Seen : Type 0} (after : Seen → Named → Seen) (shown : Seen) (xs ys : List Named) → after_all after shown (xs ++ ys) ≡ after_all after (after_all after shown xs) ys
after_append after shown [] ys = refl
after_append after shown (x ∷ xs) ys = after_append after (after shown x) xs ys

-- of a sink that shows the list of what it took
pub listed : (old names : List Named) → after_all (λ xs x. xs ++ x ∷ []) old names ≡ old ++ names
listed old [] = sym (append-nil old)
listed old (x ∷ xs) = listed (old ++ x ∷ []) xs ∙ append_assoc old (x ∷ []) xs

-- the sink took the front of what is told in all, and what is left is told by the rest
pub record Progress {Self Seen : Type 0} (seen : Self → Seen) (after : Seen → Named → Seen) (old mid : Self) (whole left : Told Named) : Type 0 where
  pub done : List Named
  pub in_order : whole.0 ≡ done ++ left.0
  pub end : whole.1 ≡ left.1
  pub shown : seen mid ≡ after_all after (seen old) done

pub begun : {Self Seen : Type 0} (seen : Self → Seen) (after : Seen → Named → Seen) (old : Self) (whole : Told Named) → Progress seen after old old whole whole
begun seen after old whole = record { done = []; in_order = refl; end = refl; shown = refl }

-- what was shown before, and then these
shown_on : {Self Seen : Type 0} (seen : Self → Seen) (after : Seen → Named → Seen) (old mid new : Self) (done xs : List Named) → seen mid ≡ after_all after (seen old) done → seen new ≡ after_all after (seen mid) xs
    → seen new ≡ after_all after (seen old) (done ++ xs)
shown_on seen after old mid new done xs p q = q ∙ ap (λ s. after_all after s xs) p ∙ sym (after_append after (seen old) done xs)

refused_on : {Self Seen : Type 0} (seen : Self → Seen) (after : Seen → Named → Seen) (refuses : Self → Named → WireError → Type 0) (old mid new : Self) (e : WireError) (whole done left : List Named)
    → whole ≡ done ++ left → seen mid ≡ after_all after (seen old) done → IsRefused seen after refuses mid new left e → IsRefused seen after refuses old new whole e
refused_on seen after refuses old mid new e whole done left p q h = record {
  taken = done ++ h.taken;
  next = h.next;
  others = h.others;
  in_order = p ∙ ap (λ l. done ++ l) h.in_order ∙ sym (append_assoc done h.taken (h.next ∷ h.others));
  shown = shown_on seen after old mid new done h.taken q h.shown;
  refused = h.refused;
}

-- the rest was handed over, so all was
pub carried : {Self Seen X : Type 0} (seen : Self → Seen) (after : Seen → Named → Seen) (refuses : Self → Named → WireError → Type 0) (view : X → Option (List ℕ)) (old mid new : Self) (result : Result X WireError) (whole left : Told Named)
    → Progress seen after old mid whole left → Hands seen after refuses view mid new result left → Hands seen after refuses view old new result whole
carried seen after refuses view old mid new (Ok x) whole left p h =
    (shown_on seen after old mid new p.done left.0 p.shown h.0 ∙ ap (after_all after (seen old)) (sym p.in_order), p.end ∙ h.1)
carried seen after refuses view old mid new (Err e) whole left p h = refused_on seen after refuses old mid new e whole.0 p.done left.0 p.in_order p.shown h

-- one part more was taken
pub stepped : {Self Seen : Type 0} (seen : Self → Seen) (after : Seen → Named → Seen) (old mid new : Self) (whole left part : Told Named) (t : List ℕ → Told Named) (rest : List ℕ)
    → Progress seen after old mid whole left → left ≡ onward part.0 part.1 t → seen new ≡ after_all after (seen mid) part.0 → part.1 ≡ Some rest → Progress seen after old new whole (t rest)
stepped seen after old mid new whole left part t rest p e s r =
    let l = e ∙ ap (λ o. onward part.0 o t) r in
    record {
      done = p.done ++ part.0;
      in_order = p.in_order ∙ ap (λ x. p.done ++ x.0) l ∙ sym (append_assoc p.done part.0 (t rest).0);
      end = p.end ∙ ap (λ x. x.1) l;
      shown = shown_on seen after old mid new p.done part.0 p.shown s;
    }

refused_more : {Self Seen : Type 0} (seen : Self → Seen) (after : Seen → Named → Seen) (refuses : Self → Named → WireError → Type 0) (old new : Self) (e : WireError) (xs : List Named) (end : Option (List ℕ)) (t : List ℕ → Told Named)
    → IsRefused seen after refuses old new xs e → IsRefused seen after refuses old new (onward xs end t).0 e
refused_more seen after refuses old new e xs None t h = h
refused_more seen after refuses old new e xs (Some rest) t h = record {
  taken = h.taken;
  next = h.next;
  others = h.others ++ (t rest).0;
  in_order = ap (λ l. l ++ (t rest).0) h.in_order ∙ append_assoc h.taken (h.next ∷ h.others) (t rest).0;
  shown = h.shown;
  refused = h.refused;
}

-- a fault in a part, or a refusal, ends all
pub ended_fault : {Self Seen X : Type 0} (seen : Self → Seen) (after : Seen → Named → Seen) (refuses : Self → Named → WireError → Type 0) (view : X → Option (List ℕ)) (old new : Self) (x : X) (left part : Told Named) (t : List ℕ → Told Named)
    → left ≡ onward part.0 part.1 t → view x ≡ None → seen new ≡ after_all after (seen old) part.0 → part.1 ≡ None → Hands seen after refuses view old new (Ok x) left
ended_fault seen after refuses view old new x left part t e v s r =
    let l = e ∙ ap (λ o. onward part.0 o t) r in
    (s ∙ ap (λ y. after_all after (seen old) y.0) (sym l), ap (λ y. y.1) l ∙ sym v)

pub ended_refused : {Self Seen X : Type 0} (seen : Self → Seen) (after : Seen → Named → Seen) (refuses : Self → Named → WireError → Type 0) (view : X → Option (List ℕ)) (old new : Self) (e : WireError) (left part : Told Named) (t : List ℕ → Told Named)
    → left ≡ onward part.0 part.1 t → IsRefused seen after refuses old new part.0 e → Hands seen after refuses view old new (Err e) left
ended_refused seen after refuses view old new e left part t l h =
    subst (λ (y : Told Named). IsRefused seen after refuses old new y.0 e) (sym l) (refused_more seen after refuses old new e part.0 part.1 t h)

-- one of so many, and then the others
pub times_next : (t : List ℕ → Told Named) (n m : ℕ) (bytes : List ℕ) → n ≡ suc m → times_at t n bytes ≡ onward (t bytes).0 (t bytes).1 (times_at t m)
unfolding times_at
times_next t n m bytes e = ap (λ k. times_at t k bytes) e

-- a naming alone was refused
pub lone_refused : {Self Seen : Type 0} (seen : Self → Seen) (after : Seen → Named → Seen) (refuses : Self → Named → WireError → Type 0) (old new : Self) (e : WireError) (x y : Named) (told : Told Named) (rest : List ℕ)
    → told ≡ one x rest → y ≡ x → seen new ≡ seen old → refuses new y e → IsRefused seen after refuses old new told.0 e
lone_refused seen after refuses old new e x y told rest t s h r = record {
  taken = [];
  next = y;
  others = [];
  in_order = ap (λ l. l.0) t ∙ ap (λ z. z ∷ []) (sym s);
  shown = h;
  refused = r;
}

pub handed_as : {Self Seen X : Type 0} (seen : Self → Seen) (after : Seen → Named → Seen) (refuses : Self → Named → WireError → Type 0) (view : X → Option (List ℕ)) (old new : Self) (result : Result X WireError) (told told' : Told Named)
    → told ≡ told' → Hands seen after refuses view old new result told → Hands seen after refuses view old new result told'
handed_as seen after refuses view old new result told told' e h = subst (λ y. Hands seen after refuses view old new result y) e h

-- ---- a loop over parts: of all that is told, the first of so many that are left

pub parts_begun : {Self Seen : Type 0} (seen : Self → Seen) (after : Seen → Named → Seen) (t : List ℕ → Told Named) (n m : ℕ) (start : List ℕ) (old : Self) → n ≡ m → Progress seen after old old (times_at t n start) (times_at t m start)
parts_begun seen after t n m start old e = subst (λ k. Progress seen after old old (times_at t n start) (times_at t k start)) e (begun seen after old (times_at t n start))

pub part_refused : {Self Seen X : Type 0} (seen : Self → Seen) (after : Seen → Named → Seen) (refuses : Self → Named → WireError → Type 0) (view : X → Option (List ℕ)) (t : List ℕ → Told Named) (whole : Told Named) (n m : ℕ) (rest : List ℕ) (old mid new : Self) (e : WireError)
    → n ≡ suc m → Progress seen after old mid whole (times_at t n rest) → IsRefused seen after refuses mid new (t rest).0 e → Hands seen after refuses view old new (Err e) whole
part_refused seen after refuses view t whole n m rest old mid new e l p h =
    carried seen after refuses view old mid new (Err e) whole (times_at t n rest) p (ended_refused seen after refuses view mid new e (times_at t n rest) (t rest) (times_at t m) (times_next t n m rest l) h)

pub part_fault : {Self Seen X : Type 0} (seen : Self → Seen) (after : Seen → Named → Seen) (refuses : Self → Named → WireError → Type 0) (view : X → Option (List ℕ)) (t : List ℕ → Told Named) (whole : Told Named) (n m : ℕ) (rest : List ℕ) (old mid new : Self) (x : X)
    → n ≡ suc m → Progress seen after old mid whole (times_at t n rest) → view x ≡ None → seen new ≡ after_all after (seen mid) (t rest).0 → (t rest).1 ≡ None → Hands seen after refuses view old new (Ok x) whole
part_fault seen after refuses view t whole n m rest old mid new x l p v h k =
    carried seen after refuses view old mid new (Ok x) whole (times_at t n rest) p (ended_fault seen after refuses view mid new x (times_at t n rest) (t rest) (times_at t m) (times_next t n m rest l) v h k)

pub part_step : {Self Seen : Type 0} (seen : Self → Seen) (after : Seen → Named → Seen) (t : List ℕ → Told Named) (whole : Told Named) (n m : ℕ) (rest next : List ℕ) (old mid new : Self)
    → n ≡ suc m → Progress seen after old mid whole (times_at t n rest) → seen new ≡ after_all after (seen mid) (t rest).0 → (t rest).1 ≡ Some next → Progress seen after old new whole (times_at t m next)
part_step seen after t whole n m rest next old mid new l p h k = stepped seen after old mid new whole (times_at t n rest) (t rest) (times_at t m) next p (times_next t n m rest l) h k

pub none_left : (t : List ℕ → Told Named) (n : ℕ) (rest : List ℕ) → n ≡ 0 → times_at t n rest ≡ ([], Some rest)
unfolding times_at
none_left t n rest e = ap (λ k. times_at t k rest) e

pub parts_done : {Self Seen X : Type 0} (seen : Self → Seen) (after : Seen → Named → Seen) (refuses : Self → Named → WireError → Type 0) (view : X → Option (List ℕ)) (t : List ℕ → Told Named) (whole : Told Named) (n : ℕ) (rest : List ℕ) (old mid : Self) (x : X)
    → n ≡ 0 → Progress seen after old mid whole (times_at t n rest) → view x ≡ Some rest → Hands seen after refuses view old mid (Ok x) whole
parts_done seen after refuses view t whole n rest old mid x l p v =
    let e = none_left t n rest l in
    carried seen after refuses view old mid mid (Ok x) whole (times_at t n rest) p (ap (λ y. after_all after (seen mid) y.0) (sym e), ap (λ y. y.1) e ∙ sym v)

-- nothing is left to be told
pub all_shown : {Self Seen : Type 0} (seen : Self → Seen) (after : Seen → Named → Seen) (old mid : Self) (whole left : Told Named) → Progress seen after old mid whole left → left.0 ≡ [] → seen mid ≡ after_all after (seen old) whole.0
all_shown seen after old mid whole left p e = p.shown ∙ ap (after_all after (seen old)) (sym (append-nil p.done) ∙ ap (λ l. p.done ++ l) (sym e) ∙ sym p.in_order)
