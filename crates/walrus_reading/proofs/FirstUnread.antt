-- The first function whose body isn't read: there is one answer, and where there is such a function not all bodies are read.
use Rattle.std.proofs.Common.{◌≡◌, ℕ, zero, suc, ◌+◌, ◌<◌, List, [], ◌∷◌, length, take, refl, sym, ap, subst, ◌∙◌, arith}
use Rattle.std.specs.Prelude.{Some, None, Err, slice_get, zip}
use Rattle.std.specs.List.{AllZip}
use Rattle.wasm_frames.specs.Record as wire
use Rattle.walrus_base.proofs.Standing.{some_inj}
use Rattle.walrus_bodies.specs.declared.features.Features.{Features}
use Rattle.walrus_contents.specs.declared.parts.Contents.{Contents}
use Rattle.walrus_items.specs.declared.error.Error.TheVariants.{Memory}
use Rattle.walrus_model.specs.Reads.{ReadsBodyWith, context_with}
use Rattle.walrus_model.specs.Sections.{Said, types_of}
use Rattle.walrus_reading.specs.Taken.{HasFunctions, TakesBodies, TakesSections}
use Rattle.walrus_reading.specs.Unread.{IsFirstOf, IsFirstUnread, OneUnread, error_of_unread}
use Rattle.walrus_reading.specs.declared.unread.Unread.{Unread}
use Rattle.walrus_reading.specs.declared.unread.Unread.TheVariants.{Body, Fails}
use Rattle.walrus_reading.proofs.TakenBody.{saids_of}

module _ {A B : Type 0} (Reads : A → B → Type 0) where
  -- of so many that are read each is
  read_before : (xs : List A) (bs : List B) (n i : ℕ) (x : A) → AllZip Reads (take n xs) bs → i < n → slice_get xs i ≡ Some x → (b : B) × Reads x b
  read_before [] bs n i x h lt e = absurd (cc)
  read_before (y ∷ xs) bs zero i x h lt e = absurd (omega (arith, lt))
  read_before (y ∷ xs) [] (suc n) i x h lt e = absurd h
  read_before (y ∷ xs) (b ∷ bs) (suc n) zero x h lt e = (b, subst (λ z. Reads z b) (some_inj y x e) h.0)
  read_before (y ∷ xs) (b ∷ bs) (suc n) (suc i) x h lt e = read_before xs bs n i x h.1 (omega (arith, lt)) e

  read_at : (xs : List A) (bs : List B) (i : ℕ) (x : A) → AllZip Reads xs bs → slice_get xs i ≡ Some x → (b : B) × Reads x b
  read_at [] bs i x h e = absurd (cc)
  read_at (y ∷ xs) [] i x h e = absurd h
  read_at (y ∷ xs) (b ∷ bs) zero x h e = (b, subst (λ z. Reads z b) (some_inj y x e) h.0)
  read_at (y ∷ xs) (b ∷ bs) (suc i) x h e = read_at xs bs i x h.1 e

same_number : (i j : ℕ) → (i < j → ⊥) → (j < i → ⊥) → i ≡ j
same_number zero zero a b = refl
same_number zero (suc j) a b = absurd (a (omega arith))
same_number (suc i) zero a b = absurd (b (omega arith))
same_number (suc i) (suc j) a b = ap suc (same_number i j (λ lt. a (omega (arith, lt))) (λ lt. b (omega (arith, lt))))

module _ (Reads : ℕ × wire.Body → Said → Type 0) (first : ℕ) (fs : List (ℕ × wire.Body)) where
  -- the one isn't in front of the other
  not_in_front : (a b : ℕ) (h : IsFirstOf Reads first fs a) (k : IsFirstOf Reads first fs b) → h.place < k.place → ⊥
  not_in_front a b h k lt =
      let r = read_before Reads fs k.bodies k.place h.place h.function k.before lt h.there in
      h.unread r.0 r.1

  one_first : (a b : ℕ) → IsFirstOf Reads first fs a → IsFirstOf Reads first fs b → a ≡ b
  one_first a b h k = h.counted ∙ ap (λ (n : ℕ). first + n) (same_number h.place k.place (not_in_front a b h k) (not_in_front b a k h)) ∙ sym k.counted

  pub not_all : (index : ℕ) → IsFirstOf Reads first fs index → (bodies : List Said) → AllZip Reads fs bodies → ⊥
  not_all index h bodies read =
      let r = read_at Reads fs bodies h.place h.function read h.there in
      h.unread r.0 r.1

pub one_answer : OneUnread
one_answer features r None None h k = refl
one_answer features r None (Some b) h k = absurd (not_all (ReadsBodyWith features r) _ (zip r.functions r.bodies) b k h.0 h.1)
one_answer features r (Some a) None h k = absurd (not_all (ReadsBodyWith features r) _ (zip r.functions r.bodies) a h k.0 k.1)
one_answer features r (Some a) (Some b) h k = ap Some (one_first (ReadsBodyWith features r) _ (zip r.functions r.bodies) a b h k)

-- where the functions are taken in, all bodies are read
pub all_read : (features : Features) (r : wire.Module) (m : Contents) (starts : List ℕ) → length r.bodies ≡ length r.functions → HasFunctions features r m starts → IsFirstUnread features r None
all_read features r m starts many h =
    let s = saids_of (context_with features r) (types_of r) r.functions r.bodies h.taken.said many h.taken.read in
    (s.0, s.1.0)

-- what refuses the functions refuses the whole
pub sections_refused : (features : Features) (r : wire.Module) (e : Unread) → TakesBodies features r (Err e) → TakesSections features r (Err (error_of_unread e))
sections_refused features r (Body index) h = not_all (ReadsBodyWith features r) _ (zip r.functions r.bodies) index h
sections_refused features r (Fails (Memory m)) h = tt
sections_refused features r (Fails _) h = absurd h
