-- One record more of a list.
use Rattle.std.proofs.Common.{◌≡◌, ℕ, zero, suc, ◌+◌, ◌<◌, ◌≤◌, List, [], ◌∷◌, ◌++◌, length, get_or, take, map, flat_map, refl, sym, ap, subst, ◌∙◌, append_assoc, append-nil, arith}
use Rattle.std.proofs.lemmas.List.{take_all}
use Rattle.std.specs.Prelude.{Result, Ok, Err}
use Rattle.wasm_forms.specs.declared.error.WireError.{WireError}
use Rattle.wasm_forms.specs.declared.error.WireError.TheVariants.{Malformed, Memory, TooLarge}
use Rattle.walrus.specs.Forms.Spelling.{row_bytes}
use Rattle.wasm_forms.specs.Writing.{Adds, EachFits}
use Rattle.walrus_edits.specs.ItemRecords.{Told, ToldFits, told_bytes}
use Rattle.walrus_edits.specs.ItemSteps.{RowsFit, rows}

-- ---- rows

pub row_append : {X : Type 0} (spell : X → List ℕ) (xs ys : List X) → row_bytes spell (xs ++ ys) ≡ row_bytes spell xs ++ row_bytes spell ys
row_append spell [] ys = refl
row_append spell (x ∷ xs) ys = ap (λ l. spell x ++ l) (row_append spell xs ys) ∙ sym (append_assoc (spell x) (row_bytes spell xs) (row_bytes spell ys))

pub each_append : {X : Type 0} (F : X → Type 0) (xs ys : List X) → EachFits F xs → EachFits F ys → EachFits F (xs ++ ys)
each_append F [] ys h k = k
each_append F (x ∷ xs) ys h k = (h.0, each_append F xs ys h.1 k)

pub each_front : {X : Type 0} (F : X → Type 0) (xs ys : List X) → EachFits F (xs ++ ys) → EachFits F xs
each_front F [] ys h = tt
each_front F (x ∷ xs) ys h = (h.0, each_front F xs ys h.1)

pub each_back : {X : Type 0} (F : X → Type 0) (xs ys : List X) → EachFits F (xs ++ ys) → EachFits F ys
each_back F [] ys h = h
each_back F (x ∷ xs) ys h = each_back F xs ys h.1

-- ---- what is written, in other words

pub adds_as : {X : Type 0} (r : Result X WireError) (old new spelled other : List ℕ) (F G : Type 0) → spelled ≡ other → (F → G) → (G → F) → Adds r old new spelled F → Adds r old new other G
adds_as (Ok x) old new spelled other F G same there back h = (h.0 ∙ ap (λ l. old ++ l) same, there h.1)
adds_as (Err Malformed) old new spelled other F G same there back h = h
adds_as (Err (Memory e)) old new spelled other F G same there back h = tt
adds_as (Err TooLarge) old new spelled other F G same there back h = λ g. h (back g)

-- a list of one
pub adds_one : (X : Type 0) (r : Result X WireError) (old new : List ℕ) (t : Told) → Adds r old new (told_bytes t) (ToldFits t)
    → Adds r old new (row_bytes told_bytes (t ∷ [])) (EachFits ToldFits (t ∷ []))
adds_one X r old new t h = adds_as r old new _ _ _ _ (sym (append-nil (told_bytes t))) (λ f. (f, tt)) (λ f. f.0) h

-- ---- a loop that tells: these records stand behind what was there

pub record HasTold (old now : List ℕ) (done : List Told) : Type 0 where
  pub written : now ≡ old ++ row_bytes told_bytes done
  pub fit : EachFits ToldFits done

pub tells_none : (old : List ℕ) → HasTold old old []
tells_none old = record { written = sym (append-nil old); fit = tt }

pub tells_more : (old now new : List ℕ) (done more : List Told) → HasTold old now done → (new ≡ now ++ row_bytes told_bytes more) → EachFits ToldFits more → HasTold old new (done ++ more)
tells_more old now new done more h same fits = record {
  written = same ∙ ap (λ l. l ++ row_bytes told_bytes more) h.written ∙ append_assoc old (row_bytes told_bytes done) (row_bytes told_bytes more) ∙ ap (λ l. old ++ l) (sym (row_append told_bytes done more));
  fit = each_append ToldFits done more h.fit fits;
}

-- refused in the middle
pub tells_not : (X Y : Type 0) (e : WireError) (old now new later : List ℕ) (done more rest : List Told) → HasTold old now done → Adds {X = X} (Err e) now new (row_bytes told_bytes more) (EachFits ToldFits more)
    → Adds {X = Y} (Err e) old later (row_bytes told_bytes (done ++ (more ++ rest))) (EachFits ToldFits (done ++ (more ++ rest)))
tells_not X Y Malformed old now new later done more rest h w = w
tells_not X Y (Memory m) old now new later done more rest h w = tt
tells_not X Y TooLarge old now new later done more rest h w = λ all. w (each_front ToldFits more rest (each_back ToldFits done (more ++ rest) all))

pub tells_all : (old now : List ℕ) (done : List Told) → HasTold old now done → Adds {X = Unit {0}} (Ok tt) old now (row_bytes told_bytes done) (EachFits ToldFits done)
tells_all old now done h = (h.written, h.fit)

-- ---- of each item of a slice some records

module _ {X : Type 0} (F : X → List Told) where
  pub flat_append : (xs ys : List X) → flat_map F (xs ++ ys) ≡ flat_map F xs ++ flat_map F ys
  flat_append [] ys = refl
  flat_append (x ∷ xs) ys = ap (λ l. F x ++ l) (flat_append xs ys) ∙ sym (append_assoc (F x) (flat_map F xs) (flat_map F ys))

  one_more : (i : ℕ) → suc i + 1 ≡ suc (i + 1)
  one_more i = omega arith

  -- the item at i, in front of those behind it
  pub split_at : (xs : List X) (i : ℕ) (x : X) → i < length xs → x ≡ get_or xs i x → (behind : List X) × (xs ≡ take i xs ++ x ∷ behind) × (take (i + 1) xs ≡ take i xs ++ x ∷ [])
  split_at [] i x l e = absurd (omega arith)
  split_at (y ∷ xs) zero x l e = (xs, ap (λ z. z ∷ xs) (sym e), ap (λ z. z ∷ []) (sym e))
  split_at (y ∷ xs) (suc i) x l e =
      let rest = split_at xs i x (omega arith) e in
      (rest.0, ap (λ l. y ∷ l) rest.1, ap (λ n. take n (y ∷ xs)) (one_more i) ∙ ap (λ l. y ∷ l) rest.2)

  pub turn : (xs : List X) (i : ℕ) (x : X) (old now new : List ℕ) → i < length xs → x ≡ get_or xs i x → HasTold old now (flat_map F (take i xs)) → (new ≡ now ++ row_bytes told_bytes (F x)) × EachFits ToldFits (F x)
      → HasTold old new (flat_map F (take (i + 1) xs))
  turn xs i x old now new l e h w =
      let split = split_at xs i x l e in
      subst (HasTold old new) (sym (ap (flat_map F) split.2 ∙ flat_append (take i xs) (x ∷ []) ∙ ap (λ l. flat_map F (take i xs) ++ l) (append-nil (F x)))) (tells_more old now new _ (F x) h w.0 w.1)

  pub leaves : (A B : Type 0) (e : WireError) (xs : List X) (i : ℕ) (x : X) (old now new later : List ℕ) → i < length xs → x ≡ get_or xs i x → HasTold old now (flat_map F (take i xs))
      → Adds {X = A} (Err e) now new (row_bytes told_bytes (F x)) (EachFits ToldFits (F x)) → Adds {X = B} (Err e) old later (row_bytes told_bytes (flat_map F xs)) (EachFits ToldFits (flat_map F xs))
  leaves A B e xs i x old now new later l at h w =
      let split = split_at xs i x l at in
      let same : flat_map F xs ≡ flat_map F (take i xs) ++ (F x ++ flat_map F split.0) = ap (flat_map F) split.1 ∙ flat_append (take i xs) (x ∷ split.0) in
      subst (λ ts. Adds {X = B} (Err e) old later (row_bytes told_bytes ts) (EachFits ToldFits ts)) (sym same) (tells_not A B e old now new later _ (F x) (flat_map F split.0) h w)

pub flat_single : {X : Type 0} (g : X → Told) (xs : List X) → flat_map (λ x. g x ∷ []) xs ≡ map g xs
flat_single g [] = refl
flat_single g (x ∷ xs) = ap (λ l. g x ∷ l) (flat_single g xs)

pub told_through : {X : Type 0} (g : X → Told) (xs : List X) (i : ℕ) → length xs ≤ i → flat_map (λ x. g x ∷ []) (take i xs) ≡ map g xs
told_through g xs i past = ap (λ l. flat_map (λ x. g x ∷ []) l) (take_all i xs past) ∙ flat_single g xs

pub flat_seen : {X Y : Type 0} (F : Y → List Told) (view : X → Y) (xs : List X) → flat_map (λ x. F (view x)) xs ≡ flat_map F (map view xs)
flat_seen F view [] = refl
flat_seen F view (x ∷ xs) = ap (λ l. F (view x) ++ l) (flat_seen F view xs)

pub seen_through : {X Y : Type 0} (F : Y → List Told) (view : X → Y) (xs : List X) (i : ℕ) → length xs ≤ i → flat_map (λ x. F (view x)) (take i xs) ≡ flat_map F (map view xs)
seen_through F view xs i past = ap (λ l. flat_map (λ x. F (view x)) l) (take_all i xs past) ∙ flat_seen F view xs

pub map_twice : {X Y : Type 0} (f : X → Y) (g : Y → Told) (xs : List X) → map (λ x. g (f x)) xs ≡ map g (map f xs)
map_twice f g [] = refl
map_twice f g (x ∷ xs) = ap (λ l. g (f x) ∷ l) (map_twice f g xs)

-- the same records
pub adds_same : (X : Type 0) (r : Result X WireError) (old new : List ℕ) (some others : List Told) → some ≡ others → Adds r old new (row_bytes told_bytes some) (EachFits ToldFits some)
    → Adds r old new (row_bytes told_bytes others) (EachFits ToldFits others)
adds_same X r old new some others same h = subst (λ ts. Adds r old new (row_bytes told_bytes ts) (EachFits ToldFits ts)) same h

-- ---- parts, one behind another

pub rows_flat : (parts : List (List Told)) → rows parts ≡ row_bytes told_bytes (flat_map (λ part. part) parts)
rows_flat [] = refl
rows_flat (part ∷ parts) = ap (λ l. row_bytes told_bytes part ++ l) (rows_flat parts) ∙ sym (row_append told_bytes part (flat_map (λ p. p) parts))

pub rows_fit : (parts : List (List Told)) → RowsFit parts → EachFits ToldFits (flat_map (λ part. part) parts)
rows_fit [] h = tt
rows_fit (part ∷ parts) h = each_append ToldFits part (flat_map (λ p. p) parts) h.0 (rows_fit parts h.1)

pub fits_rows : (parts : List (List Told)) → EachFits ToldFits (flat_map (λ part. part) parts) → RowsFit parts
fits_rows [] h = tt
fits_rows (part ∷ parts) h = (each_front ToldFits part (flat_map (λ p. p) parts) h, fits_rows parts (each_back ToldFits part (flat_map (λ p. p) parts) h))

pub rows_append : (some others : List (List Told)) → rows (some ++ others) ≡ rows some ++ rows others
rows_append [] others = refl
rows_append (part ∷ some) others = ap (λ l. row_bytes told_bytes part ++ l) (rows_append some others) ∙ sym (append_assoc (row_bytes told_bytes part) (rows some) (rows others))

pub rows_fit_both : (some others : List (List Told)) → RowsFit some → RowsFit others → RowsFit (some ++ others)
rows_fit_both [] others h k = k
rows_fit_both (part ∷ some) others h k = (h.0, rows_fit_both some others h.1 k)
