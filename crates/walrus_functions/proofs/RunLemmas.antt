-- Groups of locals of one type.
use Rattle.std.proofs.Common.{◌≡◌, ◌≢◌, ℕ, zero, suc, ◌+◌, ◌<◌, ◌≤◌, List, [], ◌∷◌, ◌++◌, length, replicate, map, take, Option, Some, refl, sym, ap, ◌∙◌, arith, append_assoc, length-append}
use Rattle.std.specs.Prelude.{All, Contains, slice_index_or, unwrap_or}
use Rattle.std.proofs.lemmas.List.{append-nil}
use Rattle.std.proofs.lemmas.List.Elements.{All-push, All-head, All-tail, All-cons, Contains-append_right}
use Rattle.walrus_base.specs.Arena.{item_at}
use Rattle.walrus_base.specs.Id.{place}
use Rattle.walrus_base.specs.Types.{ValType, I32}
use Rattle.walrus_base.specs.declared.id.Id.{Id}
use Rattle.walrus_base.specs.declared.keys.LocalKey.{LocalKey}
use Rattle.walrus_base.proofs.Turns.{map_more}
use Rattle.walrus_functions.specs.Declaring.{AreRuns, Changes, spread}
use Rattle.walrus_functions.specs.Held.{held_at}

abbrev Group : Type 0
Group = ℕ × ValType ℕ

abbrev Filled : Group → Type 0
Filled g = 0 < g.0

spread-append : (gs hs : List Group) → spread (gs ++ hs) ≡ spread gs ++ spread hs
spread-append [] hs = refl
spread-append (g ∷ gs) hs = ap (λ (vs : List (ValType ℕ)). replicate g.0 g.1 ++ vs) (spread-append gs hs) ∙ sym (append_assoc (replicate g.0 g.1) (spread gs) (spread hs))

spread-push : (gs : List Group) (n : ℕ) (v : ValType ℕ) → spread (gs ++ (n, v) ∷ []) ≡ spread gs ++ replicate n v
spread-push gs n v = spread-append gs ((n, v) ∷ []) ∙ ap (λ (vs : List (ValType ℕ)). spread gs ++ vs) (append-nil (replicate n v))

replicate-suc : (n : ℕ) (v : ValType ℕ) → replicate (suc n) v ≡ replicate n v ++ v ∷ []
replicate-suc zero v = refl
replicate-suc (suc n) v = ap (λ (vs : List (ValType ℕ)). v ∷ vs) (replicate-suc n v)

replicate-more : (n : ℕ) (v : ValType ℕ) → replicate (n + 1) v ≡ replicate n v ++ v ∷ []
replicate-more n v = let next : n + 1 ≡ suc n = omega arith in ap (λ (k : ℕ). replicate k v) next ∙ replicate-suc n v

changes-count : (gs : List Group) (m n : ℕ) (v : ValType ℕ) → Changes (gs ++ (m, v) ∷ []) → Changes (gs ++ (n, v) ∷ [])
changes-count [] m n v h = tt
changes-count (g ∷ []) m n v h = (h.0, tt)
changes-count (g ∷ k ∷ gs) m n v h = (h.0, changes-count (k ∷ gs) m n v h.1)

changes-push : (gs : List Group) (n : ℕ) (v : ValType ℕ) (h : Group) → Changes (gs ++ (n, v) ∷ []) → v ≢ h.1 → Changes ((gs ++ (n, v) ∷ []) ++ h ∷ [])
changes-push [] n v h c apart = (apart, tt)
changes-push (g ∷ []) n v h c apart = (c.0, (apart, tt))
changes-push (g ∷ k ∷ gs) n v h c apart = (c.0, changes-push (k ∷ gs) n v h c.1 apart)

all-front : (gs hs : List Group) → All Filled (gs ++ hs) → All Filled gs
all-front [] hs h = λ k d low. absurd (omega arith)
all-front (g ∷ gs) hs h = All-cons Filled g gs (All-head Filled g (gs ++ hs) h) (all-front gs hs (All-tail Filled g (gs ++ hs) h))

-- one more of the last type
pub runs-same : (types more : List (ValType ℕ)) (gs : List Group) (n m : ℕ) (v w : ValType ℕ) → more ≡ types ++ w ∷ [] → w ≡ v → m ≡ n + 1 → AreRuns types (gs ++ (n, v) ∷ []) → AreRuns more (gs ++ (m, v) ∷ [])
runs-same types more gs n m v w is same next h = record {
  all = spread-push gs m v ∙ ap (λ (k : ℕ). spread gs ++ replicate k v) next ∙ ap (λ (vs : List (ValType ℕ)). spread gs ++ vs) (replicate-more n v) ∙ sym (append_assoc (spread gs) (replicate n v) (v ∷ [])) ∙ ap (λ (vs : List (ValType ℕ)). vs ++ v ∷ []) (sym (spread-push gs n v) ∙ h.all) ∙ ap (λ (u : ValType ℕ). types ++ u ∷ []) (sym same) ∙ sym is;
  filled = All-push Filled gs (m, v) (all-front gs ((n, v) ∷ []) h.filled) (omega (arith, next));
  changes = changes-count gs n m v h.changes;
}

-- one of another type
pub runs-next : (types more : List (ValType ℕ)) (gs : List Group) (n : ℕ) (v w : ValType ℕ) → more ≡ types ++ w ∷ [] → v ≢ w → AreRuns types (gs ++ (n, v) ∷ []) → AreRuns more ((gs ++ (n, v) ∷ []) ++ (1, w) ∷ [])
runs-next types more gs n v w is apart h = record {
  all = spread-push (gs ++ (n, v) ∷ []) 1 w ∙ ap (λ (vs : List (ValType ℕ)). vs ++ w ∷ []) h.all ∙ sym is;
  filled = All-push Filled (gs ++ (n, v) ∷ []) (1, w) h.filled (omega arith);
  changes = changes-push gs n v (1, w) h.changes apart;
}

-- the first one
pub runs-one : (v w : ValType ℕ) → w ≡ v → AreRuns (w ∷ []) ((1, v) ∷ [])
runs-one v w same = record {
  all = ap (λ (u : ValType ℕ). u ∷ []) (sym same);
  filled = All-push Filled [] (1, v) (λ k d low. absurd (omega (arith, low))) (omega arith);
  changes = tt;
}

-- ---- the types of locals

abbrev Local : Type 0
Local = Id LocalKey

abbrev held : List (Option (ValType ℕ)) → Local → ValType ℕ
held slots id = held_at slots (place id)

-- the type of a local that is there
pub held-is : (slots : List (Option (ValType ℕ))) (id : Local) (v : ValType ℕ) → Some v ≡ item_at slots (place id) → held slots id ≡ v
held-is slots id v at = ap (λ (o : Option (ValType ℕ)). unwrap_or o I32) (sym at)

-- one local more
pub held-more : (slots : List (Option (ValType ℕ))) (first : ValType ℕ) (rest : List Local) (i : ℕ) (d : Local) (v : ValType ℕ) → i < length rest → Some v ≡ item_at slots (place (slice_index_or rest i d)) → first ∷ map (held slots) (take (i + 1) rest) ≡ (first ∷ map (held slots) (take i rest)) ++ v ∷ []
held-more slots first rest i d v low at =
    ap (λ (vs : List (ValType ℕ)). first ∷ vs) (map_more (held slots) rest i d low ∙ ap (λ (u : ValType ℕ). map (held slots) (take i rest) ++ u ∷ []) (held-is slots (slice_index_or rest i d) v at))

-- ---- what groups hold

-- there are no more groups than types
pub as_few : (gs : List Group) → All Filled gs → length gs ≤ length (spread gs)
as_few [] h = omega arith
as_few (g ∷ gs) h =
    let first = All-head Filled g gs h in
    let rest = as_few gs (All-tail Filled g gs h) in
    let size : length (spread (g ∷ gs)) ≡ length (replicate g.0 g.1) + length (spread gs) = length-append (replicate g.0 g.1) (spread gs) in
    let count = length-replicate g.0 g.1 in
    omega (arith, first, rest, size, count)
  where
    length-replicate : (n : ℕ) (v : ValType ℕ) → length (replicate n v) ≡ n
    length-replicate zero v = refl
    length-replicate (suc n) v = let k = length-replicate n v in omega (arith, k)

-- a group's type is that of one of them
pub type_among : (gs : List Group) → All Filled gs → (g : Group) → Contains gs g → Contains (spread gs) g.1
type_among [] h g (k, low, is) = absurd (omega arith)
type_among (x ∷ gs) h g (zero, low, is) = go x.0 (All-head Filled x gs h) is
  where
    go : (n : ℕ) → 0 < n → x ≡ g → Contains (replicate n x.1 ++ spread gs) g.1
    go zero some is = absurd (omega arith)
    go (suc n) some is = (zero, omega arith, ap (λ (y : Group). y.1) is)
type_among (x ∷ gs) h g (suc k, low, is) = Contains-append_right (replicate x.0 x.1) (spread gs) g.1 (type_among gs (All-tail Filled x gs h) g (k, (let l : k < length gs = omega (arith, low) in l), is))
