-- What the loops over the arguments of an operator keep.
use Rattle.std.proofs.Common.{Bool, false, ◌||◌, ◌≡◌, ◌∙◌, ℕ, ◌+◌, ◌<◌, ◌≤◌, suc, List, [], ◌∷◌, ◌++◌, Option, Some, None, map, flat_map, length, take, drop, drop-cons, get_or, refl, sym, ap, append_assoc, append-nil, length-append, arith}
use Rattle.std.proofs.lemmas.List.{drop_all, take-append-le, map-append}
use Rattle.wasm_forms.specs.Reading.{◌>>=◌}
use Rattle.walrus_base.specs.Operators.{Arg, arg_locals}
use Rattle.walrus_code.specs.Code.{arg_of}
use Rattle.walrus_code.specs.Names.{Lookup, named_arg, named_args}
use Rattle.walrus_code.specs.Results.{arg_is_exact, args_are_exact}
use Rattle.walrus_code.specs.declared.operator.Arg.{Arg as DeclaredArg}
use Rattle.walrus_code.specs.declared.operator.Arg.TheVariants as declared

-- what was found so far, and what is left to find
abbrev pub behind : List Arg → Option (List Arg) → Option (List Arg)
behind done rest = rest >>= λ more. Some (done ++ more)

-- ---- one step of such a loop

pub cut : {A : Type 0} (xs : List A) (i : ℕ) (d : A) → i < length xs → drop i xs ≡ get_or xs i d ∷ drop (i + 1) xs
cut xs i d h = let e : suc i ≡ i + 1 = omega arith in drop-cons xs i d h ∙ ap (λ k. get_or xs i d ∷ drop k xs) e

one_more : (done : List Arg) (y : Arg) (rest : Option (List Arg)) → behind (done ++ y ∷ []) rest ≡ behind done (rest >>= λ others. Some (y ∷ others))
one_more done y None = refl
one_more done y (Some more) = ap (λ l. Some l) (append_assoc done (y ∷ []) more)

pub begun : {B : Type 0} (w : B → Arg) (items : List B) (rest : Option (List Arg)) → items ≡ [] → behind (map w items) rest ≡ rest
begun w items None e = refl
begun w items (Some more) e = ap (λ l. Some (map w l ++ more)) e

module _ (names : Lookup) (locals : ℕ → Option ℕ) {A B : Type 0} (v : A → Arg) (w : B → Arg) (xs : List A) (i : ℕ) where
  abbrev left : ℕ → Option (List Arg)
  left k = named_args names locals (map v (drop k xs))

  pub advanced : (d : A) (items more : List B) (y : B) (whole : Option (List Arg)) → i < length xs → more ≡ items ++ y ∷ [] → named_arg names locals (v (get_or xs i d)) ≡ Some (w y)
      → behind (map w items) (left i) ≡ whole → behind (map w more) (left (i + 1)) ≡ whole
  advanced d items more y whole h e named keeps =
      ap (λ l. behind l (left (i + 1))) (ap (map w) e ∙ map-append w items (y ∷ []))
      ∙ one_more (map w items) (w y) (left (i + 1))
      ∙ sym (ap (λ t. behind (map w items) (t >>= λ found. left (i + 1) >>= λ others. Some (found ∷ others))) named)
      ∙ sym (ap (λ l. behind (map w items) (named_args names locals (map v l))) (cut xs i d h))
      ∙ keeps

  pub missing : (d : A) (done : List Arg) (whole : Option (List Arg)) → i < length xs → named_arg names locals (v (get_or xs i d)) ≡ None → behind done (left i) ≡ whole → whole ≡ None
  missing d done whole h none keeps =
      sym keeps
      ∙ ap (λ l. behind done (named_args names locals (map v l))) (cut xs i d h)
      ∙ ap (λ t. behind done (t >>= λ found. left (i + 1) >>= λ others. Some (found ∷ others))) none

  pub ended : (done : List Arg) (whole : Option (List Arg)) → length xs ≤ i → behind done (left i) ≡ whole → whole ≡ Some done
  ended done whole h keeps = sym keeps ∙ ap (λ l. behind done (named_args names locals (map v l))) (drop_all i xs h) ∙ ap (λ l. Some l) (append-nil done)

-- an argument with no exact heap type in it leaves the question to those behind it
pub exact_behind : {A : Type 0} (v : A → Arg) (xs : List A) (i : ℕ) (d : A) (whole : Bool) → i < length xs → arg_is_exact (v (get_or xs i d)) ≡ false → args_are_exact (map v (drop i xs)) ≡ whole → args_are_exact (map v (drop (i + 1) xs)) ≡ whole
exact_behind v xs i d whole h plain keeps = sym (ap (λ l. args_are_exact (map v l)) (cut xs i d h) ∙ ap (λ t. t || args_are_exact (map v (drop (i + 1) xs))) plain) ∙ keeps

-- ---- the same where each argument gives some items

module _ {A X Y : Type 0} (w : X → Y) (v : A → Arg) (gives : Arg → List Y) (xs : List A) (i : ℕ) where
  abbrev Pushed : ℕ → List X → List X → List Y → Type 0
  Pushed k start to whole = (map w to ++ flat_map gives (map v (drop k xs)) ≡ whole) × (take (length start) to ≡ start) × (length start ≤ length to)

  pub pushed : (d : A) (start to more next : List X) (whole : List Y) → i < length xs → next ≡ to ++ more → map w more ≡ gives (v (get_or xs i d)) → Pushed i start to whole → Pushed (i + 1) start next whole
  pushed d start to more next whole h e given keeps =
      let room : length start ≤ length to = keeps.2 in
      let rest = flat_map gives (map v (drop (i + 1) xs)) in
      let all : map w (to ++ more) ++ rest ≡ whole =
      ap (λ l. l ++ rest) (map-append w to more) ∙ append_assoc (map w to) (map w more) rest ∙ ap (λ l. map w to ++ (l ++ rest)) given
      ∙ sym (ap (λ l. map w to ++ flat_map gives (map v l)) (cut xs i d h)) ∙ keeps.0 in
      let front : take (length start) (to ++ more) ≡ start = rw take-append-le keeps.1 in
      let longer : length start ≤ length (to ++ more) = omega (arith, length-append to more) in
      rw e (all, front, longer)

  pub all_pushed : (start to : List X) (whole : List Y) → length xs ≤ i → Pushed i start to whole → map w to ≡ whole
  all_pushed start to whole h keeps = sym (append-nil (map w to)) ∙ sym (ap (λ l. map w to ++ flat_map gives (map v l)) (drop_all i xs h)) ∙ keeps.0

-- an argument that is no local names none
pub no_local : (arg : DeclaredArg) → ((id : _) → arg ≡ declared.Local id → ⊥) → arg_locals (arg_of arg) ≡ []
no_local (declared.Local id) h = absurd (h id refl)
no_local (declared.Function id) h = refl
no_local (declared.«Type» id) h = refl
no_local (declared.Table id) h = refl
no_local (declared.Memory id) h = refl
no_local (declared.Global id) h = refl
no_local (declared.Tag id) h = refl
no_local (declared.Element id) h = refl
no_local (declared.Data id) h = refl
no_local (declared.Label n) h = refl
no_local (declared.Count n) h = refl
no_local (declared.Number n) h = refl
no_local (declared.Byte b) h = refl
no_local (declared.S32 z) h = refl
no_local (declared.S64 z) h = refl
no_local (declared.F32 bits) h = refl
no_local (declared.F64 bits) h = refl
no_local (declared.Value x) h = refl
no_local (declared.Heap x) h = refl
no_local (declared.Block b) h = refl
no_local (declared.Access flags memory offset) h = refl
