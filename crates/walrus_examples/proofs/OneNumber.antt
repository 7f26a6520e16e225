-- The index that what comes out says of a function with a body is the one that it was written under.
use Rattle.std.proofs.Common.{◌≡◌, inl, inr, ℕ, ◌+◌, ◌<◌, ◌≤◌, List, length, refl, sym, ap, ◌∙◌, subst, arith, ⊎_elim}
use Rattle.std.proofs.lemmas.List.{length-map}
use Rattle.std.specs.Prelude.{Option, Some, None, IsSome, is_some, option_map}
use Rattle.walrus.specs.Base.Operators.{Functions}
use Rattle.walrus.specs.Model.Abstract.{Abstract, Body, Function, FunctionKind, ImportedFunction, LocalFunction, Uninitialised}
use Rattle.walrus.specs.Model.Config.{Config}
use Rattle.walrus.specs.Model.Kept.{Kept}
use Rattle.walrus.specs.Model.Names.{body_of, body_of_function, body_of_kind}
use Rattle.walrus.specs.Model.Order.{size, LargerFirst, FunctionsByImport, FunctionsByIndex}
use Rattle.walrus.specs.Model.Out.{Out}
use Rattle.walrus.specs.Model.Pipeline.{Collected}
use Rattle.walrus.specs.Model.Renaming.{Renaming, renamed_op, renamed_ops}
use Rattle.walrus.specs.Model.Rules.{Holds}
use Rattle.walrus.specs.Model.Same.{BothAnd, SameBody, SameFunction}
use Rattle.walrus.proofs.Model.PipelineOps.{kind_body_back, kind_body_on, larger_stays as same_sizes}
use Rattle.walrus.proofs.Base.Standing.{some_inj}
use Rattle.walrus.specs.Theorem.Chain.{Leaves, ParsedAs}
use Rattle.walrus.specs.Theorem.Headline.{ReadsModule}
use Rattle.walrus.specs.Theorem.Pinned.{IsWrittenAs}
use Rattle.walrus.proofs.Base.Agree.{Ordered, agree, compared}
use Rattle.walrus.proofs.Theorem.StepLeaves.{between}
use Rattle.walrus.proofs.Theorem.StepParsed.{kept_back, kept_on, live_back}
use Rattle.walrus.proofs.Theorem.StepRead.{read_is_plain}
use Rattle.walrus.specs.Modules.Transform.{imported_functions}
use Rattle.walrus_examples.proofs.ReadBodies.{has_bytes, own_before}
use Rattle.walrus.proofs.Theorem.Numbers.{locals as by_size}
use Rattle.walrus.proofs.Modules.Parted.{live_body as is_there}

-- ---- bodies under a renaming

pub function_some : (o : Option Function) (d : Body) → body_of_function o ≡ Some d → (g : Function) × ((o ≡ Some g) × (body_of_kind g.kind ≡ Some d))
function_some None d e = absurd (cc)
function_some (Some g) d e = (g, (refl, e))

module _ (r : Renaming) (f : ℕ) where
  pub both_back : (o p : Option Function) (d : Body) → BothAnd (SameFunction r f) o p → body_of_function p ≡ Some d → (a : Body) × ((body_of_function o ≡ Some a) × SameBody r f a d)
  both_back (Some x) (Some y) d s e = let k = kind_body_back r f x.kind y.kind s.kind d e in (k.0, (k.1, k.2))
  both_back (Some x) None d s e = absurd s
  both_back None p d s e = absurd s

  pub both_on : (o p : Option Function) (a : Body) → BothAnd (SameFunction r f) o p → body_of_function o ≡ Some a → (d : Body) × ((body_of_function p ≡ Some d) × SameBody r f a d)
  both_on (Some x) (Some y) a s e = let k = kind_body_on r f x.kind y.kind s.kind a e in (k.0, (k.1, k.2))
  both_on (Some x) None a s e = absurd s
  both_on None p a s e = absurd s

-- ---- local functions go by size

abbrev kind_of : Option Function → Option FunctionKind
kind_of o = option_map (λ f. f.kind) o

-- the order of two functions with these bodies, in a module of indices and in memory
module _ (i j : ℕ) (a b : Body) where
  by_index : (o p : Option Function) → body_of_function o ≡ Some a → body_of_function p ≡ Some b → LargerFirst i j a b → BothAnd (FunctionsByIndex i j) (kind_of o) (kind_of p)
  by_index (Some x) (Some y) e f h = kinds x.kind y.kind e f
    where
      kinds : (k l : FunctionKind) → body_of_kind k ≡ Some a → body_of_kind l ≡ Some b → FunctionsByIndex i j k l
      kinds (LocalFunction c) (LocalFunction d) g k = subst (λ (z : Body). LargerFirst i j z d) (sym (some_inj c a g)) (subst (λ (z : Body). LargerFirst i j a z) (sym (some_inj d b k)) h)
      kinds (LocalFunction c) (ImportedFunction q) g k = absurd (cc)
      kinds (LocalFunction c) Uninitialised g k = absurd (cc)
      kinds (ImportedFunction q) l g k = absurd (cc)
      kinds Uninitialised l g k = absurd (cc)
  by_index (Some x) None e f h = absurd (cc)
  by_index None p e f h = absurd (cc)

  index_by : (o p : Option Function) → body_of_function o ≡ Some a → body_of_function p ≡ Some b → BothAnd (FunctionsByIndex i j) (kind_of o) (kind_of p) → LargerFirst i j a b
  index_by (Some x) (Some y) e f h = kinds x.kind y.kind e f h
    where
      kinds : (k l : FunctionKind) → body_of_kind k ≡ Some a → body_of_kind l ≡ Some b → FunctionsByIndex i j k l → LargerFirst i j a b
      kinds (LocalFunction c) (LocalFunction d) g k h = subst (λ (z : Body). LargerFirst i j z b) (some_inj c a g) (subst (λ (z : Body). LargerFirst i j c z) (some_inj d b k) h)
      kinds (LocalFunction c) (ImportedFunction q) g k h = absurd (cc)
      kinds (LocalFunction c) Uninitialised g k h = absurd (cc)
      kinds (ImportedFunction q) l g k h = absurd (cc)
      kinds Uninitialised l g k h = absurd (cc)
  index_by (Some x) None e f h = absurd (cc)
  index_by None p e f h = absurd (cc)

  by_import : (o p : Option Function) → body_of_function o ≡ Some a → body_of_function p ≡ Some b → LargerFirst i j a b → BothAnd (FunctionsByImport i j) (kind_of o) (kind_of p)
  by_import (Some x) (Some y) e f h = kinds x.kind y.kind e f
    where
      kinds : (k l : FunctionKind) → body_of_kind k ≡ Some a → body_of_kind l ≡ Some b → FunctionsByImport i j k l
      kinds (LocalFunction c) (LocalFunction d) g k = subst (λ (z : Body). LargerFirst i j z d) (sym (some_inj c a g)) (subst (λ (z : Body). LargerFirst i j a z) (sym (some_inj d b k)) h)
      kinds (LocalFunction c) (ImportedFunction q) g k = absurd (cc)
      kinds (LocalFunction c) Uninitialised g k = absurd (cc)
      kinds (ImportedFunction q) l g k = absurd (cc)
      kinds Uninitialised l g k = absurd (cc)
  by_import (Some x) None e f h = absurd (cc)
  by_import None p e f h = absurd (cc)

-- ---- what a renaming says of functions

-- each kept function of m is there again in n under r, and no others are; and their indices rise
pub record Numbers (m n : Abstract) (r : Renaming) : Type 0 where
  pub same : (f : ℕ) → Kept m (Functions, f) → BothAnd (SameFunction r f) (m.functions f) (n.functions (r.numbers Functions f))
  pub onto : (j : ℕ) → IsSome (n.functions j) → (f : ℕ) × Kept m (Functions, f) × (r.numbers Functions f ≡ j)
  pub rises : (i j : ℕ) → Kept m (Functions, i) → Kept m (Functions, j) → BothAnd (FunctionsByIndex i j) (kind_of (m.functions i)) (kind_of (m.functions j)) → r.numbers Functions i < r.numbers Functions j

pub out_numbers : (c : Config) (m n : Abstract) (out : Out c m n) → Numbers m n out.renaming
out_numbers c m n out = record {
  same = out.carried.functions.same;
  onto = λ j there. ⊎_elim (λ h. h) (λ none. absurd none) (out.carried.functions.onto j there);
  rises = λ i j ki kj h. out.rises.items Functions (λ e. cc) i j ki kj h;
}

module _ (m : Abstract) where
  -- a kept function with a body
  abbrev pub IsOwn : ℕ → Type 0
  IsOwn f = Kept m (Functions, f) × ((a : Body) × (body_of m f ≡ Some a))

  abbrev Before : ℕ → ℕ → Type 0
  Before i j = BothAnd (FunctionsByIndex i j) (kind_of (m.functions i)) (kind_of (m.functions j))

  total : (i j : ℕ) → IsOwn i → IsOwn j → Ordered Before i j
  total i j ki kj = ⊎_elim
      (λ first. inl (by_index i j ki.1.0 kj.1.0 (m.functions i) (m.functions j) ki.1.1 kj.1.1 first))
      (λ more. inr (⊎_elim (λ same. inl same) (λ last. inr (by_index j i kj.1.0 ki.1.0 (m.functions j) (m.functions i) kj.1.1 ki.1.1 last)) more))
      (by_size i j ki.1.0 kj.1.0 (compared (size ki.1.0) (size kj.1.0)))

  module _ (n : Abstract) (r : Renaming) (h : Numbers m n r) where
    abbrev s : ℕ → ℕ
    s = r.numbers Functions

    -- a function that is kept has its body there
    pub comes_out : (f : ℕ) (a : Body) → body_of m f ≡ Some a → Kept m (Functions, f) → (e : Body) × ((body_of n (s f) ≡ Some e) × SameBody r f a e)
    comes_out f a e kept = both_on r f (m.functions f) (n.functions (s f)) a (h.same f kept) e

    module _ (c : Config) (output : List ℕ) (reads : ReadsModule c output n) where
      low_out : (f : ℕ) → IsOwn f → imported_functions reads.sections ≤ s f
      low_out f k =
          let e = comes_out f k.1.0 k.1.1 k.0 in
          let at = has_bytes c output n reads (s f) e.0 e.1.0 in
          let index : s f ≡ imported_functions reads.sections + at.number = at.index in
          omega (arith, index)

      full_out : (i l : ℕ) → IsOwn i → imported_functions reads.sections ≤ l → l < s i → (k : ℕ) × IsOwn k × (s k ≡ l)
      full_out i l ki le lt =
          let e = comes_out i ki.1.0 ki.1.1 ki.0 in
          let d = own_before c output n reads (s i) l e.0 e.1.0 le lt in
          let found = h.onto l (is_there (n.functions l) d.0 d.1) in
          let back = both_back r found.0 (m.functions found.0) (n.functions (s found.0)) d.0 (h.same found.0 found.1) (ap (body_of n) found.2 ∙ d.1) in
          (found.0, (found.1, (back.0, back.1.0)), found.2)

  -- two renamings give functions with bodies one index
  pub numbers_one : (n : Abstract) (r t : Renaming) → Numbers m n r → Numbers m n t → (c : Config) (output : List ℕ) → ReadsModule c output n → (f : ℕ) → IsOwn f → r.numbers Functions f ≡ t.numbers Functions f
  numbers_one n r t h k c output reads f own =
      agree IsOwn Before total (imported_functions reads.sections) (r.numbers Functions) (t.numbers Functions) (λ i j ki kj before. h.rises i j ki.0 kj.0 before) (λ i j ki kj before. k.rises i j ki.0 kj.0 before)
      (low_out n r h c output reads) (low_out n t k c output reads) (full_out n r h c output reads) (full_out n t k c output reads) f own

-- ---- from what was read to what is left

module _ (c : Config) (bytes : List ℕ) (m v w u : Abstract) (reads : ReadsModule c bytes m) (holds : Holds m) (parsed : ParsedAs c m v) (collected : Collected v w) (leaves : Leaves w u) where
  -- function f is kept, with the body a in the module that was read, and d in what is left
  pub record Stays (f : ℕ) (a d : Body) : Type 0 where
    pub kept : Kept m (Functions, f)
    pub before : body_of m f ≡ Some a
    pub after : body_of u f ≡ Some d
    pub ops : d.operators ≡ renamed_ops parsed.renaming (parsed.renaming.locals f) a.operators

  functions_left : (f : ℕ) → u.functions f ≡ w.functions f
  functions_left f = ap (λ (x : Abstract). x.functions f) (between w u leaves).same

  carried : (f : ℕ) → IsSome (m.functions f) → BothAnd (SameFunction parsed.renaming f) (m.functions f) (v.functions f)
  carried f live = subst (λ (n : ℕ). BothAnd (SameFunction parsed.renaming f) (m.functions f) (v.functions n)) (parsed.in_place (Functions, f)) (parsed.carried.functions.same f live)

  pub stays_back : (f : ℕ) (d : Body) → body_of u f ≡ Some d → (a : Body) × Stays f a d
  stays_back f d e =
      let g = function_some (w.functions f) d (ap body_of_function (sym (functions_left f)) ∙ e) in
      let left = collected.functions.left f g.0 g.1.0 in
      let live = live_back c m v parsed (Functions, f) (λ e. cc) (ap is_some left.1) in
      let both = both_back parsed.renaming f (m.functions f) (v.functions f) d (carried f live) (ap body_of_function left.1 ∙ g.1.1) in
      (both.0, record { kept = kept_back c m v parsed (read_is_plain c bytes m reads) holds (Functions, f) (λ e. cc) left.0; before = both.1.0; after = e; ops = both.1.1.operators })

  pub stays_on : (f : ℕ) (a : Body) → body_of m f ≡ Some a → Kept m (Functions, f) → (d : Body) × Stays f a d
  stays_on f a e kept =
      let both = both_on parsed.renaming f (m.functions f) (v.functions f) a (carried f (is_there (m.functions f) a e)) e in
      let stays = collected.functions.kept f (kept_on c m v parsed (read_is_plain c bytes m reads) holds (Functions, f) kept) in
      (both.0, record { kept = kept; before = e; after = ap body_of_function (functions_left f ∙ stays) ∙ both.1.0; ops = both.1.1.operators })

  -- ---- both number local functions by size, from the imported ones on

  module _ (output : List ℕ) (n : Abstract) (is : IsWrittenAs c u n) (output_reads : ReadsModule c output n) (out : Out c m n) where
    abbrev t : ℕ → ℕ
    t = is.written.renaming.numbers Functions

    size_left : (f : ℕ) (a d : Body) → Stays f a d → size d ≡ size a
    size_left f a d stays = ap length stays.ops ∙ length-map a.operators (renamed_op parsed.renaming (parsed.renaming.locals f))

    written_rises : (i j : ℕ) → IsOwn m i → IsOwn m j → BothAnd (FunctionsByIndex i j) (kind_of (m.functions i)) (kind_of (m.functions j)) → t i < t j
    written_rises i j ki kj h =
        let di = stays_on i ki.1.0 ki.1.1 ki.0 in
        let dj = stays_on j kj.1.0 kj.1.1 kj.0 in
        let first = index_by i j ki.1.0 kj.1.0 (m.functions i) (m.functions j) ki.1.1 kj.1.1 h in
        is.written.rises.items Functions (λ e. cc) i j (is_there (u.functions i) di.0 di.1.after) (is_there (u.functions j) dj.0 dj.1.after)
        (by_import i j di.0 dj.0 (u.functions i) (u.functions j) di.1.after dj.1.after (same_sizes i j ki.1.0 kj.1.0 di.0 dj.0 (size_left i ki.1.0 di.0 di.1) (size_left j kj.1.0 dj.0 dj.1) first))

    is_written : (f : ℕ) (d : Body) → body_of u f ≡ Some d → (e : Body) × ((body_of n (t f) ≡ Some e) × SameBody is.written.renaming f d e)
    is_written f d e = both_on is.written.renaming f (u.functions f) (n.functions (t f)) d (is.written.carried.functions.same f (is_there (u.functions f) d e)) e

    low_written : (f : ℕ) → IsOwn m f → imported_functions output_reads.sections ≤ t f
    low_written f k =
        let d = stays_on f k.1.0 k.1.1 k.0 in
        let e = is_written f d.0 d.1.after in
        let h = has_bytes c output n output_reads (t f) e.0 e.1.0 in
        let index : t f ≡ imported_functions output_reads.sections + h.number = h.index in
        omega (arith, index)

    full_written : (i l : ℕ) → IsOwn m i → imported_functions output_reads.sections ≤ l → l < t i → (k : ℕ) × IsOwn m k × (t k ≡ l)
    full_written i l ki le lt =
        let di = stays_on i ki.1.0 ki.1.1 ki.0 in
        let e = is_written i di.0 di.1.after in
        let d = own_before c output n output_reads (t i) l e.0 e.1.0 le lt in
        let found : (k : ℕ) × IsSome (u.functions k) × (t k ≡ l) = ⊎_elim (λ h. h) (λ none. absurd none) (is.written.carried.functions.onto l (is_there (n.functions l) d.0 d.1)) in
        let back = both_back is.written.renaming found.0 (u.functions found.0) (n.functions (t found.0)) d.0 (is.written.carried.functions.same found.0 found.1) (ap (body_of n) found.2 ∙ d.1) in
        let a = stays_back found.0 back.0 back.1.0 in
        (found.0, (a.1.kept, (a.0, a.1.before)), found.2)

    pub one_number : (f : ℕ) (a : Body) → body_of m f ≡ Some a → Kept m (Functions, f) → out.renaming.numbers Functions f ≡ t f
    one_number f a e kept =
        let h = out_numbers c m n out in
        agree (IsOwn m) (Before m) (total m) (imported_functions output_reads.sections) (out.renaming.numbers Functions) t (λ i j ki kj before. h.rises i j ki.0 kj.0 before) written_rises
        (low_out m n out.renaming h c output output_reads) low_written (full_out m n out.renaming h c output output_reads) full_written f (kept, (a, e))
