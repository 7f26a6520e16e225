-- Arguments that stay as they stand.
use Rattle.std.proofs.Common.{◌≡◌, ℕ, zero, suc, Bool, true, false, eqb-true, ◌+◌, ◌-◌, ◌<◌, ◌≤◌, List, [], ◌∷◌, ◌++◌, length, drop, Some, refl, sym, ap, ap₂, subst, ◌∙◌, arith, append_assoc, inl, inr}
use Rattle.std.specs.Prelude.{Option, None, option_map, nat_eq}
use Rattle.std.proofs.lemmas.List.{length-drop, append-nil}
use Rattle.wasm_forms.specs.Grammar.{Is, U32, U64}
use Rattle.wasm_forms.specs.Spelling.{number_bytes}
use Rattle.wasm_operators.specs.declared.operator.RawArg.{RawArg}
use Rattle.wasm_operators.specs.declared.operator.RawArg.TheVariants as args
use Rattle.wasm_operators.specs.Forms.{access}
use Rattle.wasm_operators.specs.Spelling.{arg_bytes}
use Rattle.wasm_operators.specs.Standing.{ArgHeld}
use Rattle.wasm_text.specs.declared.places.TheConstants.{NO_PLACE}
use Rattle.wasm_text.specs.Places.{between, Stands, IsShortest, IsBehind}
use Rattle.wasm_text.specs.Marks.{place_of, kind_of, form_of}
use Rattle.wasm_text.specs.Filling.{Numbering, Answers, renamed, Lacks, Puts, Steps, Stays, IfStays}
use Rattle.wasm_text.proofs.Between.{join, between_none}
use Rattle.wasm_text.proofs.Filling.{found_is}
use Rattle.wasm_text.proofs.Forms.{stands_byte, unsigned_byte}
use Rattle.wasm_text.proofs.Shortest.{number_once, lone_between}
use Rattle.wasm_text.proofs.Scans.{access_text}

pub stays_put : (number : Numbering) (bytes : List ℕ) (run mark : ℕ) (old : List ℕ) → run ≤ place_of mark → Stays number bytes mark → Puts number bytes run mark run old old
stays_put number bytes run mark old l s =
    let p = place_of mark in
    let e : length bytes - length (drop s.behind bytes) ≡ s.behind = omega (arith, length-drop s.behind bytes, s.stands.within) in
    record {
      arg = s.arg;
      rest = drop s.behind bytes;
      renewed = s.arg;
      here = found_is bytes mark s.behind s.arg s.stands;
      has = s.has;
      holds = λ h. h;
      back = omega (arith, e, s.stands.forward, l);
      same = ap (λ k. old ++ between run k bytes) e ∙ ap (λ x. old ++ x) (sym (join bytes run p s.behind l (omega (arith, s.stands.forward)))) ∙ ap (λ x. old ++ (between run p bytes ++ x)) (sym s.spelled)
          ∙ sym (append_assoc old (between run p bytes) (arg_bytes s.arg));
    }

pub stays_step : (number : Numbering) (bytes : List ℕ) (run mark : ℕ) (old : List ℕ) (t : Bool) → t ≡ true → run ≤ place_of mark → IfStays number bytes mark t → Steps number bytes run mark old old run
stays_step number bytes run mark old true e l s = inr (stays_put number bytes run mark old l s)
stays_step number bytes run mark old false e l s = absurd cc

-- ---- indices

-- the arguments that are indices of this kind
record OfIndex (kind : ℕ) : Type 0 where
  make : ℕ → RawArg
  is : (bytes : List ℕ) (n : ℕ) → Is U32 bytes n → Is (form_of kind) bytes (make n)
  renames : (number : Numbering) (n : ℕ) → renamed number (make n) ≡ option_map make (number kind n)
  spelled : (n : ℕ) → arg_bytes (make n) ≡ number_bytes n
  held : (n : ℕ) → n < 4294967296 → ArgHeld (make n)

of_index : (kind : ℕ) → kind ≤ 5 → OfIndex kind
unfolding form_of
of_index zero k = record { make = args.Local; is = λ b n h. (n, (refl, h)); renames = λ number n. refl; spelled = λ n. refl; held = λ n h. h }
of_index (suc zero) k = record { make = args.Function; is = λ b n h. (n, (refl, h)); renames = λ number n. refl; spelled = λ n. refl; held = λ n h. h }
of_index (suc (suc zero)) k = record { make = args.Global; is = λ b n h. (n, (refl, h)); renames = λ number n. refl; spelled = λ n. refl; held = λ n h. h }
of_index (suc (suc (suc zero))) k = record { make = args.«Type»; is = λ b n h. (n, (refl, h)); renames = λ number n. refl; spelled = λ n. refl; held = λ n h. h }
of_index (suc (suc (suc (suc zero)))) k = record { make = args.Table; is = λ b n h. (n, (refl, h)); renames = λ number n. refl; spelled = λ n. refl; held = λ n h. h }
of_index (suc (suc (suc (suc (suc zero))))) k = record { make = args.Memory; is = λ b n h. (n, (refl, h)); renames = λ number n. refl; spelled = λ n. refl; held = λ n h. h }
of_index (suc (suc (suc (suc (suc (suc n)))))) k = absurd (omega (arith, k))

index_stands : (bytes : List ℕ) (mark behind n : ℕ) (o : OfIndex (kind_of mark)) → Stands U32 bytes (place_of mark) behind n → Stands (form_of (kind_of mark)) bytes (place_of mark) behind (o.make n)
index_stands bytes mark behind n o s = record { forward = s.forward; within = s.within; text = o.is (between (place_of mark) behind bytes) n s.text }

-- one without a new number
pub index_lacks : (number : Numbering) (bytes : List ℕ) (mark behind n : ℕ) → kind_of mark ≤ 5 → Stands U32 bytes (place_of mark) behind n → number (kind_of mark) n ≡ None → Lacks number bytes mark
index_lacks number bytes mark behind n k s e =
    let o = of_index (kind_of mark) k in
    record { arg = o.make n; rest = drop behind bytes; here = found_is bytes mark behind (o.make n) (index_stands bytes mark behind n o s); lacks = o.renames number n ∙ ap (option_map o.make) e }

-- one that keeps its number, and is in its one spelling
index_kept : (number : Numbering) (bytes : List ℕ) (mark behind n : ℕ) → kind_of mark ≤ 5 → Stands U32 bytes (place_of mark) behind n → number (kind_of mark) n ≡ Some n → IsShortest (between (place_of mark) behind bytes) → Stays number bytes mark
index_kept number bytes mark behind n k s e t =
    let o = of_index (kind_of mark) k in
    record {
      arg = o.make n;
      behind = behind;
      stands = index_stands bytes mark behind n o s;
      has = o.renames number n ∙ ap (option_map o.make) e;
      spelled = o.spelled n ∙ number_once 5 4294967296 bytes (place_of mark) behind n (omega arith) t s;
    }

pub index_stays : (number : Numbering) (bytes : List ℕ) (run mark behind n : ℕ) (old : List ℕ) → run ≤ place_of mark → kind_of mark ≤ 5 → Stands U32 bytes (place_of mark) behind n → number (kind_of mark) n ≡ Some n
    → IsShortest (between (place_of mark) behind bytes) → Steps number bytes run mark old old run
index_stays number bytes run mark behind n old l k s e t = inr (stays_put number bytes run mark old l (index_kept number bytes mark behind n k s e t))

-- one whose new number is written
pub index_put : (number : Numbering) (bytes : List ℕ) (run mark behind n renewed : ℕ) (old new : List ℕ) → run ≤ place_of mark → kind_of mark ≤ 5 → Stands U32 bytes (place_of mark) behind n
    → number (kind_of mark) n ≡ Some renewed → renewed < 4294967296 → new ≡ old ++ between run (place_of mark) bytes ++ number_bytes renewed → Steps number bytes run mark old new behind
index_put number bytes run mark behind n renewed old new l k s e small w =
    let o = of_index (kind_of mark) k in
    let r : length bytes - length (drop behind bytes) ≡ behind = omega (arith, length-drop behind bytes, s.within) in
    let none : between behind behind bytes ≡ [] = between_none bytes behind in
    let p : Puts number bytes run mark behind old new = record {
      arg = o.make n;
      rest = drop behind bytes;
      renewed = o.make renewed;
      here = found_is bytes mark behind (o.make n) (index_stands bytes mark behind n o s);
      has = o.renames number n ∙ ap (option_map o.make) e;
      holds = λ h. o.held renewed small;
      back = omega (arith, r);
      same = ap (λ m. new ++ between behind m bytes) r ∙ ap (λ m. new ++ m) none ∙ append-nil new ∙ w ∙ ap (λ m. old ++ between run (place_of mark) bytes ++ m) (sym (o.spelled renewed));
    } in
    inr p

-- ---- accesses

as_access : (kind : ℕ) (b : List ℕ) (x : RawArg) → kind ≡ 6 → Is access b x → Is (form_of kind) b x
unfolding form_of
as_access kind b x e h = subst (λ (k : ℕ). Is (form_of k) b x) (sym e) h

access_kept : (number : Numbering) (bytes : List ℕ) (mark behind flags offset : ℕ) → kind_of mark ≡ 6 → flags < 64 → drop (place_of mark) bytes ≡ flags ∷ drop (place_of mark + 1) bytes → place_of mark < length bytes
    → Stands U64 bytes (place_of mark + 1) behind offset → IsShortest (between (place_of mark + 1) behind bytes) → number 5 0 ≡ Some 0 → Stays number bytes mark
access_kept number bytes mark behind flags offset k f first there second short e =
    let p = place_of mark in
    let lead : Stands U32 bytes p (p + 1) flags = stands_byte U32 bytes p flags flags first there (unsigned_byte 5 4294967296 flags (omega arith) (omega (arith, f)) (omega (arith, f))) in
    let s : Stays number bytes mark = record {
      arg = args.Access flags 0 offset;
      behind = behind;
      stands = record {
        forward = omega (arith, second.forward);
        within = second.within;
        text = as_access (kind_of mark) (between p behind bytes) (args.Access flags 0 offset) k (access_text bytes p (p + 1) behind flags offset f lead second);
      };
      has = ap (option_map (λ n. args.Access flags n offset)) e;
      spelled = ap₂ (λ x y. x ++ y) (number_once 5 4294967296 bytes p (p + 1) flags (omega arith) (lone_between bytes p (p + 1) (omega arith)) lead) (number_once 10 18446744073709551616 bytes (p + 1) behind offset (omega arith) short second)
          ∙ join bytes p (p + 1) behind (omega arith) (omega (arith, second.forward));
    } in
    s

memory_kept : (o : Option ℕ) (new : ℕ) → new ≡ 0 → Answers new o → o ≡ Some 0
memory_kept None new e a = absurd (omega (arith, e, a))
memory_kept (Some n) new e a = ap (λ k. Some k) (sym a.0 ∙ e)

pub access_if : (number : Numbering) (bytes : List ℕ) (mark behind flags new : ℕ) → kind_of mark ≡ 6 → flags < 64 → drop (place_of mark) bytes ≡ flags ∷ drop (place_of mark + 1) bytes → place_of mark < length bytes
    → IsBehind U64 bytes (place_of mark + 1) behind → (behind ≡ NO_PLACE → ⊥) → IsShortest (between (place_of mark + 1) behind bytes) → Answers new (number 5 0) → (t : Bool) → nat_eq new 0 ≡ t → IfStays number bytes mark t
access_if number bytes mark behind flags new k f first there (inl e) some short a t z = absurd (some e)
access_if number bytes mark behind flags new k f first there (inr (offset, s)) some short a true z = access_kept number bytes mark behind flags offset k f first there s short (memory_kept (number 5 0) new (eqb-true new 0 z) a)
access_if number bytes mark behind flags new k f first there (inr (offset, s)) some short a false z = tt
