-- A body with operators in front, which were read over its parameters, is well formed where it was.
use Rattle.std.proofs.Common.{◌≡◌, ℕ, ◌+◌, ◌-◌, ◌&&◌, ◌||◌, Bool, true, false, not, zero, suc, List, [], ◌∷◌, ◌++◌, map, length, take, Option, Some, refl, sym, ap, ◌∙◌, subst, arith, append_assoc}
use Rattle.std.proofs.lemmas.Bool.{and_parts}
use Rattle.std.proofs.lemmas.List.{map-append}
use Rattle.std.proofs.lemmas.List.Folds.{list_all-append}
use Rattle.std.specs.Cmp.Derive.{both_true}
use Rattle.std.specs.List.{list_all}
use Rattle.std.specs.Prelude.{slice_get}
use Rattle.wasm_forms.specs.Grammar.{IsRow}
use Rattle.walrus_base.specs.Operators.{Space, Op}
use Rattle.walrus_base.specs.Types.{ValType}
use Rattle.walrus_bodies.specs.Blocks.{are_nested, args_hold}
use Rattle.walrus_bodies.specs.Body.{BodyReads, OperatorsRead, context}
use Rattle.walrus_bodies.specs.Features.{are_allowed, is_allowed, is_legacy, is_wide_arithmetic}
use Rattle.walrus_bodies.specs.declared.features.Features.{Features}
use Rattle.walrus_code.specs.FromRaw.{op_of}
use Rattle.walrus_code.specs.Names.{Lookup, named_ops}
use Rattle.walrus_edit_list.specs.Fronts.{but_last}
use Rattle.walrus_edit_list.specs.Joined.{itself}
use Rattle.walrus_edit_list.proofs.FrontNamed.{ops_append, ops_but_last, ops_grow, types_grow}
use Rattle.walrus_edit_list.proofs.FrontNests.{front_nests}

-- ---- rows

row_but_last : {A : Type 0} (R : List ℕ → A → Type 0) (bytes : List ℕ) (xs : List A) (x : A) → IsRow R bytes (xs ++ x ∷ []) → (front : List ℕ) × IsRow R front xs
row_but_last R bytes [] x h = ([], refl)
row_but_last R bytes (y ∷ xs) x (front, (back, (parts, first, rest))) =
    let others = row_but_last R back xs x rest in
    (front ++ others.0, (front, (others.0, (refl, first, others.1))))

row_front : {A : Type 0} (R : List ℕ → A → Type 0) (bytes : List ℕ) (all xs : List A) (x : A) → IsRow R bytes all → all ≡ xs ++ x ∷ [] → (front : List ℕ) × IsRow R front xs
row_front R bytes all xs x h is = row_but_last R bytes xs x (subst (λ ys. IsRow R bytes ys) is h)

pub row_append : {A : Type 0} (R : List ℕ → A → Type 0) (bytes more : List ℕ) (xs ys : List A) → IsRow R bytes xs → IsRow R more ys → IsRow R (bytes ++ more) (xs ++ ys)
row_append R bytes more [] ys h k = subst (λ (m : List ℕ). IsRow R m ys) (sym (ap (λ (m : List ℕ). m ++ more) h)) k
row_append R bytes more (x ∷ xs) ys (front, (back, (parts, first, rest))) k =
    (front, (back ++ more, (ap (λ (m : List ℕ). m ++ more) parts ∙ append_assoc front back more, first, row_append R back more xs ys rest k)))

-- ---- what may be used

more_allowed : (legacy wide stable all : Bool) → ((not legacy || false) && not (wide && stable)) ≡ true → ((not legacy || all) && not (wide && stable)) ≡ true
more_allowed true wide stable all h = absurd (cc)
more_allowed false wide stable all h = h

pub all_allowed : (f : Features) (ops : List Op) → are_allowed (record f { legacy_exceptions = false }) ops ≡ true → are_allowed f ops ≡ true
all_allowed f [] h = refl
all_allowed f (o ∷ ops) h =
    let both = and_parts (is_allowed (record f { legacy_exceptions = false }) o.op) (are_allowed (record f { legacy_exceptions = false }) ops) h in
    both_true (more_allowed (is_legacy o.op) (is_wide_arithmetic o.op) f.only_stable f.legacy_exceptions both.0) (all_allowed f ops both.1)

module _ {A : Type 0} (test : A → Bool) where
  pub all_front : (a b : List A) → list_all test (a ++ b) ≡ true → list_all test a ≡ true
  all_front a b h = (and_parts (list_all test a) (list_all test b) (sym (list_all-append test a b) ∙ h)).0

  pub all_both : (a b : List A) → list_all test a ≡ true → list_all test b ≡ true → list_all test (a ++ b) ≡ true
  all_both a b h k = list_all-append test a b ∙ both_true h k

-- ---- locals

get_front : {A : Type 0} (xs ys : List A) (n : ℕ) (x : A) → slice_get xs n ≡ Some x → slice_get (xs ++ ys) n ≡ Some x
get_front [] ys n x is = absurd (cc)
get_front (y ∷ xs) ys zero x is = is
get_front (y ∷ xs) ys (suc n) x is = get_front xs ys n x is

-- ---- the body

module _ (p : ℕ → Bool) (f : Features) (few further : List ℕ) (text : List ℕ) (types : List (ValType ℕ)) (own : List Op)
    (names : Lookup) (in_place : (space : Space) (n found : ℕ) → names space n ≡ Some found → found ≡ n) (h : BodyReads (context names p f) (slice_get (few ++ further)) text types own)
    (ids : Lookup) (ids_in_place : (space : Space) (n found : ℕ) → ids space n ≡ Some found → found ≡ n) (bytes : List ℕ) (front : List Op) (last : Op)
    (r : OperatorsRead (context ids p (record f { legacy_exceptions = false })) (slice_get few) bytes (front ++ last ∷ [])) where
  abbrev all : ℕ → Option ℕ
  all = slice_get (few ++ further)

  pub body_reads : (whole : List ℕ) × BodyReads (context itself p f) all whole types (front ++ own)
  body_reads =
      let texts = ops_but_last ids (slice_get few) op_of r.texts front last r.named in
      let row = row_front _ bytes r.texts texts.0 texts.1.0 r.spelled texts.1.1 in
      let o = h.operators in (
        h.front ++ (row.0 ++ h.back),
        record {
          front = h.front;
          back = row.0 ++ h.back;
          parts = refl;
          declared = h.declared;
          declares = h.declares;
          typed = types_grow names in_place h.declared types h.typed;
          operators = record {
            texts = texts.0 ++ o.texts;
            spelled = row_append _ row.0 h.back texts.0 o.texts row.1 o.spelled;
            named = ap (named_ops itself all) (map-append op_of texts.0 o.texts)
                ∙ ops_append itself all (map op_of texts.0) (map op_of o.texts) front own
                (ops_grow ids ids_in_place (slice_get few) all (λ n found is. get_front few further n found is) (map op_of texts.0) front texts.1.2)
                (ops_grow names in_place all all (λ n found is. is) (map op_of o.texts) own o.named);
            nested = front_nests front last own r.nested o.nested;
            allowed = all_both (λ (x : Op). is_allowed f x.op) front own (all_allowed f front (all_front (λ (x : Op). is_allowed (record f { legacy_exceptions = false }) x.op) front (last ∷ []) r.allowed)) o.allowed;
            blocks = all_both (λ (x : Op). args_hold p x.args) front own (all_front (λ (x : Op). args_hold p x.args) front (last ∷ []) r.blocks) o.blocks;
          };
        },
      )

-- ---- all but the last one

pub split_last : (ops : List Op) → are_nested ops ≡ true → (last : Op) × (ops ≡ but_last ops ++ last ∷ [])
split_last [] nested = absurd (cc)
split_last (o ∷ ops) nested =
    let rest = behind o ops in
    let count : length ops ≡ length (o ∷ ops) - 1 = omega arith in
    (rest.0, rest.1 ∙ ap (λ (n : ℕ). take n (o ∷ ops) ++ rest.0 ∷ []) count)
  where
    behind : (p : Op) (ops : List Op) → (last : Op) × (p ∷ ops ≡ take (length ops) (p ∷ ops) ++ last ∷ [])
    behind p [] = (p, refl)
    behind p (q ∷ ops) = let rest = behind q ops in (rest.0, ap (λ (xs : List Op). p ∷ xs) rest.1)
