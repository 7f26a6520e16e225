-- A module whose body uses a local that isn't there is written as two.
use Rattle.std.proofs.Common.{◌≡◌, true, ℕ, zero, suc, ◌<◌, List, [], ◌∷◌, refl, sym, ◌∙◌, subst, arith, inl, inr, ap, ⊎_elim}
use Rattle.std.specs.Prelude.{All, Option, Some, None, Contains, ◌≢◌}
use Rattle.std.proofs.lemmas.List.Elements.{All-nil, All-cons}
use Rattle.wasm_forms.specs.Grammar.{Is}
use Rattle.wasm_forms.specs.Spelling.{number_bytes, groups}
use Rattle.wasm_entries.specs.Record as entries
use Rattle.wasm_entries.specs.TypeSpelling.{GroupStands, SubStands}
use Rattle.wasm_entries.specs.Spelling.{IsIndex}
use Rattle.wasm_frames.specs.Frames as frames
use Rattle.wasm_writer.specs.Spelling.{SectionStands}
use Rattle.wasm_operators.specs.declared.operator.RawArg.TheVariants as args
use Rattle.wasm_operators.specs.Forms.{arg_form, args_form, operator_of, operator_from, operator}
use Rattle.wasm_operators.specs.Operators as wire
use Rattle.wasm_operators.specs.Table.{kinds_of}
use Rattle.walrus_base.specs.Types.{Func}
use Rattle.walrus_bodies.specs.Emitting.{AllStand}
use Rattle.walrus_base.specs.Operators as items
use Rattle.walrus_base.specs.Operators.{Space, Types, Functions, Tables, Memories, Globals, Elements, DataSegments, Local, Op}
use Rattle.walrus_model.specs.Abstract.{Abstract, TypeDef, Body, LocalFunction, Function}
use Rattle.walrus_model.specs.Declared.{ref_func, IsRefInBody, IsRefInGlobal}
use Rattle.walrus_model.specs.Live.{IsLive}
use Rattle.walrus_model.specs.Names.{body_of}
use Rattle.walrus_model.specs.Order.{ByImport}
use Rattle.walrus_model.specs.Sections.{body_with}
use Rattle.walrus_model.specs.Refers.{IsUsed}
use Rattle.walrus_model.specs.Renaming.{Renaming}
use Rattle.walrus_model.specs.Same.{SameType, SameBody, SameFunction}
use Rattle.walrus_theorem.specs.Examples.{no_values, the_end}
use Rattle.walrus_theorem.specs.Needs.{plain_config, IsWrittenTwice, local_text}
use Rattle.walrus_theorem.specs.Once.{NamesLive, ExportsLive, StartsLive}
use Rattle.walrus_theorem.specs.Pinned.{IsWrittenAs, LocalGoesBefore}
use Rattle.walrus_theorem.specs.Spelling.{BodyStands, NeedsCount, UsesAll, IsSpelling}
use Rattle.walrus_theorem.specs.Text.{BodyText, unplaced, said_by}
use Rattle.walrus_base.proofs.Lists.{Contains-none, Contains-uncons}
use Rattle.walrus_theorem.proofs.NeedsBase.{no_item, one_item, one_carried, no_items, given, are_given, IsSmall, small_rises, empty_if, NamesNone, declares_none}

-- ---- the operators stand

abbrev get : ℕ → wire.Op
get k = record { op = 0x20; args = args.Local k ∷ [] }

get_stands : (k : ℕ) → k < 128 → Is operator (0x20 ∷ k ∷ []) (get k)
unfolding operator operator_from operator_of args_form arg_form kinds_of
get_stands k low = (0x20, (0x20 ∷ [], (k ∷ [], (refl, refl, (args.Local k ∷ [], (refl, ((args.Local k ∷ [], []), (refl, (k ∷ [], ([], (refl, (k, (refl, record { spelled = (low, refl); short = omega arith; small = omega (arith, low) })), (refl, refl))))))))))))

end_stands : Is operator (0x0B ∷ []) the_end
unfolding operator operator_from operator_of args_form kinds_of
end_stands = (0x0B, (0x0B ∷ [], ([], (refl, refl, ([], (refl, (refl, refl)))))))

abbrev the_body_text : ℕ → BodyText
the_body_text k = record { declarations = []; operators = get k ∷ the_end ∷ [] }

zero_stands : AllStand (get 0 ∷ the_end ∷ [])
unfolding number_bytes groups
zero_stands = (get_stands 0 (omega arith), (end_stands, tt))

one_stands : AllStand (get 1 ∷ the_end ∷ [])
unfolding number_bytes groups
one_stands = (get_stands 1 (omega arith), (end_stands, tt))

-- ---- the module

abbrev the_type : TypeDef
the_type = record { group = 0 ∷ []; sub = record { is_final = true; supertypes = []; comp = Func [] [] } }

abbrev the_body : ℕ → Body
the_body k = body_with [] ([], record { op = 0x20; args = Local k ∷ [] } ∷ record { op = 0x0B; args = [] } ∷ [])

abbrev the_function : ℕ → Function
the_function k = record { ty = 0; kind = LocalFunction (the_body k) }

-- the local gets number k
abbrev turned : ℕ → Renaming
turned k = record { numbers = λ space i. i; imports = λ i. i; locals = λ f x. k }

same_type : SameType (λ i. i) 0 the_type the_type
same_type = record { group = refl; position = refl; sub = refl }

used_zero : (x : ℕ) → IsUsed (the_body 0) x → x ≡ 0
used_zero x u = ⊎_elim (λ (e : 0 ≡ x). sym e) (λ rest. absurd (Contains-none x rest)) (Contains-uncons 0 x [] u)

same_body : (k : ℕ) → SameBody (turned k) 0 (the_body 0) (the_body k)
same_body k = record {
  operators = refl;
  apart = λ x y ux uy e. used_zero x ux ∙ sym (used_zero y uy);
  types = λ x u. refl;
  parameters = λ x u. refl;
}

same_function : (k : ℕ) → SameFunction (turned k) 0 (the_function 0) (the_function k)
same_function k = record { ty = refl; kind = same_body k }

body_there : (k f : ℕ) (b : Body) → body_of (said_by (local_text k)) f ≡ Some b → the_body k ≡ b
body_there k zero b e = cc
body_there k (suc f) b e = absurd (let h : None ≡ Some b = e in cc)

local_small : IsSmall (said_by (local_text 0))
local_small = record { single = single; still = still; no_import = λ i h. absurd (let e : None ≡ Some h.0 = h.1 in cc) }
  where
    single : (space : Space) (i : ℕ) → IsLive (said_by (local_text 0)) (space, i) → i ≡ 0
    single Types i h = one_item the_type i h
    single Functions i h = one_item (the_function 0) i h
    single Tables i h = absurd (no_item i h)
    single Memories i h = absurd (no_item i h)
    single items.Tags i h = absurd (no_item i h)
    single Globals i h = absurd (no_item i h)
    single Elements i h = absurd (no_item i h)
    single DataSegments i h = absurd (no_item i h)

    still : (space : Space) → ByImport (said_by (local_text 0)) space 0 0 → ⊥
    still Types h = absurd (omega (arith, h))
    still Functions h = ⊎_elim (λ (l : 2 < 2). absurd (omega (arith, l))) (λ l. absurd (omega (arith, l.1))) h
    still Tables h = h
    still Memories h = h
    still items.Tags h = h
    still Globals h = h
    still Elements h = absurd (omega (arith, h))
    still DataSegments h = absurd (omega (arith, h))

no_ref : (f : ℕ) → Contains (the_body 0).operators (ref_func f) → ⊥
no_ref f at = ⊎_elim
    (λ e. differs 0x20 0xD2 (omega arith) (ap (λ (o : Op). o.op) e))
    (λ rest. ⊎_elim (λ e. differs 0x0B 0xD2 (omega arith) (ap (λ (o : Op). o.op) e)) (λ none. Contains-none (ref_func f) none) (Contains-uncons (record { op = 0x0B; args = [] }) (ref_func f) [] rest))
    (Contains-uncons (record { op = 0x20; args = Local 0 ∷ [] }) (ref_func f) (record { op = 0x0B; args = [] } ∷ []) at)
  where
    differs : (a b : ℕ) → a < b → a ≡ b → ⊥
    differs a b l e = omega (arith, l, e)

local_names_none : NamesNone (said_by (local_text 0))
local_names_none f u = ⊎_elim
    (λ (h : IsRefInBody (IsLive (said_by (local_text 0))) (said_by (local_text 0)) f). no_ref f (subst (λ (b : Body). Contains b.operators (ref_func f)) (sym (body_there 0 h.0 h.1 h.3)) h.4))
    (λ (h : IsRefInGlobal (IsLive (said_by (local_text 0))) (said_by (local_text 0)) f). no_item h.0 h.3)
    u.named

no_type : (k f : ℕ) (b : Body) (x y : ℕ) → body_of (said_by (local_text k)) f ≡ Some b → LocalGoesBefore b x y → ⊥
no_type k f b x y e g =
    let here : LocalGoesBefore (the_body k) x y = subst (λ (d : Body). LocalGoesBefore d x y) (sym (body_there k f b e)) g in
    let typed : None ≡ Some here.0 = here.1.1.0 in
    cc

local_written : (k : ℕ) → IsWrittenAs plain_config (said_by (local_text 0)) (said_by (local_text k))
local_written k = record {
  written = record {
    renaming = turned k;
    segment = None;
    indices = given (said_by (local_text 0)) (turned k);
    carried = record {
      types = one_carried _ (λ i. i) _ the_type the_type refl same_type;
      imports = no_items _ _ _ _ local_small.no_import;
      functions = one_carried _ (λ i. i) _ (the_function 0) (the_function k) refl (same_function k);
      tables = no_items _ _ _ _ no_item;
      memories = no_items _ _ _ _ no_item;
      tags = no_items _ _ _ _ no_item;
      globals = no_items _ _ _ _ no_item;
      elements = no_items _ _ _ _ no_item;
      data_segments = no_items _ _ _ _ no_item;
      imports_apart = λ i j li lj e. e;
      apart = λ space away i j li lj e. local_small.single space i li ∙ sym (local_small.single space j lj);
      exports = refl;
      start = refl;
    };
    rises = small_rises (said_by (local_text 0)) (turned k) local_small;
    declares = declares_none (said_by (local_text 0)) (said_by (local_text k)) (turned k) local_names_none;
    names = λ y. empty_if _ [] refl;
    producers = refl;
    indexed = are_given (said_by (local_text 0)) (turned k);
    customs = refl;
  };
  pinned = record {
    types_rise = λ i j li lj lt. let a = local_small.single Types i li in let b = local_small.single Types j lj in absurd (omega (arith, a, b, lt));
    type_names = λ e. absurd (cc);
    locals = λ f b x y e dx dy g. absurd (no_type 0 f b x y e g);
  };
}

-- ---- the texts are spellings

types_stand : SectionStands (frames.Types (no_values ∷ []))
types_stand = All-cons GroupStands no_values [] (All-cons SubStands _ [] (All-nil _, (All-nil _, All-nil _)) (All-nil SubStands)) (All-nil GroupStands)

body_stands : (k : ℕ) → AllStand (get k ∷ the_end ∷ []) → BodyStands (the_body_text k)
body_stands k h = record {
  apart = λ i j d less at. absurd (omega arith);
  filled = All-nil _;
  ranked = λ i j d less at. absurd (omega arith);
  types = All-nil _;
  operators = h;
}

uses : (k f : ℕ) (b : Body) → body_of (said_by (local_text k)) f ≡ Some b → UsesAll b
uses k f b e = subst UsesAll (body_there k f b e) (λ x low high. absurd (omega arith))

no_name : (f d : ℕ) → Contains {X = items.Item} [] (DataSegments, d) → ⊥
no_name f d at = Contains-none (DataSegments, d) at

local_no_data : (k : ℕ) → NeedsCount (said_by (local_text k)) → ⊥
local_no_data k (inl (d, h)) = h
local_no_data k (inr (zero, (d, h))) = no_name 0 d h
local_no_data k (inr (suc f, (d, h))) = h

not_empty : no_values ≢ []
not_empty e = cc

abbrev IsFilled : entries.Group → Type 0
IsFilled g = g ≢ []

all_three : {A : Type 0} (P : A → Type 0) (a b c : A) → P a → P b → P c → All P (a ∷ b ∷ c ∷ [])
all_three P a b c p q r = All-cons P a (b ∷ c ∷ []) p (All-cons P b (c ∷ []) q (All-cons P c [] r (All-nil P)))

local_spelled : (k : ℕ) → AllStand (get k ∷ the_end ∷ []) → IsSpelling (said_by (local_text k)) (local_text k)
local_spelled k h = record {
  says = refl;
  stand = all_three SectionStands (frames.Types (no_values ∷ [])) (frames.Functions (0 ∷ [])) (frames.Code (unplaced (the_body_text k) ∷ [])) types_stand (All-cons IsIndex 0 [] (omega arith) (All-nil IsIndex)) tt;
  filled = All-cons IsFilled no_values [] not_empty (All-nil IsFilled);
  bodies = All-cons BodyStands (the_body_text k) [] (body_stands k h) (All-nil BodyStands);
  used = uses k;
  as_many_bodies = refl;
  elements = All-nil _;
  data_count = local_no_data k;
  names = record {
    module_name = tt;
    items = λ space. ((λ i j d less at. absurd (omega arith)), All-nil _);
    functions = λ i j d less at. absurd (omega arith);
    locals = All-nil _;
    are_there = All-nil _;
  };
  producers = All-nil _;
  dylinks = All-nil _;
  others = All-nil _;
}

abbrev first_local : List Op → ℕ
first_local [] = 0
first_local (o ∷ os) = of_args o.args
  where
    of_args : List items.Arg → ℕ
    of_args [] = 0
    of_args (Local x ∷ rest) = x
    of_args (a ∷ rest) = 0

abbrev local_number : Option Body → ℕ
local_number None = 0
local_number (Some b) = first_local b.operators

local_differs : said_by (local_text 0) ≡ said_by (local_text 1) → ⊥
local_differs same = let one : 0 ≡ 1 = ap (λ (e : Abstract). local_number (body_of e 0)) same in omega (arith, one)

local_twice : IsWrittenTwice (said_by (local_text 0)) (local_text 0) (local_text 1)
local_twice = record { first_spells = local_spelled 0 zero_stands; second_spells = local_spelled 1 one_stands; first = local_written 0; second = local_written 1; differ = local_differs }

-- the one type is all that is named
type_there : (y : items.Item) → (ys : List items.Item) → ys ≡ (Types, 0) ∷ [] → Contains ys y → IsLive (said_by (local_text 0)) y
type_there y ys is at = ⊎_elim
    (λ e. subst (IsLive (said_by (local_text 0))) e refl)
    (λ none. absurd (Contains-none y none))
    (Contains-uncons (Types, 0) y [] (subst (λ l. Contains l y) is at))

local_names_live : NamesLive (said_by (local_text 0))
local_names_live (Types, zero) y at = type_there y _ refl at
local_names_live (Types, suc i) y at = absurd (Contains-none y at)
local_names_live (Functions, zero) y at = type_there y _ refl at
local_names_live (Functions, suc i) y at = absurd (Contains-none y at)
local_names_live (Tables, i) y at = absurd (Contains-none y at)
local_names_live (Memories, i) y at = absurd (Contains-none y at)
local_names_live (items.Tags, i) y at = absurd (Contains-none y at)
local_names_live (Globals, i) y at = absurd (Contains-none y at)
local_names_live (Elements, i) y at = absurd (Contains-none y at)
local_names_live (DataSegments, i) y at = absurd (Contains-none y at)

pub local_needed : NamesLive (said_by (local_text 0)) × ExportsLive (said_by (local_text 0)) × StartsLive (said_by (local_text 0)) × IsWrittenTwice (said_by (local_text 0)) (local_text 0) (local_text 1)
local_needed = (local_names_live, (λ e at. absurd (Contains-none e at)), (λ f e. absurd (let h : None ≡ Some f = e in cc)), local_twice)
