-- A function that was read is well formed.
use Rattle.std.proofs.Common.{◌≡◌, ◌≢◌, ℕ, ◌+◌, Bool, true, List, [], ◌∷◌, ◌++◌, map, length, drop, take, refl, sym, ap, ap₂, ◌∙◌, subst, length-append}
use Rattle.std.specs.Prelude.{Option, Some, None, IsSome, AllPairs, slice_get}
use Rattle.std.specs.Cmp.Derive.{both_true}
use Rattle.std.specs.List.{range_with_len}
use Rattle.std.proofs.Math.ListN.{get_or-append}
use Rattle.std.proofs.Math.Seq.{drop-append_seam, take-append_seam}
use Rattle.std.proofs.lemmas.Bool.{and_parts}
use Rattle.std.proofs.lemmas.List.{length-map, map-append}
use Rattle.std.proofs.lemmas.List.FromFn.{length-range_with_len}
use Rattle.walrus_base.specs.Arena.{item_at}
use Rattle.walrus_base.specs.Locals.{locals}
use Rattle.walrus_base.specs.ModuleTypes.{type_slots}
use Rattle.walrus_base.specs.Operators.{Space, OfType, NoResult, OneResult, Arg, Block, Index, Access, Value, Heap, Label, Local, Number, Count, Byte, S32, S64, Bits32, Bits64, Op}
use Rattle.walrus_base.specs.TypeDef.{TypeDef}
use Rattle.walrus_base.specs.Types.{CompType, ValType, Func, Struct, Array}
use Rattle.walrus_base.specs.Value.{val_type}
use Rattle.walrus_base.specs.declared.locals.ModuleLocals.{ModuleLocals}
use Rattle.walrus_base.specs.declared.module_types.ModuleTypes.{ModuleTypes}
use Rattle.walrus_bodies.specs.Blocks.{args_hold, block_holds, blocks_hold}
use Rattle.walrus_bodies.specs.Body.{BodyReads, context}
use Rattle.walrus_bodies.specs.FunctionTypes.{is_function_at, is_function_comp, is_function_def}
use Rattle.walrus_bodies.specs.declared.features.Features.{Features}
use Rattle.walrus_code.specs.Names.{Lookup}
use Rattle.walrus_contents.specs.View.{body}
use Rattle.walrus_functions.specs.EmittedBody.{types_of}
use Rattle.walrus_functions.specs.Handlers.{params_of}
use Rattle.walrus_functions.specs.ReadFunction.{FunctionIsRead, StaysInFront, locals_from}
use Rattle.walrus_functions.specs.Signatures.{slots_of}
use Rattle.walrus_items.specs.Function.{body_of}
use Rattle.walrus_items.specs.LocalFunction.{LocalFunction}
use Rattle.walrus_model.specs.Abstract.{Abstract}
use Rattle.walrus_model.specs.Config.{Config}
use Rattle.walrus_model.specs.Rules.{IsFunctionComp, IsFunctionType}
use Rattle.walrus_reading.proofs.Carrying.{item_within}
use Rattle.walrus_reading.proofs.DeclaredLocals.{range_apart}
use Rattle.walrus_reading.proofs.EditedLocals.{new_typed}
use Rattle.walrus_theorem.specs.Features.{features_of}
use Rattle.walrus_bodies.proofs.AddedLemmas.{range-both}
use Rattle.walrus_theorem.specs.WellMade.{IsWellFormed}
use Rattle.walrus_edit_list.specs.Formed.{IsFormed, ReadIsFormed}

-- ---- lists

parts : {X : Type 0} (x y a b : List X) → length x ≡ length y → x ++ a ≡ y ++ b → (x ≡ y) × (a ≡ b)
parts x y a b long same = (
  sym (take-append_seam x a) ∙ ap₂ (λ (n : ℕ) l. take n l) long same ∙ take-append_seam y b,
  sym (drop-append_seam x a) ∙ ap₂ (λ (n : ℕ) l. drop n l) long same ∙ drop-append_seam y b,
)

-- ---- types

pub is_there : (o : Option TypeDef) → is_function_def o ≡ true → IsSome o
is_there None h = absurd (cc)
is_there (Some x) h = refl

is_comp : (k : CompType ℕ) → is_function_comp k ≡ true → IsFunctionComp k
is_comp (Func ps rs) h = tt
is_comp (Struct fs) h = absurd (cc)
is_comp (Array e) h = absurd (cc)

is_type : (w : Abstract) (t : ℕ) (o : Option TypeDef) → w.types t ≡ o → is_function_def o ≡ true → IsFunctionType w t
is_type w t None at h = absurd (cc)
is_type w t (Some x) at h = (x, at, is_comp x.sub.comp h)

module _ (p q : ℕ → Bool) (grows : (t : ℕ) → p t ≡ true → q t ≡ true) where
  block_grows : (a : Arg) → block_holds p a ≡ true → block_holds q a ≡ true
  block_grows (Block (OfType t)) h = grows t h
  block_grows (Block NoResult) h = h
  block_grows (Block (OneResult v)) h = h
  block_grows (Index x) h = h
  block_grows (Access flags memory offset) h = h
  block_grows (Value v) h = h
  block_grows (Heap k) h = h
  block_grows (Label k) h = h
  block_grows (Local k) h = h
  block_grows (Number k) h = h
  block_grows (Count k) h = h
  block_grows (Byte k) h = h
  block_grows (S32 k) h = h
  block_grows (S64 k) h = h
  block_grows (Bits32 k) h = h
  block_grows (Bits64 k) h = h

  args_grow : (args : List Arg) → args_hold p args ≡ true → args_hold q args ≡ true
  args_grow [] h = h
  args_grow (a ∷ args) h =
      let both = and_parts (block_holds p a) (args_hold p args) h in
      both_true (block_grows a both.0) (args_grow args both.1)

  blocks_grow : (ops : List Op) → blocks_hold p ops ≡ true → blocks_hold q ops ≡ true
  blocks_grow [] h = h
  blocks_grow (o ∷ ops) h =
      let both = and_parts (args_hold p o.args) (blocks_hold p ops) h in
      both_true (args_grow o.args both.0) (blocks_grow ops both.1)

  pub reads_grow : (names : Lookup) (f : Features) (at : ℕ → Option ℕ) (text : List ℕ) (types : List (ValType ℕ)) (ops : List Op) → BodyReads (context names p f) at text types ops → BodyReads (context names q f) at text types ops
  reads_grow names f at text types ops h = record {
    front = h.front;
    back = h.back;
    parts = h.parts;
    declared = h.declared;
    declares = h.declares;
    typed = h.typed;
    operators = record {
      texts = h.operators.texts;
      spelled = h.operators.spelled;
      named = h.operators.named;
      nested = h.operators.nested;
      allowed = h.operators.allowed;
      blocks = blocks_grow ops h.operators.blocks;
    };
  }

-- ---- the function

module _ (c : Config) (w : Abstract) (old new : ModuleLocals) (old_types new_types : ModuleTypes) (names : Lookup) (tags : ℕ → Option ℕ) (ty : ℕ) (bytes : List ℕ) (f : LocalFunction)
    (grown : StaysInFront (type_slots old_types) (type_slots new_types)) (here : (t : ℕ) → w.types t ≡ item_at (type_slots new_types) t) (typed : is_function_at old_types ty ≡ true)
    (r : FunctionIsRead (context names (is_function_at old_types) (features_of c)) tags ty (slots_of old_types) (slots_of new_types) (locals old) (locals new) bytes f) where
  stays : (t : ℕ) → is_function_at old_types t ≡ true → w.types t ≡ item_at (type_slots old_types) t
  stays t is =
      here t ∙ ap (λ (xs : List (Option TypeDef)). item_at xs t) grown.1
      ∙ get_or-append (type_slots old_types) grown.0 None t (item_within (type_slots old_types) t (is_there (item_at (type_slots old_types) t) is))

  grows : (t : ℕ) → is_function_at old_types t ≡ true → is_function_def (w.types t) ≡ true
  grows t is = ap is_function_def (stays t is) ∙ is

  abbrev a : ℕ
  a = length (locals old)

  abbrev n : ℕ
  n = length r.params

  abbrev m : ℕ
  m = length r.declared

  abbrev T : ℕ → Option (ValType ℕ)
  T = item_at (types_of (locals new))

  all_typed : map T (range_with_len a n) ++ map T (range_with_len (a + n) m) ≡ map Some (map val_type r.params) ++ map Some (map val_type r.declared)
  all_typed =
      sym (map-append T (range_with_len a n) (range_with_len (a + n) m))
      ∙ ap (map T) (range-both a n m ∙ ap (range_with_len a) (sym (length-append r.params r.declared)) ∙ sym r.added.places)
      ∙ new_typed (locals old) (locals new) r.ids (r.params ++ r.declared) r.added
      ∙ ap (map Some) (map-append val_type r.params r.declared)
      ∙ map-append Some (map val_type r.params) (map val_type r.declared)

  both : (map T (range_with_len a n) ≡ map Some (map val_type r.params)) × (map T (range_with_len (a + n) m) ≡ map Some (map val_type r.declared))
  both = parts (map T (range_with_len a n)) (map Some (map val_type r.params)) (map T (range_with_len (a + n) m)) (map Some (map val_type r.declared))
      (length-map (range_with_len a n) T ∙ length-range_with_len a n ∙ sym (length-map r.params val_type) ∙ sym (length-map (map val_type r.params) (λ (t : ValType ℕ). Some t)))
      all_typed

  pub formed : IsWellFormed c w ty (body new f)
  formed = record {
    function_type = is_type w ty (item_at (type_slots old_types) ty) (stays ty typed) typed;
    distinct = subst (λ (xs : List ℕ). AllPairs (λ (x : ℕ) (y : ℕ). x ≢ y) xs) (sym r.parameters) (range_apart a n);
    typed = ap (map T) r.parameters ∙ both.0 ∙ ap (map Some) r.takes ∙ ap (λ (o : Option TypeDef). map Some (params_of o)) (sym (stays ty typed));
    names = names;
    further = range_with_len (a + n) m;
    types = map val_type r.declared;
    further_typed = sym both.1;
    text = bytes;
    read = subst (λ (xs : List ℕ). BodyReads (context names (λ t. is_function_def (w.types t)) (features_of c)) (slice_get xs) bytes (map val_type r.declared) (body_of f))
        (sym (ap (λ (xs : List ℕ). xs ++ range_with_len (a + n) m) r.parameters ∙ range-both a n m))
        (reads_grow (is_function_at old_types) (λ t. is_function_def (w.types t)) grows names (features_of c) (locals_from a (n + m)) bytes (map val_type r.declared) (body_of f) r.reads);
  }

  -- each index is the id of what it names, if the look-up says so
  pub formed_by : ((space : Space) (index id : ℕ) → names space index ≡ Some id → id ≡ index) → IsFormed c w ty (body new f)
  unfolding formed
  formed_by own = (formed, own)

pub read_formed : ReadIsFormed
read_formed c w old new old_types new_types names tags ty bytes f grown here typed r = formed c w old new old_types new_types names tags ty bytes f grown here typed r
