-- A function whose body was read, among the functions and locals of a module.
use Rattle.std.proofs.Common.{◌≡◌, ℕ, suc, ◌+◌, ◌<◌, ◌≤◌, List, [], ◌∷◌, ◌++◌, length, map, flat_map, take, get_or, refl, sym, ap, ap₂, subst, ◌∙◌, arith, append_assoc, append-nil, length-append}
use Rattle.std.specs.Prelude.{Option, Some, None, Result, Err, replicate, zip}
use Rattle.std.specs.List.{AllZip, range_with_len}
use Rattle.std.proofs.lemmas.Grind.{flat_map-append}
use Rattle.std.proofs.lemmas.List.{length-map, length-take-le, get_or-map, map-append}
use Rattle.std.proofs.lemmas.Option.{slice_get-get_or}
use Rattle.walrus_base.specs.Arena.{item_at}
use Rattle.walrus_base.specs.Types.{ValType}
use Rattle.walrus_base.specs.TypeDef.{TypeDef}
use Rattle.walrus_base.specs.Value.{val_type}
use Rattle.walrus_base.specs.declared.locals.Local.{Local}
use Rattle.walrus_base.specs.declared.locals.ModuleLocals.{ModuleLocals}
use Rattle.walrus_items.specs.Function.{body_of, handlers_in}
use Rattle.walrus_code.specs.declared.error.IrError.{IrError}
use Rattle.walrus_code.specs.declared.error.IrError.TheVariants.{Malformed, Memory, NoIndex, NotWritable, TooLarge}
use Rattle.walrus_items.specs.LocalFunction.{LocalFunction}
use Rattle.walrus_bodies.specs.Body.{Context, BodyReads}
use Rattle.walrus_bodies.specs.BodyRead.{new_locals}
use Rattle.walrus_functions.specs.Handlers.{handlers_of, params_of}
use Rattle.walrus_functions.specs.Laws.{moved_op}
use Rattle.walrus_functions.specs.ReadFunction.{AddsTypes, FunctionIsRead, ReadsFunction, Slots, locals_from}
use Rattle.walrus_functions.proofs.LawMoves.{there, back}
use Rattle.walrus_items.specs.Functions.{FunctionValue}
use Rattle.walrus_items.specs.declared.function_kind.FunctionKind.TheVariants as kind
use Rattle.walrus_model.specs.Sections.{Said}
use Rattle.walrus_contents.specs.View.{handlers_at}
use Rattle.walrus_model.proofs.PlacedTypes.{zip_length, pair_at, pairs_long, pairs_more, pairs_all}
use Rattle.walrus_items.specs.declared.error.Error.TheVariants as Parts
use Rattle.walrus_reading.specs.Placed.{AllPlaced}
use Rattle.walrus_reading.specs.Taken.{AddsHandlersOf, AddsLocalsOf, AreTaken, HoldsLocal, HoldFunctions, IsSaid, IsTaken, SaysUnder, TakesFunction, TakesFunctions, locals_said}
use Rattle.walrus_reading.specs.Unread.{unread_of}
use Rattle.walrus_reading.specs.declared.unread.Unread.{Unread}
use Rattle.walrus_reading.specs.declared.unread.Unread.TheVariants.{Body, Fails}
use Rattle.walrus_reading.proofs.Grown.{handlers_moved}
use Rattle.walrus_reading.proofs.Placed.{held_push, new_placed}
use Rattle.walrus_reading.proofs.Rows.{in_turn_append, placed_append, placed_length}
use Rattle.walrus_reading.proofs.LocalStarts.{one_more_start}
use Rattle.wasm_frames.specs.declared.record.RawBody.{RawBody}
use Rattle.wasm_frames.specs.Record as wire
use Rattle.walrus_base.proofs.ZipTurns.{zip_snoc as zip_push}

-- ---- a function that is read

module _ (c : Context) (tags : ℕ → Option ℕ) (f : ℕ × wire.Body) (ty : ℕ) (own : ty ≡ f.0) (old_types new_types : Slots) (old new : List (Option Local)) where
  abbrev types : ℕ → Option TypeDef
  types = item_at old_types.types

  abbrev Reads : ℕ → Result LocalFunction IrError → Type 0
  Reads t result = ReadsFunction c tags t old_types new_types old new f.1.bytes result

  pub not_taken : (before after : List (Option FunctionValue)) (index : ℕ) → index ≡ length before → (e : IrError) → ReadsFunction c tags ty old_types new_types old new f.1.bytes (Err e)
      → TakesFunction c (item_at old_types.types) tags f old_types new_types old new before after (Err (unread_of index e))
  not_taken before after index next Malformed h = (
    next,
    λ said read.
        let count = length (params_of (types f.0)) + length said.0 in
        (subst (λ t. Reads t (Err Malformed)) own h) said.0 (map (moved_op (length old)) said.1) (there c (length old) count f.1.bytes said.0 said.1 read),
  )
  not_taken before after index next (Memory m) h = tt
  not_taken before after index next NoIndex h = absurd h
  not_taken before after index next NotWritable h = absurd h
  not_taken before after index next TooLarge h = absurd h

  module _ (g : LocalFunction) (is : FunctionIsRead c tags f.0 old_types new_types old new f.1.bytes g) where
    arity : length (params_of (types f.0)) ≡ length is.params
    arity = ap length (sym is.takes) ∙ length-map is.params val_type

    -- the declared locals stand behind the parameters
    all_added : AddsLocalsOf (params_of (types f.0) ++ map val_type is.declared) old new
    all_added =
        let row : map val_type (is.params ++ is.declared) ≡ params_of (types f.0) ++ map val_type is.declared = map-append val_type is.params is.declared ∙ ap (λ (l : List (ValType ℕ)). l ++ map val_type is.declared) is.takes in
        subst (λ (l : List (ValType ℕ)). AddsLocalsOf l old new) row
        (new_locals is.ids (is.params ++ is.declared), (is.added.added, new_placed (length old) is.ids (is.params ++ is.declared) is.added.places))

    read_there : BodyReads c (locals_from (length old) (length (params_of (types f.0)) + length (map val_type is.declared))) f.1.bytes (map val_type is.declared) (body_of g)
    read_there =
        let many : length is.params + length is.declared ≡ length (params_of (types f.0)) + length (map val_type is.declared) = omega (arith, arity, length-map is.declared val_type) in
        subst (λ (n : ℕ). BodyReads c (locals_from (length old) n) f.1.bytes (map val_type is.declared) (body_of g)) many is.reads

    taken_as : (id : ℕ) (slot : Option FunctionValue) → slot ≡ Some (record { id = id; kind = kind.Local g; name = None }) → IsTaken c (item_at old_types.types) tags id old_types new_types old new f slot
    taken_as id slot here =
        let from = back c (length old) (length (params_of (types f.0)) + length (map val_type is.declared)) f.1.bytes (map val_type is.declared) (body_of g) read_there in
        let needs : handlers_of (item_at old_types.types) tags (body_of g) ≡ handlers_of (item_at old_types.types) tags from.0 =
        ap (handlers_of (item_at old_types.types) tags) from.1.1 ∙ handlers_moved (item_at old_types.types) tags (length old) from.0 in
        record {
          said = (map val_type is.declared, from.0);
          read = from.1.0;
          held = record {
            local = g;
            is = here;
            body = record {
              typed = is.own_type;
              parameters = is.parameters ∙ ap (range_with_len (length old)) (sym arity);
              operators = from.1.1;
              unnamed = is.unnamed;
            };
          };
          added = all_added;
          handlers = subst (λ (o : Option FunctionValue). AddsTypes (handlers_of (item_at old_types.types) tags from.0) old_types new_types (handlers_at o)) (sym here)
              (subst (λ fs. AddsTypes fs old_types new_types (handlers_in g)) needs is.handlers);
        }

  pub taken : (g : LocalFunction) → FunctionIsRead c tags ty old_types new_types old new f.1.bytes g → (id : ℕ) (slot : Option FunctionValue) → slot ≡ Some (record { id = id; kind = kind.Local g; name = None })
      → IsTaken c (item_at old_types.types) tags id old_types new_types old new f slot
  taken g is id slot here = taken_as g (subst (λ t. FunctionIsRead c tags t old_types new_types old new f.1.bytes g) own is) id slot here

-- ---- one function after another

-- one more function behind those that are taken
more_taken : (c : Context) (types : ℕ → Option TypeDef) (tags : ℕ → Option ℕ) (first now next : Slots) (fs : List (ℕ × wire.Body)) (all new : List (Option Local)) (old slots after : List (Option FunctionValue)) (f : ℕ × wire.Body) (slot : Option FunctionValue) (starts ends : List ℕ)
    → AreTaken c types tags fs all first now old slots starts → after ≡ slots ++ slot ∷ [] → IsTaken c types tags (length slots) now next all new f slot → ends ≡ starts ++ length new ∷ [] → AreTaken c types tags (fs ++ f ∷ []) new first next old after ends
more_taken c types tags first now next fs all new old slots after f slot starts ends done push t counted =
    let p : ℕ × Said = (f.0, t.said) in
    let own : List (ValType ℕ) = locals_said types p in
    let added : List (Option FunctionValue) = done.functions.added in
    let row : flat_map (locals_said types) (done.said ++ p ∷ []) ≡ flat_map (locals_said types) done.said ++ own =
    flat_map-append (locals_said types) done.said (p ∷ []) ∙ ap (λ (l : List (ValType ℕ)). flat_map (locals_said types) done.said ++ l) (append-nil own) in
    let here : length all ≡ length (flat_map (locals_said types) done.said) = sym (placed_length HoldsLocal 0 (flat_map (locals_said types) done.said) all done.locals) in
    let placed : AllPlaced HoldsLocal 0 (flat_map (locals_said types) done.said ++ own) (all ++ t.added.0) =
    placed_append HoldsLocal 0 (length all) (flat_map (locals_said types) done.said) all own t.added.0 (omega arith) done.locals t.added.1.1 in
    let long : length (flat_map (locals_said types) (done.said ++ p ∷ [])) ≡ length new =
    ap length row ∙ placed_length HoldsLocal 0 (flat_map (locals_said types) done.said ++ own) (all ++ t.added.0) placed ∙ ap length (sym t.added.1.0) in
    record {
      said = done.said ++ p ∷ [];
      read = zip_push (IsSaid c types) fs done.said f p done.read (refl, t.read);
      functions = record {
        added = added ++ slot ∷ [];
        behind = push ∙ ap (λ (l : List (Option FunctionValue)). l ++ slot ∷ []) done.functions.behind ∙ append_assoc old added (slot ∷ []);
        held = held_push types (length old) 0 done.said added p slot (length slots) (length all) (ap length done.functions.behind ∙ length-append old added) (omega (arith, here)) done.functions.held t.held;
      };
      locals = subst (λ (l : List (Option Local)). AllPlaced HoldsLocal 0 (flat_map (locals_said types) (done.said ++ p ∷ [])) l) (sym t.added.1.0)
          (subst (λ (ts : List (ValType ℕ)). AllPlaced HoldsLocal 0 ts (all ++ t.added.0)) (sym row) placed);
      handlers = in_turn_append (AddsHandlersOf types tags) done.said added (p ∷ []) (slot ∷ []) first now next done.handlers (next, (t.handlers, refl));
      starts_are = counted ∙ ap (λ (l : List ℕ). l ++ length new ∷ []) done.starts_are ∙ sym (one_more_start types (length old) done.said p (length new) long);
    }

-- there is a function for each that is held
held_long : (types : ℕ → Option TypeDef) (id first : ℕ) (ps : List (ℕ × Said)) (slots : List (Option FunctionValue)) → HoldFunctions types id first ps slots → length slots ≡ length ps
held_long types id first [] [] h = refl
held_long types id first [] (slot ∷ slots) h = absurd h
held_long types id first (p ∷ ps) [] h = absurd h
held_long types id first (p ∷ ps) (slot ∷ slots) h = ap suc (held_long types (id + 1) (first + length (locals_said types p)) ps slots h.1)

-- so many functions are taken behind the others
taken_long : (c : Context) (types : ℕ → Option TypeDef) (tags : ℕ → Option ℕ) (fs : List (ℕ × wire.Body)) (i : ℕ) (all : List (Option Local)) (first now : Slots) (old after : List (Option FunctionValue)) (starts : List ℕ) → i < length fs
    → AreTaken c types tags (take i fs) all first now old after starts → length after ≡ length old + i
taken_long c types tags fs i all first now old after starts lt done =
    let added : List (Option FunctionValue) = done.functions.added in
    let as_said : length added ≡ length done.said = held_long types (length old) 0 done.said added done.functions.held in
    let as_read : length (take i fs) ≡ length done.said = zip_length (IsSaid c types) (take i fs) done.said done.read in
    let so_many : length (take i fs) ≡ i = length-take-le i fs (omega (arith, lt)) in
    omega (arith, ap length done.functions.behind, length-append old added, as_said, as_read, so_many)

-- what the bodies say, without the types
says_alone : (c : Context) (types : ℕ → Option TypeDef) (fs : List (ℕ × wire.Body)) (said : List (ℕ × Said)) → AllZip (IsSaid c types) fs said → AllZip (SaysUnder c types) fs (map (λ (s : ℕ × Said). s.1) said)
says_alone c types [] [] h = tt
says_alone c types [] (s ∷ said) h = absurd h
says_alone c types (f ∷ fs) [] h = absurd h
says_alone c types (f ∷ fs) (s ∷ said) h = (h.0.1, says_alone c types fs said h.1)

module _ (c : Context) (types : ℕ → Option TypeDef) (tags : ℕ → Option ℕ) (fs : List ℕ) (raw : List RawBody) (many : length raw ≡ length fs) where
  abbrev pairs : List (ℕ × wire.Body)
  pairs = zip fs (map wire.body_record raw)

  as_many : length (map wire.body_record raw) ≡ length fs
  as_many = length-map raw wire.body_record ∙ many

  body_at : (i : ℕ) (e : RawBody) → i < length fs → get_or (map wire.body_record raw) i (wire.body_record e) ≡ wire.body_record (get_or raw i e)
  body_at i e lt = get_or-map wire.body_record raw i e (wire.body_record e) (omega (arith, lt, many))

  pub none_taken : (first : Slots) (all : List (Option Local)) (old slots : List (Option FunctionValue)) → all ≡ [] → slots ≡ old → (starts : List ℕ) → starts ≡ replicate (length slots) 0 ++ 0 ∷ [] → AreTaken c types tags (take 0 (zip fs (map wire.body_record raw))) all first first old slots starts
  none_taken first all old slots no_locals same starts begun =
      subst (λ (l : List (Option Local)). AreTaken c types tags [] l first first old slots starts) (sym no_locals)
      (record {
        said = [];
        read = tt;
        functions = record { added = []; behind = same ∙ sym (append-nil old); held = tt };
        locals = tt;
        handlers = refl;
        starts_are = begun ∙ ap (λ (l : List (Option FunctionValue)). replicate (length l) 0 ++ 0 ∷ []) same;
      })

  -- one more function is taken
  pub one_more : (i : ℕ) (d : ℕ) (e : RawBody) (first now next : Slots) (all new : List (Option Local)) (old before after : List (Option FunctionValue)) (starts ends : List ℕ) → i < length fs
      → AreTaken c types tags (take i (zip fs (map wire.body_record raw))) all first now old before starts
      → (slot : Option FunctionValue) → after ≡ before ++ slot ∷ [] → IsTaken c types tags (length before) now next all new (get_or fs i d, wire.body_record (get_or raw i e)) slot → ends ≡ starts ++ length new ∷ []
      → AreTaken c types tags (take (i + 1) (zip fs (map wire.body_record raw))) new first next old after ends
  one_more i d e first now next all new old before after starts ends lt done slot push is counted =
      let more : take (i + 1) pairs ≡ take i pairs ++ (get_or fs i d, wire.body_record (get_or raw i e)) ∷ [] =
      pairs_more fs (map wire.body_record raw) i d (wire.body_record e) as_many lt ∙ ap (λ (b : wire.Body). take i pairs ++ (get_or fs i d, b) ∷ []) (body_at i e lt) in
      subst (λ (l : List (ℕ × wire.Body)). AreTaken c types tags l new first next old after ends) (sym more)
      (more_taken c types tags first now next (take i pairs) all new old before after (get_or fs i d, wire.body_record (get_or raw i e)) slot starts ends done push is counted)

  -- all are
  pub all_taken : (i : ℕ) (first now : Slots) (all : List (Option Local)) (old after : List (Option FunctionValue)) (starts : List ℕ) → length fs ≤ i → AreTaken c types tags (take i (zip fs (map wire.body_record raw))) all first now old after starts
      → AreTaken c types tags (zip fs (map wire.body_record raw)) all first now old after starts
  all_taken i first now all old after starts le done = subst (λ (l : List (ℕ × wire.Body)). AreTaken c types tags l all first now old after starts) (pairs_all fs (map wire.body_record raw) i as_many le) done

  -- one isn't, where those in front of it are
  pub one_refused : (i : ℕ) (d : ℕ) (e : RawBody) (now next : Slots) (old new : List (Option Local)) (others : ModuleLocals) (early late : Slots) (before after first last : List (Option FunctionValue)) (starts : List ℕ) (error : Unread) → i < length fs
      → AreTaken c types tags (take i (zip fs (map wire.body_record raw))) old early now first before starts
      → TakesFunction c types tags (get_or fs i d, wire.body_record (get_or raw i e)) now next old new before after (Err error) → TakesFunctions c types tags (zip fs (map wire.body_record raw)) others early late first last (Err error)
  one_refused i d e now next old new others early late before after first last starts (Body index) lt done h =
      let long : length pairs ≡ length fs = pairs_long fs (map wire.body_record raw) as_many in
      let within : i < length pairs = omega (arith, lt, long) in
      let here : get_or pairs i (d, wire.body_record e) ≡ (get_or fs i d, wire.body_record (get_or raw i e)) =
      pair_at fs (map wire.body_record raw) i d (wire.body_record e) as_many lt ∙ ap (λ (b : wire.Body). (get_or fs i d, b)) (body_at i e lt) in
      record {
        place = i;
        counted = h.0 ∙ taken_long c types tags pairs i old early now first before starts within done;
        function = (get_or fs i d, wire.body_record (get_or raw i e));
        there = slice_get-get_or pairs i (d, wire.body_record e) within ∙ ap Some here;
        unread = h.1;
        bodies = map (λ (s : ℕ × Said). s.1) done.said;
        before = says_alone c types (take i pairs) done.said done.read;
      }
  one_refused i d e now next old new others early late before after first last starts (Fails (Parts.Memory m)) lt done h = tt
  one_refused i d e now next old new others early late before after first last starts (Fails _) lt done h = absurd h

-- ---- what they say

pub saids_of : (c : Context) (types : ℕ → Option TypeDef) (fs : List ℕ) (bs : List wire.Body) (said : List (ℕ × Said)) → length bs ≡ length fs → AllZip (IsSaid c types) (zip fs bs) said
    → (saids : List Said) × (AllZip (SaysUnder c types) (zip fs bs) saids × (said ≡ zip fs saids))
saids_of c types [] [] [] same h = ([], (tt, refl))
saids_of c types [] [] (s ∷ said) same h = absurd h
saids_of c types [] (b ∷ bs) said same h = absurd (omega arith)
saids_of c types (f ∷ fs) [] said same h = absurd (omega arith)
saids_of c types (f ∷ fs) (b ∷ bs) [] same h = absurd h
saids_of c types (f ∷ fs) (b ∷ bs) (s ∷ said) same h =
    let rest = saids_of c types fs bs said (omega arith) h.1 in
    let one : s ≡ (f, s.1) = ap (λ (t : ℕ). (t, s.1)) h.0.0 in
    (s.1 ∷ rest.0, ((h.0.1, rest.1.0), ap₂ (λ (p : ℕ × Said) (l : List (ℕ × Said)). p ∷ l) one rest.1.1))
