-- A module that took in the sections, before its names are there.
use Rattle.std.proofs.Common.{◌≡◌, ℕ, ◌+◌, ◌<◌, ◌≤◌, List, [], ◌++◌, length, refl, sym, ap, subst, ◌∙◌, arith, inl, inr, length-append}
use Rattle.std.specs.Prelude.{Option, Some, None, IsSome, replicate, slice_get, zip, false}
use Rattle.std.specs.List.{range_with_len}
use Rattle.std.proofs.lemmas.List.FromFn.{length-range_with_len}
use Rattle.walrus_base.specs.Arena.{item_at}
use Rattle.walrus_bodies.specs.declared.features.Features.{Features}
use Rattle.walrus_functions.specs.Handlers.{params_of}
use Rattle.walrus_groups.specs.Groups.{types_from}
use Rattle.walrus_items.specs.Functions.{FunctionValue, functions}
use Rattle.walrus_model.specs.Abstract.{Abstract, Body, Function, ProducerField, TypeDef}
use Rattle.walrus_model.specs.Config.{Config}
use Rattle.walrus_model.specs.Names.{body_of_function, body_of_kind}
use Rattle.walrus_model.specs.Producers.{produced}
use Rattle.walrus_model.specs.Renaming.{Renaming}
use Rattle.walrus_model.specs.Sections.{Said, body_with, customs_of, data_segments_of, elements_of, functions_of, imported, imported_function, memories_of, tables_of, types_of}
use Rattle.walrus_base.proofs.Standing.{got_in, some_inj}
use Rattle.walrus_theorem.specs.Chain.{ParsedAs}
use Rattle.walrus_theorem.specs.Sections.{module_of}
use Rattle.walrus_contents.specs.View.{contents_view}
use Rattle.walrus_contents.specs.declared.parts.Contents.{Contents}
use Rattle.walrus_reading.specs.Laws.{IsUnnamed}
use Rattle.walrus_reading.specs.TakenNames.{Bounds, place_of}
use Rattle.walrus_reading.specs.Held.{HoldsImportedFunction, memory_keeps, table_keeps}
use Rattle.walrus_reading.specs.Taken.{HasTaken, local_counts, locals_said, starts_of}
use Rattle.walrus_reading.proofs.AllHeld.{Fits, all_fit}
use Rattle.walrus_reading.proofs.Carrying.{first_at, first_of, held_at, parsed, parsed_places, parsed_types}
use Rattle.walrus_theorem.proofs.Aside.{customs_aside, renaming_aside, types_aside, with_customs}
use Rattle.walrus_reading.proofs.Held.{starts_taken}
use Rattle.walrus_reading.proofs.LocalStarts.{joined}
use Rattle.walrus_reading.proofs.Placed.{own_ids}
use Rattle.walrus_reading.proofs.Rows.{placed_length}
use Rattle.walrus_reading.proofs.Unnamed.{nothing_named}
use Rattle.wasm_frames.specs.Record as wire
use Rattle.walrus_theorem.proofs.ReadFits.{some_there as got_within}
use Rattle.walrus_theorem.proofs.ReadBody.{body_from as function_by}

-- ---- bodies

range_itself : (n : ℕ) → range_with_len 0 n ≡ range_with_len 0 (length (range_with_len 0 n))
range_itself n = ap (range_with_len 0) (sym (length-range_with_len 0 n))

module _ (c : Features) (r : wire.Module) (x : Contents) (many : length r.bodies ≡ length r.functions) (h : HasTaken c r x) (ps : List ProducerField) where
  abbrev slots : List (Option FunctionValue)
  slots = functions x.funcs

  abbrev said : List Function
  said = functions_of r h.bodies

  abbrev starts : List ℕ
  starts = starts_taken c r x h

  abbrev first : ℕ → ℕ
  first f = first_at c r starts x.locals said slots (all_fit c r x h many) f

  -- function f has the body a, which a section says, and its locals stand where the starts say
  record OwnAt (f : ℕ) (a : Body) : Type 0 where
    pair : ℕ × Said
    is : body_with (params_of (types_of r pair.0)) pair.1 ≡ a
    places : (n : ℕ) → n < length (locals_said (types_of r) pair) → place_of starts f n ≡ Some (first f + n)

  by_fit : (f : ℕ) (a : Body) (g : Function) (slot : Option FunctionValue) (fits : Fits c r starts x.locals g slot) → first f ≡ first_of c r starts x.locals g slot fits → item_at slots f ≡ slot → body_of_kind g.kind ≡ Some a → OwnAt f a
  by_fit f a g slot (inl q) same at was = absurd (let no : ◌≡◌ {A = Option Body} None (Some a) = sym (ap body_of_kind q.by.1) ∙ was in cc)
  by_fit f a g slot (inr o) same at was =
      let own : o.holds.value.id ≡ f = (own_ids c r x h).functions f o.holds.value (at ∙ o.holds.is) in
      record {
        pair = o.pair;
        is = some_inj (body_with (params_of (types_of r o.pair.0)) o.pair.1) a (sym (ap (λ (y : Function). body_of_kind y.kind) o.says) ∙ was);
        places = λ n lt. ap (λ (i : ℕ). place_of starts i n) (sym own) ∙ o.holds.places n lt ∙ ap (λ (k : ℕ). Some (k + n)) (sym same);
      }

  own_at : (f : ℕ) (a : Body) → body_of_function (slice_get said f) ≡ Some a → OwnAt f a
  own_at f a is =
      let s = function_by (slice_get said f) a is in
      let k = held_at c r starts x.locals said slots (all_fit c r x h many) f (got_in said f s.0 s.1).0 in
      let one : k.said ≡ s.0 = some_inj k.said s.0 (sym k.got ∙ s.1) in
      by_fit f a k.said k.slot k.fits k.same k.at (ap (λ (g : Function). body_of_kind g.kind) one ∙ s.2)

  module _ (f : ℕ) (a : Body) (o : OwnAt f a) where
    own_parameters : a.parameters ≡ range_with_len 0 (length a.parameters)
    own_parameters = subst (λ (b : Body). b.parameters ≡ range_with_len 0 (length b.parameters)) o.is (range_itself (length (params_of (types_of r o.pair.0))))

    module _ (n : ℕ) (typed : IsSome (a.local_type n)) where
      own_within : n < length (locals_said (types_of r) o.pair)
      own_within = got_within (locals_said (types_of r) o.pair) n (subst (λ (b : Body). IsSome (b.local_type n)) (sym o.is) typed)

      is_within : n < length a.parameters + a.declared
      is_within =
          let params = params_of (types_of r o.pair.0) in
          let lt : n < length (params ++ o.pair.1.0) = own_within in
          subst (λ (b : Body). n < length b.parameters + b.declared) o.is (omega (arith, lt, length-append params o.pair.1.0, length-range_with_len 0 (length params)))

      is_placed : place_of starts f n ≡ Some (first f + n)
      is_placed = o.places n own_within

  -- ---- the module before its names are there, custom sections aside

  abbrev pub unnamed_module : Abstract
  unnamed_module = with_customs (module_of r h.bodies ps []) []

  module _ (config : Config) (own_names : config.synthetic_names ≡ false) (on_tables : (table segment : ℕ) → length (tables_of r) ≤ table → table_keeps (elements_of r) table segment ≡ false)
      (on_memories : (memory segment : ℕ) → length (memories_of r) ≤ memory → memory_keeps (data_segments_of r) memory segment ≡ false) (put_in : (contents_view x).producers ≡ produced ps) where
    abbrev whole : ParsedAs config (module_of r h.bodies ps []) (with_customs (contents_view x) (customs_of r.customs))
    whole = parsed c r x many h ps config own_names on_tables on_memories (customs_of r.customs) refl put_in

    pub is_unnamed : (b : Bounds) → b.types ≡ length (types_from 0 r.types) → b.starts ≡ starts_of (types_of r) (length (imported imported_function 0 r.imports)) (zip r.functions h.bodies) → IsUnnamed config unnamed_module b x
    is_unnamed b types begin =
        let brought : length (imported imported_function 0 r.imports) ≡ length h.functions.front = placed_length HoldsImportedFunction 0 (imported imported_function 0 r.imports) h.functions.front h.functions.brings in
        let taken : b.starts ≡ starts = begin ∙ ap (λ (n : ℕ). starts_of (types_of r) n (zip r.functions h.bodies)) brought in
        let M : Abstract = module_of r h.bodies ps [] in
        let v : Abstract = with_customs (contents_view x) (customs_of r.customs) in
        let types_are = types_aside config M v [] whole ∙ parsed_types c r x many h ps config own_names on_tables on_memories (customs_of r.customs) refl put_in in
        let moves = renaming_aside config M v [] whole ∙ parsed_places c r x many h ps config own_names on_tables on_memories (customs_of r.customs) refl put_in in
        record {
          parsed = customs_aside config M v [] whole;
          nothing = nothing_named c r x h;
          types = types ∙ ap length (sym types_are);
          read_types = λ i live. subst (λ (l : List TypeDef). i < length l) (sym types_are) (got_within (types_from 0 r.types) i live);
          many = replicate (length (imported imported_function 0 r.imports)) 0 ++ local_counts (types_of r) (zip r.functions h.bodies);
          starts = begin ∙ joined (length (imported imported_function 0 r.imports)) (local_counts (types_of r) (zip r.functions h.bodies));
          places = λ f a n is typed.
              ap (λ (l : List ℕ). place_of l f n) taken ∙ is_placed f a (own_at f a is) n typed ∙ ap (λ (g : Renaming). Some (g.locals f n)) (sym moves);
          parameters = λ f a is. own_parameters f a (own_at f a is);
          within = λ f a n is typed. is_within f a (own_at f a is) n typed;
        }
