-- The types that records hold: each is one of the module's, under its index.
use Rattle.std.proofs.Common.{◌≡◌, ℕ, List, length, map, sym, ap, ◌∙◌, Some}
use Rattle.std.specs.Prelude.{Option, option_map, option_and_then, slice_get}
use Rattle.walrus_base.specs.Arena.{item_at}
use Rattle.walrus_base.specs.Id.{place}
use Rattle.walrus_base.specs.Types.{ValType}
use Rattle.walrus_base.specs.Operators.{Types, Functions}
use Rattle.walrus_base.specs.TypeDef.{TypeDef}
use Rattle.walrus_items.specs.Function.{function_type, args_of}
use Rattle.walrus_code.specs.Names.{named_val}
use Rattle.walrus_bodies.specs.declared.features.Features.{Features}
use Rattle.walrus_functions.specs.EmittedBody.{takes, comp_takes}
use Rattle.walrus_functions.specs.Handlers.{params_of}
use Rattle.walrus_groups.specs.Groups.{types_from}
use Rattle.walrus_groups.specs.Named.{named_def}
use Rattle.walrus_contents.specs.View.{parts_view}
use Rattle.walrus_contents.specs.declared.parts.Parts.{Parts}
use Rattle.walrus_model.specs.Abstract.{Abstract}
use Rattle.walrus_model.specs.Sections.{types_of}
use Rattle.walrus_model.proofs.Indices.{planned_at, planned_one}
use Rattle.walrus_writing.specs.Parts.{HasBytes, slots_of, type_index}
use Rattle.walrus_writing.specs.Records.{Records}
use Rattle.walrus_functions.proofs.BodyTypes.{typed_by}
use Rattle.walrus_base.proofs.Lookups.{mapped_some, then_some, got_map, map_after, as_long}
use Rattle.walrus_model.proofs.NamedTypes.{NamedDef, def_parts, params_named}
use Rattle.walrus_writing.proofs.WrittenAs.{laid_of}

module _ {p : Parts} {features : Features} (r : Records p features) where
  abbrev V : Abstract
  V = parts_view p

  -- the types over indices
  abbrev pub new_types : List TypeDef
  new_types = types_from 0 r.types

  pub as_many_functions : length r.functions ≡ length (r.own Functions)
  as_many_functions = as_long (λ t. Some t) (λ i. option_and_then (type_index r.names) (V.functions i)) r.functions (r.own Functions) r.functions_are

  -- a type, and what it is over indices
  pub record Entered (i t : ℕ) : Type 0 where
    pub old : TypeDef
    pub new : TypeDef
    pub is : V.types i ≡ Some old
    pub at : slice_get new_types t ≡ Some new
    pub named : NamedDef r.names old new

  -- what has an index among the types is the type of that index
  pub type_entry : (i t : ℕ) → r.names Types i ≡ Some t → Entered i t
  type_entry i t e =
      let found : option_map (λ (y : TypeDef). Some y) (slice_get new_types t) ≡ Some (option_and_then (named_def r.names) (V.types i)) =
      sym (got_map (λ (y : TypeDef). Some y) new_types t) ∙ ap (λ (l : List (Option TypeDef)). slice_get l t) r.types_are ∙ got_map (λ j. option_and_then (named_def r.names) (V.types j)) (r.plan Types) t
      ∙ ap (option_map (λ j. option_and_then (named_def r.names) (V.types j))) (planned_at r.numbered r.is_plan Types i t e) in
      let y = mapped_some (λ (y : TypeDef). Some y) (slice_get new_types t) (option_and_then (named_def r.names) (V.types i)) found in
      let x = then_some (named_def r.names) (V.types i) y.0 y.2 in
      record { old = x.0; new = y.0; is = x.1; at = y.1; named = def_parts r.names x.0 y.0 x.2 }

  -- no two types have one index
  pub types_apart : (u v j : ℕ) → r.names Types u ≡ Some j → r.names Types v ≡ Some j → u ≡ v
  types_apart u v j e g = planned_one r.numbered r.is_plan Types u v j e g

  -- what a function's type takes is what its parameters are, looked up
  pub params_typed : (i t : ℕ) (bytes : List ℕ) (b : HasBytes p r.names features i bytes) → r.names Types (place (function_type b.local)) ≡ Some t
      → map Some (params_of (types_of (laid_of r) t)) ≡ map (typed_by r.names (slots_of p)) (args_of b.local)
  params_typed i t bytes b own_type =
      let z = type_entry (place (function_type b.local)) t own_type in
      let taken : comp_takes z.old.sub.comp ≡ Some b.written.fits.types = sym (ap takes z.is) ∙ b.written.fits.taken in
      ap (λ (o : Option TypeDef). map Some (params_of o)) z.at
      ∙ params_named r.names z.old.sub.comp z.new.sub.comp z.named.comp b.written.fits.types taken
      ∙ map_after (λ v. Some v) (λ (o : Option (ValType ℕ)). option_and_then (named_val r.names) o) b.written.fits.types
      ∙ ap (map (λ (o : Option (ValType ℕ)). option_and_then (named_val r.names) o)) (sym b.written.fits.typed)
      ∙ sym (map_after (item_at (slots_of p)) (λ (o : Option (ValType ℕ)). option_and_then (named_val r.names) o) (args_of b.local))
