-- What an edit of types, globals and data segments makes of the abstract module.
use Rattle.std.proofs.Common.{◌≡◌, ℕ, List, length, Option, option_map, refl, sym, ap, ◌∙◌, subst, inl, inr}
use mathlib.Core.Path.{fun_ext}
use Rattle.walrus_base.specs.Arena.{item_at}
use Rattle.walrus_base.specs.Alone.{Added, Found, FoundOrAdded, alone}
use Rattle.walrus_base.specs.Composite.{FunctionType}
use Rattle.walrus_base.specs.ModuleTypes.{type_names, type_slots}
use Rattle.walrus_base.specs.Operators.{Types, Functions, Tables, Memories, Tags, Globals, Elements, DataSegments}
use Rattle.walrus_base.specs.TypeDef.{TypeDef}
use Rattle.walrus_base.specs.declared.module_types.ModuleTypes.{ModuleTypes}
use Rattle.walrus_model.specs.Abstract.{Global, Name, Subject, TheModule, AnItem, ALocal}
use Rattle.walrus_model.specs.WellMade.{import_in, origin_import}
use Rattle.walrus_contents.specs.View.{data_of, global_of, name_at, named_of, origin_of}
use Rattle.walrus_contents.specs.declared.parts.Contents.{Contents}
use Rattle.walrus_items.specs.Data.{data_segments}
use Rattle.walrus_items.specs.Globals.{GlobalValue, globals}
use Rattle.walrus_theorem.specs.Edits.{GainsItem}
use Rattle.walrus_module.specs.Edits.{DataAdded, Edits, GlobalAdded, HasType, TypeFound, seen}
use Rattle.walrus_module.specs.Meaning.{Meaning}
use Rattle.walrus_theorem.proofs.EditedKeeps.{keeps_all}
use Rattle.walrus_reading.proofs.EditedSlots.{comes_behind, comes_seen, free_behind, stays_before}

-- ---- types

module _ (old : Contents) (types : ModuleTypes) where
  abbrev after : Contents
  after = record old { types = types }

  -- types of the same slots and names are the same to the view
  module _ (slots : type_slots types ≡ type_slots old.types) (names : type_names types ≡ type_names old.types) where
    same_names : (s : Subject) → named_of after s ≡ named_of old s
    same_names TheModule = refl
    same_names (AnItem (Types, i)) = ap (λ xs. name_at (λ (n : Option Name). n) (item_at xs i)) names
    same_names (AnItem (Functions, i)) = refl
    same_names (AnItem (Tables, i)) = refl
    same_names (AnItem (Memories, i)) = refl
    same_names (AnItem (Tags, i)) = refl
    same_names (AnItem (Globals, i)) = refl
    same_names (AnItem (Elements, i)) = refl
    same_names (AnItem (DataSegments, i)) = refl
    same_names (ALocal f x) = refl

    same_view : (ss : List Meaning) → seen ss after ≡ seen ss old
    same_view ss =
        ap (λ (xs : List (Option TypeDef)). record (seen ss old) { types = item_at xs; named = named_of after }) slots
        ∙ ap (λ (n : Subject → List Name). record (seen ss old) { named = n }) (fun_ext same_names)

  module _ (f : FunctionType) (p : ℕ) where
    by : FoundOrAdded f (type_slots old.types) (type_slots types) (type_names old.types) (type_names types) p → Edits (HasType p (alone p f)) old after
    by (Found first slots names) ss = record { stands = ap (λ xs. item_at xs p) slots ∙ first.0.0; comes = inl (same_view slots names ss) }
    by (Added none last slots names) ss = record {
      stands = ap (λ xs. item_at xs p) slots ∙ comes_behind (type_slots old.types) (alone p f) p last;
      comes = inr (record {
        item = record {
          was = free_behind (type_slots old.types) (alone p f) p last;
          is = ap (λ xs. item_at xs p) slots ∙ comes_behind (type_slots old.types) (alone p f) p last;
          others = λ i differs. ap (λ xs. item_at xs i) slots ∙ stays_before (type_slots old.types) (alone p f) p last i differs;
        };
        own = refl;
        keeps = keeps_all (seen ss old) (seen ss after) refl refl (Types, p) refl;
        others = refl;
      });
    }

pub type_found : TypeFound
type_found old new f p only found = subst (Edits (HasType p (alone p f)) old) (sym only) (by old new.types f p found)

-- ---- globals and data segments

pub global_added : GlobalAdded
global_added old new g only own are =
    let n : ℕ = length (globals old.globals) in
    subst (Edits (GainsItem Globals n (global_of g)) old) (sym only) (λ ss. record {
      item = comes_seen global_of (globals old.globals) (globals new.globals) g n refl are;
      own = ap (λ xs. import_in (λ (x : Global). origin_import x.origin) (option_map global_of (item_at xs n))) are
          ∙ ap (λ (o : Option GlobalValue). import_in (λ (x : Global). origin_import x.origin) (option_map global_of o)) (comes_behind (globals old.globals) g n refl)
          ∙ ap (λ (o : Option ℕ). origin_import (origin_of o)) own;
      keeps = keeps_all (seen ss old) (seen ss (record old { globals = new.globals })) refl refl (Globals, n) refl;
      others = refl;
    })

pub data_added : DataAdded
data_added old new d only are =
    let n : ℕ = length (data_segments old.data_) in
    subst (Edits (GainsItem DataSegments n (data_of d)) old) (sym only) (λ ss. record {
      item = comes_seen data_of (data_segments old.data_) (data_segments new.data_) d n refl are;
      own = refl;
      keeps = keeps_all (seen ss old) (seen ss (record old { data_ = new.data_ })) refl refl (DataSegments, n) refl;
      others = refl;
    })
