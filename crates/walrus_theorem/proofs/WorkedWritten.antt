-- The worked row keeps the premises, and is written as itself.
use Rattle.std.proofs.Common.{◌≡◌, true, ℕ, zero, suc, ◌<◌, List, [], ◌∷◌, refl, sym, subst, arith, ap, ⊎_elim}
use Rattle.std.specs.Prelude.{codes, Some, None, Contains}
use Rattle.walrus_base.specs.Types.{Func}
use Rattle.walrus_base.specs.Operators as items
use Rattle.walrus_base.specs.Operators.{Space, Types, Functions, Tables, Memories, Globals, Elements, DataSegments, Op}
use Rattle.walrus_model.specs.Abstract.{TypeDef, Body, LocalFunction, Function, Export}
use Rattle.walrus_model.specs.Declared.{ref_func, IsRefInBody, IsRefInGlobal}
use Rattle.walrus_model.specs.Live.{IsLive}
use Rattle.walrus_model.specs.Names.{body_of}
use Rattle.walrus_model.specs.Order.{ByImport}
use Rattle.walrus_model.specs.Sections.{body_with}
use Rattle.walrus_model.specs.Refers.{IsUsed}
use Rattle.walrus_model.specs.Renaming.{unchanged}
use Rattle.walrus_model.specs.Same.{SameType, SameBody, SameFunction}
use Rattle.walrus_theorem.specs.Examples.{one_function}
use Rattle.walrus_theorem.specs.Needs.{plain_config, IsWrittenOnce}
use Rattle.walrus_theorem.specs.Once.{NamesLive}
use Rattle.walrus_theorem.specs.Pinned.{IsWrittenAs, LocalGoesBefore}
use Rattle.walrus_base.proofs.Lists.{Contains-none, Contains-uncons}
use Rattle.walrus_theorem.proofs.Worked.{one_spelled}
use Rattle.walrus_theorem.proofs.NeedsBase.{no_item, one_item, one_carried, no_items, given, are_given, IsSmall, small_rises, empty_if, NamesNone, declares_none}

abbrev pub the_type : TypeDef
the_type = record { group = 0 ∷ []; sub = record { is_final = true; supertypes = []; comp = Func [] [] } }

abbrev pub the_body : Body
the_body = body_with [] ([], record { op = 0x0B; args = [] } ∷ [])

abbrev pub the_function : Function
the_function = record { ty = 0; kind = LocalFunction the_body }

pub same_type : SameType (λ i. i) 0 the_type the_type
same_type = record { group = refl; position = refl; sub = refl }

same_body : SameBody unchanged 0 the_body the_body
same_body = record {
  operators = refl;
  apart = λ x y ux uy e. e;
  types = λ x u. refl;
  parameters = λ x u. refl;
}

same_function : SameFunction unchanged 0 the_function the_function
same_function = record { ty = refl; kind = same_body }

body_there : (f : ℕ) (b : Body) → body_of one_function f ≡ Some b → the_body ≡ b
body_there zero b e = cc
body_there (suc f) b e = absurd (let h : None ≡ Some b = e in cc)

row_small : IsSmall one_function
row_small = record { single = single; still = still; no_import = λ i h. absurd (let e : None ≡ Some h.0 = h.1 in cc) }
  where
    single : (space : Space) (i : ℕ) → IsLive one_function (space, i) → i ≡ 0
    single Types i h = one_item the_type i h
    single Functions i h = one_item the_function i h
    single Tables i h = absurd (no_item i h)
    single Memories i h = absurd (no_item i h)
    single items.Tags i h = absurd (no_item i h)
    single Globals i h = absurd (no_item i h)
    single Elements i h = absurd (no_item i h)
    single DataSegments i h = absurd (no_item i h)

    still : (space : Space) → ByImport one_function space 0 0 → ⊥
    still Types h = absurd (omega (arith, h))
    still Functions h = ⊎_elim (λ (l : 1 < 1). absurd (omega (arith, l))) (λ l. absurd (omega (arith, l.1))) h
    still Tables h = h
    still Memories h = h
    still items.Tags h = h
    still Globals h = h
    still Elements h = absurd (omega (arith, h))
    still DataSegments h = absurd (omega (arith, h))

pub no_ref : (f : ℕ) → Contains the_body.operators (ref_func f) → ⊥
no_ref f at = ⊎_elim (λ e. differs 0x0B 0xD2 (omega arith) (ap (λ (o : Op). o.op) e)) (λ none. Contains-none (ref_func f) none) (Contains-uncons (record { op = 0x0B; args = [] }) (ref_func f) [] at)
  where
    differs : (a b : ℕ) → a < b → a ≡ b → ⊥
    differs a b l e = omega (arith, l, e)

row_names_none : NamesNone one_function
row_names_none f u = ⊎_elim
    (λ (h : IsRefInBody (IsLive one_function) one_function f). no_ref f (subst (λ (b : Body). Contains b.operators (ref_func f)) (sym (body_there h.0 h.1 h.3)) h.4))
    (λ (h : IsRefInGlobal (IsLive one_function) one_function f). no_item h.0 h.3)
    u.named

no_type : (f : ℕ) (b : Body) (x y : ℕ) → body_of one_function f ≡ Some b → LocalGoesBefore b x y → ⊥
no_type f b x y e g =
    let here : LocalGoesBefore the_body x y = subst (λ (d : Body). LocalGoesBefore d x y) (sym (body_there f b e)) g in
    let typed : None ≡ Some here.0 = here.1.1.0 in
    cc

row_written : IsWrittenAs plain_config one_function one_function
row_written = record {
  written = record {
    renaming = unchanged;
    segment = None;
    indices = given one_function unchanged;
    carried = record {
      types = one_carried _ (λ i. i) _ the_type the_type refl same_type;
      imports = no_items _ _ _ _ row_small.no_import;
      functions = one_carried _ (λ i. i) _ the_function the_function refl same_function;
      tables = no_items _ _ _ _ no_item;
      memories = no_items _ _ _ _ no_item;
      tags = no_items _ _ _ _ no_item;
      globals = no_items _ _ _ _ no_item;
      elements = no_items _ _ _ _ no_item;
      data_segments = no_items _ _ _ _ no_item;
      imports_apart = λ i j li lj e. e;
      apart = λ space away i j li lj e. e;
      exports = refl;
      start = refl;
    };
    rises = small_rises one_function unchanged row_small;
    declares = declares_none one_function one_function unchanged row_names_none;
    names = λ y. empty_if _ [] refl;
    producers = refl;
    indexed = are_given one_function unchanged;
    customs = refl;
  };
  pinned = record {
    types_rise = λ i j li lj lt. lt;
    type_names = λ e. absurd (cc);
    locals = λ f b x y e dx dy g. absurd (no_type f b x y e g);
  };
}

type_there : (y : items.Item) → (ys : List items.Item) → ys ≡ (Types, 0) ∷ [] → Contains ys y → IsLive one_function y
type_there y ys is at = ⊎_elim
    (λ e. subst (IsLive one_function) e refl)
    (λ none. absurd (Contains-none y none))
    (Contains-uncons (Types, 0) y [] (subst (λ l. Contains l y) is at))

row_names_live : NamesLive one_function
row_names_live (Types, zero) y at = type_there y _ refl at
row_names_live (Types, suc i) y at = absurd (Contains-none y at)
row_names_live (Functions, zero) y at = type_there y _ refl at
row_names_live (Functions, suc i) y at = absurd (Contains-none y at)
row_names_live (Tables, i) y at = absurd (Contains-none y at)
row_names_live (Memories, i) y at = absurd (Contains-none y at)
row_names_live (items.Tags, i) y at = absurd (Contains-none y at)
row_names_live (Globals, i) y at = absurd (Contains-none y at)
row_names_live (Elements, i) y at = absurd (Contains-none y at)
row_names_live (DataSegments, i) y at = absurd (Contains-none y at)

pub no_local : (x : ℕ) → IsUsed the_body x → ⊥
no_local x u = Contains-none x u

export_live : (e : Export) → Contains one_function.exports e → IsLive one_function e.item
export_live e at = ⊎_elim
    (λ is. subst (λ (d : Export). IsLive one_function d.item) is refl)
    (λ none. absurd (Contains-none e none))
    (Contains-uncons (record { name = codes "f"; item = (Functions, 0) }) e [] at)

pub is_written_once : IsWrittenOnce
is_written_once = record {
  premises = record {
    written = row_names_live;
    locals = λ f b x e u. absurd (no_local x (subst (λ (d : Body). IsUsed d x) (sym (body_there f b e)) u));
    exports = export_live;
    start = λ f e. absurd (let h : None ≡ Some f = e in cc);
  };
  spells = one_spelled;
  written = row_written;
}
