-- An edit leaves a module sound throughout: what it keeps stays so, what it brings or changes is so by itself, and imports still match.
use Rattle.std.proofs.Common.{◌≡◌, ◌≢◌, ℕ, refl, sym, ap, ◌∙◌, subst, inl, inr, ⊎_elim}
use Rattle.std.specs.Prelude.{Option, Some, AllPairs, Contains, ◌⊎◌}
use Rattle.walrus_base.specs.Operators.{Space, Functions, Elements, DataSegments, Item, type_item}
use Rattle.walrus_model.specs.Abstract.{Abstract, TypeDef, Function, Import, Export, Custom}
use Rattle.walrus_model.specs.Config.{Config}
use Rattle.walrus_model.specs.Live.{IsLive}
use Rattle.walrus_model.specs.Pipeline.{ReachedIsLive}
use Rattle.walrus_model.specs.Reached.{Reached, root, step}
use Rattle.walrus_model.specs.Refers.{KeepsToo, Refers, kind_names, written_in}
use Rattle.walrus_model.specs.Roots.{IsRoot, exported, start, data_segment, element_segment, asked_for}
use Rattle.walrus_model.specs.Rules.{IsEmptyFunctionType}
use Rattle.walrus_model.specs.Spaces.{look}
use Rattle.walrus_model.specs.WellMade.{ImportsMatch, import_of}
use Rattle.walrus_base.proofs.Lists.{Contains-head}
use Rattle.walrus_model.proofs.Spaces.{live_from}
use Rattle.walrus_base.proofs.Standing.{some_inj, some_of}
use Rattle.walrus_theorem.specs.Edits.{KeepsFunction}
use Rattle.walrus_theorem.specs.EditLaws.{AddsLive, CountsLocals, LeadsTo, LeadsToLive, StaysWhole, further, itself}
use Rattle.walrus_theorem.specs.Sound.{IsFreeName, IsSound, IsSoundThroughout}
use Rattle.walrus_theorem.specs.WellMade.{IsWellMade}
use Rattle.walrus_theorem.proofs.EditKept.{IsKept, KeepsOutline, import_kept, live_on, outline_kept, some_there, thing_there, written_there}
use Rattle.walrus_theorem.proofs.EditSound.{item_sound, used_typed, well_made}
use Rattle.walrus_theorem.proofs.EditStays.{item_stays, written_back}

-- what y leads to x leads to, which refers to it
pub led : (m : Abstract) (x y : Item) → Refers m x y → (z : Item) → LeadsTo m y z → LeadsTo m x z
led m x y r z itself = further x y itself r
led m x y r z (further a b h q) = further a b (led m x y r a h) q

-- the spaces of which items are roots by themselves
abbrev pub IsSegment : Space → Type 0
IsSegment s = (s ≡ DataSegments) ⊎ (s ≡ Elements)

-- what comes, changes or goes
module _ (v w : Abstract) (New : Item → Type 0) where
  -- each item is kept or new; of what is new and named by what is there so much stays as that rests on; a function with which the module starts
  -- keeps its type
  pub record Items : Type 0 where
    pub fate : (x : Item) → IsKept v w x ⊎ New x
    pub named : (x y : Item) → New y → IsLive w x → Contains (written_in v x) y → KeepsOutline v w y
    pub starts : (i : ℕ) (f : Function) → New (Functions, i) → v.start ≡ Some i → v.functions i ≡ Some f → (g : Function) × (w.functions i ≡ Some g) × (g.ty ≡ f.ty)

  -- an import is there still, with what it brings, or brought what is new; one that is there was, or is named by what it brings; and what is new names
  -- the import that brings it
  pub record Imports : Type 0 where
    pub forth : (i : ℕ) (y : Import) → v.imports i ≡ Some y → ((z : Import) × (w.imports i ≡ Some z) × (z.item ≡ y.item)) ⊎ New y.item
    pub back : (i : ℕ) (z : Import) → w.imports i ≡ Some z → ((y : Import) × (v.imports i ≡ Some y) × (z.item ≡ y.item) × IsKept v w z.item) ⊎ (import_of w z.item ≡ Some i)
    pub new : (x : Item) (i : ℕ) → New x → import_of w x ≡ Some i → (z : Import) × (w.imports i ≡ Some z) × (z.item ≡ x)

  -- exports have names of their own and what they name is there; nothing else starts the module; custom sections have free names
  pub record Tops : Type 0 where
    pub distinct : AllPairs (λ (d : Export) (e : Export). d.name ≢ e.name) w.exports
    pub exports : (e : Export) → Contains w.exports e → IsLive w e.item
    pub start : w.start ≡ v.start
    pub customs : (s : Custom) → Contains w.customs s → IsFreeName s.name

  -- Roots were roots, or lead to what is there; what keeps more is new; what is new and was reached adds what is there alone; and what is referred to
  -- stays there.
  pub record Roots : Type 0 where
    pub exports : (e : Export) → Contains w.exports e → IsRoot v e.item ⊎ LeadsToLive w e.item
    pub asked : (x : Item) → Contains w.section_roots x → (IsRoot v x × IsLive w x) ⊎ LeadsToLive w x
    pub segments : (x : Item) → New x → IsRoot w x → IsLive w x → IsSegment x.0 → LeadsToLive w x
    pub keeps : (x y : Item) → KeepsToo w x y → KeepsToo v x y ⊎ New x
    pub adds : (x : Item) → New x → IsLive v x → IsLive w x → AddsLive v w x
    pub stays : (x y : Item) → New y → IsLive w x → Refers v x y → IsLive v y → IsLive w y

  module _ (c : Config) (made : IsWellMade c v) (items : Items) where
    -- what is named by what is there keeps its outline
    outline : (x y : Item) → IsLive w x → Contains (written_in v x) y → KeepsOutline v w y
    outline x y here at = ⊎_elim (λ kept. outline_kept v w y.0 y.1 kept) (λ new. items.named x y new here at) (items.fate y)

    -- a kept item in which something stands written is there
    kept_there : (x y : Item) → IsKept v w x → Contains (written_in v x) y → IsLive w x
    kept_there x y kept at =
        let t = thing_there v x.0 x.1 y at in
        let now = outline_kept v w x.0 x.1 kept t.0 t.1 in
        live_from w x.0 x.1 (some_there (look w x.0 x.1) now.1)

    items_sound : ((x : Item) → New x → IsSound c w x) → (x : Item) → IsSound c w x
    items_sound sound x = ⊎_elim
        (λ (kept : IsKept v w x). item_stays c v w x.0 x.1 kept (λ y at. outline x y (kept_there x y kept at) at) (item_sound c v made x))
        (λ (new : New x). sound x new)
        (items.fate x)

    -- ---- imports

    imports_match : Imports → ImportsMatch w
    imports_match all = record {
      items = λ x i e. ⊎_elim
          (λ (kept : IsKept v w x).
          let was = made.imports.items x i (sym (import_kept v w x.0 x.1 kept) ∙ e) in
          ⊎_elim
          (λ (now : (z : Import) × (w.imports i ≡ Some z) × (z.item ≡ was.0.item)). (now.0, now.1, now.2 ∙ was.2))
          (λ (new : New was.0.item). all.new x i (subst New was.2 new) e)
          (all.forth i was.0 was.1))
          (λ (new : New x). all.new x i new e)
          (items.fate x);
      imports = λ i z at. ⊎_elim
          (λ (old : (y : Import) × (v.imports i ≡ Some y) × (z.item ≡ y.item) × IsKept v w z.item).
          import_kept v w z.item.0 z.item.1 old.3 ∙ ap (import_of v) old.2 ∙ made.imports.imports i old.0 old.1)
          (λ (new : import_of w z.item ≡ Some i). new)
          (all.back i z at);
    }

    -- ---- the start function

    start_was : (i : ℕ) → v.start ≡ Some i → (f : Function) × (v.functions i ≡ Some f)
    start_was i at = some_of (v.functions i) (made.rules.indices.start i at)

    start_now : (i : ℕ) (at : v.start ≡ Some i) → (g : Function) × (w.functions i ≡ Some g) × (g.ty ≡ (start_was i at).0.ty)
    start_now i at = ⊎_elim
        (λ (kept : IsKept v w (Functions, i)).
        let k : KeepsFunction (Some (start_was i at).0) (w.functions i) = subst (λ (o : Option Function). KeepsFunction o (w.functions i)) (start_was i at).1 kept in
        (_, k.1, refl))
        (λ (new : New (Functions, i)). items.starts i (start_was i at).0 new at (start_was i at).1)
        (items.fate (Functions, i))

    start_live : (i : ℕ) → v.start ≡ Some i → IsLive w (Functions, i)
    start_live i at = some_there (w.functions i) (start_now i at).1

    starts_empty : (i : ℕ) (f : Function) → v.start ≡ Some i → w.functions i ≡ Some f → IsEmptyFunctionType w f.ty
    starts_empty i f at is =
        let was = start_was i at in
        let empty = made.rules.exports.start i was.0 at was.1 in
        let named = written_there v Functions i was.0 (type_item was.0.ty) was.1 (Contains-head (type_item was.0.ty) (kind_names was.0.kind)) in
        let now = outline (Functions, i) (type_item was.0.ty) (start_live i at) named empty.0 empty.1 in
        let same : f.ty ≡ was.0.ty = ap (λ (g : Function). g.ty) (some_inj _ _ (sym is ∙ (start_now i at).1)) ∙ (start_now i at).2 in
        subst (λ (t : ℕ). IsEmptyFunctionType w t) (sym same) (now.0, now.1, ap (λ (x : TypeDef). x.sub.comp) now.2 ∙ empty.2)

    module _ (sound : (x : Item) → New x → IsSound c w x) (imports : Imports) (tops : Tops) (counts : CountsLocals w) where
      throughout : IsSoundThroughout c w
      throughout = record {
        imports = imports_match imports;
        items = items_sound sound;
        distinct = tops.distinct;
        exports = tops.exports;
        start = λ i at. start_live i (sym tops.start ∙ at);
        starts_empty = λ i f at is. starts_empty i f (sym tops.start ∙ at) is;
        customs = tops.customs;
      }

      edit_made : IsWellMade c w
      edit_made = well_made c w throughout (counts (used_typed c w throughout))

      -- ---- what is reached

      module _ (all : Roots) (live : ReachedIsLive v) where
        -- reached before, and there still; or all that it leads to is there
        data Good (x : Item) : Type 0 where
          Was : Reached v x → IsLive w x → Good x
          Leads : LeadsToLive w x → Good x

        still : (x y : Item) → Reached v x → IsLive w x → Refers v x y → Good y
        still x y reached here r =
            let was : IsLive v y = live y (step x y reached r) in
            Was (step x y reached r) (⊎_elim (λ kept. live_on v w y (outline_kept v w y.0 y.1 kept) was) (λ new. all.stays x y new here r was) (items.fate y))

        from_new : (x y : Item) → New x → Reached v x → IsLive w x → Refers w x y → Good y
        from_new x y new reached here r = ⊎_elim (λ old. still x y reached here old) (λ leads. Leads leads) (all.adds x new (live x reached) here y r)

        from_kept : (x y : Item) → IsKept v w x → Reached v x → IsLive w x → Refers w x y → Good y
        from_kept x y kept reached here (inl at) = still x y reached here (inl (written_back c v w x.0 x.1 y kept (item_sound c v made x) at))
        from_kept x y kept reached here (inr keeps) = ⊎_elim (λ old. still x y reached here (inr old)) (λ new. from_new x y new reached here (inr keeps)) (all.keeps x y keeps)

        next : (x y : Item) → Good x → Refers w x y → Good y
        next x y (Was reached here) r = ⊎_elim (λ kept. from_kept x y kept reached here r) (λ new. from_new x y new reached here r) (items.fate x)
        next x y (Leads leads) r = Leads (λ z to. leads z (led w x y r z to))

        was_root : (x : Item) → (IsRoot v x × IsLive w x) ⊎ LeadsToLive w x → Good x
        was_root x (inl h) = Was (root x h.0) h.1
        was_root x (inr leads) = Leads leads

        -- a segment
        segment : (s : Space) (i : ℕ) → IsRoot w (s, i) → (IsKept v w (s, i) → IsRoot v (s, i)) → IsLive w (s, i) → IsSegment s → Good (s, i)
        segment s i r was here is = ⊎_elim (λ kept. Was (root (s, i) (was kept)) here) (λ new. Leads (all.segments (s, i) new r here is)) (items.fate (s, i))

        from_root : (x : Item) → IsRoot w x → Good x
        from_root x (exported e at is) = was_root x (⊎_elim (λ r. inl (subst (IsRoot v) (sym is) r, subst (IsLive w) (sym is) (tops.exports e at))) (λ leads. inr (subst (LeadsToLive w) (sym is) leads)) (all.exports e at))
        from_root x (start f at is) = Was (root x (start f (sym tops.start ∙ at) is)) (subst (IsLive w) (sym is) (start_live f (sym tops.start ∙ at)))
        from_root x (data_segment i d at has is) =
            subst Good (sym is) (segment DataSegments i (data_segment i d at has refl) (λ kept. data_segment i d (sym kept ∙ at) has refl) (some_there (w.data_segments i) at) (inl refl))
        from_root x (element_segment i e at has is) =
            subst Good (sym is) (segment Elements i (element_segment i e at has refl) (λ kept. element_segment i e (sym kept ∙ at) has refl) (some_there (w.elements i) at) (inr refl))
        from_root x (asked_for at) = was_root x (all.asked x at)

        good : (x : Item) → Reached w x → Good x
        good x (root y r) = from_root x r
        good x (step y z h r) = next y x (good y h) r

        edit_reached : ReachedIsLive w
        edit_reached x h = by (good x h) where
          by : Good x → IsLive w x
          by (Was reached here) = here
          by (Leads leads) = leads x itself

      -- all of it
      pub edit_stays : {Asked : Type 0} → (Asked → ReachedIsLive v → Roots) → StaysWhole c v w Asked
      edit_stays roots = record { made = edit_made; reached = λ asked live. edit_reached (roots asked live) live }
