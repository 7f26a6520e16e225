-- Raw sections with one of a caller's own behind them, which follow the code: which stand where, and what the last one says.
use denote.Param.Table.{Entry, Table}
use Rattle.std.proofs.Common.{◌≡◌, ℕ, suc, false, List, [], ◌∷◌, ◌++◌, length, Some, None, refl, sym, ap, ap₂, ◌∙◌, subst, arith}
use Rattle.std.specs.Prelude.{Option}
use Rattle.walrus.specs.Base.Arena.{item_at}
use Rattle.walrus.specs.Model.Abstract.{Indices}
use Rattle.walrus.specs.Code.Names.{Lookup}
use Rattle.walrus.specs.Items.CustomSection.{Ghosts}
use Rattle.walrus.specs.Items.RawCustomSection.{RawCustomSection}
use Rattle.walrus.specs.Modules.Following.{SameKind, SlotComes}
use Rattle.walrus.specs.Modules.Meaning.{Meaning, meaning, meaning_by}
use Rattle.walrus.specs.Modules.Raws.{raw_sections}
use Rattle.walrus.specs.Modules.View.{custom_of}
use Rattle.walrus.specs.Modules.SectionEntry.{SectionEntry}
use Rattle.walrus.specs.Modules.SectionEntry.TheVariants.{Raw, Boxed}
use Rattle.walrus.specs.PlacesLaws.{state_bytes}
use Rattle.walrus_examples.specs.Metadata.{section_of}

-- it says what its state tells of places, asks to keep nothing, and refuses nothing
pub record SaysPlaces (m : Meaning) : Type 0 where
  pub says : m.contents ≡ (λ (indices : Lookup). state_bytes m.state)
  pub keeps_none : m.roots ≡ []
  pub quiet : m.may_refuse ≡ false

module _ {V : Type 0} {O : V → Type 0} (G : (v : V) → Ghosts (O v)) where
  -- ---- one slot behind raw ones

  pub record Behind (R : Meaning → Meaning → Type 0) (raws : List RawCustomSection) (last : SectionEntry V O) (new : List (Option (SectionEntry V O))) : Type 0 where
    pub entry : SectionEntry V O
    pub are : new ≡ raw_sections raws ++ Some entry ∷ []
    pub kind : SameKind last entry
    pub comes : R (meaning G last) (meaning G entry)

  pub behind : (R : Meaning → Meaning → Type 0) (raws : List RawCustomSection) (last : SectionEntry V O) (new : List (Option (SectionEntry V O))) → length new ≡ length (raw_sections raws ++ Some last ∷ [])
      → ((i : ℕ) → SlotComes G R (item_at (raw_sections raws ++ Some last ∷ []) i) (item_at new i)) → Behind R raws last new
  behind R [] last [] many comes = absurd (omega (arith, many))
  behind R [] last (None ∷ new) many comes = absurd (comes 0)
  behind R [] last (Some t ∷ []) many comes = record { entry = t; are = refl; kind = (comes 0).0; comes = (comes 0).1 }
  behind R [] last (Some t ∷ s ∷ new) many comes = absurd (omega (arith, many))
  behind R (r ∷ raws) last [] many comes = absurd (omega (arith, many))
  behind R (r ∷ raws) last (None ∷ new) many comes = absurd (comes 0)
  behind R (r ∷ raws) last (Some (Boxed b) ∷ new) many comes = absurd (comes 0).0
  behind R (r ∷ raws) last (Some (Raw s) ∷ new) many comes =
      let rest = behind R raws last new (omega (arith, many)) (λ i. comes (suc i)) in
      record {
        entry = rest.entry;
        are = ap₂ (λ (q : RawCustomSection) (l : List (Option (SectionEntry V O))). Some (Raw q) ∷ l) (comes 0).0 rest.are;
        kind = rest.kind;
        comes = rest.comes;
      }

  -- ---- what it says

  -- a caller's own, each value of whose type says places
  abbrev pub TypeSaysPlaces : SectionEntry V O → Type 0
  TypeSaysPlaces (Raw s) = ⊥
  TypeSaysPlaces (Boxed b) = (x : O b.vtable) → SaysPlaces (meaning_by (G b.vtable) x)

  pub of_its_kind : (old new : SectionEntry V O) → TypeSaysPlaces old → SameKind old new → TypeSaysPlaces new
  of_its_kind (Raw s) new says same = absurd says
  of_its_kind (Boxed a) (Raw s) says same = absurd same
  of_its_kind (Boxed a) (Boxed b) says same = subst (λ (v : V). (x : O v) → SaysPlaces (meaning_by (G v) x)) (sym same) says

  pub it_says : (entry : SectionEntry V O) → TypeSaysPlaces entry → SaysPlaces (meaning G entry)
  it_says (Raw s) says = absurd says
  it_says (Boxed b) says = says b.value

-- as a section of the module it says the same under all indices
pub as_custom : (m : Meaning) (name : List ℕ) → SaysPlaces m → m.name ≡ name → custom_of m ≡ section_of name (state_bytes m.state)
as_custom m name says named =
    ap₂ (λ (n : List ℕ) (contents : Lookup → List ℕ). record { name = n; data_under = λ (indices : Indices). contents (λ space i. indices (space, i)) }) named says.says

-- ---- a box that was made

-- what holds of the entry that it was made as, holds of the one that it names
pub of_made {ℓ} : {G : Type 0 → Type 1} {C : Type 0} (T : Table G C) (e : Entry G C) (at : T.I) → e ≡ T.entry at → (P : Entry G C → Type ℓ) → (i : T.I) → i ≡ at → P e → P (T.entry i)
of_made T e at same P i is holds = subst P (same ∙ ap T.entry (sym is)) holds
