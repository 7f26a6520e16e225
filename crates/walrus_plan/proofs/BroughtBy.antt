-- The places of what imports bring, and what an item says to be brought by.
use Rattle.std.proofs.Common.{◌≡◌, ℕ, List, [], ◌∷◌, ◌++◌, map, refl, sym, ap, ◌∙◌, Some, None, append_assoc}
use Rattle.std.specs.Prelude.{Option, Contains, filter_map, option_map, option_to_list}
use Rattle.std.specs.List.{cons_option}
use Rattle.walrus_base.specs.Arena.{entries, item_at, items}
use Rattle.walrus_base.specs.Operators.{Space}
use Rattle.walrus_contents.specs.View as seen
use Rattle.walrus_contents.specs.View.{parts_view}
use Rattle.walrus_contents.specs.declared.parts.Parts.{Parts}
use Rattle.walrus_model.proofs.Slots.{stands_at}
use Rattle.walrus_items.specs.Kinds.{imported}
use Rattle.walrus_items.specs.Imports.{ImportValue, imports}
use Rattle.walrus_model.specs.Abstract.{FunctionKind, ImportedBy, ImportedFunction, LocalFunction, Uninitialised, Origin, Defined}
use Rattle.walrus_model.specs.Imported.{import_number, import_number_by, number_in}
use Rattle.walrus_model.specs.WellMade.{kind_import, origin_import}
use Rattle.walrus_base.proofs.Lists.{Contains-head, Contains-tail}
use Rattle.walrus_base.proofs.Standing.{some_inj}
use Rattle.walrus_plan.specs.Brought.{places_brought}

-- ---- the places of what imports bring

module _ (p : Parts) (s : Space) where
  numbers_brought : (es : List (ℕ × ImportValue)) → ((e : ℕ × ImportValue) → Contains es e → item_at (imports p.imports.now) e.0 ≡ Some e.1)
      → filter_map (import_number (parts_view p) s) (map (λ e. e.0) es) ≡ places_brought s (map (λ e. e.1) es)
  numbers_brought [] at = refl
  numbers_brought (e ∷ es) at =
      ap (λ (o : Option ImportValue). cons_option (import_number_by s (option_map seen.import_of o)) (filter_map (import_number (parts_view p) s) (map (λ d. d.0) es))) (at e (Contains-head e es))
      ∙ ap (λ (l : List ℕ). cons_option (number_in s (imported e.1.kind)) l) (numbers_brought es (λ d c. at d (Contains-tail e d es c)))

  pub brought_numbers : filter_map (import_number (parts_view p) s) (map (λ e. e.0) (entries (imports p.imports.now))) ≡ places_brought s (items (imports p.imports.now))
  brought_numbers = numbers_brought (entries (imports p.imports.now)) (stands_at (imports p.imports.now))

-- ---- what an item says to be brought by

pub kind_origin : (k : FunctionKind) (p : ℕ) → kind_import k ≡ Some p → k ≡ ImportedFunction p
kind_origin (ImportedFunction q) p e = ap (λ (n : ℕ). ImportedFunction n) (some_inj q p e)
kind_origin (LocalFunction b) p e = absurd (cc)
kind_origin Uninitialised p e = absurd (cc)

pub origin_is : (o : Origin) (p : ℕ) → origin_import o ≡ Some p → o ≡ ImportedBy p
origin_is (ImportedBy q) p e = ap (λ (n : ℕ). ImportedBy n) (some_inj q p e)
origin_is Defined p e = absurd (cc)

-- ---- one import more

-- the places so far, and what the imports still to come bring, are what all bring
abbrev pub Comes : Space → List ℕ → (left all : List ImportValue) → Type 0
Comes s done left all = done ++ places_brought s left ≡ places_brought s all

one_more : (o : Option ℕ) (rest : List ℕ) → option_to_list o ++ rest ≡ cons_option o rest
one_more None rest = refl
one_more (Some n) rest = refl

pub comes_on : (s : Space) (old new : List ℕ) (i : ImportValue) (left rest all : List ImportValue) → left ≡ i ∷ rest → new ≡ old ++ option_to_list (number_in s (imported i.kind)) → Comes s old left all → Comes s new rest all
comes_on s old new i left rest all steps longer comes =
    ap (λ (l : List ℕ). l ++ places_brought s rest) longer
    ∙ append_assoc old (option_to_list (number_in s (imported i.kind))) (places_brought s rest)
    ∙ ap (λ (l : List ℕ). old ++ l) (one_more (number_in s (imported i.kind)) (places_brought s rest))
    ∙ sym (ap (λ (l : List ImportValue). old ++ places_brought s l) steps)
    ∙ comes

-- with the module's own behind
pub own_behind : (all first own brought : List ℕ) → all ≡ first ++ own → first ≡ brought → all ≡ brought ++ own
own_behind all first own brought both is = both ∙ ap (λ (l : List ℕ). l ++ own) is
