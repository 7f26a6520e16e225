-- The functions that a section lists stay, and it lists them in the output by their new indices.
use Rattle.std.proofs.Common.{◌≡◌, ℕ, List, [], ◌∷◌, ◌++◌, map, flat_map, refl, sym, ap, ap₂, ◌∙◌, subst, inl}
use Rattle.std.specs.Prelude.{Contains, Option, Some, IsSome}
use Rattle.walrus.specs.Base.Operators.{Functions, Item, function_item}
use Rattle.walrus.specs.Model.Abstract.{Abstract, Custom, Indices}
use Rattle.walrus.specs.Model.Config.{Config}
use Rattle.walrus.specs.Model.Customs.{fixed, written_customs}
use Rattle.walrus.specs.Model.Kept.{Kept}
use Rattle.walrus.specs.Model.Live.{IsLive}
use Rattle.walrus.specs.Model.Pipeline.{ReachedIsLive}
use Rattle.walrus.specs.Model.Reached.{root}
use Rattle.walrus.specs.Model.Roots.{asked_for}
use Rattle.walrus.proofs.Base.Lists.{Contains-head, Contains-map, Contains-tail}
use Rattle.walrus.proofs.Theorem.StepLeaves.{between}
use Rattle.walrus_examples.proofs.SectionsWritten.{stands_among}
use Rattle.walrus.specs.Listed.{found_bytes, list_bytes}
use Rattle.walrus.specs.Ends.{LeavesWritten, LeftOf}
use Rattle.walrus_examples.specs.ListSection.{HasListing, listing}
use Rattle.walrus_examples.specs.ListAnswers.{ListsAgain}
use Rattle.walrus_examples.specs.Metadata.{section_of}

-- ---- under indices

module _ (indices : Indices) (new : ℕ → ℕ) where
  listed_under : (functions : List ℕ) → ((f : ℕ) → Contains functions f → indices (Functions, f) ≡ Some (new f)) → flat_map (λ (f : ℕ). found_bytes (indices (Functions, f))) functions ≡ list_bytes (map new functions)
  listed_under [] are = refl
  listed_under (f ∷ functions) are =
      ap₂ (λ (o : Option ℕ) (l : List ℕ). found_bytes o ++ l) (are f (Contains-head f functions)) (listed_under functions (λ g at. are g (Contains-tail f g functions at)))

  -- a section that lists functions says their indices
  fixed_listing : (name functions : List ℕ) → ((f : ℕ) → Contains functions f → indices (Functions, f) ≡ Some (new f)) → fixed indices (listing name functions) ≡ section_of name (list_bytes (map new functions))
  fixed_listing name functions are = ap (λ (l : List ℕ). section_of name l) (listed_under functions are)

-- ---- in the output

module _ (c : Config) (name : List ℕ) (w : Abstract) (reached : ReachedIsLive w) (functions : List ℕ) (asks : w.section_roots ≡ map function_item functions) (stands : Contains w.customs (listing name functions))
    (output : List ℕ) (h : LeavesWritten (LeftOf w) c output) where
  kept : (f : ℕ) → Contains functions f → Kept w (Functions, f)
  kept f at = inl (root (Functions, f) (asked_for (subst (λ (rs : List Item). Contains rs (Functions, f)) (sym asks) (Contains-map function_item f functions at))))

  same_left : h.module_left ≡ record h.left.module_collected { elements = h.module_left.elements }
  same_left = (between h.left.module_collected h.module_left h.left.left).same

  left_live : (f : ℕ) → Contains functions f → IsLive h.module_left (Functions, f)
  left_live f at =
      let live : IsSome (w.functions f) = reached (Functions, f) (root (Functions, f) (asked_for (subst (λ (rs : List Item). Contains rs (Functions, f)) (sym asks) (Contains-map function_item f functions at)))) in
      let collected : IsSome (h.left.module_collected.functions f) = subst IsSome (sym (h.left.collected.functions.kept f (kept f at))) live in
      subst (λ (x : Abstract). IsSome (x.functions f)) (sym same_left) collected

  abbrev number : ℕ → ℕ
  number = h.written.written.written.renaming.numbers Functions

  same_customs : h.module_left.customs ≡ w.customs
  same_customs = ap (λ (x : Abstract). x.customs) same_left ∙ h.left.collected.customs

  listed : HasListing name h.written.module_written.customs (map number functions)
  listed no_debug no_dylink =
      let indices = h.written.written.written.indices in
      let among = stands_among indices h.module_left.customs (listing name functions) (subst (λ (cs : List Custom). Contains cs (listing name functions)) (sym same_customs) stands) no_debug no_dylink in
      let says = fixed_listing indices number name functions (λ f at. h.written.written.written.indexed.live (Functions, f) (left_live f at)) in
      subst (λ (cs : List Custom). Contains cs (section_of name (list_bytes (map number functions)))) (sym h.written.written.written.customs)
      (subst (λ (s : Custom). Contains (written_customs indices h.module_left.customs) s) says among)

  pub lists_again : ListsAgain c name w output h functions
  lists_again = record { kept = kept; listed = listed }
