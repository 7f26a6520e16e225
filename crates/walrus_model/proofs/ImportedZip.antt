-- What imports bring to a space lies along the imported part of its order: once for all spaces.
use Rattle.std.proofs.Common.{inl, inr, ◌≡◌, ◌⊎◌, ℕ, ◌+◌, Bool, true, false, List, [], ◌∷◌, get_or, refl, sym, ap, ◌∙◌, subst}
use Rattle.std.specs.Prelude.{◌≢◌, nat_eq, Option, Some, None, filter_map, slice_get, if◌then◌else◌, ◌++◌}
use Rattle.std.specs.List.{AllZip}
use Rattle.std.proofs.lemmas.Bool.Decides.{eqb_tells}
use Rattle.walrus_base.specs.Operators.{Space, Types, Functions, Tables, Memories, Tags, Globals, Elements, DataSegments}
use Rattle.walrus_model.specs.Abstract.{Abstract, Import}
use Rattle.wasm_entries.specs.declared.record.RawDesc.{RawDesc}
use Rattle.wasm_entries.specs.declared.record.RawDesc.TheVariants as descs
use Rattle.wasm_entries.specs.Record as entries
use Rattle.walrus_model.specs.Imported.{brought_by, brought, numbered_from, code, number_in, import_number, import_number_by, IsBrought}
use Rattle.walrus_model.specs.Sections.{imported}
use Rattle.walrus_model.specs.Ordered.{StandsFor}
use Rattle.walrus_model.specs.Renaming.{Renaming}
use Rattle.walrus_model.specs.Spaces.{Thing, look, SameThing}
use Rattle.walrus_model.proofs.AlongRecords.{BothOrNone, zip_append, zip_chosen}
use Rattle.walrus_model.specs.Plan.{Plan, IsWrittenAlong}
use Rattle.walrus_base.proofs.WholeLemmas.{none_some as untrue}

-- the space that a description brings something to
abbrev space_of : RawDesc → Space
space_of (descs.Function t) = Functions
space_of (descs.Table t) = Tables
space_of (descs.Memory t) = Memories
space_of (descs.Global t) = Globals
space_of (descs.Tag t) = Tags

abbrev uncode : ℕ → Space
uncode n = get_or (Types ∷ Functions ∷ Tables ∷ Memories ∷ Tags ∷ Globals ∷ Elements ∷ DataSegments ∷ []) n Types

uncoded : (s : Space) → uncode (code s) ≡ s
uncoded Types = refl
uncoded Functions = refl
uncoded Tables = refl
uncoded Memories = refl
uncoded Tags = refl
uncoded Globals = refl
uncoded Elements = refl
uncoded DataSegments = refl

-- spaces of one number are one
pub one_code : (s t : Space) → code s ≡ code t → s ≡ t
one_code s t e = sym (uncoded s) ∙ ap uncode e ∙ uncoded t

brings_there : (s : Space) (k : ℕ) (d : RawDesc) (y : Thing s) → brought_by s k d ≡ Some y → s ≡ space_of d
brings_there Functions k (descs.Function t) y e = refl
brings_there Functions k (descs.Table t) y e = absurd (untrue _ _ refl e)
brings_there Functions k (descs.Memory t) y e = absurd (untrue _ _ refl e)
brings_there Functions k (descs.Global t) y e = absurd (untrue _ _ refl e)
brings_there Functions k (descs.Tag t) y e = absurd (untrue _ _ refl e)
brings_there Tables k (descs.Function t) y e = absurd (untrue _ _ refl e)
brings_there Tables k (descs.Table t) y e = refl
brings_there Tables k (descs.Memory t) y e = absurd (untrue _ _ refl e)
brings_there Tables k (descs.Global t) y e = absurd (untrue _ _ refl e)
brings_there Tables k (descs.Tag t) y e = absurd (untrue _ _ refl e)
brings_there Memories k (descs.Function t) y e = absurd (untrue _ _ refl e)
brings_there Memories k (descs.Table t) y e = absurd (untrue _ _ refl e)
brings_there Memories k (descs.Memory t) y e = refl
brings_there Memories k (descs.Global t) y e = absurd (untrue _ _ refl e)
brings_there Memories k (descs.Tag t) y e = absurd (untrue _ _ refl e)
brings_there Globals k (descs.Function t) y e = absurd (untrue _ _ refl e)
brings_there Globals k (descs.Table t) y e = absurd (untrue _ _ refl e)
brings_there Globals k (descs.Memory t) y e = absurd (untrue _ _ refl e)
brings_there Globals k (descs.Global t) y e = refl
brings_there Globals k (descs.Tag t) y e = absurd (untrue _ _ refl e)
brings_there Tags k (descs.Function t) y e = absurd (untrue _ _ refl e)
brings_there Tags k (descs.Table t) y e = absurd (untrue _ _ refl e)
brings_there Tags k (descs.Memory t) y e = absurd (untrue _ _ refl e)
brings_there Tags k (descs.Global t) y e = absurd (untrue _ _ refl e)
brings_there Tags k (descs.Tag t) y e = refl
brings_there Types k d y e = absurd (untrue _ _ refl e)
brings_there Elements k d y e = absurd (untrue _ _ refl e)
brings_there DataSegments k d y e = absurd (untrue _ _ refl e)

brings_nowhere_else : (s : Space) (k : ℕ) (d : RawDesc) (o : Option (Thing s)) → brought_by s k d ≡ o → (s ≡ space_of d → ⊥) → brought_by s k d ≡ None
brings_nowhere_else s k d None e apart = e
brings_nowhere_else s k d (Some y) e apart = absurd (apart (brings_there s k d y e))

module _ (r : Renaming) (v : Abstract) (s : Space) where
  abbrev Stands : ℕ → Thing s → Type 0
  Stands i y = StandsFor (SameThing r s) (look v s) i y

  law_by : (k : ℕ) (d : RawDesc) (t : Space) (i : ℕ) (y : Thing t) → brought_by t k d ≡ Some y → StandsFor (SameThing r t) (look v t) i y
      → ((nat_eq (code t) (code s) ≡ true) × (code t ≡ code s)) ⊎ ((nat_eq (code t) (code s) ≡ false) × (code t ≢ code s))
      → BothOrNone Stands (number_in s (t, i)) (brought_by s k d)
  law_by k d t i y brings stands (inl same) =
      let is : t ≡ s = sym (uncoded t) ∙ ap uncode same.1 ∙ uncoded s in
      let here : BothOrNone (λ j z. StandsFor (SameThing r t) (look v t) j z) (Some i) (brought_by t k d) = rw brings stands in
      let there : BothOrNone Stands (Some i) (brought_by s k d) = subst (λ (u : Space). BothOrNone (λ j z. StandsFor (SameThing r u) (look v u) j z) (Some i) (brought_by u k d)) is here in
      subst (λ (b : Bool). BothOrNone Stands (if b then Some i else None) (brought_by s k d)) (sym same.0) there
  law_by k d t i y brings stands (inr other) =
      let none : brought_by s k d ≡ None = brings_nowhere_else s k d (brought_by s k d) refl (λ at. other.1 (ap code (brings_there t k d y brings ∙ sym at))) in
      let there : BothOrNone Stands None (brought_by s k d) = subst (λ (o : Option (Thing s)). BothOrNone Stands None o) (sym none) tt in
      subst (λ (b : Bool). BothOrNone Stands (if b then Some i else None) (brought_by s k d)) (sym other.0) there

  law : (p k : ℕ) (w : entries.Import) → IsBrought r v p k w → BothOrNone Stands (import_number v s p) (brought_by s k w.desc)
  law p k w b =
      subst (λ (o : Option Import). BothOrNone Stands (import_number_by s o) (brought_by s k w.desc)) (sym b.is)
      (law_by k w.desc b.value.item.0 b.value.item.1 b.thing b.brings b.stands (eqb_tells (code b.value.item.0) (code s)))

  -- what imports bring is chosen of the imports with their numbers
  one_chosen : {X : Type 0} (get : ℕ → RawDesc → Option X) (k : ℕ) (w : entries.Import) (ws : List entries.Import) (o : Option X) → get k w.desc ≡ o
      → imported get (k + 1) ws ≡ filter_map (λ e. get e.0 e.1.desc) (numbered_from (k + 1) ws) → imported get k (w ∷ ws) ≡ filter_map (λ e. get e.0 e.1.desc) (numbered_from k (w ∷ ws))
  one_chosen get k w ws None at rest = rw at rest
  one_chosen get k w ws (Some x) at rest = rw at (ap (λ l. x ∷ l) rest)

  brought_chosen : {X : Type 0} (get : ℕ → RawDesc → Option X) (k : ℕ) (ws : List entries.Import) → imported get k ws ≡ filter_map (λ e. get e.0 e.1.desc) (numbered_from k ws)
  brought_chosen get k [] = refl
  brought_chosen get k (w ∷ ws) = one_chosen get k w ws (get k w.desc) refl (brought_chosen get (k + 1) ws)

  pub imported_zip : (order : List ℕ) (ws : List entries.Import) → AllZip (λ p e. IsBrought r v p e.0 e.1) order (numbered_from 0 ws) → AllZip Stands (filter_map (import_number v s) order) (brought s ws)
  imported_zip order ws h = subst (λ ys. AllZip Stands (filter_map (import_number v s) order) ys) (sym (brought_chosen (brought_by s) 0 ws)) (zip_chosen (λ p e. IsBrought r v p e.0 e.1) Stands (import_number v s) (λ e. brought_by s e.0 e.1.desc) (λ p e b. law p e.0 e.1 b) order (numbered_from 0 ws) h)

-- one space whole: what imports bring, and behind it what is written along the order of the defined ones
module _ (r : Renaming) (v n : Abstract) (plan : Plan) (s : Space) (order local : List ℕ) (ws : List entries.Import) (things : List (Thing s)) where
  pub written_both : plan s ≡ filter_map (import_number v s) order ++ local → ((j : ℕ) → look n s j ≡ slice_get (brought s ws ++ things) j)
      → AllZip (λ p e. IsBrought r v p e.0 e.1) order (numbered_from 0 ws) → AllZip (StandsFor (SameThing r s) (look v s)) local things → IsWrittenAlong r v n plan s
  written_both is reads along stand = record {
    written = brought s ws ++ things;
    reads = reads;
    stand = subst (λ (ps : List ℕ). AllZip (StandsFor (SameThing r s) (look v s)) ps (brought s ws ++ things)) (sym is)
        (zip_append (StandsFor (SameThing r s) (look v s)) (filter_map (import_number v s) order) local (brought s ws) things (imported_zip r v s order ws along) stand);
  }
