-- The rules on limits are the same on records.
use Rattle.std.proofs.Common.{◌≡◌, ℕ, Bool, true, false, refl, sym, subst}
use Rattle.std.specs.Prelude.{Option, Some, None, IsSome, All, slice_get}
use Rattle.std.proofs.lemmas.List.Elements.{recursion_from_All, All-from_recursion}
use Rattle.wasm_entries.specs.declared.record.RawLimits.{RawLimits}
use Rattle.wasm_frames.specs.Record as wire
use Rattle.wasm_wire.specs.Context.{context_of}
use Rattle.wasm_wire.specs.Rules as records
use Rattle.walrus_model.specs.Abstract.{Table, TableType, Memory}
use Rattle.walrus_model.specs.Rules.{IsAtMost, MaximumIsAtMost, IsExponent, MemoryHolds}
use Rattle.walrus_model.specs.Sections.{tables_of, memories_of, table_type_of, memory_type_of}
use Rattle.walrus_base.proofs.Standing.{none_there}
use Rattle.walrus_theorem.proofs.TextShaped.{all_at}
use Rattle.walrus_theorem.proofs.SpelledFits.{all_each}
use Rattle.walrus_theorem.proofs.Images.{tables_look, memories_look}
use Rattle.walrus_bodies.proofs.Lists.{looked}

at_most : (n : ℕ) (o : Option ℕ) → records.IsAtMost n o → IsAtMost n o
at_most n None h = tt
at_most n (Some most) h = h

was_at_most : (n : ℕ) (o : Option ℕ) → IsAtMost n o → records.IsAtMost n o
was_at_most n None h = tt
was_at_most n (Some most) h = h

maximum_at_most : (o : Option ℕ) (n : ℕ) → records.MaximumIsAtMost o n → MaximumIsAtMost o n
maximum_at_most None n h = tt
maximum_at_most (Some most) n h = h

maximum_was : (o : Option ℕ) (n : ℕ) → MaximumIsAtMost o n → records.MaximumIsAtMost o n
maximum_was None n h = tt
maximum_was (Some most) n h = h

exponent : (o : Option ℕ) → records.IsExponent o → IsExponent o
exponent None h = tt
exponent (Some p) h = h

exponent_was : (o : Option ℕ) → IsExponent o → records.IsExponent o
exponent_was None h = tt
exponent_was (Some p) h = h

has_maximum : (shared : Bool) (o : Option ℕ) → records.HasMaximum shared o → shared ≡ true → IsSome o
has_maximum true o h e = h
has_maximum false o h e = absurd (none_there e)

maximum_there : (shared : Bool) (o : Option ℕ) → (shared ≡ true → IsSome o) → records.HasMaximum shared o
maximum_there true o h = h refl
maximum_there false o h = tt

memory_holds : (l : RawLimits) → records.MemoryHolds l → MemoryHolds (memory_type_of l)
memory_holds l h = record {
  ordered = at_most l.minimum l.maximum h.ordered;
  shared = has_maximum l.shared l.maximum h.shared;
  exponent = exponent l.page h.exponent;
  minimum = h.minimum;
  maximum = maximum_at_most l.maximum (records.most_pages l) h.maximum;
}

memory_held : (l : RawLimits) → MemoryHolds (memory_type_of l) → records.MemoryHolds l
memory_held l h = record {
  ordered = was_at_most l.minimum l.maximum h.ordered;
  shared = maximum_there l.shared l.maximum h.shared;
  exponent = exponent_was l.page h.exponent;
  minimum = h.minimum;
  maximum = maximum_was l.maximum (records.most_pages l) h.maximum;
}

module _ (s : wire.Module) where
  abbrev Fine : TableType → Type 0
  Fine t = IsAtMost t.limits.minimum t.limits.maximum

  pub tables_hold : All records.TableLimitsHold (context_of s).tables → (i : ℕ) (t : Table) → slice_get (tables_of s) i ≡ Some t → Fine t.ty
  tables_hold h i t e =
      all_at (λ (x : Table). Fine x.ty) (tables_of s) i t
      (looked (λ (x : Table). x.ty) table_type_of records.TableLimitsHold (λ (x : Table). Fine x.ty) (λ x a same k. subst Fine (sym same) (at_most a.limits.minimum a.limits.maximum k)) (tables_of s) (context_of s).tables (tables_look s) (recursion_from_All records.TableLimitsHold (context_of s).tables h)) e

  pub tables_held : ((i : ℕ) (t : Table) → slice_get (tables_of s) i ≡ Some t → Fine t.ty) → All records.TableLimitsHold (context_of s).tables
  tables_held h =
      All-from_recursion records.TableLimitsHold (context_of s).tables
      (looked table_type_of (λ (x : Table). x.ty) (λ (x : Table). Fine x.ty) records.TableLimitsHold (λ a x same k. was_at_most a.limits.minimum a.limits.maximum (subst Fine (sym same) k)) (context_of s).tables (tables_of s) (sym (tables_look s)) (all_each (λ (x : Table). Fine x.ty) (tables_of s) h))

  pub memories_hold : All records.MemoryHolds (context_of s).memories → (i : ℕ) (m : Memory) → slice_get (memories_of s) i ≡ Some m → MemoryHolds m.ty
  memories_hold h i m e =
      all_at (λ (x : Memory). MemoryHolds x.ty) (memories_of s) i m
      (looked (λ (x : Memory). x.ty) memory_type_of records.MemoryHolds (λ (x : Memory). MemoryHolds x.ty) (λ x a same k. subst MemoryHolds (sym same) (memory_holds a k)) (memories_of s) (context_of s).memories (memories_look s) (recursion_from_All records.MemoryHolds (context_of s).memories h)) e

  pub memories_held : ((i : ℕ) (m : Memory) → slice_get (memories_of s) i ≡ Some m → MemoryHolds m.ty) → All records.MemoryHolds (context_of s).memories
  memories_held h =
      All-from_recursion records.MemoryHolds (context_of s).memories
      (looked memory_type_of (λ (x : Memory). x.ty) (λ (x : Memory). MemoryHolds x.ty) records.MemoryHolds (λ a x same k. memory_held a (subst MemoryHolds (sym same) k)) (context_of s).memories (memories_of s) (sym (memories_look s)) (all_each (λ (x : Memory). MemoryHolds x.ty) (memories_of s) h))
