-- What comes out is one function of what was read.
use Rattle.std.proofs.Common.{◌≡◌, ℕ, List, [], ◌∷◌, map, refl, sym, ap, ◌∙◌, subst, ⊎_elim}
use Rattle.std.specs.Prelude.{Option, Some, None, Contains}
use Rattle.wasm_frames.specs.Record as wire
use Rattle.walrus_base.specs.Operators.{Types, Functions, Tables, Memories, Tags, Globals, Elements, DataSegments, Item}
use Rattle.walrus_model.specs.Abstract.{Abstract, Indices, Custom, Function, Import}
use Rattle.walrus_model.specs.Config.{Config}
use Rattle.walrus_model.specs.Kept.{IsImportOf}
use Rattle.walrus_model.specs.Live.{IsLive}
use Rattle.walrus_model.specs.Pipeline.{Collected}
use Rattle.walrus_model.specs.Renaming.{renamed_import}
use Rattle.walrus_model.specs.Rules.{Holds}
use Rattle.walrus_model.specs.WellMade.{import_of, ImportsMatch}
use Rattle.walrus_theorem.specs.Chain.{ParsedAs, BringsTo}
use Rattle.walrus_theorem.specs.Headline.{ReadsModule, OneOutput}
use Rattle.walrus_theorem.specs.Once.{Premises}
use Rattle.walrus_theorem.specs.OneRun.{KeptLives}
use Rattle.walrus_theorem.specs.Pinned.{IsWrittenAs}
use Rattle.walrus_model.specs.Sections.{custom_of}
use Rattle.walrus_theorem.specs.Spelling.{IsSpelledAs}
use Rattle.walrus_base.proofs.Agree.{same_looks}
use Rattle.walrus_theorem.proofs.BytesOnce.{bytes_once}
use Rattle.walrus_theorem.proofs.KeptLives.{kept_lives}
use Rattle.walrus_theorem.proofs.KeptOnce.{kept_same, collected_same}
use Rattle.walrus_base.proofs.Lists.{Contains-uncons, Contains-none}
use Rattle.walrus_model.proofs.Orders.{is_some_by}
use Rattle.walrus_theorem.proofs.OneModule.{same_fields}
use Rattle.walrus_theorem.proofs.OneSpelling.{spelled_once}
use Rattle.walrus_theorem.proofs.Plain.{masked, plain, pair, plain_written, plain_premises}
use Rattle.walrus_theorem.proofs.ReadsOnce.{reads_once_lem}
use Rattle.walrus_theorem.proofs.Straight.{straight, moved, carried}
use Rattle.walrus_theorem.proofs.TextImports.{imports_match}
use Rattle.walrus_theorem.proofs.Things.{both_there, some_same}
use Rattle.walrus_theorem.proofs.Undeclared.{PlainCustoms, BringsNoSegment, left_written}

-- ---- what is known of a module that was read

one_custom : (cs : List wire.Custom) (s : Custom) → Contains (map custom_of cs) s → (a b : Indices) → s.data_under a ≡ s.data_under b
one_custom [] s at a b = absurd (Contains-none s at)
one_custom (x ∷ xs) s at a b = ⊎_elim
    (λ (e : custom_of x ≡ s). subst (λ (z : Custom). z.data_under a ≡ z.data_under b) e refl)
    (λ (rest : Contains (map custom_of xs) s). one_custom xs s rest a b)
    (Contains-uncons (custom_of x) s (map custom_of xs) at)

pub read_customs : (c : Config) (bytes : List ℕ) (m : Abstract) → ReadsModule c bytes m → PlainCustoms m
read_customs c bytes m h = subst PlainCustoms (sym h.is) (λ s at. one_custom _ s at)

pub read_imports : (c : Config) (bytes : List ℕ) (m : Abstract) → ReadsModule c bytes m → ImportsMatch m
read_imports c bytes m h = subst ImportsMatch (sym h.is) (imports_match h.sections h.bodies _ _)

no_segment : (m : Abstract) → ImportsMatch m → BringsNoSegment m
no_segment m h i x e is = brought x.item (h.imports i x e) is
  where
    brought : (y : Item) → import_of m y ≡ Some i → y.0 ≡ Elements → ⊥
    brought (Types, k) f g = cc
    brought (Functions, k) f g = cc
    brought (Tables, k) f g = cc
    brought (Memories, k) f g = cc
    brought (Tags, k) f g = cc
    brought (Globals, k) f g = cc
    brought (Elements, k) f g = cc
    brought (DataSegments, k) f g = cc

module _ (c : Config) (m v w : Abstract) (p : ParsedAs c m v) (k : Collected v w) where
  kept_customs : PlainCustoms m → PlainCustoms w
  kept_customs h s at = h s (subst (λ l. Contains l s) (k.customs ∙ p.customs) at)

  parsed_import : (i : ℕ) (x : Import) → v.imports i ≡ Some x → (y : Import) × (m.imports i ≡ Some y) × (x.item.0 ≡ y.item.0)
  parsed_import i x e = ⊎_elim
      (λ (z : (j : ℕ) × IsImportOf (IsLive m) m j × (j ≡ i)).
      let chosen : IsImportOf (IsLive m) m i = subst (IsImportOf (IsLive m) m) z.2 z.1 in
      let both = both_there (λ a b. b ≡ renamed_import (straight (moved c m v p)) a) (m.imports i) (v.imports i) ((carried c m v p).imports.same i chosen) in
      (both.0, both.2, ap (λ (a : Import). a.item.0) (some_same x both.1 (sym e ∙ both.3) ∙ both.4)))
      (λ none. absurd none)
      ((carried c m v p).imports.onto i (is_some_by (v.imports i) x e))

  kept_imports : BringsNoSegment m → BringsNoSegment w
  kept_imports h i x e is =
      let left = k.imports.left i x e in
      let y = parsed_import i x left.1 in
      h i y.0 y.1 (sym y.2 ∙ is)

-- ---- two ways from one module

module _ (c : Config) (m v w x y : Abstract) (p : ParsedAs c m v) (q : ParsedAs c m w) (cx : Collected v x) (cy : Collected w y) (holds : Holds m) where
  functions_there : (i : ℕ) (f : Function) → masked (x.functions i) (m.functions i) ≡ Some f → masked (y.functions i) (m.functions i) ≡ Some f
  functions_there i f e = by_look (x.functions i) refl e
    where
      by_look : (o : Option Function) → x.functions i ≡ o → masked o (m.functions i) ≡ Some f → masked (y.functions i) (m.functions i) ≡ Some f
      by_look None e h = absurd (cc)
      by_look (Some g) e h =
          let a = pair c m v x p cx holds i (is_some_by (x.functions i) g e) in
          let l = kept_same c m v w p q (Functions, i) a.kept in
          let both = both_there _ (m.functions i) (w.functions i) ((carried c m w q).functions.same i (is_some_by (m.functions i) a.old a.at_m)) in
          let at : y.functions i ≡ Some both.1 = cy.functions.kept i l ∙ both.3 in
          ap (λ z. masked z (m.functions i)) at ∙ h

module _ (c : Config) (m v w x y : Abstract) (p : ParsedAs c m v) (q : ParsedAs c m w) (cx : Collected v x) (cy : Collected w y) (holds : Holds m) where
  pub plain_same : plain c m x ≡ plain c m y
  plain_same =
      let s = collected_same c m v w x y p q cx cy in
      same_fields (plain c m x) (plain c m y) s.types s.imports
      (same_looks (λ i. masked (x.functions i) (m.functions i)) (λ i. masked (y.functions i) (m.functions i)) (functions_there c m v w x y p q cx cy holds) (functions_there c m w v y x q p cy cx holds))
      s.tables s.memories s.tags s.globals s.elements s.data_segments s.exports s.start s.customs s.producers refl refl refl refl refl

-- what one module is written as by two ways

abbrev pub kept : (c : Config) (m u : Abstract) → BringsTo c m u → Abstract
kept c m u b = plain c m b.module_kept

pub from_read : (c : Config) (bytes : List ℕ) (m u n : Abstract) → ReadsModule c bytes m → Holds m → (b : BringsTo c m u) → IsWrittenAs c u n → IsWrittenAs c (kept c m u b) n
from_read c bytes m u n reads holds b is =
    plain_written c m b.module_parsed b.module_kept b.parsed b.collected holds n
    (left_written c b.module_kept u n
    (kept_customs c m b.module_parsed b.module_kept b.parsed b.collected (read_customs c bytes m reads))
    (kept_imports c m b.module_parsed b.module_kept b.parsed b.collected (no_segment m (read_imports c bytes m reads)))
    b.leaves is)

pub one_way : (c : Config) (m u d : Abstract) → Holds m → (a : BringsTo c m u) (b : BringsTo c m d) → kept c m u a ≡ kept c m d b
one_way c m u d holds a b = plain_same c m a.module_parsed b.module_parsed a.module_kept b.module_kept a.parsed b.parsed a.collected b.collected holds

outputs : KeptLives → (c : Config) (bytes a b : List ℕ) (m u d n e : Abstract) → ReadsModule c bytes m → Holds m → BringsTo c m u → BringsTo c m d → IsWrittenAs c u n → IsWrittenAs c d e → IsSpelledAs n a → IsSpelledAs e b → a ≡ b
outputs lives c bytes a b m u d n e reads holds bu bd wn we sa sb =
    let premises : Premises (kept c m u bu) = plain_premises c m bu.module_parsed bu.module_kept bu.parsed bu.collected holds (lives c bytes m bu.module_parsed bu.module_kept reads holds bu.parsed bu.collected) in
    let other : IsWrittenAs c (kept c m u bu) e = subst (λ z. IsWrittenAs c z e) (sym (one_way c m u d holds bu bd)) (from_read c bytes m d e reads holds bd we) in
    bytes_once spelled_once c (kept c m u bu) n e a b premises (from_read c bytes m u n reads holds bu wn) other sa sb

pub one_output : OneOutput
one_output c bytes a b ha hb =
    let same : hb.module_read ≡ ha.module_read = reads_once_lem c bytes ha.module_read hb.module_read ha.reads hb.reads in
    let brought : BringsTo c ha.module_read hb.module_left = subst (λ z. BringsTo c z hb.module_left) same hb.brought in
    sym (outputs kept_lives c bytes a b ha.module_read ha.module_left hb.module_left ha.module_written hb.module_written ha.reads ha.holds ha.brought brought ha.written hb.written ha.spelled hb.spelled)
