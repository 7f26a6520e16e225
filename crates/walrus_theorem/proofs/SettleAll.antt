-- A second run drops and adds nothing, since what the first one wrote is in settled form.
use Rattle.std.proofs.Common.{◌≡◌, ℕ, Bool, true, false, List, [], refl, sym, ap, ◌∙◌, subst}
use Rattle.std.specs.Prelude.{Option, Some, None, IsSome, option_map}
use Rattle.walrus_base.specs.Operators.{Functions, Elements}
use Rattle.walrus_model.specs.Abstract.{Abstract, Element, Subject, TheModule, AnItem, ALocal}
use Rattle.walrus_model.specs.Config.{Config}
use Rattle.walrus_model.specs.Customs.{no_indices, written_customs}
use Rattle.walrus_model.specs.Declared.{AreUndeclared}
use Rattle.walrus_model.specs.Kept.{Kept}
use Rattle.walrus_model.specs.Live.{IsLive}
use Rattle.walrus_model.specs.Names.{last_name, own_name, name_of, MayBeNamed, AreNamed, WritesNames}
use Rattle.walrus_model.specs.Out.{OutOf, Written}
use Rattle.walrus_model.specs.Pipeline.{Collected}
use Rattle.walrus_model.specs.Renaming.{Renaming, unchanged, renamed}
use Rattle.walrus_model.specs.Rules.{Holds}
use Rattle.walrus_theorem.specs.Chain.{ParsedAs}
use Rattle.walrus_theorem.specs.Pinned.{IsWrittenAs}
use Rattle.walrus_theorem.specs.Settled.{IsLike, Settles}
use Rattle.walrus_theorem.specs.SettledForm.{IsSettledForm}
use Rattle.walrus_theorem.specs.SettledLaw.{OutSettles, RunsSettle}
use Rattle.walrus_theorem.proofs.AgainForm.{settled_by}
use Rattle.walrus_model.proofs.AgainSame.{customs_again}
use Rattle.walrus_theorem.proofs.AgainStays.{all_chosen, none_else}
use Rattle.walrus_theorem.proofs.ReadsOnce.{reads_once_lem}
use Rattle.walrus_theorem.proofs.StepLeaves.{Between, between, declares_none}
use Rattle.walrus_theorem.proofs.StepOut.{LeavesOnly, AreChosen, kept_left, out_of, carried_only}
use Rattle.walrus_model.proofs.StepPlain.{IsPlain}
use Rattle.walrus_theorem.proofs.StepRead.{read_is_plain, steps_come_out_lem}

none_before : {X Y : Type 0} (f : X → Y) (o : Option X) → option_map f o ≡ None → o ≡ None
none_before f None e = refl
none_before f (Some x) e = absurd (cc)

-- ---- names by the flag

unnamed : (n : Abstract) (y : Subject) → n.named y ≡ [] → IsSome (own_name n y) → ⊥
unnamed n y e h = let no : false ≡ true = subst (λ l. IsSome (last_name l)) e h in absurd (cc)

module _ (c : Config) (n n2 : Abstract) (r : Renaming) where
  names_by : (t : Bool) → WritesNames t (name_of c n) (IsLive n) unchanged n n → WritesNames t (name_of c n) (IsLive n) r n n2 → AreNamed (own_name n) (IsLive n) r n n2
  names_by true own new = record {
    module_name = new.module_name ∙ sym own.module_name;
    items = λ x live nt. new.items x live nt ∙ sym (own.items x live nt);
    locals = λ f b x live at used. new.locals f b x live at used ∙ sym (own.locals f b x live at used);
    only = new.only;
  }
  names_by false own new = record {
    module_name = ap last_name (new TheModule) ∙ sym (ap last_name (own TheModule));
    items = λ x live nt. ap last_name (new (AnItem (renamed r x))) ∙ sym (ap last_name (own (AnItem x)));
    locals = λ f b x live at used. ap last_name (new (ALocal (r.numbers Functions f) (r.locals f x))) ∙ sym (ap last_name (own (ALocal f x)));
    only = λ y is. absurd (unnamed n2 y (new y) is);
  }

  others_by : (t : Bool) → WritesNames t (name_of c n) (IsLive n) unchanged n n → (y : Subject) → IsSome (own_name n y) → MayBeNamed (IsLive n) unchanged n y
  others_by true own y is = own.only y is
  others_by false own y is = absurd (unnamed n y (own y) is)

-- ---- a second run

module _ (c : Config) (n v w n2 : Abstract) (elements : ℕ → Option Element) (fs : List ℕ) (p : ParsedAs c n v) (plain : IsPlain n) (holds : Holds n) (settled : IsSettledForm c n) (l : Collected v w) (undeclared : AreUndeclared (IsLive w) w fs) (b : Between w (record w { elements = elements }) fs) (o : Written c (record w { elements = elements }) n2) where
  abbrev chosen : AreChosen c n v p (IsLive n) (Kept v)
  chosen = all_chosen c n v p plain holds settled.form settled.kept

  abbrev left : LeavesOnly (Kept v) v w
  left = kept_left c n v p plain holds w l

  abbrev out : OutOf (IsLive n) c n n2
  out = out_of c n v w n2 elements fs p plain holds (IsLive n) (Kept v) chosen left undeclared b o

  none : b.segment ≡ None
  none =
      let d = out.declares in
      none_before (o.renaming.numbers Elements) b.segment
      (declares_none (IsLive n) out.renaming n n2 d.functions out.segment (λ f at. settled.form.declared f ((d.undeclared.are f).0 at)) d.declared)

  settles : n.customs ≡ written_customs no_indices n.customs → Settles c n n2
  settles customs = record {
    renaming = out.renaming;
    carried = carried_only c n v w n2 elements fs p plain holds (IsLive n) (Kept v) chosen left undeclared b o
        (none_else c n v p plain holds settled.form) none (IsLike n n2);
    names = names_by c n n2 out.renaming c.writes_names settled.form.names out.names;
    no_others = others_by c n n2 out.renaming c.writes_names settled.form.names;
    producers = out.producers ∙ sym settled.form.producers;
    customs = out.customs ∙ sym customs;
  }

pub out_settles : OutSettles
out_settles c bytes m u n bytes2 u2 n2 reads holds brings written reads2 holds2 brings2 written2 =
    let b = between brings2.module_kept u2 brings2.leaves in
    let customs : n.customs ≡ written_customs no_indices m.customs = (steps_come_out_lem c bytes m u n reads holds brings written).customs in
    settles c n brings2.module_parsed brings2.module_kept n2 u2.elements brings2.leaves.functions brings2.parsed (read_is_plain c bytes2 n reads2) holds2
    (settled_by c bytes m u n bytes2 reads holds brings written reads2) brings2.collected brings2.leaves.undeclared
    (subst (λ x. Between brings2.module_kept x brings2.leaves.functions) b.same b)
    (subst (λ x. Written c x n2) b.same written2.written)
    (customs ∙ sym (customs_again m.customs) ∙ ap (written_customs no_indices) (sym customs))

pub runs_settle : RunsSettle
runs_settle c bytes output again first second =
    let same : second.module_read ≡ first.module_written = reads_once_lem c output first.module_written second.module_read first.output_reads second.reads in
    record {
      module_read = second.module_read;
      reads = second.reads;
      module_written = second.module_written;
      output_reads = second.output_reads;
      settles = out_settles c bytes first.module_read first.module_left second.module_read output second.module_left second.module_written
          first.reads first.holds first.brought (subst (IsWrittenAs c first.module_left) (sym same) first.written)
          second.reads second.holds second.brought second.written;
    }
