-- How far bytes are a module: what stands so far, section by section, and the one place where that ends.
use Rattle.std.proofs.Common.{◌≡◌, ℕ, ◌+◌, ◌-◌, ◌<◌, List, [], ◌∷◌, ◌++◌, length, refl, sym, ap, subst, ◌∙◌, arith, ◌⊎◌, inl, inr, append_assoc, length-append}
use Rattle.std.proofs.lemmas.List.{append-nil}
use Rattle.std.specs.Prelude.{Option, Some, None}
use Rattle.wasm_forms.proofs.Bind.{some_same, some_not_none, bind_some, bind_at}
use Rattle.wasm_frames.specs.declared.read.Framed.{Framed}
use Rattle.wasm_frames.specs.declared.read.Framed.TheVariants as found
use Rattle.wasm_frames.specs.declared.record.Raw.{Raw}
use Rattle.wasm_frames.specs.Record.{Module, no_sections, sections}
use Rattle.wasm_frames.specs.Frames.{Section, IsSection, AreSections, with_section, gathered, gathered_onto, header, Frames}
use Rattle.wasm_frames.specs.Until.{LacksSection, StandsUntil, HoldsWhole, HasOnePlace, IsNoModule}
use Rattle.wasm_frames.specs.Steps.{GoesOn, section_at, next_at}
use Rattle.wasm_frames.proofs.Sections.{section_exact}
use Rattle.wasm_frames.proofs.Modules.{no_section, behind_header}

-- the bytes are the header, whole sections that hold this, and the rest
pub record Reached (bytes rest : List ℕ) (so_far : Module) : Type 0 where
  pub whole : List ℕ
  pub parts : List Section
  pub headed : bytes ≡ header ++ (whole ++ rest)
  pub framed : AreSections 8 whole parts
  pub holds : so_far ≡ gathered parts

-- where the rest begins
reached_place : (bytes whole rest : List ℕ) → bytes ≡ header ++ (whole ++ rest) → length bytes - length rest ≡ 8 + length whole
reached_place bytes whole rest e = omega (arith, ap length e, length-append whole rest)

-- a section more behind others
sections_more : (place : ℕ) (whole front : List ℕ) (parts : List Section) (s : Section) → AreSections place whole parts → IsSection (place + length whole) front s
    → AreSections place (whole ++ front) (parts ++ s ∷ [])
sections_more place whole front [] s h t =
    let there : place + length whole ≡ place = omega (arith, ap length h) in
    (front, ([], (ap (λ l. l ++ front) h ∙ sym (append-nil front), subst (λ (n : ℕ). IsSection n front s) there t, refl)))
sections_more place whole front (p ∷ parts) s h t =
    let there : place + length whole ≡ (place + length h.0) + length h.1.0 = omega (arith, ap length h.1.1.0, length-append h.0 h.1.0) in
    let onward = sections_more (place + length h.0) h.1.0 front parts s h.1.1.2 (subst (λ (n : ℕ). IsSection n front s) there t) in
    (h.0, (h.1.0 ++ front, (ap (λ l. l ++ front) h.1.1.0 ∙ append_assoc h.0 h.1.0 front, h.1.1.1, onward)))

gathered_more : (m : Module) (parts : List Section) (s : Section) → gathered_onto m (parts ++ s ∷ []) ≡ with_section (gathered_onto m parts) s
gathered_more m [] s = refl
gathered_more m (p ∷ parts) s = gathered_more (with_section m p) parts s

abbrev added : Module → Section × List ℕ → Option (Module × List ℕ)
added so_far s = Some (with_section so_far s.0, s.1)

-- what stands behind a section is less than what began with it
pub next_shorter : (place : ℕ) (bytes rest : List ℕ) (so_far next : Module) → next_at place so_far bytes ≡ Some (next, rest) → length rest < length bytes
unfolding next_at
next_shorter place bytes rest so_far next e =
    let s = bind_some (section_at place bytes) (added so_far) (next, rest) e in
    let u = (section_exact place).takes bytes s.0 s.1 in
    let w : s.0.1 ≡ rest = ap (λ (x : Module × List ℕ). x.1) (some_same (with_section so_far s.0.0, s.0.1) (next, rest) s.2) in
    omega (arith, ap length u.1.0, length-append u.0 s.0.1, ap length w, ap length u.1.1.spelled)

-- a section further
pub reached_next : (bytes rest behind : List ℕ) (so_far next : Module) → Reached bytes rest so_far → next_at (length bytes - length rest) so_far rest ≡ Some (next, behind)
    → Reached bytes behind next
unfolding next_at
reached_next bytes rest behind so_far next h e =
    let place : ℕ = length bytes - length rest in
    let s = bind_some (section_at place rest) (added so_far) (next, behind) e in
    let same : (with_section so_far s.0.0, s.0.1) ≡ (next, behind) = some_same (with_section so_far s.0.0, s.0.1) (next, behind) s.2 in
    let u = (section_exact place).takes rest s.0 s.1 in
    let split : rest ≡ u.0 ++ behind = u.1.0 ∙ ap (λ l. u.0 ++ l) (ap (λ (x : Module × List ℕ). x.1) same) in
    let there : IsSection (8 + length h.whole) u.0 s.0.0 = subst (λ (n : ℕ). IsSection n u.0 s.0.0) (reached_place bytes h.whole rest h.headed) u.1.1 in
    record {
      whole = h.whole ++ u.0;
      parts = h.parts ++ s.0.0 ∷ [];
      headed = h.headed ∙ ap (λ l. header ++ (h.whole ++ l)) split ∙ ap (λ l. header ++ l) (sym (append_assoc h.whole u.0 behind));
      framed = sections_more 8 h.whole u.0 h.parts s.0.0 h.framed there;
      holds = sym (ap (λ (x : Module × List ℕ). x.0) same) ∙ ap (λ m. with_section m s.0.0) h.holds ∙ sym (gathered_more no_sections h.parts s.0.0);
    }

-- where no section stands, and bytes are left
pub reached_stop : (bytes rest : List ℕ) (so_far : Module) → Reached bytes rest so_far → next_at (length bytes - length rest) so_far rest ≡ None → 0 < length rest
    → StandsUntil bytes (length bytes - length rest)
unfolding next_at
reached_stop bytes rest so_far h none some =
    let place : ℕ = length bytes - length rest in
    record {
      whole = h.whole;
      rest = rest;
      parts = h.parts;
      headed = h.headed;
      framed = h.framed;
      reached = reached_place bytes h.whole rest h.headed;
      left = some;
      stops = λ front back s e t.
          let stands : section_at place rest ≡ Some (s, back) = ap (section_at place) e ∙ (section_exact place).again front back s t in
          some_not_none (with_section so_far s, back) (sym (bind_at (section_at place rest) (added so_far) (s, back) stands) ∙ none);
    }

-- at the end
pub reached_end : (bytes rest : List ℕ) (so_far : Module) → Reached bytes rest so_far → length rest ≡ 0 → Frames bytes so_far
reached_end bytes [] so_far h none = record {
  rest = h.whole;
  parts = h.parts;
  headed = h.headed ∙ ap (λ l. header ++ l) (append-nil h.whole);
  framed = h.framed;
  holds = h.holds;
}
reached_end bytes (b ∷ rest) so_far h none = absurd (omega arith)

-- whole sections in front of equal bytes, behind which none stands, are equally long
one_reach : (ss ss' : List Section) (place : ℕ) (whole rest whole' rest' : List ℕ) → whole ++ rest ≡ whole' ++ rest' → AreSections place whole ss → AreSections place whole' ss'
    → LacksSection (place + length whole) rest → LacksSection (place + length whole') rest' → length whole ≡ length whole'
one_reach [] [] place whole rest whole' rest' e h h' lacks lacks' = ap length h ∙ sym (ap length h')
one_reach [] (s ∷ ss') place whole rest whole' rest' e h h' lacks lacks' =
    let split : rest ≡ h'.0 ++ (h'.1.0 ++ rest') = sym (ap (λ l. l ++ rest) h) ∙ e ∙ ap (λ l. l ++ rest') h'.1.1.0 ∙ append_assoc h'.0 h'.1.0 rest' in
    let there : place ≡ place + length whole = omega (arith, ap length h) in
    absurd (lacks h'.0 (h'.1.0 ++ rest') s split (subst (λ (n : ℕ). IsSection n h'.0 s) there h'.1.1.1))
one_reach (s ∷ ss) [] place whole rest whole' rest' e h h' lacks lacks' =
    let split : rest' ≡ h.0 ++ (h.1.0 ++ rest) = sym (ap (λ l. l ++ rest') h') ∙ sym e ∙ ap (λ l. l ++ rest) h.1.1.0 ∙ append_assoc h.0 h.1.0 rest in
    let there : place ≡ place + length whole' = omega (arith, ap length h') in
    absurd (lacks' h.0 (h.1.0 ++ rest) s split (subst (λ (n : ℕ). IsSection n h.0 s) there h.1.1.1))
one_reach (s ∷ ss) (s' ∷ ss') place whole rest whole' rest' e h h' lacks lacks' =
    let split : whole ++ rest ≡ h.0 ++ (h.1.0 ++ rest) = ap (λ l. l ++ rest) h.1.1.0 ∙ append_assoc h.0 h.1.0 rest in
    let split' : whole' ++ rest' ≡ h'.0 ++ (h'.1.0 ++ rest') = ap (λ l. l ++ rest') h'.1.1.0 ∙ append_assoc h'.0 h'.1.0 rest' in
    let ends : h.0 ++ (h.1.0 ++ rest) ≡ h'.0 ++ (h'.1.0 ++ rest') = sym split ∙ e ∙ split' in
    let both : Some (s, h.1.0 ++ rest) ≡ Some (s', h'.1.0 ++ rest') = sym ((section_exact place).again h.0 (h.1.0 ++ rest) s h.1.1.1) ∙ ap (section_at place) ends ∙ (section_exact place).again h'.0 (h'.1.0 ++ rest') s' h'.1.1.1 in
    let rests : h.1.0 ++ rest ≡ h'.1.0 ++ rest' = ap (λ (x : Section × List ℕ). x.1) (some_same (s, h.1.0 ++ rest) (s', h'.1.0 ++ rest') both) in
    let far : length h.0 ≡ length h'.0 = omega (arith, ap length ends, ap length rests, length-append h.0 (h.1.0 ++ rest), length-append h'.0 (h'.1.0 ++ rest')) in
    let long : length whole ≡ length h.0 + length h.1.0 = ap length h.1.1.0 ∙ length-append h.0 h.1.0 in
    let long' : length whole' ≡ length h'.0 + length h'.1.0 = ap length h'.1.1.0 ∙ length-append h'.0 h'.1.0 in
    let onward : AreSections (place + length h.0) h'.1.0 ss' = subst (λ (n : ℕ). AreSections (place + n) h'.1.0 ss') (sym far) h'.1.1.2 in
    let there : place + length whole ≡ (place + length h.0) + length h.1.0 = omega arith in
    let there' : place + length whole' ≡ (place + length h.0) + length h'.1.0 = omega arith in
    let lack : LacksSection ((place + length h.0) + length h.1.0) rest = subst (λ (n : ℕ). LacksSection n rest) there lacks in
    let lack' : LacksSection ((place + length h.0) + length h'.1.0) rest' = subst (λ (n : ℕ). LacksSection n rest') there' lacks' in
    let back : length h.1.0 ≡ length h'.1.0 = one_reach ss ss' (place + length h.0) h.1.0 rest h'.1.0 rest' rests h.1.1.2 onward lack lack' in
    omega arith

pub one_place_lem : HasOnePlace
one_place_lem = λ bytes p q h h'.
    let same : h.whole ++ h.rest ≡ h'.whole ++ h'.rest = behind_header bytes (h.whole ++ h.rest) (h'.whole ++ h'.rest) h.headed h'.headed in
    let lack : LacksSection (8 + length h.whole) h.rest = subst (λ (n : ℕ). LacksSection n h.rest) h.reached h.stops in
    let lack' : LacksSection (8 + length h'.whole) h'.rest = subst (λ (n : ℕ). LacksSection n h'.rest) h'.reached h'.stops in
    let far = one_reach h.parts h'.parts 8 h.whole h.rest h'.whole h'.rest same h.framed h'.framed lack lack' in
    h.reached ∙ ap (λ n. 8 + n) far ∙ sym h'.reached

-- bytes of which sections stand up to a place, and no further, are no module
pub no_module : IsNoModule
no_module = λ bytes place m h f.
    let same : h.whole ++ h.rest ≡ f.rest ++ [] = behind_header bytes (h.whole ++ h.rest) f.rest h.headed f.headed ∙ sym (append-nil f.rest) in
    let lack : LacksSection (8 + length h.whole) h.rest = subst (λ (n : ℕ). LacksSection n h.rest) h.reached h.stops in
    let lack' : LacksSection (8 + length f.rest) [] = λ front back s e t. no_section (8 + length f.rest) front back s t e in
    let far : length h.whole ≡ length f.rest = one_reach h.parts f.parts 8 h.whole h.rest f.rest [] same h.framed f.framed lack lack' in
    let some : 0 < length h.rest = h.left in
    omega (arith, ap length same, length-append h.whole h.rest, length-append f.rest [])

-- what a step that went on, or didn't, says of what stands there

pub stands : {X Y : Type 0} (view : X → Y) (o : Option X) (x : X) (read : Option Y) → o ≡ Some x → GoesOn view o read → read ≡ Some (view x)
stands {X} view o x read is h = subst (λ (p : Option X). GoesOn view p read) is h

pub lacks : {X Y : Type 0} (view : X → Y) (o : Option X) (read : Option Y) → o ≡ None → GoesOn view o read → read ≡ None
lacks {X} view o read is h = subst (λ (p : Option X). GoesOn view p read) is h

-- of a module all is found

pub whole_holds : (m : Module) (f : Framed) (raw : Raw) → f ≡ found.Whole raw → HoldsWhole m f → Some m ≡ Some (sections raw)
whole_holds m f raw is h = ap Some (sym (subst (HoldsWhole m) is h))

pub not_held : (m : Module) (f : Framed) → (f ≡ found.NoHeader) ⊎ ((place : ℕ) × (f ≡ found.Until place)) → HoldsWhole m f → ⊥
not_held m f (inl is) h = subst (HoldsWhole m) is h
not_held m f (inr is) h = subst (HoldsWhole m) is.1 h
