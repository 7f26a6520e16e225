-- Of the items that are still to be written, the first one and those behind it; those that an import brings are passed over.
use Rattle.std.proofs.Common.{◌≡◌, ℕ, suc, Bool, true, false, List, [], ◌∷◌, ◌++◌, map, append-nil, cond, sym, ap, ◌∙◌, subst, arith, Some, None}
use Rattle.std.specs.Prelude.{Option, IsSome, All, Contains, Err, is_some, not, option_map}
use Rattle.std.proofs.lemmas.List.Elements.{All-cons, All-nil, All-push}
use Rattle.wasm_entries.specs.Record.{global_entry, table_entry}
use Rattle.wasm_entries.specs.Spelling.{GlobalStands, TableStands}
use Rattle.wasm_entries.specs.declared.record.RawGlobal.{RawGlobal}
use Rattle.wasm_entries.specs.declared.record.RawTable.{RawTable}
use Rattle.walrus_code.specs.Names.{Lookup}
use Rattle.walrus_code.specs.declared.error.IrError.{IrError}
use Rattle.walrus_code.specs.declared.error.IrError.TheVariants as Ir
use Rattle.walrus_constants.specs.Named.{named_global, named_table}
use Rattle.walrus_contents.specs.View.{global_of, table_of}
use Rattle.walrus_items.specs.Globals.{GlobalValue}
use Rattle.walrus_items.specs.Tables.{TableValue}
use Rattle.walrus_model.specs.Sections as said
use Rattle.walrus_base.proofs.Lists.{Contains-head, Contains-tail}
use Rattle.walrus_base.proofs.Standing.{none_there}
use Rattle.walrus_items.specs.Errors.{error_of_ir}
use Rattle.walrus_plan.specs.Brought.{own_of}
use Rattle.walrus_writing.specs.Globals.{IndexesGlobal, IsSpelledGlobal, RefusesGlobals}
use Rattle.walrus_plan.specs.Local.{is_own}
use Rattle.walrus_writing.specs.Tables.{IndexesTable, IsSpelledTable, RefusesTables}
use Rattle.walrus_base.proofs.ZipTurns.{list_turn}

-- ---- what brings an item, as a test tells it

-- none does
pub none_brings : {A : Type 0} (f : A → ℕ) (o : Option A) (b : Option ℕ) (t : Bool) → option_map f o ≡ b → is_some o ≡ not t → t ≡ true → b ≡ None
none_brings f None b t same told e = sym same
none_brings f (Some a) b t same told e = absurd (none_there (sym (told ∙ ap not e)))

-- one does
pub one_brings : {A : Type 0} (f : A → ℕ) (o : Option A) (b : Option ℕ) (t : Bool) → option_map f o ≡ b → is_some o ≡ not t → t ≡ false → is_own b ≡ false
one_brings f None b t same told e = absurd (none_there (told ∙ ap not e))
one_brings f (Some a) b t same told e = ap is_own (sym same)

-- ---- the first of those that are left

module _ {X : Type 0} where
  module _ (x : X) (left after : List X) (step : left ≡ x ∷ after) where
    pub spelled_behind : (P : X → Type 0) (all : List X) → P x → (All P left → All P all) → All P after → All P all
    spelled_behind P all spelled more behind = more (subst (λ (l : List X). All P l) (sym step) (All-cons P x after spelled behind))

    pub among_behind : (all : List X) → ((y : X) → Contains left y → Contains all y) → (y : X) → Contains after y → Contains all y
    among_behind all among y at = among y (subst (λ (l : List X). Contains l y) (sym step) (Contains-tail x y after at))

    pub first_among : (all : List X) → ((y : X) → Contains left y → Contains all y) → Contains all x
    first_among all among = among x (subst (λ (l : List X). Contains l x) (sym step) (Contains-head x after))

    module _ (by : X → Option ℕ) where
      -- it is of the module's own
      pub own_step : by x ≡ None → own_of by left ≡ x ∷ own_of by after
      own_step none = ap (own_of by) step ∙ ap (λ (o : Option ℕ). cond (is_own o) (x ∷ own_of by after) (own_of by after)) none

      -- an import brings it
      pub own_skip : is_own (by x) ≡ false → own_of by left ≡ own_of by after
      own_skip brought = ap (own_of by) step ∙ ap (λ (b : Bool). cond b (x ∷ own_of by after) (own_of by after)) brought

-- ---- what is still to come

at_seam : {A : Type 0} (P : A → Type 0) (xs : List A) (y : A) (rest : List A) → All P (xs ++ y ∷ rest) → P y
at_seam P [] y rest h = h 0 y (omega arith)
at_seam P (x ∷ xs) y rest h = at_seam P xs y rest (λ k d lt. h (suc k) d (omega (arith, lt)))

-- where each has something, so has the next one
pub next_has : {B C : Type 0} (done : List (Option C)) (g : B → Option C) (left after : List B) (e : B) (all : List (Option C)) → done ++ map g left ≡ all → left ≡ e ∷ after → All (λ o. IsSome o) all → None ≡ g e → ⊥
next_has {B} {C} done g left after e all is step h none =
    let parts : all ≡ done ++ g e ∷ map g after = sym is ∙ ap (λ (l : List B). done ++ map g l) step in
    let some : IsSome (g e) = at_seam (λ (o : Option C). IsSome o) done (g e) (map g after) (subst (λ (l : List (Option C)). All (λ o. IsSome o) l) parts h) in
    none_there (subst (λ (o : Option C). IsSome o) (sym none) some)

-- ---- the records of the module's own items among those left

-- what is made of these and of the module's own among those left
module _ {X R C : Type 0} (by : X → Option ℕ) (f : R → C) (g : X → C) (raw more : List R) (x : X) (left after : List X) (step : left ≡ x ∷ after) (all : List C) (made : map f raw ++ map g (own_of by left) ≡ all) where
  pub list_own : (one : R) → by x ≡ None → more ≡ raw ++ one ∷ [] → f one ≡ g x → map f more ++ map g (own_of by after) ≡ all
  list_own one none pushed same = ap (λ (l : List R). map f l ++ map g (own_of by after)) pushed ∙ list_turn f g raw one (own_of by left) (own_of by after) x all made (own_step x left after step by none) same

  pub list_past : is_own (by x) ≡ false → more ≡ raw → map f more ++ map g (own_of by after) ≡ all
  list_past brought kept = ap (λ (l : List R). map f l ++ map g (own_of by after)) kept ∙ ap (λ (l : List X). map f raw ++ map g l) (sym (own_skip x left after step by brought)) ∙ made

module _ {X R C : Type 0} (by : X → Option ℕ) (S : R → Type 0) (P : X → Type 0) (f : R → C) (g : X → C) (all : List X) where
  -- those left are among all, and, with all before them spelled, what is said of the module's own among them is so of all of these; the records so far
  -- stand, and those of the others complete them
  pub record Written (raw : List R) (left : List X) : Type 0 where
    pub stand : All S raw
    pub spelled : All P (own_of by left) → All P (own_of by all)
    pub among : (y : X) → Contains left y → Contains all y
    pub made : map f raw ++ map g (own_of by left) ≡ map g (own_of by all)

  pub written_begins : (raw : List R) (left : List X) → raw ≡ [] → left ≡ all → Written raw left
  written_begins raw left none same = record {
    stand = subst (λ (l : List R). All S l) (sym none) (All-nil S);
    spelled = subst (λ (l : List X). All P (own_of by l) → All P (own_of by all)) (sym same) (λ h. h);
    among = subst (λ (l : List X). (y : X) → Contains l y → Contains all y) (sym same) (λ y at. at);
    made = ap (λ (l : List R). map f l ++ map g (own_of by left)) none ∙ ap (λ (l : List X). map g (own_of by l)) same;
  }

  module _ (raw : List R) (left : List X) (none : left ≡ []) (w : Written raw left) where
    pub written_done : map f raw ≡ map g (own_of by all)
    written_done = sym (append-nil (map f raw)) ∙ ap (λ (l : List X). map f raw ++ map g (own_of by l)) (sym none) ∙ w.made

    pub written_spelled : All P (own_of by all)
    written_spelled = w.spelled (subst (λ (l : List X). All P (own_of by l)) (sym none) (All-nil P))

  module _ (raw more : List R) (x : X) (left after : List X) (step : left ≡ x ∷ after) (w : Written raw left) where
    -- one more is written
    pub written_more : (one : R) → by x ≡ None → more ≡ raw ++ one ∷ [] → S one → P x → f one ≡ g x → Written more after
    written_more one none pushed stands spelled same =
        let own = own_step x left after step by none in
        record {
          stand = subst (λ (l : List R). All S l) (sym pushed) (All-push S raw one w.stand stands);
          spelled = spelled_behind x (own_of by left) (own_of by after) own P (own_of by all) spelled w.spelled;
          among = among_behind x left after step all w.among;
          made = list_own by f g raw more x left after step (map g (own_of by all)) w.made one none pushed same;
        }

    -- an import brings it
    pub written_past : is_own (by x) ≡ false → more ≡ raw → Written more after
    written_past brought kept =
        let skip = own_skip x left after step by brought in
        record {
          stand = subst (λ (l : List R). All S l) (sym kept) w.stand;
          spelled = subst (λ (l : List X). All P l → All P (own_of by all)) skip w.spelled;
          among = among_behind x left after step all w.among;
          made = list_past by f g raw more x left after step (map g (own_of by all)) w.made brought kept;
        }

-- of tables and of globals, under these names

abbrev pub TablesWritten : Lookup → List TableValue → List RawTable → List TableValue → Type 0
TablesWritten names all = Written (λ (t : TableValue). t.imported_by) (λ (w : RawTable). TableStands (table_entry w)) IsSpelledTable (λ (w : RawTable). Some (said.table_of (table_entry w))) (λ (t : TableValue). named_table names (table_of t)) all

abbrev pub GlobalsWritten : Lookup → List GlobalValue → List RawGlobal → List GlobalValue → Type 0
GlobalsWritten names all = Written (λ (g : GlobalValue). g.imported_by) (λ (w : RawGlobal). GlobalStands (global_entry w)) IsSpelledGlobal (λ (w : RawGlobal). Some (said.global_of (global_entry w))) (λ (g : GlobalValue). named_global names (global_of g)) all

-- ---- one that is refused

pub global_refused : (names : Lookup) (g : GlobalValue) (all : List GlobalValue) (e : IrError) → Contains all g → (None ≡ named_global names (global_of g) → ⊥) → IndexesGlobal names (global_of g) (Err e) → RefusesGlobals all (error_of_ir e)
global_refused names g all Ir.NoIndex at there none = absurd (there (sym none))
global_refused names g all Ir.NotWritable at there unspelled = (g, at, unspelled)
global_refused names g all (Ir.Memory m) at there u = tt
global_refused names g all Ir.Malformed at there u = absurd u
global_refused names g all Ir.TooLarge at there u = absurd u

pub table_refused : (names : Lookup) (t : TableValue) (all : List TableValue) (e : IrError) → Contains all t → (None ≡ named_table names (table_of t) → ⊥) → IndexesTable names (table_of t) (Err e) → RefusesTables all (error_of_ir e)
table_refused names t all Ir.NoIndex at there none = absurd (there (sym none))
table_refused names t all Ir.NotWritable at there unspelled = (t, at, unspelled)
table_refused names t all (Ir.Memory m) at there u = tt
table_refused names t all Ir.Malformed at there u = absurd u
table_refused names t all Ir.TooLarge at there u = absurd u
