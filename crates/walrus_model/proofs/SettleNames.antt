-- What was named once is named so again.
use Rattle.std.proofs.Common.{◌≡◌, ℕ, Bool, true, false, List, [], ◌∷◌, ◌++◌, filter, refl, sym, ap, ◌∙◌, subst}
use Rattle.std.specs.Prelude.{Option, Some, None, IsSome, Contains, cond, if◌then◌else◌, codes, decimal}
use Rattle.std.specs.List.{last_or}
use Rattle.walrus_base.specs.Shape.{place_in}
use Rattle.walrus_base.specs.Operators.{Types, Functions, Tables, Memories, Tags, Globals, Elements, DataSegments, Item}
use Rattle.walrus_model.specs.Abstract.{Abstract, Name, Body, Subject, TheModule, AnItem, ALocal}
use Rattle.walrus_model.specs.Config.{Config}
use Rattle.walrus_model.specs.Refers.{IsUsed, used_locals}
use Rattle.walrus_model.specs.Renaming.{Renaming}
use Rattle.walrus_model.specs.Names.{body_of, own_name, last_name, name_of, names_that_count, or_else, synthetic_name, function_text, local_text, local_text_in, is_not_empty, AreNamed}
use Rattle.walrus_model.specs.Out.{OutOf}
use Rattle.walrus_model.proofs.Follow.{used_follow}
use Rattle.walrus_model.proofs.PipelineOps.{from_map}
use Rattle.walrus_model.proofs.SettleDeclared.{old_body}

pub or_none : (o : Option Name) → or_else o None ≡ o
or_none None = refl
or_none (Some x) = refl

or_some : (o other : Option Name) (x : Name) → o ≡ Some x → or_else o other ≡ Some x
or_some (Some y) other x e = e
or_some None other x e = absurd (cc)

-- ---- the last name, if it isn't empty, is the last of those that aren't

last_by : (x : Name) (xs : List Name) (p : Option Name) (nm : Name) → is_not_empty nm ≡ true → ((q : Option Name) → (Some x ≡ Some nm → q ≡ Some nm) → last_or q (filter is_not_empty xs) ≡ Some nm) → (t : Bool) → is_not_empty x ≡ t → last_or p (cond t (x ∷ filter is_not_empty xs) (filter is_not_empty xs)) ≡ Some nm
last_by x xs p nm full rest true is = rest (Some x) (λ h. h)
last_by x xs p nm full rest false is = rest p (λ h. let same : x ≡ nm = cc in let no : false ≡ true = sym is ∙ ap is_not_empty same ∙ full in absurd (cc))

-- p stands for what was kept so far, where o was the last so far
last_kept : (xs : List Name) (o p : Option Name) (nm : Name) → is_not_empty nm ≡ true → (o ≡ Some nm → p ≡ Some nm) → last_or o xs ≡ Some nm → last_or p (filter is_not_empty xs) ≡ Some nm
last_kept [] o p nm full so e = so e
last_kept (x ∷ xs) o p nm full so e = last_by x xs p nm full (λ q h. last_kept xs (Some x) q nm full h e) (is_not_empty x) refl

-- ---- synthetic names are not empty

full_front : (a b : Name) → is_not_empty a ≡ true → is_not_empty (a ++ b) ≡ true
full_front (x ∷ a) b e = refl
full_front [] b e = absurd (cc)

local_full : (x : ℕ) (o : Option ℕ) → is_not_empty (local_text x o) ≡ true
local_full x (Some place) = full_front (codes "arg") (decimal x) refl
local_full x None = full_front (codes "l") (decimal x) refl

abbrev IsFull : Option Name → Type 0
IsFull o = (y : Name) → o ≡ Some y → is_not_empty y ≡ true

full_by : (x : Name) (xs : List Name) (o : Option Name) (nm : Name) → IsFull o → ((q : Option Name) → IsFull q → last_or q (filter is_not_empty xs) ≡ Some nm → is_not_empty nm ≡ true) → (t : Bool) → is_not_empty x ≡ t → last_or o (cond t (x ∷ filter is_not_empty xs) (filter is_not_empty xs)) ≡ Some nm → is_not_empty nm ≡ true
full_by x xs o nm so rest true is g = rest (Some x) (λ y s. let same : x ≡ y = cc in sym (ap is_not_empty same) ∙ is) g
full_by x xs o nm so rest false is g = rest o so g

kept_full : (xs : List Name) (o : Option Name) (nm : Name) → ((y : Name) → o ≡ Some y → is_not_empty y ≡ true) → last_or o (filter is_not_empty xs) ≡ Some nm → is_not_empty nm ≡ true
kept_full [] o nm so e = so nm e
kept_full (x ∷ xs) o nm so e = full_by x xs o nm so (λ q h g. kept_full xs q nm h g) (is_not_empty x) refl e

-- what a local is called where synthetic names are asked for
local_name_full : (names : List Name) (o : Option Name) (text : Name) → last_name (filter is_not_empty names) ≡ o → is_not_empty text ≡ true → (nm : Name) × (or_else o (Some text) ≡ Some nm) × (is_not_empty nm ≡ true)
local_name_full names None text e full = (text, refl, full)
local_name_full names (Some x) text e full = (x, refl, kept_full names None x (λ y s. absurd (cc)) e)

-- ---- by the flag

abbrev name_with : Bool → Abstract → Subject → Option Name
name_with t m x = or_else (last_name (names_that_count t m x)) (if t then synthetic_name m x else None)

function_again : (own : Option Name) (i : ℕ) (o : Option Body) → ((b : Body) → o ≡ Some b → IsSome own) → or_else own (function_text i o) ≡ own
function_again None i None h = refl
function_again None i (Some b) h = let no : false ≡ true = h b refl in absurd (cc)
function_again (Some x) i o h = refl

some_text : (o : Option Name) (i : ℕ) (b : Body) (p : Option Body) → p ≡ Some b → IsSome (or_else o (function_text i p))
some_text None i b (Some d) e = refl
some_text None i b None e = absurd (cc)
some_text (Some x) i b p e = refl

text_in : (x : ℕ) (b : Body) (p : Option Body) → p ≡ Some b → local_text_in x p ≡ Some (local_text x (place_in b.parameters x))
text_in x b p e = ap (local_text_in x) e

module _ (K : Item → Type 0) (c : Config) (m n : Abstract) (o : OutOf K c m n) where
  abbrev r : Renaming
  r = o.renaming

  module _ (named : AreNamed (name_of c m) K r m n) where
    function_named : (t : Bool) → c.synthetic_names ≡ t → (i : ℕ) → name_with t n (AnItem (Functions, i)) ≡ own_name n (AnItem (Functions, i))
    function_named false is i = or_none (own_name n (AnItem (Functions, i)))
    function_named true is i = function_again (own_name n (AnItem (Functions, i))) i (body_of n i) (λ d at.
        let old = old_body K c m n o i d at in
        let e : own_name n (AnItem (Functions, i)) ≡ name_with true m (AnItem (Functions, old.0)) =
        ap (λ q. own_name n (AnItem (Functions, q))) (sym old.3) ∙ named.items (Functions, old.0) old.2 tt ∙ ap (λ t. name_with t m (AnItem (Functions, old.0))) is in
        subst IsSome (sym e) (some_text (own_name m (AnItem (Functions, old.0))) old.0 old.1 (body_of m old.0) old.4))

    plain_named : (t : Bool) (x : Item) → (x.0 ≡ Functions → ⊥) → name_with t n (AnItem x) ≡ own_name n (AnItem x)
    plain_named false x other = or_none (own_name n (AnItem x))
    plain_named true (Functions, i) other = absurd (other refl)
    plain_named true (Types, i) other = or_none (own_name n (AnItem (Types, i)))
    plain_named true (Tables, i) other = or_none (own_name n (AnItem (Tables, i)))
    plain_named true (Memories, i) other = or_none (own_name n (AnItem (Memories, i)))
    plain_named true (Tags, i) other = or_none (own_name n (AnItem (Tags, i)))
    plain_named true (Globals, i) other = or_none (own_name n (AnItem (Globals, i)))
    plain_named true (Elements, i) other = or_none (own_name n (AnItem (Elements, i)))
    plain_named true (DataSegments, i) other = or_none (own_name n (AnItem (DataSegments, i)))

    pub item_named : (x : Item) → name_of c n (AnItem x) ≡ own_name n (AnItem x)
    item_named (Functions, i) = function_named c.synthetic_names refl i
    item_named (Types, i) = plain_named c.synthetic_names (Types, i) (λ e. absurd (cc))
    item_named (Tables, i) = plain_named c.synthetic_names (Tables, i) (λ e. absurd (cc))
    item_named (Memories, i) = plain_named c.synthetic_names (Memories, i) (λ e. absurd (cc))
    item_named (Tags, i) = plain_named c.synthetic_names (Tags, i) (λ e. absurd (cc))
    item_named (Globals, i) = plain_named c.synthetic_names (Globals, i) (λ e. absurd (cc))
    item_named (Elements, i) = plain_named c.synthetic_names (Elements, i) (λ e. absurd (cc))
    item_named (DataSegments, i) = plain_named c.synthetic_names (DataSegments, i) (λ e. absurd (cc))

    pub module_named : (t : Bool) → name_with t n TheModule ≡ own_name n TheModule
    module_named true = or_none (own_name n TheModule)
    module_named false = or_none (own_name n TheModule)

    pub local_named : (t : Bool) → c.synthetic_names ≡ t → (g y : ℕ) (d : Body) → body_of n g ≡ Some d → IsUsed d y → name_with t n (ALocal g y) ≡ own_name n (ALocal g y)
    local_named false is g y d at used = or_none (own_name n (ALocal g y))
    local_named true is g y d at used =
        let old = old_body K c m n o g d at in
        let b = old.1 in
        let u = from_map (r.locals old.0) y (used_locals b) (subst (λ l. Contains l y) (used_follow r old.0 b d old.5) used) in
        let e : own_name n (ALocal g y) ≡ name_with true m (ALocal old.0 u.0) =
        ap (λ q. own_name n (ALocal q y)) (sym old.3) ∙ ap (λ q. own_name n (ALocal (r.numbers Functions old.0) q)) (sym u.2)
        ∙ named.locals old.0 b u.0 old.2 old.4 u.1 ∙ ap (λ t. name_with t m (ALocal old.0 u.0)) is in
        let text = local_text u.0 (place_in b.parameters u.0) in
        let named_so = local_name_full (m.named (ALocal old.0 u.0)) (last_name (filter is_not_empty (m.named (ALocal old.0 u.0)))) text refl (local_full u.0 (place_in b.parameters u.0)) in
        let own : own_name n (ALocal g y) ≡ Some named_so.0 =
        e ∙ ap (or_else (last_name (filter is_not_empty (m.named (ALocal old.0 u.0))))) (text_in u.0 b (body_of m old.0) old.4) ∙ named_so.1 in
        or_some (last_name (filter is_not_empty (n.named (ALocal g y)))) (local_text_in y (body_of n g)) named_so.0
        (last_kept (n.named (ALocal g y)) None None named_so.0 named_so.2 (λ h. h) own)
        ∙ sym own
